-- A walk: what is seen is reached, and all that is reached is seen once nothing waits.
use Rattle.std.proofs.Common.{◌≡◌, ℕ, length, refl, arith, Bool, true, false, ◌||◌, List, [], ◌∷◌, ◌++◌, sym, ap, subst, ◌∙◌, inl, inr, ◌⊎◌}
use Rattle.std.specs.List.{Contains}
use Rattle.std.proofs.lemmas.List.Elements.{Contains-append_left, Contains-append_right, Contains-append_cases}
use Rattle.std.proofs.lemmas.Bool.{or_cases}
use Rattle.number_links.specs.Reach.{IsReached, Root, Next}
use Rattle.number_links.specs.Seeing.{Sees}
use Rattle.number_links.proofs.SeeingLemmas.{none_there, or_true, sole, sole_there}

-- between two steps: what is seen is reached, and waits, or was found clear and leads to nothing that is not seen
pub record Walks (clear : ℕ → Type 0) (next : ℕ → List ℕ) (allowed : ℕ → Bool) (roots : List ℕ) (seen : ℕ → Bool) (waits : List ℕ) : Type 0 where
  pub begun : (n : ℕ) → Contains roots n → allowed n ≡ true → seen n ≡ true
  pub noted : (n : ℕ) → Contains waits n → seen n ≡ true
  pub reached : (n : ℕ) → seen n ≡ true → IsReached next allowed roots n
  pub closed : (from : ℕ) → seen from ≡ true → Contains waits from ⊎ (clear from × ((n : ℕ) → Contains (next from) n → allowed n ≡ true → seen n ≡ true))

-- the roots were seen to, and nothing before
pub walks_begin : (bound : ℕ) (clear : ℕ → Type 0) (next : ℕ → List ℕ) (allowed : ℕ → Bool) (roots : List ℕ) (seen : ℕ → Bool) (waits : List ℕ) (now_seen : ℕ → Bool) (now_waits : List ℕ)
    → ((n : ℕ) → seen n ≡ false) → waits ≡ [] → Sees bound allowed roots seen waits now_seen now_waits → Walks clear next allowed roots now_seen now_waits
walks_begin bound clear next allowed roots seen waits now_seen now_waits none_seen none_waits sees = record {
  begun = sees.all;
  noted = λ n is. elim (sees.noted n is) [
    | inl before ↦ absurd (none_there n (subst (λ w. Contains w n) none_waits before))
    | inr seen_now ↦ seen_now
  ];
  reached = λ n is. elim (sees.only n is) [
    | inl before ↦ absurd (none n before)
    | inr found ↦ Root n found.0 found.1
  ];
  closed = λ from is. elim (sees.new from is) [
    | inl before ↦ absurd (none from before)
    | inr waiting ↦ inl waiting
  ];
}
  where
    none : (n : ℕ) → seen n ≡ true → ⊥
    none n is = (let no : true ≡ false = sym is ∙ none_seen n in cc)

-- what was found clear is clear by another test
pub walks_clear : (clear now_clear : ℕ → Type 0) (next : ℕ → List ℕ) (allowed : ℕ → Bool) (roots : List ℕ) (seen : ℕ → Bool) (waits : List ℕ)
    → ((n : ℕ) → clear n → now_clear n) → Walks clear next allowed roots seen waits → Walks now_clear next allowed roots seen waits
walks_clear clear now_clear next allowed roots seen waits more walks = record {
  begun = walks.begun;
  noted = walks.noted;
  reached = walks.reached;
  closed = λ from is. elim (walks.closed from is) [
    | inl waiting ↦ inl waiting
    | inr done ↦ inr (more from done.0, done.1)
  ];
}

-- the last of those that wait was followed
pub walks_on : (bound : ℕ) (clear : ℕ → Type 0) (next : ℕ → List ℕ) (allowed : ℕ → Bool) (roots : List ℕ) (seen : ℕ → Bool) (waits rest : List ℕ) (last : ℕ) (now_seen : ℕ → Bool) (now_waits : List ℕ)
    → waits ≡ rest ++ last ∷ [] → clear last → Walks clear next allowed roots seen waits → Sees bound allowed (next last) seen rest now_seen now_waits → Walks clear next allowed roots now_seen now_waits
walks_on bound clear next allowed roots seen waits rest last now_seen now_waits popped is_clear walks sees = record {
  begun = λ n root there. sees.kept n (walks.begun n root there);
  noted = λ n is. elim (sees.noted n is) [
    | inl before ↦ sees.kept n (walks.noted n (back n (Contains-append_left rest (last ∷ []) n before)))
    | inr seen_now ↦ seen_now
  ];
  reached = λ n is. elim (sees.only n is) [
    | inl before ↦ walks.reached n before
    | inr found ↦ Next last n (walks.reached last (walks.noted last (back last (Contains-append_right rest (last ∷ []) last (sole last))))) found.0 found.1
  ];
  closed = λ from is. elim (sees.new from is) [
    | inl before ↦ still from (walks.closed from before)
    | inr waiting ↦ inl waiting
  ];
}
  where
    back : (n : ℕ) → Contains (rest ++ last ∷ []) n → Contains waits n
    back n is = subst (λ w. Contains w n) (sym popped) is

    here : (from : ℕ) → Contains rest from ⊎ Contains (last ∷ []) from → Contains now_waits from ⊎ (clear from × ((n : ℕ) → Contains (next from) n → allowed n ≡ true → now_seen n ≡ true))
    here from (inl front) = inl (sees.stays from front)
    here from (inr end) = inr (subst clear (sole_there last from end) is_clear, λ n linked there. sees.all n (subst (λ m. Contains (next m) n) (sym (sole_there last from end)) linked) there)

    still : (from : ℕ) → Contains waits from ⊎ (clear from × ((n : ℕ) → Contains (next from) n → allowed n ≡ true → seen n ≡ true)) → Contains now_waits from ⊎ (clear from × ((n : ℕ) → Contains (next from) n → allowed n ≡ true → now_seen n ≡ true))
    still from (inl waited) = here from (Contains-append_cases rest (last ∷ []) from (subst (λ w. Contains w from) popped waited))
    still from (inr done) = inr (done.0, λ n linked there. sees.kept n (done.1 n linked there))

-- nothing waits: all that is reached is seen
pub walks_end : (clear : ℕ → Type 0) (next : ℕ → List ℕ) (allowed : ℕ → Bool) (roots : List ℕ) (seen : ℕ → Bool) (waits : List ℕ) → waits ≡ [] → Walks clear next allowed roots seen waits → (n : ℕ) → IsReached next allowed roots n → seen n ≡ true
walks_end clear next allowed roots seen waits none walks _ (Root n root there) = walks.begun n root there
walks_end clear next allowed roots seen waits none walks _ (Next from n reached linked there) =
    elim (walks.closed from (walks_end clear next allowed roots seen waits none walks from reached)) [
      | inl waiting ↦ absurd (none_there from (subst (λ w. Contains w from) none waiting))
      | inr done ↦ done.1 n linked there
    ]

-- nothing waits where the list of those that wait has no length
pub none_waits : (waits : List ℕ) (len : ℕ) → len ≡ length waits → len ≡ 0 → waits ≡ []
none_waits [] len is none = refl
none_waits (n ∷ ns) len is none = absurd (omega arith)

-- the last of those that wait is seen, and reached
pub last_seen : (clear : ℕ → Type 0) (next : ℕ → List ℕ) (allowed : ℕ → Bool) (roots : List ℕ) (seen : ℕ → Bool) (waits rest : List ℕ) (last : ℕ) → waits ≡ rest ++ last ∷ [] → Walks clear next allowed roots seen waits → seen last ≡ true
last_seen clear next allowed roots seen waits rest last popped walks = walks.noted last (subst (λ w. Contains w last) (sym popped) (Contains-append_right rest (last ∷ []) last (sole last)))

pub last_reached : (clear : ℕ → Type 0) (next : ℕ → List ℕ) (allowed : ℕ → Bool) (roots : List ℕ) (seen : ℕ → Bool) (waits rest : List ℕ) (last : ℕ) → waits ≡ rest ++ last ∷ [] → Walks clear next allowed roots seen waits → IsReached next allowed roots last
last_reached clear next allowed roots seen waits rest last popped walks = walks.reached last (last_seen clear next allowed roots seen waits rest last popped walks)

-- ---- a set is taken whole
-- what is reached from a number that is reached is reached
pub reached_from : (next : ℕ → List ℕ) (allowed : ℕ → Bool) (roots : List ℕ) (root : ℕ) → IsReached next allowed roots root → (n : ℕ) → IsReached next allowed (root ∷ []) n → IsReached next allowed roots n
reached_from next allowed roots root first _ (Root n only there) = subst (IsReached next allowed roots) (sole_there root n only) first
reached_from next allowed roots root first _ (Next from n before leads there) = Next from n (reached_from next allowed roots root first from before) leads there

-- the last of those that wait leads to just these, all of which are clear
pub walks_taken : (clear : ℕ → Type 0) (next : ℕ → List ℕ) (allowed : ℕ → Bool) (roots : List ℕ) (seen : ℕ → Bool) (waits rest : List ℕ) (last : ℕ) (set now_seen : ℕ → Bool)
    → waits ≡ rest ++ last ∷ [] → set last ≡ true → ((n : ℕ) → set n ≡ true → clear n) → ((from n : ℕ) → set from ≡ true → Contains (next from) n → set n ≡ true)
    → ((n : ℕ) → set n ≡ true → IsReached next allowed (last ∷ []) n) → Walks clear next allowed roots seen waits → ((n : ℕ) → now_seen n ≡ (seen n || set n)) → Walks clear next allowed roots now_seen rest
walks_taken clear next allowed roots seen waits rest last set now_seen popped itself clears closed reach walks takes = record {
  begun = λ n root there. keep n (walks.begun n root there);
  noted = λ n is. keep n (walks.noted n (back n (Contains-append_left rest (last ∷ []) n is)));
  reached = λ n is. elim (either n is) [
    | inl before ↦ walks.reached n before
    | inr taken ↦ reached_from next allowed roots last (walks.reached last (walks.noted last (back last (Contains-append_right rest (last ∷ []) last (sole last))))) n (reach n taken)
  ];
  closed = λ from is. elim (either from is) [
    | inl before ↦ still from (walks.closed from before)
    | inr taken ↦ inr (taken_closed from taken)
  ];
}
  where
    keep : (n : ℕ) → seen n ≡ true → now_seen n ≡ true
    keep n is = takes n ∙ ap (λ b. b || set n) is

    put : (n : ℕ) → set n ≡ true → now_seen n ≡ true
    put n is = takes n ∙ or_true (seen n) (set n) is

    either : (n : ℕ) → now_seen n ≡ true → (seen n ≡ true) ⊎ (set n ≡ true)
    either n is = or_cases (seen n) (set n) (sym (takes n) ∙ is)

    back : (n : ℕ) → Contains (rest ++ last ∷ []) n → Contains waits n
    back n is = subst (λ w. Contains w n) (sym popped) is

    taken_closed : (from : ℕ) → set from ≡ true → clear from × ((n : ℕ) → Contains (next from) n → allowed n ≡ true → now_seen n ≡ true)
    taken_closed from is = (clears from is, λ n leads there. put n (closed from n is leads))

    here : (from : ℕ) → Contains rest from ⊎ Contains (last ∷ []) from → Contains rest from ⊎ (clear from × ((n : ℕ) → Contains (next from) n → allowed n ≡ true → now_seen n ≡ true))
    here from (inl front) = inl front
    here from (inr end) = inr (taken_closed from (subst (λ m. set m ≡ true) (sole_there last from end) itself))

    still : (from : ℕ) → Contains waits from ⊎ (clear from × ((n : ℕ) → Contains (next from) n → allowed n ≡ true → seen n ≡ true)) → Contains rest from ⊎ (clear from × ((n : ℕ) → Contains (next from) n → allowed n ≡ true → now_seen n ≡ true))
    still from (inl waited) = here from (Contains-append_cases rest (last ∷ []) from (subst (λ w. Contains w from) popped waited))
    still from (inr done) = inr (done.0, λ n linked there. keep n (done.1 n linked there))
