-- A walk: what is seen is reached, and all that is reached is seen once nothing waits.
use Rattle.std.proofs.Common.{◌≡◌, ℕ, ◌-◌, Bool, true, IsTrue, List, [], ◌∷◌, ◌++◌, sym, ap, subst, ◌∙◌, inl, inr, ◌⊎◌, take, append-nil}
use Rattle.std.specs.List.{Contains}
use Rattle.std.specs.FinMap.{FinMap, contains_key}
use Rattle.std.proofs.lemmas.List.Elements.{Contains-append_left, Contains-append_right, Contains-append_cases}
use Rattle.git_name.specs.Name.{name_cmp}
use Rattle.fork_reach.specs.Reach.{IsReached, Root, Next, is_reached}
use Rattle.fork_reach.specs.Seeing.{Sees}
use Rattle.fork_reach.proofs.NameLemmas.{same_tests}
use Rattle.fork_reach.proofs.ReachLemmas.{led_to_reached, reached_led_to}
use Rattle.fork_reach.proofs.SeeingLemmas.{none_there, sole, sole_there}

-- between two steps: what is seen is reached, and waits or leads to nothing that is not seen
pub record Walks {X : Type 0} (next : List ℕ → List (List ℕ)) (objects : FinMap name_cmp X) (roots : List (List ℕ)) (honest : Bool) (seen : List ℕ → Bool) (waits : List (List ℕ)) : Type 0 where
  pub begun : (name : List ℕ) → Contains roots name → contains_key objects name ≡ true → seen name ≡ true
  pub noted : (name : List ℕ) → Contains waits name → seen name ≡ true
  pub there : (name : List ℕ) → seen name ≡ true → contains_key objects name ≡ true
  pub reached : IsTrue honest → (name : List ℕ) → seen name ≡ true → IsReached next objects roots name
  pub closed : IsTrue honest → (from : List ℕ) → seen from ≡ true → Contains waits from ⊎ ((name : List ℕ) → Contains (next from) name → contains_key objects name ≡ true → seen name ≡ true)

-- the roots were seen to, and nothing before
pub walks_begin : {X : Type 0} (next : List ℕ → List (List ℕ)) (objects : FinMap name_cmp X) (ends : List ℕ → Bool) (roots : List (List ℕ)) (honest : Bool) (seen : List ℕ → Bool) (waits : List (List ℕ)) (now_seen : List ℕ → Bool) (now_waits : List (List ℕ))
    → (IsTrue honest → (from : List ℕ) → ends from ≡ true → next from ≡ []) → ((name : List ℕ) → seen name ≡ true → ⊥) → waits ≡ [] → Sees objects ends roots seen waits now_seen now_waits → Walks next objects roots honest now_seen now_waits
walks_begin next objects ends roots honest seen waits now_seen now_waits quiet none_seen none_waits sees = record {
  begun = sees.all;
  noted = λ name is. elim (sees.noted name is) [
    | inl before ↦ absurd (none_there name (subst (λ w. Contains w name) none_waits before))
    | inr seen_now ↦ seen_now
  ];
  there = λ name is. elim (sees.only name is) [
    | inl before ↦ absurd (none_seen name before)
    | inr found ↦ found.1
  ];
  reached = λ honest_is name is. elim (sees.only name is) [
    | inl before ↦ absurd (none_seen name before)
    | inr found ↦ Root name found.0 found.1
  ];
  closed = λ honest_is from is. elim (sees.new from is) [
    | inl before ↦ absurd (none_seen from before)
    | inr (inl waiting) ↦ inl waiting
    | inr (inr ended) ↦ inr (λ name linked there. absurd (none_there name (subst (λ ns. Contains ns name) (quiet honest_is from ended) linked)))
  ];
}

walks_past : {X : Type 0} (next : List ℕ → List (List ℕ)) (objects : FinMap name_cmp X) (ends : List ℕ → Bool) (roots : List (List ℕ)) (honest : Bool) (seen : List ℕ → Bool) (rest : List (List ℕ)) (last : List ℕ) (names : List (List ℕ)) (now_seen : List ℕ → Bool) (now_waits : List (List ℕ))
    → (IsTrue honest → (from : List ℕ) → ends from ≡ true → next from ≡ []) → Walks next objects roots honest seen (rest ++ last ∷ []) → (IsTrue honest → names ≡ next last) → Sees objects ends names seen rest now_seen now_waits → Walks next objects roots honest now_seen now_waits
walks_past next objects ends roots honest seen rest last names now_seen now_waits quiet walks right sees = record {
  begun = λ name root there. sees.kept name (walks.begun name root there);
  noted = λ name is. elim (sees.noted name is) [
    | inl before ↦ sees.kept name (walks.noted name (Contains-append_left rest (last ∷ []) name before))
    | inr seen_now ↦ seen_now
  ];
  there = λ name is. elim (sees.only name is) [
    | inl before ↦ walks.there name before
    | inr found ↦ found.1
  ];
  reached = λ honest_is name is. elim (sees.only name is) [
    | inl before ↦ walks.reached honest_is name before
    | inr found ↦ Next last name (walks.reached honest_is last (walks.noted last (Contains-append_right rest (last ∷ []) last (sole last)))) (subst (λ ns. Contains ns name) (right honest_is) found.0) found.1
  ];
  closed = λ honest_is from is. elim (sees.new from is) [
    | inl before ↦ still honest_is from (walks.closed honest_is from before)
    | inr (inl waiting) ↦ inl waiting
    | inr (inr ended) ↦ inr (λ name linked there. absurd (none_there name (subst (λ ns. Contains ns name) (quiet honest_is from ended) linked)))
  ];
}
  where
    here : IsTrue honest → (from : List ℕ) → Contains rest from ⊎ Contains (last ∷ []) from → Contains now_waits from ⊎ ((name : List ℕ) → Contains (next from) name → contains_key objects name ≡ true → now_seen name ≡ true)
    here honest_is from (inl front) = inl (sees.stays from front)
    here honest_is from (inr end) =
        inr (λ name linked there. sees.all name (subst (λ ns. Contains ns name) (sym (right honest_is)) (subst (λ n. Contains (next n) name) (sym (sole_there last from end)) linked)) there)

    still : IsTrue honest → (from : List ℕ) → Contains (rest ++ last ∷ []) from ⊎ ((name : List ℕ) → Contains (next from) name → contains_key objects name ≡ true → seen name ≡ true)
        → Contains now_waits from ⊎ ((name : List ℕ) → Contains (next from) name → contains_key objects name ≡ true → now_seen name ≡ true)
    still honest_is from (inl waited) = here honest_is from (Contains-append_cases rest (last ∷ []) from waited)
    still honest_is from (inr done) = inr (λ name linked there. sees.kept name (done name linked there))

-- the last of those that wait was followed
pub walks_on : {X : Type 0} (next : List ℕ → List (List ℕ)) (objects : FinMap name_cmp X) (ends : List ℕ → Bool) (roots : List (List ℕ)) (honest : Bool) (seen : List ℕ → Bool) (waits rest : List (List ℕ)) (last : List ℕ) (names : List (List ℕ)) (now_seen : List ℕ → Bool) (now_waits : List (List ℕ))
    → (IsTrue honest → (from : List ℕ) → ends from ≡ true → next from ≡ []) → waits ≡ rest ++ last ∷ [] → Walks next objects roots honest seen waits → (IsTrue honest → names ≡ next last) → Sees objects ends names seen rest now_seen now_waits → Walks next objects roots honest now_seen now_waits
walks_on next objects ends roots honest seen waits rest last names now_seen now_waits quiet popped walks right sees =
    walks_past next objects ends roots honest seen rest last names now_seen now_waits quiet (subst (λ w. Walks next objects roots honest seen w) popped walks) right sees

walks_moved : {X : Type 0} (next : List ℕ → List (List ℕ)) (objects : FinMap name_cmp X) (roots : List (List ℕ)) (honest : Bool) (seen : List ℕ → Bool) (xs ys : List (List ℕ)) → ((name : List ℕ) → Contains ys name → Contains xs name) → ((name : List ℕ) → Contains xs name → Contains ys name)
    → Walks next objects roots honest seen xs → Walks next objects roots honest seen ys
walks_moved next objects roots honest seen xs ys back there walks = record {
  begun = walks.begun;
  noted = λ name is. walks.noted name (back name is);
  there = walks.there;
  reached = walks.reached;
  closed = λ honest_is from is. elim (walks.closed honest_is from is) [
    | inl waiting ↦ inl (there from waiting)
    | inr done ↦ inr done
  ];
}

-- the first of those that wait was followed
pub walks_first : {X : Type 0} (next : List ℕ → List (List ℕ)) (objects : FinMap name_cmp X) (ends : List ℕ → Bool) (roots : List (List ℕ)) (honest : Bool) (seen : List ℕ → Bool) (first : List ℕ) (rest names : List (List ℕ)) (now_seen : List ℕ → Bool) (now_waits : List (List ℕ))
    → (IsTrue honest → (from : List ℕ) → ends from ≡ true → next from ≡ []) → Walks next objects roots honest seen (first ∷ rest) → (IsTrue honest → names ≡ next first) → Sees objects ends names seen rest now_seen now_waits → Walks next objects roots honest now_seen now_waits
walks_first next objects ends roots honest seen first rest names now_seen now_waits quiet walks right sees =
    walks_past next objects ends roots honest seen rest first names now_seen now_waits quiet (walks_moved next objects roots honest seen (first ∷ rest) (rest ++ first ∷ []) back there walks) right sees
  where
    back : (name : List ℕ) → Contains (rest ++ first ∷ []) name → Contains (first ∷ rest) name
    back name is = elim (Contains-append_cases rest (first ∷ []) name is) [
      | inl behind ↦ Contains-append_right (first ∷ []) rest name behind
      | inr front ↦ Contains-append_left (first ∷ []) rest name front
    ]

    there : (name : List ℕ) → Contains (first ∷ rest) name → Contains (rest ++ first ∷ []) name
    there name is = elim (Contains-append_cases (first ∷ []) rest name is) [
      | inl front ↦ Contains-append_right rest (first ∷ []) name front
      | inr behind ↦ Contains-append_left rest (first ∷ []) name behind
    ]

-- where nothing waits, what is reached is seen
all_seen : {X : Type 0} (next : List ℕ → List (List ℕ)) (objects : FinMap name_cmp X) (roots : List (List ℕ)) (honest : Bool) (seen : List ℕ → Bool) → Walks next objects roots honest seen [] → IsTrue honest → (name : List ℕ) → IsReached next objects roots name → seen name ≡ true
all_seen next objects roots honest seen walks honest_is _ (Root name root there) = walks.begun name root there
all_seen next objects roots honest seen walks honest_is _ (Next from name reached linked there) =
    elim (walks.closed honest_is from (all_seen next objects roots honest seen walks honest_is from reached)) [
      | inl waiting ↦ absurd (none_there from waiting)
      | inr done ↦ done name linked there
    ]

-- nothing was popped, so nothing waits
pub none_waits : (waits now : List (List ℕ)) (count : ℕ) → waits ≡ now ++ [] → now ≡ take (count - 1) waits → count ≡ 0 → waits ≡ []
none_waits waits now count whole front none = whole ∙ append-nil now ∙ front ∙ ap (λ n. take (n - 1) waits) none

-- so what is seen is what is reached
pub walks_end : {X : Type 0} (next : List ℕ → List (List ℕ)) (objects : FinMap name_cmp X) (roots : List (List ℕ)) (honest : Bool) (seen : List ℕ → Bool) (waits : List (List ℕ)) → waits ≡ [] → Walks next objects roots honest seen waits → IsTrue honest → (name : List ℕ) → seen name ≡ is_reached next objects roots name
walks_end next objects roots honest seen waits none walks honest_is name =
    let ended = subst (λ w. Walks next objects roots honest seen w) none walks in
    same_tests (seen name) (is_reached next objects roots name) (λ is. led_to_reached next objects roots name (ended.reached honest_is name is)) (λ is. all_seen next objects roots honest seen ended honest_is name (reached_led_to next objects roots name is))
