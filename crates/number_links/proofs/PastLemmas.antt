-- What is reached past numbers that are hidden.
use Rattle.std.proofs.Common.{◌≡◌, ◌&&◌, ℕ, Bool, true, false, not, List, arith, ◌⊎◌, inl, inr, refl, sym, ap, ◌∙◌}
use Rattle.std.specs.List.{Contains}
use Rattle.std.proofs.lemmas.Bool.{and_from, and_parts, cases_Bool, false_from_ne_true, not-true}
use Rattle.number_links.specs.Reach.{IsReached, Root, Next, past}
use Rattle.number_links.specs.Seeing.{Sees}
use Rattle.number_links.proofs.CountLemmas.{count_no_more}

-- what these lead to is among them, where it is allowed
abbrev pub IsClosed : (ℕ → List ℕ) → (ℕ → Bool) → (ℕ → Bool) → Type 0
IsClosed next allowed among = (from n : ℕ) → among from ≡ true → Contains (next from) n → allowed n ≡ true → among n ≡ true

-- what is reached is allowed
pub reached_allowed : (next : ℕ → List ℕ) (allowed : ℕ → Bool) (roots : List ℕ) (n : ℕ) → IsReached next allowed roots n → allowed n ≡ true
reached_allowed next allowed roots _ (Root n root there) = there
reached_allowed next allowed roots _ (Next from n reached linked there) = there

-- where more is allowed, no less is reached
pub reached_more : (next : ℕ → List ℕ) (allowed more : ℕ → Bool) (roots : List ℕ) → ((n : ℕ) → allowed n ≡ true → more n ≡ true) → (n : ℕ) → IsReached next allowed roots n → IsReached next more roots n
reached_more next allowed more roots all _ (Root n root there) = Root n root (all n there)
reached_more next allowed more roots all _ (Next from n reached linked there) = Next from n (reached_more next allowed more roots all from reached) linked (all n there)

-- past a closed set just that is reached which is reached at all and is not in the set
pub past_reached : (next : ℕ → List ℕ) (allowed hidden : ℕ → Bool) (roots : List ℕ) (n : ℕ) → IsReached next (past allowed hidden) roots n → IsReached next allowed roots n × (hidden n ≡ false)
past_reached next allowed hidden roots n reached = (
  reached_more next (past allowed hidden) allowed roots (λ m there. (and_parts (not (hidden m)) (allowed m) there).1) n reached,
  not-true (hidden n) (and_parts (not (hidden n)) (allowed n) (reached_allowed next (past allowed hidden) roots n reached)).0,
)

pub reached_past : (next : ℕ → List ℕ) (allowed hidden : ℕ → Bool) (roots : List ℕ) → IsClosed next allowed hidden → (n : ℕ) → IsReached next allowed roots n → hidden n ≡ false → IsReached next (past allowed hidden) roots n
reached_past next allowed hidden roots closed _ (Root n root there) out = Root n root (and_from (not (hidden n)) (allowed n) (ap not out) there)
reached_past next allowed hidden roots closed _ (Next from n reached linked there) out = by (hidden from) refl (λ open_from. reached_past next allowed hidden roots closed from reached open_from)
  where
    by : (b : Bool) → hidden from ≡ b → (hidden from ≡ false → IsReached next (past allowed hidden) roots from) → IsReached next (past allowed hidden) roots n
    by true is before = (let no : true ≡ false = sym (closed from n is linked there) ∙ out in absurd (cc))
    by false is before = Next from n (before is) linked (and_from (not (hidden n)) (allowed n) (ap not out) there)

-- where nothing is hidden, all that is allowed is reached
pub none_hidden : (next : ℕ → List ℕ) (allowed hidden : ℕ → Bool) (roots : List ℕ) → ((n : ℕ) → hidden n ≡ false) → (n : ℕ) → IsReached next allowed roots n → IsReached next (past allowed hidden) roots n
none_hidden next allowed hidden roots none n reached =
    reached_more next allowed (past allowed hidden) roots (λ m there. and_from (not (hidden m)) (allowed m) (ap not (none m)) there) n reached

-- what is reached from the excluded numbers
pub record IsBeyond (next : ℕ → List ℕ) (allowed : ℕ → Bool) (excluded : List ℕ) (beyond : ℕ → Bool) : Type 0 where
  pub only : (n : ℕ) → beyond n ≡ true → IsReached next allowed excluded n
  pub all : (n : ℕ) → IsReached next allowed excluded n → beyond n ≡ true

-- a walk past nothing finds it
pub is_beyond : (next : ℕ → List ℕ) (allowed hidden : ℕ → Bool) (excluded : List ℕ) (beyond : ℕ → Bool) → ((n : ℕ) → hidden n ≡ false) → ((n : ℕ) → beyond n ≡ true → IsReached next (past allowed hidden) excluded n)
    → ((n : ℕ) → IsReached next (past allowed hidden) excluded n → beyond n ≡ true) → IsBeyond next allowed excluded beyond
is_beyond next allowed hidden excluded beyond none only all = record {
  only = λ n is. (past_reached next allowed hidden excluded n (only n is)).0;
  all = λ n reached. all n (none_hidden next allowed hidden excluded none n reached);
}

-- past it what is reached is reached from none of the excluded numbers
pub between_only : (next : ℕ → List ℕ) (allowed beyond : ℕ → Bool) (wanted excluded : List ℕ) → IsBeyond next allowed excluded beyond → (n : ℕ) → IsReached next (past allowed beyond) wanted n
    → IsReached next allowed wanted n × (IsReached next allowed excluded n → ⊥)
between_only next allowed beyond wanted excluded is n reached =
    let parts = past_reached next allowed beyond wanted n reached in (
      parts.0,
      λ out. (let no : true ≡ false = sym (is.all n out) ∙ parts.1 in cc),
    )

-- and all of that is
pub between_all : (next : ℕ → List ℕ) (allowed beyond : ℕ → Bool) (wanted excluded : List ℕ) → IsBeyond next allowed excluded beyond → (n : ℕ) → IsReached next allowed wanted n → (IsReached next allowed excluded n → ⊥)
    → IsReached next (past allowed beyond) wanted n
between_all next allowed beyond wanted excluded is n reached apart =
    reached_past next allowed beyond wanted (λ from m among linked there. is.all m (Next from m (is.only from among) linked there)) n reached (false_from_ne_true (beyond n) (λ out. apart (is.only n out)))

-- what is reached is beyond, or reached past it
pub in_either : (next : ℕ → List ℕ) (allowed beyond : ℕ → Bool) (wanted excluded : List ℕ) → IsBeyond next allowed excluded beyond → (n : ℕ) → IsReached next allowed wanted n ⊎ IsReached next allowed excluded n
    → (beyond n ≡ true) ⊎ IsReached next (past allowed beyond) wanted n
in_either next allowed beyond wanted excluded is n (inr out) = inl (is.all n out)
in_either next allowed beyond wanted excluded is n (inl reached) = elim (cases_Bool (beyond n)) [
  | inl out ↦ inl out
  | inr apart ↦ inr (between_all next allowed beyond wanted excluded is n reached (λ out. (let no : true ≡ false = sym (is.all n out) ∙ apart in cc)))
]

-- where nothing is hidden, numbers are seen to as what is allowed says alone
pub sees_open : (bound : ℕ) (allowed hidden : ℕ → Bool) (ns : List ℕ) (seen : ℕ → Bool) (waits : List ℕ) (now_seen : ℕ → Bool) (now_waits : List ℕ) → ((n : ℕ) → hidden n ≡ false)
    → Sees bound (past allowed hidden) ns seen waits now_seen now_waits → Sees bound allowed ns seen waits now_seen now_waits
sees_open bound allowed hidden ns seen waits now_seen now_waits none sees = record {
  kept = sees.kept;
  stays = sees.stays;
  all = λ n among there. sees.all n among (opened n there);
  only = λ n is. elim (sees.only n is) [
    | inl before ↦ inl before
    | inr found ↦ inr (found.0, (and_parts (not (hidden n)) (allowed n) found.1).1)
  ];
  new = sees.new;
  noted = sees.noted;
  less =
      (let fewer = count_no_more bound (λ n. past allowed hidden n && not (now_seen n)) (λ n. allowed n && not (now_seen n)) (λ n is. and_from (past allowed hidden n) (not (now_seen n)) (opened n (and_parts (allowed n) (not (now_seen n)) is).0) (and_parts (allowed n) (not (now_seen n)) is).1) in
      let more = count_no_more bound (λ n. allowed n && not (seen n)) (λ n. past allowed hidden n && not (seen n)) (λ n is. and_from (allowed n) (not (seen n)) (and_parts (not (hidden n)) (allowed n) (and_parts (past allowed hidden n) (not (seen n)) is).0).1 (and_parts (past allowed hidden n) (not (seen n)) is).1) in
      let less = sees.less in
      omega arith);
}
  where
    opened : (n : ℕ) → allowed n ≡ true → past allowed hidden n ≡ true
    opened n there = and_from (not (hidden n)) (allowed n) (ap not (none n)) there
