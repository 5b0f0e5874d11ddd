-- A set of all that some numbers lead to, as more becomes known and as numbers are renewed.
use Rattle.std.proofs.Common.{◌≡◌, ◌≢◌, ◌⊎◌, ◌↔◌, ℕ, Bool, true, false, List, [], ◌∷◌, Option, Some, None, is_some, not, All, get_or, refl, sym, ap, subst, ◌∙◌, inl, inr}
use Rattle.std.specs.List.{Contains}
use Rattle.std.specs.Option.{unwrap_or}
use Rattle.std.specs.Prelude.{filter}
use Rattle.std.proofs.lemmas.Bool.{not-true}
use Rattle.std.proofs.lemmas.List.Elements.{All-filter, All-same, All-weaker, filter_passes}
use Rattle.number_links.specs.Numbers.{has}
use Rattle.number_links.specs.Kept.{IsAllLedTo, IsKept}
use Rattle.number_links.specs.Known.{Known, RestsOrIsKnown, known, linked}
use Rattle.number_links.specs.declared.kept.Kept.{Kept}
use Rattle.number_links.specs.Reach.{IsReached, Root, Next}
use Rattle.number_links.proofs.SeeingLemmas.{none_there}
use Rattle.number_links.proofs.WalkLemmas.{Walks}

-- whatever is allowed, all that is reached is in the set
pub all_led : (links : Known) (roots : List ℕ) (among allowed : ℕ → Bool) → IsAllLedTo links roots among → (n : ℕ) → IsReached (linked links) allowed roots n → among n ≡ true
all_led links roots among allowed is _ (Root n root there) = is.rooted n root
all_led links roots among allowed is _ (Next from n reached linked_to there) = is.closed from n (all_led links roots among allowed is from reached) linked_to

-- if all of the set is allowed, all of it is reached through what is allowed
pub led_all : (links : Known) (roots : List ℕ) (among allowed : ℕ → Bool) → IsAllLedTo links roots among → ((n : ℕ) → among n ≡ true → allowed n ≡ true) → (n : ℕ) → IsReached (linked links) (λ _. true) roots n → IsReached (linked links) allowed roots n
led_all links roots among allowed is within _ (Root n root there) = Root n root (within n (is.rooted n root))
led_all links roots among allowed is within _ (Next from n reached linked_to there) =
    Next from n (led_all links roots among allowed is within from reached) linked_to (within n (is.closed from n (all_led links roots among (λ _. true) is from reached) linked_to))

-- what is known of its numbers stays: it is the set still
module _ (links now : Known) (roots : List ℕ) (among : ℕ → Bool) (is : IsAllLedTo links roots among) (stays : (q : ℕ) → among q ≡ true → known now q ≡ known links q) where
  same_linked : (q : ℕ) → among q ≡ true → linked now q ≡ linked links q
  same_linked q there = ap (λ o. unwrap_or o []) (stays q there)

  still_led : (n : ℕ) → IsReached (linked links) (λ _. true) roots n → IsReached (linked now) (λ _. true) roots n
  still_led _ (Root n root there) = Root n root there
  still_led _ (Next from n reached linked_to there) =
      Next from n (still_led from reached) (subst (λ ms. Contains ms n) (sym (same_linked from (all_led links roots among (λ _. true) is from reached))) linked_to) there

  pub kept_still : IsAllLedTo now roots among
  kept_still = record {
    rooted = is.rooted;
    closed = λ from n there linked_to. is.closed from n there (subst (λ ms. Contains ms n) (same_linked from there) linked_to);
    only = λ n there. still_led n (is.only n there);
    known = λ n there. ap is_some (stays n there) ∙ is.known n there;
  }

-- more is known
pub kept_more : (links now : Known) (roots : List ℕ) (among : ℕ → Bool) → ((q : ℕ) → is_some (known links q) ≡ true → known now q ≡ known links q) → IsAllLedTo links roots among → IsAllLedTo now roots among
kept_more links now roots among stays is = kept_still links now roots among is (λ q there. stays q (is.known q there))

-- a number that is not in it is renewed
pub kept_renewed : (links now : Known) (roots : List ℕ) (among : ℕ → Bool) (n : ℕ) → ((q : ℕ) (ms : List ℕ) → known links q ≡ Some ms → q ≢ n → (Contains ms n → ⊥) → known now q ≡ Some ms)
    → among n ≡ false → IsAllLedTo links roots among → IsAllLedTo now roots among
kept_renewed links now roots among n stays out is = kept_still links now roots among is (λ q there. by q there (known links q) refl (is.known q there))
  where
    no : among n ≡ true → ⊥
    no there = (let differs : true ≡ false = sym there ∙ out in cc)

    by : (q : ℕ) → among q ≡ true → (o : Option (List ℕ)) → known links q ≡ o → is_some o ≡ true → known now q ≡ known links q
    by q there None is_none wrong = absurd (let differs : ⊥ = cc in differs)
    by q there (Some ms) is_some_ms _ =
        stays q ms is_some_ms (λ same. no (subst (λ m. among m ≡ true) same there)) (λ leads. no (is.closed q n there (subst (λ xs. Contains xs n) (sym (ap (λ o. unwrap_or o []) is_some_ms)) leads))) ∙ sym is_some_ms

-- what was learned leads to nothing: links lead where they led
pub linked_as_before : (links now : Known) → ((q : ℕ) → is_some (known links q) ≡ true → known now q ≡ known links q)
    → ((q : ℕ) (ms : List ℕ) → known now q ≡ Some ms → (known links q ≡ Some ms) ⊎ (ms ≡ [])) → (q : ℕ) → linked now q ≡ linked links q
linked_as_before links now stays only q = by (known links q) refl (known now q) refl
  where
    rest : (ms : List ℕ) → known links q ≡ None → (known links q ≡ Some ms) ⊎ (ms ≡ []) → ms ≡ []
    rest ms none (inl before) = absurd (let differs : ⊥ = cc in differs)
    rest ms none (inr is) = is

    by : (o : Option (List ℕ)) → known links q ≡ o → (p : Option (List ℕ)) → known now q ≡ p → linked now q ≡ linked links q
    by (Some ms) is p is_now = ap (λ o. unwrap_or o []) (stays q (ap is_some is))
    by None is None is_now = ap (λ o. unwrap_or o []) (is_now ∙ sym is)
    by None is (Some ms) is_now = ap (λ o. unwrap_or o []) is_now ∙ rest ms is (only q ms is_now) ∙ sym (ap (λ o. unwrap_or o []) is)

-- what is reached through what is allowed is reached
pub reached_anyhow : (next now : ℕ → List ℕ) (allowed : ℕ → Bool) (roots : List ℕ) → ((q : ℕ) → now q ≡ next q) → (n : ℕ) → IsReached next allowed roots n → IsReached now (λ _. true) roots n
reached_anyhow next now allowed roots same _ (Root n root there) = Root n root refl
reached_anyhow next now allowed roots same _ (Next from n reached linked_to there) = Next from n (reached_anyhow next now allowed roots same from reached) (subst (λ ms. Contains ms n) (sym (same from)) linked_to) refl

-- links that lead to the same reach the same
pub reached_same : (next now : ℕ → List ℕ) (allowed : ℕ → Bool) (roots : List ℕ) → ((q : ℕ) → now q ≡ next q) → (n : ℕ) → IsReached next allowed roots n → IsReached now allowed roots n
reached_same next now allowed roots same _ (Root n root there) = Root n root there
reached_same next now allowed roots same _ (Next from n reached linked_to there) = Next from n (reached_same next now allowed roots same from reached) (subst (λ ms. Contains ms n) (sym (same from)) linked_to) there

-- ---- all that are kept
pub all_more : (links now : Known) → ((q : ℕ) → is_some (known links q) ≡ true → known now q ≡ known links q) → (ks : List Kept) → All (IsKept links) ks → All (IsKept now) ks
all_more links now stays ks are = All-weaker (IsKept links) (IsKept now) (λ one is. kept_more links now (one.root ∷ []) (has one.reached) stays is) ks are

pub all_renewed : (links now : Known) (n : ℕ) → ((q : ℕ) (ms : List ℕ) → known links q ≡ Some ms → q ≢ n → (Contains ms n → ⊥) → known now q ≡ Some ms)
    → (ks : List Kept) → All (λ one. IsKept links one × (has one.reached n ≡ false)) ks → All (IsKept now) ks
all_renewed links now n stays ks are =
    All-weaker (λ one. IsKept links one × (has one.reached n ≡ false)) (IsKept now) (λ one is. kept_renewed links now (one.root ∷ []) (has one.reached) n stays is.1 is.0) ks are

-- those that pass a test
pub all_without : (links : Known) (n : ℕ) (ks now : List Kept) → now ≡ filter (λ one. not (has one.reached n)) ks → All (IsKept links) ks → All (λ one. IsKept links one × (has one.reached n ≡ false)) now
all_without links n ks now is are =
    let test : Kept → Bool = (λ one. not (has one.reached n)) in
    let kept = All-filter test (IsKept links) ks are in
    let passes = filter_passes test ks in
    All-same (λ one. IsKept links one × (has one.reached n ≡ false)) now (filter test ks) is (λ k d within. (kept k d within, not-true (has (get_or (filter test ks) k d).reached n) (passes k d within)))

-- what a walk learned so far is of numbers that rest and are allowed
abbrev pub Learns : Known → Known → (ℕ → Bool) → (ℕ → Bool) → Type 0
Learns links now allowed rests = (q : ℕ) (ms : List ℕ) → known now q ≡ Some ms → (known links q ≡ Some ms) ⊎ ((ms ≡ []) × (allowed q ≡ true) × (rests q ≡ true))

pub learns_more : (links mid now : Known) (allowed rests : ℕ → Bool) → Learns links mid allowed rests → Learns mid now allowed rests → Learns links now allowed rests
learns_more links mid now allowed rests before step q ms is = elim (step q ms is) [
  | inl long ↦ before q ms long
  | inr learned ↦ inr learned
]

pub learns_nowhere : (links now : Known) (allowed rests : ℕ → Bool) → Learns links now allowed rests → (q : ℕ) (ms : List ℕ) → known now q ≡ Some ms → (known links q ≡ Some ms) ⊎ (ms ≡ [])
learns_nowhere links now allowed rests only q ms is = elim (only q ms is) [
  | inl before ↦ inl before
  | inr learned ↦ inr learned.0
]

-- what a walk found that learned only of numbers that lead nowhere
pub kept_gathered : (links now : Known) (roots : List ℕ) (seen : ℕ → Bool) (waits : List ℕ) → waits ≡ [] → ((q : ℕ) → is_some (known links q) ≡ true → known now q ≡ known links q)
    → ((q : ℕ) (ms : List ℕ) → known now q ≡ Some ms → (known links q ≡ Some ms) ⊎ (ms ≡ [])) → Walks (λ n. is_some (known now n) ≡ true) (linked links) (λ _. true) roots seen waits
    → IsAllLedTo now roots seen
kept_gathered links now roots seen waits none stays only walks = record {
  rooted = λ n is. walks.begun n is refl;
  closed = λ from n there leads. (done from (walks.closed from there)).1 n (subst (λ ms. Contains ms n) (same from) leads) refl;
  only = λ n there. reached_anyhow (linked links) (linked now) (λ _. true) roots same n (walks.reached n there);
  known = λ n there. (done n (walks.closed n there)).0;
}
  where
    same : (q : ℕ) → linked now q ≡ linked links q
    same = linked_as_before links now stays only

    done : (from : ℕ) → Contains waits from ⊎ ((is_some (known now from) ≡ true) × ((n : ℕ) → Contains (linked links from) n → true ≡ true → seen n ≡ true))
        → (is_some (known now from) ≡ true) × ((n : ℕ) → Contains (linked links from) n → true ≡ true → seen n ≡ true)
    done from (inl waiting) = absurd (none_there from (subst (λ w. Contains w from) none waiting))
    done from (inr is) = is

-- a set that was gathered, and is allowed, is what was reached before anything was learned
pub gathered_reached : (links now : Known) (roots : List ℕ) (among allowed rests : ℕ → Bool) → ((q : ℕ) → is_some (known links q) ≡ true → known now q ≡ known links q) → Learns links now allowed rests
    → IsAllLedTo now roots among → ((n : ℕ) → among n ≡ true → allowed n ≡ true) → (n : ℕ) → (among n ≡ true) ↔ IsReached (linked links) allowed roots n
gathered_reached links now roots among allowed rests stays only is within n = (
  λ there. reached_same (linked now) (linked links) allowed roots (λ q. sym (same q)) n (led_all now roots among allowed is within n (is.only n there)),
  λ reached. all_led now roots among allowed is n (reached_same (linked links) (linked now) allowed roots same n reached),
)
  where
    same : (q : ℕ) → linked now q ≡ linked links q
    same = linked_as_before links now stays (learns_nowhere links now allowed rests only)

-- each number of a set that was gathered rests, or its links were known before
pub gathered_known : (links now : Known) (roots : List ℕ) (among allowed rests : ℕ → Bool) → Learns links now allowed rests → IsAllLedTo now roots among → (n : ℕ) → among n ≡ true → RestsOrIsKnown links rests n
gathered_known links now roots among allowed rests only is n there = by (known now n) refl (is.known n there)
  where
    at : (ms : List ℕ) → (known links n ≡ Some ms) ⊎ ((ms ≡ []) × (allowed n ≡ true) × (rests n ≡ true)) → RestsOrIsKnown links rests n
    at ms (inl before) = inr (ap is_some before)
    at ms (inr learned) = inl learned.2

    by : (o : Option (List ℕ)) → known now n ≡ o → is_some o ≡ true → RestsOrIsKnown links rests n
    by None is_none wrong = absurd (let differs : ⊥ = cc in differs)
    by (Some ms) is_now _ = at ms (only n ms is_now)
