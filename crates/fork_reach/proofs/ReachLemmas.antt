-- What a walk reaches: the test and the relation say the same.
use Rattle.std.proofs.Common.{◌≡◌, ℕ, zero, suc, ◌&&◌, ◌||◌, Bool, true, false, List, [], ◌∷◌, length, refl, sym, subst, ◌∙◌, inl, inr, arith}
use Rattle.std.specs.List.{Contains}
use Rattle.std.specs.FinMap.{FinMap, contains_key, keys, len}
use Rattle.std.proofs.lemmas.Bool.{and_parts, and_from, or_cases}
use Rattle.std.proofs.lemmas.List.Folds.{Any-from_list_any}
use Rattle.git_name.specs.Name.{name_cmp}
use Rattle.fork_reach.specs.Reach.{IsReached, Root, Next, is_among, is_reached, leads_within}
use Rattle.fork_reach.proofs.NameLemmas.{among-Contains, among-from_Contains, Contains-keys, any_passes, len_keys, same_tests}
use Rattle.fork_reach.proofs.RisingLemmas.{Rises, Stops, stops_end}

abbrev Names : Type 0
Names = List (List ℕ)

or_first : (a b : Bool) → a ≡ true → a || b ≡ true
or_first true b is = refl
or_first false b is = (let no : ⊥ = cc in absurd no)

or_second : (a b : Bool) → b ≡ true → a || b ≡ true
or_second true b is = refl
or_second false b is = is

-- one more step leads on over objects that are there
abbrev leads_on : {X : Type 0} → (List ℕ → Names) → FinMap name_cmp X → Names → ℕ → List ℕ → List ℕ → Bool
leads_on next objects roots most name from = leads_within next objects roots most from && is_among (next from) name

leads_more : {X : Type 0} (next : List ℕ → Names) (objects : FinMap name_cmp X) (roots : Names) (most : ℕ) (name : List ℕ) → leads_within next objects roots most name ≡ true → leads_within next objects roots (suc most) name ≡ true
leads_more next objects roots most name leads = or_first _ _ leads

leads_next : {X : Type 0} (next : List ℕ → Names) (objects : FinMap name_cmp X) (roots : Names) (most : ℕ) (from name : List ℕ) → leads_within next objects roots most from ≡ true → contains_key objects from ≡ true → Contains (next from) name → contains_key objects name ≡ true
    → leads_within next objects roots (suc most) name ≡ true
leads_next next objects roots most from name leads from_there linked there =
    or_second _ _ (and_from _ _ there (any_passes (leads_on next objects roots most name) (keys objects) from (Contains-keys objects from from_there) (and_from _ _ leads (among-from_Contains (next from) name linked))))

-- what leads on, in the relation
pub leads_reached : {X : Type 0} (next : List ℕ → Names) (objects : FinMap name_cmp X) (roots : Names) (most : ℕ) (name : List ℕ) → leads_within next objects roots most name ≡ true → IsReached next objects roots name
leads_reached next objects roots zero name leads =
    let parts = and_parts (contains_key objects name) (is_among roots name) leads in
    Root name (among-Contains roots name parts.1) parts.0
leads_reached next objects roots (suc most) name leads =
    elim (or_cases (leads_within next objects roots most name) _ leads) [
      | inl before ↦ leads_reached next objects roots most name before
      | inr now ↦
          let parts = and_parts (contains_key objects name) _ now in
          let any = Any-from_list_any (leads_on next objects roots most name) (keys objects) parts.1 in
          let both = and_parts (leads_within next objects roots most any.1) _ any.4 in
          Next any.1 name (leads_reached next objects roots most any.1 both.0) (among-Contains (next any.1) name both.1) parts.0
    ]

leads_there : {X : Type 0} (next : List ℕ → Names) (objects : FinMap name_cmp X) (roots : Names) (most : ℕ) (name : List ℕ) → leads_within next objects roots most name ≡ true → contains_key objects name ≡ true
leads_there next objects roots zero name leads = (and_parts (contains_key objects name) (is_among roots name) leads).0
leads_there next objects roots (suc most) name leads =
    elim (or_cases (leads_within next objects roots most name) _ leads) [
      | inl before ↦ leads_there next objects roots most name before
      | inr now ↦ (and_parts (contains_key objects name) _ now).0
    ]

-- and then no further step does
leads_stop : {X : Type 0} (next : List ℕ → Names) (objects : FinMap name_cmp X) (roots : Names) (most : ℕ) → Stops (leads_within next objects roots) most → Stops (leads_within next objects roots) (suc most)
leads_stop next objects roots most stops name leads =
    elim (or_cases (leads_within next objects roots (suc most) name) _ leads) [
      | inl before ↦ before
      | inr now ↦
          let parts = and_parts (contains_key objects name) _ now in
          let any = Any-from_list_any (leads_on next objects roots (suc most) name) (keys objects) parts.1 in
          let both = and_parts (leads_within next objects roots (suc most) any.1) _ any.4 in
          leads_next next objects roots most any.1 name (stops any.1 both.0) (leads_there next objects roots (suc most) any.1 both.0) (among-Contains (next any.1) name both.1) parts.0
    ]

leads_rise : {X : Type 0} (next : List ℕ → Names) (objects : FinMap name_cmp X) (roots : Names) → Rises (keys objects) (leads_within next objects roots)
leads_rise next objects roots = record {
  kept = λ most name. leads_more next objects roots most name;
  among = λ most name before now. Contains-keys objects name (leads_there next objects roots (suc most) name now);
  stops = λ most. leads_stop next objects roots most;
}

-- so as many steps as there are objects are enough
leads_end : {X : Type 0} (next : List ℕ → Names) (objects : FinMap name_cmp X) (roots : Names) → Stops (leads_within next objects roots) (len objects)
leads_end next objects roots = subst (Stops (leads_within next objects roots)) (len_keys objects) (stops_end (keys objects) (leads_within next objects roots) (leads_rise next objects roots))

leads_zero : {X : Type 0} (next : List ℕ → Names) (objects : FinMap name_cmp X) (roots : Names) (most : ℕ) (name : List ℕ) → leads_within next objects roots zero name ≡ true → leads_within next objects roots most name ≡ true
leads_zero next objects roots zero name leads = leads
leads_zero next objects roots (suc most) name leads = leads_more next objects roots most name (leads_zero next objects roots most name leads)

-- a root that is there is reached
pub root_reached : {X : Type 0} (next : List ℕ → Names) (objects : FinMap name_cmp X) (roots : Names) (name : List ℕ) → Contains roots name → contains_key objects name ≡ true → is_reached next objects roots name ≡ true
unfolding is_reached
root_reached next objects roots name root there = leads_zero next objects roots (len objects) name (and_from _ _ there (among-from_Contains roots name root))

-- what is reached is there
pub reached_there : {X : Type 0} (next : List ℕ → Names) (objects : FinMap name_cmp X) (roots : Names) (name : List ℕ) → is_reached next objects roots name ≡ true → contains_key objects name ≡ true
unfolding is_reached
reached_there next objects roots name reached = leads_there next objects roots (len objects) name reached

-- what a reached name leads to is reached, where it is there
pub next_reached : {X : Type 0} (next : List ℕ → Names) (objects : FinMap name_cmp X) (roots : Names) (from name : List ℕ) → is_reached next objects roots from ≡ true → Contains (next from) name → contains_key objects name ≡ true → is_reached next objects roots name ≡ true
unfolding is_reached
next_reached next objects roots from name reached linked there =
    leads_end next objects roots name (leads_next next objects roots (len objects) from name reached (leads_there next objects roots (len objects) from reached) linked there)

-- what the test finds is reached, as the relation says it
pub reached_led_to : {X : Type 0} (next : List ℕ → Names) (objects : FinMap name_cmp X) (roots : Names) (name : List ℕ) → is_reached next objects roots name ≡ true → IsReached next objects roots name
unfolding is_reached
reached_led_to next objects roots name reached = leads_reached next objects roots (len objects) name reached

-- and nothing else is
pub led_to_reached : {X : Type 0} (next : List ℕ → Names) (objects : FinMap name_cmp X) (roots : Names) (name : List ℕ) → IsReached next objects roots name → is_reached next objects roots name ≡ true
led_to_reached next objects roots _ (Root name root there) = root_reached next objects roots name root there
led_to_reached next objects roots _ (Next from name reached linked there) = next_reached next objects roots from name (led_to_reached next objects roots from reached) linked there

-- what is reached depends on which names are there, and on nothing that stands under them
pub reached_where : {X Y : Type 0} (next : List ℕ → Names) (objects : FinMap name_cmp X) (others : FinMap name_cmp Y) (roots : Names) → ((name : List ℕ) → contains_key objects name ≡ true → contains_key others name ≡ true) → (name : List ℕ) → IsReached next objects roots name → IsReached next others roots name
reached_where next objects others roots there _ (Root name root is) = Root name root (there name is)
reached_where next objects others roots there _ (Next from name reached linked is) = Next from name (reached_where next objects others roots there from reached) linked (there name is)

pub reached_alike : {X Y : Type 0} (next : List ℕ → Names) (objects : FinMap name_cmp X) (others : FinMap name_cmp Y) (roots : Names) → ((name : List ℕ) → contains_key objects name ≡ contains_key others name) → (name : List ℕ) → is_reached next objects roots name ≡ is_reached next others roots name
reached_alike next objects others roots alike name =
    same_tests (is_reached next objects roots name) (is_reached next others roots name)
    (λ is. led_to_reached next others roots name (reached_where next objects others roots (λ n there. sym (alike n) ∙ there) name (reached_led_to next objects roots name is)))
    (λ is. led_to_reached next objects roots name (reached_where next others objects roots (λ n there. alike n ∙ there) name (reached_led_to next others roots name is)))

none_among : (names : Names) (name : List ℕ) → length names ≡ 0 → is_among names name ≡ true → ⊥
none_among [] name none among = (let no : ⊥ = cc in no)
none_among (x ∷ xs) name none among = absurd (omega (arith, none))

none_led_to : {X : Type 0} (next : List ℕ → Names) (objects : FinMap name_cmp X) (roots : Names) → length roots ≡ 0 → (name : List ℕ) → IsReached next objects roots name → ⊥
none_led_to next objects roots none _ (Root name root there) = none_among roots name none (among-from_Contains roots name root)
none_led_to next objects roots none _ (Next from name reached linked there) = none_led_to next objects roots none from reached

refuted : (b : Bool) → (b ≡ true → ⊥) → b ≡ false
refuted true never = absurd (never refl)
refuted false never = refl

-- from no roots nothing is reached
pub none_reached : {X : Type 0} (next : List ℕ → Names) (objects : FinMap name_cmp X) (roots : Names) → length roots ≡ 0 → (name : List ℕ) → is_reached next objects roots name ≡ false
none_reached next objects roots none name = refuted (is_reached next objects roots name) (λ is. none_led_to next objects roots none name (reached_led_to next objects roots name is))
