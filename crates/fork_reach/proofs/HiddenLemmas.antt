-- What is there, and what is reached, where some objects are hidden.
use Rattle.std.proofs.Common.{◌≡◌, ℕ, ◌&&◌, not, Bool, true, false, cond, List, [], Option, None, Some, is_some, refl, sym, ap, ◌∙◌}
use Rattle.std.specs.List.{Contains}
use Rattle.std.specs.FinMap.{FinMap, contains_key, get, get-retain_keys, retain_keys}
use Rattle.std.proofs.lemmas.Bool.{and_parts, and_from, not-true}
use Rattle.std.specs.Option.{option_map}
use Rattle.git_name.specs.Name.{name_cmp}
use Rattle.git_name.specs.Object.{Object}
use Rattle.git_name.proofs.Names.{name_exact}
use Rattle.fork_reach.specs.Hidden.{without}
use Rattle.fork_reach.specs.Objects.{measures_of}
use Rattle.fork_reach.specs.Reach.{IsReached, Root, Next, is_between, is_reached}
use Rattle.fork_reach.specs.Source.{Objects, kind_in}
use Rattle.fork_reach.proofs.MeasureLemmas.{measured_there}
use Rattle.fork_reach.proofs.NameLemmas.{same_tests}
use Rattle.fork_reach.proofs.ReachLemmas.{led_to_reached, next_reached, none_reached, reached_alike, reached_led_to, reached_there, reached_where}

-- what of those that pass a test stands under a name
pub get_kept : {X : Type 0} (objects : FinMap name_cmp X) (passes : List ℕ → Bool) (name : List ℕ) → get (retain_keys objects passes) name ≡ cond (passes name) (get objects name) None
get_kept objects passes name = get-retain_keys objects passes name (λ other tied. ap passes (sym (name_exact name other tied)))

kept_some : {X : Type 0} (b : Bool) (found : Option X) → is_some (cond b found None) ≡ (is_some found && b)
kept_some true None = refl
kept_some true (Some x) = refl
kept_some false None = refl
kept_some false (Some x) = refl

pub there_kept : {X : Type 0} (objects : FinMap name_cmp X) (passes : List ℕ → Bool) (name : List ℕ) → contains_key (retain_keys objects passes) name ≡ (contains_key objects name && passes name)
there_kept objects passes name = ap is_some (get_kept objects passes name) ∙ kept_some (passes name) (get objects name)

-- what is there and not hidden is there for the walk
pub there_without : {X : Type 0} (objects : FinMap name_cmp X) (hidden : List ℕ → Bool) (name : List ℕ) → contains_key (without objects hidden) name ≡ (contains_key objects name && not (hidden name))
there_without objects hidden name = there_kept objects (λ n. not (hidden n)) name

-- the same objects are there where their measures are
pub measured_without : (objects : Objects) (hidden : List ℕ → Bool) (name : List ℕ) → contains_key (without (measures_of objects) hidden) name ≡ contains_key (without objects hidden) name
measured_without objects hidden name = there_without (measures_of objects) hidden name ∙ ap (λ b. b && not (hidden name)) (measured_there objects name) ∙ sym (there_without objects hidden name)

hides : (there hidden : Bool) → hidden ≡ true → (there && not hidden) ≡ false
hides true hidden is = rw is refl
hides false hidden is = refl

-- what is hidden is not there for the walk
pub hidden_away : {X : Type 0} (objects : FinMap name_cmp X) (hidden : List ℕ → Bool) (name : List ℕ) → hidden name ≡ true → contains_key (without objects hidden) name ≡ false
hidden_away objects hidden name is = there_without objects hidden name ∙ hides (contains_key objects name) (hidden name) is

some_kind : (found : Option Object) → is_some found ≡ is_some (option_map (λ object. object.kind) found)
some_kind None = refl
some_kind (Some object) = refl

shown_all : (there hidden : Bool) → hidden ≡ false → (there && not hidden) ≡ there
shown_all true hidden none = rw none refl
shown_all false hidden none = refl

-- and what is not, is there where it has a kind
pub kind_shown : (objects : Objects) (hidden : List ℕ → Bool) (name : List ℕ) → hidden name ≡ false → contains_key (without (measures_of objects) hidden) name ≡ is_some (kind_in objects name)
kind_shown objects hidden name is = there_without (measures_of objects) hidden name ∙ shown_all _ (hidden name) is ∙ measured_there objects name ∙ some_kind (get objects name)

-- where nothing is hidden, all is there
pub none_hidden : {X : Type 0} (objects : FinMap name_cmp X) (hidden : List ℕ → Bool) → ((name : List ℕ) → hidden name ≡ false) → (name : List ℕ) → contains_key (without objects hidden) name ≡ contains_key objects name
none_hidden objects hidden none name = there_without objects hidden name ∙ shown_all (contains_key objects name) (hidden name) (none name)

-- and so the same is reached
pub reached_all : {X : Type 0} (next : List ℕ → List (List ℕ)) (objects : FinMap name_cmp X) (hidden : List ℕ → Bool) (roots : List (List ℕ)) → ((name : List ℕ) → hidden name ≡ false) → (name : List ℕ)
    → is_reached next (without objects hidden) roots name ≡ is_reached next objects roots name
reached_all next objects hidden roots none name = reached_alike next (without objects hidden) objects roots (none_hidden objects hidden none) name

negated : (b : Bool) → b ≡ false → not b ≡ true
negated true is = (let no : ⊥ = cc in absurd no)
negated false is = refl

-- what is hidden leads to nothing else
abbrev IsClosed : {X : Type 0} → (List ℕ → List (List ℕ)) → FinMap name_cmp X → (List ℕ → Bool) → Type 0
IsClosed next objects hidden = (from name : List ℕ) → hidden from ≡ true → Contains (next from) name → contains_key objects name ≡ true → hidden name ≡ true

-- what is reached and not hidden is reached past nothing that is hidden
reached_open : {X : Type 0} (next : List ℕ → List (List ℕ)) (objects : FinMap name_cmp X) (hidden : List ℕ → Bool) (roots : List (List ℕ)) → IsClosed next objects hidden → (name : List ℕ)
    → IsReached next objects roots name → hidden name ≡ false → IsReached next (without objects hidden) roots name
reached_open next objects hidden roots closed _ (Root name root there) open_is = Root name root (there_without objects hidden name ∙ and_from _ _ there (negated (hidden name) open_is))
reached_open next objects hidden roots closed _ (Next from name reached linked there) open_is = Next from name (reached_open next objects hidden roots closed from reached (by (hidden from) refl)) linked (there_without objects hidden name ∙ and_from _ _ there (negated (hidden name) open_is))
  where
    by : (b : Bool) → hidden from ≡ b → hidden from ≡ false
    by true is = (let is_hidden = closed from name is linked there in let no : ⊥ = cc in absurd no)
    by false is = is

-- what is reached from the one side where all is hidden that is reached from the other
pub reached_beyond : {X : Type 0} (next : List ℕ → List (List ℕ)) (objects : FinMap name_cmp X) (hidden : List ℕ → Bool) (wants haves : List (List ℕ)) → ((name : List ℕ) → hidden name ≡ is_reached next objects haves name) → (name : List ℕ)
    → is_reached next (without objects hidden) wants name ≡ is_between next objects wants haves name
reached_beyond next objects hidden wants haves is name =
    same_tests (is_reached next (without objects hidden) wants name) (is_between next objects wants haves name)
    (λ reached.
    let there = and_parts (contains_key objects name) _ (sym (there_without objects hidden name) ∙ reached_there next (without objects hidden) wants name reached) in
    and_from _ _ (led_to_reached next objects wants name (reached_where next (without objects hidden) objects wants (λ n there. (and_parts (contains_key objects n) _ (sym (there_without objects hidden n) ∙ there)).0) name (reached_led_to next (without objects hidden) wants name reached)))
    (ap not (sym (is name)) ∙ there.1))
    (λ both.
    let parts = and_parts (is_reached next objects wants name) _ both in
    led_to_reached next (without objects hidden) wants name
    (reached_open next objects hidden wants (λ from n hides linked there. is n ∙ next_reached next objects haves from n (sym (is from) ∙ hides) linked there) name (reached_led_to next objects wants name parts.0)
    (not-true _ (ap not (is name) ∙ parts.1))))

-- where none are excluded, it is all that the wanted ones reach
pub between_none : {X : Type 0} (next : List ℕ → List (List ℕ)) (objects : FinMap name_cmp X) (wanted : List (List ℕ)) (name : List ℕ) → is_between next objects wanted [] name ≡ is_reached next objects wanted name
between_none next objects wanted name = shown_all (is_reached next objects wanted name) (is_reached next objects [] name) (none_reached next objects [] refl name)
