-- Judging objects by what was read gives the same result as judging them by their bytes.
use Rattle.std.proofs.Common.{◌≡◌, ℕ, Bool, true, false, not, List, [], ◌∷◌, Option, None, Some, cond, refl, ap, ◌∙◌}
use Rattle.std.specs.Prelude.{◌||◌, Contains, is_none}
use Rattle.std.specs.BTreeSet.{BTreeSet, contains}
use Rattle.std.specs.Cmp.{eq_by_cmp_equiv}
use Rattle.std.specs.List.{All, find, list_any}
use Rattle.std.specs.Option.{option_map}
use Rattle.std.specs.FinMap.{get}
use Rattle.std.proofs.lemmas.List.Elements.{All-contains_itself, All-head, All-tail, All-weaker}
use Rattle.std.proofs.lemmas.Map.Views.{list_any-from_Contains}
use Rattle.git_name.specs.Name.{name_cmp}
use Rattle.git_name.specs.Object.{Object}
use Rattle.git_name.proofs.Names.{name_total}
use Rattle.git_object.specs.ObjectIn.{links_in, object_in}
use Rattle.git_object.specs.declared.link.Link.{Link}
use Rattle.fork_reach.specs.Source.{Objects, kind_in}
use Rattle.fork_sound.specs.Reading.{AreReadings, ReadingMap, is_bad_read, is_bad_reading, is_unmet_read, kind_read, object_reading}
use Rattle.fork_sound.specs.Sound.{is_bad, is_bad_found, is_other, is_unmet}

-- the kind read under a seen name is that of its object
same_kind_read : (readings : ReadingMap) (seen : List ℕ → Bool) (objects : Objects) (name : List ℕ) → AreReadings readings seen objects → seen name ≡ true → kind_read readings name ≡ kind_in objects name
same_kind_read readings seen objects name are is = ap (option_map (λ reading. reading.kind)) (are name is) ∙ by (get objects name)
  where
    by : (found : Option Object) → option_map (λ reading. reading.kind) (option_map object_reading found) ≡ option_map (λ object. object.kind) found
    by None = refl
    by (Some object) = refl

-- a link is met by what was read if and only if it is met
same_unmet : (readings : ReadingMap) (seen : List ℕ → Bool) (objects : Objects) → AreReadings readings seen objects → (link : Link) → is_unmet_read readings seen link ≡ is_unmet objects seen link
same_unmet readings seen objects are link = by (seen link.name) refl
  where
    by : (b : Bool) → seen link.name ≡ b → (not b || is_other link.kind (kind_read readings link.name)) ≡ (not b || is_other link.kind (kind_in objects link.name))
    by true is = ap (is_other link.kind) (same_kind_read readings seen objects link.name are is)
    by false is = refl

-- the object of a seen name is bad by what was read if and only if it is bad
same_bad : (readings : ReadingMap) (seen : List ℕ → Bool) (objects : Objects) (name : List ℕ) → AreReadings readings seen objects → seen name ≡ true → is_bad_read readings seen name ≡ is_bad objects seen name
same_bad readings seen objects name are is = ap (is_bad_reading readings seen) (are name is) ∙ by (get objects name)
  where
    by : (found : Option Object) → is_bad_reading readings seen (option_map object_reading found) ≡ is_bad_found objects seen found
    by None = refl
    by (Some object) = λ i. is_none (object_in object.kind object.bytes) || list_any (λ link. same_unmet readings seen objects are link i) (links_in object.kind object.bytes)

-- two tests that agree on each name find the same first name
same_find : (p q : List ℕ → Bool) (names : List (List ℕ)) → All (λ name. p name ≡ q name) names → find p names ≡ find q names
same_find p q [] same = refl
same_find p q (name ∷ names) same =
    let here = All-head (λ n. p n ≡ q n) name names same in
    let rest = same_find p q names (All-tail (λ n. p n ≡ q n) name names same) in
    λ i. cond (here i) (Some name) (rest i)

pub same_first : (readings : ReadingMap) (set : BTreeSet (List ℕ)) (objects : Objects) → AreReadings readings (contains name_cmp set) objects
    → find (is_bad_read readings (contains name_cmp set)) set.keys ≡ find (is_bad objects (contains name_cmp set)) set.keys
same_first readings set objects are =
    let p = is_bad_read readings (contains name_cmp set) in
    let q = is_bad objects (contains name_cmp set) in
    same_find p q set.keys
    (All-weaker (Contains set.keys) (λ name. p name ≡ q name) (λ name among. same_bad readings (contains name_cmp set) objects name are (list_any-from_Contains (eq_by_cmp_equiv name_total) name set.keys among)) set.keys (All-contains_itself set.keys))
