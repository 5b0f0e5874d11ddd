-- The first bad object: a blob is never bad, and if no object is bad, all are sound.
use Rattle.std.proofs.Common.{◌≡◌, ◌≢◌, ℕ, Bool, true, false, not, List, [], ◌∷◌, Option, None, Some, cond, refl, sym, ap, ◌∙◌, is_some}
use Rattle.std.specs.Prelude.{◌||◌, is_none}
use Rattle.std.specs.List.{AllByRecursion, find, list_any}
use Rattle.std.specs.Option.{option_map}
use Rattle.std.specs.FinMap.{get}
use Rattle.git_name.specs.Object.{Object}
use Rattle.git_name.specs.declared.kind.Kind.{Kind}
use Rattle.git_name.specs.declared.kind.Kind.TheVariants.{Blob, Tree, Commit, Tag}
use Rattle.git_object.specs.ObjectIn.{links_in, object_in}
use Rattle.git_object.specs.declared.link.Link.{Link}
use Rattle.fork_push.specs.Push.{same_kind}
use Rattle.fork_reach.specs.Source.{Objects, kind_in}
use Rattle.fork_sound.specs.Sound.{is_bad, is_bad_found, is_other, is_unmet}

either_false : (a b : Bool) → (a || b) ≡ false → (a ≡ false) × (b ≡ false)
either_false true b is = absurd (cc)
either_false false b is = (refl, is)

-- none of some names is bad
pub none_bad : (bad : List ℕ → Bool) (names : List (List ℕ)) → find bad names ≡ None → list_any bad names ≡ false
none_bad bad [] none = refl
none_bad bad (name ∷ names) none = by (bad name) none (none_bad bad names)
  where
    by : (b : Bool) → cond b (Some name) (find bad names) ≡ None → (find bad names ≡ None → list_any bad names ≡ false) → (b || list_any bad names) ≡ false
    by true is rest = absurd (cc)
    by false is rest = rest is

-- the object of a name that is not bad
pub record IsSound (objects : Objects) (seen : List ℕ → Bool) (object : Object) : Type 0 where
  pub right : object_in object.kind object.bytes ≢ None
  pub met : list_any (is_unmet objects seen) (links_in object.kind object.bytes) ≡ false

some_there : {X : Type 0} (o : Option X) → is_none o ≡ false → o ≢ None
some_there None is none = absurd (cc)
some_there (Some x) is none = absurd (cc)

pub good_found : (objects : Objects) (seen : List ℕ → Bool) (name : List ℕ) (object : Object) → is_bad objects seen name ≡ false → get objects name ≡ Some object → IsSound objects seen object
good_found objects seen name object good found =
    let parts = either_false (is_none (object_in object.kind object.bytes)) (list_any (is_unmet objects seen) (links_in object.kind object.bytes)) (sym (ap (is_bad_found objects seen) found) ∙ good) in
    record { right = some_there (object_in object.kind object.bytes) parts.0; met = parts.1 }

pub good_there : (objects : Objects) (seen : List ℕ → Bool) (name : List ℕ) → is_bad objects seen name ≡ false → is_some (get objects name) ≡ true
good_there objects seen name good = by (get objects name) good
  where
    by : (found : Option Object) → is_bad_found objects seen found ≡ false → is_some found ≡ true
    by None is = absurd (cc)
    by (Some object) is = refl

same_kinds : (a b : Kind) → not (same_kind a b) ≡ false → a ≡ b
same_kinds Blob Blob is = refl
same_kinds Tree Tree is = refl
same_kinds Commit Commit is = refl
same_kinds Tag Tag is = refl
same_kinds Blob Tree is = absurd (cc)
same_kinds Blob Commit is = absurd (cc)
same_kinds Blob Tag is = absurd (cc)
same_kinds Tree Blob is = absurd (cc)
same_kinds Tree Commit is = absurd (cc)
same_kinds Tree Tag is = absurd (cc)
same_kinds Commit Blob is = absurd (cc)
same_kinds Commit Tree is = absurd (cc)
same_kinds Commit Tag is = absurd (cc)
same_kinds Tag Blob is = absurd (cc)
same_kinds Tag Tree is = absurd (cc)
same_kinds Tag Commit is = absurd (cc)

-- a link that is met, if all that is seen exists
pub met_link : (objects : Objects) (seen : List ℕ → Bool) (link : Link) → ((name : List ℕ) → seen name ≡ true → is_some (get objects name) ≡ true) → is_unmet objects seen link ≡ false → kind_in objects link.name ≡ Some link.kind
met_link objects seen link there met =
    let parts = either_false (not (seen link.name)) (is_other link.kind (kind_in objects link.name)) met in
    by (get objects link.name) (there link.name (un_not (seen link.name) parts.0)) parts.1
  where
    un_not : (b : Bool) → not b ≡ false → b ≡ true
    un_not true is = refl
    un_not false is = absurd (cc)

    by : (found : Option Object) → is_some found ≡ true → is_other link.kind (option_map (λ object. object.kind) found) ≡ false → option_map (λ object. object.kind) found ≡ Some link.kind
    by None is other = absurd (cc)
    by (Some object) is other = ap Some (sym (same_kinds link.kind object.kind other))

-- all links of an object, if all that is seen exists
pub all_met : (objects : Objects) (seen : List ℕ → Bool) (links : List Link) → ((name : List ℕ) → seen name ≡ true → is_some (get objects name) ≡ true) → list_any (is_unmet objects seen) links ≡ false
    → AllByRecursion (λ link. kind_in objects link.name ≡ Some link.kind) links
all_met objects seen [] there met = tt
all_met objects seen (link ∷ links) there met =
    let parts = either_false (is_unmet objects seen link) (list_any (is_unmet objects seen) links) met in
    (met_link objects seen link there parts.0, all_met objects seen links there parts.1)
