-- Objects that are recalled, name by name.
use Rattle.std.proofs.Common.{◌≡◌, ◌⊎◌, ◌<◌, ◌≤◌, ◌+◌, arith, length, get_or, inl, inr, ℕ, true, IsTrue, Option, None, Some, is_some, List, [], ◌∷◌, ◌++◌, refl, sym, ap, subst, ◌∙◌}
use Rattle.std.specs.Prelude.{Contains}
use Rattle.std.proofs.lemmas.Bool.{cases_eq}
use Rattle.std.proofs.lemmas.List.{get_or_default}
use Rattle.std.proofs.lemmas.List.Elements.{Contains-append_left, Contains-push, Contains-push_cases}
use Rattle.std.proofs.lemmas.Option.{same_Some}
use Rattle.std.specs.FinMap.{contains_key, get}
use Rattle.git_name.specs.Object.{Object, object_name, typed_bytes}
use Rattle.loose_store.specs.Files.{Files}
use Rattle.loose_store.specs.Stored.{Whole}
use Rattle.loose_store.proofs.TypedLemmas.{one_object}
use Rattle.fork_reach.specs.Objects.{with_object, with_objects}
use Rattle.fork_reach.specs.Source.{Objects}
use Rattle.fork_ledger.specs.Store.{Becomes, Recalls}
use Rattle.fork_ledger.specs.Tenants.{VaultState, shape_of}
use Rattle.fork_sound.specs.Reading.{ReadingMap, ReadingValue}
use Rattle.fork_host.specs.Own.{ChangesTenant, Stages}
use Rattle.fork_host.specs.Read.{AreRead, RecallsRead}
use Rattle.fork_host.proofs.OwnLemmas.{changes_still, here_changed, stages_more}

-- at most one whole object is under a name
pub one_whole : (files : Files) (name : List ℕ) (object other : Object) → Whole files name object → Whole files name other → object ≡ other
one_whole files name object other whole same = one_object object other (same_Some (typed_bytes object) (typed_bytes other) (sym whole.file ∙ same.file))

with_one_more : (objects : Objects) (came : List Object) (object : Object) → with_objects objects (came ++ object ∷ []) ≡ with_object (with_objects objects came) object
with_one_more objects [] object = refl
with_one_more objects (first ∷ came) object = with_one_more (with_object objects first) came object

-- the objects staged for the names so far; over an honest store, each that is whole on it
pub record Came (own : List ℕ) (names : List (List ℕ)) (at : ℕ) (both : Objects) (first now : VaultState) : Type 0 where
  pub came : List Object
  pub among : (object : Object) → Contains came object → Contains names (object_name object)
  pub stages : ChangesTenant own (Stages (with_objects both came)) first now
  pub whole : IsTrue first.honest → (object : Object) → Contains came object → Whole first.files (object_name object) object
  pub all : IsTrue first.honest → (i : ℕ) (object : Object) → i < at → Whole first.files (get_or names i []) object → Contains came object
  pub files : now.files ≡ first.files

nothing_came : (object : Object) (G : Type 0) → Contains [] object → G
nothing_came object G is = absurd (omega (arith, is.1))

pub came_none : (own : List ℕ) (names : List (List ℕ)) (both : Objects) (first : VaultState) → ChangesTenant own (Stages both) first first → Came own names 0 both first first
came_none own names both first changes = record {
  came = [];
  among = λ object is. nothing_came object _ is;
  stages = changes;
  whole = λ h object is. nothing_came object _ is;
  all = λ h i object before is. absurd (omega (arith, before));
  files = refl;
}

-- one more name was asked for, and nothing was staged
came_still : (own : List ℕ) (names : List (List ℕ)) (at : ℕ) (both : Objects) (first old new : VaultState) → new.honest ≡ old.honest → new.files ≡ old.files → Becomes shape_of old.honest old.tenants new.tenants
    → ((IsTrue first.honest) → (object : Object) → Whole first.files (get_or names at []) object → ⊥) → Came own names at both first old → Came own names (at + 1) both first new
came_still own names at both first old new honest files stays never so_far = record {
  came = so_far.came;
  among = so_far.among;
  stages = changes_still first old new own stays honest so_far.stages;
  whole = so_far.whole;
  all = λ h i object before is. by h i object before is (cases_eq i at);
  files = files ∙ so_far.files;
}
  where
    by : IsTrue first.honest → (i : ℕ) (object : Object) → i < at + 1 → Whole first.files (get_or names i []) object → (i ≡ at) ⊎ (i ≡ at → ⊥) → Contains so_far.came object
    by h i object before is (inl same) = absurd (never h object (subst (λ k. Whole first.files (get_or names k []) object) same is))
    by h i object before is (inr differs) = so_far.all h i object (omega (arith, before, differs)) is

-- one more name was asked for, and its object was staged
came_whole : (own name : List ℕ) (names : List (List ℕ)) (at : ℕ) (both : Objects) (first old new : VaultState) → contains_key first.tenants own ≡ true → at < length names → name ≡ get_or names at name → new.honest ≡ old.honest
    → new.files ≡ old.files → Recalls old.honest own name old.files old.tenants new.tenants → Came own names at both first old → Came own names (at + 1) both first new
came_whole own name names at both first old new there inside is honest files recalls so_far = record {
  came = so_far.came ++ recalls.object ∷ [];
  among = λ other among. asked other (Contains-push_cases so_far.came recalls.object other among);
  stages = subst (λ objects. ChangesTenant own (Stages objects) first new) (sym (with_one_more both so_far.came recalls.object))
      (stages_more first old new own (with_objects both so_far.came) recalls.object (here_changed first old own there so_far.stages) recalls.becomes honest so_far.stages);
  whole = λ h other among. stands h other (Contains-push_cases so_far.came recalls.object other among);
  all = λ h i other before stored. comes h i other before stored (cases_eq i at);
  files = files ∙ so_far.files;
}
  where
    asked : (other : Object) → Contains so_far.came other ⊎ (recalls.object ≡ other) → Contains names (object_name other)
    asked other (inl before) = so_far.among other before
    asked other (inr itself) = subst (λ o. Contains names (object_name o)) itself (subst (Contains names) (sym recalls.named) (at, inside, sym is))

    itself_whole : IsTrue first.honest → Whole first.files name recalls.object
    itself_whole h = subst (λ fs. Whole fs name recalls.object) so_far.files (recalls.whole (so_far.stages.honest ∙ h))

    stands : IsTrue first.honest → (other : Object) → Contains so_far.came other ⊎ (recalls.object ≡ other) → Whole first.files (object_name other) other
    stands h other (inl before) = so_far.whole h other before
    stands h other (inr itself) = subst (λ o. Whole first.files (object_name o) o) itself (subst (λ n. Whole first.files n recalls.object) (sym recalls.named) (itself_whole h))

    comes : IsTrue first.honest → (i : ℕ) (other : Object) → i < at + 1 → Whole first.files (get_or names i []) other → (i ≡ at) ⊎ (i ≡ at → ⊥) → Contains (so_far.came ++ recalls.object ∷ []) other
    comes h i other before stored (inl same) =
        let here : get_or names i [] ≡ name = ap (λ k. get_or names k []) same ∙ get_or_default names at [] name inside ∙ sym is in
        subst (Contains (so_far.came ++ recalls.object ∷ [])) (one_whole first.files name recalls.object other (itself_whole h) (subst (λ n. Whole first.files n other) here stored)) (Contains-push so_far.came recalls.object)
    comes h i other before stored (inr differs) = Contains-append_left so_far.came (recalls.object ∷ []) other (so_far.all h i other (omega (arith, before, differs)) stored)

-- one more name was asked for
pub came_read : (own name : List ℕ) (names : List (List ℕ)) (at : ℕ) (both : Objects) (first old new : VaultState) (readings : ReadingMap) → contains_key first.tenants own ≡ true → at < length names → name ≡ get_or names at name → new.honest ≡ old.honest → new.files ≡ old.files
    → AreRead first.honest first.files names readings → RecallsRead old.honest own name old.files old.tenants new.tenants (get readings name) → Came own names at both first old → Came own names (at + 1) both first new
came_read own name names at both first old new readings there inside is honest files read recalls so_far = by (get readings name) refl recalls
  where
    unread : get readings name ≡ None → (object : Object) → contains_key readings name ≡ true → ⊥
    unread none object found = cc (sym (ap is_some none) ∙ found)

    by : (o : Option ReadingValue) → get readings name ≡ o → RecallsRead old.honest own name old.files old.tenants new.tenants o → Came own names (at + 1) both first new
    by (Some reading) found staged = came_whole own name names at both first old new there inside is honest files staged so_far
    by None none same =
        came_still own names at both first old new honest files (record { exact = λ h. same; shape = ap shape_of same })
        (λ h object stored. unread none object (read.all h name object (at, inside, sym is) (subst (λ n. Whole first.files n object) (get_or_default names at [] name inside ∙ sym is) stored)))
        so_far

-- all names were asked for
pub came_all : (own : List ℕ) (names : List (List ℕ)) (at : ℕ) (both : Objects) (first now : VaultState) → length names ≤ at → (so_far : Came own names at both first now)
    → IsTrue first.honest → (name : List ℕ) (object : Object) → Contains names name → Whole first.files name object → Contains so_far.came object
came_all own names at both first now whole so_far h name object (i, inside, is) stored =
    so_far.all h i object (omega (arith, inside, whole)) (subst (λ n. Whole first.files n object) (sym is ∙ sym (get_or_default names i [] name inside)) stored)
