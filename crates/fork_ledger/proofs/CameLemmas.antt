-- Objects that are staged are those that came.
use Rattle.std.proofs.Common.{◌≡◌, ℕ, Bool, true, false, cond, List, [], ◌∷◌, Option, None, Some, Result, Ok, Err, zero, suc, refl, sym, ap, subst, ◌∙◌, is_some, arith}
use Rattle.std.specs.Prelude.{Contains, IfOk, OnOk}
use Rattle.std.specs.List.{AllByRecursion}
use Rattle.std.specs.Option.{option_or}
use Rattle.std.specs.Ordering.{eq_by_cmp, is_eq}
use Rattle.std.specs.FinMap.{contains_key, get, get-insert, insert}
use Rattle.std.proofs.lemmas.Cmp.{tied_itself}
use Rattle.std.proofs.lemmas.List.Elements.{All-head, All-tail}
use Rattle.git_name.specs.Name.{name_cmp}
use Rattle.git_name.specs.Object.{Object, object_name}
use Rattle.git_name.proofs.MapLemmas.{get_joined}
use Rattle.git_name.proofs.Names.{name_total}
use Rattle.fork_reach.specs.Source.{Objects}
use Rattle.loose_store.specs.Files.{Files}
use Rattle.loose_store.specs.Stored.{Whole}
use Rattle.fork_ledger.specs.AllStaged.{AllWhole, with_all_staged}
use Rattle.fork_ledger.specs.Private.{Awaits, Holds, Private, Sees, both_of, standing, with_staged, with_under}
use Rattle.fork_ledger.specs.declared.fault.VaultFault.{VaultFault}
use Rattle.fork_ledger.specs.Store.{IsStored}
use Rattle.fork_ledger.specs.Tenants.{Tenants, at_tenant, private_of}
use Rattle.fork_ledger.proofs.StoreLemmas.{one_whole}
use Rattle.fork_ledger.proofs.TenantLemmas.{private_at}

-- what comes under a name is there
under_here : (objects : Objects) (name : List ℕ) (object : Object) → contains_key (with_under objects name object) name ≡ true
under_here objects name object = by (contains_key objects name) refl
  where
    by : (b : Bool) → contains_key objects name ≡ b → contains_key (cond b objects (insert objects name object)) name ≡ true
    by true there = there
    by false absent = ap is_some (get-insert name_total objects name object name) ∙ ap (λ order. is_some (cond (is_eq order) (Some object) (get objects name))) (tied_itself name_total name)

-- and what was there still is
under_still : (objects : Objects) (name : List ℕ) (object : Object) (q : List ℕ) → contains_key objects q ≡ true → contains_key (with_under objects name object) q ≡ true
under_still objects name object q there = by (contains_key objects name)
  where
    either : (b : Bool) → is_some (cond b (Some object) (get objects q)) ≡ true
    either true = refl
    either false = there

    by : (b : Bool) → contains_key (cond b objects (insert objects name object)) q ≡ true
    by true = there
    by false = ap is_some (get-insert name_total objects name object q) ∙ either (eq_by_cmp name_cmp q name)

staged_still : (objects : List Object) (own : Private) (q : List ℕ) → contains_key own.staged q ≡ true → contains_key (with_all_staged objects own).staged q ≡ true
staged_still [] own q there = there
staged_still (object ∷ objects) own q there = staged_still objects (with_staged object own) q (under_still own.staged (object_name object) (standing own object) q there)

-- each name is staged
all_there : (objects : List Object) (own : Private) → AllByRecursion (λ object. contains_key (with_all_staged objects own).staged (object_name object) ≡ true) objects
all_there [] own = tt
all_there (object ∷ objects) own =
    (staged_still objects (with_staged object own) (object_name object) (under_here own.staged (object_name object) (standing own object)), all_there objects (with_staged object own))

-- where what is staged stands whole on the store, and what came does too, they are the same
each_came : (files : Files) (staged : Objects) (objects : List Object) → ((name : List ℕ) (object : Object) → get staged name ≡ Some object → Whole files name object) → AllWhole files objects
    → AllByRecursion (λ object. contains_key staged (object_name object) ≡ true) objects → AllByRecursion (λ object. get staged (object_name object) ≡ Some object) objects
each_came files staged [] stored whole there = tt
each_came files staged (object ∷ objects) stored whole there = (by (get staged (object_name object)) refl there.0, each_came files staged objects stored (All-tail (λ o. Whole files (object_name o) o) object objects whole) there.1)
  where
    by : (o : Option Object) → get staged (object_name object) ≡ o → is_some o ≡ true → o ≡ Some object
    by None is none = absurd (cc)
    by (Some found) is some = ap Some (one_whole files (object_name object) found object (stored (object_name object) found is) (All-head (λ o. Whole files (object_name o) o) object objects whole))

pub all_came : (files : Files) (old new : Tenants) (t : List ℕ) (objects : List Object) → contains_key old t ≡ true → new ≡ at_tenant old t (with_all_staged objects) → IsStored new files → AllWhole files objects
    → AllByRecursion (λ object. get (private_of new t).staged (object_name object) ≡ Some object) objects
all_came files old new t objects there is stored whole =
    let own = ap (λ m. private_of m t) is ∙ private_at old t (with_all_staged objects) there in
    each_came files (private_of new t).staged objects (λ name object found. stored t name object (Awaits found)) whole
    (subst_there (sym own))
  where
    subst_there : {own : Private} → with_all_staged objects (private_of old t) ≡ own → AllByRecursion (λ object. contains_key own.staged (object_name object) ≡ true) objects
    subst_there same = let Is : Private → Type 0 = λ own. AllByRecursion (λ object. contains_key own.staged (object_name object) ≡ true) objects in subst Is same (all_there objects (private_of old t))

-- where what is held is whole on the store, of two objects of one name that are seen and staged both are the same
both_one : (own : Private) (files : Files) (object : Object) → ((name : List ℕ) (o : Object) → Holds own name o → Whole files name o) → get own.staged (object_name object) ≡ Some object → get (both_of own) (object_name object) ≡ Some object
both_one own files object stored staged = get_joined name_total own.visible own.staged (object_name object) ∙ by (get own.visible (object_name object)) refl
  where
    by : (o : Option Object) → get own.visible (object_name object) ≡ o → option_or o (get own.staged (object_name object)) ≡ Some object
    by None none = staged
    by (Some seen) is = ap Some (one_whole files (object_name object) seen object (stored (object_name object) seen (Sees is)) (stored (object_name object) object (Awaits staged)))

each_of : {A : Type 0} (P : A → Type 0) (xs : List A) (x : A) → AllByRecursion P xs → Contains xs x → P x
each_of P [] x all at = absurd (omega arith)
each_of P (first ∷ xs) x all (zero, few, is) = subst P is all.0
each_of P (first ∷ xs) x all (suc k, few, is) = each_of P xs x all.1 (k, omega arith, is)

-- of what came, each object that came back is among what is seen and staged
pub all_back : {A : Type 0} (items : A → List Object) (own : Private) (files : Files) (objects : List Object) (r : Result A VaultFault) → ((name : List ℕ) (o : Object) → Holds own name o → Whole files name o)
    → OnOk r (AllByRecursion (λ object. get own.staged (object_name object) ≡ Some object) objects) → IfOk r (λ back. (object : Object) → Contains (items back) object → Contains objects object)
    → IfOk r (λ back. (object : Object) → Contains (items back) object → get (both_of own) (object_name object) ≡ Some object)
all_back items own files objects (Ok back) stored came among = λ object is. both_one own files object stored (each_of (λ o. get own.staged (object_name o) ≡ Some o) objects object came (among object is))
all_back items own files objects (Err fault) stored came among = tt
