-- What stands on the store of what tenants hold, as private maps change.
use Rattle.std.proofs.Common.{◌≡◌, ◌⊎◌, ℕ, Bool, true, false, cond, inl, inr, List, Option, None, Some, refl, sym, ap, subst, ◌∙◌, is_some}
use Rattle.std.specs.Prelude.{◌||◌, OnErr, OnOk, Result, Ok, Err}
use Rattle.std.specs.Cmp.{eq_by_cmp_equiv}
use Rattle.std.specs.Option.{option_or, unwrap_or}
use Rattle.std.specs.Ordering.{eq_by_cmp}
use Rattle.std.specs.FinMap.{contains_key, empty, get, get-empty, get-insert, insert}
use Rattle.git_name.specs.Name.{name_cmp}
use Rattle.git_name.specs.Object.{Object, object_name}
use Rattle.git_name.proofs.MapLemmas.{get_joined}
use Rattle.git_name.proofs.Names.{name_total}
use Rattle.fork_reach.proofs.KeptObjects.{tied_names}
use Rattle.loose_store.specs.Files.{Files, SameBut}
use Rattle.loose_store.specs.Stored.{Whole}
use Rattle.loose_store.proofs.TypedLemmas.{one_object}
use Rattle.fork_ledger.specs.Private.{Holds, Sees, Awaits, Private, is_held_by, nothing, standing, with_discarded, with_kept, with_published, with_staged}
use Rattle.fork_ledger.specs.Store.{IsStored, IsHeldBySome, StoresAlone}
use Rattle.fork_ledger.specs.Tenants.{Tenants, at_tenant, private_of, with_tenant}
use Rattle.fork_ledger.proofs.SeenLemmas.{get_kept}
use Rattle.fork_ledger.proofs.TenantLemmas.{absent_still, by_test, private_at, private_new, private_none, private_others, self_apart}

nothing_found : (name : List ℕ) (object : Object) → get {R = name_cmp} empty name ≡ Some object → ⊥
nothing_found name object is = (let differs : ⊥ = cc (sym (get-empty name_cmp name) ∙ is) in differs)

-- no tenant holds anything
pub stored_none : (files : Files) → IsStored empty files
stored_none files tenant name object holds = absurd (none (subst (λ own. Holds own name object) (private_none tenant) holds))
  where
    none : Holds nothing name object → ⊥
    none (Sees is) = nothing_found name object is
    none (Awaits is) = nothing_found name object is

-- a new tenant holds nothing
pub stored_new : (tenants : Tenants) (t : List ℕ) (files : Files) → IsStored tenants files → IsStored (with_tenant tenants t) files
stored_new tenants t files stored = λ tenant name object holds. stored tenant name object (subst (λ own. Holds own name object) (private_new tenants t tenant) holds)

-- a change that brings no object of its own
abbrev pub Brings : (Private → Private) → Type 0
Brings change = (own : Private) (name : List ℕ) (object : Object) → Holds (change own) name object → Holds own name object

-- one tenant's private maps change
pub holds_at : (tenants : Tenants) (t : List ℕ) (change : Private → Private) (tenant name : List ℕ) (object : Object) (G : Type 0) → Holds (private_of (at_tenant tenants t change) tenant) name object
    → (tenant ≡ t → Holds (change (private_of tenants t)) name object → G) → (Holds (private_of tenants tenant) name object → G) → G
holds_at tenants t change tenant name object G holds own others = by_test (contains_key tenants t) G here absent
  where
    here : contains_key tenants t ≡ true → G
    here there = by_test (eq_by_cmp name_cmp tenant t) G
        (λ tied. let same = tied_names tenant t tied in own same (subst (λ p. Holds p name object) (ap (private_of (at_tenant tenants t change)) same ∙ private_at tenants t change there) holds))
        (λ apart. others (subst (λ p. Holds p name object) (private_others tenants t tenant change (self_apart tenant t apart)) holds))

    absent : contains_key tenants t ≡ false → G
    absent none = others (subst (λ m. Holds (private_of m tenant) name object) (absent_still tenants t change none) holds)

pub stored_at : (tenants : Tenants) (t : List ℕ) (files : Files) (change : Private → Private) → Brings change → IsStored tenants files → IsStored (at_tenant tenants t change) files
stored_at tenants t files change brings stored = λ tenant name object holds. holds_at tenants t change tenant name object (Whole files name object) holds
    (λ same now. stored t name object (brings (private_of tenants t) name object now))
    (λ before. stored tenant name object before)

pub either_side : (seen waits : Option Object) (object : Object) → option_or seen waits ≡ Some object → (seen ≡ Some object) ⊎ (waits ≡ Some object)
either_side (Some x) waits object is = inl is
either_side None waits object is = inr is

pub brings_published : Brings with_published
brings_published own name object (Sees is) = by (either_side (get own.visible name) (get own.staged name) object (sym (get_joined name_total own.visible own.staged name) ∙ is))
  where
    by : (get own.visible name ≡ Some object) ⊎ (get own.staged name ≡ Some object) → Holds own name object
    by (inl seen) = Sees seen
    by (inr waits) = Awaits waits
brings_published own name object (Awaits is) = absurd (nothing_found name object is)

pub brings_discarded : Brings with_discarded
brings_discarded own name object (Sees is) = Sees is
brings_discarded own name object (Awaits is) = absurd (nothing_found name object is)

pub kept_was : (b : Bool) (o : Option Object) (object : Object) → cond b o None ≡ Some object → o ≡ Some object
kept_was true o object is = is
kept_was false o object is = absurd (cc)

pub brings_kept : (names : List ℕ → Bool) → Brings (with_kept names)
brings_kept names own name object (Sees is) = Sees (kept_was (names name) (get own.visible name) object (sym (get_kept own.visible names name) ∙ is))
brings_kept names own name object (Awaits is) = Awaits is

-- what stands for an object that comes: itself, or one that is seen
stands_for : (seen : Option Object) (object other : Object) → Some (unwrap_or seen object) ≡ Some other → (seen ≡ Some other) ⊎ (other ≡ object)
stands_for None object other is = inr (by_some is)
  where
    by_some : Some object ≡ Some other → other ≡ object
    by_some same = sym (ap (λ o. unwrap_or o object) same)
stands_for (Some x) object other is = inl is

-- an object that is staged is all that comes
pub brings_staged : (own : Private) (object : Object) (name : List ℕ) (other : Object) → Holds (with_staged object own) name other → Holds own name other ⊎ ((name ≡ object_name object) × (other ≡ object))
brings_staged own object name other (Sees is) = inl (Sees is)
brings_staged own object name other (Awaits is) = by_test (contains_key own.staged (object_name object)) _
    (λ there. inl (Awaits (sym (ap (λ b. get (cond b own.staged (insert own.staged (object_name object) (standing own object))) name) there) ∙ is)))
    (λ absent. new (sym (get-insert name_total own.staged (object_name object) (standing own object) name) ∙ sym (ap (λ b. get (cond b own.staged (insert own.staged (object_name object) (standing own object))) name) absent) ∙ is))
  where
    tied : eq_by_cmp name_cmp name (object_name object) ≡ true → Some (standing own object) ≡ Some other → Holds own name other ⊎ ((name ≡ object_name object) × (other ≡ object))
    tied same found = at (stands_for (get own.visible (object_name object)) object other found)
      where
        at : (get own.visible (object_name object) ≡ Some other) ⊎ (other ≡ object) → Holds own name other ⊎ ((name ≡ object_name object) × (other ≡ object))
        at (inl seen) = inl (Sees (ap (get own.visible) (tied_names name (object_name object) same) ∙ seen))
        at (inr itself) = inr (tied_names name (object_name object) same, itself)

    new : cond (eq_by_cmp name_cmp name (object_name object)) (Some (standing own object)) (get own.staged name) ≡ Some other → Holds own name other ⊎ ((name ≡ object_name object) × (other ≡ object))
    new found = by_test (eq_by_cmp name_cmp name (object_name object)) _
        (λ same. tied same (sym (ap (λ b. cond b (Some (standing own object)) (get own.staged name)) same) ∙ found))
        (λ apart. inl (Awaits (sym (ap (λ b. cond b (Some (standing own object)) (get own.staged name)) apart) ∙ found)))

-- one name's file is written where nobody holds the name
pub stored_still : (tenants : Tenants) (old new : Files) (name : List ℕ) → SameBut name old new → (IsHeldBySome tenants name → new ≡ old) → IsStored tenants old → IsStored tenants new
stored_still tenants old new name others held stored tenant q object holds = by_test (eq_by_cmp name_cmp q name) _
    (λ tied. subst (λ files. Whole files q object) (sym (held (tenant, taken (tied_names q name tied)))) before)
    (λ apart. record { file = others q (self_apart q name apart) ∙ before.file; named = before.named })
  where
    before : Whole old q object
    before = stored tenant q object holds

    there : (own : Private) → Holds own q object → is_held_by own q ≡ true
    there own (Sees is) = ap (λ o. is_some o || contains_key own.staged q) is
    there own (Awaits is) = at (contains_key own.visible q) (contains_key own.staged q) (ap is_some is)
      where
        at : (b c : Bool) → c ≡ true → (b || c) ≡ true
        at true c is = refl
        at false c is = is

    taken : q ≡ name → is_held_by (private_of tenants tenant) name ≡ true
    taken same = subst (λ n. is_held_by (private_of tenants tenant) n ≡ true) same (there (private_of tenants tenant) holds)

-- an object whose file is whole is staged
pub stored_staged : (tenants : Tenants) (t : List ℕ) (files : Files) (object : Object) → Whole files (object_name object) object → IsStored tenants files → IsStored (at_tenant tenants t (with_staged object)) files
stored_staged tenants t files object whole stored = λ tenant name other holds. holds_at tenants t (with_staged object) tenant name other (Whole files name other) holds
    (λ same now. at name other (brings_staged (private_of tenants t) object name other now))
    (λ before. stored tenant name other before)
  where
    at : (name : List ℕ) (other : Object) → Holds (private_of tenants t) name other ⊎ ((name ≡ object_name object) × (other ≡ object)) → Whole files name other
    at name other (inl held) = stored t name other held
    at name other (inr new) = subst (λ n. Whole files n other) (sym new.0) (subst (λ o. Whole files (object_name object) o) (sym new.1) whole)

-- a name that is held has an object on an honest store
pub never_damaged : (tenants : Tenants) (files : Files) (name : List ℕ) → IsStored tenants files → IsHeldBySome tenants name → ((object : Object) → Whole files name object → ⊥) → ⊥
never_damaged tenants files name stored taken none = by (get own.visible name) (get own.staged name) refl refl taken.1
  where
    own : Private
    own = private_of tenants taken.0

    by : (seen waits : Option Object) → get own.visible name ≡ seen → get own.staged name ≡ waits → (is_some seen || is_some waits) ≡ true → ⊥
    by (Some object) waits is waiting there = none object (stored taken.0 name object (Sees is))
    by None (Some object) is waiting there = none object (stored taken.0 name object (Awaits waiting))
    by None None is waiting there = absurd (cc)

-- an object whose file is whole comes alone, where the other files stay
pub stores_alone : (object : Object) (old new : Files) → Whole new (object_name object) object → SameBut (object_name object) old new → StoresAlone object old new
stores_alone object old new whole others name other is = by_test (eq_by_cmp name_cmp name (object_name object)) _
    (λ tied. inr (one_object other object (some_same (sym is.file ∙ ap (get new) (tied_names name (object_name object) tied) ∙ whole.file))))
    (λ apart. inl (record { file = sym (others name (self_apart name (object_name object) apart)) ∙ is.file; named = is.named }))
  where
    some_same : {x y : List ℕ} → Some x ≡ Some y → x ≡ y
    some_same {x} {y} same = ap (λ o. unwrap_or o x) same

-- what was written is found
pub file_inserted : (files : Files) (name bytes : List ℕ) → get (insert files name bytes) name ≡ Some bytes
file_inserted files name bytes = get-insert name_total files name bytes name ∙ ap (λ b. cond b (Some bytes) (get files name)) ((eq_by_cmp_equiv name_total).refl name)

-- a call that changes the private maps or not
pub whichever : {A E : Type 0} {P Q : Type 0} (G : Type 0) (r : Result A E) → OnOk r P → OnErr r Q → (P → G) → (Q → G) → G
whichever G (Ok a) p q f g = f p
whichever G (Err e) p q f g = g q

-- neither the private maps nor the files change
pub stored_same : (tenants after : Tenants) (old new : Files) → after ≡ tenants → new ≡ old → IsStored tenants old → IsStored after new
stored_same tenants after old new same still stored = subst (λ m. IsStored m new) (sym same) (subst (λ files. IsStored tenants files) (sym still) stored)
