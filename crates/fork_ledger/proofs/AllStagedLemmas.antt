-- Objects that are staged one after another.
use Rattle.std.proofs.Common.{◌≡◌, ◌≢◌, ℕ, List, [], ◌∷◌, ◌++◌, true, None, Result, Ok, Err, length, map, refl, sym, ap, subst, ◌∙◌}
use Rattle.std.specs.Prelude.{IfErr}
use Rattle.std.proofs.lemmas.List.Elements.{All-head, All-tail}
use Rattle.git_name.specs.Object.{Object, object_name}
use Rattle.fork_reach.specs.Objects.{measure_of, with_objects}
use Rattle.object_table.specs.AllStaged.{all_staged_words}
use Rattle.object_table.specs.Holders.{is_held_in}
use Rattle.object_table.specs.Ledgers.{AllWords, at_ledger}
use Rattle.object_table.specs.Told.{entry_of}
use Rattle.object_table.specs.Words.{Words, staged_over, staged_words}
use Rattle.loose_store.specs.Files.{Files}
use Rattle.loose_store.specs.Stored.{Whole}
use Rattle.fork_ledger.specs.AllStaged.{AllWhole, StaysWhole, with_all_staged}
use Rattle.fork_ledger.specs.declared.fault.VaultFault.{VaultFault}
use Rattle.fork_ledger.specs.declared.fault.VaultFault.TheVariants.{Damaged}
use Rattle.fork_ledger.specs.Kept.{KeepsHeld}
use Rattle.fork_ledger.specs.Private.{Private, both_of, private_measures, with_staged}
use Rattle.fork_ledger.specs.Shown.{object_at, own_of, tenants_of}
use Rattle.fork_ledger.specs.Store.{IsStored}
use Rattle.fork_ledger.specs.Tenants.{Tenants, at_tenant, shape_of}
use Rattle.fork_ledger.proofs.BothLemmas.{both_more}
use Rattle.fork_ledger.proofs.KeepingLemmas.{stored_keeps, tenants_keep}
use Rattle.fork_ledger.proofs.OwnLemmas.{staged_own, staged_whole, staged_with}
use Rattle.fork_ledger.proofs.ShapeLemmas.{Respects, respects_staged}
use Rattle.fork_ledger.proofs.ShownLemmas.{changed_shown, kind_at, length_at}
use Rattle.fork_ledger.proofs.ShownShapes.{shape_alike, shape_any, staged_alike}
use Rattle.fork_ledger.proofs.StoredLemmas.{never_damaged, stored_at, stored_staged}
use Rattle.fork_ledger.proofs.TakenLemmas.{held_taken}
use Rattle.fork_ledger.proofs.TenantLemmas.{at_twice}
use Rattle.fork_ledger.proofs.WholeLemmas.{held_whole}

-- ---- over an honest store
-- the files of held names stay, where what stood whole does
pub keeps_whole : (m : AllWords) (old new : Files) → IsStored (tenants_of old m) old → StaysWhole old new → KeepsHeld m old new
keeps_whole m old new stored stays = λ q held.
    let taker = held_taken old m q held in
    let has = held_whole (tenants_of old m) old q taker.0 stored taker.1 in
    (stays q has.0 has.1).file ∙ sym has.1.file

own_all : (files : Files) (objects : List Object) (words : Words) → AllWhole files objects → own_of files (all_staged_words (map entry_of objects) words) ≡ with_all_staged objects (own_of files words)
own_all files [] words whole = refl
own_all files (object ∷ objects) words whole =
    own_all files objects (staged_words (object_name object) object.kind (length object.bytes) words) (All-tail (λ o. Whole files (object_name o) o) object objects whole)
    ∙ ap (with_all_staged objects) (staged_whole files words object (All-head (λ o. Whole files (object_name o) o) object objects whole))

all_here : (files : Files) (m : AllWords) (t : List ℕ) (objects : List Object) → AllWhole files objects → tenants_of files (at_ledger m t (all_staged_words (map entry_of objects))) ≡ at_tenant (tenants_of files m) t (with_all_staged objects)
all_here files m t objects whole = changed_shown files m t (all_staged_words (map entry_of objects)) (with_all_staged objects) (λ words. own_all files objects words whole)

-- the private maps afterwards
pub all_staged_tenants : (old new : Files) (m : AllWords) (t : List ℕ) (objects : List Object) → KeepsHeld m old new → AllWhole new objects
    → tenants_of new (at_ledger m t (all_staged_words (map entry_of objects))) ≡ at_tenant (tenants_of old m) t (with_all_staged objects)
all_staged_tenants old new m t objects keeps whole = all_here new m t objects whole ∙ ap (λ tenants. at_tenant tenants t (with_all_staged objects)) (tenants_keep m old new keeps)

stored_all : (tenants : Tenants) (t : List ℕ) (files : Files) (objects : List Object) → AllWhole files objects → IsStored tenants files → IsStored (at_tenant tenants t (with_all_staged objects)) files
stored_all tenants t files [] whole stored = stored_at tenants t files (with_all_staged []) (λ own name object holds. holds) stored
stored_all tenants t files (object ∷ objects) whole stored =
    subst (λ x. IsStored x files) (at_twice tenants t (with_staged object) (with_all_staged objects))
    (stored_all (at_tenant tenants t (with_staged object)) t files objects (All-tail (λ o. Whole files (object_name o) o) object objects whole)
    (stored_staged tenants t files object (All-head (λ o. Whole files (object_name o) o) object objects whole) stored))

-- and what stands on the store of them
pub all_staged_stored : (old new : Files) (m : AllWords) (t : List ℕ) (objects : List Object) → KeepsHeld m old new → AllWhole new objects → IsStored (tenants_of old m) old
    → IsStored (tenants_of new (at_ledger m t (all_staged_words (map entry_of objects)))) new
all_staged_stored old new m t objects keeps whole stored =
    subst (λ tenants. IsStored tenants new) (sym (all_here new m t objects whole)) (stored_all (tenants_of new m) t new objects whole (stored_keeps m old new keeps stored))

-- no name that is held is damaged
pub none_damaged : {A : Type 0} (r : Result A VaultFault) (files : Files) (m : AllWords) → IsStored (tenants_of files m) files
    → IfErr r (λ fault. fault ≡ Damaged → (name : List ℕ) × (is_held_in m name ≡ true) × ((object : Object) → Whole files name object → ⊥)) → IfErr r (λ fault. fault ≢ Damaged)
none_damaged (Ok a) files m stored damaged = tt
none_damaged (Err fault) files m stored damaged = λ is. let bad = damaged is in never_damaged (tenants_of files m) files bad.0 stored (held_taken files m bad.0 bad.1) bad.2

-- ---- over any store
-- staged one after another, each as the object that the files have under its name
abbrev pub all_at : Files → List Object → Private → Private
all_at files [] own = own
all_at files (object ∷ objects) own = all_at files objects (staged_with (object_name object) (object_at files (object_name object) (staged_over object.kind (length object.bytes) None)) own)

own_any : (files : Files) (objects : List Object) (words : Words) → own_of files (all_staged_words (map entry_of objects) words) ≡ all_at files objects (own_of files words)
own_any files [] words = refl
own_any files (object ∷ objects) words =
    own_any files objects (staged_words (object_name object) object.kind (length object.bytes) words)
    ∙ ap (all_at files objects) (staged_own files words (object_name object) object.kind (length object.bytes))

measured : (files : Files) (object : Object) → measure_of (object_at files (object_name object) (staged_over object.kind (length object.bytes) None)) ≡ measure_of object
measured files object = λ i. (kind_at files (object_name object) (staged_over object.kind (length object.bytes) None) i, length_at files (object_name object) (staged_over object.kind (length object.bytes) None) i)

measures_all : (files : Files) (objects : List Object) (a b : Private) → private_measures a ≡ private_measures b → private_measures (all_at files objects a) ≡ private_measures (with_all_staged objects b)
measures_all files [] a b same = same
measures_all files (object ∷ objects) a b same =
    measures_all files objects _ (with_staged object b)
    (staged_alike object (object_at files (object_name object) (staged_over object.kind (length object.bytes) None)) a (measured files object) ∙ respects_staged object a b same)

-- the shape is that of the objects' staging
pub all_staged_shape : (old new : Files) (m : AllWords) (t : List ℕ) (objects : List Object) → shape_of (tenants_of new (at_ledger m t (all_staged_words (map entry_of objects)))) ≡ shape_of (at_tenant (tenants_of old m) t (with_all_staged objects))
all_staged_shape old new m t objects =
    shape_any old new (at_ledger m t (all_staged_words (map entry_of objects))) ∙ ap shape_of (changed_shown old m t (all_staged_words (map entry_of objects)) (all_at old objects) (λ words. own_any old objects words))
    ∙ shape_alike (tenants_of old m) t (all_at old objects) (with_all_staged objects) (λ own. measures_all old objects own own refl)

-- objects are staged
pub respects_all_staged : (objects : List Object) → Respects (with_all_staged objects)
respects_all_staged [] a b same = same
respects_all_staged (object ∷ objects) a b same = respects_all_staged objects (with_staged object a) (with_staged object b) (respects_staged object a b same)

-- ---- for callers
-- some objects, and then others
pub all_staged_then : (first rest : List Object) (own : Private) → with_all_staged (first ++ rest) own ≡ with_all_staged rest (with_all_staged first own)
all_staged_then [] rest own = refl
all_staged_then (object ∷ first) rest own = all_staged_then first rest (with_staged object own)

-- what is seen stays
pub all_staged_seen : (objects : List Object) (own : Private) → (with_all_staged objects own).visible ≡ own.visible
all_staged_seen [] own = refl
all_staged_seen (object ∷ objects) own = all_staged_seen objects (with_staged object own)

-- both sides have them, each unless one of its name was there
pub both_all : (objects : List Object) (own : Private) → both_of (with_all_staged objects own) ≡ with_objects (both_of own) objects
both_all [] own = refl
both_all (object ∷ objects) own = both_all objects (with_staged object own) ∙ ap (λ both. with_objects both objects) (both_more own object)
