-- Each file of a sure store stays whole as files change.
use Rattle.std.proofs.Common.{◌≡◌, ℕ, Bool, true, false, cond, List, None, Some, refl, sym, ap, subst, ◌∙◌, IsTrue}
use Rattle.std.specs.FinMap.{empty, get, get-empty, get-insert, get-remove, insert, remove}
use Rattle.std.specs.declared.cmp.Ordering.{Ordering}
use Rattle.std.specs.declared.cmp.Ordering.TheVariants.{Less, Equal, Greater}
use Rattle.std.specs.Ordering.{eq_by_cmp, is_eq}
use Rattle.git_name.specs.Name.{name_cmp}
use Rattle.git_name.specs.Object.{Object, object_name, typed_bytes}
use Rattle.git_name.proofs.Names.{name_total, name_exact}
use Rattle.loose_store.specs.Files.{Files}
use Rattle.loose_store.specs.Stored.{Whole}
use Rattle.read_cache.specs.Cached.{HasWholeFiles, IsSure}

-- names that tie are the same
is_equal : (o : Ordering) → is_eq o ≡ true → o ≡ Equal
is_equal Less e = cc
is_equal Equal e = refl
is_equal Greater e = cc

pub tied_names : (q k : List ℕ) → eq_by_cmp name_cmp q k ≡ true → q ≡ k
tied_names q k same = name_exact q k (is_equal (name_cmp q k) same)

-- for an unchanged store
pub sure_at : (sure h k : Bool) (fs gs : Files) → k ≡ h → (IsTrue h → gs ≡ fs) → IsSure sure h fs → IsSure sure k gs
sure_at sure h k fs gs same files is held =
    let was = is held in
    (same ∙ was.0, subst HasWholeFiles (sym (files was.0)) was.1)

-- for a store that is not sure
pub sure_none : (sure h : Bool) (fs : Files) → sure ≡ false → IsSure sure h fs
sure_none sure h fs none held = (let no : ⊥ = cc in absurd no)

-- for a store without files
pub sure_fresh : (sure h : Bool) (fs : Files) → (sure ≡ true → IsTrue h) → (sure ≡ true → fs ≡ empty) → IsSure sure h fs
sure_fresh sure h fs honest none held = (honest held, λ name bytes is. absurd (cc (sym (get-empty {X = List ℕ} name_cmp name) ∙ ap (λ (f : Files). get f name) (sym (none held)) ∙ is)))

-- after a whole file is put
pub sure_put : (sure h k : Bool) (fs gs : Files) (object : Object) → k ≡ h → (IsTrue h → gs ≡ insert fs (object_name object) (typed_bytes object)) → IsSure sure h fs → IsSure sure k gs
sure_put sure h k fs gs object same put is held = (same ∙ (is held).0, λ name bytes found. by name bytes found (eq_by_cmp name_cmp name (object_name object)) refl)
  where
    at : (name : List ℕ) → get gs name ≡ cond (eq_by_cmp name_cmp name (object_name object)) (Some (typed_bytes object)) (get fs name)
    at name = ap (λ (f : Files). get f name) (put (is held).0) ∙ get-insert name_total fs (object_name object) (typed_bytes object) name

    by : (name bytes : List ℕ) → get gs name ≡ Some bytes → (b : Bool) → eq_by_cmp name_cmp name (object_name object) ≡ b → (o : Object) × Whole gs name o
    by name bytes found true tied = (
      object,
      record {
        file = at name ∙ ap (λ b. cond b (Some (typed_bytes object)) (get fs name)) tied;
        named = sym (tied_names name (object_name object) tied);
      },
    )
    by name bytes found false apart =
        let stays : get gs name ≡ get fs name = at name ∙ ap (λ b. cond b (Some (typed_bytes object)) (get fs name)) apart in
        let was = (is held).1 name bytes (sym stays ∙ found) in
        (was.0, record { file = stays ∙ was.1.file; named = was.1.named })

-- after a file is removed
pub sure_removed : (sure h k : Bool) (fs gs : Files) (gone : List ℕ) → k ≡ h → (IsTrue h → gs ≡ remove fs gone) → IsSure sure h fs → IsSure sure k gs
sure_removed sure h k fs gs gone same put is held = (same ∙ (is held).0, λ name bytes found. by name bytes found (eq_by_cmp name_cmp name gone) refl)
  where
    at : (name : List ℕ) → get gs name ≡ cond (eq_by_cmp name_cmp name gone) None (get fs name)
    at name = ap (λ (f : Files). get f name) (put (is held).0) ∙ get-remove name_total fs gone name

    by : (name bytes : List ℕ) → get gs name ≡ Some bytes → (b : Bool) → eq_by_cmp name_cmp name gone ≡ b → (o : Object) × Whole gs name o
    by name bytes found true tied = (let none : get gs name ≡ None = at name ∙ ap (λ b. cond b None (get fs name)) tied in let no : ⊥ = cc in absurd no)
    by name bytes found false apart =
        let stays : get gs name ≡ get fs name = at name ∙ ap (λ b. cond b None (get fs name)) apart in
        let was = (is held).1 name bytes (sym stays ∙ found) in
        (was.0, record { file = stays ∙ was.1.file; named = was.1.named })
