-- Values that are found, and maps that are unchanged.
use Rattle.std.proofs.Common.{◌≡◌, ℕ, Bool, true, false, cond, List, Option, Some, None, is_some, Result, Ok, Err, refl, ap, ◌∙◌}
use Rattle.std.specs.Prelude.{IfErr}
use Rattle.std.specs.Ordering.{eq_by_cmp}
use Rattle.std.specs.FinMap.{FinMap, contains_key, get, get-insert, get-remove, insert, remove, same_map}
use Rattle.fork_reach.proofs.KeptObjects.{tied_names}
use Rattle.git_name.specs.Name.{name_cmp}
use Rattle.git_name.proofs.Names.{name_total, name_exact}
use Rattle.git_reftx.specs.Repository.{Repository}

-- two findings of one value are the same
pub same_value : {X : Type 0} (o : Option X) (v w : X) → o ≡ Some v → o ≡ Some w → v ≡ w
same_value None v w here there = absurd (cc)
same_value (Some x) v w here there = cc

pub if_err_weaker : {T E : Type 0} {P Q : E → Type 0} (r : Result T E) → ((e : E) → P e → Q e) → IfErr r P → IfErr r Q
if_err_weaker (Ok x) more holds = tt
if_err_weaker (Err e) more holds = more e holds

-- inserting a new key and removing it leaves the map
pub put_and_taken : {X : Type 0} (m : FinMap name_cmp X) (k : List ℕ) (v : X) → contains_key m k ≡ false → remove (insert m k v) k ≡ m
put_and_taken {X} m k v absent =
    same_map name_total name_exact _ _ (λ q. get-remove name_total (insert m k v) k q ∙ ap (cond (eq_by_cmp name_cmp q k) None) (get-insert name_total m k v q) ∙ at q (eq_by_cmp name_cmp q k) refl)
  where
    none : (o : Option X) → is_some o ≡ false → None ≡ o
    none None is = refl
    none (Some x) is = absurd (cc)

    at : (q : List ℕ) (b : Bool) → eq_by_cmp name_cmp q k ≡ b → cond b None (cond b (Some v) (get m q)) ≡ get m q
    at q true same = none (get m q) (ap (contains_key m) (tied_names q k same) ∙ absent)
    at q false apart = refl

-- what exists is found
pub found : {X : Type 0} (o : Option X) → is_some o ≡ true → (x : X) × (o ≡ Some x)
found (Some x) is = (x, refl)
found None is = absurd (cc)

-- a repository with the same head is the other one with the new references
pub same_head : (old new : Repository) → new.head ≡ old.head → new ≡ record old { references = new.references }
same_head old new is = ap (λ h. record { head = h; references = new.references }) is
