-- A value of a map that is found by its key and written back.
use Rattle.std.proofs.Common.{◌≡◌, ℕ, Bool, true, false, cond, List, Option, Some, refl, sym, ap, ◌∙◌}
use Rattle.std.specs.declared.cmp.Ordering.{Ordering}
use Rattle.std.specs.declared.cmp.Ordering.TheVariants.{Less, Equal, Greater}
use Rattle.std.specs.Ordering.{eq_by_cmp, is_eq}
use Rattle.std.specs.Map.{lookup}
use Rattle.std.specs.BTreeMap.{is_at}
use Rattle.std.specs.FinMap.{FinMap, from_entries, get, get-insert, get_tied, insert, same_map}
use Rattle.git_name.specs.Name.{name_cmp}
use Rattle.git_name.proofs.Names.{name_total, name_exact}
use Rattle.git_name.proofs.TreeMaps.{get_of_entries, entries_after_insert}

pub found_in : {X : Type 0} (old : FinMap name_cmp X) (es : List (List ℕ × X)) (k : List ℕ) (o : Option X) → from_entries es ≡ old → o ≡ lookup (is_at (name_cmp k)) es → get old k ≡ o
found_in old es k o is here = ap (λ m. get m k) (sym is) ∙ (get_of_entries name_total es k ∙ sym here)

pub written_back : {X : Type 0} (old : FinMap name_cmp X) (es fs : List (List ℕ × X)) (k : List ℕ) (v : X) → from_entries es ≡ old
    → ((q : List ℕ) → lookup (is_at (name_cmp q)) fs ≡ cond (is_at (name_cmp k) q) (Some v) (lookup (is_at (name_cmp q)) es)) → from_entries fs ≡ insert old k v
written_back old es fs k v is set = entries_after_insert name_total name_exact es fs k v set ∙ ap (λ m. insert m k v) is

is_equal : (r : Ordering) → is_eq r ≡ true → r ≡ Equal
is_equal Less e = cc
is_equal Equal e = refl
is_equal Greater e = cc

-- to set what is there changes nothing
pub insert_same : {X : Type 0} (m : FinMap name_cmp X) (k : List ℕ) (v : X) → get m k ≡ Some v → insert m k v ≡ m
insert_same m k v here = same_map name_total name_exact _ _ (λ q. get-insert name_total m k v q ∙ at q (eq_by_cmp name_cmp q k) refl)
  where
    at : (q : List ℕ) (b : Bool) → eq_by_cmp name_cmp q k ≡ b → cond b (Some v) (get m q) ≡ get m q
    at q true e = sym here ∙ get_tied name_total m q k (is_equal _ e)
    at q false e = refl
