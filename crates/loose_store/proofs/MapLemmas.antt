-- Mapping the values of a finite map commutes with removing a key, and leaves the keys.
use Rattle.std.proofs.Common.{◌≡◌, Bool, true, false, List, [], ◌∷◌, Option, None, cond, refl, sym, ap, ◌∙◌}
use Rattle.std.specs.declared.cmp.Ordering.{Ordering}
use Rattle.std.specs.Option.{option_map}
use Rattle.std.specs.Cmp.{IsTotalOrder}
use Rattle.std.specs.Map.{keys_of}
use Rattle.std.specs.FinMap.{FinMap, IsAntisymmetric, get, get-remove, remove, same_map}
use Rattle.git_name.specs.Maps.{map_values, mapped}
use Rattle.git_name.proofs.MapLemmas.{get_map_values}

none_at : {X Y : Type 0} (f : X → Y) (o : Option X) (b : Bool) → option_map f (cond b None o) ≡ cond b None (option_map f o)
none_at f o true = refl
none_at f o false = refl

-- removing a key before or after mapping gives the same map
pub map_values_remove : {K X Y : Type 0} {R : K → K → Ordering} → IsTotalOrder R → IsAntisymmetric R → (f : X → Y) (m : FinMap R X) (k : K) → map_values f (remove m k) ≡ remove (map_values f m) k
map_values_remove total exact f m k = same_map total exact _ _ (λ q.
    get_map_values total f (remove m k) q ∙ ap (option_map f) (get-remove total m k q) ∙ none_at f (get m q) _
    ∙ ap (cond _ None) (sym (get_map_values total f m q)) ∙ sym (get-remove total (map_values f m) k q))

-- mapping leaves the keys
pub keys_of_mapped : {K X Y : Type 0} (f : X → Y) (es : List (K × X)) → keys_of (mapped f es) ≡ keys_of es
keys_of_mapped f [] = refl
keys_of_mapped f (e ∷ es) = ap (λ ks. e.0 ∷ ks) (keys_of_mapped f es)
