-- The name at a place, that it stands at no place before, and that what is counted stands somewhere.
use Rattle.std.proofs.Common.{◌≡◌, ◌<◌, ◌+◌, ℕ, zero, suc, List, [], ◌∷◌, ◌++◌, ◌||◌, Bool, Contains, get_or, length, take, slice_get, true, false, Option, Some, None, is_some, refl, sym, ap, subst, ◌∙◌, arith}
use Rattle.std.specs.List.{AllByRecursion, IsDistinct}
use Rattle.std.specs.Map.{keys_of, lookup}
use Rattle.std.specs.Option.{option_map, option_map_or}
use Rattle.std.proofs.lemmas.Cmp.{nat_list_eq_equiv}
use Rattle.std.proofs.lemmas.List.{append-nil, take_more}
use Rattle.std.proofs.lemmas.Option.{slice_get-get_or}
use Rattle.git_name.specs.Same.{is_listed, same_name}
use Rattle.looks.specs.Growth.{AreNew, GrowsAmong}
use Rattle.looks.specs.Places.{Places}
use Rattle.object_table.specs.Rows.{count_in}
use Rattle.object_table.specs.declared.row.Row.{Row}
use Rattle.object_table.proofs.PlaceLemmas.{last_any, listed_lookup, own_name}

none_is_some : {A : Type 0} (G : Type 0) (x : A) → None ≡ Some x → G
none_is_some G x e = let differs : ⊥ = cc in absurd differs

names_at : (es : List (List ℕ × Row)) (i : ℕ) → slice_get (keys_of es) i ≡ option_map (λ p. p.0) (slice_get es i)
names_at [] i = refl
names_at (e ∷ es) zero = refl
names_at (e ∷ es) (suc i) = names_at es i

pub name_at : (es : List (List ℕ × Row)) (i : ℕ) (p : List ℕ × Row) → slice_get es i ≡ Some p → slice_get (keys_of es) i ≡ Some p.0
name_at es i p is = names_at es i ∙ ap (option_map (λ p. p.0)) is

pub same_one : (o : Option (List ℕ)) (x y : List ℕ) → o ≡ Some x → o ≡ Some y → x ≡ y
same_one None x y first second = none_is_some _ x first
same_one (Some z) x y first second = let both : Some x ≡ Some y = sym first ∙ second in cc

passes : (test : List ℕ → Type 0) (xs : List (List ℕ)) (i : ℕ) (x : List ℕ) → AllByRecursion test xs → slice_get xs i ≡ Some x → test x
passes test [] i x all is = none_is_some _ x is
passes test (y ∷ ys) zero x all is = let same : y ≡ x = cc in subst test same all.0
passes test (y ∷ ys) (suc i) x all is = passes test ys i x all.1 is

pub none_before : (names : List (List ℕ)) (i : ℕ) (name : List ℕ) → IsDistinct same_name names → slice_get names i ≡ Some name → is_listed (take i names) name ≡ false
unfolding IsDistinct
none_before [] i name distinct is = none_is_some _ name is
none_before (x ∷ xs) zero name distinct is = refl
none_before (x ∷ xs) (suc i) name distinct is =
    ap (λ b. b || is_listed (take i xs) name) (nat_list_eq_equiv.symm name x ∙ passes (λ y. same_name x y ≡ false) xs i name distinct.0 is) ∙ none_before xs i name distinct.1 is

-- what is counted stands there
pub counted_listed : (es : List (List ℕ × Row)) (name : List ℕ) → 0 < count_in es name → is_listed (keys_of es) name ≡ true
counted_listed es name some = listed_lookup es name ∙ by (lookup (same_name name) es) some
  where
    by : (o : Option Row) → 0 < option_map_or (λ row. row.holders) o 0 → is_some o ≡ true
    by None none = absurd (omega (arith, none))
    by (Some n) some = refl

-- a name that is not there yet comes to the end
pub names_next : (names : List (List ℕ)) (i : ℕ) (name : List ℕ) (old new : Places) → i < length names → name ≡ get_or names i name → IsDistinct same_name names → old.names ≡ take i names → GrowsAmong (name ∷ []) old new
    → is_listed new.names name ≡ same_name name name || is_listed old.names name → new.names ≡ take (i + 1) names
names_next names i name old new within is distinct so_far grows listed = by grows.added grows.parts grows.fresh grows.among
  where
    there : is_listed new.names name ≡ true
    there = listed ∙ ap (λ b. b || is_listed old.names name) (own_name name)

    lacks : is_listed old.names name ≡ false
    lacks = ap (λ l. is_listed l name) so_far ∙ none_before names i name distinct (slice_get-get_or names i name within ∙ ap Some (sym is))

    sole : (x : List ℕ) → Contains (name ∷ []) x → name ≡ x
    sole x (zero, inside, same) = same
    sole x (suc k, inside, same) = absurd (omega (arith, inside))

    clash : {G : Type 0} (b : Bool) → b ≡ true → b ≡ false → G
    clash b is other = (let differs : true ≡ false = sym is ∙ other in absurd (let wrong : ⊥ = cc in wrong))

    by : (added : List (List ℕ)) → new.names ≡ old.names ++ added → AreNew old.names added → AllByRecursion (Contains (name ∷ [])) added → new.names ≡ take (i + 1) names
    by [] parts fresh among = clash (is_listed new.names name) there (ap (λ l. is_listed l name) (parts ∙ append-nil old.names) ∙ lacks)
    by (x ∷ []) parts fresh among =
        parts ∙ ap (λ front. front ++ x ∷ []) so_far ∙ ap (λ y. take i names ++ y ∷ []) (sym (sole x among.0) ∙ is) ∙ sym (take_more names i name within)
    by (x ∷ y ∷ rest) parts fresh among =
        clash (is_listed (old.names ++ x ∷ []) y) (last_any old.names x y ∙ ap (λ b. b || is_listed old.names y) (ap (λ n. same_name n x) (sym (sole y among.1.0)) ∙ ap (same_name name) (sym (sole x among.0)) ∙ own_name name)) fresh.1.0
