-- Names among names: the test, and what it finds.
use Rattle.std.proofs.Common.{◌≡◌, ℕ, Bool, true, false, List, [], length, refl, subst, sym, ◌∙◌}
use Rattle.std.specs.List.{Contains, list_any}
use Rattle.std.specs.FinMap.{FinMap, contains_key, contains_key-keys, entries, keys, len, len-entries}
use Rattle.std.specs.Ordering.{eq_by_cmp}
use Rattle.std.proofs.lemmas.Cmp.{nat_list_eq_equiv}
use Rattle.std.proofs.lemmas.List.{length-map}
use Rattle.std.proofs.lemmas.List.Folds.{list_any-from_Any}
use Rattle.std.proofs.lemmas.Map.Views.{Contains-from_any, list_any-from_Contains}
use Rattle.std.proofs.lemmas.Slice.Eq.{bytes_eq-Decides}
use Rattle.git_name.specs.Name.{name_cmp}
use Rattle.git_name.specs.Same.{same_name}
use Rattle.fork_reach.specs.Reach.{is_among}
use Rattle.fork_reach.proofs.KeptObjects.{tied_names}

pub among-Contains : (names : List (List ℕ)) (name : List ℕ) → is_among names name ≡ true → Contains names name
among-Contains names name among = Contains-from_any (λ x y. (bytes_eq-Decides x y).0) name names among

pub among-from_Contains : (names : List (List ℕ)) (name : List ℕ) → Contains names name → is_among names name ≡ true
among-from_Contains names name among = list_any-from_Contains nat_list_eq_equiv name names among

-- a name that has a value stands among the keys
pub Contains-keys : {X : Type 0} (values : FinMap name_cmp X) (name : List ℕ) → contains_key values name ≡ true → Contains (keys values) name
Contains-keys values name there = Contains-from_any {eq = eq_by_cmp name_cmp} tied_names name (keys values) (sym (contains_key-keys values name) ∙ there)

-- one name that passes a test settles it
pub any_passes : (test : List ℕ → Bool) (names : List (List ℕ)) (name : List ℕ) → Contains names name → test name ≡ true → list_any test names ≡ true
any_passes test names name among passes = list_any-from_Any test names (among.0, name, among.1, among.2, passes)

-- no name is among none
pub empty_holds_none : (keys : List (List ℕ)) → keys ≡ [] → (name : List ℕ) → list_any (same_name name) keys ≡ true → ⊥
empty_holds_none keys empty name among = (let no : false ≡ true = subst (λ ks. list_any (same_name name) ks ≡ true) empty among in cc)

pub empty_lacks : (keys : List (List ℕ)) → keys ≡ [] → (name : List ℕ) → list_any (eq_by_cmp name_cmp name) keys ≡ false
empty_lacks keys empty name = subst (λ ks. list_any (eq_by_cmp name_cmp name) ks ≡ false) (sym empty) refl

pub hashes_none : (keys : List (List ℕ)) → keys ≡ [] → (name : List ℕ) → list_any (same_name name) keys ≡ false
hashes_none keys empty name = subst (λ ks. list_any (same_name name) ks ≡ false) (sym empty) refl

-- there are as many keys as values
pub len_keys : {X : Type 0} (values : FinMap name_cmp X) → length (keys values) ≡ len values
len_keys values = length-map (entries values) (λ e. e.0) ∙ sym (len-entries values)

-- two tests that pass the same are the same
pub same_tests : (a b : Bool) → (a ≡ true → b ≡ true) → (b ≡ true → a ≡ true) → a ≡ b
same_tests true b there back = sym (there refl)
same_tests false true there back = back refl
same_tests false false there back = refl
