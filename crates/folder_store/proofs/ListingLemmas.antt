-- The names in listings of all homes are those of a folder's contents.
use Rattle.std.proofs.Common.{◌≡◌, ◌<◌, ◌+◌, ℕ, zero, suc, ◌&&◌, ◌||◌, Bool, true, false, cond, List, [], ◌∷◌, ◌++◌, Option, Some, None, Result, Ok, Err, length, take, drop, codes, nat_eq, is_some, map, get_or, option_map, take-append-drop, ◌≤◌, refl, sym, ◌∙◌, ap, subst, arith, append_assoc, All, Vec, Global}
use Rattle.std.specs.List.{list_any, dedup}
use Rattle.std.specs.List.Sorted.{IsPermutation, IsSorted}
use Rattle.std.specs.BTreeMap.{is_at}
use Rattle.std.specs.Cmp.{eq_by_cmp_equiv}
use Rattle.std.specs.Cmp.Lexicographic.{pointwise}
use Rattle.std.specs.Ordering.{is_eq}
use Rattle.std.specs.FinMap.{contains_key, contains_key-keys, get, keys}
use Rattle.std.proofs.Math.Seq.{take-append_seam, drop-append_seam}
use Rattle.std.proofs.lemmas.Bool.Decides.{Decides-eqb, nat_tests}
use Rattle.std.proofs.lemmas.Cmp.{nat_list_eq_equiv}
use Rattle.std.proofs.lemmas.Grind.{flat_map-append}
use Rattle.std.proofs.lemmas.List.{append-nil, drop_more, drop_all}
use Rattle.std.proofs.lemmas.List.Elements.{All-weaker}
use Rattle.std.proofs.lemmas.List.Folds.{list_any-append, list_any_none}
use Rattle.std.proofs.lemmas.List.Kept.{Contains-dedup, Contains-from_dedup, IsStrictlySortedBy-dedup}
use Rattle.std.proofs.lemmas.List.Sorted.{list_any-IsPermutation}
use Rattle.std.proofs.lemmas.Map.Lookups.{btree_set_from_contains}
use Rattle.std.proofs.lemmas.Map.Text.{is_eq-slice_cmp}
use Rattle.std.proofs.lemmas.Map.Views.{Contains-from_any, list_any-from_Contains}
use Rattle.hex.specs.Hex.{decode_sized, encode_lower, encode_with, is_hex_digit, lower_digits}
use Rattle.hex.specs.declared.error.FromHexError.{FromHexError}
use Rattle.hex.proofs.HexLemmas.{decode_of-ok, decode_sized-ok, decode_sized-twice, length-encode_with}
use Rattle.git_name.specs.Name.{IsName, name_cmp, name_in, same_again}
use Rattle.git_name.specs.Same.{same_name}
use Rattle.git_name.proofs.Names.{name_total, name_exact}
use Rattle.git_name.proofs.SortedNames.{sorted_entries}
use Rattle.devices.specs.Device.{Files, name_in_folder, names_in_folder, plain}
use Rattle.folder_store.specs.Contents.{contents_of}
use Rattle.folder_store.specs.Listing.{one_or_none, names_called, names_at, names_below}
use Rattle.folder_store.specs.Place.{front_digits, rest_digits, home_with, place_of, name_at, name_of_parts}
use Rattle.folder_store.proofs.ContentLemmas.{both_of, both_true, not_true, one_key, same_key, own, own_has, has_own, get_contents, shown}
use Rattle.folder_store.proofs.PlaceLemmas.{at_home, at_place, one_text, parts_of_name, same_text}

-- ---- what a text that writes a name is
decoded : (text name : List ℕ) → name_in text ≡ Some name → decode_sized text 32 ≡ Ok name
unfolding name_in
decoded text name is = from (decode_sized text 32) is
  where
    kept : (b : Bool) (n : List ℕ) → cond b (Some n) None ≡ Some name → n ≡ name
    kept true n is = cc
    kept false n is = absurd (cc)

    from : (r : Result (List ℕ) FromHexError) → same_again text r ≡ Some name → r ≡ Ok name
    from (Ok found) is = ap Ok (kept _ found is)
    from (Err error) is = absurd (cc)

pub record IsSpelled (text name : List ℕ) : Type 0 where
  pub is_name : IsName name
  pub digits : All (λ c. is_hex_digit c ≡ true) text

pub spelled : (text name : List ℕ) → name_in text ≡ Some name → IsSpelled text name
spelled text name is =
    let read = decoded text name is in
    let long : length text ≡ 64 = decode_sized-ok text 32 name read in
    let facts = decode_of-ok text name (sym (decode_sized-twice text 32 long) ∙ read) in
    let short : length name ≡ 32 = (let twice = facts.2 in omega (arith, twice, long)) in
    record { is_name = record { length = short; bytes = facts.3 }; digits = facts.1 }

parts_name : (front rest name : List ℕ) → name_of_parts front rest ≡ Some name → name_in (front ++ rest) ≡ Some name
parts_name front rest name is = by (nat_eq (length front) 2) (nat_eq (length rest) 62) is
  where
    by : (b d : Bool) → cond b (cond d (name_in (front ++ rest)) None) None ≡ Some name → name_in (front ++ rest) ≡ Some name
    by true true is = is
    by true false is = absurd (cc)
    by false d is = absurd (cc)

pub no_slash_digit : (c : ℕ) → is_hex_digit c ≡ true → nat_eq c 47 ≡ false
no_slash_digit c digit = not_true _ (λ same.
    let is : c ≡ 47 = (Decides-eqb c 47).0 same in
    let bad : is_hex_digit 47 ≡ true = subst (λ (n : ℕ). is_hex_digit n ≡ true) is digit in
    absurd (cc))

any_parts : (p : ℕ → Bool) (xs ys : List ℕ) → list_any p (xs ++ ys) ≡ false → list_any p ys ≡ false
any_parts p [] ys e = e
any_parts p (x ∷ xs) ys e = any_parts p xs ys (second (p x) _ e)
  where
    second : (a b : Bool) → a || b ≡ false → b ≡ false
    second true b e = absurd (cc)
    second false b e = e

pub no_slash : (front rest name : List ℕ) → name_of_parts front rest ≡ Some name → list_any (λ b. nat_eq b 47) rest ≡ false
no_slash front rest name is =
    any_parts (λ b. nat_eq b 47) front rest
    (list_any_none (λ (b : ℕ). nat_eq b 47) (front ++ rest) (All-weaker (λ c. is_hex_digit c ≡ true) (λ c. nat_eq c 47 ≡ false) no_slash_digit (front ++ rest) (spelled (front ++ rest) name (parts_name front rest name is)).digits))

-- ---- one path, in the listing of one home
abbrev test : List ℕ → List ℕ → Bool
test q = is_at (name_cmp q)

abbrev digits_of : ℕ → List ℕ
digits_of first = encode_lower (first ∷ [])

abbrev home : ℕ → List ℕ
home first = home_with (first ∷ [])

in_home : ℕ → List ℕ → Bool
in_home first q = pointwise nat_eq (digits_of first) (front_digits q)

same_bools : (a b : Bool) → (a ≡ true → b ≡ true) → (b ≡ true → a ≡ true) → a ≡ b
same_bools true b there back = sym (there refl)
same_bools false true there back = back refl
same_bools false false there back = refl

behind_home : (front rest : List ℕ) → (codes "objects/" ++ front ++ 47 ∷ []) ++ rest ≡ codes "objects/" ++ front ++ 47 ∷ rest
behind_home front rest = ap (λ (xs : List ℕ). codes "objects/" ++ xs) (append_assoc front (47 ∷ []) rest)

two_digits : (first : ℕ) → length (digits_of first) ≡ 2
two_digits first = length-encode_with lower_digits (first ∷ [])

-- the path of what a home lists
pub at_path : (first : ℕ) (rest : List ℕ) → name_at (home first ++ rest) ≡ name_of_parts (digits_of first) rest
at_path first rest = ap name_at (behind_home (digits_of first) rest) ∙ at_home (digits_of first) rest (two_digits first)

abbrev rest_in : ℕ → List ℕ → List ℕ
rest_in first p = drop (length (home first)) p

listed_one : (first : ℕ) (q p : List ℕ) → list_any (test q) (names_called (digits_of first) (name_in_folder (home first) p)) ≡ true
    → (p ≡ home first ++ rest_in first p) × (name_of_parts (digits_of first) (rest_in first p) ≡ Some q)
listed_one first q p is = by_front (pointwise nat_eq (take (length (home first)) p) (home first)) refl is
  where
    by_name : (o : Option (List ℕ)) → list_any (test q) (one_or_none o ++ []) ≡ true → o ≡ Some q
    by_name (Some n) e = ap Some (sym (one_key q n (either (is_eq (name_cmp q n)) e)))
      where
        either : (b : Bool) → b || false ≡ true → b ≡ true
        either true e = refl
        either false e = e
    by_name None e = absurd (cc)

    by_plain : (s : Bool) → list_any (test q) (names_called (digits_of first) (cond s [] (rest_in first p ∷ []))) ≡ true → name_of_parts (digits_of first) (rest_in first p) ≡ Some q
    by_plain true e = absurd (cc)
    by_plain false e = by_name (name_of_parts (digits_of first) (rest_in first p)) e

    by_front : (b : Bool) → pointwise nat_eq (take (length (home first)) p) (home first) ≡ b → list_any (test q) (names_called (digits_of first) (cond b (plain (rest_in first p)) [])) ≡ true
        → (p ≡ home first ++ rest_in first p) × (name_of_parts (digits_of first) (rest_in first p) ≡ Some q)
    by_front true e found = (
      sym (take-append-drop (length (home first)) p) ∙ ap (λ (xs : List ℕ). xs ++ rest_in first p) (one_text _ _ e),
      by_plain (list_any (λ b. nat_eq b 47) (rest_in first p)) found,
    )
    by_front false e found = absurd (cc)

names_one : (first : ℕ) (q rest : List ℕ) → name_of_parts (digits_of first) rest ≡ Some q → names_called (digits_of first) (name_in_folder (home first) (home first ++ rest)) ≡ q ∷ []
names_one first q rest is =
    ap (λ (xs : List ℕ). names_called (digits_of first) (cond (pointwise nat_eq xs (home first)) (plain (drop (length (home first)) (home first ++ rest))) [])) (take-append_seam (home first) rest)
    ∙ ap (λ (b : Bool). names_called (digits_of first) (cond b (plain (drop (length (home first)) (home first ++ rest))) [])) (same_text (home first))
    ∙ ap (λ (xs : List ℕ). names_called (digits_of first) (plain xs)) (drop-append_seam (home first) rest)
    ∙ ap (λ (b : Bool). names_called (digits_of first) (cond b [] (rest ∷ []))) (no_slash (digits_of first) rest q is)
    ∙ ap (λ (o : Option (List ℕ)). one_or_none o ++ []) is

found_one : (first : ℕ) (q p : List ℕ) → (own q && in_home first q) && test (place_of q) p ≡ true → list_any (test q) (names_called (digits_of first) (name_in_folder (home first) p)) ≡ true
unfolding in_home
found_one first q p is =
    let outer = both_of _ (test (place_of q) p) is in
    let inner = both_of (own q) (in_home first q) outer.0 in
    let digits : digits_of first ≡ front_digits q = one_text _ _ inner.1 in
    let path : p ≡ home first ++ rest_digits q =
    sym (one_key (place_of q) p outer.1) ∙ ap (λ (xs : List ℕ). codes "objects/" ++ xs ++ 47 ∷ rest_digits q) (sym digits) ∙ sym (behind_home (digits_of first) (rest_digits q)) in
    let name : name_of_parts (digits_of first) (rest_digits q) ≡ Some q =
    sym (at_path first (rest_digits q)) ∙ ap name_at (sym path ∙ sym (one_key (place_of q) p outer.1)) ∙ own_has q inner.0 in
    ap (λ (xs : List ℕ). list_any (test q) (names_called (digits_of first) (name_in_folder (home first) xs))) path
    ∙ ap (list_any (test q)) (names_one first q (rest_digits q) name) ∙ ap (λ (b : Bool). b || false) (same_key q)

any_one : (first : ℕ) (q p : List ℕ) → list_any (test q) (names_called (digits_of first) (name_in_folder (home first) p)) ≡ (own q && in_home first q) && test (place_of q) p
unfolding in_home
any_one first q p = same_bools _ _ (λ is.
    let found = listed_one first q p is in
    let named : name_at p ≡ Some q = ap name_at found.0 ∙ at_path first (rest_in first p) ∙ found.1 in
    let path : p ≡ place_of q = at_place p q named in
    let parts = parts_of_name (digits_of first) (rest_in first p) q found.1 in
    both_true _ _
    (both_true (own q) (in_home first q) (has_own q (ap name_at (sym path) ∙ named)) (subst (λ (xs : List ℕ). pointwise nat_eq (digits_of first) xs ≡ true) parts.0 (same_text (digits_of first))))
    (subst (λ (xs : List ℕ). is_eq (name_cmp (place_of q) xs) ≡ true) (sym path) (same_key (place_of q))))
    (found_one first q p)

-- ---- all paths
and_false : (a : Bool) → a && false ≡ false
and_false true = refl
and_false false = refl

spread : (a b c : Bool) → ((a && b) || (a && c)) ≡ (a && (b || c))
spread true b c = refl
spread false b c = refl

joined : (a b c d : Bool) → (((a && b) && d) || ((a && c) && d)) ≡ ((a && (b || c)) && d)
joined true true true true = refl
joined true true true false = refl
joined true true false true = refl
joined true true false false = refl
joined true false true true = refl
joined true false true false = refl
joined true false false true = refl
joined true false false false = refl
joined false b c d = refl

any_at : (first : ℕ) (q : List ℕ) (paths : List (List ℕ)) → list_any (test q) (names_at first paths) ≡ (own q && in_home first q) && list_any (test (place_of q)) paths
any_at first q [] = sym (and_false (own q && in_home first q))
any_at first q (p ∷ paths) =
    let f : List ℕ → List (List ℕ) = λ rest. one_or_none (name_of_parts (digits_of first) rest) in
    ap (list_any (test q)) (flat_map-append f (name_in_folder (home first) p) (names_in_folder (home first) paths))
    ∙ list_any-append (test q) (names_called (digits_of first) (name_in_folder (home first) p)) (names_at first paths)
    ∙ (λ i. any_one first q p i || any_at first q paths i)
    ∙ spread (own q && in_home first q) (test (place_of q) p) (list_any (test (place_of q)) paths)

below_home : ℕ → List ℕ → Bool
below_home zero q = false
below_home (suc first) q = below_home first q || in_home first q

any_below : (count : ℕ) (q : List ℕ) (paths : List (List ℕ)) → list_any (test q) (names_below count paths) ≡ (own q && below_home count q) && list_any (test (place_of q)) paths
unfolding below_home names_below
any_below zero q paths = sym (ap (λ (b : Bool). b && list_any (test (place_of q)) paths) (and_false (own q)))
any_below (suc count) q paths =
    list_any-append (test q) (names_below count paths) (names_at count paths)
    ∙ (λ i. any_below count q paths i || any_at count q paths i)
    ∙ joined (own q) (below_home count q) (in_home count q) (list_any (test (place_of q)) paths)

either_true : (a b : Bool) → a ≡ true → a || b ≡ true
either_true true b e = refl
either_true false b e = absurd (cc)

or_true : (a b : Bool) → b ≡ true → a || b ≡ true
or_true true b e = refl
or_true false b e = e

below_at : (count first : ℕ) (q : List ℕ) → first < count → in_home first q ≡ true → below_home count q ≡ true
unfolding below_home
below_at zero first q less here = absurd (omega (arith, less))
below_at (suc count) first q less here = by (nat_eq first count) refl (λ small. below_at count first q small here)
  where
    by : (b : Bool) → nat_eq first count ≡ b → (first < count → below_home count q ≡ true) → (below_home count q || in_home count q) ≡ true
    by true e rest = or_true (below_home count q) (in_home count q) (subst (λ (n : ℕ). in_home n q ≡ true) ((Decides-eqb first count).0 e) here)
    by false e rest = either_true (below_home count q) (in_home count q) (rest (grind (arith, nat_tests)))

empty_has_none : own [] ≡ true → ⊥
unfolding encode_with
empty_has_none is = (let bad : None ≡ Some [] = own_has [] is in absurd (cc))

own_below : (q : List ℕ) → own q ≡ true → below_home 256 q ≡ true
unfolding in_home
own_below q is =
    let whole : name_of_parts (front_digits q) (rest_digits q) ≡ Some q = sym (at_home (front_digits q) (rest_digits q) (two q is)) ∙ own_has q is in
    below q (spelled _ q (parts_name (front_digits q) (rest_digits q) q whole)).is_name
  where
    below : (q : List ℕ) → IsName q → below_home 256 q ≡ true
    below [] is_name = (let long = is_name.length in absurd (omega (arith, long)))
    below (b ∷ bytes) is_name = below_at 256 b (b ∷ bytes) (is_name.bytes 0) (same_text (digits_of b))

    two : (q : List ℕ) → own q ≡ true → length (front_digits q) ≡ 2
    two [] is = absurd (empty_has_none is)
    two (b ∷ bytes) is = two_digits b

pub any_listed : (files : Files) (q : List ℕ) → list_any (test q) (names_below 256 (keys files)) ≡ contains_key (contents_of files) q
any_listed files q =
    any_below 256 q (keys files) ∙ by (own q) refl ∙ sym (ap is_some (get_contents files q))
  where
    found : (o : Option (List ℕ)) → is_some o ≡ is_some (option_map shown o)
    found (Some x) = refl
    found None = refl

    by : (b : Bool) → own q ≡ b → (b && below_home 256 q) && list_any (test (place_of q)) (keys files) ≡ is_some (cond b (option_map shown (get files (place_of q))) None)
    by true e = ap (λ (b : Bool). b && list_any (test (place_of q)) (keys files)) (own_below q e) ∙ sym (contains_key-keys files (place_of q)) ∙ found (get files (place_of q))
    by false e = refl

-- ---- a listing that is sorted
any_kept : (q : List ℕ) (names : List (List ℕ)) → list_any (test q) (dedup same_name names) ≡ list_any (test q) names
any_kept q names = same_bools _ _
    (λ is. list_any-from_Contains (eq_by_cmp_equiv name_total) q names (Contains-from_dedup same_name names q (Contains-from_any (λ x y e. one_key x y e) q (dedup same_name names) is)))
    (λ is. list_any-from_Contains (eq_by_cmp_equiv name_total) q (dedup same_name names) (Contains-dedup nat_list_eq_equiv (λ x y e. one_text x y e) names q (Contains-from_any (λ x y e. one_key x y e) q names is)))

pub sorted_listing : (files : Files) (sorted kept : List (List ℕ)) → IsPermutation (names_below 256 (keys files)) sorted → IsSorted name_cmp sorted → kept ≡ dedup same_name sorted → kept ≡ keys (contents_of files)
sorted_listing files sorted kept moved in_order is =
    is ∙ btree_set_from_contains name_total (record { keys = dedup same_name sorted }) (record { keys = keys (contents_of files) })
    (IsStrictlySortedBy-dedup name_total (λ x y. sym (is_eq-slice_cmp x y)) sorted in_order) (sorted_entries (contents_of files))
    (λ q. any_kept q sorted ∙ sym (list_any-IsPermutation (test q) (names_below 256 (keys files)) sorted moved) ∙ any_listed files q ∙ contains_key-keys (contents_of files) q) name_exact

-- ---- the loops
abbrev called : List (Vec ℕ Global) → List (List ℕ)
called listing = map (λ v. v.items) listing

pub listed_more : (front : List ℕ) (names new all : List (List ℕ)) (listing : List (Vec ℕ Global)) (i : ℕ) (v : Vec ℕ Global) → i < length listing → v ≡ get_or listing i v
    → new ≡ names ++ one_or_none (name_of_parts front v.items) → names ++ names_called front (called (drop i listing)) ≡ all → new ++ names_called front (called (drop (i + 1) listing)) ≡ all
listed_more front names new all listing i v within is added so_far =
    let next : drop i listing ≡ v ∷ drop (i + 1) listing = drop_more listing i v within ∙ ap (λ (n : Vec ℕ Global). n ∷ drop (i + 1) listing) (sym is) in
    ap (λ (xs : List (List ℕ)). xs ++ names_called front (called (drop (i + 1) listing))) added
    ∙ append_assoc names (one_or_none (name_of_parts front v.items)) (names_called front (called (drop (i + 1) listing)))
    ∙ ap (λ (l : List (Vec ℕ Global)). names ++ names_called front (called l)) (sym next) ∙ so_far

pub listed_all : (front : List ℕ) (names all : List (List ℕ)) (listing : List (Vec ℕ Global)) (i : ℕ) → length listing ≤ i → names ++ names_called front (called (drop i listing)) ≡ all → names ≡ all
listed_all front names all listing i past so_far =
    sym (append-nil names) ∙ ap (λ (l : List (Vec ℕ Global)). names ++ names_called front (called l)) (sym (drop_all i listing past)) ∙ so_far

pub none_below : (paths : List (List ℕ)) → names_below 0 paths ≡ []
unfolding names_below
none_below paths = refl

pub below_more : (count : ℕ) (paths names : List (List ℕ)) → names ≡ names_below count paths ++ names_at count paths → names ≡ names_below (count + 1) paths
unfolding names_below
below_more count paths names is = is ∙ sym (ap (λ (n : ℕ). names_below n paths) (one_more count))
  where
    one_more : (n : ℕ) → n + 1 ≡ suc n
    one_more n = omega arith
