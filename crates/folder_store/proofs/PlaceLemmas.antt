-- The digits of a name are those of its first byte, then those of the others.
use Rattle.std.proofs.Common.{◌≡◌, ◌≢◌, ℕ, ◌+◌, ◌*◌, Bool, true, false, cond, nat_eq, codes, List, [], ◌∷◌, ◌++◌, Option, None, Some, length, take, drop, refl, ap, sym, ◌∙◌, arith, length-append, length-drop, take-append-drop}
use Rattle.std.specs.Prelude.{IfSome, IfNone}
use Rattle.std.proofs.lemmas.List.{append-nil, length-take-le, take_all}
use Rattle.std.proofs.Math.Seq.{take-append_seam, drop-append_seam, drop-length}
use Rattle.std.specs.Cmp.Lexicographic.{pointwise}
use Rattle.std.proofs.lemmas.Slice.Eq.{slice_eq-Decides}
use Rattle.std.proofs.lemmas.Bool.Decides.{Decides-eqb}
use Rattle.hex.specs.Hex.{encode_lower, encode_with, lower_digits}
use Rattle.hex.proofs.HexLemmas.{length-encode_with}
use Rattle.git_name.specs.Name.{IsName, name_in}
use Rattle.git_name.proofs.ReadingLemmas.{name_in-encode_lower, written_name}
use Rattle.folder_store.specs.Place.{front_digits, rest_digits, place_of, part_of, swept_of, name_of_parts, behind, name_at}

-- the digits of the first byte, and then those of the others
pub digits_part : (name : List ℕ) → encode_lower name ≡ front_digits name ++ rest_digits name
unfolding encode_with
digits_part [] = refl
digits_part (b ∷ bytes) = refl

front_length : (name : List ℕ) → length name ≡ 32 → length (front_digits name) ≡ 2
front_length name long = length-encode_with lower_digits (take 1 name) ∙ ap (λ n. 2 * n) (length-take-le 1 name (omega (arith, long)))

rest_length : (name : List ℕ) → length name ≡ 32 → length (rest_digits name) ≡ 62
rest_length name long =
    let fewer : length (drop 1 name) ≡ 31 = (let cut = length-drop 1 name in omega (arith, cut, long)) in
    length-encode_with lower_digits (drop 1 name) ∙ ap (λ n. 2 * n) fewer

-- all bytes but the first
pub rest_of : (name : List ℕ) → length name ≡ 32 → take 31 (drop 1 name) ≡ drop 1 name
rest_of name long = take_all 31 (drop 1 name) (let cut = length-drop 1 name in omega (arith, cut, long))

-- once the front and the rest are written, nothing else is left
pub joined_parts : (front zeros rest text : List ℕ) (k j : ℕ) → length front ≡ k → length zeros ≡ j → text ≡ take k (front ++ zeros) ++ (rest ++ drop j (drop k (front ++ zeros))) → text ≡ front ++ rest
joined_parts front zeros rest text k j short long is =
    let first : take k (front ++ zeros) ≡ front = ap (λ n. take n (front ++ zeros)) (sym short) ∙ take-append_seam front zeros in
    let none : drop j (drop k (front ++ zeros)) ≡ [] = ap (λ n. drop j (drop n (front ++ zeros))) (sym short) ∙ ap (drop j) (drop-append_seam front zeros) ∙ ap (λ n. drop n zeros) (sym long) ∙ drop-length zeros in
    is ∙ ap (λ xs. xs ++ (rest ++ drop j (drop k (front ++ zeros)))) first ∙ ap (λ xs. front ++ (rest ++ xs)) none ∙ ap (λ xs. front ++ xs) (append-nil rest)

same_parts : (a b c d : List ℕ) → length a ≡ length c → a ++ b ≡ c ++ d → (a ≡ c) × (b ≡ d)
same_parts a b c d long is = (
  sym (take-append_seam a b) ∙ ap (λ xs. take (length a) xs) is ∙ ap (λ n. take n (c ++ d)) long ∙ take-append_seam c d,
  sym (drop-append_seam a b) ∙ ap (λ xs. drop (length a) xs) is ∙ ap (λ n. drop n (c ++ d)) long ∙ drop-append_seam c d,
)

-- 64 digits that spell a name split into its front and its rest
pub name_parts : (front rest name : List ℕ) → length front ≡ 2 → length rest ≡ 62 → front ++ rest ≡ encode_lower name → (front ≡ front_digits name) × (rest ≡ rest_digits name)
name_parts front rest name two others is =
    let whole : 2 + 62 ≡ 2 * length name = sym (length-append front rest ∙ ap (λ n. n + length rest) two ∙ ap (λ n. 2 + n) others) ∙ ap (λ (xs : List ℕ). length xs) is ∙ length-encode_with lower_digits name in
    let long : length name ≡ 32 = omega (arith, whole) in
    same_parts front rest (front_digits name) (rest_digits name) (two ∙ sym (front_length name long)) (is ∙ digits_part name)

-- the parts of a name's digits are as long as the parts of a path
pub part_lengths : (front rest name : List ℕ) → IsName name → front ≡ front_digits name → rest ≡ rest_digits name → (length front ≡ 2) × (length rest ≡ 62)
part_lengths front rest name is_name first others =
    (ap (λ (xs : List ℕ). length xs) first ∙ front_length name is_name.length, ap (λ (xs : List ℕ). length xs) others ∙ rest_length name is_name.length)

pub if_found : (text front rest : List ℕ) (o : Option (List ℕ)) → length front ≡ 2 → length rest ≡ 62 → text ≡ front ++ rest
    → IfSome o (λ name. text ≡ encode_lower name) → IfSome o (λ name. (front ≡ front_digits name) × (rest ≡ rest_digits name))
if_found text front rest None two others is found = tt
if_found text front rest (Some name) two others is found = name_parts front rest name two others (sym is ∙ found)

pub if_none : (text front rest : List ℕ) (o : Option (List ℕ)) → text ≡ front ++ rest
    → IfNone o ((name : List ℕ) → IsName name → text ≢ encode_lower name) → IfNone o ((name : List ℕ) → IsName name → front ≡ front_digits name → rest ≢ rest_digits name)
if_none text front rest None is none = λ name is_name first others. none name is_name (is ∙ ap (λ xs. xs ++ rest) first ∙ ap (λ xs. front_digits name ++ xs) others ∙ sym (digits_part name))
if_none text front rest (Some name) is none = tt

-- ---- a path and the name whose file is there
pub one_text : (x y : List ℕ) → pointwise nat_eq x y ≡ true → x ≡ y
one_text x y e = (slice_eq-Decides Decides-eqb x y (pointwise nat_eq x y) refl).0 e

pub same_text : (xs : List ℕ) → pointwise nat_eq xs xs ≡ true
same_text xs = (slice_eq-Decides Decides-eqb xs xs (pointwise nat_eq xs xs) refl).1 refl

chosen : (b : Bool) (o : Option (List ℕ)) (name : List ℕ) → cond b o None ≡ Some name → (b ≡ true) × (o ≡ Some name)
chosen true o name is = (refl, is)
chosen false o name is = absurd (cc)

-- what stands behind a front is the rest
pub behind_is : (front path : List ℕ) (next : List ℕ → Option (List ℕ)) (name : List ℕ) → behind front path next ≡ Some name → (path ≡ front ++ drop (length front) path) × (next (drop (length front) path) ≡ Some name)
behind_is front path next name is =
    let both = chosen (pointwise nat_eq (take (length front) path) front) _ name is in
    (sym (take-append-drop (length front) path) ∙ ap (λ (xs : List ℕ). xs ++ drop (length front) path) (one_text _ _ both.0), both.1)

nat_one : (m n : ℕ) → nat_eq m n ≡ true → m ≡ n
nat_one m n e = (Decides-eqb m n).0 e

-- the digits of a path's parts are those of its name
pub parts_of_name : (front rest name : List ℕ) → name_of_parts front rest ≡ Some name → (front ≡ front_digits name) × (rest ≡ rest_digits name)
parts_of_name front rest name is =
    let first = chosen (nat_eq (length front) 2) _ name is in
    let then = chosen (nat_eq (length rest) 62) _ name first.1 in
    name_parts front rest name (nat_one _ 2 first.0) (nat_one _ 62 then.0) (written_name (front ++ rest) name then.1)

-- a path that holds the file of a name is its place
pub at_place : (path name : List ℕ) → name_at path ≡ Some name → path ≡ place_of name
at_place path name is =
    let first = behind_is (codes "objects/") path (λ inner. behind (47 ∷ []) (drop 2 inner) (name_of_parts (take 2 inner))) name is in
    let then = behind_is (47 ∷ []) (drop 2 (drop 8 path)) (name_of_parts (take 2 (drop 8 path))) name first.1 in
    let parts = parts_of_name (take 2 (drop 8 path)) (drop 1 (drop 2 (drop 8 path))) name then.1 in
    first.0 ∙ ap (λ (xs : List ℕ). codes "objects/" ++ xs)
    (sym (take-append-drop 2 (drop 8 path)) ∙ ap (λ (xs : List ℕ). take 2 (drop 8 path) ++ xs) then.0
    ∙ ap (λ (xs : List ℕ). xs ++ 47 ∷ drop 1 (drop 2 (drop 8 path))) parts.0 ∙ ap (λ (xs : List ℕ). front_digits name ++ 47 ∷ xs) parts.1)

-- two digits and a name in their folder
pub at_home : (front rest : List ℕ) → length front ≡ 2 → name_at (codes "objects/" ++ front ++ 47 ∷ rest) ≡ name_of_parts front rest
at_home front rest two =
    let first : take 2 (front ++ 47 ∷ rest) ≡ front = ap (λ (n : ℕ). take n (front ++ 47 ∷ rest)) (sym two) ∙ take-append_seam front (47 ∷ rest) in
    let then : drop 2 (front ++ 47 ∷ rest) ≡ 47 ∷ rest = ap (λ (n : ℕ). drop n (front ++ 47 ∷ rest)) (sym two) ∙ drop-append_seam front (47 ∷ rest) in
    ap (λ (xs : List ℕ). behind (47 ∷ []) xs (name_of_parts (take 2 (front ++ 47 ∷ rest)))) then ∙ ap (λ (xs : List ℕ). name_of_parts xs rest) first

-- what is read as a name in the folder of two digits
pub of_parts : (front rest text : List ℕ) → length front ≡ 2 → length rest ≡ 62 → text ≡ front ++ rest → name_in text ≡ name_of_parts front rest
of_parts front rest text two others is =
    ap name_in is
    ∙ sym (ap (λ (n : ℕ). cond (nat_eq n 2) (cond (nat_eq (length rest) 62) (name_in (front ++ rest)) None) None) two ∙ ap (λ (n : ℕ). cond (nat_eq n 62) (name_in (front ++ rest)) None) others)

-- the place of a name holds its file
pub place_has : (name : List ℕ) → IsName name → name_at (place_of name) ≡ Some name
place_has name is_name =
    at_home (front_digits name) (rest_digits name) (front_length name is_name.length)
    ∙ sym (of_parts (front_digits name) (rest_digits name) _ (front_length name is_name.length) (rest_length name is_name.length) refl)
    ∙ ap name_in (sym (digits_part name)) ∙ name_in-encode_lower name is_name

either_none : (b : Bool) → cond {A = Option (List ℕ)} b None None ≡ None
either_none true = refl
either_none false = refl

-- neither a part nor a swept file is an object's file
pub part_has_none : (name : List ℕ) → IsName name → name_at (part_of name) ≡ None
part_has_none name is_name = at_home (front_digits name) (codes "part") (front_length name is_name.length) ∙ either_none (nat_eq (length (front_digits name)) 2)

pub swept_has_none : (name : List ℕ) → name_at (swept_of name) ≡ None
swept_has_none name = refl
