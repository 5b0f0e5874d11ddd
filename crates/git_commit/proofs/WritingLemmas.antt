-- What is written line by line is the spelling of the whole, and its parts are valid.
use Rattle.std.proofs.Common.{◌≡◌, ℕ, ◌+◌, ◌<◌, List, [], ◌∷◌, ◌++◌, map, take, length, get_or, sym, ap, subst, ◌∙◌, append_assoc}
use Rattle.std.specs.List.{flat_map, AllByRecursion}
use Rattle.std.proofs.lemmas.List.{take_more, map_push}
use Rattle.std.proofs.lemmas.List.Concat.{flat_map-append}
use Rattle.git_name.specs.Name.{IsName}
use Rattle.git_name.specs.declared.kind.Kind.TheVariants.{Commit}
use Rattle.git_header.specs.declared.header.Header.{Header}
use Rattle.git_header.specs.Header.{IsHeader}
use Rattle.git_header.specs.Left.{header_of}
use Rattle.git_name.specs.Text.{ended}
use Rattle.git_commit.specs.Commit.{parent_line}
use Rattle.git_commit.proofs.CommitLemmas.{all_push}

flat_push : (lines : List (List ℕ)) (line : List ℕ) → flat_map ended (lines ++ line ∷ []) ≡ flat_map ended lines ++ ended line
flat_push [] line = append_assoc line (10 ∷ []) []
flat_push (l ∷ lines) line = ap (λ (t : List ℕ). ended l ++ t) (flat_push lines line) ∙ sym (append_assoc (ended l) (flat_map ended lines) (ended line))

-- one more line of a parent
pub one_parent_more : (out old : List ℕ) (names : List (List ℕ)) (i : ℕ) (name : List ℕ) → i < length names → name ≡ get_or names i name → out ≡ (old ++ flat_map ended (map parent_line (take i names))) ++ ended (parent_line name)
    → out ≡ old ++ flat_map ended (map parent_line (take (i + 1) names))
one_parent_more out old names i name within is written =
    let front : take (i + 1) names ≡ take i names ++ name ∷ [] = take_more names i name within ∙ ap (λ (n : List ℕ). take i names ++ n ∷ []) (sym is) in
    let lines : map parent_line (take (i + 1) names) ≡ map parent_line (take i names) ++ parent_line name ∷ [] = ap (map parent_line) front ∙ map_push parent_line (take i names) name in
    written ∙ append_assoc old (flat_map ended (map parent_line (take i names))) (ended (parent_line name))
    ∙ ap (λ (t : List ℕ). old ++ t) (sym (ap (flat_map ended) lines ∙ flat_push (map parent_line (take i names)) (parent_line name)))

-- one more parent is a name
pub one_name_more : (names : List (List ℕ)) (i : ℕ) (name : List ℕ) → i < length names → name ≡ get_or names i name → AllByRecursion IsName (take i names) → IsName name → AllByRecursion IsName (take (i + 1) names)
one_name_more names i name within is before right =
    let front : take (i + 1) names ≡ take i names ++ name ∷ [] = take_more names i name within ∙ ap (λ (n : List ℕ). take i names ++ n ∷ []) (sym is) in
    subst (AllByRecursion IsName) (sym front) (all_push (take i names) name before right)

-- a further header of a commit is valid by its type
pub headers_right : (headers : List (Header 0)) → AllByRecursion (IsHeader Commit) (map header_of headers)
headers_right [] = tt
headers_right (header ∷ headers) = (header.right, headers_right headers)

-- a whole commit
pub written_whole : (x0 x1 x2 x3 x4 x5 x6 t a c e : List ℕ) (ps hs : List (List ℕ)) → x0 ≡ [] → x1 ≡ x0 ++ ended t → x2 ≡ x1 ++ flat_map ended ps → x3 ≡ x2 ++ ended a → x4 ≡ x3 ++ ended c → x5 ≡ x4 ++ flat_map ended hs → x6 ≡ x5 ++ e
    → x6 ≡ flat_map ended (t ∷ (ps ++ a ∷ c ∷ hs)) ++ e
written_whole x0 x1 x2 x3 x4 x5 x6 t a c e ps hs p0 p1 p2 p3 p4 p5 p6 =
    let whole : x6 ≡ (((((ended t) ++ flat_map ended ps) ++ ended a) ++ ended c) ++ flat_map ended hs) ++ e = cc in
    let later : flat_map ended (ps ++ a ∷ c ∷ hs) ≡ flat_map ended ps ++ (ended a ++ (ended c ++ flat_map ended hs)) = flat_map-append ended ps (a ∷ c ∷ hs) in
    let front : (((ended t ++ flat_map ended ps) ++ ended a) ++ ended c) ++ flat_map ended hs ≡ ended t ++ (flat_map ended ps ++ (ended a ++ (ended c ++ flat_map ended hs))) = simp append_assoc in
    whole ∙ ap (λ (r : List ℕ). r ++ e) (front ∙ ap (λ (r : List ℕ). ended t ++ r) (sym later))
