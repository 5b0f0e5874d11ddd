-- Lines are read back from their spelling.
use Rattle.std.proofs.Common.{codes, ◌≡◌, ◌≢◌, ℕ, ◌<◌, List, [], ◌∷◌, map, drop, refl, sym, ap, subst, ◌∙◌, arith, rules}
use Rattle.std.specs.List.{AllByRecursion, flat_map}
use Rattle.std.proofs.lemmas.List.Elements.{All-from_recursion, All-append}
use Rattle.hex.specs.Hex.{encode_lower}
use Rattle.git_name.specs.Name.{IsName, name_in}
use Rattle.git_name.proofs.ReadingLemmas.{name_in-encode_lower}
use Rattle.git_name.specs.Text.{Lacks, ended}
use Rattle.git_commit.specs.Commit.{parent_line}
use Rattle.git_header.specs.Row.{name_or_none}
use Rattle.git_commit.specs.Parents.{parents_spelled, AreParentLines}
use Rattle.git_header.proofs.RowLemmas.{lines_of, hex_lacks}

-- ---- continuation lines

-- ---- further headers

-- ---- names

abbrev parent_word : List ℕ
parent_word = codes "parent "

word_lacks : (byte : ℕ) → byte < 32 → Lacks byte parent_word
word_lacks byte low = All-from_recursion (λ b. b ≢ byte) parent_word (search (rules, arith))

pub parents_lack : (names : List (List ℕ)) → AllByRecursion IsName names → AllByRecursion (Lacks 10) (map parent_line names)
parents_lack [] are = tt
parents_lack (n ∷ names) are = (All-append (λ b. b ≢ 10) parent_word (encode_lower n) (word_lacks 10 (omega arith)) (hex_lacks 10 (omega arith) n are.0), parents_lack names are.1)

abbrev pub name_of_line : List ℕ → List ℕ
name_of_line line = name_or_none (name_in (drop 7 line))

pub names_are : (names : List (List ℕ)) → AllByRecursion IsName names → map name_of_line (map parent_line names) ≡ names
names_are [] are = refl
names_are (n ∷ names) are =
    ap (λ o. name_or_none o ∷ map name_of_line (map parent_line names)) (name_in-encode_lower n are.0) ∙ ap (λ (t : List (List ℕ)). n ∷ t) (names_are names are.1)

parents_are : (names : List (List ℕ)) → AllByRecursion IsName names → parents_spelled (flat_map ended (map parent_line names)) ≡ names
unfolding parents_spelled
parents_are names are = ap (map name_of_line) (lines_of (map parent_line names) (parents_lack names are)) ∙ names_are names are

-- the bytes of lines of parents contain just these
pub parents_of : (names : List (List ℕ)) (bytes : List ℕ) → AllByRecursion IsName names → bytes ≡ flat_map ended (map parent_line names) → (parents_spelled bytes ≡ names) × AreParentLines bytes
parents_of names bytes are is =
    let same : parents_spelled bytes ≡ names = ap parents_spelled is ∙ parents_are names are in
    (same, record { each = subst (AllByRecursion IsName) (sym same) are; spelling = is ∙ ap (λ (v : List (List ℕ)). flat_map ended (map parent_line v)) (sym same) })
