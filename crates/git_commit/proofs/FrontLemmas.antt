-- The names in the first lines of a commit.
use Rattle.std.proofs.Common.{◌≡◌, ◌≢◌, inl, ℕ, List, [], ◌∷◌, ◌++◌, map, refl, sym, ap, ◌∙◌, arith, codes, append_assoc}
use Rattle.std.specs.List.{AllByRecursion, flat_map}
use Rattle.std.proofs.lemmas.List.Concat.{flat_map-append}
use Rattle.hex.specs.Hex.{encode_lower}
use Rattle.git_name.specs.Name.{IsName}
use Rattle.git_header.specs.Header.{header_lines}
use Rattle.git_name.specs.Text.{Lacks, ended}
use Rattle.git_header.specs.Line.{IsLine, ending}
use Rattle.git_header.specs.Value.{ident_line, word_and_name}
use Rattle.git_header.proofs.FieldLemmas.{differ}
use Rattle.git_header.proofs.JudgingLemmas.{lines_then}
use Rattle.git_header.proofs.Splits.{heads, same_rest, split_unique}
use Rattle.git_header.proofs.ValueLemmas.{name_same}
use Rattle.git_commit.specs.Commit.{CommitValue, IsCommit, parent_line}
use Rattle.git_commit.specs.Fault.{First, AfterTree}
use Rattle.git_commit.proofs.CommitLemmas.{sound_commit}

-- the lines after those of the parents
abbrev others : CommitValue → List (List ℕ)
others v = ident_line (codes "author ") v.author ∷ ident_line (codes "committer ") v.committer ∷ flat_map header_lines v.headers

-- the first line of a commit has its tree, and the other lines follow
tree_at : (v : CommitValue) (tree after bytes : List ℕ) → IsName tree → IsLine (codes "tree " ++ encode_lower tree) after bytes → IsCommit v bytes
    → (tree ≡ v.tree) × (after ≡ flat_map ended (map parent_line v.parents ++ others v) ++ ending v.message)
tree_at v tree after bytes is line commit =
    let first = word_and_name (codes "tree ") v.tree in
    let no_end = sound_commit.no_end First first (record { value = encode_lower v.tree; spelling = refl; is = (v.tree, commit.right.tree, refl) }) in
    let parts = split_unique 10 (codes "tree " ++ encode_lower tree) after first (flat_map ended (map parent_line v.parents ++ others v) ++ ending v.message) line.no_end no_end
    (sym line.parts ∙ commit.spelling ∙ lines_then first (map parent_line v.parents ++ others v) (ending v.message)) in
    (name_same tree v.tree is commit.right.tree (same_rest (codes "tree ") (encode_lower tree) (encode_lower v.tree) parts.0), parts.1)

pub tree_first : (v : CommitValue) (tree after bytes : List ℕ) → IsName tree → IsLine (codes "tree " ++ encode_lower tree) after bytes → IsCommit v bytes → tree ≡ v.tree
tree_first v tree after bytes is line commit = (tree_at v tree after bytes is line commit).0

-- the lines of parents at the start of a text are those of only one list of names
same_parents : (ns ms : List (List ℕ)) (r s : List ℕ) → AllByRecursion IsName ns → AllByRecursion IsName ms → flat_map ended (map parent_line ns) ++ r ≡ flat_map ended (map parent_line ms) ++ s
    → ((line : List ℕ) → r ≢ codes "parent " ++ line) → ((line : List ℕ) → s ≢ codes "parent " ++ line) → ns ≡ ms
same_parents [] [] r s are were same no_r no_s = refl
same_parents [] (m ∷ ms) r s are were same no_r no_s =
    absurd (no_r (encode_lower m ++ 10 ∷ (flat_map ended (map parent_line ms) ++ s)) (same ∙ lines_then (parent_line m) (map parent_line ms) s))
same_parents (n ∷ ns) [] r s are were same no_r no_s =
    absurd (no_s (encode_lower n ++ 10 ∷ (flat_map ended (map parent_line ns) ++ r)) (sym same ∙ lines_then (parent_line n) (map parent_line ns) r))
same_parents (n ∷ ns) (m ∷ ms) r s are were same no_r no_s =
    let parts = split_unique 10 (parent_line n) (flat_map ended (map parent_line ns) ++ r) (parent_line m) (flat_map ended (map parent_line ms) ++ s) (no_end n are.0) (no_end m were.0)
    (sym (lines_then (parent_line n) (map parent_line ns) r) ∙ same ∙ lines_then (parent_line m) (map parent_line ms) s) in
    ap (λ name. name ∷ ns) (name_same n m are.0 were.0 (same_rest (codes "parent ") (encode_lower n) (encode_lower m) parts.0))
    ∙ ap (λ names. m ∷ names) (same_parents ns ms r s are.1 were.1 parts.1 no_r no_s)
  where
    no_end : (name : List ℕ) → IsName name → Lacks 10 (parent_line name)
    no_end name is = sound_commit.no_end AfterTree (parent_line name) (inl (record { value = encode_lower name; spelling = refl; is = (name, is, refl) }))

-- what follows them in a commit is no parent
no_parent : (v : CommitValue) (line : List ℕ) → flat_map ended (others v) ++ ending v.message ≢ codes "parent " ++ line
no_parent v line same = absurd (differ 112 97 (sym (heads 97 112 _ _ same)) (omega arith))

pub parents_behind : (v : CommitValue) (tree after rest bytes : List ℕ) (names : List (List ℕ)) → IsName tree → IsLine (codes "tree " ++ encode_lower tree) after bytes → IsCommit v bytes
    → AllByRecursion IsName names → after ≡ flat_map ended (map parent_line names) ++ rest → ((line : List ℕ) → rest ≢ codes "parent " ++ line) → names ≡ v.parents
parents_behind v tree after rest bytes names is line commit are spelled last =
    same_parents names v.parents rest (flat_map ended (others v) ++ ending v.message) are commit.right.parents
    (sym spelled ∙ (tree_at v tree after bytes is line commit).1 ∙ ap (λ lines. lines ++ ending v.message) (flat_map-append ended (map parent_line v.parents) (others v))
    ∙ append_assoc (flat_map ended (map parent_line v.parents)) (flat_map ended (others v)) (ending v.message)) last (no_parent v)
