-- A commit is read in one way only.
use Rattle.std.proofs.Common.{◌≡◌, inr, ℕ, List, [], ◌∷◌, ◌++◌, map, refl, sym, ap, ◌∙◌, arith, codes, append_assoc, Option}
use Rattle.std.specs.List.{AllByRecursion, flat_map}
use Rattle.hex.specs.Hex.{encode_lower}
use Rattle.git_name.specs.Name.{IsName}
use Rattle.git_name.specs.declared.kind.Kind.TheVariants.{Commit}
use Rattle.git_header.specs.declared.fault.HeaderFault.{HeaderFault}
use Rattle.git_name.specs.Text.{ended}
use Rattle.git_header.specs.Line.{IsLine, ending}
use Rattle.git_header.specs.Ident.{IdentValue, IsIdentValue, spelled_ident}
use Rattle.git_header.specs.Header.{HeaderValue, NoHeader, IsHeader, header_lines}
use Rattle.git_commit.specs.Commit.{CommitValue, IsCommit, parent_line, commit_lines}
use Rattle.git_header.specs.Value.{word_and_name, ident_line}
use Rattle.git_header.specs.Judging.{AreRightLines, IsFirstFault}
use Rattle.git_commit.specs.Fault.{Place, First, AfterTree, AfterAuthor, Further, commit_grammar, IsCommitFault}
use Rattle.git_header.proofs.Splits.{same_rest, heads}
use Rattle.git_header.proofs.RowLemmas.{headers_unique}
use Rattle.git_header.proofs.JudgingLemmas.{same_lines}
use Rattle.git_header.proofs.FieldLemmas.{differ, one_line, lines_push}
use Rattle.git_commit.proofs.CommitLemmas.{sound_commit, commit_right, last_place, parents_right}
use Rattle.git_header.proofs.ReadLemmas.{same_ending, same_ident, fault_later, go_on, IsRead}
use Rattle.git_header.proofs.ValueLemmas.{name_same}

-- ---- read line by line

abbrev pub Read : List ℕ → List (List ℕ) → Place → List ℕ → Type 0
Read bytes lines place rest = IsRead commit_grammar First bytes lines place rest

pub read_on : (bytes : List ℕ) (lines more : List (List ℕ)) (p q : Place) (rest after : List ℕ) → Read bytes lines p rest → AreRightLines commit_grammar p more q → rest ≡ flat_map ended more ++ after → Read bytes (lines ++ more) q after
read_on bytes lines more p q rest after read right parts = go_on commit_grammar First bytes lines more p q rest after read right parts

pub read_fault : (why : HeaderFault) (bytes : List ℕ) (lines : List (List ℕ)) (p : Place) (rest : List ℕ) → Read bytes lines p rest → IsFirstFault commit_grammar p why rest → IsCommitFault why bytes
read_fault why bytes lines p rest read wrong = fault_later commit_grammar First why bytes lines p rest read wrong

abbrev tree_line : List ℕ → List ℕ
tree_line tree = word_and_name (codes "tree ") tree

abbrev author_line : IdentValue → List ℕ
author_line ident = ident_line (codes "author ") ident

abbrev committer_line : IdentValue → List ℕ
committer_line ident = ident_line (codes "committer ") ident

pub read_tree : (bytes tree rest : List ℕ) → IsName tree → IsLine (tree_line tree) rest bytes → Read bytes (tree_line tree ∷ []) AfterTree rest
read_tree bytes tree rest is line = record {
  right = (record { value = encode_lower tree; spelling = refl; is = (tree, is, refl) }, refl);
  parts = one_line (tree_line tree) rest bytes line.parts;
}

pub read_parents : (bytes rest after : List ℕ) (names lines : List (List ℕ)) → Read bytes lines AfterTree rest → AllByRecursion IsName names → rest ≡ flat_map ended (map parent_line names) ++ after → Read bytes (lines ++ map parent_line names) AfterTree after
read_parents bytes rest after names lines read are parts = read_on bytes lines (map parent_line names) AfterTree AfterTree rest after read (parents_right names are) parts

pub read_author : (bytes rest after : List ℕ) (ident : IdentValue) (lines : List (List ℕ)) → Read bytes lines AfterTree rest → IsIdentValue ident → IsLine (author_line ident) after rest → Read bytes (lines ++ author_line ident ∷ []) AfterAuthor after
read_author bytes rest after ident lines read is line =
    read_on bytes lines (author_line ident ∷ []) AfterTree AfterAuthor rest after read (inr (record { value = spelled_ident ident; spelling = refl; is = (ident, record { right = is; spelling = refl }) }), refl) (one_line (author_line ident) after rest line.parts)

pub read_committer : (bytes rest after : List ℕ) (ident : IdentValue) (lines : List (List ℕ)) → Read bytes lines AfterAuthor rest → IsIdentValue ident → IsLine (committer_line ident) after rest → Read bytes (lines ++ committer_line ident ∷ []) (Further NoHeader) after
read_committer bytes rest after ident lines read is line =
    read_on bytes lines (committer_line ident ∷ []) AfterAuthor (Further NoHeader) rest after read (record { value = spelled_ident ident; spelling = refl; is = (ident, record { right = is; spelling = refl }) }, refl) (one_line (committer_line ident) after rest line.parts)

regrouped : (t a c : List ℕ) (ps hs : List (List ℕ)) → (((t ∷ []) ++ ps) ++ a ∷ []) ++ c ∷ [] ++ hs ≡ t ∷ (ps ++ a ∷ c ∷ hs)
regrouped t a c ps hs = simp append_assoc

pub read_whole : (bytes rest : List ℕ) (v : CommitValue) → IsName v.tree → AllByRecursion IsName v.parents → IsIdentValue v.author → IsIdentValue v.committer
    → Read bytes ((((tree_line v.tree ∷ []) ++ map parent_line v.parents) ++ author_line v.author ∷ []) ++ committer_line v.committer ∷ []) (Further NoHeader) rest
    → AllByRecursion (IsHeader Commit) v.headers → rest ≡ flat_map ended (flat_map header_lines v.headers) ++ ending v.message → IsCommit v bytes
read_whole bytes rest v tree parents author committer read headers parts = record {
  right = record { tree = tree; parents = parents; author = author; committer = committer; headers = headers };
  spelling =
      lines_push ((((tree_line v.tree ∷ []) ++ map parent_line v.parents) ++ author_line v.author ∷ []) ++ committer_line v.committer ∷ []) (flat_map header_lines v.headers) bytes rest (ending v.message) read.parts parts
      ∙ ap (λ (ls : List (List ℕ)). flat_map ended ls ++ ending v.message) (regrouped (tree_line v.tree) (author_line v.author) (committer_line v.committer) (map parent_line v.parents) (flat_map header_lines v.headers));
}

-- ---- one value

same_parents : (ps qs : List (List ℕ)) (a b : IdentValue) (x y : List (List ℕ)) → AllByRecursion IsName ps → AllByRecursion IsName qs → map parent_line ps ++ author_line a ∷ x ≡ map parent_line qs ++ author_line b ∷ y
    → (ps ≡ qs) × (author_line a ≡ author_line b) × (x ≡ y)
same_parents [] [] a b x y p q e =
    let one : author_line a ≡ author_line b = cc in
    let two : x ≡ y = cc in
    (refl, one, two)
same_parents [] (m ∷ qs) a b x y p q e = let one : author_line a ≡ parent_line m = cc in absurd (differ 112 97 (sym (heads 97 112 _ _ one)) (omega arith))
same_parents (n ∷ ps) [] a b x y p q e = let one : parent_line n ≡ author_line b = cc in absurd (differ 112 97 (heads 112 97 _ _ one) (omega arith))
same_parents (n ∷ ps) (m ∷ qs) a b x y p q e =
    let one : parent_line n ≡ parent_line m = cc in
    let two : map parent_line ps ++ author_line a ∷ x ≡ map parent_line qs ++ author_line b ∷ y = cc in
    let later = same_parents ps qs a b x y p.1 q.1 two in
    let name = name_same n m p.0 q.0 (same_rest (codes "parent ") (encode_lower n) (encode_lower m) one) in
    (ap (λ (h : List ℕ). h ∷ ps) name ∙ ap (λ (t : List (List ℕ)). m ∷ t) later.0, later.1, later.2)

abbrev made : List ℕ → List (List ℕ) → IdentValue → IdentValue → List HeaderValue → Option (List ℕ) → CommitValue
made tree parents author committer headers message = record { tree = tree; parents = parents; author = author; committer = committer; headers = headers; message = message }

-- bytes are at most one commit
pub one_commit : (bytes : List ℕ) (v w : CommitValue) → IsCommit v bytes → IsCommit w bytes → v ≡ w
one_commit bytes v w one two =
    let lines = same_lines commit_grammar sound_commit First (last_place v) (last_place w) (commit_lines v) (commit_lines w) (ending v.message) (ending w.message) (commit_right v one.right) (commit_right w two.right) (v.message, refl) (w.message, refl) (sym one.spelling ∙ two.spelling) in
    let trees : tree_line v.tree ≡ tree_line w.tree = first_of_lines lines.0 in
    let others = rest_of_lines lines.0 in
    let parents = same_parents v.parents w.parents v.author w.author _ _ one.right.parents two.right.parents others in
    let committers : committer_line v.committer ≡ committer_line w.committer = first_of_lines parents.2 in
    let tree = name_same v.tree w.tree one.right.tree two.right.tree (same_rest (codes "tree ") (encode_lower v.tree) (encode_lower w.tree) trees) in
    let author = same_ident (codes "author ") v.author w.author one.right.author two.right.author parents.1 in
    let committer = same_ident (codes "committer ") v.committer w.committer one.right.committer two.right.committer committers in
    let headers = headers_unique Commit v.headers w.headers one.right.headers two.right.headers (rest_of_lines parents.2) in
    ap (λ x. made x v.parents v.author v.committer v.headers v.message) tree
    ∙ ap (λ x. made w.tree x v.author v.committer v.headers v.message) parents.0
    ∙ ap (λ x. made w.tree w.parents x v.committer v.headers v.message) author
    ∙ ap (λ x. made w.tree w.parents w.author x v.headers v.message) committer
    ∙ ap (λ x. made w.tree w.parents w.author w.committer x v.message) headers
    ∙ ap (λ x. made w.tree w.parents w.author w.committer w.headers x) (same_ending v.message w.message lines.1)
  where
    first_of_lines : {l m : List ℕ} {ls ms : List (List ℕ)} → l ∷ ls ≡ m ∷ ms → l ≡ m
    first_of_lines e = cc

    rest_of_lines : {l m : List ℕ} {ls ms : List (List ℕ)} → l ∷ ls ≡ m ∷ ms → ls ≡ ms
    rest_of_lines e = cc
