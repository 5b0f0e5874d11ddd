-- The tests find the commit that bytes are, and nothing else.
use Rattle.std.proofs.Common.{true, ◌&&◌, ◌≡◌, ℕ, List, [], ◌∷◌, ◌++◌, map, length, get_or, drop, codes, refl, sym, ap, subst, ◌∙◌, Option, Some, None, Result, Ok, Err}
use Rattle.std.specs.Prelude.{IfOk, IfErr}
use Rattle.std.specs.Bool.{Decides}
use Rattle.std.specs.List.{AllByRecursion, flat_map}
use Rattle.std.specs.Option.{option_map}
use Rattle.std.specs.Result.{result_ok}
use Rattle.std.specs.Str.{bytes_eq}
use Rattle.std.proofs.Math.Seq.{drop-append_seam}
use Rattle.std.proofs.lemmas.Bool.Decides.{Decides-and}
use Rattle.std.proofs.lemmas.Slice.Eq.{bytes_eq-Decides}
use Rattle.hex.specs.Hex.{encode_lower}
use Rattle.git_name.specs.Name.{IsName, name_in}
use Rattle.git_name.specs.declared.kind.Kind.TheVariants.{Commit}
use Rattle.git_header.specs.declared.fault.HeaderFault.{HeaderFault}
use Rattle.git_header.specs.Ident.{IdentValue, spelled_ident}
use Rattle.git_header.specs.Header.{HeaderValue, IsHeader, header_lines}
use Rattle.git_commit.specs.Commit.{CommitValue, IsCommitValue, IsCommit, parent_line, commit_lines, spelled_commit}
use Rattle.git_header.specs.Value.{ident_line}
use Rattle.git_commit.specs.Fault.{First, commit_grammar, is_parent, IsCommitFault}
use Rattle.git_header.specs.IdentIn.{ident_in}
use Rattle.git_header.specs.Parting.{header_part, message_part, name_behind}
use Rattle.git_header.specs.Row.{name_or_none, Gathered, gather}
use Rattle.git_header.specs.Tests.{is_name, is_header}
use Rattle.git_commit.specs.CommitIn.{is_right_commit, commit_from, commit_in}
use Rattle.git_commit.proofs.ParentLemmas.{names_are}
use Rattle.git_header.proofs.RowLemmas.{gather_headers}
use Rattle.git_commit.proofs.CommitLemmas.{sound_commit, commit_right, last_place, no_commit}
use Rattle.git_header.proofs.PartingLemmas.{taken, header_found, message_found}
use Rattle.git_header.proofs.FoundLemmas.{ident_again, none_of, chosen_is, chosen, name_again}
use Rattle.git_header.proofs.TestLemmas.{all_decides, name_decides, ident_decides, header_decides}

-- ---- the parts of a valid text

parents_pass : (names : List (List ℕ)) → AllByRecursion (λ line. is_parent line ≡ true) (map parent_line names)
parents_pass [] = tt
parents_pass (name ∷ names) = (refl, parents_pass names)

abbrev whole : List ℕ → List (List ℕ) → IdentValue → IdentValue → List HeaderValue → Option (List ℕ) → CommitValue
whole tree parents author committer headers message = record { tree = tree; parents = parents; author = author; committer = committer; headers = headers; message = message }

-- what follows the line of the tree
abbrev behind_tree : CommitValue → List (List ℕ)
behind_tree v = ident_line (codes "author ") v.author ∷ ident_line (codes "committer ") v.committer ∷ flat_map header_lines v.headers

-- the parts of a commit, if these are its lines of parents
abbrev with_parents : CommitValue → List (List ℕ) → CommitValue
with_parents v parents =
    let others = drop (length parents) (map parent_line v.parents ++ behind_tree v) in
    whole (name_or_none (name_in (encode_lower v.tree))) (map (λ line. name_behind 7 line) parents) (ident_in (drop 7 (get_or others 0 []))) (ident_in (drop 10 (get_or others 1 []))) (gather (drop 2 others)).headers v.message

abbrev with_others : CommitValue → List (List ℕ) → CommitValue
with_others v others =
    whole (name_or_none (name_in (encode_lower v.tree))) (map (λ line. name_behind 7 line) (map parent_line v.parents)) (ident_in (drop 7 (get_or others 0 []))) (ident_in (drop 10 (get_or others 1 []))) (gather (drop 2 others)).headers v.message

-- a valid commit is found in its lines
pub commit_again : (v : CommitValue) → IsCommitValue v → commit_from (commit_lines v) v.message ≡ v
commit_again v is =
    ap (with_parents v) (taken is_parent (map parent_line v.parents) (behind_tree v) (parents_pass v.parents) refl)
    ∙ ap (with_others v) (drop-append_seam (map parent_line v.parents) (behind_tree v))
    ∙ ap (λ x. whole x (map (λ line. name_behind 7 line) (map parent_line v.parents)) (ident_in (spelled_ident v.author)) (ident_in (spelled_ident v.committer)) (gather (flat_map header_lines v.headers)).headers v.message) (name_again v.tree is.tree)
    ∙ ap (λ x. whole v.tree x (ident_in (spelled_ident v.author)) (ident_in (spelled_ident v.committer)) (gather (flat_map header_lines v.headers)).headers v.message) (names_are v.parents is.parents)
    ∙ ap (λ x. whole v.tree v.parents x (ident_in (spelled_ident v.committer)) (gather (flat_map header_lines v.headers)).headers v.message) (ident_again v.author is.author)
    ∙ ap (λ x. whole v.tree v.parents v.author x (gather (flat_map header_lines v.headers)).headers v.message) (ident_again v.committer is.committer)
    ∙ ap (λ (g : Gathered). whole v.tree v.parents v.author v.committer g.headers v.message) (gather_headers Commit v.headers is.headers)

-- ---- the tests

value_decides : (v : CommitValue) → Decides (is_right_commit v) (IsCommitValue v)
value_decides v =
    let names = Decides-and _ _ (name_decides v.tree) (all_decides is_name IsName name_decides v.parents) in
    let idents = Decides-and _ _ (Decides-and _ _ names (ident_decides v.author)) (ident_decides v.committer) in
    let parts = Decides-and _ _ idents (all_decides (is_header Commit) (IsHeader Commit) (header_decides Commit) v.headers) in (
      λ test. let p = parts.0 test in record { tree = p.0.0.0.0; parents = p.0.0.0.1; author = p.0.0.1; committer = p.0.1; headers = p.1 },
      λ is. parts.1 ((((is.tree, is.parents), is.author), is.committer), is.headers),
    )

pub commit_decides : (v : CommitValue) (bytes : List ℕ) → Decides (is_right_commit v && bytes_eq (spelled_commit v) bytes) (IsCommit v bytes)
commit_decides v bytes =
    let parts = Decides-and _ _ (value_decides v) (bytes_eq-Decides (spelled_commit v) bytes) in (
      λ test. let p = parts.0 test in record { right = p.0; spelling = sym p.1 },
      λ is. parts.1 (is.right, sym is.spelling),
    )

found_in : (v : CommitValue) (bytes : List ℕ) → IsCommit v bytes → commit_from (header_part bytes) (message_part bytes) ≡ v
found_in v bytes is =
    let right = commit_right v is.right in
    ap (λ (b : List ℕ). commit_from (header_part b) (message_part b)) is.spelling
    ∙ ap (λ (ls : List (List ℕ)). commit_from ls (message_part (spelled_commit v))) (header_found commit_grammar sound_commit First (last_place v) (commit_lines v) v.message right)
    ∙ ap (λ (m : Option (List ℕ)). commit_from (commit_lines v) m) (message_found commit_grammar sound_commit First (last_place v) (commit_lines v) v.message right)
    ∙ commit_again v is.right

-- the tests find the commit that bytes are
pub commit_in_is : (bytes : List ℕ) (v : CommitValue) → IsCommit v bytes → commit_in bytes ≡ Some v
unfolding commit_in
commit_in_is bytes v is =
    let found = commit_from (header_part bytes) (message_part bytes) in
    let same = found_in v bytes is in
    chosen (is_right_commit found && bytes_eq (spelled_commit found) bytes) found ((commit_decides found bytes).1 (subst (λ (c : CommitValue). IsCommit c bytes) (sym same) is)) ∙ ap Some same

-- and nothing else
pub is_commit_in : (bytes : List ℕ) (v : CommitValue) → commit_in bytes ≡ Some v → IsCommit v bytes
unfolding commit_in
is_commit_in bytes v h =
    let found = commit_from (header_part bytes) (message_part bytes) in
    let is = chosen_is (is_right_commit found && bytes_eq (spelled_commit found) bytes) found v h in
    subst (λ (c : CommitValue). IsCommit c bytes) is.1 ((commit_decides found bytes).0 is.0)

pub no_commit_in : (bytes : List ℕ) → ((v : CommitValue) → IsCommit v bytes → ⊥) → commit_in bytes ≡ None
no_commit_in bytes never = none_of (commit_in bytes) (λ v h. never v (is_commit_in bytes v h))

-- what is read is what the tests find
pub read_value : {C : Type 0} (view : C → CommitValue) (bytes : List ℕ) (r : Result C HeaderFault) → IfOk r (λ c. IsCommit (view c) bytes) → IfErr r (λ why. IsCommitFault why bytes) → option_map view (result_ok r) ≡ commit_in bytes
read_value view bytes (Ok c) found exact = sym (commit_in_is bytes (view c) found)
read_value view bytes (Err why) found exact = sym (no_commit_in bytes (λ v is. no_commit why bytes v is exact))
