-- Links of sent objects, one object after another.
use Rattle.std.proofs.Common.{◌≡◌, ℕ, ◌+◌, ◌<◌, Bool, true, false, cond, not, is_none, List, [], ◌∷◌, Option, None, Some, refl, sym, ap, ◌∙◌, length, drop, get_or, map}
use Rattle.std.specs.FinMap.{get}
use Rattle.std.specs.List.{find, flat_map}
use Rattle.std.specs.Option.{option_map, option_or}
use Rattle.std.proofs.lemmas.List.{drop_more}
use Rattle.std.proofs.lemmas.List.Folds.{find-append}
use Rattle.git_name.specs.Object.{Object}
use Rattle.git_name.specs.declared.kind.Kind.{Kind}
use Rattle.git_name.specs.declared.kind.Kind.TheVariants.{Blob, Commit, Tree}
use Rattle.git_tree.specs.Entry.{Entry}
use Rattle.git_tree.specs.Row.{IsRow, entries_in}
use Rattle.git_tree.specs.TreeIn.{tree_in}
use Rattle.git_tree.proofs.RowLemmas.{row_is_of}
use Rattle.git_tree.proofs.TestLemmas.{is_tree_in}
use Rattle.git_object.specs.declared.link.Link.{Link}
use Rattle.git_commit.specs.Commit.{CommitValue, IsCommit}
use Rattle.git_commit.specs.CommitIn.{commit_in}
use Rattle.git_commit.proofs.CommitInLemmas.{is_commit_in}
use Rattle.git_object.specs.Links.{commit_link, entry_links, link_to}
use Rattle.git_object.specs.Object.{CommitOf, TreeOf}
use Rattle.git_object.specs.ObjectIn.{links_in, links_or_none, object_in}
use Rattle.git_reftx.proofs.RefusalLemmas.{option_or_assoc}
use Rattle.fork_reach.specs.Reach.{links_of_found}
use Rattle.fork_reach.specs.Source.{Objects, kind_in}
use Rattle.fork_push.specs.declared.refusal.PushRefusal.TheVariants.{Missing}
use Rattle.fork_push.specs.Push.{has_kind, is_missing, is_wrong, link_refusal, links_under, wrong_type}

no_links : (bytes : List ℕ) → links_in Blob bytes ≡ []
unfolding links_in object_in
no_links bytes = refl

-- a blob has no links
blob_links : (both : Objects) (name : List ℕ) → kind_in both name ≡ Some Blob → links_of_found (get both name) ≡ []
blob_links both name blob = by (get both name) blob
  where
    by : (found : Option Object) → option_map (λ object. object.kind) found ≡ Some Blob → links_of_found found ≡ []
    by None is = refl
    by (Some object) is = (let same : object.kind ≡ Blob = cc in ap (λ kind. links_in kind object.bytes) same ∙ no_links object.bytes)

-- so nothing is found in them
pub blob_found : (test : Link → Bool) (both : Objects) (name : List ℕ) → kind_in both name ≡ Some Blob → None ≡ find test (links_of_found (get both name))
blob_found test both name blob = sym (ap (find test) (blob_links both name blob))

or_none : (o : Option Link) → o ≡ option_or o None
or_none None = refl
or_none (Some link) = refl

-- and what was noted before stays
pub blob_noted : (test : Link → Bool) (both : Objects) (name : List ℕ) (old : Option Link) → kind_in both name ≡ Some Blob → old ≡ option_or old (find test (links_of_found (get both name)))
blob_noted test both name old blob = or_none old ∙ ap (option_or old) (blob_found test both name blob)

-- what is found in the links from an object on is found in its own, or else in those after it
found_from : (test : Link → Bool) (both : Objects) (names : List (List ℕ)) (i : ℕ) (name : List ℕ) → i < length names → name ≡ get_or names i name
    → find test (links_under both (drop i names)) ≡ option_or (find test (links_of_found (get both name))) (find test (links_under both (drop (i + 1) names)))
found_from test both names i name inside is =
    ap (λ left. find test (links_under both left)) (drop_more names i name inside ∙ ap (λ y. y ∷ drop (i + 1) names) (sym is))
    ∙ find-append test (links_of_found (get both name)) (links_under both (drop (i + 1) names))

-- an object in which nothing is found can be skipped
pub none_found : (test : Link → Bool) (both : Objects) (names : List (List ℕ)) (i : ℕ) (name : List ℕ) (whole : Option Link) → i < length names → name ≡ get_or names i name
    → find test (links_under both (drop i names)) ≡ whole → None ≡ find test (links_of_found (get both name)) → find test (links_under both (drop (i + 1) names)) ≡ whole
none_found test both names i name whole inside is so_far none =
    ap (λ found. option_or found (find test (links_under both (drop (i + 1) names)))) none ∙ sym (found_from test both names i name inside is) ∙ so_far

-- what is found in an object is noted, if nothing was noted before
pub found_noted : (test : Link → Bool) (both : Objects) (names : List (List ℕ)) (i : ℕ) (name : List ℕ) (old new whole : Option Link) → i < length names → name ≡ get_or names i name
    → option_or old (find test (links_under both (drop i names))) ≡ whole → new ≡ option_or old (find test (links_of_found (get both name))) → option_or new (find test (links_under both (drop (i + 1) names))) ≡ whole
found_noted test both names i name old new whole inside is so_far noted =
    ap (λ found. option_or found (find test (links_under both (drop (i + 1) names)))) noted
    ∙ option_or_assoc old (find test (links_of_found (get both name))) (find test (links_under both (drop (i + 1) names)))
    ∙ ap (option_or old) (sym (found_from test both names i name inside is)) ∙ so_far

-- a missing link, if none before it was missing
pub missing_at : (both : Objects) (names : List (List ℕ)) (i : ℕ) (name : List ℕ) (link : Link) → i < length names → name ≡ get_or names i name
    → find (is_missing both) (links_under both (drop i names)) ≡ find (is_missing both) (links_under both names) → Some link ≡ find (is_missing both) (links_of_found (get both name)) → Some (Missing link.name) ≡ link_refusal both (links_under both names)
missing_at both names i name link inside is so_far found =
    ap (λ first. option_or (option_map (λ l. Missing l.name) first) (wrong_type both (links_under both names)))
    (ap (λ first. option_or first (find (is_missing both) (links_under both (drop (i + 1) names)))) found ∙ sym (found_from (is_missing both) both names i name inside is) ∙ so_far)

-- if nothing is found in the links of valid entries, nothing is found in those of a tree
pub tree_passed : (test : Link → Bool) (bytes : List ℕ) → (IsRow bytes → find test (flat_map entry_links (entries_in bytes)) ≡ None) → find test (links_in Tree bytes) ≡ None
unfolding links_in object_in
tree_passed test bytes none = by (tree_in bytes) refl
  where
    by : (read : Option (List Entry)) → tree_in bytes ≡ read → find test (links_or_none (option_map (λ entries. TreeOf entries) read)) ≡ None
    by None is = refl
    by (Some entries) is =
        let tree = is_tree_in bytes entries is in
        let row = row_is_of bytes entries tree.are.each tree.spelling in
        ap (λ each. find test (flat_map entry_links each)) (sym row.0) ∙ none row.1

-- if nothing is found in the names of the first lines, nothing is found in the links of a commit
pub commit_passed : (test : Link → Bool) (bytes : List ℕ) → ((value : CommitValue) → IsCommit value bytes → find test (link_to value.tree Tree ∷ map commit_link value.parents) ≡ None) → find test (links_in Commit bytes) ≡ None
unfolding links_in object_in
commit_passed test bytes none = by (commit_in bytes) refl
  where
    by : (read : Option CommitValue) → commit_in bytes ≡ read → find test (links_or_none (option_map (λ commit. CommitOf commit) read)) ≡ None
    by None is = refl
    by (Some value) is = none value (is_commit_in bytes value is)

-- a link that fails the test can be skipped
pub link_passed : (test : Link → Bool) (link : Link) (links : List Link) → test link ≡ false → find test (link ∷ links) ≡ find test links
link_passed test link links none = ap (λ b. cond b (Some link) (find test links)) none

-- an entry in which nothing is found can be skipped
pub entry_passed : (test : Link → Bool) (entry : Entry) (entries : List Entry) → find test (entry_links entry) ≡ None
    → find test (flat_map entry_links (entry ∷ entries)) ≡ find test (flat_map entry_links entries)
entry_passed test entry entries none =
    find-append test (entry_links entry) (flat_map entry_links entries) ∙ ap (λ found. option_or found (find test (flat_map entry_links entries))) none

-- if no link is wrong, none is missing
left_none : (o : Option Link) (link : Link) (b : Bool) → cond b (Some link) o ≡ None → o ≡ None
left_none o link true none = (let differs : ⊥ = cc in absurd differs)
left_none o link false none = none

missing_wrong : (link : Link) (kind : Option Kind) (o found : Option Link) → cond (not (has_kind link.kind kind)) (Some link) o ≡ None → found ≡ None → cond (is_none kind) (Some link) found ≡ None
missing_wrong link None o found wrong none = (let differs : ⊥ = cc in absurd differs)
missing_wrong link (Some kind) o found wrong none = none

pub none_missing : (both : Objects) (links : List Link) → find (is_wrong both) links ≡ None → find (is_missing both) links ≡ None
none_missing both [] none = refl
none_missing both (link ∷ links) none =
    missing_wrong link (kind_in both link.name) (find (is_wrong both) links) (find (is_missing both) links) none (none_missing both links (left_none (find (is_wrong both) links) link (is_wrong both link) none))

-- if nothing is found, what was noted before stays
pub noted_still : (old found : Option Link) → found ≡ None → old ≡ option_or old found
noted_still old found none = or_none old ∙ ap (option_or old) (sym none)
