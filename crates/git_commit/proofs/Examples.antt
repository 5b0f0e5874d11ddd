-- Examples of commits: what the definitions say of small ones, in the form of git-commit-tree(1), and of bytes that
-- are not one.
use Rattle.std.proofs.Common.{◌≡◌, ℕ, List, [], ◌∷◌, ◌++◌, codes, None, Some, refl}
use Rattle.std.specs.Fmt.{digits}
use Rattle.hex.specs.Hex.{encode_with, decode_pairs}
use Rattle.git_name.specs.Name.{name_in}
use Rattle.git_name.specs.Number.{number_in}
use Rattle.git_header.specs.declared.ident.Sign.TheVariants.{Plus, Minus}
use Rattle.git_header.specs.Ident.{IdentValue}
use Rattle.git_commit.specs.Commit.{IsCommit}
use Rattle.git_header.specs.Parting.{header_part, message_part}
use Rattle.git_header.specs.Row.{lines_in, gather}
use Rattle.git_commit.specs.CommitIn.{commit_in}
use Rattle.git_commit.proofs.CommitInLemmas.{is_commit_in}

-- the name of the empty tree
abbrev pub empty : List ℕ
empty = 110 ∷ 241 ∷ 155 ∷ 65 ∷ 34 ∷ 92 ∷ 83 ∷ 105 ∷ 241 ∷ 193 ∷ 4 ∷ 212 ∷ 93 ∷ 141 ∷ 133 ∷ 239 ∷ 169 ∷ 176 ∷ 87 ∷ 181 ∷ 59 ∷ 20 ∷ 180 ∷ 185 ∷ 185 ∷ 57 ∷ 221 ∷ 116 ∷ 222 ∷ 204 ∷ 83 ∷ 33 ∷ []

abbrev tree_line : List ℕ
tree_line = codes "tree 6ef19b41225c5369f1c104d45d8d85efa9b057b53b14b4b9b939dd74decc5321\n"

abbrev parent_line : List ℕ
parent_line = codes "parent 6ef19b41225c5369f1c104d45d8d85efa9b057b53b14b4b9b939dd74decc5321\n"

abbrev nobody : IdentValue
nobody = record { name = []; email = []; seconds = 0; sign = Plus; zone = codes "0000" }

-- nobody's commit of the empty tree: no parent, no further header and no message
pub smallest_commit : commit_in (tree_line ++ codes "author <> 0 +0000\ncommitter <> 0 +0000\n") ≡ Some (record { tree = empty; parents = []; author = nobody; committer = nobody; headers = []; message = None })
unfolding commit_in header_part message_part lines_in gather name_in number_in encode_with decode_pairs digits
smallest_commit = refl

-- it is one by the relation
pub smallest_is : IsCommit (record { tree = empty; parents = []; author = nobody; committer = nobody; headers = []; message = None }) (tree_line ++ codes "author <> 0 +0000\ncommitter <> 0 +0000\n")
smallest_is = is_commit_in _ _ smallest_commit

-- every part is present: two parents, a further header of two lines, and a message that ends in no line feed
pub whole_commit : commit_in (tree_line ++ (parent_line ++ (parent_line ++ codes "author A <a@x> 100 -0130\ncommitter <> 0 +0000\nsig a b\n c\n\nhi"))) ≡ Some (record {
  tree = empty;
  parents = empty ∷ empty ∷ [];
  author = record { name = codes "A "; email = codes "a@x"; seconds = 100; sign = Minus; zone = codes "0130" };
  committer = nobody;
  headers = record { key = codes "sig"; value = codes "a b"; more = codes "c" ∷ [] } ∷ [];
  message = Some (codes "hi");
})
unfolding commit_in header_part message_part lines_in gather name_in number_in encode_with decode_pairs digits
whole_commit = refl

-- an empty message is present
pub empty_message : commit_in (tree_line ++ codes "author <> 0 +0000\ncommitter <> 0 +0000\n\n") ≡ Some (record { tree = empty; parents = []; author = nobody; committer = nobody; headers = []; message = Some [] })
unfolding commit_in header_part message_part lines_in gather name_in number_in encode_with decode_pairs digits
empty_message = refl

-- without the last line feed
pub cut_commit : commit_in (tree_line ++ codes "author <> 0 +0000\ncommitter <> 0 +0000") ≡ None
unfolding commit_in header_part message_part lines_in gather name_in number_in encode_with decode_pairs digits
cut_commit = refl

-- no bytes, and no committer
pub no_bytes : commit_in [] ≡ None
unfolding commit_in header_part message_part lines_in gather name_in number_in encode_with decode_pairs digits
no_bytes = refl

pub no_committer : commit_in (tree_line ++ codes "author <> 0 +0000\n\nhi") ≡ None
unfolding commit_in header_part message_part lines_in gather name_in number_in encode_with decode_pairs digits
no_committer = refl

-- a parent after the author is no further header
pub late_parent : commit_in (tree_line ++ (codes "author <> 0 +0000\ncommitter <> 0 +0000\n" ++ parent_line)) ≡ None
unfolding commit_in header_part message_part lines_in gather name_in number_in encode_with decode_pairs digits
late_parent = refl

-- seconds with a needless zero, and a name with no space before its bracket
pub padded_seconds : commit_in (tree_line ++ codes "author <> 00 +0000\ncommitter <> 0 +0000\n") ≡ None
unfolding commit_in header_part message_part lines_in gather name_in number_in encode_with decode_pairs digits
padded_seconds = refl

pub joined_name : commit_in (tree_line ++ codes "author A<> 0 +0000\ncommitter <> 0 +0000\n") ≡ None
unfolding commit_in header_part message_part lines_in gather name_in number_in encode_with decode_pairs digits
joined_name = refl
