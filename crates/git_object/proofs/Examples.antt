-- Examples of objects: what the definitions say of small tags, in the form of git-mktag(1), and of empty bytes.
use Rattle.std.proofs.Common.{◌≡◌, ℕ, List, [], ◌∷◌, ◌++◌, codes, None, Some, refl}
use Rattle.std.specs.Fmt.{digits}
use Rattle.hex.specs.Hex.{encode_with, decode_pairs}
use Rattle.git_name.specs.Name.{name_in}
use Rattle.git_name.specs.Number.{number_in}
use Rattle.git_name.specs.declared.kind.Kind.TheVariants as kind
use Rattle.git_tree.specs.Row.{entries_in, first_entries}
use Rattle.git_tree.specs.TreeIn.{tree_in}
use Rattle.git_header.specs.declared.ident.Sign.TheVariants.{Plus}
use Rattle.git_commit.specs.CommitIn.{commit_in}
use Rattle.git_header.specs.Parting.{header_part, message_part}
use Rattle.git_header.specs.Row.{lines_in, gather}
use Rattle.git_object.specs.Links.{link_to}
use Rattle.git_object.specs.Object.{BlobValue, TreeOf}
use Rattle.git_object.specs.ObjectIn.{object_in, links_in}
use Rattle.git_object.specs.Tag.{TagValue, IsTag}
use Rattle.git_object.specs.TagIn.{tag_in}
use Rattle.git_object.proofs.TagInLemmas.{is_tag_in}

-- the name of the empty blob
abbrev blob : List ℕ
blob = 71 ∷ 58 ∷ 15 ∷ 76 ∷ 59 ∷ 232 ∷ 169 ∷ 54 ∷ 129 ∷ 162 ∷ 103 ∷ 227 ∷ 177 ∷ 233 ∷ 167 ∷ 220 ∷ 218 ∷ 17 ∷ 133 ∷ 67 ∷ 111 ∷ 225 ∷ 65 ∷ 247 ∷ 116 ∷ 145 ∷ 32 ∷ 163 ∷ 3 ∷ 114 ∷ 24 ∷ 19 ∷ []

abbrev object_line : List ℕ
object_line = codes "object 473a0f4c3be8a93681a267e3b1e9a7dcda1185436fe141f7749120a303721813\n"

abbrev small : TagValue
small = record { object = blob; kind = kind.Blob; name = codes "v"; tagger = None; headers = []; message = None }

-- the smallest tag: no tagger, no further header and no message
pub smallest_tag : tag_in (object_line ++ codes "type blob\ntag v\n") ≡ Some small
unfolding tag_in header_part message_part lines_in gather name_in number_in encode_with decode_pairs digits
smallest_tag = refl

-- it is one by the relation, and an object with one link
pub smallest_is : IsTag small (object_line ++ codes "type blob\ntag v\n")
smallest_is = is_tag_in _ _ smallest_tag

pub smallest_links : links_in kind.Tag (object_line ++ codes "type blob\ntag v\n") ≡ link_to blob kind.Blob ∷ []
unfolding links_in object_in tag_in header_part message_part lines_in gather name_in number_in encode_with decode_pairs digits
smallest_links = refl

-- every part is present
pub whole_tag : tag_in (object_line ++ codes "type tag\ntag v\ntagger A <a@x> 100 +0000\nsig a b\n c\n\nhi\n") ≡ Some (record {
  object = blob;
  kind = kind.Tag;
  name = codes "v";
  tagger = Some (record { name = codes "A "; email = codes "a@x"; seconds = 100; sign = Plus; zone = codes "0000" });
  headers = record { key = codes "sig"; value = codes "a b"; more = codes "c" ∷ [] } ∷ [];
  message = Some (codes "hi\n");
})
unfolding tag_in header_part message_part lines_in gather name_in number_in encode_with decode_pairs digits
whole_tag = refl

-- an unknown type, no type, an empty name, and no last line feed
pub blub_is_none : object_in kind.Tag (object_line ++ codes "type blub\ntag v\n") ≡ None
unfolding object_in tag_in header_part message_part lines_in gather name_in number_in encode_with decode_pairs digits
blub_is_none = refl

pub blub_has_no_links : links_in kind.Tag (object_line ++ codes "type blub\ntag v\n") ≡ []
unfolding links_in object_in tag_in header_part message_part lines_in gather name_in number_in encode_with decode_pairs digits
blub_has_no_links = refl

pub no_type : tag_in (object_line ++ codes "tag v\n") ≡ None
unfolding tag_in header_part message_part lines_in gather name_in number_in encode_with decode_pairs digits
no_type = refl

pub no_name : tag_in (object_line ++ codes "type blob\ntag \n") ≡ None
unfolding tag_in header_part message_part lines_in gather name_in number_in encode_with decode_pairs digits
no_name = refl

pub cut_tag : tag_in (object_line ++ codes "type blob\ntag v") ≡ None
unfolding tag_in header_part message_part lines_in gather name_in number_in encode_with decode_pairs digits
cut_tag = refl

-- empty bytes are a blob and a tree, but neither a commit nor a tag
pub empty_blob : object_in kind.Blob [] ≡ Some (BlobValue [])
unfolding object_in
empty_blob = refl

pub empty_tree : object_in kind.Tree [] ≡ Some (TreeOf [])
unfolding object_in tree_in entries_in first_entries
empty_tree = refl

pub no_commit : object_in kind.Commit [] ≡ None
unfolding object_in commit_in header_part message_part lines_in gather name_in number_in encode_with decode_pairs digits
no_commit = refl

pub no_tag : object_in kind.Tag [] ≡ None
unfolding object_in tag_in header_part message_part lines_in gather name_in number_in encode_with decode_pairs digits
no_tag = refl

-- a blob links to nothing, whatever its bytes are
pub blob_has_no_links : (bytes : List ℕ) → links_in kind.Blob bytes ≡ []
unfolding links_in object_in
blob_has_no_links bytes = refl

-- a tree of a file and a gitlink links to the file alone
pub gitlink_is_no_link : links_in kind.Tree (codes "100644 a" ++ 0 ∷ (blob ++ (codes "160000 b" ++ 0 ∷ blob))) ≡ link_to blob kind.Blob ∷ []
unfolding links_in object_in tree_in entries_in first_entries
gitlink_is_no_link = refl

-- a commit links to its tree, and then to its parents
pub commit_links : links_in kind.Commit (codes "tree 473a0f4c3be8a93681a267e3b1e9a7dcda1185436fe141f7749120a303721813\nparent 473a0f4c3be8a93681a267e3b1e9a7dcda1185436fe141f7749120a303721813\nauthor <> 0 +0000\ncommitter <> 0 +0000\n") ≡ link_to blob kind.Tree ∷ link_to blob kind.Commit ∷ []
unfolding links_in object_in commit_in header_part message_part lines_in gather name_in number_in encode_with decode_pairs digits
commit_links = refl
