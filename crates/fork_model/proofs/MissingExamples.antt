-- Example requests that name what a tenant lacks: one for each way of naming.
use Rattle.std.proofs.Common.{◌≡◌, ◌≢◌, ℕ, true, cond, zero, suc, List, [], ◌∷◌, ◌++◌, None, Some, Option, Ok, codes, refl, ap, subst, ◌∙◌, arith, is_some, append-nil}
use Rattle.std.specs.Prelude.{replicate, Contains}
use Rattle.std.specs.FinMap.{empty, get, get-empty, get-insert, insert}
use Rattle.std.specs.Option.{option_or}
use Rattle.std.specs.Ordering.{is_eq}
use Rattle.std.proofs.lemmas.Cmp.{tied_itself}
use Rattle.hex.specs.Hex.{decode_pairs, encode_with}
use Rattle.git_name.specs.Name.{name_cmp, name_in}
use Rattle.git_name.specs.Object.{Object, object_name}
use Rattle.git_name.proofs.Names.{name_total}
use Rattle.git_object.specs.declared.link.Link.{Link}
use Rattle.git_object.specs.ObjectIn.{links_in}
use Rattle.git_refname.specs.Rule.{least_broken_rule}
use Rattle.git_reftx.specs.Command.{command}
use Rattle.git_reftx.specs.Line.{line_at}
use Rattle.git_reftx.specs.Reading.{command_at, commands_of}
use Rattle.git_reftx.specs.Repository.{Repository, new_repository}
use Rattle.git_reftx.specs.declared.command.Change.TheVariants.{Point}
use Rattle.git_reftx.specs.declared.command.Command.{Command}
use Rattle.git_reftx.specs.declared.command.Demand.TheVariants.{Absent}
use Rattle.push_stream.specs.Spelling.{AreWithin, records_of}
use Rattle.push_stream.specs.Stream.{AreObjects, finished, stream_of}
use Rattle.push_stream.specs.Upload.{UploadValue, upload_of}
use Rattle.push_stream.proofs.WrittenLemmas.{records_flow}
use Rattle.fork_reach.specs.Objects.{with_object}
use Rattle.fork_reach.specs.Reach.{links_of_found}
use Rattle.fork_reach.specs.Source.{Objects}
use Rattle.fork_request.specs.Asked.{Pushes, EndsParts, Updates, AsksObject, AsksTree, AsksRevisions, AsksBases, Fetches}
use Rattle.fork_request.specs.Names.{is_plain_name}
use Rattle.fork_model.specs.Missing.{InRepository, IsMissing, LacksItem, LacksInStream, Linked, LacksTarget, Pointed}
use Rattle.fork_model.specs.View.{View}

-- a view without objects, and with a new repository `r`
abbrev nothing : Objects
nothing = empty {X = Object} {R = name_cmp}

abbrev bare_view : Option UploadValue → View
bare_view upload = record { repositories = insert empty (codes "r") new_repository; made = empty; objects = nothing; upload = upload; limit = 0 }

abbrev digits : List ℕ
digits = replicate 64 49

abbrev name : List ℕ
name = replicate 32 17

digits_name : name_in digits ≡ Some name
unfolding name_in decode_pairs encode_with
digits_name = refl

plain : is_plain_name 64 (codes "r") ≡ true
unfolding is_plain_name
plain = refl

found : (upload : Option UploadValue) → get (bare_view upload).repositories (codes "r") ≡ Some new_repository
found upload = get-insert name_total empty (codes "r") new_repository (codes "r")

-- what holds of a new repository holds of `r`
in_r : (upload : Option UploadValue) (Holds : Repository → Type 0) → Holds new_repository → InRepository (bare_view upload) (codes "r") Holds
in_r upload Holds holds = record { named = plain; repository = new_repository; found = found upload; holds = holds }

unseen : get nothing name ≡ None
unseen = get-empty {X = Object} name_cmp name

an_object : (upload : Option UploadValue) → IsMissing (bare_view upload) name (AsksObject name)
an_object upload = (refl, unseen)

a_tree : (upload : Option UploadValue) → IsMissing (bare_view upload) name (AsksTree name)
a_tree upload = (refl, unseen)

first_item : (judge : _) (items : List (List ℕ)) → LacksItem nothing new_repository judge (digits ∷ items) name
first_item judge items = record {
  item = digits;
  first = record { before = []; behind = items; parts = refl; passed = tt };
  named = ap (λ o. option_or o (get new_repository.references digits)) digits_name;
  unseen = unseen;
}

an_item_of_rev_list : (upload : Option UploadValue) → IsMissing (bare_view upload) name (AsksRevisions (codes "r") ((codes "^" ++ digits) ∷ codes "x" ∷ []))
an_item_of_rev_list upload = in_r upload _ (omega arith, first_item _ (codes "x" ∷ []))

an_item_of_merge_base : (upload : Option UploadValue) → IsMissing (bare_view upload) name (AsksBases (codes "r") digits (codes "x"))
an_item_of_merge_base upload = in_r upload _ (first_item _ (codes "x" ∷ []))

an_item_of_fetch : (upload : Option UploadValue) → IsMissing (bare_view upload) name (Fetches (codes "r") (digits ∷ codes "x" ∷ []))
an_item_of_fetch upload = in_r upload _ (omega arith, first_item _ (codes "x" ∷ []))

-- a command that points at it
abbrev line : List ℕ
line = codes "create refs/tags/t " ++ digits ++ codes "\n"

abbrev creates : List Command
creates = command (codes "refs/tags/t") Absent (Point name) ∷ []

a_line : commands_of line ≡ Ok creates
unfolding commands_of command_at line_at name_in decode_pairs encode_with
a_line = refl

a_stream : finished (stream_of (line ++ codes "\n")) ≡ Ok (creates, [])
unfolding stream_of command_at line_at name_in decode_pairs encode_with
a_stream = refl

none_sent : (object : Object) → Contains [] object → object_name object ≢ name
none_sent object at = absurd (omega arith)

a_target : LacksTarget nothing [] creates name
unfolding least_broken_rule
a_target = record {
  right = refl;
  apart = refl;
  command = command (codes "refs/tags/t") Absent (Point name);
  first = record { before = []; behind = []; parts = refl; passed = tt };
  points = refl;
  lacking = record { unseen = unseen; unsent = none_sent };
}

a_target_of_update_refs : (upload : Option UploadValue) → IsMissing (bare_view upload) name (Updates (codes "r") line)
a_target_of_update_refs upload = in_r upload _ (record { commands = creates; read = a_line; lacks = a_target })

in_stream : LacksInStream nothing (stream_of (line ++ codes "\n")) name
in_stream = record { commands = creates; sent = []; whole = a_stream; lacks = Pointed refl a_target }

a_target_of_a_push : IsMissing (bare_view None) name (Pushes (codes "r") (line ++ codes "\n"))
a_target_of_a_push = in_r None _ (refl, in_stream)

a_target_of_an_upload : IsMissing (bare_view (Some (upload_of (line ++ codes "\n")))) name (EndsParts (codes "r"))
a_target_of_an_upload = in_r (Some (upload_of (line ++ codes "\n"))) _ (record { upload = upload_of (line ++ codes "\n"); opened = refl; lacks = in_stream })

-- a push of one valid object that nobody has: its first link is missing, unless it leads to the object itself
sent_alone : (object : Object) → get (with_object nothing object) (object_name object) ≡ Some object
sent_alone object =
    ap (λ o. get (cond (is_some o) nothing (insert nothing (object_name object) object)) (object_name object)) (get-empty {X = Object} name_cmp (object_name object))
    ∙ get-insert name_total nothing (object_name object) object (object_name object)
    ∙ ap (λ order. cond (is_eq order) (Some object) (get nothing (object_name object))) (tied_itself name_total (object_name object))

a_link : (object : Object) (link : Link) (links : List Link) → AreObjects (object ∷ []) → AreWithin (object ∷ []) → links_in object.kind object.bytes ≡ link ∷ links → object_name object ≢ link.name
    → IsMissing (bare_view None) link.name (Pushes (codes "r") (10 ∷ records_of (object ∷ [])))
a_link object link links right within has apart =
    in_r None _ (
      refl,
      record {
        commands = [];
        sent = object ∷ [];
        whole = ap finished (records_flow (object ∷ []) right within);
        lacks = Linked (record {
          link = link;
          first = record { before = []; behind = links; parts = ap (λ o. links_of_found o ++ []) (sent_alone object) ∙ append-nil (links_in object.kind object.bytes) ∙ has; passed = tt };
          named = refl;
          lacking = record { unseen = get-empty {X = Object} name_cmp link.name; unsent = λ other at. only object link.name apart other at };
        });
      },
    )
  where
    only : (one : Object) (word : List ℕ) → object_name one ≢ word → (other : Object) → Contains (one ∷ []) other → object_name other ≢ word
    only one word differs other (zero, few, is) = subst (λ (o : Object). object_name o ≢ word) is differs
    only one word differs other (suc k, few, is) = absurd (omega arith)
