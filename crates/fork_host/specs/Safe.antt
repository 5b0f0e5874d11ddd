-- What holds of an answer over any store, even one that does not return what was written to it.
use Rattle.std.specs.Prelude.{◌≡◌, ◌⊎◌, ℕ, false, List, None, ⊤}
use Rattle.std.specs.FinMap.{get}
use Rattle.fork_query.specs.MergeBase.{ListsSeen}
use Rattle.fork_query.specs.Objects.{AreRecords, IsRecordUnder}
use Rattle.fork_reach.specs.Objects.{measures_of}
use Rattle.fork_reach.specs.Source.{Objects}
use Rattle.fork_request.specs.Asked.{Ask, AsksBases, AsksObject, Fetches}
use Rattle.fork_request.specs.declared.reply.Reply.TheVariants.{Done}
use Rattle.fork_request.specs.Told.{is_done}
use Rattle.fork_request.specs.declared.reply.Reply.{Reply}
use Rattle.fork_model.specs.Sound.{IsOrderly}
use Rattle.fork_model.specs.View.{View}
use Rattle.fork_host.specs.Shape.{view_shape}

-- a view that is in order stays so, its shape stays if the reply has no data, and the reply keeps its bounds
pub record IsSafe (Within : Reply → Type 0) (old : View) (reply : Reply) (new : View) : Type 0 where
  pub orderly : IsOrderly old → IsOrderly new
  pub kept : is_done reply ≡ false → view_shape new ≡ view_shape old
  pub faults : Within reply

-- what is answered under a name has that name: the record that `cat-file` returns is of an object of the name that was asked for,
-- and those that `fetch` returns are each of an object under its own name
abbrev pub IsNamedText : Ask → List ℕ → Type 0
IsNamedText (AsksObject name) text = IsRecordUnder name text
IsNamedText (Fetches repository items) text = AreRecords text
IsNamedText ask text = ⊤

abbrev pub IsNamedReply : Ask → Reply → Type 0
IsNamedReply ask reply = (text : List ℕ) → reply ≡ Done text → IsNamedText ask text

-- `merge-base` returns names of objects that are seen, whatever parents a store returns
abbrev pub IsSeenText : Objects → Ask → List ℕ → Type 0
IsSeenText seen (AsksBases repository first second) text = ListsSeen seen text
IsSeenText seen ask text = ⊤

abbrev pub TellsSeen : Objects → Ask → Reply → Type 0
TellsSeen seen ask reply = (text : List ℕ) → reply ≡ Done text → IsSeenText seen ask text

-- what is seen now has, name by name, the kind and the length that it had; or nothing was seen under the name, and it has those of
-- what the giver sees
abbrev pub IsTakenFrom : Objects → Objects → Objects → Type 0
IsTakenFrom giver old new = (name : List ℕ) → (get (measures_of new) name ≡ get (measures_of old) name)
    ⊎ ((get (measures_of old) name ≡ None) × (get (measures_of new) name ≡ get (measures_of giver) name))
