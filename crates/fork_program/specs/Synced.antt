-- What a start repeats of a journal that a loss of power left (own).
use Rattle.std.specs.Prelude.{◌≡◌, ℕ, All, false, List, ◌++◌, Some, length}
use Rattle.std.specs.FinMap.{get}
use Rattle.std.specs.List.{concat}
use Rattle.chained_log.specs.Log.{Fits, Pieces, contents, log_bytes}
use Rattle.devices.specs.Crash.{MayLeave}
use Rattle.devices.specs.Device.{Files, Past}
use Rattle.fork_frame.specs.Frame.{AreFrames}
use Rattle.fork_frame.specs.declared.frame.Frame.{Frame}
use Rattle.fork_host.specs.Shown.{HostState}
use Rattle.fork_model.specs.World.{AreFine}
use Rattle.fork_program.specs.Repeating.{IsRepeated}
use Rattle.fork_program.specs.UploadLog.{is_reference}
use Rattle.fork_request.specs.declared.reply.Reply.{Reply}
use Rattle.fork_wire.specs.Sessions.{IsAnswered}
use Rattle.git_name.specs.Name.{IsName}
use Rattle.host_folder.specs.Appending.{IsAppendedTo, bytes_at}
use Rattle.host_folder.specs.Journal.{first_line, journal_file}

-- requests were done again, without a host fault: all of these, and then the first of the later ones
pub record AreDoneAgain (frames later : List Frame) (old new : HostState) (count : ℕ) : Type 0 where
  pub found : List Frame
  pub lost : List Frame
  pub parts : later ≡ found ++ lost
  pub replies : List Reply
  pub answered : IsAnswered old new (frames ++ found) replies
  pub fine : AreFine replies
  pub number : length (frames ++ found) ≡ count

-- what is left of a journal that refers to no log: its first line, all pieces of the requests that were synced, and a front of the
-- pieces of later ones
pub record IsLeftOf (shown : Files) (name : List ℕ) (frames later : List Frame) : Type 0 where
  pub standing : List ℕ
  pub line : IsName standing
  pub synced : Pieces
  pub others : Pieces
  pub front : List ℕ
  pub rest : List ℕ
  pub fits : All Fits (contents synced) × All Fits (contents others)
  pub kept : AreFrames frames (concat (contents synced)) × AreFrames later (concat (contents others))
  pub whole : log_bytes name (synced ++ others) ≡ log_bytes name synced ++ (front ++ rest)
  pub left : get shown (journal_file name) ≡ Some (first_line standing ++ (log_bytes name synced ++ front))
  pub alone : is_reference (log_bytes name synced ++ front) ≡ false

-- a start that finds it does again all requests that were synced, in their order, and then the first of the later ones
abbrev pub SyncedIsRepeated : Type 0
SyncedIsRepeated = (shown : Files) (name : List ℕ) (frames later : List Frame) (old new : HostState) (count : ℕ) → IsLeftOf shown name frames later → IsRepeated shown name old new count → AreDoneAgain frames later old new count

-- a journal that refers to no log, on a device: its first line, and a front of pieces of requests, of which the first ones are sure
pub record IsJournalOf (past : Past) (name : List ℕ) (frames later : List Frame) : Type 0 where
  pub standing : List ℕ
  pub line : IsName standing
  pub synced : Pieces
  pub others : Pieces
  pub fits : All Fits (contents synced) × All Fits (contents others)
  pub kept : AreFrames frames (concat (contents synced)) × AreFrames later (concat (contents others))
  pub sure : IsAppendedTo (journal_file name) (first_line standing ++ log_bytes name synced) past
  pub front : List ℕ
  pub rest : List ℕ
  pub whole : log_bytes name (synced ++ others) ≡ front ++ rest
  pub shown : bytes_at (journal_file name) past ≡ first_line standing ++ front
  pub alone : is_reference front ≡ false

-- whatever a loss of power leaves of it, a start that succeeds does again all requests that were sure, in their order, and then the
-- first of the later ones
abbrev pub LossIsRepeated : Type 0
LossIsRepeated = (past : Past) (left : Files) (name : List ℕ) (frames later : List Frame) (old new : HostState) (count : ℕ) → IsJournalOf past name frames later → MayLeave past.base past.effects left → IsRepeated left name old new count → AreDoneAgain frames later old new count
