-- The notes of a device in memory (own): which effects they are, the newest first.
use Rattle.std.specs.Prelude.{◌≡◌, ℕ, List, [], ◌∷◌}
use Rattle.std.specs.FinMap.{get}
use Rattle.devices.specs.Device.{Files, Effect, Past, Wrote, Added, Moved, Removed, SyncedFile, SyncedFolder, FailedFile, FailedFolder, files_of}
use Rattle.devices.specs.declared.note.Note.{Note}
use Rattle.devices.specs.declared.note.Note.TheVariants.{Write, Append, Rename, Remove, SyncFile, SyncFolder, FailFile, FailFolder}

-- the effect of a note
abbrev pub effect_of : Note → Effect
effect_of (Write path bytes) = Wrote path bytes
effect_of (Append path bytes) = Added path bytes
effect_of (Rename from to) = Moved from to
effect_of (Remove path) = Removed path
effect_of (SyncFile path) = SyncedFile path
effect_of (SyncFolder folder) = SyncedFolder folder
effect_of (FailFile path) = FailedFile path
effect_of (FailFolder folder) = FailedFolder folder

-- the effects of notes
abbrev pub effects_of : List Note → List Effect
effects_of [] = []
effects_of (note ∷ notes) = effect_of note ∷ effects_of notes

-- what was done to the files with which a device began
abbrev pub past_of : Files → List Note → Past
past_of base notes = record { base = base; effects = effects_of notes }

-- of those files the notes make these
abbrev pub Make : Files → List Note → Files → Type 0
Make base notes files = (q : List ℕ) → get files q ≡ get (files_of (past_of base notes)) q
