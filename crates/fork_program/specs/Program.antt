-- How the program ends (own), depending on how `clap` reads its words: `kinds` are the errors that `clap` finds in them.
use Rattle.std.specs.Prelude.{◌≡◌, ℕ, ◌≤◌, List, [], ◌∷◌, ◌++◌, codes, Option, Result, Ok, Err, ⊤}
use Rattle.std.specs.Io.KnownBytes.{Appends, Keeps}
use Rattle.clap.specs.Words.{IsAmong, Kinds, Row, Text, fault_of, subcommand_of}
use Rattle.clap.specs.declared.error.kind.ErrorKind.{ErrorKind}
use Rattle.fork_command.specs.Command.{Asks, IsRefused, IsShown}
use Rattle.fork_command.specs.Table.{table_app}
use Rattle.fork_command.specs.declared.command.Command.{Command}
use Rattle.fork_command.specs.declared.command.Command.TheVariants.{HashObject, Run, Serve, Check, Upgrade, AddTenant, SetLimit, RemoveTenant, Repack}
use Rattle.fork_command.specs.declared.error.CommandError.TheVariants as refusal
use Rattle.fork_frame.specs.declared.session_end.Ended.TheVariants.{Clean}
use Rattle.fork_program.specs.Changing.{IsLimitSet, IsLimitUnset, IsNotAdded, IsNotRemoved, IsTenantAdded, IsTenantRemoved}
use Rattle.fork_program.specs.Fault.{fault_line}
use Rattle.fork_program.specs.Hashing.{TellsName, IsUnnamed}
use Rattle.fork_program.specs.Keeping.{IsNotUpgraded, IsUnchecked, IsUnopened, IsUntouched, IsUpgraded, again_line, sound_line}
use Rattle.fork_program.specs.Running.{IsSessionOf, IsUnserved}
use Rattle.fork_program.specs.Serving.{IsListened, IsUnlistened}
use Rattle.fork_program.specs.declared.ending.Ending.{Ending}
use Rattle.fork_program.specs.declared.ending.Ending.TheVariants.{Done, Sound, Failed, Misused, BadTenant}
use Rattle.fork_program.specs.declared.fault.Fault.{Fault}
use Rattle.fork_program.specs.declared.fault.Fault.TheVariants as fault

-- the exit status
abbrev pub status_of : Ending → ℕ
status_of Done = 0
status_of (Sound count) = 0
status_of (Failed fault) = 1
status_of (Misused error) = 2
status_of (BadTenant word) = 2

-- what belongs on standard error; nothing is claimed of `clap`'s text
abbrev pub IsTold : Ending → Option (List ℕ) → Option (List ℕ) → Type 0
IsTold Done before after = Keeps before after
IsTold (Sound count) before after = Appends before after (again_line count)
IsTold (Failed fault) before after = Appends before after (fault_line fault)
IsTold (Misused error) before after = (text : List ℕ) × Appends before after text
IsTold (BadTenant word) before after = Appends before after (codes "forkhost: bad tenant " ++ word.now ++ 10 ∷ [])

-- something belongs on standard error
abbrev pub IsToTell : Ending → Type 0
IsToTell Done = ⊥
IsToTell (Sound count) = 1 ≤ count
IsToTell (Failed fault) = ⊤
IsToTell (Misused error) = ⊤
IsToTell (BadTenant word) = ⊤

-- the command, which is not a check, was done
abbrev pub IsDone : Command → Option (List ℕ) → Option (List ℕ) → Option (List ℕ) → Type 0
IsDone (HashObject kind) input before after = TellsName kind input before after
IsDone (Run hosting) input before after = IsSessionOf hosting input before after Clean
IsDone (Serve socket connections at_once hosting) input before after = IsListened hosting at_once connections × Keeps before after
IsDone (Check dir) input before after = ⊥
IsDone (Upgrade dir) input before after = IsUpgraded before after
IsDone (AddTenant dir grant) input before after = IsTenantAdded grant × Keeps before after
IsDone (SetLimit dir grant) input before after = IsLimitSet grant × Keeps before after
IsDone (RemoveTenant dir tenant) input before after = IsTenantRemoved tenant × Keeps before after
IsDone (Repack dir packed) input before after = Keeps before after

-- a check found the folder sound
abbrev pub FindsSound : Command → Option (List ℕ) → Option (List ℕ) → Option (List ℕ) → Option (List ℕ) → Type 0
FindsSound (Check dir) input left before after = Keeps input left × Appends before after sound_line
FindsSound command input left before after = ⊥

-- why the command was not done
abbrev pub IsUndone : Command → Option (List ℕ) → Option (List ℕ) → Option (List ℕ) → Option (List ℕ) → Fault → Type 0
IsUndone (HashObject kind) input left before after fault = IsUnnamed kind input before after fault
IsUndone (Run hosting) input left before after fault = IsUnserved hosting input left before after fault
IsUndone (Serve socket connections at_once hosting) input left before after fault = IsUnlistened hosting at_once connections fault × IsUntouched input left before after
IsUndone (Check dir) input left before after fault = IsUnchecked before after fault × Keeps input left
IsUndone (Upgrade dir) input left before after fault = IsNotUpgraded before after fault × Keeps input left
IsUndone (AddTenant dir grant) input left before after fault = IsNotAdded grant fault × IsUntouched input left before after
IsUndone (SetLimit dir grant) input left before after fault = IsLimitUnset grant fault × IsUntouched input left before after
IsUndone (RemoveTenant dir tenant) input left before after fault = IsNotRemoved tenant fault × IsUntouched input left before after
IsUndone (Repack dir packed) input left before after fault = IsUnopened fault × IsUntouched input left before after

-- how a command ended: it was done, or a fault occurred
abbrev pub ending_of : Result (Unit {0}) Fault → Ending
ending_of (Ok done) = Done
ending_of (Err fault) = Failed fault

-- how the command ended
abbrev pub IsCarriedOut : Command → Option (List ℕ) → Option (List ℕ) → Option (List ℕ) → Option (List ℕ) → Ending → Type 0
IsCarriedOut command input left before after Done = IsDone command input before after
IsCarriedOut command input left before after (Sound count) = FindsSound command input left before after
IsCarriedOut command input left before after (Failed fault) = IsUndone command input left before after fault
IsCarriedOut command input left before after ending = ⊥

-- the words ask for a check, and the folder is sound
pub data IsChecked (kinds : Kinds) (met : Option (Text × List Row)) (input left before after : Option (List ℕ)) : Type 0 where
  Checked : (command : Command) → kinds ≡ [] → Asks met command → FindsSound command input left before after → IsChecked kinds met input left before after

-- the program succeeded
pub data IsWell (kinds : Kinds) (met : Option (Text × List Row)) (input left before after : Option (List ℕ)) : Type 0 where
  -- the words ask for a command, and it was done
  Did : (command : Command) → kinds ≡ [] → Asks met command → IsDone command input before after → IsWell kinds met input left before after
  -- they ask for help or for the version, and it was given
  Helped : (kind : ErrorKind) → IsShown kind → IsAmong kind kinds → Keeps input left → (text : List ℕ) → Appends before after text → IsWell kinds met input left before after

-- why this fault occurred
pub data IsFault (kinds : Kinds) (met : Option (Text × List Row)) (input left before after : Option (List ℕ)) (why : Fault) : Type 0 where
  -- the words ask for a command, and it failed
  Undone : (command : Command) → kinds ≡ [] → Asks met command → IsUndone command input left before after why → IsFault kinds met input left before after why
  -- they ask for help or for the version, which could not be written
  Unhelped : (kind : ErrorKind) → IsShown kind → IsAmong kind kinds → Keeps input left → why ≡ fault.Write → IsFault kinds met input left before after why
  -- there was no memory to read the words, or for their help
  Wanting : why ≡ fault.Memory → IsUntouched input left before after → IsFault kinds met input left before after why

-- these words end the program in this way
abbrev pub Ends : List Text → Option (List ℕ) → Option (List ℕ) → Option (List ℕ) → Option (List ℕ) → Ending → Type 0
Ends texts input left before after Done = IsWell (fault_of table_app texts) (subcommand_of table_app texts) input left before after
Ends texts input left before after (Sound count) = IsChecked (fault_of table_app texts) (subcommand_of table_app texts) input left before after
Ends texts input left before after (Failed fault) = IsFault (fault_of table_app texts) (subcommand_of table_app texts) input left before after fault
Ends texts input left before after (Misused error) = IsRefused (fault_of table_app texts) (subcommand_of table_app texts) (refusal.Usage error) × IsUntouched input left before after
Ends texts input left before after (BadTenant word) = IsRefused (fault_of table_app texts) (subcommand_of table_app texts) (refusal.BadTenant word) × IsUntouched input left before after

-- the status is that of a right ending, and something belongs on standard error
pub record IsEndedUntold (texts : List Text) (input left before after : Option (List ℕ)) (status : ℕ) : Type 0 where
  pub how : Ending
  pub right : Ends texts input left before after how
  pub answered : status ≡ status_of how
  pub telling : IsToTell how

-- the status is that of a right ending, and what belongs on standard error was written
pub record IsEndedAndTold (texts : List Text) (input left before after untold told : Option (List ℕ)) (status : ℕ) : Type 0 where
  pub how : Ending
  pub right : Ends texts input left before after how
  pub answered : status ≡ status_of how
  pub said : IsTold how untold told
