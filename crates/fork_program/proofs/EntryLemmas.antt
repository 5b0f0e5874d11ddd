-- How the command that the words ask for ends the program.
use Rattle.std.proofs.Common.{◌≡◌, ◌⊎◌, inl, inr, ℕ, List, [], Option, OnOk, IfErr, Result, Ok, Err, subst, sym}
use Rattle.std.specs.Io.KnownBytes.{Keeps}
use Rattle.std.proofs.KnownBytes.{Keeps-refl}
use Rattle.clap.specs.Words.{IsAmong, Kinds, Row, Text, fault_of, subcommand_of}
use Rattle.clap.specs.declared.error.kind.ErrorKind.{ErrorKind}
use Rattle.fork_command.specs.Command.{Asks, IsShown}
use Rattle.fork_command.specs.Table.{table_app}
use Rattle.fork_command.specs.declared.command.Command.{Command}
use Rattle.fork_program.specs.Program.{Checked, Did, Ends, IsCarriedOut, IsDone, IsFault, IsUndone, Undone, Unhelped, Wanting, ending_of}
use Rattle.fork_program.specs.declared.ending.Ending.{Ending}
use Rattle.fork_program.specs.declared.ending.Ending.TheVariants.{Done, Sound, Failed, Misused, BadTenant}
use Rattle.fork_program.specs.declared.fault.Fault.{Fault}
use Rattle.fork_program.specs.declared.fault.Fault.TheVariants as fault

-- a command was done, or a fault came
pub carried : (command : Command) (input left before after : Option (List ℕ)) (did : Result (Unit {0}) Fault) (how : Ending) → how ≡ ending_of did → OnOk did (IsDone command input before after) → IfErr did (IsUndone command input left before after) → IsCarriedOut command input left before after how
carried command input left before after (Ok done) how is right why = subst (IsCarriedOut command input left before after) (sym is) right
carried command input left before after (Err fault) how is right why = subst (IsCarriedOut command input left before after) (sym is) why

-- so the program ends as the command that the words ask for
pub ends_so : (texts : List Text) (command : Command) (input left before after : Option (List ℕ)) (how : Ending) → fault_of table_app texts ≡ [] → Asks (subcommand_of table_app texts) command → IsCarriedOut command input left before after how → Ends texts input left before after how
ends_so texts command input left before after Done none asks how = Did command none asks how
ends_so texts command input left before after (Sound count) none asks how = Checked command none asks how
ends_so texts command input left before after (Failed fault) none asks how = Undone command none asks how
ends_so texts command input left before after (Misused error) none asks how = absurd how
ends_so texts command input left before after (BadTenant word) none asks how = absurd how

-- a text of `clap`'s was not given: it could not be written, or there was no memory for it
pub unhelped : (kinds : Kinds) (met : Option (Text × List Row)) (kind : ErrorKind) (input before after : Option (List ℕ)) (why : Fault) → IsShown kind → IsAmong kind kinds
    → (why ≡ fault.Write) ⊎ ((why ≡ fault.Memory) × Keeps before after) → IsFault kinds met input input before after why
unhelped kinds met kind input before after why shown among (inl write) = Unhelped kind shown among (Keeps-refl input) write
unhelped kinds met kind input before after why shown among (inr memory) = Wanting memory.0 (record { unread = Keeps-refl input; unwritten = memory.1 })
