-- The folder that the words of the command line are about (own).
use Rattle.std.specs.Prelude.{◌≡◌, List, [], Option, Some, None, option_map}
use Rattle.clap.specs.Words.{Text, fault_of, subcommand_of}
use Rattle.fork_command.specs.Command.{Asks}
use Rattle.fork_command.specs.Table.{table_app}
use Rattle.fork_command.specs.declared.command.Command.{Command}
use Rattle.fork_command.specs.declared.command.Command.TheVariants.{HashObject, Run, Serve, Check, Upgrade, AddTenant, SetLimit, RemoveTenant, Repack}

-- the folder of a command
abbrev pub folder_in : Command → Option Text
folder_in (HashObject kind) = None
folder_in (Run hosting) = option_map (λ dir. dir.now) hosting.dir
folder_in (Serve socket connections at_once hosting) = option_map (λ dir. dir.now) hosting.dir
folder_in (Check dir) = Some dir.now
folder_in (Upgrade dir) = Some dir.now
folder_in (AddTenant dir grant) = Some dir.now
folder_in (SetLimit dir grant) = Some dir.now
folder_in (RemoveTenant dir tenant) = Some dir.now
folder_in (Repack dir packed) = Some dir.now

-- the folder of a command that starts a host
abbrev pub started_in : Command → Option Text
started_in (Run hosting) = option_map (λ dir. dir.now) hosting.dir
started_in (Serve socket connections at_once hosting) = option_map (λ dir. dir.now) hosting.dir
started_in command = None

-- the words ask for a command, and this is its folder
pub record AskAbout (texts : List Text) (dir : Text) : Type 0 where
  pub command : Command
  pub taken : fault_of table_app texts ≡ []
  pub asked : Asks (subcommand_of table_app texts) command
  pub folder : folder_in command ≡ Some dir

-- the words ask for a command that starts a host, and this is its folder
pub record AskToStart (texts : List Text) (dir : Text) : Type 0 where
  pub command : Command
  pub taken : fault_of table_app texts ≡ []
  pub asked : Asks (subcommand_of table_app texts) command
  pub folder : started_in command ≡ Some dir
