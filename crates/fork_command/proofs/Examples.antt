-- Example command lines, as the definitions compute them.
use Rattle.std.proofs.Common.{◌≡◌, ℕ, Option, Some, None, List, [], ◌∷◌, codes, option_map, refl}
use Rattle.clap.specs.Words.{Text, fault_of, first_of, one_of, subcommand_of}
use Rattle.clap.specs.declared.error.kind.ErrorKind.TheVariants.{ArgumentConflict, DisplayHelp, DisplayVersion, MissingRequiredArgument, MissingSubcommand, TooManyValues, UnknownArgument, ValueValidation}
use Rattle.clap.proofs.OnLiterals.{clap_on_literals}
use Rattle.fork_command.specs.Command.{at_once_given, connections_given, tenants_given, type_given}
use Rattle.fork_command.specs.Table.{table_app}

pub hash_object_is_taken : fault_of table_app (codes "forkhost" ∷ codes "hash-object" ∷ []) ≡ []
unfolding clap_on_literals table_app
hash_object_is_taken = refl

pub no_type_is_blob : option_map {U = Text × List ℕ} (λ p. (p.0, type_given p.1)) (subcommand_of table_app (codes "forkhost" ∷ codes "hash-object" ∷ [])) ≡ Some (codes "hash-object", codes "blob")
unfolding clap_on_literals table_app
no_type_is_blob = refl

pub a_type_is_taken : option_map {U = Text × List ℕ} (λ p. (p.0, type_given p.1)) (subcommand_of table_app (codes "forkhost" ∷ codes "hash-object" ∷ codes "--type=tree" ∷ [])) ≡ Some (codes "hash-object", codes "tree")
unfolding clap_on_literals table_app
a_type_is_taken = refl

pub run_is_taken : fault_of table_app (codes "forkhost" ∷ codes "run" ∷ codes "alice=1" ∷ codes "bob=2" ∷ []) ≡ []
unfolding clap_on_literals table_app
run_is_taken = refl

pub tenants_are_given : option_map {U = Text × List Text} (λ p. (p.0, tenants_given p.1)) (subcommand_of table_app (codes "forkhost" ∷ codes "run" ∷ codes "alice=1" ∷ codes "bob=2" ∷ [])) ≡ Some (codes "run", codes "alice=1" ∷ codes "bob=2" ∷ [])
unfolding clap_on_literals table_app
tenants_are_given = refl

pub nothing_is_faulty : fault_of table_app (codes "forkhost" ∷ []) ≡ MissingSubcommand ∷ []
unfolding clap_on_literals table_app
nothing_is_faulty = refl

pub dir_is_given : option_map {U = Option Text × List Text} (λ p. (first_of (codes "dir") p.1, tenants_given p.1)) (subcommand_of table_app (codes "forkhost" ∷ codes "run" ∷ codes "alice=1" ∷ codes "--dir" ∷ codes "/a b" ∷ codes "bob=2" ∷ [])) ≡ Some (Some (codes "/a b"), codes "alice=1" ∷ codes "bob=2" ∷ [])
unfolding clap_on_literals table_app
dir_is_given = refl

pub run_needs_no_dir : option_map (λ p. first_of (codes "dir") p.1) (subcommand_of table_app (codes "forkhost" ∷ codes "run" ∷ [])) ≡ Some None
unfolding clap_on_literals table_app
run_needs_no_dir = refl

pub two_dirs_are_faulty : fault_of table_app (codes "forkhost" ∷ codes "run" ∷ codes "--dir" ∷ codes "x" ∷ codes "--dir=y" ∷ []) ≡ ArgumentConflict ∷ []
unfolding clap_on_literals table_app
two_dirs_are_faulty = refl

pub run_takes_no_socket : fault_of table_app (codes "forkhost" ∷ codes "run" ∷ codes "--socket" ∷ codes "x" ∷ []) ≡ UnknownArgument ∷ []
unfolding clap_on_literals table_app
run_takes_no_socket = refl

pub serve_is_taken : fault_of table_app (codes "forkhost" ∷ codes "serve" ∷ codes "--socket" ∷ codes "s" ∷ codes "--connections" ∷ codes "2" ∷ codes "alice=1" ∷ []) ≡ []
unfolding clap_on_literals table_app
serve_is_taken = refl

pub serve_is_asked : option_map {U = Text × Option Text × Option ℕ × Option Text × List Text} (λ p. (p.0, first_of (codes "socket") p.1, connections_given p.1, first_of (codes "dir") p.1, tenants_given p.1))
    (subcommand_of table_app (codes "forkhost" ∷ codes "serve" ∷ codes "alice=1" ∷ codes "--dir=d" ∷ codes "--connections=12" ∷ codes "--socket" ∷ codes "s" ∷ []))
    ≡ Some (codes "serve", Some (codes "s"), Some 12, Some (codes "d"), codes "alice=1" ∷ [])
unfolding clap_on_literals table_app
serve_is_asked = refl

pub serve_wants_its_socket : fault_of table_app (codes "forkhost" ∷ codes "serve" ∷ codes "--connections" ∷ codes "2" ∷ []) ≡ MissingRequiredArgument ∷ []
unfolding clap_on_literals table_app
serve_wants_its_socket = refl

pub serve_wants_its_connections : fault_of table_app (codes "forkhost" ∷ codes "serve" ∷ codes "--socket" ∷ codes "s" ∷ []) ≡ MissingRequiredArgument ∷ []
unfolding clap_on_literals table_app
serve_wants_its_connections = refl

pub no_connections_are_faulty : fault_of table_app (codes "forkhost" ∷ codes "serve" ∷ codes "--socket=s" ∷ codes "--connections=0" ∷ []) ≡ ValueValidation ∷ []
unfolding clap_on_literals table_app
no_connections_are_faulty = refl

pub a_million_connections_are_taken : fault_of table_app (codes "forkhost" ∷ codes "serve" ∷ codes "--socket=s" ∷ codes "--connections=1000000" ∷ []) ≡ []
unfolding clap_on_literals table_app
a_million_connections_are_taken = refl

pub more_connections_are_faulty : fault_of table_app (codes "forkhost" ∷ codes "serve" ∷ codes "--socket=s" ∷ codes "--connections=1000001" ∷ []) ≡ ValueValidation ∷ []
unfolding clap_on_literals table_app
more_connections_are_faulty = refl

pub a_sign_and_zeros_are_passed_over : option_map (λ p. connections_given p.1) (subcommand_of table_app (codes "forkhost" ∷ codes "serve" ∷ codes "--socket=s" ∷ codes "--connections=+007" ∷ [])) ≡ Some (Some 7)
unfolding clap_on_literals table_app
a_sign_and_zeros_are_passed_over = refl

pub serve_at_once_is_asked : option_map {U = Option ℕ × Option ℕ} (λ p. (connections_given p.1, at_once_given p.1))
    (subcommand_of table_app (codes "forkhost" ∷ codes "serve" ∷ codes "--socket=s" ∷ codes "--at-once" ∷ codes "256" ∷ codes "--connections=12" ∷ []))
    ≡ Some (Some 12, Some 256)
unfolding clap_on_literals table_app
serve_at_once_is_asked = refl

pub serve_one_after_another_is_asked : option_map (λ p. at_once_given p.1) (subcommand_of table_app (codes "forkhost" ∷ codes "serve" ∷ codes "--socket=s" ∷ codes "--connections=2" ∷ [])) ≡ Some None
unfolding clap_on_literals table_app
serve_one_after_another_is_asked = refl

pub none_at_once_is_faulty : fault_of table_app (codes "forkhost" ∷ codes "serve" ∷ codes "--socket=s" ∷ codes "--connections=2" ∷ codes "--at-once=0" ∷ []) ≡ ValueValidation ∷ []
unfolding clap_on_literals table_app
none_at_once_is_faulty = refl

pub more_at_once_are_faulty : fault_of table_app (codes "forkhost" ∷ codes "serve" ∷ codes "--socket=s" ∷ codes "--connections=2" ∷ codes "--at-once=257" ∷ []) ≡ ValueValidation ∷ []
unfolding clap_on_literals table_app
more_at_once_are_faulty = refl

pub a_synced_serving_is_asked : option_map (λ p. one_of (codes "sync") p.1) (subcommand_of table_app (codes "forkhost" ∷ codes "serve" ∷ codes "--socket=s" ∷ codes "--connections=2" ∷ codes "--sync" ∷ codes "--dir=d" ∷ [])) ≡ Some (Some (codes "true"))
unfolding clap_on_literals table_app
a_synced_serving_is_asked = refl

pub an_unsynced_serving_is_asked : option_map (λ p. one_of (codes "sync") p.1) (subcommand_of table_app (codes "forkhost" ∷ codes "serve" ∷ codes "--socket=s" ∷ codes "--connections=2" ∷ [])) ≡ Some (Some (codes "false"))
unfolding clap_on_literals table_app
an_unsynced_serving_is_asked = refl

pub sync_takes_no_value : fault_of table_app (codes "forkhost" ∷ codes "run" ∷ codes "--sync=yes" ∷ []) ≡ TooManyValues ∷ []
unfolding clap_on_literals table_app
sync_takes_no_value = refl

pub check_is_asked : option_map {U = Text × Option Text} (λ p. (p.0, first_of (codes "dir") p.1)) (subcommand_of table_app (codes "forkhost" ∷ codes "check" ∷ codes "--dir" ∷ codes "d" ∷ [])) ≡ Some (codes "check", Some (codes "d"))
unfolding clap_on_literals table_app
check_is_asked = refl

pub check_wants_its_dir : fault_of table_app (codes "forkhost" ∷ codes "check" ∷ []) ≡ MissingRequiredArgument ∷ []
unfolding clap_on_literals table_app
check_wants_its_dir = refl

pub check_takes_no_tenant : fault_of table_app (codes "forkhost" ∷ codes "check" ∷ codes "--dir=d" ∷ codes "alice=1" ∷ []) ≡ UnknownArgument ∷ []
unfolding clap_on_literals table_app
check_takes_no_tenant = refl

pub help_is_asked : fault_of table_app (codes "forkhost" ∷ codes "run" ∷ codes "--help" ∷ []) ≡ DisplayHelp ∷ []
unfolding clap_on_literals table_app
help_is_asked = refl

pub the_version_is_asked : fault_of table_app (codes "forkhost" ∷ codes "--version" ∷ []) ≡ DisplayVersion ∷ []
unfolding clap_on_literals table_app
the_version_is_asked = refl

-- ---- `upgrade`
pub upgrade_is_asked : option_map {U = Text × Option Text} (λ p. (p.0, first_of (codes "dir") p.1)) (subcommand_of table_app (codes "forkhost" ∷ codes "upgrade" ∷ codes "--dir" ∷ codes "d" ∷ [])) ≡ Some (codes "upgrade", Some (codes "d"))
unfolding clap_on_literals table_app
upgrade_is_asked = refl

pub upgrade_wants_its_dir : fault_of table_app (codes "forkhost" ∷ codes "upgrade" ∷ []) ≡ MissingRequiredArgument ∷ []
unfolding clap_on_literals table_app
upgrade_wants_its_dir = refl

-- ---- changes of tenants
pub add_tenant_is_asked : option_map {U = Text × Option Text × Option Text} (λ p. (p.0, first_of (codes "dir") p.1, first_of (codes "tenant") p.1)) (subcommand_of table_app (codes "forkhost" ∷ codes "add-tenant" ∷ codes "--dir" ∷ codes "d" ∷ codes "alice=1" ∷ []))
    ≡ Some (codes "add-tenant", Some (codes "d"), Some (codes "alice=1"))
unfolding clap_on_literals table_app
add_tenant_is_asked = refl

pub remove_tenant_is_asked : option_map {U = Text × Option Text × Option Text} (λ p. (p.0, first_of (codes "dir") p.1, first_of (codes "tenant") p.1)) (subcommand_of table_app (codes "forkhost" ∷ codes "remove-tenant" ∷ codes "alice" ∷ codes "--dir=d" ∷ []))
    ≡ Some (codes "remove-tenant", Some (codes "d"), Some (codes "alice"))
unfolding clap_on_literals table_app
remove_tenant_is_asked = refl

pub set_limit_wants_its_tenant : fault_of table_app (codes "forkhost" ∷ codes "set-limit" ∷ codes "--dir=d" ∷ []) ≡ MissingRequiredArgument ∷ []
unfolding clap_on_literals table_app
set_limit_wants_its_tenant = refl

pub set_limit_wants_its_dir : fault_of table_app (codes "forkhost" ∷ codes "set-limit" ∷ codes "alice=1" ∷ []) ≡ MissingRequiredArgument ∷ []
unfolding clap_on_literals table_app
set_limit_wants_its_dir = refl

pub two_tenants_are_faulty : fault_of table_app (codes "forkhost" ∷ codes "add-tenant" ∷ codes "--dir=d" ∷ codes "alice=1" ∷ codes "bob=2" ∷ []) ≡ UnknownArgument ∷ []
unfolding clap_on_literals table_app
two_tenants_are_faulty = refl

-- ---- `repack`
pub repack_is_asked : option_map {U = Text × Option Text × Option Text} (λ p. (p.0, first_of (codes "dir") p.1, one_of (codes "packed") p.1)) (subcommand_of table_app (codes "forkhost" ∷ codes "repack" ∷ codes "--packed" ∷ codes "--dir=d" ∷ []))
    ≡ Some (codes "repack", Some (codes "d"), Some (codes "true"))
unfolding clap_on_literals table_app
repack_is_asked = refl

pub repack_to_files_is_asked : option_map (λ p. one_of (codes "packed") p.1) (subcommand_of table_app (codes "forkhost" ∷ codes "repack" ∷ codes "--dir=d" ∷ [])) ≡ Some (Some (codes "false"))
unfolding clap_on_literals table_app
repack_to_files_is_asked = refl

pub repack_wants_its_dir : fault_of table_app (codes "forkhost" ∷ codes "repack" ∷ codes "--packed" ∷ []) ≡ MissingRequiredArgument ∷ []
unfolding clap_on_literals table_app
repack_wants_its_dir = refl
