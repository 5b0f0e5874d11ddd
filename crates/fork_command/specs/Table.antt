-- What the command line takes (own), as `clap` reads it.
use Rattle.std.specs.Prelude.{codes, pos, Some, true}
use Rattle.clap.specs.Words.{App, Rule, Text, new_app, new_rule, with_rule, with_subcommand}
use Rattle.clap.specs.declared.builder.ArgAction.TheVariants.{Set, SetTrue, Append}
use Rattle.clap.specs.declared.builder.value_parser.ValueParser.TheVariants.{Signed}

-- `--NAME VALUE`, at most once
abbrev pub option_rule : Text → Rule
option_rule name = record (new_rule name) { long = Some name; action = Some Set; value_names = 1 }

-- the same, required
abbrev pub needed_rule : Text → Rule
needed_rule name = record (option_rule name) { required = true }

-- `--connections N`, a number from 1 to 1,000,000
abbrev pub connections_rule : Rule
connections_rule = record (needed_rule (codes "connections")) { parser = Some (Signed (pos 1) (pos 1000000)) }

-- `--at-once M`, a number from 1 to 256
abbrev pub at_once_rule : Rule
at_once_rule = record (option_rule (codes "at-once")) { parser = Some (Signed (pos 1) (pos 256)) }

-- `--NAME`, at most once
abbrev pub flag_rule : Text → Rule
flag_rule name = record (new_rule name) { long = Some name; action = Some SetTrue }

-- a required word at its place
abbrev pub word_rule : Text → Rule
word_rule name = record (new_rule name) { action = Some Set; value_names = 1; required = true }

-- `[TENANT=LIMIT ..]`
abbrev pub tenants_rule : Rule
tenants_rule = record (new_rule (codes "tenants")) { action = Some Append; value_names = 1 }

-- `hash-object [--type TYPE]`
abbrev pub hash_object_app : App
hash_object_app = with_rule (new_app (codes "hash-object")) (option_rule (codes "type"))

-- with `[--dir PATH] [--packed] [--sync] [TENANT=LIMIT ..]`
abbrev pub with_hosting : App → App
with_hosting app = with_rule (with_rule (with_rule (with_rule app (option_rule (codes "dir"))) (flag_rule (codes "packed"))) (flag_rule (codes "sync"))) tenants_rule

-- `run [--dir PATH] [--packed] [--sync] [TENANT=LIMIT ..]`
abbrev pub run_app : App
run_app = with_hosting (new_app (codes "run"))

-- `serve --socket PATH --connections N [--at-once M]`
abbrev pub listening_app : App
listening_app = with_rule (with_rule (with_rule (new_app (codes "serve")) (needed_rule (codes "socket"))) connections_rule) at_once_rule

-- the same with `[--dir PATH] [--packed] [--sync] [TENANT=LIMIT ..]`
abbrev pub serve_app : App
serve_app = with_hosting listening_app

-- a subcommand that takes a folder, `--dir PATH`
abbrev pub folder_app : Text → App
folder_app name = with_rule (new_app name) (needed_rule (codes "dir"))

-- `check --dir PATH` and `upgrade --dir PATH`
abbrev pub check_app : App
check_app = folder_app (codes "check")

abbrev pub upgrade_app : App
upgrade_app = folder_app (codes "upgrade")

-- a subcommand that takes a folder and one of its tenants
abbrev pub tenant_app : Text → App
tenant_app name = with_rule (folder_app name) (word_rule (codes "tenant"))

-- `add-tenant --dir PATH TENANT=LIMIT`, `set-limit --dir PATH TENANT=LIMIT` and `remove-tenant --dir PATH TENANT`
abbrev pub add_tenant_app : App
add_tenant_app = tenant_app (codes "add-tenant")

abbrev pub set_limit_app : App
set_limit_app = tenant_app (codes "set-limit")

abbrev pub remove_tenant_app : App
remove_tenant_app = tenant_app (codes "remove-tenant")

-- `repack [--packed] --dir PATH`
abbrev pub repack_app : App
repack_app = with_rule (folder_app (codes "repack")) (flag_rule (codes "packed"))

-- `forkhost` and one of its subcommands
abbrev pub top_app : App
top_app = let top = new_app (codes "forkhost") in record top { top = record top.top { subcommand_required = true; disable_help_subcommand = true; has_version = true } }

-- the subcommands that serve, and those that read or upgrade a folder
abbrev pub serving_app : App
serving_app = with_subcommand (with_subcommand (with_subcommand (with_subcommand (with_subcommand top_app hash_object_app.top) run_app.top) serve_app.top) check_app.top) upgrade_app.top

-- the whole table: also the subcommands that change a folder's tenants, and `repack`
unfoldable pub table_app : App
table_app = with_subcommand (with_subcommand (with_subcommand (with_subcommand serving_app add_tenant_app.top) set_limit_app.top) remove_tenant_app.top) repack_app.top
