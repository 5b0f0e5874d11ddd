use Rattle.std.proofs.Common.{◌∙◌, ap}
use Rattle.devices.specs.Device.{Past}
use Rattle.host_folder.specs.Appending.{bytes_at}
use Rattle.host_folder.proofs.AppendLemmas.{added_bytes, appended_shown, does_grow, done_keeps, leaves_throughout, run_keeps_appended}
use Rattle.host_folder.proofs.SureLemmas.{sure_kept}
use Rattle.host_folder.proofs.appending.an_appended_file_leaves_a_front_at_each_moment.Goals as goal

pub returns-clause-all : goal.returns-clause-all
returns-clause-all c path least past done was grow = done_keeps path least past done grow was

pub returns-clause-each : goal.returns-clause-each
returns-clause-each c path least effects old new result was grow runs = run_keeps_appended path least effects old new result grow was runs

pub returns-clause-leaves : goal.returns-clause-leaves
returns-clause-leaves c path least old new all = leaves_throughout path least old new all

pub returns-clause-shown : goal.returns-clause-shown
returns-clause-shown c path least past is = appended_shown path least past is

pub returns-clause-grown : goal.returns-clause-grown
returns-clause-grown c path least effect old new result was grows does = does_grow path least effect old new result grows was does

pub returns-clause-sure : goal.returns-clause-sure
returns-clause-sure c path least past done was unfailed grow = sure_kept path least past unfailed done grow was

pub returns-clause-added : goal.returns-clause-added
returns-clause-added c path least bytes old new was does = ap (λ (p : Past). bytes_at path p) does ∙ added_bytes path least old bytes was
