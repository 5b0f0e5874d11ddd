use Rattle.std.proofs.Common.{sym, ◌∙◌, ap, is_some}
use Rattle.std.specs.FinMap as map
use Rattle.git_name.proofs.Names.{name_total}
use Rattle.git_name.proofs.TreeMaps.{get_of_entries}
use Rattle.fork_sound.proofs.readings.Readings.contains.Goals as goal

pub returns : goal.returns
returns c = c.contains_key.ensures ∙ ap is_some (sym (get_of_entries name_total c.self.inside.readings.entries c.args.name) ∙ ap (λ m. map.get m c.args.name) c.self.view_is)
