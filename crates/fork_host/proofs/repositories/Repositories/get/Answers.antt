use Rattle.std.proofs.Common.{sym, ◌∙◌, ap}
use Rattle.std.specs.FinMap as map
use Rattle.git_name.proofs.Names.{name_total}
use Rattle.git_name.proofs.TreeMaps.{get_of_entries}
use Rattle.fork_host.proofs.repositories.Repositories.get.Goals as goal

pub returns : goal.returns
returns c = c.get.ensures.value ∙ sym (get_of_entries name_total c.self.inside.repositories.entries c.args.name.now) ∙ ap (λ m. map.get m c.args.name.now) c.self.view_is
