use Rattle.std.proofs.Common.{◌∙◌, ap}
use Rattle.std.specs.FinMap as map
use Rattle.git_name.proofs.Names.{name_total, name_exact}
use Rattle.git_name.proofs.TreeMaps.{entries_after_remove}
use Rattle.fork_host.proofs.accounts.Accounts.remove.Goals as goal

pub returns : goal.returns
returns c =
    entries_after_remove name_total name_exact c.self.inside.tenants.entries c.take_out.new.tenants.entries c.args.name.now c.take_out.ensures.0
    ∙ ap (λ m. map.remove m c.args.name.now) c.self.view_is
