use Rattle.std.proofs.Common.{◌∙◌, ap}
use Rattle.std.specs.FinMap as map
use Rattle.git_name.proofs.TreeMaps.{entries_after_remove}
use Rattle.fork_model.proofs.EntryLemmas.{pair_exact, pair_total}
use Rattle.fork_host.proofs.made.Made.remove.Goals as goal

pub returns : goal.returns
returns c =
    entries_after_remove pair_total pair_exact c.self.inside.offers.entries c.take_out.new.offers.entries (c.args.receiver.now, c.args.name.now) c.take_out.ensures.0
    ∙ ap (λ m. map.remove m (c.args.receiver.now, c.args.name.now)) c.self.view_is
