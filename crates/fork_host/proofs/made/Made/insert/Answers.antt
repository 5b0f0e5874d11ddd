use Rattle.std.proofs.Common.{◌∙◌, ap}
use Rattle.std.specs.FinMap as map
use Rattle.std.proofs.lemmas.Result.{on_ok_weaker}
use Rattle.git_name.proofs.TreeMaps.{entries_after_insert}
use Rattle.fork_model.proofs.EntryLemmas.{pair_exact, pair_total}
use Rattle.fork_host.proofs.made.Made.insert.Goals as goal

pub returns-clause-ok : goal.returns-clause-ok
returns-clause-ok c = on_ok_weaker c.put.result (λ updates.
    entries_after_insert pair_total pair_exact c.self.inside.offers.entries c.put.new.offers.entries (c.args.receiver, c.args.name) c.args.repository updates.0
    ∙ ap (λ m. map.insert m (c.args.receiver, c.args.name) c.args.repository) c.self.view_is) c.put.ensures.ok
