use Rattle.std.proofs.Common.{◌∙◌, ap}
use Rattle.std.specs.FinMap as map
use Rattle.std.proofs.lemmas.Result.{on_ok_weaker}
use Rattle.git_name.proofs.Names.{name_total, name_exact}
use Rattle.git_name.proofs.TreeMaps.{entries_after_insert}
use Rattle.fork_query.proofs.followed.Followed.note.Goals as goal

pub returns : goal.returns
returns c = on_ok_weaker c.put.result (λ updates.
    entries_after_insert name_total name_exact c.self.inside.ends.entries c.put.new.ends.entries c.args.tag c.args.end updates.0
    ∙ ap (λ m. map.insert m c.args.tag c.args.end) c.self.view_is) c.put.ensures
