use Rattle.std.proofs.Common.{sym, ◌∙◌, ap}
use Rattle.std.specs.FinMap as map
use Rattle.git_name.proofs.Names.{name_total}
use Rattle.git_name.proofs.TreeMaps.{get_of_entries}
use Rattle.fork_query.proofs.followed.Followed.end_of.Goals as goal

pub returns : goal.returns
returns c = c.copied.ensures ∙ c.get.ensures.value ∙ sym (get_of_entries name_total c.self.inside.ends.entries c.args.tag) ∙ ap (λ m. map.get m c.args.tag) c.self.view_is
