use Rattle.std.proofs.Common.{sym, ◌∙◌, ap, length}
use Rattle.std.specs.FinMap as map
use Rattle.git_name.proofs.TreeMaps.{entries_of_ordered}
use Rattle.fork_model.proofs.EntryLemmas.{pair_total}
use Rattle.fork_host.proofs.made.Made.len.Goals as goal

pub returns : goal.returns
returns c =
    c.len.ensures.len ∙ ap (λ es. length es) (sym (entries_of_ordered pair_total c.self.inside.offers.entries c.len.ensures.ordered))
    ∙ sym (map.len-entries (map.from_entries c.self.inside.offers.entries)) ∙ ap map.len c.self.view_is
