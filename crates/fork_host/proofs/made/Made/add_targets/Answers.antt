use Rattle.std.proofs.Common.{◌++◌, map as map_list, sym, ap, ◌∙◌}
use Rattle.std.specs.List.{flat_map}
use Rattle.std.specs.FinMap.{values}
use Rattle.git_name.proofs.TreeMaps.{entries_of_ordered}
use Rattle.git_reftx.specs.Repository.{Repository}
use Rattle.fork_model.proofs.EntryLemmas.{pair_total}
use Rattle.fork_host.specs.Made.{targets_kept}
use Rattle.fork_host.proofs.made.Made.add_targets.Goals as goal

pub loop-repository-init : goal.loop-repository-init
loop-repository-init c =
    ap (λ rows. c.args.names.now.items ++ flat_map (λ (r : Repository). values r.references) rows) (c.into_iter-repository-iterator.ensures.into_iter_gives ∙ c.values-repository-items.ensures.rest)
    ∙ ap (λ es. c.args.names.now.items ++ flat_map (λ (r : Repository). values r.references) (map_list (λ e. e.1) es)) (sym (entries_of_ordered pair_total c.self.inside.offers.entries c.values-repository-items.ensures.ordered))
    ∙ ap (λ made. c.args.names.now.items ++ targets_kept made) c.self.view_is
