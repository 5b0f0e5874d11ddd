use Rattle.std.proofs.Common.{◌++◌, map as map_list, sym, ap, ◌∙◌}
use Rattle.std.specs.List.{flat_map}
use Rattle.std.specs.FinMap.{values}
use Rattle.git_name.proofs.Names.{name_total}
use Rattle.git_name.proofs.TreeMaps.{entries_of_ordered}
use Rattle.git_reftx.specs.Repository.{Repository}
use Rattle.fork_model.specs.Answer.{targets_of}
use Rattle.fork_host.proofs.repositories.Repositories.targets.Goals as goal

pub loop-repository-init : goal.loop-repository-init
loop-repository-init c =
    ap (λ names. names ++ flat_map (λ (r : Repository). values r.references) c.into_iter-repository-iterator.result) c.new-names.ensures.items
    ∙ ap (flat_map (λ (r : Repository). values r.references)) (c.into_iter-repository-iterator.ensures.into_iter_gives ∙ c.values-repository-items.ensures.rest)
    ∙ ap (λ es. flat_map (λ (r : Repository). values r.references) (map_list (λ e. e.1) es)) (sym (entries_of_ordered name_total c.self.inside.repositories.entries c.values-repository-items.ensures.ordered))
    ∙ ap targets_of c.self.view_is
