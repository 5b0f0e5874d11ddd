use Rattle.std.proofs.Common.{◌++◌, List, ℕ, map as map_list, sym, ap, ◌∙◌}
use Rattle.std.specs.Prelude.{codes}
use Rattle.std.specs.List.{flat_map}
use Rattle.std.specs.FinMap.{keys}
use Rattle.git_name.proofs.Names.{name_total}
use Rattle.git_name.proofs.TreeMaps.{entries_of_ordered}
use Rattle.git_reftx.specs.Repository.{Repository}
use Rattle.fork_model.specs.View.{Repositories}
use Rattle.fork_host.proofs.repositories.Repositories.names.Goals as goal

pub loop-name-init : goal.loop-name-init
loop-name-init c =
    ap (λ text. text ++ flat_map (λ (name : List ℕ). name ++ codes "\n") (map_list (λ e. e.0) c.into_iter-name-iterator.result)) c.new-text.ensures.items
    ∙ ap (λ (es : List (List ℕ × Repository)). flat_map (λ (name : List ℕ). name ++ codes "\n") (map_list (λ e. e.0) es))
    (c.into_iter-name-iterator.ensures.into_iter_gives ∙ c.iter-name-items.ensures.rest ∙ sym (entries_of_ordered name_total c.self.inside.repositories.entries c.iter-name-items.ensures.ordered))
    ∙ ap (λ (repositories : Repositories). flat_map (λ (name : List ℕ). name ++ codes "\n") (keys repositories)) c.self.view_is
