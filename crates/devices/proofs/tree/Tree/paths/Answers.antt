use Rattle.std.proofs.Common.{◌++◌, List, ℕ, map as each, sym, ap, ◌∙◌}
use Rattle.std.specs.FinMap as map
use Rattle.git_name.proofs.Names.{name_total}
use Rattle.git_name.proofs.TreeMaps.{entries_of_ordered}
use Rattle.devices.specs.Device.{Files}
use Rattle.devices.proofs.tree.Tree.paths.Goals as goal

pub loop-path-init : goal.loop-path-init
loop-path-init c =
    ap (λ (xs : List (List ℕ)). xs ++ c.into_iter-path-iterator.result) c.new-paths.ensures.items
    ∙ c.into_iter-path-iterator.ensures.into_iter_gives ∙ c.keys-path-items.ensures.rest
    ∙ ap (λ (es : List (List ℕ × List ℕ)). each (λ e. e.0) es) (sym (entries_of_ordered name_total c.self.inside.files.entries c.keys-path-items.ensures.ordered))
    ∙ ap (λ (m : Files). map.keys m) c.self.view_is
