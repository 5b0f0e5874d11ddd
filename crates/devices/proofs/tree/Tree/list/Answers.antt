use Rattle.std.proofs.Common.{◌++◌, List, ℕ, map as each, sym, ap, ◌∙◌}
use Rattle.std.specs.FinMap as map
use Rattle.git_name.proofs.Names.{name_total}
use Rattle.git_name.proofs.TreeMaps.{entries_of_ordered}
use Rattle.devices.specs.Device.{Files, names_in_folder}
use Rattle.devices.proofs.tree.Tree.list.Goals as goal

pub loop-path-init : goal.loop-path-init
loop-path-init c =
    ap (λ (xs : List (List ℕ)). xs ++ names_in_folder c.args.folder.now c.into_iter-path-iterator.result) (ap (each (λ name. name.items)) c.new-names.ensures.items)
    ∙ ap (names_in_folder c.args.folder.now) (c.into_iter-path-iterator.ensures.into_iter_gives ∙ c.keys-path-items.ensures.rest)
    ∙ ap (λ (es : List (List ℕ × List ℕ)). names_in_folder c.args.folder.now (each (λ e. e.0) es)) (sym (entries_of_ordered name_total c.self.inside.files.entries c.keys-path-items.ensures.ordered))
    ∙ ap (λ (m : Files). names_in_folder c.args.folder.now (map.keys m)) c.self.view_is
