use Rattle.std.proofs.Common.{◌++◌, List, ℕ, sym, ap, ◌∙◌}
use Rattle.std.specs.List.{flat_map}
use Rattle.std.specs.FinMap.{entries}
use Rattle.git_name.proofs.Names.{name_total}
use Rattle.git_name.proofs.TreeMaps.{entries_of_ordered}
use Rattle.fork_host.specs.Made.{rows_from}
use Rattle.fork_host.specs.Shown.{Account, Accounts}
use Rattle.fork_host.proofs.accounts.Accounts.rows_to.Goals as goal

pub loop-name-init : goal.loop-name-init
loop-name-init c =
    ap (λ text. text ++ flat_map (λ (e : List ℕ × Account). rows_from e.0 c.args.receiver.now e.1.made) c.into_iter-name-iterator.result) c.new-rows.ensures.items
    ∙ ap (flat_map (λ (e : List ℕ × Account). rows_from e.0 c.args.receiver.now e.1.made))
    (c.into_iter-name-iterator.ensures.into_iter_gives ∙ c.iter-name-items.ensures.rest ∙ sym (entries_of_ordered name_total c.self.inside.tenants.entries c.iter-name-items.ensures.ordered) ∙ ap (λ (a : Accounts). entries a) c.self.view_is)
