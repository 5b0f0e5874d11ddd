use Rattle.std.proofs.Common.{sym, ◌∙◌}
use Rattle.packed_store.proofs.storing.settle.Goals as goal

pub returns-clause-kept : goal.returns-clause-kept
returns-clause-kept g c all =
    c.add_settled.ensures.kept (λ honest.
    let second = sym c.sync_all.ensures.honest ∙ honest in
    let first = sym c.add_undone.ensures.honest ∙ second in
    c.sync_all.ensures.there second (c.add_undone.ensures.there first (all first)))
    ∙ c.sync_all.ensures.kept ∙ c.add_undone.ensures.kept all

pub returns-clause-there : goal.returns-clause-there
returns-clause-there g c honest all =
    let second = c.add_undone.ensures.honest ∙ honest in
    let third = c.sync_all.ensures.honest ∙ second in
    c.add_settled.ensures.there third (c.sync_all.ensures.there second (c.add_undone.ensures.there honest all))
