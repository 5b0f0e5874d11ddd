use Rattle.std.proofs.Common.{◌∙◌, ap}
use Rattle.fork_ledger.specs.Taken.{is_taken}
use Rattle.fork_ledger.proofs.SliceLemmas.{sharp_state, sweeps_of, tenants_kept}
use Rattle.fork_ledger.proofs.laws.sharp_slices.Goals as goal

pub returns : goal.returns
returns c = λ slices old new swept place enough accounted.
    sharp_state new accounted (λ name listed.
    ap (λ t. is_taken t name) (tenants_kept slices old new swept)
    ∙ c.sharp_sweeps.ensures (is_taken old.tenants) slices old.places new.places place enough (sweeps_of slices old new swept) name listed)
