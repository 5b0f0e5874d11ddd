use Rattle.std.proofs.Common.{subst, sym}
use Rattle.fork_ledger.specs.AllStaged.{IsAsTold}
use Rattle.fork_ledger.proofs.ClashLemmas.{not_told}
use Rattle.fork_ledger.proofs.staging.stage_fit.Goals as goal

pub unreachable-requires-in-Err-Clash : goal.unreachable-requires-in-Err-Clash
unreachable-requires-in-Err-Clash g c =
    not_told c.receive.new.holdings.ledgers c.args.sealed c.of-entry.result c.of-entry.ensures (c.in-Err-Clash.ensures.clash c.in-Err-Clash.field-0-is)
    (subst (λ m. IsAsTold m c.args.sealed) (sym c.receive.ensures.ledgers) c.requires.told)
