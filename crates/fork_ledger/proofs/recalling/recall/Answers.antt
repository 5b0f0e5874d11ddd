use Rattle.std.proofs.Common.{subst, sym}
use Rattle.object_table.specs.Clashes.{AreAs}
use Rattle.fork_ledger.proofs.recalling.recall.Goals as goal

pub returns-in-Err-Clash-clause-clash : goal.returns-in-Err-Clash-clause-clash
returns-in-Err-Clash-clause-clash c = λ is same.
    c.in-Err-Clash.ensures.clash c.in-Err-Clash.field-0-is (subst (λ m. AreAs m c.args.name c.args.kind c.args.length) (sym c.enter.ensures.ledgers) same)
