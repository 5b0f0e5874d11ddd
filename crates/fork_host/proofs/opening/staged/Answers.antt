use Rattle.fork_host.specs.Bounds.{IsBounded}
use Rattle.std.proofs.Common.{[], subst, sym}
use Rattle.fork_request.specs.declared.reply.Reply.TheVariants.{Failed}
use Rattle.fork_host.proofs.BoundLemmas.{bounded_asked, bounded_found}
use Rattle.fork_host.proofs.opening.staged.Goals as goal

pub returns-in-Ok-Some-clause-reads : goal.returns-in-Ok-Some-clause-reads
returns-in-Ok-Some-clause-reads g c =
    let told = c.get_staged.ensures in
    record {
      kept = told.kept;
      shape = told.shape;
      bounded = bounded_found c.args.own.now.vault.now c.get_staged.new.self.vault.now c.in-Ok-Some.ensures.store told.files;
      same = told.same;
    }

pub returns-in-Err-clause-reads : goal.returns-in-Err-clause-reads
returns-in-Err-clause-reads g c =
    let told = c.get_staged.ensures in
    let old = c.args.own.now.vault.now in
    let new = c.get_staged.new.self.vault.now in
    record {
      kept = told.kept;
      shape = told.shape;
      bounded = subst (λ fault. IsBounded [] old new (Failed fault)) (sym c.vault_fault.ensures) (bounded_asked old new c.in-Err.fault c.in-Err.ensures.store told.files c.in-Err.ensures.apart);
      same = told.same;
    }
