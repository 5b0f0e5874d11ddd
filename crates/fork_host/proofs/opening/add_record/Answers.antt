use Rattle.std.proofs.lemmas.Result.{err_from_is_err_and}
use Rattle.fork_host.proofs.OpeningLemmas.{quiet_told, reads_quiet}
use Rattle.fork_host.proofs.opening.add_record.Goals as goal

pub returns-in_err-sealed-clause-reads : goal.returns-in_err-sealed-clause-reads
returns-in_err-sealed-clause-reads g c =
    let told = err_from_is_err_and c.from_residual.result c.from_residual.ensures.1 in
    rw (told.1, told.2) c.in_err-sealed.ensures.reads

pub returns-clause-reads : goal.returns-clause-reads
returns-clause-reads g c = reads_quiet c.args.own.now c.staged.new.own _ c.in_ok-sealed.ensures.reads (quiet_told c.write_behind.result c.write_behind.ensures.cause)
