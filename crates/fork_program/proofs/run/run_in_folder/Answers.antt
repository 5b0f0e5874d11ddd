use Rattle.std.proofs.lemmas.Result.{err_from_is_err_and}
use Rattle.fork_program.specs.Running.{Unhosted}
use Rattle.fork_program.proofs.HostingLemmas.{untouched}
use Rattle.fork_program.proofs.run.run_in_folder.Goals as goal

pub returns-in_err-restored-clause-err : goal.returns-in_err-restored-clause-err
returns-in_err-restored-clause-err g c =
    let told = err_from_is_err_and c.from_residual.result c.from_residual.ensures.1 in
    rw (told.1, told.2) (Unhosted c.in_err-restored.ensures.err (untouched _ _))
