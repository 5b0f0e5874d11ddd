use Rattle.std.proofs.Common.{subst}
use Rattle.fork_program.proofs.RepeatingLemmas.{buffered}
use Rattle.fork_program.proofs.replaying.repeat_frames.Goals as goal
use Rattle.fork_wire.specs.Again.{IsServedAgain}

pub returns-in-Ok-serve_again-clause-again : goal.returns-in-Ok-serve_again-clause-again
returns-in-Ok-serve_again-clause-again g c =
    subst (λ input. IsServedAgain c.args.host.now c.serve_again.new.host input c.in-Ok-serve_again.count)
    (buffered (λ noting. g.R.Read.remaining noting.reader) c.in-Ok.reader _ c.in-Ok.ensures.inner c.in-Ok.ensures.empty c.in-Ok.ensures.capacity) c.in-Ok-serve_again.ensures.again
