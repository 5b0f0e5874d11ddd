use Rattle.fork_host.proofs.StepLemmas.{run_explained, run_honest, run_kept, run_named, run_others, run_parted}
use Rattle.fork_host.proofs.laws.a_run_is_its_steps.Goals as goal

pub returns : goal.returns
returns c = record { parts = run_parted; explained = run_explained; honest = run_honest; kept = run_kept; others = run_others; named = run_named }
