use Rattle.fork_model.proofs.SentLemmas.{seen_or_sent, run_seen_or_sent}
use Rattle.fork_model.proofs.provenance.what_runs_show_was_seen_or_sent.Goals as goal

pub returns-clause-alone : goal.returns-clause-alone
returns-clause-alone c = seen_or_sent

pub returns-clause-run : goal.returns-clause-run
returns-clause-run c = run_seen_or_sent
