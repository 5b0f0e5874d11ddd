use Rattle.std.proofs.Common.{◌∙◌}
use Rattle.fork_program.proofs.upload_log.clear_logs.Goals as goal

pub returns-clause-journal : goal.returns-clause-journal
returns-clause-journal g c name text honest named = c.clear_log-2.ensures.journal name text (c.clear_log.ensures.honest ∙ honest) (c.clear_log.ensures.journal name text honest named)
