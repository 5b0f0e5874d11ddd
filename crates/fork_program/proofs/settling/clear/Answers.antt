use Rattle.std.proofs.Common.{◌∙◌}
use Rattle.fork_program.proofs.BegunLemmas.{cleared}
use Rattle.fork_program.proofs.settling.clear.Goals as goal

pub returns-clause-journal : goal.returns-clause-journal
returns-clause-journal g c text honest named =
    c.clear_logs.ensures.journal c.args.placed.now.name text (c.clear_journals-cleared.ensures.honest ∙ honest)
    (cleared c.args.placed.now.name text (g.J.Device.past c.args.begun.now.journal.writer.device) (g.J.Device.past c.clear_journals-cleared.new.device) (c.clear_journals-cleared.ensures.effects honest) named)
