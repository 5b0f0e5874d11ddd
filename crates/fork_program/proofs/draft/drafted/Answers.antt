use Rattle.fork_program.proofs.SavingLemmas.{tried_none}
use Rattle.fork_program.proofs.draft.drafted.Goals as goal

pub returns-in_default-clause-tried : goal.returns-in_default-clause-tried
returns-in_default-clause-tried g c honest = tried_none (g.D.Device.past c.args.device.now)
