use Rattle.fork_wire.proofs.UploadsLemmas.{all_opened, all_served}
use Rattle.fork_wire.proofs.laws.all_uploads_open_again.Goals as goal

pub returns-clause-opened : goal.returns-clause-opened
returns-clause-opened c = all_opened

pub returns-clause-served : goal.returns-clause-served
returns-clause-served c = all_served
