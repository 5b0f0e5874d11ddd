use Rattle.state_text.proofs.VersionLemmas.{one_value}
use Rattle.state_text.proofs.laws.one_value.Goals as goal

pub returns : goal.returns
returns c = one_value
