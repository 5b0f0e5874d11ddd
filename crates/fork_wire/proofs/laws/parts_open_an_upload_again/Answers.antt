use Rattle.fork_wire.proofs.OpeningLemmas.{opened_again}
use Rattle.fork_wire.proofs.laws.parts_open_an_upload_again.Goals as goal

pub returns : goal.returns
returns c world tenant bytes view frames here none fits parts = opened_again world tenant bytes view frames here none fits parts
