use Rattle.push_stream.proofs.FrontLemmas.{front_taken}
use Rattle.push_stream.proofs.gaining.before.Goals as goal

pub returns : goal.returns
returns c = front_taken c.args.end.now c.args.text.now c.requires
