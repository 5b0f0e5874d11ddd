use Rattle.number_links.proofs.BitLemmas.{or_has}
use Rattle.number_links.proofs.words.either.Goals as goal

pub returns : goal.returns
returns c = or_has c.args.a c.args.b
