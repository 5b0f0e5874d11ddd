use Rattle.number_links.proofs.BitLemmas.{with_has}
use Rattle.number_links.proofs.words.with_bit.Goals as goal

pub returns : goal.returns
returns c = with_has c.args.word c.args.k c.requires
