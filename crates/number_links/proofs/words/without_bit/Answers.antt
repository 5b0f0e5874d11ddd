use Rattle.number_links.proofs.BitLemmas.{without_has}
use Rattle.number_links.proofs.words.without_bit.Goals as goal

pub returns : goal.returns
returns c = without_has c.args.word c.args.k c.requires
