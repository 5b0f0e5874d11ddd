use Rattle.number_links.proofs.BitLemmas.{less_has}
use Rattle.number_links.proofs.words.less.Goals as goal

pub returns : goal.returns
returns c = less_has c.args.a c.args.b
