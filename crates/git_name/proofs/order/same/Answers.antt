use Rattle.git_name.proofs.OrderLemmas.{same_words}
use Rattle.git_name.proofs.order.same.Goals as goal

pub returns : goal.returns
returns c = rw (c.word.ensures, c.word-2.ensures, c.word-3.ensures, c.word-4.ensures, c.word-5.ensures, c.word-6.ensures, c.word-7.ensures, c.word-8.ensures) (same_words c.args.left.now c.args.right.now c.fits-left c.fits-right c.told-left c.told-right)
