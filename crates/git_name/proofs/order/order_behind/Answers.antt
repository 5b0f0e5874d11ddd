use Rattle.std.proofs.Common.{◌∙◌, sym}
use Rattle.git_name.proofs.OrderLemmas.{behind_first}
use Rattle.git_name.proofs.order.order_behind.Goals as goal

pub returns : goal.returns
returns c =
    let words = behind_first c.args.left.now c.args.right.now c.fits-left c.fits-right c.told-left c.told-right in
    c.then-2.ensures ∙ rw (c.then.ensures, c.cmp-second.ensures, c.cmp-third.ensures, c.cmp-fourth.ensures, c.word.ensures, c.word-2.ensures, c.word-3.ensures, c.word-4.ensures, c.word-5.ensures, c.word-6.ensures) (sym words)
