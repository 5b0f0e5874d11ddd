use Rattle.std.proofs.Common.{◌≡◌, ◌≢◌, ◌∙◌, arith}
use Rattle.std.proofs.lemmas.Bool.Decides.{nat_tests}
use Rattle.git_name.proofs.OrderLemmas.{first_decides, rest_decides}
use Rattle.git_name.proofs.order.order.Goals as goal

pub returns-then-first-second : goal.returns-then-first-second
returns-then-first-second c =
    let apart : c.word-first.result ≢ c.word-second.result = grind (arith, nat_tests) in
    c.cmp.ensures ∙ first_decides c.args.left.now c.args.right.now c.fits-left c.fits-right c.told-left c.told-right c.word-first.result c.word-second.result c.word-first.ensures c.word-second.ensures apart

pub returns : goal.returns
returns c =
    let same : c.word-first.result ≡ c.word-second.result = grind (arith, nat_tests) in
    c.order_behind.ensures ∙ rest_decides c.args.left.now c.args.right.now c.fits-left c.fits-right c.told-left c.told-right c.word-first.result c.word-second.result c.word-first.ensures c.word-second.ensures same
