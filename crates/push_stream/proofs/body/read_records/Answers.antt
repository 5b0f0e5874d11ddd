use Rattle.std.proofs.Common.{◌≡◌, ◌<◌, length, arith}
use Rattle.std.proofs.lemmas.Bool.Decides.{nat_tests}
use Rattle.std.proofs.lemmas.Result.{err_from_is_err_and}
use Rattle.push_stream.proofs.RecordLemmas.{record_shorter}
use Rattle.push_stream.proofs.StreamLemmas.{taken_all, taken_more, tells_record}
use Rattle.push_stream.proofs.body.read_records.Goals as goal

pub returns-in_err-sealed-clause-exact : goal.returns-in_err-sealed-clause-exact
returns-in_err-sealed-clause-exact c =
    let so_far = c.loop-left.invariant in
    let some : 0 < length c.loop-left.left.now = grind (arith, nat_tests) in
    let told = err_from_is_err_and c.from_residual.result c.from_residual.ensures.1 in
    rw (told.1, told.2) (tells_record _ so_far.0 c.loop-left.sent.items c.loop-left.left.now _ some so_far.1 so_far.2 c.in_err-sealed.ensures.exact)

pub loop-left-smaller : goal.loop-left-smaller
loop-left-smaller c = record_shorter c.loop-left.left.now c.in_ok-sealed.sealed c.in_ok-sealed.behind.now c.in_ok-sealed.ensures.taken

pub loop-left-preserved : goal.loop-left-preserved
loop-left-preserved c =
    let so_far = c.loop-left.invariant in
    taken_more _ so_far.0 c.loop-left.sent.items c.push.new.self.items c.loop-left.left.now c.in_ok-sealed.behind.now c.in_ok-sealed.sealed so_far.1 so_far.2 c.in_ok-sealed.ensures.taken c.in-Ok.ensures.items

pub returns-clause-found : goal.returns-clause-found
returns-clause-found c =
    let so_far = c.loop-left.invariant in
    let none : length c.loop-left.left.now ≡ 0 = grind (arith, nat_tests) in
    taken_all _ so_far.0 c.loop-left.sent.items c.loop-left.left.now so_far.2 none
