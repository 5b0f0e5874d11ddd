use Rattle.std.proofs.Common.{◌≡◌, ◌<◌, length, arith, subst}
use Rattle.std.specs.Prelude.{IfNone, IfSome}
use Rattle.push_stream.specs.Record.{Open, Taken, record_at}
use Rattle.std.proofs.lemmas.Bool.Decides.{nat_tests}
use Rattle.std.proofs.lemmas.Result.{err_from_is_err_and}
use Rattle.push_stream.proofs.FrontLemmas.{record_more}
use Rattle.push_stream.proofs.GainingLemmas.{breaks_record, nothing_open, taken_open}
use Rattle.push_stream.proofs.RecordLemmas.{record_shorter}
use Rattle.push_stream.proofs.StreamLemmas.{taken_more}
use Rattle.push_stream.proofs.gaining.whole_records.Goals as goal

pub returns-in_default-clause-found : goal.returns-in_default-clause-found
returns-in_default-clause-found c =
    let so_far = c.loop-alloc.invariant in
    taken_open _ so_far.0 c.loop-alloc.objects.items c.loop-alloc.left.now so_far.2 (subst (λ o. IfNone o (record_at c.loop-alloc.left.now ≡ Open)) c.in_default.is c.in_ok-sealed.ensures.unfinished)

pub returns-in_err-sealed-clause-exact : goal.returns-in_err-sealed-clause-exact
returns-in_err-sealed-clause-exact c =
    let so_far = c.loop-alloc.invariant in
    let some : 0 < length c.loop-alloc.left.now = grind (arith, nat_tests) in
    let told = err_from_is_err_and c.from_residual.result c.from_residual.ensures.1 in
    rw (told.1, told.2) (breaks_record _ so_far.0 c.loop-alloc.objects.items c.loop-alloc.left.now _ some so_far.1 so_far.2 c.in_err-sealed.ensures.exact)

pub loop-alloc-smaller : goal.loop-alloc-smaller
loop-alloc-smaller c = record_shorter c.loop-alloc.left.now c.in-Some.sealed c.in-Some.others.now (subst (λ o. IfSome o (λ p. record_at c.loop-alloc.left.now ≡ Taken p.0 p.1.now)) c.in-Some.is c.in_ok-sealed.ensures.taken)

pub loop-alloc-preserved : goal.loop-alloc-preserved
loop-alloc-preserved c =
    let so_far = c.loop-alloc.invariant in
    let taken = subst (λ o. IfSome o (λ p. record_at c.loop-alloc.left.now ≡ Taken p.0 p.1.now)) c.in-Some.is c.in_ok-sealed.ensures.taken in
    let next = taken_more _ so_far.0 c.loop-alloc.objects.items c.push.new.self.items c.loop-alloc.left.now c.in-Some.others.now c.in-Some.sealed so_far.1 so_far.2 taken c.in-Ok.ensures.items in
    (next.0, next.1, next.2, record_more c.args.text.now c.loop-alloc.left.now c.in-Some.others.now c.loop-alloc.objects.items c.push.new.self.items c.in-Some.sealed so_far.3 taken c.in-Ok.ensures.items)

pub returns-clause-found : goal.returns-clause-found
returns-clause-found c =
    let so_far = c.loop-alloc.invariant in
    let none : length c.loop-alloc.left.now ≡ 0 = grind (arith, nat_tests) in
    taken_open _ so_far.0 c.loop-alloc.objects.items c.loop-alloc.left.now so_far.2 (nothing_open c.loop-alloc.left.now none)

pub returns-clause-unfinished : goal.returns-clause-unfinished
returns-clause-unfinished c =
    let none : length c.loop-alloc.left.now ≡ 0 = grind (arith, nat_tests) in
    nothing_open c.loop-alloc.left.now none
