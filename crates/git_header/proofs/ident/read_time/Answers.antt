use Rattle.std.proofs.Common.{arith, ◌<◌, ◌^◌}
use Rattle.git_header.proofs.Splits.{split_none}
use Rattle.git_header.proofs.IdentLemmas.{time_rest, time_parts, sign_first}
use Rattle.git_header.proofs.ident.read_time.Goals as goal

pub returns-in_default-cut-clause-none : goal.returns-in_default-cut-clause-none
returns-in_default-cut-clause-none c n s z small is =
    split_none 32 _ _ c.in-Some.rest.now c.in_default-cut.ensures.none (time_rest c.args.text.now c.in-Some.rest.now n s z c.in-Some.ensures.found is)

pub returns-in_default-decimal-clause-none : goal.returns-in_default-decimal-clause-none
returns-in_default-decimal-clause-none c n s z small is =
    let parts = time_parts c.args.text.now c.in-Some.rest.now c.in-Some-cut.digits.now c.in-Some-cut.rest.now n s z small c.in-Some.ensures.found c.in-Some-cut.ensures.whole c.in-Some-cut.ensures.first is in
    let wide : n < 2 ^ 64 = omega arith in
    c.in_default-decimal.ensures.none n wide parts.0

pub returns-in_default-rest-clause-none : goal.returns-in_default-rest-clause-none
returns-in_default-rest-clause-none c n s z small is =
    let first = sign_first c.args.text.now c.in-Some.rest.now c.in-Some-cut.digits.now c.in-Some-cut.rest.now n s z small c.in-Some.ensures.found c.in-Some-cut.ensures.whole c.in-Some-cut.ensures.first is in
    let below = c.in_default-rest.len_below in
    absurd (omega arith)

pub returns-in_default-sign_of-clause-none : goal.returns-in_default-sign_of-clause-none
returns-in_default-sign_of-clause-none c n s z small is =
    let first = sign_first c.args.text.now c.in-Some.rest.now c.in-Some-cut.digits.now c.in-Some-cut.rest.now n s z small c.in-Some.ensures.found c.in-Some-cut.ensures.whole c.in-Some-cut.ensures.first is in
    c.in_default-sign_of.ensures.none s first.1
