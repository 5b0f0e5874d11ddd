use Rattle.std.proofs.Common.{◌≡◌, sym, ◌∙◌, arith, rules}
use Rattle.fork_frame.proofs.LineLemmas.{split_none, parts_of, decimal_unique}
use Rattle.fork_frame.proofs.line.Line.read.Goals as goal

pub returns-in_default-clause-none : goal.returns-in_default-clause-none
returns-in_default-clause-none c line right = split_none 32 _ _ c.args.text.now c.in_default.ensures.none right.spelled

pub returns-in_default-asker_of-clause-none : goal.returns-in_default-asker_of-clause-none
returns-in_default-asker_of-clause-none c line right =
    let parts = parts_of _ _ _ line c.in-Some.ensures.whole c.in-Some.ensures.first right in
    c.in_default-asker_of.ensures.none line.asker right.named parts.0

pub returns-in_default-decimal-clause-none : goal.returns-in_default-decimal-clause-none
returns-in_default-decimal-clause-none c line right =
    let parts = parts_of _ _ _ line c.in-Some.ensures.whole c.in-Some.ensures.first right in
    let fits = right.fits in
    c.in_default-decimal.ensures.none line.len (omega arith) parts.1

pub returns-then-len-clause-none : goal.returns-then-len-clause-none
returns-then-len-clause-none c line right =
    let parts = parts_of _ _ _ line c.in-Some.ensures.whole c.in-Some.ensures.first right in
    let fits = right.fits in
    let same : c.in-Some-decimal.len ≡ line.len = decimal_unique c.in-Some-decimal.len line.len (search rules) (omega arith) (sym c.in-Some-decimal.ensures.found ∙ parts.1) in
    let more = c.if-len.true in
    absurd (omega arith)
