use Rattle.std.proofs.Common.{◌<◌, arith, length, length-drop}
use Rattle.state_text.specs.Lines.{rest_of}
use Rattle.state_text.proofs.ReadingLemmas.{beyond_rest, refilled}
use Rattle.state_text.proofs.lines.Lines.end.Goals as goal

pub returns-then-lines-len-clause-none : goal.returns-then-lines-len-clause-none
returns-then-lines-len-clause-none g c =
    let size = length-drop c.args.self.at c.args.self.text.items in
    let long = c.len.ensures in
    let count = c.args.self.text.ok.0 in
    let before = c.if-lines-len.true in
    let some : 0 < length (rest_of c.args.self) = omega (arith, size, long, count, before) in
    record { more = λ first taken so_far. beyond_rest first (g.R.Read.remaining c.args.reader.now) c.args.self taken some so_far }

pub returns-then-branch-clause-none : goal.returns-then-branch-clause-none
returns-then-branch-clause-none g c =
    let grown = c.in_ok-refill.ensures.more c.if-branch.true in
    let some : 0 < length (rest_of c.refill.new.self) = omega (arith, grown) in
    record { more = λ first taken so_far. beyond_rest first (g.R.Read.remaining c.refill.new.reader) c.refill.new.self taken some (refilled first (g.R.Read.remaining c.args.reader.now) (g.R.Read.remaining c.refill.new.reader) c.args.self c.refill.new.self taken so_far c.in_ok-refill.ensures.refills) }
