use Rattle.std.specs.Prelude.{IfSome, All, ◌≡◌, ◌≢◌, ◌++◌, ◌∷◌, ◌-◌, List, ℕ, drop, take, length}
use Rattle.std.proofs.Common.{arith}
use Rattle.state_text.proofs.ReadingLemmas.{line_behind, line_fits}
use Rattle.state_text.proofs.lines.Lines.take.Goals as goal

pub invariant_of-self-2 : goal.invariant_of-self-2
invariant_of-self-2 c =
    let whole = rw c.in-Some.is at c.in_ok-len.ensures.whole in
    record { within = line_fits c.args.self.now.text.items c.deref.result.now c.args.self.now.at c.in-Some.len c.copy_line.new.line.items whole.0 c.deref.ensures.value whole.1 whole.2 c.args.self.now.within }

pub returns-clause-line : goal.returns-clause-line
returns-clause-line c taken =
    let whole = rw c.in-Some.is at c.in_ok-len.ensures.whole in
    (line_behind c.args.self.now.text.items c.deref.result.now c.args.self.now.at c.in-Some.len c.copy_line.new.line.items whole.0 c.deref.ensures.value whole.1 whole.2 c.args.self.now.within, whole.3)
