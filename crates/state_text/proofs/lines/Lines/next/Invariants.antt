use Rattle.state_text.specs.Lines.{Waits}
use Rattle.state_text.proofs.lines.Lines.next.Given as goal

-- what was taken stays
abbrev pub invariant-loop : goal.invariant-loop
invariant-loop g l = Waits (g.R.Read.remaining l.fn.reader) (g.R.Read.remaining l.reader) l.fn.self l.self
