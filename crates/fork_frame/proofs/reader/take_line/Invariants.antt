use Rattle.std.proofs.Common.{◌≢◌, ◌≤◌, ◌-◌, All, length}
use Rattle.std.specs.Io.KnownBytes.{Consumes}
use Rattle.fork_frame.proofs.reader.take_line.Given as goal
use Rattle.fork_frame.specs.declared.text.TheConstants.{LONGEST}

-- the bytes so far were taken, and are no LF
abbrev pub invariant-loop-text : goal.invariant-loop-text
invariant-loop-text g l = (length l.text ≤ LONGEST) × All (λ byte. byte ≢ 10) l.text × Consumes (g.R.Read.remaining l.fn.reader) (g.R.Read.remaining l.reader) l.text

abbrev pub decreases-loop-text : goal.decreases-loop-text
decreases-loop-text g l = LONGEST - length l.text
