use Rattle.state_text.specs.Lines.{IsReadTo}
use Rattle.state_text.proofs.reading.read_lines.Given as goal

-- the lines read so far are those of states, except for a HEAD that is awaited
abbrev pub invariant-lines : goal.invariant-lines
invariant-lines g l = IsReadTo (g.R.Read.remaining l.fn.reader) (g.R.Read.remaining l.reader) l.lines l.version (record { states = l.states; awaits = l.awaits }) l.number
