use Rattle.state_text.proofs.ReadingLemmas.{reads_only}
use Rattle.state_text.proofs.reading.read.Goals as goal

pub returns-clause-only : goal.returns-clause-only
returns-clause-only g c = reads_only (g.R.Read.remaining c.args.reader.now) (g.R.Read.remaining c.read_lines.new.reader) c.read_lines.result c.read_lines.ensures.found c.read_lines.ensures.exact
