use Rattle.std.proofs.Common.{◌∙◌}
use Rattle.fork_sound.proofs.ReadingLemmas.{same_first}
use Rattle.fork_sound.proofs.objects.first_bad.Goals as goal

pub returns : goal.returns
returns c = record { found = λ objects are. c.first_bad_read.ensures ∙ same_first c.args.readings.now c.args.seen.now objects are }
