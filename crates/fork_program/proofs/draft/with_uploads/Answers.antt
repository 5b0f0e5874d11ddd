use Rattle.std.proofs.Common.{◌∙◌, ap}
use Rattle.std.specs.Prelude.{string_bytes}
use Rattle.fork_program.proofs.BegunLemmas.{goes_on_at}
use Rattle.fork_program.proofs.draft.with_uploads.Goals as goal

pub returns-clause-begun : goal.returns-clause-begun
returns-clause-begun g c honest unfailed =
    let old = c.in_ok-journal-2.journal.writer in
    let new = c.write_uploads.new.writer.writer in
    let rest = c.write_uploads.ensures.rest in
    goes_on_at (g.J.Device.honest old.device) (g.J.Device.honest new.device) (g.J.Device.past old.device) (g.J.Device.past new.device) (string_bytes old.path) (string_bytes new.path) (c.in_ok-journal-2.ensures.honest ∙ honest) c.in_ok-journal-2.ensures.path
    (ap (λ r. r.path) rest) (ap (λ r. r.is_honest) rest) (ap (λ r. r.past) rest) (c.in_ok-journal-2.ensures.begun honest unfailed)
