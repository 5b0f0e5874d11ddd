use Rattle.std.proofs.Common.{◌≡◌, subst}
use Rattle.std.specs.Prelude.{IfSome}
use Rattle.std.proofs.lemmas.Result.{on_ok_weaker}
use Rattle.git_name.specs.Object.{object_name}
use Rattle.fork_ledger.specs.Surveyed.{IsSurveyed}
use Rattle.fork_host.proofs.ReadingLemmas.{reads_one}
use Rattle.fork_host.proofs.reading.read_one.Goals as goal

pub returns-in-Ok-Some-clause-reads : goal.returns-in-Ok-Some-clause-reads
returns-in-Ok-Some-clause-reads g c =
    let files = c.args.survey.now.contents in
    let told = c.in-Ok-Some.ensures in
    let is = c.in-Ok-Some.field-0-is in
    on_ok_weaker c.keep.result
    (reads_one c.args.survey.now.honest files c.args.name c.in-Ok-Some.sealed c.args.readings.now c.keep.new.readings
    (subst (λ o. IfSome o (λ object. object_name object ≡ c.args.name)) is told.named) (λ h. subst (IsSurveyed files c.args.name) is (told.found h)))
    c.keep.ensures
