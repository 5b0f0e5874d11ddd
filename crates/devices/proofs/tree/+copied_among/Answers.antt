use Rattle.std.proofs.Common.{None, Some, refl, ap, ◌∙◌}
use Rattle.std.specs.FinMap.{get}
use Rattle.devices.proofs.CopyLemmas.{copied_first, copied_none}
use Rattle.devices.proofs.tree.+copied_among.Goals as goal

pub returns-in_default : goal.returns-in_default
returns-in_default t c = copied_none (get c.args.files.now) c.new.result c.args.paths.now c.in_default.ensures.cases c.new.ensures

pub returns-in_default-get : goal.returns-in_default-get
returns-in_default-get t c =
    copied_first (get c.args.files.now) c.in_ok-copy.copy c.in_ok-copy.copy c.in-Some.path.now c.in-Some.path.now c.args.paths.now c.in-Some.others.now None c.in-Some.ensures.cases.0 refl c.in_default-get.ensures refl c.in_ok-copy.ensures

pub returns : goal.returns
returns t c =
    copied_first (get c.args.files.now) c.in_ok-copy.copy c.insert.new.self c.in-Some.path.now c.in_ok-new.field-0 c.args.paths.now c.in-Some.others.now (Some c.in_ok-bytes.bytes) c.in-Some.ensures.cases.0
    (c.in_ok-new.ensures ∙ c.as_bytes-2.ensures) (ap Some (c.in_ok-bytes.ensures ∙ c.as_bytes.ensures) ∙ c.in-Some-get.ensures) c.in_ok-insert.ensures.ok c.in_ok-copy.ensures
