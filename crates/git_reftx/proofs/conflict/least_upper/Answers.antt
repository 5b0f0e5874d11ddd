use Rattle.std.proofs.Common.{None, Some, sym, ap, ◌∙◌}
use Rattle.git_refname.specs.Rule.{IsRefName}
use Rattle.git_reftx.proofs.FrontLemmas.{upper_named}
use Rattle.git_reftx.proofs.NearLemmas.{least_after}
use Rattle.git_reftx.proofs.conflict.least_upper.Goals as goal

pub returns-in_default : goal.returns-in_default
returns-in_default c = sym (least_after c.args.old.now c.args.new.now c.args.orders.now None c.requires.free c.requires.changed c.in_default.ensures)

pub returns-in-Ok : goal.returns-in-Ok
returns-in-Ok c =
    ap (λ n. Some n) c.in-Ok.ensures.found.0 ∙ sym (least_after c.args.old.now c.args.new.now c.args.orders.now (Some c.in-Some.upper.now) c.requires.free c.requires.changed c.in-Some.ensures)

pub returns-in-Err : goal.returns-in-Err
returns-in-Err c =
    let is = least_after c.args.old.now c.args.new.now c.args.orders.now (Some c.in-Some.upper.now) c.requires.free c.requires.changed c.in-Some.ensures in
    let right : IsRefName c.in-Some.upper.now = upper_named c.args.new.now c.in-Some.upper.now c.len-count.ensures.named is in
    absurd (cc (sym right ∙ c.in-Err.ensures.broken))
