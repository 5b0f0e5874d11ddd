use Rattle.std.proofs.Common.{sym, ap, ◌∙◌}
use Rattle.std.specs.Option.{option_copied}
use Rattle.git_reftx.proofs.FrontLemmas.{lesser_is, lesser_new}
use Rattle.git_reftx.proofs.conflict.lesser.Goals as goal

pub returns-in-Greater : goal.returns-in-Greater
returns-in-Greater c =
    lesser_new (option_copied c.args.least) c.in-Some.old.now c.args.front.now (ap option_copied c.in-Some.is) (sym c.cmp.ensures ∙ c.in-Greater.is)

pub returns-in_default-cmp : goal.returns-in_default-cmp
returns-in_default-cmp c =
    lesser_is (option_copied c.args.least) c.in-Some.old.now c.args.front.now (ap option_copied c.in-Some.is) (λ above. c.in_default-cmp.not-Greater (c.cmp.ensures ∙ above))
