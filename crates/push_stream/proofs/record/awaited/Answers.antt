use Rattle.std.proofs.Common.{sym, subst, ◌∙◌}
use Rattle.push_stream.proofs.LineLemmas.{IsLineOf, line_is}
use Rattle.push_stream.proofs.RestLemmas.{awaits_head}
use Rattle.push_stream.proofs.record.awaited.Goals as goal

pub awaited_behind-requires : goal.awaited_behind-requires
awaited_behind-requires c = (subst (IsLineOf c.args.text.now) (sym c.in-Whole.ensures) (line_is c.args.text.now)).2

pub returns-in-Some : goal.returns-in-Some
returns-in-Some c =
    awaits_head c.args.text.now c.in-Whole.line.now c.in-Whole.field-1.now c.in-Some.head c.awaited_behind.result (sym c.in-Whole.ensures) (sym c.read_head.ensures ∙ c.in-Some.is)
    c.awaited_behind.ensures.whole c.awaited_behind.ensures.large
