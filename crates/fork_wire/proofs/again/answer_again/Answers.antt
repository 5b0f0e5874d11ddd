use Rattle.std.proofs.Common.{rules, ◌∙◌}
use Rattle.fork_wire.proofs.again.answer_again.Goals as goal

pub returns-in-Failed-clause-right : goal.returns-in-Failed-clause-right
returns-in-Failed-clause-right g c trusted = c.answer-reply.ensures.whole.right (c.answer-reply.ensures.honest ∙ trusted)

pub returns : goal.returns
returns g c = record {
  ok = search rules;
  trusted = λ trusted. c.answer-reply.ensures.honest ∙ trusted;
  orderly = c.answer-reply.ensures.whole.orderly;
  right = λ trusted. c.answer-reply.ensures.whole.right (c.answer-reply.ensures.honest ∙ trusted);
}
