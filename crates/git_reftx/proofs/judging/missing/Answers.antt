use Rattle.std.proofs.Common.{◌≡◌, None, sym, ap, ◌∙◌, arith, rules}
use Rattle.git_reftx.specs.Transaction.{missing_object}
use Rattle.git_reftx.proofs.RefusalLemmas.{refused_at, none_refused}
use Rattle.git_reftx.proofs.judging.missing.Goals as goal

pub returns-in-Some : goal.returns-in-Some
returns-in-Some g c =
    let known = g.K.Known.kinds c.args.known.now in
    sym (refused_at (λ command. missing_object known command.change) c.args.orders.now c.loop-order.order-index c.order-item.result c.in-Some.refusal (omega arith) c.loop-order.invariant c.order-item.is
    (ap (missing_object known) (sym c.change.ensures) ∙ sym c.in-Some.ensures))

pub loop-order-preserved : goal.loop-order-preserved
loop-order-preserved g c =
    let known = g.K.Known.kinds c.args.known.now in
    let none : c.missing_in.result ≡ None = search rules in
    none_refused (λ command. missing_object known command.change) c.args.orders.now c.loop-order.order-index c.order-item.result (omega arith) c.loop-order.invariant c.order-item.is
    (ap (missing_object known) (sym c.change.ensures) ∙ sym c.missing_in.ensures ∙ none)
