use Rattle.std.proofs.Common.{◌≡◌, None, ap, sym, ◌∙◌, arith, rules}
use Rattle.git_reftx.specs.Transaction.{is_branch, not_a_commit}
use Rattle.git_reftx.proofs.RefusalLemmas.{refused_at, none_refused}
use Rattle.git_reftx.proofs.judging.not_a_commit.Goals as goal

pub returns-in-Some : goal.returns-in-Some
returns-in-Some g c =
    let known = g.K.Known.kinds c.args.known.now in
    let branch : c.starts_with-branch.result ≡ is_branch c.order-item.result.reference = c.starts_with-branch.ensures.value ∙ ap is_branch (c.as_bytes.ensures.bytes ∙ c.reference.ensures) in
    sym (refused_at (λ command. not_a_commit known (is_branch command.reference) command.change) c.args.orders.now c.loop-order.order-index c.order-item.result c.in-Some.refusal (omega arith) c.loop-order.invariant c.order-item.is
    (sym (λ i. not_a_commit known (branch i) (c.change.ensures i)) ∙ sym c.in-Some.ensures))

pub loop-order-preserved : goal.loop-order-preserved
loop-order-preserved g c =
    let known = g.K.Known.kinds c.args.known.now in
    let branch : c.starts_with-branch.result ≡ is_branch c.order-item.result.reference = c.starts_with-branch.ensures.value ∙ ap is_branch (c.as_bytes.ensures.bytes ∙ c.reference.ensures) in
    let none : c.no_commit_in.result ≡ None = search rules in
    none_refused (λ command. not_a_commit known (is_branch command.reference) command.change) c.args.orders.now c.loop-order.order-index c.order-item.result (omega arith) c.loop-order.invariant c.order-item.is
    (sym (λ i. not_a_commit known (branch i) (c.change.ensures i)) ∙ sym c.no_commit_in.ensures ∙ none)
