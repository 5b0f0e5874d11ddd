use Rattle.std.proofs.Common.{◌≡◌, ◌∷◌, [], ◌++◌, Some, sym, ap, subst, ◌∙◌, arith}
use Rattle.std.proofs.lemmas.List.{take_more}
use Rattle.git_reftx.specs.Judging.{TellsRefusal}
use Rattle.git_reftx.specs.Transaction.{bad_ref}
use Rattle.git_reftx.proofs.RefusalLemmas.{refused_at, none_refused, bad_is, bad_not}
use Rattle.git_reftx.proofs.judging.orders_of.Goals as goal

pub returns-in_default-clause-exact : goal.returns-in_default-clause-exact
returns-in_default-clause-exact c =
    let item = c.command-item.result in
    let broken = refused_at bad_ref c.args.commands.now c.loop-command.command-index item _ (omega arith) c.loop-command.invariant.none c.command-item.is
    (bad_is item c.in_default.field-0 c.as_bytes.result.now c.as_bytes.ensures c.in_default.ensures.broken) in
    subst (λ o. TellsRefusal o c.bad_ref.result) (sym (broken ∙ ap (λ w. Some (Rattle.git_reftx.specs.declared.fault.TxRefusal.TheVariants.BadRef w)) (c.as_bytes.ensures ∙ sym c.as_bytes-in_default.ensures))) c.bad_ref.ensures

pub loop-command-preserved : goal.loop-command-preserved
loop-command-preserved c =
    let item = c.command-item.result in
    let at = c.loop-command.command-index in
    let commands = c.args.commands.now in
    let named = c.in-Ok.ensures.found in
    let word : c.in-Ok.reference ≡ item.reference = named.0 ∙ c.as_bytes.ensures in
    let order : c.new-order.result ≡ item = c.new-order.ensures ∙ (λ i. record { reference = word i; demand = item.demand; change = item.change }) in
    record {
      taken = c.in-Ok-push.ensures.items ∙ (λ i. c.loop-command.invariant.taken i ++ (order ∙ c.command-item.is) i ∷ []) ∙ sym (take_more commands at item (omega arith));
      none = none_refused bad_ref commands at item (omega arith) c.loop-command.invariant.none c.command-item.is (bad_not item c.as_bytes.result.now c.as_bytes.ensures named.1);
    }
