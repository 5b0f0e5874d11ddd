use Rattle.std.proofs.Common.{◌≡◌, None, Some, Ok, refl, sym, ap, subst, ◌∙◌, rules}
use Rattle.std.proofs.lemmas.Result.{err_from_is_err_and}
use Rattle.git_reftx.specs.Judging.{refused_before, refused_after}
use Rattle.git_reftx.specs.Sound.{AreRefNames}
use Rattle.git_reftx.specs.Transaction.{changed}
use Rattle.git_reftx.proofs.TxLemmas.{transacted_by, tells_bad, sound_after}
use Rattle.git_reftx.proofs.transact.transact.Goals as goal

pub returns-in_err-orders-clause-exact : goal.returns-in_err-orders-clause-exact
returns-in_err-orders-clause-exact g c =
    let told = err_from_is_err_and c.from_residual.result c.from_residual.ensures.1 in
    rw (told.1, told.2) (tells_bad c.args.old.now c.args.commands.now (g.K.Known.kinds c.args.known.now) _ c.in_err-orders.ensures.exact)

pub returns-in-Ok-Some-clause-exact : goal.returns-in-Ok-Some-clause-exact
returns-in-Ok-Some-clause-exact g c =
    let known = g.K.Known.kinds c.args.known.now in
    let found = c.in_ok-orders.ensures.found in
    let same : c.as_slice.result.now ≡ c.args.commands.now = c.as_slice.ensures.value ∙ found.0 in
    let before : refused_before c.args.old.now c.args.commands.now known ≡ Some c.in-Ok-Some.refusal =
    ap (λ cs. refused_before c.args.old.now cs known) (sym same) ∙ sym c.in-Ok-Some.ensures ∙ c.in-Ok-Some.field-0-is in
    transacted_by c.args.old.now c.args.commands.now known None (Some c.in-Ok-Some.refusal) _ found.1 before refl

pub returns-in-Some-clause-exact : goal.returns-in-Some-clause-exact
returns-in-Some-clause-exact g c =
    let known = g.K.Known.kinds c.args.known.now in
    let found = c.in_ok-orders.ensures.found in
    let before : refused_before c.args.old.now c.args.commands.now known ≡ None =
    ap (λ cs. refused_before c.args.old.now cs known) (sym (c.as_slice.ensures.value ∙ found.0)) ∙ sym c.in-Ok-None.ensures ∙ c.in-Ok-None.field-0-is in
    let new : c.in-Ok.new ≡ changed c.args.commands.now c.args.old.now = c.in-Ok.ensures ∙ ap (λ cs. changed cs c.args.old.now) (c.as_slice-2.ensures.value ∙ found.0) in
    transacted_by c.args.old.now c.args.commands.now known None None (Some c.in-Some.refusal) found.1 before (ap refused_after (sym new) ∙ sym c.in-Some.ensures)

pub returns-clause-found : goal.returns-clause-found
returns-clause-found g c =
    let known = g.K.Known.kinds c.args.known.now in
    let found = c.in_ok-orders.ensures.found in
    let before : refused_before c.args.old.now c.args.commands.now known ≡ None =
    ap (λ cs. refused_before c.args.old.now cs known) (sym (c.as_slice.ensures.value ∙ found.0)) ∙ sym c.in-Ok-None.ensures ∙ c.in-Ok-None.field-0-is in
    let new : c.in-Ok.new ≡ changed c.args.commands.now c.args.old.now = c.in-Ok.ensures ∙ ap (λ cs. changed cs c.args.old.now) (c.as_slice-2.ensures.value ∙ found.0) in
    let none : c.refused_after.result ≡ None = search rules in
    transacted_by c.args.old.now c.args.commands.now known None None None found.1 before (ap refused_after (sym new) ∙ sym c.refused_after.ensures ∙ none) ∙ ap (λ refs. Ok refs) (sym new)

pub returns-clause-sound : goal.returns-clause-sound
returns-clause-sound g c =
    let none : c.refused_after.result ≡ None = search rules in
    sound_after c.in-Ok.new (subst AreRefNames c.new.view_is c.new.invariant) (sym c.refused_after.ensures ∙ none)
