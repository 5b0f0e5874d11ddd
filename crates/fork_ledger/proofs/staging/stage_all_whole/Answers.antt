use Rattle.std.proofs.Common.{List, subst}
use Rattle.std.specs.List.{All}
use Rattle.std.specs.Prelude.{Contains}
use Rattle.std.proofs.lemmas.List.Elements.{All-contains}
use Rattle.git_name.specs.Object.{Object}
use Rattle.fork_ledger.specs.AllStaged.{IsAsTold}
use Rattle.fork_ledger.proofs.ClashLemmas.{clash_among}
use Rattle.fork_ledger.proofs.staging.stage_all_whole.Goals as goal

pub returns-then-not-may_stage_all-clause-collision : goal.returns-then-not-may_stage_all-clause-collision
returns-then-not-may_stage_all-clause-collision g c = λ h stored is.
    let m = c.args.holdings.now.ledgers in
    clash_among c.args.files.now.contents m c.args.objects.items stored
    (subst (λ (xs : List Object). (object : Object) × Contains xs object × (IsAsTold m object → ⊥)) c.as_slice.ensures.value (c.may_stage_all.ensures.clash c.if-not-may_stage_all.true))

pub returns-clause-met : goal.returns-clause-met
returns-clause-met g c = λ object is apart.
    let m = c.args.holdings.now.ledgers in
    let told = subst (λ (xs : List Object). All (IsAsTold m) xs) c.as_slice.ensures.value (c.may_stage_all.ensures.may c.if-not-may_stage_all.false) in
    absurd (apart (All-contains (IsAsTold m) c.args.objects.items object told is))
