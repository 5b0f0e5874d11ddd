use Rattle.std.proofs.Common.{◌≡◌, ◌∙◌, ap, false, refl, rules, subst, true}
use Rattle.std.specs.List.{list_any}
use Rattle.state_text.specs.States.{States}
use Rattle.state_text.specs.declared.version.Version.TheVariants.{Two}
use Rattle.state_text.specs.Text.{IsStateText2, state_text}
use Rattle.fork_host.specs.Shown.{world_of}
use Rattle.fork_state.specs.Changed.{is_name, states_limited}
use Rattle.fork_state.proofs.ChangedLemmas.{has_name, world_limited}
use Rattle.fork_state.proofs.saving.save_limited.Goals as goal

pub returns-then-not-has-clause-there : goal.returns-then-not-has-clause-there
returns-then-not-has-clause-there g c within =
    let none : false ≡ c.has.result = search rules in
    none ∙ c.has.ensures ∙ ap (λ (states : States). list_any (λ tenant. is_name c.args.tenant.now tenant.name) states) c.in_ok-states.ensures ∙ has_name (world_of c.args.host.now) c.args.tenant.now

pub returns-clause-text : goal.returns-clause-text
returns-clause-text g c =
    let spelled : IsStateText2 c.in-Ok.changed (state_text Two c.in-Ok.changed) = record { right = c.as_slice-tenants.ensures.sound; tells = tt; spelled = refl } in
    subst (λ (states : States). IsStateText2 states (state_text Two c.in-Ok.changed))
    (c.in-Ok.ensures ∙ ap (states_limited c.args.tenant.now c.args.limit) c.in_ok-states.ensures ∙ world_limited (world_of c.args.host.now) c.args.tenant.now c.args.limit) spelled

pub returns-clause-there : goal.returns-clause-there
returns-clause-there g c within =
    let some : true ≡ c.has.result = search rules in
    some ∙ c.has.ensures ∙ ap (λ (states : States). list_any (λ tenant. is_name c.args.tenant.now tenant.name) states) c.in_ok-states.ensures ∙ has_name (world_of c.args.host.now) c.args.tenant.now
