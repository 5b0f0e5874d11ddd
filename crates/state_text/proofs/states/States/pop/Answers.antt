use Rattle.std.proofs.Common.{◌≡◌, ◌++◌, Option, None, Some, subst}
use Rattle.std.specs.Option.{option_to_list}
use Rattle.state_text.specs.States.{IsStates, States, TenantState}
use Rattle.state_text.proofs.StateLemmas.{tenant_less}
use Rattle.std.proofs.lemmas.List.{append-nil}
use Rattle.state_text.proofs.states.States.pop.Goals as goal

still : (old new : States) (last : Option TenantState) → old ≡ new ++ option_to_list last → IsStates old → IsStates new
still old new None is right = subst IsStates (append-nil new) (subst IsStates is right)
still old new (Some last) is right = tenant_less new last (subst IsStates is right)

pub invariant_of-self : goal.invariant_of-self
invariant_of-self c = still c.self.inside.tenants.items c.pop.new.self.items c.pop.result c.pop.ensures.items c.self.invariant
