use Rattle.std.proofs.Common.{None, Some, ap, sym, ◌∙◌}
use Rattle.std.specs.FinMap as map
use Rattle.fork_ledger.proofs.UpdateLemmas.{found_in}
use Rattle.fork_host.specs.Shown.{state_of}
use Rattle.fork_host.proofs.MetLemmas.{no_giver, no_offer, no_repository_name, no_tenant_name, offer_met}
use Rattle.fork_host.proofs.accounts.Accounts.offer_from.Goals as goal

pub returns-in_default : goal.returns-in_default
returns-in_default g c copy = no_tenant_name (state_of c.args.self.now c.args.vault.now) c.args.receiver.now c.args.giver.now c.args.word.now c.requires.orderly c.in_default.ensures.none

pub returns-in_default-read : goal.returns-in_default-read
returns-in_default-read g c copy = no_repository_name (state_of c.args.self.now c.args.vault.now) c.args.receiver.now c.args.giver.now c.args.word.now c.requires.orderly c.in_default-read.ensures.none

pub returns-in_default-get : goal.returns-in_default-get
returns-in_default-get g c copy =
    let none = found_in c.args.self.now c.self.inside.tenants.entries c.in-Some.giver None c.self.view_is c.in_default-get.ensures.value in
    no_giver (state_of c.args.self.now c.args.vault.now) c.args.receiver.now c.args.giver.now c.args.word.now (ap (map.get c.args.self.now) (sym c.in-Some.ensures.found.0) ∙ none)

pub returns-in_default-offered_to : goal.returns-in_default-offered_to
returns-in_default-offered_to g c copy =
    let account = c.in-Some-get.tenant.now in
    let here = found_in c.args.self.now c.self.inside.tenants.entries c.in-Some.giver (Some account) c.self.view_is c.in-Some-get.ensures.value in
    let none = ap (λ name. map.get account.made (c.args.receiver.now, name)) (sym c.in-Some-read.ensures.found.0) ∙ sym c.in_default-offered_to.ensures in
    no_offer (state_of c.args.self.now c.args.vault.now) c.args.receiver.now c.args.giver.now c.args.word.now account (ap (map.get c.args.self.now) (sym c.in-Some.ensures.found.0) ∙ here) none

pub returns : goal.returns
returns g c copy =
    let account = c.in-Some-get.tenant.now in
    let here = found_in c.args.self.now c.self.inside.tenants.entries c.in-Some.giver (Some account) c.self.view_is c.in-Some-get.ensures.value in
    let made = ap (λ name. map.get account.made (c.args.receiver.now, name)) (sym c.in-Some-read.ensures.found.0) ∙ sym c.in-Some-offered_to.ensures in
    offer_met (state_of c.args.self.now c.args.vault.now) c.args.receiver.now c.args.giver.now c.args.word.now c.in-Some.giver account c.in_ok-copy.copy c.requires.orderly c.in-Some.ensures.found.0
    (ap (map.get c.args.self.now) (sym c.in-Some.ensures.found.0) ∙ here) (made ∙ ap Some (sym c.in_ok-copy.ensures))
