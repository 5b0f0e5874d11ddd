use Rattle.std.proofs.Common.{ap}
use Rattle.fork_ledger.specs.Private.{Private, with_discarded}
use Rattle.fork_host.proofs.OwnLemmas.{changed_at, made_just, own_of}
use Rattle.fork_host.proofs.staging.discard.Goals as goal

pub returns-clause-changes : goal.returns-clause-changes
returns-clause-changes g c = made_just c.args.own.now.vault.now c.discard.new.self.vault.now c.args.own.now.tenant.now with_discarded c.requires.there c.discard.ensures.tenants c.discard.ensures.store.honest

pub returns-clause-own : goal.returns-clause-own
returns-clause-own g c =
    let old = c.args.own.now.vault.now in
    let tenant = c.args.own.now.tenant.now in
    let new = c.discard.new.self.vault.now in
    own_of old new tenant (made_just old new tenant with_discarded c.requires.there c.discard.ensures.tenants c.discard.ensures.store.honest)

pub returns-clause-none : goal.returns-clause-none
returns-clause-none g c = ap (λ (p : Private). p.staged) (changed_at c.args.own.now.vault.now.tenants c.discard.new.self.vault.now.tenants c.args.own.now.tenant.now with_discarded c.requires.there c.discard.ensures.tenants)

pub returns-clause-still : goal.returns-clause-still
returns-clause-still g c = ap (λ (p : Private). p.visible) (changed_at c.args.own.now.vault.now.tenants c.discard.new.self.vault.now.tenants c.args.own.now.tenant.now with_discarded c.requires.there c.discard.ensures.tenants)
