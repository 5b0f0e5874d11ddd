use Rattle.std.proofs.Common.{ap, sym, subst, ◌∙◌}
use Rattle.std.specs.FinMap.{contains_key, get, retain_keys}
use Rattle.std.specs.HashSet.{contains}
use Rattle.git_name.specs.Same.{same_name}
use Rattle.fork_ledger.specs.Kept.{Covers}
use Rattle.fork_ledger.specs.Private.{with_adopted}
use Rattle.fork_ledger.specs.Shown.{tenants_of}
use Rattle.fork_ledger.specs.Store.{IsStored}
use Rattle.fork_ledger.specs.Tenants.{VaultState, at_tenant, private_of}
use Rattle.fork_ledger.proofs.AdoptedLemmas.{adopted_seen, adopted_tenants}
use Rattle.fork_ledger.proofs.AdoptedStore.{alike_fits, stored_adopted}
use Rattle.fork_ledger.proofs.LedLemmas.{led_same}
use Rattle.fork_ledger.proofs.vault.Vault.adopt.Goals as goal

pub invariant_of-self-2 : goal.invariant_of-self-2
invariant_of-self-2 g c = λ h.
    let files = c.self.inside.files.contents in
    let m = c.self.inside.holdings.ledgers in
    let names = contains same_name c.args.names.now in
    let fits = alike_fits m c.args.to.now c.args.from.now names c.words_are_alike.ensures in
    let kept = (c.self.invariant h).0 in (
      record {
        stored = subst (λ tenants. IsStored tenants files) (sym (adopted_tenants files m c.adopt.new.self.ledgers c.args.to.now c.args.from.now names fits c.in-Ok.ensures.ok))
            (stored_adopted (tenants_of files m) c.args.to.now c.args.from.now files names kept.stored);
        covers = subst (λ p. Covers files p) (sym c.in-Ok.ensures.places) kept.covers;
      },
      led_same c.self.inside.holdings.links c.adopt.new.self.links files c.adopt.ensures.links (c.self.invariant h).1,
    )

pub returns-clause-ok : goal.returns-clause-ok
returns-clause-ok g c =
    let m = c.self.inside.holdings.ledgers in
    let names = contains same_name c.args.names.now in
    adopted_tenants c.self.inside.files.contents m c.adopt.new.self.ledgers c.args.to.now c.args.from.now names (alike_fits m c.args.to.now c.args.from.now names c.words_are_alike.ensures) c.in-Ok.ensures.ok
    ∙ ap (λ (s : VaultState). at_tenant s.tenants c.args.to.now (with_adopted (retain_keys (private_of s.tenants c.args.from.now).visible names))) c.self.view_is

pub returns-clause-same : goal.returns-clause-same
returns-clause-same g c = λ there name object here.
    let files = c.self.inside.files.contents in
    let m = c.self.inside.holdings.ledgers in
    let names = contains same_name c.args.names.now in
    let fits = alike_fits m c.args.to.now c.args.from.now names c.words_are_alike.ensures in
    ap (λ tenants. get (private_of tenants c.args.to.now).visible name) (adopted_tenants files m c.adopt.new.self.ledgers c.args.to.now c.args.from.now names fits c.in-Ok.ensures.ok)
    ∙ adopted_seen files m c.args.to.now c.args.from.now names fits (ap (λ s. contains_key s.tenants c.args.to.now) c.self.view_is ∙ there) name object
    (ap (λ s. get (retain_keys (private_of s.tenants c.args.from.now).visible names) name) c.self.view_is ∙ here)
