use Rattle.std.proofs.Common.{◌≡◌, true, false, inl, inr, sym, subst}
use Rattle.std.specs.Prelude.{IfOk, OnErr}
use Rattle.std.proofs.lemmas.Result.{IfOk-weaker}
use Rattle.number_links.specs.declared.along.Along.TheVariants.{Links}
use Rattle.fork_ledger.specs.Kept.{Covers}
use Rattle.fork_ledger.specs.Private.{with_kept}
use Rattle.fork_ledger.specs.Retained.{Retains}
use Rattle.fork_ledger.specs.Shown.{tenants_of}
use Rattle.fork_ledger.specs.Store.{IsStored}
use Rattle.fork_ledger.specs.Tenants.{VaultState}
use Rattle.fork_ledger.proofs.BetweenLemmas.{led_rested}
use Rattle.fork_ledger.proofs.RetainedLemmas.{done_or_same, err_too, kept_shown, retained_shown, same_vault, vault_of}
use Rattle.fork_ledger.proofs.StoredLemmas.{brings_kept, stored_at}
use Rattle.fork_ledger.proofs.vault.Vault.retain_reached.Goals as goal

pub invariant_of-self : goal.invariant_of-self
invariant_of-self g c = λ h.
    let files = c.self.inside.files.contents in
    let before = c.self.inside.holdings in
    let now = c.retain_reached.new.self in
    let t = c.args.tenant.now in
    let kept = c.self.invariant h in
    let told = c.retain_reached.ensures in (
      record {
        stored = elim (done_or_same c.retain_reached.result _ _ told.retained told.kept told.err) as (λ _. IsStored (tenants_of files now.ledgers) files) [
          | inl is ↦
              subst (λ m. IsStored m files) (sym (kept_shown files before.ledgers now.ledgers t is.reached is.ledgers))
              (stored_at (tenants_of files before.ledgers) t files (with_kept is.reached) (brings_kept is.reached) kept.0.stored)
          | inr same ↦ subst (λ m. IsStored (tenants_of files m) files) (sym same) kept.0.stored
        ];
        covers = subst (λ p. Covers files p) (sym told.places) kept.0.covers;
      },
      led_rested files before.ledgers t before.links Links kept.0.stored kept.1 now.links told.links,
    )

pub returns-clause-retained : goal.returns-clause-retained
returns-clause-retained g c =
    let files = c.self.inside.files.contents in
    let before = c.self.inside.holdings in
    let now = c.retain_reached.new.self in
    let t = c.args.tenant.now in
    subst (λ (s : VaultState). IfOk c.retain_reached.result (λ done. done ≡ true → Retains s.honest t c.args.roots.now s.tenants (tenants_of files now.ledgers))) c.self.view_is
    (IfOk-weaker c.retain_reached.result _ _ (λ done is so. retained_shown c.self.inside.files.honest files before.ledgers now.ledgers t before.links c.args.roots.now (λ h. (c.self.invariant h).0.stored) (λ h. (c.self.invariant h).1) (is so)) c.retain_reached.ensures.retained)

pub returns-clause-kept : goal.returns-clause-kept
returns-clause-kept g c =
    let files = c.self.inside.files in
    let before = c.self.inside.holdings in
    let now = c.retain_reached.new.self in
    subst (λ (s : VaultState). IfOk c.retain_reached.result (λ done. done ≡ false → vault_of files now ≡ s)) c.self.view_is
    (IfOk-weaker c.retain_reached.result _ _ (λ done same so. same_vault files before now (same so) c.retain_reached.ensures.places) c.retain_reached.ensures.kept)

pub returns-clause-err : goal.returns-clause-err
returns-clause-err g c =
    let files = c.self.inside.files in
    let before = c.self.inside.holdings in
    let now = c.retain_reached.new.self in
    subst (λ (s : VaultState). OnErr c.retain_reached.result (vault_of files now ≡ s)) c.self.view_is
    (err_too c.retain_reached.result _ _ (λ same. same_vault files before now same c.retain_reached.ensures.places) c.retain_reached.ensures.err)
