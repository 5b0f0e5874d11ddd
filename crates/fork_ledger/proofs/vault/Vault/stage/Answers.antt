use Rattle.std.proofs.Common.{◌≡◌, ◌∷◌, [], ap, sym, subst, ◌∙◌}
use Rattle.std.specs.Prelude.{IfErr}
use Rattle.std.proofs.lemmas.Result.{on_err_weaker, on_ok_weaker}
use Rattle.git_name.specs.Object.{object_name}
use Rattle.git_name.specs.Count.{fault_in}
use Rattle.looks.specs.Growth.{GrowsAmong}
use Rattle.object_table.specs.Rows.{places_of}
use Rattle.fork_ledger.specs.Kept.{IsExact}
use Rattle.fork_ledger.specs.Private.{with_staged}
use Rattle.fork_ledger.specs.Shown.{tenants_of}
use Rattle.fork_ledger.specs.declared.fault.VaultFault.TheVariants.{Collision}
use Rattle.fork_ledger.specs.Store.{CountsFault, IsStored, Meets, MeetsHeld}
use Rattle.fork_ledger.specs.Tenants.{VaultState, at_tenant, shape_of}
use Rattle.fork_ledger.proofs.ClashLemmas.{held_refuses, vault_still}
use Rattle.fork_ledger.proofs.KeepingLemmas.{stored_keeps, tenants_keep}
use Rattle.fork_ledger.proofs.LedLemmas.{led_stays}
use Rattle.fork_ledger.proofs.ShownShapes.{shape_any, staged_shape}
use Rattle.fork_ledger.proofs.StagedLemmas.{ok_both, staged_stored, staged_tenants, staged_undamaged}
use Rattle.fork_ledger.proofs.StoreLemmas.{undamaged_in}
use Rattle.fork_ledger.proofs.StoredLemmas.{whichever}
use Rattle.fork_ledger.proofs.WholeLemmas.{has_files}
use Rattle.fork_ledger.proofs.vault.Vault.stage.Goals as goal

pub invariant_of-self : goal.invariant_of-self
invariant_of-self g c = λ h.
    let was = sym c.stage_whole.ensures.honest ∙ h in
    let m = c.self.inside.holdings.ledgers in
    let old = c.self.inside.files.contents in
    let new = c.stage_whole.new.files.contents in
    let kept = (c.self.invariant was).0 in
    let keeps = c.stage_whole.ensures.keeps was (has_files old m kept.stored) in (
      record {
        stored = whichever (IsStored (tenants_of new c.stage_whole.new.holdings.ledgers) new) c.stage_whole.result (ok_both _ _ c.stage_whole.result (c.stage_whole.ensures.whole was) c.stage_whole.ensures.ok) c.stage_whole.ensures.err
            (λ both. subst (λ x. IsStored (tenants_of new x) new) (sym both.1) (staged_stored old new m c.args.tenant.now c.args.sealed keeps both.0 kept.stored))
            (λ same. subst (λ x. IsStored (tenants_of new x) new) (sym same) (stored_keeps m old new keeps kept.stored));
        covers = c.stage_whole.ensures.covers was kept.covers;
      },
      led_stays c.self.inside.holdings.links c.stage_whole.new.holdings.links old new c.stage_whole.ensures.links (c.stage_whole.ensures.stands was) (c.self.invariant was).1,
    )

pub returns-clause-ok : goal.returns-clause-ok
returns-clause-ok g c = λ h.
    let was = ap (λ s. s.honest) c.self.view_is ∙ h in
    let old = c.self.inside.files.contents in
    let new = c.stage_whole.new.files.contents in
    on_ok_weaker c.stage_whole.result (λ both.
    ap (tenants_of new) both.1 ∙ staged_tenants old new c.self.inside.holdings.ledgers c.args.tenant.now c.args.sealed (c.stage_whole.ensures.keeps was (has_files old c.self.inside.holdings.ledgers (c.self.invariant was).0.stored)) both.0
    ∙ ap (λ s. at_tenant s.tenants c.args.tenant.now (with_staged c.args.sealed)) c.self.view_is)
    (ok_both _ _ c.stage_whole.result (c.stage_whole.ensures.whole was) c.stage_whole.ensures.ok)

pub returns-clause-err : goal.returns-clause-err
returns-clause-err g c = λ h.
    let was = ap (λ s. s.honest) c.self.view_is ∙ h in
    let old = c.self.inside.files.contents in
    let new = c.stage_whole.new.files.contents in
    on_err_weaker c.stage_whole.result (λ same.
    ap (tenants_of new) same ∙ tenants_keep c.self.inside.holdings.ledgers old new (c.stage_whole.ensures.keeps was (has_files old c.self.inside.holdings.ledgers (c.self.invariant was).0.stored)) ∙ ap (λ s. s.tenants) c.self.view_is) c.stage_whole.ensures.err

pub returns-clause-exact : goal.returns-clause-exact
returns-clause-exact g c = λ h.
    let was = ap (λ s. s.honest) c.self.view_is ∙ h in
    on_ok_weaker c.stage_whole.result (λ keeps exact. keeps (subst (λ (s : VaultState). IsExact s.files s.places) (sym c.self.view_is) exact)) (c.stage_whole.ensures.exact was)

pub returns-clause-shape : goal.returns-clause-shape
returns-clause-shape g c =
    let old = c.self.inside.files.contents in
    let new = c.stage_whole.new.files.contents in
    on_ok_weaker c.stage_whole.result (λ is.
    ap (λ m. shape_of (tenants_of new m)) is ∙ staged_shape old new c.self.inside.holdings.ledgers c.args.tenant.now c.args.sealed
    ∙ ap (λ s. shape_of (at_tenant s.tenants c.args.tenant.now (with_staged c.args.sealed))) c.self.view_is) c.stage_whole.ensures.ok

pub returns-clause-kept : goal.returns-clause-kept
returns-clause-kept g c =
    let old = c.self.inside.files.contents in
    let new = c.stage_whole.new.files.contents in
    on_err_weaker c.stage_whole.result (λ same. ap (λ m. shape_of (tenants_of new m)) same ∙ shape_any old new c.self.inside.holdings.ledgers ∙ ap (λ s. shape_of s.tenants) c.self.view_is) c.stage_whole.ensures.err

pub returns-clause-collision : goal.returns-clause-collision
returns-clause-collision g c = λ h.
    let was = ap (λ s. s.honest) c.self.view_is ∙ h in
    subst (λ (s : VaultState). IfErr c.stage_whole.result (λ fault. fault ≡ Collision → Meets c.args.sealed s.files)) c.self.view_is
    (c.stage_whole.ensures.collision was (c.self.invariant was).0.stored)

pub returns-clause-met : goal.returns-clause-met
returns-clause-met g c = λ met.
    let files = c.self.inside.files.contents in
    let told = c.stage_whole.ensures.met (held_refuses files c.self.inside.holdings.ledgers c.args.sealed (subst (λ (s : VaultState). MeetsHeld c.args.sealed s.tenants) (sym c.self.view_is) met)) in
    (told.0, vault_still c.self.inside.files c.stage_whole.new.files c.self.inside.holdings c.stage_whole.new.holdings told.1 told.2 ∙ c.self.view_is)

pub returns-clause-store : goal.returns-clause-store
returns-clause-store g c = record {
  honest = c.stage_whole.ensures.honest ∙ ap (λ s. s.honest) c.self.view_is;
  counted = subst (λ n. CountsFault n c.stage_whole.new.files.failures (fault_in c.stage_whole.result)) (ap (λ s. s.failures) c.self.view_is) c.stage_whole.ensures.cause;
  undamaged = λ h.
      let was = ap (λ s. s.honest) c.self.view_is ∙ h in
      undamaged_in c.stage_whole.result (staged_undamaged c.stage_whole.result c.self.inside.files.contents c.self.inside.holdings.ledgers (object_name c.args.sealed) (c.self.invariant was).0.stored (c.stage_whole.ensures.damaged was));
}

pub returns-clause-grows : goal.returns-clause-grows
returns-clause-grows g c = subst (λ (s : VaultState). GrowsAmong (object_name c.args.sealed ∷ []) s.places (places_of c.stage_whole.new.holdings.catalogue)) c.self.view_is c.stage_whole.ensures.grows
