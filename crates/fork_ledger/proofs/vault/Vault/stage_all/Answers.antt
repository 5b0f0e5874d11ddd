use Rattle.std.proofs.Common.{◌≡◌, ap, map, sym, subst, ◌∙◌}
use Rattle.std.specs.FinMap.{contains_key}
use Rattle.std.specs.Prelude.{IfErr}
use Rattle.std.proofs.lemmas.Result.{on_err_weaker, on_ok_weaker}
use Rattle.git_name.specs.Object.{object_name}
use Rattle.git_name.specs.Count.{fault_in}
use Rattle.looks.specs.Growth.{GrowsAmong}
use Rattle.object_table.specs.Rows.{places_of}
use Rattle.object_table.specs.AllStaged.{all_staged_words}
use Rattle.object_table.specs.Ledgers.{at_ledger}
use Rattle.object_table.specs.Told.{entry_of}
use Rattle.fork_ledger.specs.AllStaged.{MeetsAmong, with_all_staged}
use Rattle.fork_ledger.specs.Kept.{IsExact}
use Rattle.fork_ledger.specs.Shown.{tenants_of}
use Rattle.fork_ledger.specs.declared.fault.VaultFault.TheVariants.{Collision}
use Rattle.fork_ledger.specs.Store.{CountsFault, IsStored, MeetsHeld}
use Rattle.fork_ledger.specs.Tenants.{VaultState, at_tenant, private_of, shape_of}
use Rattle.fork_ledger.proofs.AllStagedLemmas.{all_staged_shape, all_staged_stored, all_staged_tenants, keeps_whole, none_damaged}
use Rattle.fork_ledger.proofs.CameLemmas.{all_back, all_came}
use Rattle.fork_ledger.proofs.ClashLemmas.{held_refuses, vault_still}
use Rattle.fork_ledger.proofs.KeepingLemmas.{stored_keeps, tenants_keep}
use Rattle.fork_ledger.proofs.ShownShapes.{shape_any}
use Rattle.fork_ledger.proofs.StagedLemmas.{ok_both}
use Rattle.fork_ledger.proofs.StoreLemmas.{undamaged_in}
use Rattle.fork_ledger.proofs.StoredLemmas.{whichever}
use Rattle.fork_ledger.proofs.vault.Vault.stage_all.Goals as goal

pub invariant_of-self : goal.invariant_of-self
invariant_of-self g c = λ h.
    let told = c.stage_all_whole.ensures in
    let was = sym told.honest ∙ h in
    let m = c.self.inside.holdings.ledgers in
    let old = c.self.inside.files.contents in
    let new = c.stage_all_whole.new.files.contents in
    let objects = c.args.objects.items in
    let kept = (c.self.invariant was).0 in
    let keeps = keeps_whole m old new kept.stored (told.stands was) in (
      record {
        stored = whichever (IsStored (tenants_of new c.stage_all_whole.new.holdings.ledgers) new) c.stage_all_whole.result (ok_both _ _ c.stage_all_whole.result (told.receives was) told.ok) told.err
            (λ both. subst (λ x. IsStored (tenants_of new x) new) (sym {b = at_ledger m c.args.tenant.now (all_staged_words (map entry_of objects))} both.1) (all_staged_stored old new m c.args.tenant.now objects keeps both.0.whole kept.stored))
            (λ same. subst (λ x. IsStored (tenants_of new x) new) (sym {b = m} same) (stored_keeps m old new keeps kept.stored));
        covers = told.covers was kept.covers;
      },
      told.led was (c.self.invariant was).1,
    )

pub returns-clause-ok : goal.returns-clause-ok
returns-clause-ok g c = λ h.
    let told = c.stage_all_whole.ensures in
    let was = ap (λ s. s.honest) c.self.view_is ∙ h in
    let m = c.self.inside.holdings.ledgers in
    let old = c.self.inside.files.contents in
    let new = c.stage_all_whole.new.files.contents in
    let objects = c.args.objects.items in
    on_ok_weaker c.stage_all_whole.result (λ both.
    ap (tenants_of new) both.1 ∙ all_staged_tenants old new m c.args.tenant.now objects (keeps_whole m old new (c.self.invariant was).0.stored (told.stands was)) both.0.whole
    ∙ (λ i. at_tenant (c.self.view_is i).tenants c.args.tenant.now (with_all_staged c.args.objects.items)))
    (ok_both _ _ c.stage_all_whole.result (told.receives was) told.ok)

pub returns-clause-err : goal.returns-clause-err
returns-clause-err g c = λ h.
    let told = c.stage_all_whole.ensures in
    let was = ap (λ s. s.honest) c.self.view_is ∙ h in
    let m = c.self.inside.holdings.ledgers in
    let old = c.self.inside.files.contents in
    let new = c.stage_all_whole.new.files.contents in
    on_err_weaker c.stage_all_whole.result (λ same.
    ap (tenants_of new) same ∙ tenants_keep m old new (keeps_whole m old new (c.self.invariant was).0.stored (told.stands was)) ∙ ap (λ s. s.tenants) c.self.view_is) told.err

pub returns-clause-came : goal.returns-clause-came
returns-clause-came g c = λ h there.
    let told = c.stage_all_whole.ensures in
    let was = ap (λ s. s.honest) c.self.view_is ∙ h in
    let m = c.self.inside.holdings.ledgers in
    let old = c.self.inside.files.contents in
    let new = c.stage_all_whole.new.files.contents in
    let objects = c.args.objects.items in
    let t = c.args.tenant.now in
    let m2 = c.stage_all_whole.new.holdings.ledgers in
    let here = ap (λ s. contains_key s.tenants t) c.self.view_is ∙ there in
    let stored = (invariant_of-self g c (told.honest ∙ was)).0.stored in
    on_ok_weaker c.stage_all_whole.result (λ both.
    let is = ap (tenants_of new) both.1 ∙ all_staged_tenants old new m t objects (keeps_whole m old new (c.self.invariant was).0.stored (told.stands was)) both.0.whole in
    all_came new (tenants_of old m) (tenants_of new m2) t objects here is stored both.0.whole)
    (ok_both _ _ c.stage_all_whole.result (told.receives was) told.ok)

pub returns-clause-back : goal.returns-clause-back
returns-clause-back g c = λ h there.
    let t = c.args.tenant.now in
    let new = c.stage_all_whole.new.files.contents in
    let was = ap (λ s. s.honest) c.self.view_is ∙ h in
    let own = private_of (tenants_of new c.stage_all_whole.new.holdings.ledgers) t in
    all_back (λ back. back.items) own new c.args.objects.items c.stage_all_whole.result (λ name object holds. (invariant_of-self g c (c.stage_all_whole.ensures.honest ∙ was)).0.stored t name object holds) (returns-clause-came g c h there) c.stage_all_whole.ensures.back

pub returns-clause-exact : goal.returns-clause-exact
returns-clause-exact g c = λ h.
    let was = ap (λ s. s.honest) c.self.view_is ∙ h in
    on_ok_weaker c.stage_all_whole.result (λ received exact. received.exact (subst (λ (s : VaultState). IsExact s.files s.places) (sym c.self.view_is) exact)) (c.stage_all_whole.ensures.receives was)

pub returns-clause-shape : goal.returns-clause-shape
returns-clause-shape g c =
    let m = c.self.inside.holdings.ledgers in
    let old = c.self.inside.files.contents in
    let new = c.stage_all_whole.new.files.contents in
    on_ok_weaker c.stage_all_whole.result (λ is.
    ap (λ x. shape_of (tenants_of new x)) is ∙ all_staged_shape old new m c.args.tenant.now c.args.objects.items
    ∙ (λ i. shape_of (at_tenant (c.self.view_is i).tenants c.args.tenant.now (with_all_staged c.args.objects.items)))) c.stage_all_whole.ensures.ok

pub returns-clause-kept : goal.returns-clause-kept
returns-clause-kept g c =
    let m = c.self.inside.holdings.ledgers in
    let old = c.self.inside.files.contents in
    let new = c.stage_all_whole.new.files.contents in
    on_err_weaker c.stage_all_whole.result (λ same. ap (λ x. shape_of (tenants_of new x)) same ∙ shape_any old new m ∙ ap (λ s. shape_of s.tenants) c.self.view_is) c.stage_all_whole.ensures.err

pub returns-clause-collision : goal.returns-clause-collision
returns-clause-collision g c = λ h.
    let was = ap (λ s. s.honest) c.self.view_is ∙ h in
    subst (λ (s : VaultState). IfErr c.stage_all_whole.result (λ fault. fault ≡ Collision → MeetsAmong c.args.objects.items s.files)) c.self.view_is
    (c.stage_all_whole.ensures.collision was (c.self.invariant was).0.stored)

pub returns-clause-met : goal.returns-clause-met
returns-clause-met g c = λ object there met.
    let files = c.self.inside.files.contents in
    let told = c.stage_all_whole.ensures.met object there (held_refuses files c.self.inside.holdings.ledgers object (subst (λ (s : VaultState). MeetsHeld object s.tenants) (sym c.self.view_is) met)) in
    (told.0, vault_still c.self.inside.files c.stage_all_whole.new.files c.self.inside.holdings c.stage_all_whole.new.holdings told.1 told.2 ∙ c.self.view_is)

pub returns-clause-store : goal.returns-clause-store
returns-clause-store g c = record {
  honest = c.stage_all_whole.ensures.honest ∙ ap (λ s. s.honest) c.self.view_is;
  counted = subst (λ n. CountsFault n c.stage_all_whole.new.files.failures (fault_in c.stage_all_whole.result)) (ap (λ s. s.failures) c.self.view_is) c.stage_all_whole.ensures.cause;
  undamaged = λ h.
      let was = ap (λ s. s.honest) c.self.view_is ∙ h in
      undamaged_in c.stage_all_whole.result (none_damaged c.stage_all_whole.result c.self.inside.files.contents c.self.inside.holdings.ledgers (c.self.invariant was).0.stored (c.stage_all_whole.ensures.damaged was));
}

pub returns-clause-grows : goal.returns-clause-grows
returns-clause-grows g c = subst (λ (s : VaultState). GrowsAmong (map object_name c.args.objects.items) s.places (places_of c.stage_all_whole.new.holdings.catalogue)) c.self.view_is c.stage_all_whole.ensures.grows
