use Rattle.std.proofs.Common.{[], ap, refl, subst, sym, ◌∙◌}
use Rattle.std.specs.FinMap.{contains_key, len}
use Rattle.std.specs.HashSet.{contains}
use Rattle.std.specs.Prelude.{nat_le}
use Rattle.git_name.specs.Same.{same_name}
use Rattle.fork_reach.specs.Objects.{Measures}
use Rattle.fork_ledger.proofs.BothLemmas.{same_measures, same_tenants_there}
use Rattle.looks.proofs.GrowthLemmas.{grows_same}
use Rattle.fork_request.specs.declared.reply.Reply.TheVariants.{Failed}
use Rattle.fork_model.specs.Answer.{offer_taken}
use Rattle.fork_model.specs.Offer.{offered}
use Rattle.fork_model.specs.declared.limits.TheConstants.{MAX_REPOSITORIES}
use Rattle.fork_host.specs.Bounds.{IsBounded}
use Rattle.fork_host.specs.Own.{visible_in}
use Rattle.fork_host.specs.Rows.{fault_told}
use Rattle.fork_host.specs.Shown.{shown}
use Rattle.fork_host.proofs.BoundLemmas.{bounded_read}
use Rattle.fork_host.proofs.ForkedLemmas.{Walked, forked_own, forked_repositories, forked_safe, forked_staged, forked_takes, forked_yields, none_stands, read_safe_in, read_yields}
use Rattle.fork_host.proofs.OwnLemmas.{own_read, staged_read}
use Rattle.fork_host.proofs.StagedLemmas.{staged_kept_still}
use Rattle.fork_host.proofs.TakenFromLemmas.{taken_none}
use Rattle.fork_host.proofs.fork_offer.take_offer.Goals as goal

pub adopt-requires-clause-there : goal.adopt-requires-clause-there
adopt-requires-clause-there g c = same_tenants_there c.args.vault.now.tenants c.reached_from.new.vault.tenants c.args.name.now c.in-Ok.ensures.shape ∙ c.requires.ready.there

pub returns-in-Ok-clause-row : goal.returns-in-Ok-clause-row
returns-in-Ok-clause-row g c =
    let old = c.args.vault.now in
    let mid = c.reached_from.new.vault in
    let new = c.adopt.new.vault in
    let names = contains same_name c.in-Ok.names in
    let told = c.in-Ok.ensures in
    let walked : Walked old mid c.args.giver.now c.args.repository.references names =
    subst (λ references. Walked old mid c.args.giver.now references names) c.references.ensures.references (record { shape = told.shape; kept = told.kept; read = told.read; rooted = told.rooted; found = told.found }) in
    let free = none_stands (contains_key c.args.tenant.now.repositories c.args.copy) (nat_le MAX_REPOSITORIES (len c.args.tenant.now.repositories)) c.args.copy (sym c.refuses.ensures ∙ c.in_default.is) in
    record { yields = λ honest. forked_yields c.args.name.now c.args.giver.now c.args.copy c.args.repository names c.args.tenant.now c.adopt.new.tenant old mid new c.adopt.result c.requires.ready.there walked c.adopt.ensures.store free.0 free.1 c.adopt.ensures.forked honest }

pub returns-in-Ok-clause-safe : goal.returns-in-Ok-clause-safe
returns-in-Ok-clause-safe g c = λ head holds.
    let old = c.args.vault.now in
    let mid = c.reached_from.new.vault in
    let new = c.adopt.new.vault in
    let names = contains same_name c.in-Ok.names in
    let told = c.in-Ok.ensures in
    let walked : Walked old mid c.args.giver.now c.args.repository.references names =
    subst (λ references. Walked old mid c.args.giver.now references names) c.references.ensures.references (record { shape = told.shape; kept = told.kept; read = told.read; rooted = told.rooted; found = told.found }) in
    let free = none_stands (contains_key c.args.tenant.now.repositories c.args.copy) (nat_le MAX_REPOSITORIES (len c.args.tenant.now.repositories)) c.args.copy (sym c.refuses.ensures ∙ c.in_default.is) in
    forked_safe c.args.name.now c.args.giver.now c.args.copy c.args.repository names c.args.tenant.now c.adopt.new.tenant old mid new c.adopt.result c.requires.ready.there walked c.adopt.ensures.store free.1 c.as_bytes-name.ensures.name head holds c.adopt.ensures.forked

pub returns-in-Ok-clause-own : goal.returns-in-Ok-clause-own
returns-in-Ok-clause-own g c =
    let old = c.args.vault.now in
    let mid = c.reached_from.new.vault in
    let new = c.adopt.new.vault in
    let names = contains same_name c.in-Ok.names in
    let told = c.in-Ok.ensures in
    let walked : Walked old mid c.args.giver.now c.args.repository.references names =
    subst (λ references. Walked old mid c.args.giver.now references names) c.references.ensures.references (record { shape = told.shape; kept = told.kept; read = told.read; rooted = told.rooted; found = told.found }) in
    forked_own c.args.name.now c.args.giver.now c.args.copy c.args.repository names c.args.tenant.now c.adopt.new.tenant old mid new c.adopt.result c.requires.ready.there walked c.adopt.ensures.store c.adopt.ensures.forked

pub returns-in-Ok-clause-forked : goal.returns-in-Ok-clause-forked
returns-in-Ok-clause-forked g c = λ done.
    let old = c.args.vault.now in
    let mid = c.reached_from.new.vault in
    let new = c.adopt.new.vault in
    let names = contains same_name c.in-Ok.names in
    let told = c.in-Ok.ensures in
    let walked : Walked old mid c.args.giver.now c.args.repository.references names =
    subst (λ references. Walked old mid c.args.giver.now references names) c.references.ensures.references (record { shape = told.shape; kept = told.kept; read = told.read; rooted = told.rooted; found = told.found }) in
    forked_repositories c.args.name.now c.args.giver.now c.args.copy c.args.repository names c.args.tenant.now c.adopt.new.tenant old mid new c.adopt.result c.requires.ready.there walked c.adopt.ensures.store c.adopt.ensures.forked done

pub returns-in-Ok-clause-takes : goal.returns-in-Ok-clause-takes
returns-in-Ok-clause-takes g c =
    let old = c.args.vault.now in
    let mid = c.reached_from.new.vault in
    let new = c.adopt.new.vault in
    let names = contains same_name c.in-Ok.names in
    let told = c.in-Ok.ensures in
    let walked : Walked old mid c.args.giver.now c.args.repository.references names =
    subst (λ references. Walked old mid c.args.giver.now references names) c.references.ensures.references (record { shape = told.shape; kept = told.kept; read = told.read; rooted = told.rooted; found = told.found }) in
    forked_takes c.args.name.now c.args.giver.now c.args.copy c.args.repository names c.args.tenant.now c.adopt.new.tenant old mid new c.adopt.result c.requires.ready.there walked c.adopt.ensures.store c.adopt.ensures.forked

pub returns-in-Ok-clause-grows : goal.returns-in-Ok-clause-grows
returns-in-Ok-clause-grows g c = grows_same [] c.args.vault.now.places c.adopt.new.vault.places (c.adopt.ensures.store.places ∙ c.in-Ok.ensures.read.places)

pub returns-in-Ok-clause-staged : goal.returns-in-Ok-clause-staged
returns-in-Ok-clause-staged g c =
    let old = c.args.vault.now in
    let mid = c.reached_from.new.vault in
    let new = c.adopt.new.vault in
    let names = contains same_name c.in-Ok.names in
    let told = c.in-Ok.ensures in
    let walked : Walked old mid c.args.giver.now c.args.repository.references names =
    subst (λ references. Walked old mid c.args.giver.now references names) c.references.ensures.references (record { shape = told.shape; kept = told.kept; read = told.read; rooted = told.rooted; found = told.found }) in
    forked_staged c.args.name.now c.args.giver.now c.args.copy c.args.repository names c.args.tenant.now c.adopt.new.tenant old mid new c.adopt.result c.requires.ready.there walked c.adopt.ensures.store c.adopt.ensures.forked c.requires.staged

pub returns-in-Err-clause-row : goal.returns-in-Err-clause-row
returns-in-Err-clause-row g c =
    let old = c.args.vault.now in
    let account = c.args.tenant.now in
    let row = offer_taken (shown account old c.args.name.now) c.args.copy (offered (visible_in old c.args.giver.now) c.args.repository) in
    record { yields = λ honest. read_yields row c.args.name.now account old c.reached_from.new.vault (fault_told c.in-Err.fault) (Failed c.host_fault.result) c.in-Err.ensures.kept (ap (λ f. Failed f) c.host_fault.ensures) honest }

pub returns-in-Err-clause-safe : goal.returns-in-Err-clause-safe
returns-in-Err-clause-safe g c = λ head holds.
    let old = c.args.vault.now in
    let new = c.reached_from.new.vault in
    read_safe_in c.args.name.now c.args.tenant.now old new (Failed c.host_fault.result) c.in-Err.ensures.shape
    (subst (λ fault. IsBounded [] old new (Failed fault)) (sym c.host_fault.ensures) (bounded_read [] old new c.in-Err.fault c.in-Err.ensures.read))

pub returns-in-Err-clause-own : goal.returns-in-Err-clause-own
returns-in-Err-clause-own g c = own_read c.args.vault.now c.reached_from.new.vault c.args.name.now c.in-Err.ensures.shape c.in-Err.ensures.kept c.in-Err.ensures.read.honest

pub returns-in-Err-clause-staged : goal.returns-in-Err-clause-staged
returns-in-Err-clause-staged g c =
    staged_kept_still c.args.vault.now c.reached_from.new.vault c.args.name.now c.args.tenant.now.upload (staged_read c.args.vault.now c.reached_from.new.vault c.args.name.now c.in-Err.ensures.shape c.in-Err.ensures.kept) c.requires.staged

pub returns-in-Err-clause-takes : goal.returns-in-Err-clause-takes
returns-in-Err-clause-takes g c =
    let old = c.args.vault.now in
    let new = c.reached_from.new.vault in
    taken_none (visible_in old c.args.giver.now) (visible_in old c.args.name.now) (visible_in new c.args.name.now) (ap (λ (p : Measures × Measures). p.0) (same_measures old.tenants new.tenants c.args.name.now c.in-Err.ensures.shape))

pub returns-in-Some-clause-takes : goal.returns-in-Some-clause-takes
returns-in-Some-clause-takes g c = taken_none (visible_in c.args.vault.now c.args.giver.now) (visible_in c.args.vault.now c.args.name.now) (visible_in c.args.vault.now c.args.name.now) refl

pub returns-in-Err-clause-forked : goal.returns-in-Err-clause-forked
returns-in-Err-clause-forked g c = λ done. absurd (cc)

pub returns-in-Some-clause-forked : goal.returns-in-Some-clause-forked
returns-in-Some-clause-forked g c = λ done. absurd (cc)
