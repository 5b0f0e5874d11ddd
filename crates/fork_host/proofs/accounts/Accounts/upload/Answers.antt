use Rattle.std.proofs.Common.{[], Some, inl, refl, ap, subst, sym, ◌∙◌}
use Rattle.std.specs.FinMap as map
use Rattle.std.proofs.lemmas.Result.{err_from_is_err_and}
use Rattle.git_name.proofs.Names.{name_total}
use Rattle.git_name.proofs.TreeMaps.{get_of_entries}
use Rattle.fork_host.specs.Own.{staged_in}
use Rattle.fork_host.specs.Shown.{state_of}
use Rattle.fork_host.specs.Staged.{IsStaged}
use Rattle.fork_host.proofs.BoundLemmas.{bounded_still}
use Rattle.fork_host.proofs.PartLemmas.{staged_some}
use Rattle.fork_host.proofs.UploadLemmas.{upload_none, upload_some, upload_unknown}
use Rattle.fork_host.proofs.accounts.Accounts.upload.Goals as goal

pub returns-in_default-clause-found : goal.returns-in_default-clause-found
returns-in_default-clause-found g c honest =
    upload_unknown (state_of c.args.self.now c.args.vault.now) c.args.name.now
    (sym (c.in_default.ensures.value ∙ sym (get_of_entries name_total c.self.inside.tenants.entries c.args.name.now) ∙ ap (λ m. map.get m c.args.name.now) c.self.view_is))

pub returns-in_default-upload-clause-found : goal.returns-in_default-upload-clause-found
returns-in_default-upload-clause-found g c honest =
    upload_none (state_of c.args.self.now c.args.vault.now) c.args.name.now c.in-Some.tenant.now
    (sym (c.in-Some.ensures.value ∙ sym (get_of_entries name_total c.self.inside.tenants.entries c.args.name.now) ∙ ap (λ m. map.get m c.args.name.now) c.self.view_is)) (sym c.in_default-upload.ensures)

pub read_upload-requires : goal.read_upload-requires
read_upload-requires g c =
    let here = sym (c.in-Some.ensures.value ∙ sym (get_of_entries name_total c.self.inside.tenants.entries c.args.name.now) ∙ ap (λ m. map.get m c.args.name.now) c.self.view_is) in
    record { staged = subst (λ upload. IsStaged c.args.vault.now.honest upload (staged_in c.args.vault.now c.args.name.now)) (sym c.in-Some-upload.ensures) (c.requires.whole.staged c.args.name.now c.in-Some.tenant.now here) }

pub returns-clause-found : goal.returns-clause-found
returns-clause-found g c honest =
    let here = sym (c.in-Some.ensures.value ∙ sym (get_of_entries name_total c.self.inside.tenants.entries c.args.name.now) ∙ ap (λ m. map.get m c.args.name.now) c.self.view_is) in
    let vault = c.args.vault.now in
    let reading = c.in-Some-upload.upload.now.brief in
    let came = staged_some vault.honest c.in-Some.tenant.now.upload reading (staged_in vault c.args.name.now) (sym c.in-Some-upload.ensures) (c.requires.whole.staged c.args.name.now c.in-Some.tenant.now here) in
    ap Some (c.in_ok-bytes.ensures.opens came.0 honest came.1)
    ∙ upload_some (state_of c.args.self.now vault) c.args.name.now c.in-Some.tenant.now reading came.0 honest here (sym c.in-Some-upload.ensures) came.1

pub returns-in_default-clause-faults : goal.returns-in_default-clause-faults
returns-in_default-clause-faults g c = bounded_still [] c.args.vault.now _ (inl refl)

pub returns-in_default-upload-clause-faults : goal.returns-in_default-upload-clause-faults
returns-in_default-upload-clause-faults g c = bounded_still [] c.args.vault.now _ (inl refl)

pub returns-in_err-bytes-clause-faults : goal.returns-in_err-bytes-clause-faults
returns-in_err-bytes-clause-faults g c =
    let told = err_from_is_err_and c.from_residual.result c.from_residual.ensures.1 in
    rw (told.1, told.2) c.in_err-bytes.ensures.faults
