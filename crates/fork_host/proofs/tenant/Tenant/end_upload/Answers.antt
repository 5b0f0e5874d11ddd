use Rattle.std.proofs.Common.{◌≡◌, Some, ap, subst, sym, ◌∙◌}
use Rattle.std.specs.FinMap as map
use Rattle.std.specs.Option.{option_map}
use Rattle.push_stream.specs.Stream.{finished, sent_in, stream_of}
use Rattle.push_stream.specs.Upload.{upload_of}
use Rattle.fork_request.specs.declared.reply.Reply.{Reply}
use Rattle.fork_model.specs.Answer.{open_upload, pushed}
use Rattle.fork_model.specs.Uploads.{upload_among}
use Rattle.fork_model.specs.View.{View}
use Rattle.fork_host.specs.Bounds.{IsBounded}
use Rattle.fork_host.specs.Handle.{shown_by, staged_by, visible_by}
use Rattle.fork_host.specs.Own.{visible_in}
use Rattle.fork_host.specs.Pushed.{view_of}
use Rattle.fork_host.specs.Rows.{Yields}
use Rattle.fork_host.specs.Shown.{Account}
use Rattle.fork_host.proofs.PartLemmas.{safe_as, staged_some, tells_brief, yields_as}
use Rattle.fork_host.proofs.PushLemmas.{end_is}
use Rattle.fork_host.proofs.QueryLemmas.{named_is}
use Rattle.fork_host.proofs.StagedLemmas.{came_beside, came_upload}
use Rattle.fork_host.proofs.UpdateLemmas.{found}
use Rattle.fork_host.proofs.tenant.Tenant.end_upload.Goals as goal

pub returns-clause-row : goal.returns-clause-row
returns-clause-row g c honest =
    let account = c.args.self.now in
    let own = c.args.own.now in
    let view = shown_by account own in
    let inside = c.self.inside in
    let objects = visible_in c.settle_upload.new.own.vault.now own.tenant.now in
    let now = view_of view c.settle_upload.new.repositories objects account.limit in
    let word = c.args.word.now in
    let name = c.in-Some.name in
    let reading = c.in-Some-upload.upload.brief in
    let there = found (map.get inside.repositories name) (sym c.contains.ensures ∙ c.if-not-contains.false) in
    let here = ap (λ (a : Account). map.get a.repositories name) (sym c.self.view_is) ∙ there.1 in
    let waits : account.upload ≡ Some reading = ap (λ (a : Account). a.upload) (sym c.self.view_is) ∙ ap (option_map (λ upload. upload.brief)) c.in-Some-upload.is in
    let came = staged_some own.vault.now.honest account.upload reading (staged_by own) waits c.requires.staged in
    let bytes = came.0 in
    let is = ap (option_map (upload_among (staged_by own))) waits ∙ ap Some (came_upload bytes reading own.vault.now.honest (staged_by own) honest came.1) in
    let row = end_is view word (map.get account.repositories word) there.0 (upload_of bytes) (ap (map.get account.repositories) (sym c.in-Some.ensures.found.0) ∙ here) is in
    subst (λ (r : Reply × View). Yields r view c.settle_upload.result now) (sym (named_is view word _ (sym c.in-Some.ensures.test) ∙ row))
    (subst (λ w. Yields (pushed view w there.0 (finished (stream_of bytes))) view c.settle_upload.result now) c.in-Some.ensures.found.0
    (yields_as (λ v. pushed v name there.0 (finished (stream_of bytes))) (view_of view inside.repositories (visible_by own) inside.limit) view (view_of view c.settle_upload.new.repositories objects inside.limit) now c.settle_upload.result
    (ap (λ (a : Account). view_of view a.repositories (visible_by own) a.limit) c.self.view_is) (ap (λ (a : Account). view_of view c.settle_upload.new.repositories objects a.limit) c.self.view_is)
    (c.settle_upload.ensures.row view (stream_of bytes) there.0 (tells_brief bytes reading c.finish-finished.result came.1.read c.finish-finished.ensures.found c.finish-finished.ensures.exact) there.1 honest
    (came_beside bytes reading own.vault.now.honest (visible_by own) (staged_by own) honest came.1))))

pub returns-clause-safe : goal.returns-clause-safe
returns-clause-safe g c =
    let account = c.args.self.now in
    let own = c.args.own.now in
    let view = shown_by account own in
    let inside = c.self.inside in
    let objects = visible_in c.settle_upload.new.own.vault.now own.tenant.now in
    let sent = sent_in (open_upload view.upload).stream in
    safe_as (IsBounded sent own.vault.now c.settle_upload.new.own.vault.now) (view_of view inside.repositories (visible_by own) inside.limit) view
    (view_of view c.settle_upload.new.repositories objects inside.limit) (view_of view c.settle_upload.new.repositories objects account.limit) c.settle_upload.result
    (ap (λ (a : Account). view_of view a.repositories (visible_by own) a.limit) c.self.view_is) (ap (λ (a : Account). view_of view c.settle_upload.new.repositories objects a.limit) c.self.view_is)
    (c.settle_upload.ensures.safe view sent)
