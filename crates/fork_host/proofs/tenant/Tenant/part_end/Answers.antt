use Rattle.std.proofs.Common.{◌≡◌, None, ap, refl, subst, sym, ◌∙◌}
use Rattle.std.specs.FinMap.{empty, get}
use Rattle.std.specs.Option.{option_map}
use Rattle.push_stream.specs.Stream.{sent_in}
use Rattle.fork_request.specs.Asked.{EndsParts}
use Rattle.fork_model.specs.Context.{nothing_offered}
use Rattle.fork_model.specs.Answer.{answer, end_in, named_repository, open_upload, part_end_answer, without_upload}
use Rattle.fork_model.specs.Uploads.{upload_among}
use Rattle.fork_model.proofs.StepLemmas.{answer_tells}
use Rattle.fork_host.specs.Bounds.{IsBounded}
use Rattle.fork_host.specs.Handle.{shown_by, staged_by, visible_by}
use Rattle.fork_host.specs.Made.{made_of}
use Rattle.fork_host.specs.Own.{staged_in, visible_in}
use Rattle.fork_host.specs.Pushed.{view_of}
use Rattle.fork_host.specs.Rows.{plain}
use Rattle.fork_host.specs.Safe.{IsSafe}
use Rattle.fork_host.specs.Shown.{Account, shown}
use Rattle.fork_host.specs.Staged.{IsStaged}
use Rattle.fork_host.proofs.BoundLemmas.{bounded_left}
use Rattle.fork_host.proofs.HandleLemmas.{of_first}
use Rattle.fork_host.proofs.PartLemmas.{ended_told, failed_not_done, safe_within, with_upload}
use Rattle.fork_host.proofs.MadeLemmas.{made_again}
use Rattle.fork_host.proofs.PushLemmas.{ended_failed}
use Rattle.fork_host.proofs.RowLemmas.{yields_plain}
use Rattle.fork_host.proofs.SafeLemmas.{AreAlike, count_in, safe_ended, safe_rest, same_count}
use Rattle.fork_host.specs.contracts.tenant.Tenant as tenant
use Rattle.fork_host.proofs.StagedLemmas.{staged_kept_still}
use Rattle.fork_host.proofs.tenant.Tenant.part_end.Goals as goal

pub returns-then-not-is_failed-clause-row : goal.returns-then-not-is_failed-clause-row
unfolding part_end_answer
returns-then-not-is_failed-clause-row g c honest =
    let account = c.args.self.now in
    let own = c.args.own.now in
    let mid = c.end_upload-reply.new.own in
    let new = c.discard.new.own.vault.now in
    let after = c.end_upload-reply.new.self in
    let view = shown_by account own in
    let now = shown (with_upload (tenant.the_view c.self.inside) None) new own.tenant.now in
    let seen = of_first own mid (λ t. visible_in new t ≡ visible_in mid.vault.now t) c.end_upload-reply.ensures.own.same c.discard.ensures.still in
    let made : made_of now.made ≡ made_of view.made =
    made_again (visible_in new own.tenant.now) c.self.inside.made ∙ ap (λ (a : Account). a.made) c.self.view_is ∙ c.end_upload-reply.ensures.made ∙ sym (made_again (visible_by own) account.made) in
    let limit = ap (λ (a : Account). a.limit) c.self.view_is ∙ c.end_upload-reply.ensures.limit in
    let same : plain now ≡ plain (without_upload (view_of view after.repositories (visible_in mid.vault.now own.tenant.now) account.limit)) =
    λ i. (record (view_of view (c.self.view_is i).repositories (seen i) (limit i)) { made = empty; upload = None }, made i) in
    let last = view_of view after.repositories (visible_in mid.vault.now own.tenant.now) account.limit in
    yields_plain (part_end_answer view c.args.word.now) view (without_upload last) now c.end_upload-reply.result same
    (ended_told _ view c.end_upload-reply.result last (sym c.is_failed.ensures ∙ c.if-not-is_failed.true) (c.end_upload-reply.ensures.row honest))

pub returns-then-not-is_failed-clause-safe : goal.returns-then-not-is_failed-clause-safe
returns-then-not-is_failed-clause-safe g c =
    let account = c.args.self.now in
    let own = c.args.own.now in
    let mid = c.end_upload-reply.new.own in
    let new = c.discard.new.own.vault.now in
    let after = c.end_upload-reply.new.self in
    let view = shown_by account own in
    let now = shown (with_upload (tenant.the_view c.self.inside) None) new own.tenant.now in
    let seen = of_first own mid (λ t. visible_in new t ≡ visible_in mid.vault.now t) c.end_upload-reply.ensures.own.same c.discard.ensures.still in
    let made : made_of now.made ≡ made_of view.made =
    made_again (visible_in new own.tenant.now) c.self.inside.made ∙ ap (λ (a : Account). a.made) c.self.view_is ∙ c.end_upload-reply.ensures.made ∙ sym (made_again (visible_by own) account.made) in
    let limit = ap (λ (a : Account). a.limit) c.self.view_is ∙ c.end_upload-reply.ensures.limit in
    let same : now ≡ view_of now after.repositories (visible_in mid.vault.now own.tenant.now) account.limit = λ i. view_of now (c.self.view_is i).repositories (seen i) (limit i) in
    let sent = sent_in (open_upload view.upload).stream in
    let last = view_of view after.repositories (visible_in mid.vault.now own.tenant.now) account.limit in
    subst (λ v. IsSafe (IsBounded sent own.vault.now new) view c.end_upload-reply.result v) (sym same)
    (safe_rest (IsBounded sent own.vault.now new) view after.repositories (visible_in mid.vault.now own.tenant.now) (without_upload view) now account.limit c.end_upload-reply.result (record { counted = refl; made = made })
    (safe_ended (IsBounded sent own.vault.now new) view last c.end_upload-reply.result
    (safe_within (IsBounded sent own.vault.now mid.vault.now) (IsBounded sent own.vault.now new) view c.end_upload-reply.result last (λ bounded. bounded_left sent own.vault.now mid.vault.now new c.end_upload-reply.result bounded c.discard.ensures.store)
    c.end_upload-reply.ensures.safe)))

pub returns-else-not-is_failed-clause-row : goal.returns-else-not-is_failed-clause-row
unfolding part_end_answer answer
returns-else-not-is_failed-clause-row g c honest =
    let account = c.args.self.now in
    let own = c.args.own.now in
    let mid = c.end_upload-reply.new.own.vault.now in
    let after = c.end_upload-reply.new.self in
    let view = shown_by account own in
    let now = shown after mid own.tenant.now in
    let failed = sym c.is_failed.ensures ∙ c.if-not-is_failed.false in
    let kept = c.end_upload-reply.ensures.kept (failed_not_done c.end_upload-reply.result failed) in
    let made : made_of now.made ≡ made_of view.made = made_again (visible_in mid own.tenant.now) after.made ∙ c.end_upload-reply.ensures.made ∙ sym (made_again (visible_by own) account.made) in
    let last = view_of view after.repositories (visible_in mid own.tenant.now) account.limit in
    let same : plain now ≡ plain last =
    λ i. (record (view_of view after.repositories (visible_in mid own.tenant.now) (c.end_upload-reply.ensures.limit i)) { made = empty; upload = option_map (upload_among (kept.exact honest i)) (c.end_upload-reply.ensures.upload i) }, made i) in
    let row = named_repository view c.args.word.now (end_in view c.args.word.now (get account.repositories c.args.word.now)) in
    ended_failed row view c.end_upload-reply.result now (answer_tells (nothing_offered own.tenant.now) view (EndsParts c.args.word.now)) failed
    (yields_plain row view last now c.end_upload-reply.result same (c.end_upload-reply.ensures.row honest))

pub returns-else-not-is_failed-clause-safe : goal.returns-else-not-is_failed-clause-safe
returns-else-not-is_failed-clause-safe g c =
    let account = c.args.self.now in
    let own = c.args.own.now in
    let mid = c.end_upload-reply.new.own.vault.now in
    let after = c.end_upload-reply.new.self in
    let view = shown_by account own in
    let now = shown after mid own.tenant.now in
    let within = IsBounded (sent_in (open_upload view.upload).stream) own.vault.now mid in
    let alike : AreAlike view now = record {
      counted = ap (λ u. count_in (option_map (upload_among (staged_in mid own.tenant.now)) u)) c.end_upload-reply.ensures.upload ∙ same_count account.upload (staged_in mid own.tenant.now) (staged_by own);
      made = made_again (visible_in mid own.tenant.now) after.made ∙ c.end_upload-reply.ensures.made ∙ sym (made_again (visible_by own) account.made);
    } in
    subst (λ limit. IsSafe within view c.end_upload-reply.result (view_of now after.repositories (visible_in mid own.tenant.now) limit)) (sym c.end_upload-reply.ensures.limit)
    (safe_rest within view after.repositories (visible_in mid own.tenant.now) view now account.limit c.end_upload-reply.result alike c.end_upload-reply.ensures.safe)

pub returns-else-not-is_failed-clause-staged : goal.returns-else-not-is_failed-clause-staged
returns-else-not-is_failed-clause-staged g c =
    let own = c.args.own.now in
    let mid = c.end_upload-reply.new.own.vault.now in
    let kept = c.end_upload-reply.ensures.kept (failed_not_done c.end_upload-reply.result (sym c.is_failed.ensures ∙ c.if-not-is_failed.false)) in
    subst (λ upload. IsStaged own.vault.now.honest upload (staged_in mid own.tenant.now)) (sym c.end_upload-reply.ensures.upload)
    (staged_kept_still own.vault.now mid own.tenant.now c.args.self.now.upload kept c.requires.staged)
