use Rattle.std.proofs.Common.{◌++◌, Option, Some, ap, subst, sym, ◌∙◌}
use Rattle.std.specs.Option.{option_map}
use Rattle.push_stream.specs.Reading.{Reading}
use Rattle.push_stream.specs.Stream.{sent_in, stream_of}
use Rattle.push_stream.specs.Upload.{continued}
use Rattle.fork_model.specs.Answer.{open_upload, part_answer}
use Rattle.looks.specs.Growth.{GrowsAmong}
use Rattle.fork_host.specs.Bounds.{IsBounded}
use Rattle.fork_host.specs.Handle.{staged_by}
use Rattle.fork_host.specs.Rows.{Yields}
use Rattle.fork_host.specs.Safe.{IsSafe}
use Rattle.fork_host.specs.Sent.{sent_names}
use Rattle.fork_host.specs.Shown.{Account, shown}
use Rattle.fork_host.specs.Staged.{IsStaged}
use Rattle.fork_host.proofs.PartLemmas.{IsPart, with_upload, begun_grows, bounded_among, part_grows, part_kept, part_more, part_opened, part_row, part_safe, part_sent, part_staged}
use Rattle.fork_host.specs.contracts.tenant.Tenant as tenant
use Rattle.fork_host.proofs.tenant.Tenant.part.Goals as goal

pub returns-in-Some-clause-row : goal.returns-in-Some-clause-row
returns-in-Some-clause-row g c honest =
    let account = c.args.self.now in
    let own = c.args.own.now in
    let inside = c.self.inside in
    let waits : Option Reading = option_map (λ upload. upload.brief) inside.upload in
    let staged = subst (λ (a : Account). IsStaged own.vault.now.honest a.upload (staged_by own)) (sym c.self.view_is) c.requires.staged in
    let new = c.feed.new.own.vault.now in
    let reply = c.feed.result in
    let part : IsPart own.tenant.now waits (Some c.feed.new.upload.brief) c.in-Some.upload.brief c.feed.new.upload.brief c.args.body.now own.vault.now reply new =
    part_more own.tenant.now waits c.in-Some.upload.brief c.feed.new.upload.brief c.args.body.now own.vault.now new reply (ap (option_map (λ upload. upload.brief)) c.in-Some.is) staged c.feed.ensures.fed in
    let now = shown (with_upload (tenant.the_view inside) (Some c.feed.new.upload.brief)) new own.tenant.now in
    subst (λ (a : Account). Yields (part_answer (shown a own.vault.now own.tenant.now) c.args.body.now) (shown a own.vault.now own.tenant.now) reply now) c.self.view_is
    (part_row (tenant.the_view inside) own.tenant.now waits (Some c.feed.new.upload.brief) c.in-Some.upload.brief c.feed.new.upload.brief c.args.body.now own.vault.now new reply honest c.feed.ensures.seen part)

pub returns-in-Some-clause-safe : goal.returns-in-Some-clause-safe
returns-in-Some-clause-safe g c =
    let account = c.args.self.now in
    let own = c.args.own.now in
    let inside = c.self.inside in
    let waits : Option Reading = option_map (λ upload. upload.brief) inside.upload in
    let staged = subst (λ (a : Account). IsStaged own.vault.now.honest a.upload (staged_by own)) (sym c.self.view_is) c.requires.staged in
    let new = c.feed.new.own.vault.now in
    let reply = c.feed.result in
    let part : IsPart own.tenant.now waits (Some c.feed.new.upload.brief) c.in-Some.upload.brief c.feed.new.upload.brief c.args.body.now own.vault.now reply new =
    part_more own.tenant.now waits c.in-Some.upload.brief c.feed.new.upload.brief c.args.body.now own.vault.now new reply (ap (option_map (λ upload. upload.brief)) c.in-Some.is) staged c.feed.ensures.fed in
    let now = shown (with_upload (tenant.the_view inside) (Some c.feed.new.upload.brief)) new own.tenant.now in
    subst (λ (a : Account). IsSafe (IsBounded (sent_in (continued (open_upload (shown a own.vault.now own.tenant.now).upload) c.args.body.now).stream) own.vault.now new) (shown a own.vault.now own.tenant.now) reply now) c.self.view_is
    (part_safe (IsBounded (sent_in (continued (open_upload (shown (with_upload (tenant.the_view inside) waits) own.vault.now own.tenant.now).upload) c.args.body.now).stream) own.vault.now new)
    (tenant.the_view inside) own.tenant.now waits (Some c.feed.new.upload.brief) c.in-Some.upload.brief c.feed.new.upload.brief c.args.body.now own.vault.now new reply
    (bounded_among (sent_in (stream_of (part.bytes ++ c.args.body.now))) (sent_in (continued (open_upload (shown (with_upload (tenant.the_view inside) waits) own.vault.now own.tenant.now).upload) c.args.body.now).stream) own.vault.now new reply
    (part_sent (tenant.the_view inside) own.tenant.now waits (Some c.feed.new.upload.brief) c.in-Some.upload.brief c.feed.new.upload.brief c.args.body.now own.vault.now new reply part) (c.feed.ensures.bounds part.bytes part.came))
    c.feed.ensures.seen part)

pub returns-in-Some-clause-staged : goal.returns-in-Some-clause-staged
returns-in-Some-clause-staged g c =
    let account = c.args.self.now in
    let own = c.args.own.now in
    let inside = c.self.inside in
    let waits : Option Reading = option_map (λ upload. upload.brief) inside.upload in
    let staged = subst (λ (a : Account). IsStaged own.vault.now.honest a.upload (staged_by own)) (sym c.self.view_is) c.requires.staged in
    let new = c.feed.new.own.vault.now in
    let reply = c.feed.result in
    let part : IsPart own.tenant.now waits (Some c.feed.new.upload.brief) c.in-Some.upload.brief c.feed.new.upload.brief c.args.body.now own.vault.now reply new =
    part_more own.tenant.now waits c.in-Some.upload.brief c.feed.new.upload.brief c.args.body.now own.vault.now new reply (ap (option_map (λ upload. upload.brief)) c.in-Some.is) staged c.feed.ensures.fed in
    part_staged own.tenant.now waits (Some c.feed.new.upload.brief) c.in-Some.upload.brief c.feed.new.upload.brief c.args.body.now own.vault.now new reply staged part

pub returns-then-not-is_done-clause-row : goal.returns-then-not-is_done-clause-row
returns-then-not-is_done-clause-row g c honest =
    let account = c.args.self.now in
    let own = c.args.own.now in
    let inside = c.self.inside in
    let waits : Option Reading = option_map (λ upload. upload.brief) inside.upload in
    let staged = subst (λ (a : Account). IsStaged own.vault.now.honest a.upload (staged_by own)) (sym c.self.view_is) c.requires.staged in
    let new = c.feed-reply.new.own.vault.now in
    let reply = c.feed-reply.result in
    let part : IsPart own.tenant.now waits waits c.new-upload.result.brief c.feed-reply.new.upload.brief c.args.body.now own.vault.now reply new =
    part_kept own.tenant.now waits c.new-upload.result.brief c.feed-reply.new.upload.brief c.args.body.now own.vault.now new reply (ap (option_map (λ upload. upload.brief)) c.in_default.is) c.new-upload.ensures.brief staged c.feed-reply.ensures.fed (sym c.is_done.ensures ∙ c.if-not-is_done.true) in
    let now = shown (with_upload (tenant.the_view inside) waits) new own.tenant.now in
    subst (λ (a : Account). Yields (part_answer (shown a own.vault.now own.tenant.now) c.args.body.now) (shown a own.vault.now own.tenant.now) reply now) c.self.view_is
    (part_row (tenant.the_view inside) own.tenant.now waits waits c.new-upload.result.brief c.feed-reply.new.upload.brief c.args.body.now own.vault.now new reply honest c.feed-reply.ensures.seen part)

pub returns-then-not-is_done-clause-safe : goal.returns-then-not-is_done-clause-safe
returns-then-not-is_done-clause-safe g c =
    let account = c.args.self.now in
    let own = c.args.own.now in
    let inside = c.self.inside in
    let waits : Option Reading = option_map (λ upload. upload.brief) inside.upload in
    let staged = subst (λ (a : Account). IsStaged own.vault.now.honest a.upload (staged_by own)) (sym c.self.view_is) c.requires.staged in
    let new = c.feed-reply.new.own.vault.now in
    let reply = c.feed-reply.result in
    let part : IsPart own.tenant.now waits waits c.new-upload.result.brief c.feed-reply.new.upload.brief c.args.body.now own.vault.now reply new =
    part_kept own.tenant.now waits c.new-upload.result.brief c.feed-reply.new.upload.brief c.args.body.now own.vault.now new reply (ap (option_map (λ upload. upload.brief)) c.in_default.is) c.new-upload.ensures.brief staged c.feed-reply.ensures.fed (sym c.is_done.ensures ∙ c.if-not-is_done.true) in
    let now = shown (with_upload (tenant.the_view inside) waits) new own.tenant.now in
    subst (λ (a : Account). IsSafe (IsBounded (sent_in (continued (open_upload (shown a own.vault.now own.tenant.now).upload) c.args.body.now).stream) own.vault.now new) (shown a own.vault.now own.tenant.now) reply now) c.self.view_is
    (part_safe (IsBounded (sent_in (continued (open_upload (shown (with_upload (tenant.the_view inside) waits) own.vault.now own.tenant.now).upload) c.args.body.now).stream) own.vault.now new)
    (tenant.the_view inside) own.tenant.now waits waits c.new-upload.result.brief c.feed-reply.new.upload.brief c.args.body.now own.vault.now new reply
    (bounded_among (sent_in (stream_of (part.bytes ++ c.args.body.now))) (sent_in (continued (open_upload (shown (with_upload (tenant.the_view inside) waits) own.vault.now own.tenant.now).upload) c.args.body.now).stream) own.vault.now new reply
    (part_sent (tenant.the_view inside) own.tenant.now waits waits c.new-upload.result.brief c.feed-reply.new.upload.brief c.args.body.now own.vault.now new reply part) (c.feed-reply.ensures.bounds part.bytes part.came))
    c.feed-reply.ensures.seen part)

pub returns-then-not-is_done-clause-staged : goal.returns-then-not-is_done-clause-staged
returns-then-not-is_done-clause-staged g c =
    let account = c.args.self.now in
    let own = c.args.own.now in
    let inside = c.self.inside in
    let waits : Option Reading = option_map (λ upload. upload.brief) inside.upload in
    let staged = subst (λ (a : Account). IsStaged own.vault.now.honest a.upload (staged_by own)) (sym c.self.view_is) c.requires.staged in
    let new = c.feed-reply.new.own.vault.now in
    let reply = c.feed-reply.result in
    let part : IsPart own.tenant.now waits waits c.new-upload.result.brief c.feed-reply.new.upload.brief c.args.body.now own.vault.now reply new =
    part_kept own.tenant.now waits c.new-upload.result.brief c.feed-reply.new.upload.brief c.args.body.now own.vault.now new reply (ap (option_map (λ upload. upload.brief)) c.in_default.is) c.new-upload.ensures.brief staged c.feed-reply.ensures.fed (sym c.is_done.ensures ∙ c.if-not-is_done.true) in
    part_staged own.tenant.now waits waits c.new-upload.result.brief c.feed-reply.new.upload.brief c.args.body.now own.vault.now new reply staged part

pub returns-clause-row : goal.returns-clause-row
returns-clause-row g c honest =
    let account = c.args.self.now in
    let own = c.args.own.now in
    let inside = c.self.inside in
    let waits : Option Reading = option_map (λ upload. upload.brief) inside.upload in
    let staged = subst (λ (a : Account). IsStaged own.vault.now.honest a.upload (staged_by own)) (sym c.self.view_is) c.requires.staged in
    let new = c.feed-reply.new.own.vault.now in
    let reply = c.feed-reply.result in
    let part : IsPart own.tenant.now waits (Some c.feed-reply.new.upload.brief) c.new-upload.result.brief c.feed-reply.new.upload.brief c.args.body.now own.vault.now reply new =
    part_opened own.tenant.now waits c.new-upload.result.brief c.feed-reply.new.upload.brief c.args.body.now own.vault.now new reply (ap (option_map (λ upload. upload.brief)) c.in_default.is) c.new-upload.ensures.brief staged c.feed-reply.ensures.fed (sym c.is_done.ensures ∙ c.if-not-is_done.false) in
    let now = shown (with_upload (tenant.the_view inside) (Some c.feed-reply.new.upload.brief)) new own.tenant.now in
    subst (λ (a : Account). Yields (part_answer (shown a own.vault.now own.tenant.now) c.args.body.now) (shown a own.vault.now own.tenant.now) reply now) c.self.view_is
    (part_row (tenant.the_view inside) own.tenant.now waits (Some c.feed-reply.new.upload.brief) c.new-upload.result.brief c.feed-reply.new.upload.brief c.args.body.now own.vault.now new reply honest c.feed-reply.ensures.seen part)

pub returns-clause-safe : goal.returns-clause-safe
returns-clause-safe g c =
    let account = c.args.self.now in
    let own = c.args.own.now in
    let inside = c.self.inside in
    let waits : Option Reading = option_map (λ upload. upload.brief) inside.upload in
    let staged = subst (λ (a : Account). IsStaged own.vault.now.honest a.upload (staged_by own)) (sym c.self.view_is) c.requires.staged in
    let new = c.feed-reply.new.own.vault.now in
    let reply = c.feed-reply.result in
    let part : IsPart own.tenant.now waits (Some c.feed-reply.new.upload.brief) c.new-upload.result.brief c.feed-reply.new.upload.brief c.args.body.now own.vault.now reply new =
    part_opened own.tenant.now waits c.new-upload.result.brief c.feed-reply.new.upload.brief c.args.body.now own.vault.now new reply (ap (option_map (λ upload. upload.brief)) c.in_default.is) c.new-upload.ensures.brief staged c.feed-reply.ensures.fed (sym c.is_done.ensures ∙ c.if-not-is_done.false) in
    let now = shown (with_upload (tenant.the_view inside) (Some c.feed-reply.new.upload.brief)) new own.tenant.now in
    subst (λ (a : Account). IsSafe (IsBounded (sent_in (continued (open_upload (shown a own.vault.now own.tenant.now).upload) c.args.body.now).stream) own.vault.now new) (shown a own.vault.now own.tenant.now) reply now) c.self.view_is
    (part_safe (IsBounded (sent_in (continued (open_upload (shown (with_upload (tenant.the_view inside) waits) own.vault.now own.tenant.now).upload) c.args.body.now).stream) own.vault.now new)
    (tenant.the_view inside) own.tenant.now waits (Some c.feed-reply.new.upload.brief) c.new-upload.result.brief c.feed-reply.new.upload.brief c.args.body.now own.vault.now new reply
    (bounded_among (sent_in (stream_of (part.bytes ++ c.args.body.now))) (sent_in (continued (open_upload (shown (with_upload (tenant.the_view inside) waits) own.vault.now own.tenant.now).upload) c.args.body.now).stream) own.vault.now new reply
    (part_sent (tenant.the_view inside) own.tenant.now waits (Some c.feed-reply.new.upload.brief) c.new-upload.result.brief c.feed-reply.new.upload.brief c.args.body.now own.vault.now new reply part) (c.feed-reply.ensures.bounds part.bytes part.came))
    c.feed-reply.ensures.seen part)

pub returns-clause-staged : goal.returns-clause-staged
returns-clause-staged g c =
    let account = c.args.self.now in
    let own = c.args.own.now in
    let inside = c.self.inside in
    let waits : Option Reading = option_map (λ upload. upload.brief) inside.upload in
    let staged = subst (λ (a : Account). IsStaged own.vault.now.honest a.upload (staged_by own)) (sym c.self.view_is) c.requires.staged in
    let new = c.feed-reply.new.own.vault.now in
    let reply = c.feed-reply.result in
    let part : IsPart own.tenant.now waits (Some c.feed-reply.new.upload.brief) c.new-upload.result.brief c.feed-reply.new.upload.brief c.args.body.now own.vault.now reply new =
    part_opened own.tenant.now waits c.new-upload.result.brief c.feed-reply.new.upload.brief c.args.body.now own.vault.now new reply (ap (option_map (λ upload. upload.brief)) c.in_default.is) c.new-upload.ensures.brief staged c.feed-reply.ensures.fed (sym c.is_done.ensures ∙ c.if-not-is_done.false) in
    part_staged own.tenant.now waits (Some c.feed-reply.new.upload.brief) c.new-upload.result.brief c.feed-reply.new.upload.brief c.args.body.now own.vault.now new reply staged part

pub returns-in-Some-clause-own : goal.returns-in-Some-clause-own
returns-in-Some-clause-own g c =
    let own = c.args.own.now in
    let waits : Option Reading = option_map (λ upload. upload.brief) c.self.inside.upload in
    let new = c.feed.new.own.vault.now in
    record {
      same = c.feed.ensures.same;
      own = c.feed.ensures.own;
      grows = subst (λ (a : Account). GrowsAmong (sent_names (sent_in (continued (open_upload (shown a own.vault.now own.tenant.now).upload) c.args.body.now).stream)) own.vault.now.places new.places) c.self.view_is
          (part_grows (staged_by own) waits c.in-Some.upload.brief c.args.body.now own.vault.now.places new.places (ap (option_map (λ upload. upload.brief)) c.in-Some.is) c.feed.ensures.grows);
    }

pub returns-then-not-is_done-clause-own : goal.returns-then-not-is_done-clause-own
returns-then-not-is_done-clause-own g c =
    let own = c.args.own.now in
    let waits : Option Reading = option_map (λ upload. upload.brief) c.self.inside.upload in
    let new = c.feed-reply.new.own.vault.now in
    record {
      same = c.feed-reply.ensures.same;
      own = c.feed-reply.ensures.own;
      grows = subst (λ (a : Account). GrowsAmong (sent_names (sent_in (continued (open_upload (shown a own.vault.now own.tenant.now).upload) c.args.body.now).stream)) own.vault.now.places new.places) c.self.view_is
          (begun_grows (staged_by own) waits c.new-upload.result.brief c.args.body.now own.vault.now.places new.places (ap (option_map (λ upload. upload.brief)) c.in_default.is) c.new-upload.ensures.brief c.feed-reply.ensures.grows);
    }

pub returns-clause-own : goal.returns-clause-own
returns-clause-own g c =
    let own = c.args.own.now in
    let waits : Option Reading = option_map (λ upload. upload.brief) c.self.inside.upload in
    let new = c.feed-reply.new.own.vault.now in
    record {
      same = c.feed-reply.ensures.same;
      own = c.feed-reply.ensures.own;
      grows = subst (λ (a : Account). GrowsAmong (sent_names (sent_in (continued (open_upload (shown a own.vault.now own.tenant.now).upload) c.args.body.now).stream)) own.vault.now.places new.places) c.self.view_is
          (begun_grows (staged_by own) waits c.new-upload.result.brief c.args.body.now own.vault.now.places new.places (ap (option_map (λ upload. upload.brief)) c.in_default.is) c.new-upload.ensures.brief c.feed-reply.ensures.grows);
    }
