use Rattle.std.proofs.Common.{◌≡◌, Option, is_some, ap, refl, subst, sym, ◌∙◌}
use Rattle.std.specs.FinMap as map
use Rattle.std.specs.Option.{option_map}
use Rattle.push_stream.specs.Reading.{Reading}
use Rattle.push_stream.specs.Stream.{finished, sent_in, stream_of}
use Rattle.fork_request.specs.declared.reply.Reply.{Reply}
use Rattle.fork_model.specs.Answer.{push_answer, pushed}
use Rattle.fork_model.specs.Uploads.{upload_among}
use Rattle.fork_model.specs.View.{View}
use Rattle.fork_host.specs.Bounds.{IsBounded}
use Rattle.fork_host.specs.Handle.{Ready, shown_by, staged_by, visible_by}
use Rattle.fork_host.specs.Made.{made_of, made_shown}
use Rattle.fork_host.specs.Own.{staged_in, visible_in}
use Rattle.fork_host.specs.Pushed.{view_of}
use Rattle.fork_host.specs.Rows.{Yields}
use Rattle.fork_host.specs.Shown.{Account, shown}
use Rattle.fork_host.proofs.PartLemmas.{none_waits, safe_as, staged_none, yields_as}
use Rattle.fork_host.proofs.MadeLemmas.{plain_as, same_made}
use Rattle.fork_host.proofs.PushLemmas.{push_is, sends_held, tells_held}
use Rattle.fork_host.proofs.QueryLemmas.{named_is}
use Rattle.fork_host.proofs.RowLemmas.{yields_plain}
use Rattle.fork_host.proofs.SafeLemmas.{AreAlike, count_in, safe_rest, same_count}
use Rattle.fork_host.proofs.UpdateLemmas.{found}
use Rattle.fork_host.specs.contracts.tenant.Tenant as tenant
use Rattle.fork_host.proofs.tenant.Tenant.push.Goals as goal

pub take_body-requires : goal.take_body-requires
take_body-requires g c =
    let own = c.args.own.now in
    let none = none_waits (λ upload. upload.brief) c.self.inside.upload (sym c.is_some.ensures ∙ c.if-is_some.false) in
    record {
      ready = subst (λ (a : Account). Ready own a.limit) (sym c.self.view_is) c.requires.ready;
      quiet = staged_none own.vault.now.honest c.args.self.now.upload (staged_by own) (ap (λ (a : Account). a.upload) (sym c.self.view_is) ∙ none) c.requires.staged;
      there = sym c.contains.ensures ∙ c.if-not-contains.false;
    }

pub returns-clause-row : goal.returns-clause-row
unfolding push_answer
returns-clause-row g c honest =
    let account = c.args.self.now in
    let own = c.args.own.now in
    let new = c.take_body.new.own.vault.now in
    let t = own.tenant.now in
    let view = shown_by account own in
    let word = c.args.word.now in
    let name = c.in-Some.name in
    let inside = c.self.inside in
    let there = found (map.get inside.repositories name) (sym c.contains.ensures ∙ c.if-not-contains.false) in
    let here = ap (λ (a : Account). map.get a.repositories name) (sym c.self.view_is) ∙ there.1 in
    let shut = none_waits (λ upload. upload.brief) inside.upload (sym c.is_some.ensures ∙ c.if-is_some.false) in
    let none = ap (λ (a : Account). is_some (option_map (upload_among (staged_by own)) a.upload)) (sym c.self.view_is) ∙ ap (λ (upload : Option Reading). is_some (option_map (upload_among (staged_by own)) upload)) shut in
    let row = push_is view word c.args.body.now (map.get account.repositories word) there.0 (ap (map.get account.repositories) (sym c.in-Some.ensures.found.0) ∙ here) none in
    let now = shown (record (tenant.the_view inside) { repositories = c.take_body.new.repositories }) new t in
    let before : view_of view inside.repositories (visible_by own) inside.limit ≡ view = ap (λ (a : Account). view_of view a.repositories (visible_by own) a.limit) c.self.view_is in
    let upload : now.upload ≡ view.upload =
    ap (option_map (upload_among (staged_in new t))) shut ∙ sym (ap (option_map (upload_among (staged_by own))) shut) ∙ ap (λ (a : Account). option_map (upload_among (staged_by own)) a.upload) c.self.view_is in
    let made : made_of now.made ≡ made_of view.made = same_made inside.made (visible_by own) (visible_in new t) ∙ ap (λ (a : Account). made_of (made_shown (visible_by own) a.made)) c.self.view_is in
    let held = finished (stream_of c.args.body.now) in
    let last = view_of view c.take_body.new.repositories (visible_in new t) inside.limit in
    subst (λ (r : Reply × View). Yields r view c.take_body.result now) (sym (named_is view word _ (sym c.in-Some.ensures.test) ∙ row))
    (subst (λ w. Yields (pushed view w there.0 held) view c.take_body.result now) c.in-Some.ensures.found.0
    (yields_plain (pushed view name there.0 held) view last now c.take_body.result (plain_as view now upload made)
    (yields_as (λ v. pushed v name there.0 held) _ view last last c.take_body.result before refl
    (c.take_body.ensures.row view held there.0 (tells_held (stream_of c.args.body.now) c.read_body-read.result c.read_body-read.ensures.found c.read_body-read.ensures.exact) there.1 honest))))

pub returns-clause-safe : goal.returns-clause-safe
returns-clause-safe g c =
    let own = c.args.own.now in
    let new = c.take_body.new.own.vault.now in
    let t = own.tenant.now in
    let inside = c.self.inside in
    let view = shown_by c.args.self.now own in
    let now = shown (record (tenant.the_view inside) { repositories = c.take_body.new.repositories }) new t in
    let before : view_of view inside.repositories (visible_by own) inside.limit ≡ view = ap (λ (a : Account). view_of view a.repositories (visible_by own) a.limit) c.self.view_is in
    let alike : AreAlike view now = record {
      counted = same_count (tenant.the_view inside).upload (staged_in new t) (staged_by own) ∙ ap (λ (a : Account). count_in (option_map (upload_among (staged_by own)) a.upload)) c.self.view_is;
      made = same_made inside.made (visible_by own) (visible_in new t) ∙ ap (λ (a : Account). made_of (made_shown (visible_by own) a.made)) c.self.view_is;
    } in
    let sent = sent_in (stream_of c.args.body.now) in
    let last = view_of view c.take_body.new.repositories (visible_in new t) inside.limit in
    safe_rest (IsBounded sent own.vault.now new) view c.take_body.new.repositories (visible_in new t) view now inside.limit c.take_body.result alike
    (safe_as (IsBounded sent own.vault.now new) _ view last last c.take_body.result before refl
    (c.take_body.ensures.safe view sent (sends_held (stream_of c.args.body.now) c.read_body-read.result c.read_body-read.ensures.found)))

pub returns-clause-own : goal.returns-clause-own
returns-clause-own g c = c.take_body.ensures.own (sent_in (stream_of c.args.body.now)) (sends_held (stream_of c.args.body.now) c.read_body-read.result c.read_body-read.ensures.found)
