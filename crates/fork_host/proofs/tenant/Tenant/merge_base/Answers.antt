use Rattle.std.proofs.Common.{ap, subst, sym, ◌∙◌}
use Rattle.std.specs.FinMap as map
use Rattle.fork_request.specs.declared.reply.Reply.{Reply}
use Rattle.fork_model.specs.Answer.{merge_base_answer}
use Rattle.fork_query.specs.MergeBase.{bases_told}
use Rattle.fork_model.specs.View.{View}
use Rattle.fork_query.specs.Told.{query_fault}
use Rattle.fork_host.specs.Handle.{shown_by, visible_by}
use Rattle.fork_host.specs.Rows.{Yields}
use Rattle.fork_host.specs.Shown.{Account, shown}
use Rattle.fork_host.proofs.QueryLemmas.{asked_uses, named_is, over_is, query_gives, query_safe}
use Rattle.fork_host.proofs.tenant.Tenant.merge_base.Goals as goal

pub returns-clause-row : goal.returns-clause-row
unfolding merge_base_answer
returns-clause-row g c honest =
    let account = c.args.self.now in
    let first = c.args.own.now in
    let view = shown_by account first in
    let word = c.args.word.now in
    let repository = c.in-Some-get.repository.now in
    let here = ap (λ (a : Account). map.get a.repositories word) (sym c.self.view_is) ∙ ap (map.get c.self.inside.repositories) (sym c.in-Some.ensures.found.0) ∙ sym c.in-Some-get.ensures in
    let reply = over_is word (λ r. bases_told (visible_by c.args.own.now) r c.args.first.now c.args.second.now) (map.get account.repositories word) repository here in
    subst (λ (row : Reply × View). Yields row view c.told.result (shown account c.merge_base.new.source.vault.now first.tenant.now))
    (sym (named_is view word _ (sym c.in-Some.ensures.test) ∙ ap (λ (told : Reply). (told, view)) reply))
    (query_gives (λ text. text.items) account first c.merge_base.new.source (bases_told (visible_by first) repository c.args.first.now c.args.second.now) c.merge_base.result c.told.result honest (c.merge_base.ensures.told honest) c.merge_base.ensures.asked c.told.ensures)

pub returns-clause-safe : goal.returns-clause-safe
returns-clause-safe g c = query_safe (λ text. text.items) c.args.self.now c.args.own.now c.merge_base.new.source c.merge_base.result c.told.result c.merge_base.ensures.asked c.told.ensures

pub returns-clause-own : goal.returns-clause-own
returns-clause-own g c = asked_uses c.args.own.now c.merge_base.new.source (query_fault c.merge_base.result) c.merge_base.ensures.asked
