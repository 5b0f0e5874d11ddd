use Rattle.std.proofs.Common.{ap, subst, sym, ◌∙◌}
use Rattle.std.specs.FinMap as map
use Rattle.git_name.specs.Text.{words_of}
use Rattle.fork_request.specs.declared.reply.Reply.{Reply}
use Rattle.fork_model.specs.Answer.{rev_list_answer}
use Rattle.fork_query.specs.RevList.{revisions_told}
use Rattle.fork_model.specs.View.{View}
use Rattle.fork_query.specs.Told.{query_fault}
use Rattle.fork_host.specs.Handle.{shown_by, visible_by}
use Rattle.fork_host.specs.Rows.{Yields}
use Rattle.fork_host.specs.Shown.{Account, shown}
use Rattle.fork_host.proofs.QueryLemmas.{asked_uses, few_is, named_is, over_is, query_gives, query_safe}
use Rattle.fork_host.proofs.tenant.Tenant.rev_list.Goals as goal

pub returns-clause-row : goal.returns-clause-row
unfolding rev_list_answer
returns-clause-row g c honest =
    let account = c.args.self.now in
    let first = c.args.own.now in
    let view = shown_by account first in
    let word = c.args.word.now in
    let repository = c.in-Some-get.repository.now in
    let here = ap (λ (a : Account). map.get a.repositories word) (sym c.self.view_is) ∙ ap (map.get c.self.inside.repositories) (sym c.in-Some.ensures.found.0) ∙ sym c.in-Some-get.ensures in
    let reply = few_is (words_of c.args.items.now) _ (sym c.has_many.ensures ∙ c.if-has_many.false) ∙ over_is word (λ r. revisions_told (visible_by c.args.own.now) r (words_of c.args.items.now)) (map.get account.repositories word) repository here in
    subst (λ (row : Reply × View). Yields row view c.told.result (shown account c.rev_list.new.source.vault.now first.tenant.now))
    (sym (named_is view word _ (sym c.in-Some.ensures.test) ∙ ap (λ (told : Reply). (told, view)) reply))
    (query_gives (λ text. text.items) account first c.rev_list.new.source (revisions_told (visible_by first) repository (words_of c.args.items.now)) c.rev_list.result c.told.result honest (c.rev_list.ensures.told honest) c.rev_list.ensures.asked c.told.ensures)

pub returns-clause-safe : goal.returns-clause-safe
returns-clause-safe g c = query_safe (λ text. text.items) c.args.self.now c.args.own.now c.rev_list.new.source c.rev_list.result c.told.result c.rev_list.ensures.asked c.told.ensures

pub returns-clause-own : goal.returns-clause-own
returns-clause-own g c = asked_uses c.args.own.now c.rev_list.new.source (query_fault c.rev_list.result) c.rev_list.ensures.asked
