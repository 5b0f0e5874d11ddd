use Rattle.std.proofs.Common.{◌≤◌, sym, ap, map, subst, ◌∙◌, ◌++◌}
use Rattle.std.specs.FinMap.{entries, get, keys, len}
use Rattle.git_reftx.proofs.PushLemmas.{keys_ascend}
use Rattle.fork_model.specs.Offer.{offered}
use Rattle.fork_model.specs.declared.limits.TheConstants.{MAX_OFFERS}
use Rattle.state_text.specs.Kept.{state_kept}
use Rattle.state_text.specs.States.{Ascend}
use Rattle.fork_host.specs.Keeping.{with_names, with_offers, with_repositories}
use Rattle.fork_host.specs.Made.{offer_told}
use Rattle.fork_host.specs.Own.{visible_in}
use Rattle.fork_host.specs.Shown.{Account, shown}
use Rattle.fork_host.proofs.MadeLemmas.{kept_shown, len_shown, told_shown}
use Rattle.fork_host.proofs.tenant.Tenant.state.Goals as goal

pub keep_names-requires : goal.keep_names-requires
keep_names-requires g c =
    let seen = ap (λ t. t.seen) c.in_ok-keep.ensures ∙ ap (λ t. t.seen) c.in-Some.ensures.found in
    subst Ascend (sym (ap (λ names. names ++ c.in_ok-names.names.items) seen ∙ c.in_ok-names.ensures)) (keys_ascend (visible_in c.args.vault.now c.args.name.now))

pub keep-requires-2-clause-few : goal.keep-requires-2-clause-few
keep-requires-2-clause-few g c =
    subst (λ n. n ≤ MAX_OFFERS) (len_shown (visible_in c.args.vault.now c.args.name.now) c.args.self.now.made ∙ sym (ap (λ (a : Account). len a.made) c.self.view_is)) c.requires.orderly.few_offers

pub keep-requires-2-clause-others : goal.keep-requires-2-clause-others
keep-requires-2-clause-others g c pair repository is =
    let seen = visible_in c.args.vault.now c.args.name.now in
    let name = ap (λ t. t.name) c.in_ok-keep_names.ensures ∙ ap (λ t. t.name) c.in_ok-keep.ensures ∙ ap (λ t. t.name) c.in-Some.ensures.found ∙ c.copy.ensures in
    let here = kept_shown seen c.args.self.now.made pair repository (ap (λ (a : Account). get a.made pair) (sym c.self.view_is) ∙ is) in
    record { named = (c.requires.orderly.offers pair (offered seen repository) here).receiver; other = λ same. c.requires.others pair (offered seen repository) here (same ∙ name) }

pub returns : goal.returns
returns g c =
    let inside = c.self.inside in
    let seen = visible_in c.args.vault.now c.args.name.now in
    let told = map offer_told (entries inside.made) in
    c.in_ok-keep-2.ensures ∙ (λ i. with_offers (c.in_ok-keep_names.ensures i) told) ∙ (λ i. with_offers (with_names (c.in_ok-keep.ensures i) (c.in_ok-names.ensures i)) told)
    ∙ (λ i. with_offers (with_names (with_repositories (c.in-Some.ensures.found i) (entries inside.repositories)) (keys seen)) told)
    ∙ (λ i. record { name = c.copy.ensures i; limit = (c.self.view_is i).limit; repositories = entries (c.self.view_is i).repositories; seen = keys seen; offers = map offer_told (entries (c.self.view_is i).made) })
    ∙ (λ i. record (state_kept (c.args.name.now, shown c.args.self.now c.args.vault.now c.args.name.now)) { offers = sym (told_shown seen c.args.self.now.made) i })
