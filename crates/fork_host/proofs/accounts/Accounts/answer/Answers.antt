use Rattle.std.proofs.Common.{Some, inl, inr, refl, rules, ap, sym, subst, ◌∙◌}
use Rattle.std.specs.FinMap as map
use Rattle.git_name.proofs.Names.{name_total}
use Rattle.git_name.proofs.TreeMaps.{get_of_entries}
use Rattle.fork_request.specs.Asked.{ask_of}
use Rattle.fork_request.specs.declared.refusal.Refusal.TheVariants.{UnknownTenant}
use Rattle.fork_request.specs.declared.reply.Reply.TheVariants.{Refused}
use Rattle.fork_model.specs.Context.{met_by}
use Rattle.fork_model.specs.Runs.{Asks}
use Rattle.fork_model.specs.World.{Steps}
use Rattle.looks.specs.Growth.{GrowsAmong}
use Rattle.looks.proofs.GrowthLemmas.{grows_none}
use Rattle.fork_host.specs.Bounds.{IsBounded}
use Rattle.fork_host.specs.Safe.{IsTakenFrom, TellsSeen}
use Rattle.fork_host.specs.Sent.{seen_in_world, sent_in_world, sent_names}
use Rattle.fork_host.specs.Shown.{state_of, world_of}
use Rattle.fork_ledger.proofs.UpdateLemmas.{found_in, written_back}
use Rattle.fork_host.proofs.BoundLemmas.{bounded_still}
use Rattle.fork_host.proofs.TakenFromLemmas.{taken_none, taken_shown}
use Rattle.fork_host.proofs.WholeLemmas.{alike_of, all_stay, answered_step, forked_shown, offers_stay, others_stay, ready, seen_here, sent_here, unknown_step, whole_after}
use Rattle.fork_host.proofs.accounts.Accounts.answer.Goals as goal

pub returns-in_default-get_mut-clause-explained : goal.returns-in_default-get_mut-clause-explained
returns-in_default-get_mut-clause-explained g c trusted =
    let none = ap (λ m. map.get m c.args.name.now) (sym c.self.view_is) ∙ get_of_entries name_total c.self.inside.tenants.entries c.args.name.now ∙ sym c.in_default-get_mut.ensures.value in
    let stays = ap map.from_entries (ap (λ t. t.entries) c.get_mut.follows.holds-at-none) ∙ c.self.view_is in
    subst (λ accounts. Steps (world_of (state_of c.args.self.now c.args.vault.now)) (Asks c.args.name.now (ask_of c.args.request)) (Refused UnknownTenant) (world_of (state_of accounts c.args.vault.now))) (sym stays)
    (unknown_step (state_of c.args.self.now c.args.vault.now) c.args.name.now (ask_of c.args.request) none)

pub answer_met-requires : goal.answer_met-requires
answer_met-requires g c =
    let here = found_in c.args.self.now c.self.inside.tenants.entries c.args.name.now (Some c.in-Some.tenant.now) c.self.view_is c.in-Some.ensures.value in
    record { ready = ready (state_of c.args.self.now c.args.vault.now) c.args.name.now c.in-Some.tenant.now c.requires.whole here; staged = c.requires.whole.staged c.args.name.now c.in-Some.tenant.now here }

pub returns-clause-explained : goal.returns-clause-explained
returns-clause-explained g c trusted =
    let stays = (c.get_mut.follows.holds c.answer_met.new.tenant).3 (search rules) in
    let entries = c.self.inside.tenants.entries in
    let here = found_in c.args.self.now entries c.args.name.now (Some c.in-Some.tenant.now) c.self.view_is c.in-Some.ensures.value in
    let set = written_back c.args.self.now entries (c.get_mut.follows.lender c.answer_met.new.tenant).entries c.args.name.now c.answer_met.new.tenant c.self.view_is stays.0 in
    let old = state_of c.args.self.now c.args.vault.now in
    let new = state_of (map.from_entries (c.get_mut.follows.lender c.answer_met.new.tenant).entries) c.answer_met.new.vault in
    answered_step old new c.args.name.now (ask_of c.args.request) c.in-Some.tenant.now c.answer_met.new.tenant c.answer_met.result (record { orderly = c.requires.whole.orderly; right = c.requires.whole.right trusted }) (alike_of old (c.invariant.ensures.one trusted)) here set
    ((c.answer_met.ensures.row (met_by (world_of old) c.args.name.now) refl c.in-Ok.ensures).yields trusted) c.answer_met.ensures.own trusted

pub returns-clause-whole : goal.returns-clause-whole
returns-clause-whole g c =
    let stays = (c.get_mut.follows.holds c.answer_met.new.tenant).3 (search rules) in
    let entries = c.self.inside.tenants.entries in
    let here = found_in c.args.self.now entries c.args.name.now (Some c.in-Some.tenant.now) c.self.view_is c.in-Some.ensures.value in
    let set = written_back c.args.self.now entries (c.get_mut.follows.lender c.answer_met.new.tenant).entries c.args.name.now c.answer_met.new.tenant c.self.view_is stays.0 in
    let old = state_of c.args.self.now c.args.vault.now in
    let new = state_of (map.from_entries (c.get_mut.follows.lender c.answer_met.new.tenant).entries) c.answer_met.new.vault in
    whole_after _ old new c.args.name.now (ask_of c.args.request) c.in-Some.tenant.now c.answer_met.new.tenant c.answer_met.result
    c.requires.whole here set (λ trusted. alike_of old (c.invariant.ensures.one trusted)) (returns-clause-explained g c) (c.answer_met.ensures.safe (met_by (world_of old) c.args.name.now) c.in-Ok.ensures) c.answer_met.ensures.others c.answer_met.ensures.own c.answer_met.ensures.staged

pub returns-clause-kept : goal.returns-clause-kept
returns-clause-kept g c not_done =
    let stays = (c.get_mut.follows.holds c.answer_met.new.tenant).3 (search rules) in
    let entries = c.self.inside.tenants.entries in
    let here = found_in c.args.self.now entries c.args.name.now (Some c.in-Some.tenant.now) c.self.view_is c.in-Some.ensures.value in
    let set = written_back c.args.self.now entries (c.get_mut.follows.lender c.answer_met.new.tenant).entries c.args.name.now c.answer_met.new.tenant c.self.view_is stays.0 in
    let old = state_of c.args.self.now c.args.vault.now in
    let new = state_of (map.from_entries (c.get_mut.follows.lender c.answer_met.new.tenant).entries) c.answer_met.new.vault in
    all_stay old new c.args.name.now c.in-Some.tenant.now c.answer_met.new.tenant here set c.answer_met.ensures.own ((c.answer_met.ensures.safe (met_by (world_of old) c.args.name.now) c.in-Ok.ensures).kept not_done)

pub returns-clause-others : goal.returns-clause-others
returns-clause-others g c =
    let stays = (c.get_mut.follows.holds c.answer_met.new.tenant).3 (search rules) in
    let entries = c.self.inside.tenants.entries in
    let set = written_back c.args.self.now entries (c.get_mut.follows.lender c.answer_met.new.tenant).entries c.args.name.now c.answer_met.new.tenant c.self.view_is stays.0 in
    let old = state_of c.args.self.now c.args.vault.now in
    let new = state_of (map.from_entries (c.get_mut.follows.lender c.answer_met.new.tenant).entries) c.answer_met.new.vault in
    others_stay old new c.args.name.now c.answer_met.new.tenant set c.answer_met.ensures.own

pub returns-in_default-clause-faults : goal.returns-in_default-clause-faults
returns-in_default-clause-faults g c = bounded_still (sent_in_world (world_of (state_of c.args.self.now c.args.vault.now)) c.args.name.now (ask_of c.args.request)) c.args.vault.now _ (inr refl)

pub returns-in_default-get_mut-clause-faults : goal.returns-in_default-get_mut-clause-faults
returns-in_default-get_mut-clause-faults g c = bounded_still (sent_in_world (world_of (state_of c.args.self.now c.args.vault.now)) c.args.name.now (ask_of c.args.request)) c.args.vault.now (Refused UnknownTenant) (inl refl)

pub returns-clause-faults : goal.returns-clause-faults
returns-clause-faults g c =
    let here = found_in c.args.self.now c.self.inside.tenants.entries c.args.name.now (Some c.in-Some.tenant.now) c.self.view_is c.in-Some.ensures.value in
    let old = state_of c.args.self.now c.args.vault.now in
    subst (λ sent. IsBounded sent c.args.vault.now c.answer_met.new.vault c.answer_met.result) (sym (sent_here old c.args.name.now (ask_of c.args.request) c.in-Some.tenant.now here)) (c.answer_met.ensures.safe (met_by (world_of old) c.args.name.now) c.in-Ok.ensures).faults

pub returns-clause-seen : goal.returns-clause-seen
returns-clause-seen g c =
    let here = found_in c.args.self.now c.self.inside.tenants.entries c.args.name.now (Some c.in-Some.tenant.now) c.self.view_is c.in-Some.ensures.value in
    let old = state_of c.args.self.now c.args.vault.now in
    subst (λ seen. TellsSeen seen (ask_of c.args.request) c.answer_met.result) (sym (seen_here old c.args.name.now c.in-Some.tenant.now here)) c.answer_met.ensures.seen

pub returns-in_default-clause-grows : goal.returns-in_default-clause-grows
returns-in_default-clause-grows g c = grows_none (sent_names (sent_in_world (world_of (state_of c.args.self.now c.args.vault.now)) c.args.name.now (ask_of c.args.request))) c.args.vault.now.places

pub returns-in_default-get_mut-clause-grows : goal.returns-in_default-get_mut-clause-grows
returns-in_default-get_mut-clause-grows g c = grows_none (sent_names (sent_in_world (world_of (state_of c.args.self.now c.args.vault.now)) c.args.name.now (ask_of c.args.request))) c.args.vault.now.places

pub returns-clause-grows : goal.returns-clause-grows
returns-clause-grows g c =
    let here = found_in c.args.self.now c.self.inside.tenants.entries c.args.name.now (Some c.in-Some.tenant.now) c.self.view_is c.in-Some.ensures.value in
    let old = state_of c.args.self.now c.args.vault.now in
    subst (λ sent. GrowsAmong (sent_names sent) c.args.vault.now.places c.answer_met.new.vault.places) (sym (sent_here old c.args.name.now (ask_of c.args.request) c.in-Some.tenant.now here)) c.answer_met.ensures.grows

pub returns-clause-offers : goal.returns-clause-offers
returns-clause-offers g c same =
    let stays = (c.get_mut.follows.holds c.answer_met.new.tenant).3 (search rules) in
    let entries = c.self.inside.tenants.entries in
    let here = found_in c.args.self.now entries c.args.name.now (Some c.in-Some.tenant.now) c.self.view_is c.in-Some.ensures.value in
    let set = written_back c.args.self.now entries (c.get_mut.follows.lender c.answer_met.new.tenant).entries c.args.name.now c.answer_met.new.tenant c.self.view_is stays.0 in
    let old = state_of c.args.self.now c.args.vault.now in
    let new = state_of (map.from_entries (c.get_mut.follows.lender c.answer_met.new.tenant).entries) c.answer_met.new.vault in
    offers_stay old new c.args.name.now c.in-Some.tenant.now c.answer_met.new.tenant here set c.answer_met.ensures.own (c.answer_met.ensures.made same)

pub returns-in_default-clause-takes : goal.returns-in_default-clause-takes
returns-in_default-clause-takes g c = λ giver word copy is.
    let world = world_of (state_of c.args.self.now c.args.vault.now) in
    taken_none (seen_in_world world giver) (seen_in_world world c.args.name.now) (seen_in_world world c.args.name.now) refl

pub returns-in_default-get_mut-clause-takes : goal.returns-in_default-get_mut-clause-takes
returns-in_default-get_mut-clause-takes g c = λ giver word copy is.
    let stays = ap map.from_entries (ap (λ t. t.entries) c.get_mut.follows.holds-at-none) ∙ c.self.view_is in
    let world = world_of (state_of c.args.self.now c.args.vault.now) in
    subst (λ accounts. IsTakenFrom (seen_in_world world giver) (seen_in_world world c.args.name.now) (seen_in_world (world_of (state_of accounts c.args.vault.now)) c.args.name.now)) (sym stays)
    (taken_none (seen_in_world world giver) (seen_in_world world c.args.name.now) (seen_in_world world c.args.name.now) refl)

pub returns-clause-takes : goal.returns-clause-takes
returns-clause-takes g c = λ giver word copy is.
    let old = state_of c.args.self.now c.args.vault.now in
    let new = state_of (map.from_entries (c.get_mut.follows.lender c.answer_met.new.tenant).entries) c.answer_met.new.vault in
    taken_shown old new c.requires.whole.there (returns-clause-whole g c).there giver c.args.name.now (c.answer_met.ensures.takes (met_by (world_of old) c.args.name.now) giver word copy c.in-Ok.ensures is)

pub returns-in_default-clause-forked : goal.returns-in_default-clause-forked
returns-in_default-clause-forked g c = λ giver word copy is done. absurd (cc)

pub returns-in_default-get_mut-clause-forked : goal.returns-in_default-get_mut-clause-forked
returns-in_default-get_mut-clause-forked g c = λ giver word copy is done. absurd (cc)

pub returns-clause-forked : goal.returns-clause-forked
returns-clause-forked g c = λ giver word copy is done.
    let stays = (c.get_mut.follows.holds c.answer_met.new.tenant).3 (search rules) in
    let entries = c.self.inside.tenants.entries in
    let here = found_in c.args.self.now entries c.args.name.now (Some c.in-Some.tenant.now) c.self.view_is c.in-Some.ensures.value in
    let set = written_back c.args.self.now entries (c.get_mut.follows.lender c.answer_met.new.tenant).entries c.args.name.now c.answer_met.new.tenant c.self.view_is stays.0 in
    let old = state_of c.args.self.now c.args.vault.now in
    let new = state_of (map.from_entries (c.get_mut.follows.lender c.answer_met.new.tenant).entries) c.answer_met.new.vault in
    forked_shown old new c.args.name.now giver word copy c.in-Some.tenant.now c.answer_met.new.tenant here set (c.answer_met.ensures.forked (met_by (world_of old) c.args.name.now) giver word copy c.in-Ok.ensures is done)
