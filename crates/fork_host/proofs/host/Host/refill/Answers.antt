use Rattle.std.proofs.Common.{◌≡◌, is_some, Some, refl, ap, subst, sym, ◌∙◌, map as mapped}
use Rattle.std.specs.FinMap as map
use Rattle.fork_ledger.proofs.UpdateLemmas.{insert_same}
use Rattle.fork_ledger.proofs.BothLemmas.{none_of}
use Rattle.std.specs.List.Sorted.{IsStrictlySortedBy}
use Rattle.fork_model.specs.Offer.{pair_cmp}
use Rattle.fork_model.specs.Sound.{AreToOthers, IsOrderly, IsRight}
use Rattle.std.specs.Option.{option_map}
use Rattle.fork_model.specs.Uploads.{upload_among}
use Rattle.fork_host.specs.Adding.{new_view}
use Rattle.fork_host.specs.Own.{ChangesTenant, SeesOnly, staged_in, visible_in}
use Rattle.fork_host.specs.Read.{AreRead}
use Rattle.fork_host.specs.Refilled.{IsRefilled, IsRefilledIn}
use Rattle.fork_host.specs.Made.{entry_of, pair_of}
use Rattle.fork_host.specs.Shown.{Account, Accounts, HostState, shown, state_of, world_of}
use Rattle.fork_host.proofs.AddingLemmas.{orderly_new_view, others_new_view, right_new_view}
use Rattle.fork_host.proofs.MadeLemmas.{none_made}
use Rattle.fork_host.proofs.OwnLemmas.{none_staged, own_of, seen_measures}
use Rattle.fork_host.proofs.RefillLemmas.{account_shown, keys_set, orderly_refilled, others_refilled, refilled, refilled_in, right_refilled, whole_set}
use Rattle.fork_host.proofs.PairLemmas.{pairs_ascend}
use Rattle.fork_host.proofs.PartLemmas.{none_among, staged_none}
use Rattle.fork_host.proofs.host.Host.refill.Given as given
use Rattle.fork_host.proofs.host.Host.refill.Goals as goal

pub see_in-requires-clause-there : goal.see_in-requires-clause-there
see_in-requires-clause-there g c =
    let state = state_of c.self.inside.accounts c.self.inside.vault in
    let t = c.args.state.now.name in
    let found = account_shown state t (new_view c.args.state.now.limit) (ap (λ (s : HostState). map.get (world_of s) t) c.self.view_is ∙ c.requires.fresh) in
    ap (map.contains_key c.self.inside.vault.tenants) c.name-name.ensures.name ∙ c.self.invariant.there t ∙ ap is_some found.1

pub see_in-requires-clause-nothing : goal.see_in-requires-clause-nothing
see_in-requires-clause-nothing g c =
    let state = state_of c.self.inside.accounts c.self.inside.vault in
    let t = c.args.state.now.name in
    let found = account_shown state t (new_view c.args.state.now.limit) (ap (λ (s : HostState). map.get (world_of s) t) c.self.view_is ∙ c.requires.fresh) in
    let visible = ap (visible_in c.self.inside.vault) c.name-name.ensures.name ∙ ap (λ v. v.objects) found.2 in
    let none = none_among (staged_in c.self.inside.vault t) found.0.upload (ap (λ v. v.upload) found.2) in
    let staged = ap (staged_in c.self.inside.vault) c.name-name.ensures.name ∙ staged_none c.self.inside.vault.honest found.0.upload (staged_in c.self.inside.vault t) none (c.self.invariant.staged t found.0 found.1) in
    λ i. record { visible = visible i; staged = staged i }

pub gather-requires-2 : goal.gather-requires-2
gather-requires-2 g c =
    let sound = c.name-name.ensures.sound in
    subst (λ offers. IsStrictlySortedBy pair_cmp (mapped pair_of offers)) (sym c.offers.ensures) (pairs_ascend c.args.state.now.name c.args.state.now.offers sound.offers sound.offers_ordered)

pub see_in-requires-clause-read : goal.see_in-requires-clause-read
see_in-requires-clause-read g c = subst (λ (s : HostState). AreRead s.vault.honest s.vault.files c.args.state.now.seen c.args.readings.now) (sym c.self.view_is) c.requires.read

-- the account that it had
account_of : (g : given.Over) (c : goal.After-settle g) → (account : Account) × (map.get c.self.inside.accounts c.args.state.now.name ≡ Some account) × (shown account c.self.inside.vault c.args.state.now.name ≡ new_view c.args.state.now.limit)
account_of g c =
    account_shown (state_of c.self.inside.accounts c.self.inside.vault) c.args.state.now.name (new_view c.args.state.now.limit) (ap (λ (s : HostState). map.get (world_of s) c.args.state.now.name) c.self.view_is ∙ c.requires.fresh)

-- and the one that it has
set_to : (g : given.Over) (c : goal.After-settle g) → c.settle.new.self ≡ map.insert c.self.inside.accounts c.args.state.now.name (refilled c.in-Ok.gathered c.in-Ok-gather.made c.args.state.now.limit)
set_to g c =
    let found = account_of g c in
    let upload = none_among (staged_in c.self.inside.vault c.args.state.now.name) found.0.upload (ap (λ v. v.upload) found.2) in
    let low = ap (λ v. v.limit) found.2 in
    let settled : Account = record found.0 { repositories = c.in-Ok.gathered; made = c.in-Ok-gather.made } in
    c.settle.ensures found.0 (ap (map.get c.self.inside.accounts) c.name-name.ensures.name ∙ found.1)
    ∙ ap (λ t. map.insert c.self.inside.accounts t settled) c.name-name.ensures.name
    ∙ ap (map.insert c.self.inside.accounts c.args.state.now.name) (λ i. record settled { upload = upload i; limit = low i })

-- what it sees again
restored_to : (g : given.Over) (c : goal.After-settle g) → IsRefilled c.args.state.now.name c.args.state.now c.self.inside.vault c.see_in.new.vault
restored_to g c = subst (λ n. IsRefilled n c.args.state.now c.self.inside.vault c.see_in.new.vault) c.name-name.ensures.name c.in-Ok-see_in.ensures.ok

pub invariant_of-self : goal.invariant_of-self
invariant_of-self g c =
    let tenant = c.args.state.now in
    let sound = c.name-name.ensures.sound in
    let old = state_of c.self.inside.accounts c.self.inside.vault in
    let new = state_of c.settle.new.self c.see_in.new.vault in
    let found = account_of g c in
    let restored = restored_to g c in
    let repositories = c.in-Ok.gathered in
    let made = c.in-Ok-gather.made in
    let gathered = c.in-Ok.ensures ∙ c.repositories.ensures in
    let offers = c.in-Ok-gather.ensures ∙ ap (mapped entry_of) c.offers.ensures in
    let orderly = orderly_refilled tenant.name tenant repositories made old.vault new.vault sound gathered offers restored in
    whole_set old new tenant.name found.0 (refilled repositories made tenant.limit) c.self.invariant found.1 (set_to g c) (own_of old.vault new.vault tenant.name restored.changes)
    (none_staged old.vault new.vault tenant.name restored.objects restored.changes) refl orderly
    (others_refilled tenant.name tenant repositories made old.vault new.vault sound gathered offers restored)
    (λ honest. right_refilled tenant.name tenant repositories made old.vault new.vault (sym restored.changes.honest ∙ honest) orderly restored)

pub invariant_of-self-in-Err-see_in : goal.invariant_of-self-in-Err-see_in
invariant_of-self-in-Err-see_in g c =
    let t = c.args.state.now.name in
    let limit = c.args.state.now.limit in
    let old = state_of c.self.inside.accounts c.self.inside.vault in
    let new = state_of c.self.inside.accounts c.see_in.new.vault in
    let fresh = ap (λ (s : HostState). map.get (world_of s) t) c.self.view_is ∙ c.requires.fresh in
    let found = account_shown old t (new_view limit) fresh in
    let changes = subst (λ n. ChangesTenant n (SeesOnly map.empty) old.vault new.vault) c.name-name.ensures.name c.in-Err.ensures.err in
    let seen : visible_in new.vault t ≡ map.empty = none_of (visible_in new.vault t) (seen_measures old.vault new.vault t map.empty changes) in
    let none = none_among (staged_in old.vault t) found.0.upload (ap (λ v. v.upload) found.2) in
    let made = none_made (visible_in old.vault t) (visible_in new.vault t) found.0.made (ap (λ v. v.made) found.2) in
    let view : shown found.0 new.vault t ≡ new_view limit = λ i. record (found.2 i) { made = made i; objects = seen i; upload = option_map (upload_among (staged_in new.vault t)) (none i) } in
    whole_set old new t found.0 found.0 c.self.invariant found.1 (sym (insert_same c.self.inside.accounts t found.0 found.1)) (own_of old.vault new.vault t changes)
    (none_staged old.vault new.vault t map.empty changes) none
    (subst IsOrderly (sym view) (orderly_new_view limit (c.self.invariant.orderly.views t (new_view limit) fresh).limit))
    (subst (AreToOthers t) (sym view) (others_new_view t limit))
    (λ honest. subst IsRight (sym view) (right_new_view limit))

pub returns-in-Ok-see_in-clause-judged : goal.returns-in-Ok-see_in-clause-judged
returns-in-Ok-see_in-clause-judged g c = λ trusted.
    let tenant = c.args.state.now in
    let old = state_of c.self.inside.accounts c.self.inside.vault in
    let new = state_of c.settle.new.self c.see_in.new.vault in
    let repositories = c.in-Ok.gathered in
    let made = c.in-Ok-gather.made in
    let gathered = c.in-Ok.ensures ∙ c.repositories.ensures in
    let offers = c.in-Ok-gather.ensures ∙ ap (mapped entry_of) c.offers.ensures in
    let honest = ap (λ s. s.vault.honest) c.self.view_is ∙ trusted in
    let restored = restored_to g c in
    let orderly = orderly_refilled tenant.name tenant repositories made old.vault new.vault c.name-name.ensures.sound gathered offers restored in
    subst (λ (s : HostState). IsRefilledIn s.vault.files tenant (world_of s) (world_of new)) c.self.view_is
    (refilled_in old new tenant repositories made (set_to g c) gathered offers honest (right_refilled tenant.name tenant repositories made old.vault new.vault honest orderly restored) restored)

pub returns-in-Ok-see_in-clause-keys : goal.returns-in-Ok-see_in-clause-keys
returns-in-Ok-see_in-clause-keys g c =
    let found = account_of g c in
    ap (λ (m : Accounts). map.keys m) (set_to g c) ∙ keys_set c.self.inside.accounts c.args.state.now.name found.0 (refilled c.in-Ok.gathered c.in-Ok-gather.made c.args.state.now.limit) found.1 ∙ ap (λ (s : HostState). map.keys s.accounts) c.self.view_is
