use Rattle.std.proofs.Common.{◌<◌, ◌≤◌, ◌++◌, ◌∷◌, [], Some, ap, subst, sym, ◌∙◌, arith}
use Rattle.std.specs.FinMap as map
use Rattle.fork_model.specs.World.{World}
use Rattle.state_text.specs.Adding.{AreBefore}
use Rattle.fork_host.specs.Adding.{new_view}
use Rattle.fork_host.specs.Refilled.{IsJudged}
use Rattle.fork_host.specs.Shown.{world_of}
use Rattle.fork_host.proofs.AddingLemmas.{not_refused}
use Rattle.fork_host.proofs.ReadingLemmas.{read_at}
use Rattle.fork_host.proofs.RefillLemmas.{added_there}
use Rattle.fork_host.proofs.RestoringLemmas.{absent_behind, is_behind, judged_more, keys_more, keys_world}
use Rattle.fork_host.proofs.WorldLemmas.{known_world, len_world}
use Rattle.fork_host.proofs.host.Host.restore_tenant.Goals as goal

pub add_behind-requires : goal.add_behind-requires
add_behind-requires g c =
    let state = c.args.self.now in
    let named = c.copy.ensures ∙ c.name.ensures.name in
    let absent = ap (map.contains_key (world_of state)) named ∙ known_world state c.args.state.now.name ∙ absent_behind state.accounts c.args.state.now.name c.requires.before in
    let few : map.len (world_of state) < 64 = (let counted = len_world state in let room = c.requires.few in omega (arith, counted, room)) in
    let low : c.limit.result ≤ 1099511627776 = (let most = c.name.ensures.sound.limit in let same = c.limit.ensures in omega (arith, most, same)) in
    not_refused (world_of state) c.copy.result c.limit.result absent few low

pub refill-requires : goal.refill-requires
refill-requires g c =
    let old = c.args.self.now in
    let mid = c.add_behind.new.self in
    record {
      fresh = added_there (world_of c.args.self.now) (world_of c.add_behind.new.self) c.args.state.now.name c.copy.result (new_view c.limit.result) (c.copy.ensures ∙ c.name.ensures.name) c.in-Ok.ensures.ok
          ∙ ap (λ limit. Some (new_view limit)) c.limit.ensures;
      read = read_at old.vault.honest mid.vault.honest old.vault.files mid.vault.files c.args.state.now.seen c.args.readings.now c.in-Ok.ensures.store.honest (λ h. c.in-Ok.ensures.store.files) c.requires.read;
    }

pub returns-clause-judged : goal.returns-clause-judged
returns-clause-judged g c = λ trusted.
    let old = c.args.self.now in
    let mid = c.add_behind.new.self in
    let new = c.refill.new.self in
    let tenant = c.args.state.now in
    let added = c.in-Ok.ensures.ok ∙ ap (λ name. map.insert (world_of old) name (new_view c.limit.result)) (c.copy.ensures ∙ c.name.ensures.name) in
    subst (λ files. IsJudged files tenant (world_of old) (world_of new) c.refill.result) c.in-Ok.ensures.store.files
    (judged_more mid.vault.files tenant (world_of old) (world_of mid) (world_of new) (new_view c.limit.result) added c.refill.result (c.refill.ensures.judged (c.in-Ok.ensures.trusted trusted)))

pub returns-clause-behind : goal.returns-clause-behind
returns-clause-behind g c =
    let old = c.args.self.now in
    let mid = c.add_behind.new.self in
    let name = c.args.state.now.name in
    let view = new_view c.limit.result in
    let added = c.in-Ok.ensures.ok ∙ ap (λ n. map.insert (world_of old) n view) (c.copy.ensures ∙ c.name.ensures.name) in
    let before = subst (λ names. AreBefore names name) (sym (keys_world old)) c.requires.before in
    is_behind name (map.keys old.accounts) (map.keys c.refill.new.self.accounts)
    (c.refill.ensures.keys ∙ sym (keys_world mid) ∙ ap (λ (w : World). map.keys w) added ∙ keys_more (world_of old) name view before ∙ ap (λ names. names ++ name ∷ []) (keys_world old))
    c.refill.result
