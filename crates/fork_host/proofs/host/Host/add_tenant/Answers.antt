use Rattle.std.proofs.Common.{◌<◌, ap, refl, sym, subst, ◌∙◌, arith}
use Rattle.std.specs.FinMap as map
use Rattle.fork_model.specs.Context.{offered_to}
use Rattle.fork_model.proofs.OfferedLemmas.{added_offered}
use Rattle.fork_host.specs.Adding.{new_view}
use Rattle.fork_host.specs.Shown.{IsWhole, state_of, world_of}
use Rattle.fork_host.proofs.AddingLemmas.{none_there, not_refused, refused_limit, refused_many, refused_there}
use Rattle.fork_host.proofs.WholeLemmas.{same_state, whole_more, world_more}
use Rattle.fork_host.proofs.WorldLemmas.{known_world, len_world}
use Rattle.fork_host.proofs.host.Host.add_tenant.Goals as goal

pub returns-then-contains-clause-cause : goal.returns-then-contains-clause-cause
returns-then-contains-clause-cause g c _ =
    let known = ap (λ s. map.contains_key (world_of s) c.args.name) (sym c.self.view_is) ∙ known_world (state_of c.self.inside.accounts c.self.inside.vault) c.args.name in
    refused_there (world_of c.args.self.now) c.args.name c.args.limit (known ∙ sym c.contains.ensures ∙ c.if-contains.true)

pub returns-then-len-ge-MAX_TENANTS-clause-cause : goal.returns-then-len-ge-MAX_TENANTS-clause-cause
returns-then-len-ge-MAX_TENANTS-clause-cause g c _ =
    let known = ap (λ s. map.contains_key (world_of s) c.args.name) (sym c.self.view_is) ∙ known_world (state_of c.self.inside.accounts c.self.inside.vault) c.args.name in
    let count = ap (λ s. map.len (world_of s)) (sym c.self.view_is) ∙ len_world (state_of c.self.inside.accounts c.self.inside.vault) ∙ sym c.len.ensures in
    refused_many (world_of c.args.self.now) c.args.name c.args.limit (known ∙ sym c.contains.ensures ∙ c.if-contains.false) (omega (arith, count))

pub returns-then-limit-gt-MAX_LIMIT-clause-cause : goal.returns-then-limit-gt-MAX_LIMIT-clause-cause
returns-then-limit-gt-MAX_LIMIT-clause-cause g c _ =
    let known = ap (λ s. map.contains_key (world_of s) c.args.name) (sym c.self.view_is) ∙ known_world (state_of c.self.inside.accounts c.self.inside.vault) c.args.name in
    let count = ap (λ s. map.len (world_of s)) (sym c.self.view_is) ∙ len_world (state_of c.self.inside.accounts c.self.inside.vault) ∙ sym c.len.ensures in
    refused_limit (world_of c.args.self.now) c.args.name c.args.limit (known ∙ sym c.contains.ensures ∙ c.if-contains.false) (omega (arith, count)) c.if-limit-gt-MAX_LIMIT.true

pub returns-clause-ok : goal.returns-clause-ok
returns-clause-ok g c =
    let old = state_of c.self.inside.accounts c.self.inside.vault in
    let new = state_of c.open_account.new.accounts c.open_account.new.vault in
    world_more old new c.args.name c.args.limit c.self.invariant (sym c.contains.ensures ∙ c.if-contains.false) c.in-Ok.ensures.ok c.in-Ok.ensures.vault
    ∙ ap (λ s. map.insert (world_of s) c.args.name (new_view c.args.limit)) c.self.view_is

pub returns-clause-offered : goal.returns-clause-offered
returns-clause-offered g c = λ tenant.
    let world = world_of c.args.self.now in
    let known = ap (λ s. map.contains_key (world_of s) c.args.name) (sym c.self.view_is) ∙ known_world (state_of c.self.inside.accounts c.self.inside.vault) c.args.name in
    ap (λ w. offered_to w tenant) (returns-clause-ok g c)
    ∙ added_offered world c.args.name tenant (new_view c.args.limit) (none_there world c.args.name (known ∙ sym c.contains.ensures ∙ c.if-contains.false)) refl

pub returns-clause-free : goal.returns-clause-free
returns-clause-free g c =
    let known = ap (λ s. map.contains_key (world_of s) c.args.name) (sym c.self.view_is) ∙ known_world (state_of c.self.inside.accounts c.self.inside.vault) c.args.name in
    let count = ap (λ s. map.len (world_of s)) (sym c.self.view_is) ∙ len_world (state_of c.self.inside.accounts c.self.inside.vault) ∙ sym c.len.ensures in
    not_refused (world_of c.args.self.now) c.args.name c.args.limit (known ∙ sym c.contains.ensures ∙ c.if-contains.false) (omega (arith, count)) c.if-limit-gt-MAX_LIMIT.false

pub invariant_of-self-2 : goal.invariant_of-self-2
invariant_of-self-2 g c =
    let old = state_of c.self.inside.accounts c.self.inside.vault in
    let new = state_of c.open_account.new.accounts c.open_account.new.vault in
    let few : map.len c.self.inside.accounts < 64 = omega arith in
    whole_more old new c.args.name c.args.limit c.as_bytes-bytes.ensures.name c.self.invariant (sym c.contains.ensures ∙ c.if-contains.false) few c.if-limit-gt-MAX_LIMIT.false c.in-Ok.ensures.ok c.in-Ok.ensures.vault c.open_account.ensures.store.honest

pub invariant_of-self : goal.invariant_of-self
invariant_of-self g c =
    subst IsWhole (sym (same_state c.self.inside.accounts c.open_account.new.accounts c.self.inside.vault c.open_account.new.vault c.in_default.ensures.err c.in_default.ensures.kept c.open_account.ensures.store)) c.self.invariant

pub returns-in_default-clause-err : goal.returns-in_default-clause-err
returns-in_default-clause-err g c =
    same_state c.self.inside.accounts c.open_account.new.accounts c.self.inside.vault c.open_account.new.vault c.in_default.ensures.err c.in_default.ensures.kept c.open_account.ensures.store ∙ c.self.view_is
