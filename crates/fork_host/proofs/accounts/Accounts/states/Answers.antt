use Rattle.std.proofs.Common.{◌≡◌, ◌<◌, [], ◌∷◌, ◌++◌, List, Some, ℕ, ap, length, map, sym, subst, ◌∙◌}
use Rattle.std.proofs.lemmas.List.{append-nil}
use Rattle.std.specs.Prelude.{All}
use Rattle.std.specs.BTreeMap as tree
use Rattle.std.specs.FinMap.{entries, get}
use Rattle.git_name.specs.Name.{name_cmp}
use Rattle.git_name.proofs.Names.{name_total}
use Rattle.git_name.proofs.TreeMaps.{entries_of_ordered, get_of_entries}
use Rattle.fork_model.specs.declared.limits.TheConstants.{MAX_TENANTS}
use Rattle.state_text.specs.Adding.{AreBefore}
use Rattle.fork_host.specs.Shown.{Account, state_of}
use Rattle.fork_host.proofs.KeepingLemmas.{all_at, all_states, moved, orderly_at, others_at, so_far, state_more, states_before, states_by, states_room}
use Rattle.fork_host.proofs.accounts.Accounts.states.Goals as goal

pub loop-name-init : goal.loop-name-init
loop-name-init g c = (
  [],
  c.into_iter-name-iterator.ensures.into_iter_gives ∙ c.iter-name-items.ensures.rest
      ∙ sym (entries_of_ordered name_total c.self.inside.tenants.entries c.iter-name-items.ensures.ordered) ∙ ap entries c.self.view_is,
  c.new-states.ensures,
)

pub state-requires : goal.state-requires
state-requires g c =
    let name = c.in-Some.name.now in
    let rows = c.self.inside.tenants.entries in
    let ordered = entries_of_ordered name_total rows c.iter-name-items.ensures.ordered in
    let all = subst (All (λ e. tree.get name_cmp c.self.inside.tenants e.0 ≡ Some e.1)) (sym (so_far c.loop-name.invariant.0 (name, c.in-Some.tenant.now) c.next.new.self c.loop-name.name-iterator (entries c.args.self.now) c.in-Some.ensures.steps c.loop-name.invariant.1 ∙ ap entries (sym c.self.view_is) ∙ ordered)) c.iter-name-items.ensures.found in
    let here = all_at (λ e. tree.get name_cmp c.self.inside.tenants e.0 ≡ Some e.1) c.loop-name.invariant.0 (name, c.in-Some.tenant.now) c.next.new.self all in
    let is = ap (λ m. get m name) (sym c.self.view_is) ∙ get_of_entries name_total rows name ∙ here in
    record { orderly = orderly_at (state_of c.args.self.now c.args.vault.now) name c.in-Some.tenant.now c.requires is; others = others_at (state_of c.args.self.now c.args.vault.now) name c.in-Some.tenant.now c.requires is }

pub keep_tenant-requires-clause-before : goal.keep_tenant-requires-clause-before
keep_tenant-requires-clause-before g c =
    let state = state_of c.args.self.now c.args.vault.now in
    let row : List ℕ × Account = (c.in-Some.name.now, c.in-Some.tenant.now) in
    subst (λ states. AreBefore (map (λ t. t.name) states) c.in_ok-state.state.name) (sym c.loop-name.invariant.2)
    (subst (AreBefore (map (λ t. t.name) (states_by c.args.vault.now c.loop-name.invariant.0))) (sym (ap (λ t. t.name) c.in_ok-state.ensures))
    (states_before state c.loop-name.invariant.0 row c.next.new.self (so_far c.loop-name.invariant.0 row c.next.new.self c.loop-name.name-iterator (entries c.args.self.now) c.in-Some.ensures.steps c.loop-name.invariant.1)))

pub keep_tenant-requires-clause-room : goal.keep_tenant-requires-clause-room
keep_tenant-requires-clause-room g c =
    let state = state_of c.args.self.now c.args.vault.now in
    let row : List ℕ × Account = (c.in-Some.name.now, c.in-Some.tenant.now) in
    subst (λ states. length states < MAX_TENANTS) (sym c.loop-name.invariant.2)
    (states_room state c.loop-name.invariant.0 row c.next.new.self (so_far c.loop-name.invariant.0 row c.next.new.self c.loop-name.name-iterator (entries c.args.self.now) c.in-Some.ensures.steps c.loop-name.invariant.1) c.requires)

pub loop-name-preserved : goal.loop-name-preserved
loop-name-preserved g c =
    let before = c.loop-name.invariant.0 in
    let row : List ℕ × Account = (c.in-Some.name.now, c.in-Some.tenant.now) in (
      before ++ row ∷ [],
      moved before row c.next.new.self ∙ so_far before row c.next.new.self c.loop-name.name-iterator (entries c.args.self.now) c.in-Some.ensures.steps c.loop-name.invariant.1,
      c.in_ok-keep_tenant.ensures ∙ ap (λ states. states ++ c.in_ok-state.state ∷ []) c.loop-name.invariant.2
          ∙ ap (λ state. states_by c.args.vault.now before ++ state ∷ []) c.in_ok-state.ensures ∙ sym (state_more c.args.vault.now before row),
    )

pub returns : goal.returns
returns g c =
    c.loop-name.invariant.2 ∙ ap (states_by c.args.vault.now) (sym (append-nil c.loop-name.invariant.0) ∙ ap (λ rows. c.loop-name.invariant.0 ++ rows) (sym c.in-None.ensures.steps.0) ∙ c.loop-name.invariant.1)
    ∙ all_states (state_of c.args.self.now c.args.vault.now)
