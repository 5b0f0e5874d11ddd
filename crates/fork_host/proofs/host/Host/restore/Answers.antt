use Rattle.std.proofs.Common.{◌≡◌, ◌<◌, ◌≤◌, ◌+◌, ◌++◌, ◌∷◌, [], ℕ, ap, subst, sym, ◌∙◌, arith, drop, get_or, length, take, map as mapped}
use Rattle.std.specs.Prelude.{Contains}
use Rattle.std.proofs.lemmas.List.{length-map, take_all}
use Rattle.std.proofs.lemmas.Result.{err_from_is_err_and}
use Rattle.std.specs.FinMap as map
use Rattle.loose_store.specs.Files.{Files}
use Rattle.state_text.specs.Adding.{AreBefore}
use Rattle.state_text.specs.States.{States, TenantState}
use Rattle.state_text.proofs.BehindLemmas.{map_behind}
use Rattle.fork_model.specs.declared.limits.TheConstants.{MAX_TENANTS}
use Rattle.fork_host.specs.Refilled.{IsWhy, with_judged}
use Rattle.fork_host.specs.Shown.{HostState}
use Rattle.fork_host.specs.declared.later.Later.{Later}
use Rattle.fork_host.proofs.GatherLemmas.{next_by, parts_at, taken_more}
use Rattle.fork_host.proofs.KeepingLemmas.{room_for}
use Rattle.fork_host.proofs.ReadingLemmas.{read_at}
use Rattle.fork_host.proofs.RestoringLemmas.{Going, behind_is, going_more, going_none, len_keys, no_tenants, of_fault, shown_late, told_bad, told_late}
use Rattle.fork_host.proofs.host.Host.restore.Goals as goal

pub returns-in_err-survey-clause-refused : goal.returns-in_err-survey-clause-refused
returns-in_err-survey-clause-refused g c =
    let told = err_from_is_err_and c.from_residual.result c.from_residual.ensures.1 in
    rw told.1 (λ h. of_fault (g.S.LooseFiles.contents c.args.files) c.args.states told.0 told.2)

pub returns-in_err-readings-clause-refused : goal.returns-in_err-readings-clause-refused
returns-in_err-readings-clause-refused g c =
    let told = err_from_is_err_and c.from_residual-in_err-readings.result c.from_residual-in_err-readings.ensures.1 in
    rw told.1 (λ h. of_fault (g.S.LooseFiles.contents c.args.files) c.args.states told.0 told.2)

pub loop-state-init : goal.loop-state-init
loop-state-init g c =
    let read = c.read_states.ensures in
    let told = c.over-host.ensures in
    record {
      trusted = λ h. told.trusted (read.honest ∙ c.in_ok-survey.ensures.honest ∙ h);
      going = λ h.
          let was = c.in_ok-survey.ensures.honest ∙ h in
          going_none (g.S.LooseFiles.contents c.args.files) c.over-host.result told.empty (told.store.files (read.honest ∙ was) ∙ read.kept was ∙ c.in_ok-survey.ensures.contents h);
      honest = told.store.honest ∙ read.honest ∙ c.in_ok-survey.ensures.honest;
      failures = told.store.failures ∙ c.in_ok-readings.ensures.failures ∙ c.in_ok-survey.ensures.failures;
      names = no_tenants c.over-host.result told.empty;
    }

-- the next state is one of those that were given
inside : (items states : States) (i : ℕ) → items ≡ states → i < length items → i < length states
inside items states i same lt = subst (λ xs. i < length xs) same lt

next : (items states : States) (i : ℕ) (tenant : TenantState) → items ≡ states → tenant ≡ get_or items i tenant → tenant ≡ get_or states i tenant
next items states i tenant same is = is ∙ ap (λ xs. get_or xs i tenant) same

pub restore_tenant-judged-requires-clause-before : goal.restore_tenant-judged-requires-clause-before
restore_tenant-judged-requires-clause-before g c =
    let same = c.as_slice-state-items.ensures.tenants in
    let i = c.loop-state.state-index in
    let tenant = c.state-item.result in
    subst (λ names. AreBefore names tenant.name) (sym c.loop-state.invariant.names)
    (next_by (λ t. t.name) c.args.states i tenant c.as_slice-state-items.ensures.sound.ordered (inside c.as_slice-state-items.result.now c.args.states i same c.loop-state-test.true) (next c.as_slice-state-items.result.now c.args.states i tenant same c.state-item.is))

pub restore_tenant-judged-requires-clause-few : goal.restore_tenant-judged-requires-clause-few
restore_tenant-judged-requires-clause-few g c =
    let same = c.as_slice-state-items.ensures.tenants in
    let i = c.loop-state.state-index in
    let tenant = c.state-item.result in
    let states = c.args.states in
    let parts = parts_at states i tenant (inside c.as_slice-state-items.result.now states i same c.loop-state-test.true) (next c.as_slice-state-items.result.now states i tenant same c.state-item.is) in
    let room = room_for (take i states) tenant (drop (i + 1) states) MAX_TENANTS (subst (λ ts. length ts ≤ MAX_TENANTS) parts c.as_slice-state-items.ensures.sound.few) in
    let counted = len_keys c.loop-state.host.accounts in
    let same_length = ap length c.loop-state.invariant.names ∙ length-map (take i states) (λ t. t.name) in
    omega (arith, room, counted, same_length)

pub restore_tenant-judged-requires-clause-read : goal.restore_tenant-judged-requires-clause-read
restore_tenant-judged-requires-clause-read g c =
    let same = c.as_slice-state-items.ensures.tenants in
    let i = c.loop-state.state-index in
    let tenant = c.state-item.result in
    let states = c.args.states in
    let before = c.loop-state.invariant in
    let host = c.loop-state.host in
    let store = c.in_ok-survey.ensures in
    read_at c.in_ok-survey.survey.honest host.vault.honest c.in_ok-survey.survey.contents host.vault.files tenant.seen c.in_ok-readings.readings (before.honest ∙ sym store.honest) (λ h. (before.going (sym store.honest ∙ h)).same ∙ sym (store.contents (sym store.honest ∙ h)))
    (c.in_ok-readings.ensures.read tenant (subst (λ (ts : States). Contains ts tenant) (sym c.as_slice.ensures.tenants)
    (i, inside c.as_slice-state-items.result.now states i same c.loop-state-test.true, sym (next c.as_slice-state-items.result.now states i tenant same c.state-item.is))))

pub returns-in-Some-clause-refused : goal.returns-in-Some-clause-refused
returns-in-Some-clause-refused g c = λ h.
    let files = g.S.LooseFiles.contents c.args.files in
    let same = c.as_slice-state-items.ensures.tenants in
    let i = c.loop-state.state-index in
    let tenant = c.state-item.result in
    let states = c.args.states in
    let going = c.loop-state.invariant.going h in
    let trusted = c.loop-state.invariant.trusted h in
    let judged = c.restore_tenant-judged.ensures in
    let honest = sym c.close.ensures.honest ∙ judged.trusted trusted in
    let stored = sym (c.close.ensures.files honest) ∙ judged.files trusted ∙ going.same in
    told_bad files (take i states) tenant (drop (i + 1) states) states c.loop-state.host c.restore_tenant-judged.new.self c.loop-state.later c.restore_tenant-judged.result c.in-Some.bad c.why.result
    (parts_at states i tenant (inside c.as_slice-state-items.result.now states i same c.loop-state-test.true) (next c.as_slice-state-items.result.now states i tenant same c.state-item.is))
    going (judged.judged trusted) (sym c.note.ensures.told ∙ c.in-Some.is) (subst (λ fs. IsWhy fs c.in-Some.bad c.why.result) stored (c.why.ensures honest))

pub loop-state-preserved : goal.loop-state-preserved
loop-state-preserved g c =
    let files = g.S.LooseFiles.contents c.args.files in
    let same = c.as_slice-state-items.ensures.tenants in
    let i = c.loop-state.state-index in
    let tenant = c.state-item.result in
    let states = c.args.states in
    let old = c.loop-state.host in
    let new = c.restore_tenant-judged.new.self in
    let result = c.restore_tenant-judged.result in
    let judged = c.restore_tenant-judged.ensures in
    let before = c.loop-state.invariant in
    let lt = inside c.as_slice-state-items.result.now states i same c.loop-state-test.true in
    let is = next c.as_slice-state-items.result.now states i tenant same c.state-item.is in
    let more = taken_more states i tenant lt is in
    let none = sym c.note.ensures.told ∙ c.in_default.is in
    let noted = c.note.ensures.noted ∙ ap (λ name. with_judged c.loop-state.later name result) c.name.ensures.name in
    record {
      trusted = λ h. judged.trusted (before.trusted h);
      going = λ h.
          subst (λ (later : Later). Going files (take (i + 1) states) new later) (sym noted)
          (subst (λ (ts : States). Going files ts new (with_judged c.loop-state.later tenant.name result)) (sym more)
          (going_more files (take i states) tenant old new c.loop-state.later result
          (subst (λ names. AreBefore names tenant.name) (sym before.names) (next_by (λ t. t.name) states i tenant c.as_slice-state-items.ensures.sound.ordered lt is))
          c.name.ensures.sound.seen_ordered (judged.files (before.trusted h)) (judged.judged (before.trusted h)) none (before.going h)));
      honest = judged.honest ∙ before.honest;
      failures = judged.failures ∙ before.failures;
      names = behind_is tenant.name (map.keys old.accounts) (map.keys new.accounts) result none judged.behind
          ∙ ap (λ names. names ++ tenant.name ∷ []) before.names ∙ sym (map_behind (λ t. t.name) (take i states) tenant) ∙ ap (mapped (λ t. t.name)) (sym more);
    }

-- all of them were judged
all_of : (files : Files) (items states : States) (i : ℕ) (state : HostState) (later : Later) → items ≡ states → length items ≤ i → Going files (take i states) state later → Going files states state later
all_of files items states i state later same whole going =
    subst (λ (ts : States). Going files ts state later) (take_all i states (subst (λ (ts : States). length ts ≤ i) same whole)) going

pub returns-in-Some-told-clause-refused : goal.returns-in-Some-told-clause-refused
returns-in-Some-told-clause-refused g c = λ h.
    let files = g.S.LooseFiles.contents c.args.files in
    let going = all_of files c.as_slice-state-items.result.now c.args.states c.loop-state.state-index c.loop-state.host c.loop-state.later c.as_slice-state-items.ensures.tenants (omega arith) (c.loop-state.invariant.going h) in
    told_late files c.args.states c.loop-state.host c.loop-state.later c.in-Some-told.error going (sym c.told.ensures ∙ c.in-Some-told.is)

pub returns-clause-trusted : goal.returns-clause-trusted
returns-clause-trusted g c = λ h. c.loop-state.invariant.trusted h

pub returns-clause-shown : goal.returns-clause-shown
returns-clause-shown g c = λ h.
    let files = g.S.LooseFiles.contents c.args.files in
    let going = all_of files c.as_slice-state-items.result.now c.args.states c.loop-state.state-index c.loop-state.host c.loop-state.later c.as_slice-state-items.ensures.tenants (omega arith) (c.loop-state.invariant.going h) in
    shown_late files c.args.states c.loop-state.host c.loop-state.later going (sym c.told.ensures ∙ c.in-None.is)

pub returns-clause-store : goal.returns-clause-store
returns-clause-store g c =
    let before = c.loop-state.invariant in
    record { files = λ h. (before.going h).same; honest = before.honest; failures = before.failures }
