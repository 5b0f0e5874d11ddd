use Rattle.std.proofs.Common.{◌≡◌, ◌≤◌, ℕ, IsTrue, refl, ap, subst, sym, ◌∙◌, List}
use Rattle.std.specs.BTreeSet.{BTreeSet, contains}
use Rattle.std.specs.HashSet as hashed
use Rattle.std.specs.List.{list_any}
use Rattle.std.specs.FinMap as map
use Rattle.git_name.specs.Name.{name_cmp}
use Rattle.git_name.specs.Same.{same_name}
use Rattle.fork_reach.specs.Objects.{use_of, with_objects}
use Rattle.fork_ledger.specs.Private.{both_of, nothing, with_kept}
use Rattle.fork_ledger.specs.Tenants.{at_tenant, private_of}
use Rattle.fork_ledger.proofs.BothLemmas.{both_quiet}
use Rattle.fork_host.specs.Handle.{both_by, visible_by}
use Rattle.fork_host.specs.Own.{ChangesTenant, SeesOnly, both_in, visible_in}
use Rattle.fork_sound.specs.Reading.{AreReadings, ReadingMap}
use Rattle.fork_host.specs.Read.{AreRead}
use Rattle.fork_host.specs.Refilled.{SeesAgain, bad_in}
use Rattle.fork_host.specs.Restored.{AreOnStore, first_astray, repositories_in}
use Rattle.state_text.specs.States.{Ascend}
use Rattle.fork_host.specs.declared.own.Own.{Own}
use Rattle.fork_host.proofs.OwnLemmas.{changes_none, emptied, none_staged, seen_itself}
use Rattle.fork_host.proofs.ReadingLemmas.{are_readings}
use Rattle.fork_host.proofs.RestoreLemmas.{bad_by, closed_seen, named_came, on_store, right_seen, stands_against}
use Rattle.fork_host.proofs.seeing.see_again.Goals as goal

-- what was added for a tenant that had nothing
came_of : {S : Type 0} (first mid : Own S) (names : List (List ℕ)) → private_of first.vault.now.tenants first.tenant.now ≡ nothing → (told : SeesAgain first.tenant.now names first.vault.now mid.vault.now)
    → ChangesTenant first.tenant.now (SeesOnly (with_objects map.empty told.came)) first.vault.now mid.vault.now
came_of first mid names none told =
    let base : both_in first.vault.now first.tenant.now ≡ map.empty = ap both_of none ∙ both_quiet nothing refl in
    subst (λ b. ChangesTenant first.tenant.now (SeesOnly (with_objects b told.came)) first.vault.now mid.vault.now) base told.changes

-- is what it sees, over an honest store
seen_of : {S : Type 0} (first mid : Own S) (names : List (List ℕ)) → private_of first.vault.now.tenants first.tenant.now ≡ nothing → mid.tenant ≡ first.tenant → (told : SeesAgain first.tenant.now names first.vault.now mid.vault.now)
    → IsTrue first.vault.now.honest → visible_by mid ≡ with_objects map.empty told.came
seen_of first mid names none tenant told h =
    ap (λ r. visible_in mid.vault.now r.now) tenant ∙ seen_itself first.vault.now mid.vault.now first.tenant.now (with_objects map.empty told.came) (came_of first mid names none told) h

-- and is on it
stored_of : {S : Type 0} (first mid : Own S) (names : List (List ℕ)) (told : SeesAgain first.tenant.now names first.vault.now mid.vault.now) → IsTrue first.vault.now.honest → AreOnStore first.vault.now.files names (with_objects map.empty told.came)
stored_of first mid names told h = on_store first.vault.now.files names told.came told.among (told.whole h) (told.all h)

-- and is what was read
read_of : {S : Type 0} (first mid : Own S) (names : List (List ℕ)) (set : BTreeSet (List ℕ)) (readings : ReadingMap) → private_of first.vault.now.tenants first.tenant.now ≡ nothing → mid.tenant ≡ first.tenant → (told : SeesAgain first.tenant.now names first.vault.now mid.vault.now)
    → set.keys ≡ names → AreRead first.vault.now.honest first.vault.now.files names readings → IsTrue first.vault.now.honest → AreReadings readings (contains name_cmp set) (visible_by mid)
read_of first mid names set readings none tenant told are read h =
    subst (AreReadings readings (contains name_cmp set)) (sym (seen_of first mid names none tenant told h))
    (are_readings first.vault.now.honest first.vault.now.files names readings (with_objects map.empty told.came) set are h read (stored_of first mid names told h))

pub set_of-requires : goal.set_of-requires
set_of-requires g c = subst Ascend (sym c.seen-seen.ensures) c.name-name.ensures.sound.seen_ordered

pub returns-in_default-clause-err : goal.returns-in_default-clause-err
returns-in_default-clause-err g c =
    let first = c.args.own.now in
    changes_none (SeesOnly map.empty) first.vault.now first.tenant.now (record { sees = ap (λ p. p.visible) c.requires.nothing; stages = ap (λ p. p.staged) c.requires.nothing })

pub returns-in-Ok-judge_seen-clause-ok : goal.returns-in-Ok-judge_seen-clause-ok
returns-in-Ok-judge_seen-clause-ok g c =
    let first = c.args.own.now in
    let mid = c.recall_all.new.own in
    let t = first.tenant.now in
    let state = c.args.state.now in
    let set = c.in-Ok.names in
    let keys = c.in-Ok.ensures ∙ c.seen-seen.ensures in
    let told = subst (λ names. SeesAgain t names first.vault.now mid.vault.now) c.seen-seen.ensures c.in-Ok-recall_all.ensures.ok in
    let judged = c.in-Ok-judge_seen.ensures in
    let objects = with_objects map.empty told.came in
    let changes = came_of first mid state.seen c.requires.nothing told in
    let tenant = c.recall_all.ensures.same.tenant in
    let stored = stored_of first mid state.seen told in
    let none = λ (h : IsTrue first.vault.now.honest). sym (bad_by set state.seen objects keys) ∙ ap (bad_in set) (sym (seen_of first mid state.seen c.requires.nothing tenant told h))
    ∙ judged.sound (read_of first mid state.seen set c.args.readings.now c.requires.nothing tenant told keys c.requires.read h) in
    record {
      objects = objects;
      changes = changes;
      named = λ h. named_came told.came;
      right = λ h. right_seen first.vault.now.files state.seen objects (stored h).among (none h);
      closed = λ h. closed_seen first.vault.now.files state.seen objects (stored h).among (none h);
      stored = λ h. record { objects = objects; stored = stored h; is = (refl, none h) };
      targets = ap (λ r. first_astray (repositories_in state) (visible_in mid.vault.now r.now)) (sym tenant) ∙ judged.targets;
      within = subst (λ o. use_of o ≤ state.limit) (ap (λ r. both_in mid.vault.now r.now) tenant ∙ both_quiet (private_of mid.vault.now.tenants t) (none_staged first.vault.now mid.vault.now t objects changes)) judged.within;
    }

pub returns-clause-against : goal.returns-clause-against
returns-clause-against g c = λ h.
    let first = c.args.own.now in
    let mid = c.recall_all.new.own in
    let t = first.tenant.now in
    let state = c.args.state.now in
    let keys = c.in-Ok.ensures ∙ c.seen-seen.ensures in
    let told = subst (λ names. SeesAgain t names first.vault.now mid.vault.now) c.seen-seen.ensures c.in-Ok-recall_all.ensures.ok in
    let objects = with_objects map.empty told.came in
    let tenant = c.recall_all.ensures.same.tenant in
    let came = came_of first mid state.seen c.requires.nothing told in
    let seen = seen_of first mid state.seen c.requires.nothing tenant told h in
    let quiet = ap (λ r. both_in mid.vault.now r.now) tenant ∙ both_quiet (private_of mid.vault.now.tenants t) (none_staged first.vault.now mid.vault.now t objects came) in
    let all = quiet ∙ seen_itself first.vault.now mid.vault.now t objects came h in
    stands_against first.vault.now.files state c.in-Ok.names (visible_by mid) (both_by mid) objects keys seen all (stored_of first mid state.seen told h) c.in-Err-judge_seen.against
    (c.in-Err-judge_seen.ensures.against (read_of first mid state.seen c.in-Ok.names c.args.readings.now c.requires.nothing tenant told keys c.requires.read h))

pub returns-clause-err : goal.returns-clause-err
returns-clause-err g c =
    let first = c.args.own.now in
    let mid = c.recall_all.new.own in
    let t = first.tenant.now in
    let told = c.in-Ok-recall_all.ensures.ok in
    let names = hashed.contains same_name c.with_hasher-none.result in
    emptied first.vault.now mid.vault.now c.keep_only.new.self.vault.now t (with_objects (both_in first.vault.now t) told.came) names c.requires.there (λ name. ap (list_any (same_name name)) c.with_hasher-none.ensures.empty)
    (c.keep_only.ensures.tenants ∙ ap (λ r. at_tenant mid.vault.now.tenants r.now (with_kept names)) c.recall_all.ensures.same.tenant) c.keep_only.ensures.store.honest told.changes
