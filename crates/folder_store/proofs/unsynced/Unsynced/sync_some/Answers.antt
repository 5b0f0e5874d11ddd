use Rattle.std.proofs.Common.{◌∙◌, ap, sym, subst, refl, Bool, List, ℕ}
use Rattle.indexmap.specs.IndexSet.{contains, index_set_len}
use Rattle.git_name.specs.Same.{same_name}
use Rattle.folder_store.specs.Synced.{SyncsBoth}
use Rattle.folder_store.proofs.MarkLemmas.{marked_then, synced_at, unmarked_all}
use Rattle.folder_store.proofs.SyncLemmas.{all_synced, goes_on, homes_none, none_marked, synced_then}
use Rattle.folder_store.proofs.unsynced.Unsynced.sync_some.Goals as goal

pub returns-then-not-contains-clause-synced : goal.returns-then-not-contains-clause-synced
returns-then-not-contains-clause-synced g c honest few =
    let before = g.D.Device.past c.args.device.now in
    let after = g.D.Device.past c.sync_files.new.device in
    all_synced (contains same_name c.args.self.now.names) c.sync_files.new.self.names.keys c.args.self.now.homes c.sync_files.new.self.homes c.sync_files.new.self.homes before after after
    (c.in_ok-sync_files.ensures.files honest (c.in_ok-sync_files.ensures.passed ∙ c.if-self.false)) (c.in_ok-sync_files.ensures.left few) (homes_none c.sync_files.new.self.homes c.sync_files.new.self.homes after after refl refl)
    (none_marked _ c.sync_files.new.self.homes refl (sym c.contains.ensures.value ∙ c.if-not-contains.true))

pub returns-clause-synced : goal.returns-clause-synced
returns-clause-synced g c honest few =
    synced_then c.sync_homes.result (contains same_name c.args.self.now.names) c.sync_files.new.self.names.keys c.args.self.now.homes c.sync_files.new.self.homes c.sync_homes.new.self.homes
    (g.D.Device.past c.args.device.now) (g.D.Device.past c.sync_files.new.device) (g.D.Device.past c.sync_homes.new.device) c.sync_files.new.self.has_failed c.sync_homes.new.self.has_failed
    (c.in_ok-sync_files.ensures.passed ∙ c.if-self.false) (c.in_ok-sync_files.ensures.files honest (c.in_ok-sync_files.ensures.passed ∙ c.if-self.false)) (c.in_ok-sync_files.ensures.left few)
    (c.sync_homes.ensures.folders (c.sync_files.ensures.honest ∙ honest)) c.sync_homes.ensures.passed c.sync_homes.ensures.unmarked

pub returns-in_err-sync_files-clause-both : goal.returns-in_err-sync_files-clause-both
returns-in_err-sync_files-clause-both g c honest unfailed =
    let after = g.D.Device.past c.sync_files.new.device in
    goes_on (contains same_name c.args.self.now.names) (contains same_name c.sync_files.new.self.names) c.args.self.now.homes c.sync_files.new.self.homes c.sync_files.new.self.homes (g.D.Device.past c.args.device.now) after after
    (c.sync_files.ensures.files honest unfailed) (homes_none c.sync_files.new.self.homes c.sync_files.new.self.homes after after refl refl)

pub returns-then-not-contains-clause-both : goal.returns-then-not-contains-clause-both
returns-then-not-contains-clause-both g c honest unfailed =
    let after = g.D.Device.past c.sync_files.new.device in
    goes_on (contains same_name c.args.self.now.names) (contains same_name c.sync_files.new.self.names) c.args.self.now.homes c.sync_files.new.self.homes c.sync_files.new.self.homes (g.D.Device.past c.args.device.now) after after
    (c.sync_files.ensures.files honest unfailed) (homes_none c.sync_files.new.self.homes c.sync_files.new.self.homes after after refl refl)

pub returns-clause-both : goal.returns-clause-both
returns-clause-both g c honest unfailed =
    subst (λ (left : List ℕ → Bool). SyncsBoth (contains same_name c.args.self.now.names) left c.args.self.now.homes c.sync_homes.new.self.homes (g.D.Device.past c.args.device.now) (g.D.Device.past c.sync_homes.new.device))
    (sym (ap (contains same_name) c.sync_homes.ensures.names))
    (goes_on (contains same_name c.args.self.now.names) (contains same_name c.sync_files.new.self.names) c.args.self.now.homes c.sync_files.new.self.homes c.sync_homes.new.self.homes
    (g.D.Device.past c.args.device.now) (g.D.Device.past c.sync_files.new.device) (g.D.Device.past c.sync_homes.new.device) (c.sync_files.ensures.files honest (c.sync_homes.ensures.failed unfailed))
    (c.sync_homes.ensures.folders (c.sync_files.ensures.honest ∙ honest) unfailed))

pub returns-then-not-contains-clause-all : goal.returns-then-not-contains-clause-all
returns-then-not-contains-clause-all g c few =
    synced_at (index_set_len c.sync_files.new.self.names) c.sync_files.new.self.homes (c.in_ok-sync_files.ensures.left few)
    (unmarked_all c.sync_files.new.self.homes (none_marked _ c.sync_files.new.self.homes refl (sym c.contains.ensures.value ∙ c.if-not-contains.true)))

pub returns-clause-all : goal.returns-clause-all
returns-clause-all g c few =
    marked_then c.sync_homes.result c.sync_files.new.self.names c.sync_homes.new.self.names c.sync_homes.new.self.homes c.sync_homes.ensures.names (c.in_ok-sync_files.ensures.left few) c.sync_homes.ensures.unmarked
