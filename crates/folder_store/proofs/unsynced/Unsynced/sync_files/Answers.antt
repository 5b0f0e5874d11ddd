use Rattle.std.proofs.Common.{rules, ◌≡◌, ◌+◌, arith, ◌∙◌}
use Rattle.indexmap.specs.IndexSet.{contains, index_set_len}
use Rattle.git_name.specs.Same.{same_name}
use Rattle.folder_store.proofs.SyncLemmas.{files_then}
use Rattle.folder_store.proofs.unsynced.Unsynced.sync_files.Goals as goal

pub returns-in_err-sync_last-clause-files : goal.returns-in_err-sync_last-clause-files
returns-in_err-sync_last-clause-files g c honest unfailed =
    files_then (contains same_name c.args.self.now.names) (contains same_name c.loop.self.names) (contains same_name c.sync_last.new.self.names) c.args.self.now.homes c.loop.self.homes c.sync_last.new.self.homes
    (g.D.Device.past c.args.device.now) (g.D.Device.past c.loop.device) (g.D.Device.past c.sync_last.new.device) (c.loop.invariant.4 honest (c.sync_last.ensures.failed unfailed)) (c.sync_last.ensures.files (c.loop.invariant.1 ∙ honest) unfailed)

pub returns-then-not-branch-clause-files : goal.returns-then-not-branch-clause-files
returns-then-not-branch-clause-files g c honest unfailed =
    files_then (contains same_name c.args.self.now.names) (contains same_name c.loop.self.names) (contains same_name c.sync_last.new.self.names) c.args.self.now.homes c.loop.self.homes c.sync_last.new.self.homes
    (g.D.Device.past c.args.device.now) (g.D.Device.past c.loop.device) (g.D.Device.past c.sync_last.new.device) (c.loop.invariant.4 honest (c.sync_last.ensures.failed unfailed)) (c.sync_last.ensures.files (c.loop.invariant.1 ∙ honest) unfailed)

pub loop-preserved : goal.loop-preserved
loop-preserved g c =
    let fewer : index_set_len c.sync_last.new.self.names + 1 ≡ index_set_len c.loop.self.names = c.in_ok-sync_last.ensures.fewer (search rules) in
    let all : index_set_len c.loop.self.names + c.loop.counter ≡ index_set_len c.args.self.now.names = c.loop.invariant.2 in (
      c.sync_last.ensures.kept ∙ c.loop.invariant.0,
      c.sync_last.ensures.honest ∙ c.loop.invariant.1,
      omega (arith, fewer, all),
      c.in_ok-sync_last.ensures.passed ∙ c.loop.invariant.3,
      (λ honest unfailed.
          files_then (contains same_name c.args.self.now.names) (contains same_name c.loop.self.names) (contains same_name c.sync_last.new.self.names) c.args.self.now.homes c.loop.self.homes c.sync_last.new.self.homes
          (g.D.Device.past c.args.device.now) (g.D.Device.past c.loop.device) (g.D.Device.past c.sync_last.new.device) (c.loop.invariant.4 honest (c.sync_last.ensures.failed unfailed)) (c.sync_last.ensures.files (c.loop.invariant.1 ∙ honest) unfailed)),
    )
