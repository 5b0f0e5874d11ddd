use Rattle.std.proofs.Common.{rules, ◌≡◌, ◌<◌, ◌++◌, ◌∷◌, [], ℕ, List, length, ap, sym, ◌∙◌, slice_index_or}
use Rattle.indexmap.specs.IndexSet.{contains}
use Rattle.git_name.specs.Same.{same_name}
use Rattle.devices.specs.Device.{SyncedFile}
use Rattle.folder_store.specs.Place.{place_of}
use Rattle.folder_store.proofs.SyncLemmas.{does_ok, file_one, files_none, last_out, untried_err}
use Rattle.folder_store.proofs.unsynced.Unsynced.sync_last.Goals as goal

pub returns-in_err-was_synced-clause-files : goal.returns-in_err-was_synced-clause-files
returns-in_err-was_synced-clause-files g c honest unfailed =
    files_none (contains same_name c.args.self.now.names) (contains same_name c.was_synced.new.self.names) c.args.self.now.homes c.was_synced.new.self.homes (g.D.Device.past c.args.device.now) (g.D.Device.past c.sync_object-synced.new.device)
    (ap (contains same_name) c.was_synced.ensures.names) c.was_synced.ensures.homes
    (untried_err c.args.self.now.has_failed c.was_synced.new.self.has_failed c.sync_object-synced.result c.in_err-was_synced.field-0.0 (g.D.Device.past c.args.device.now) (g.D.Device.past c.sync_object-synced.new.device)
    c.in_err-was_synced.ensures.same c.was_synced.ensures.failed unfailed (c.sync_object-synced.ensures.untried honest))

pub returns-clause-files : goal.returns-clause-files
returns-clause-files g c honest unfailed =
    let old = g.D.Device.past c.args.device.now in
    let new = g.D.Device.past c.sync_object-synced.new.device in
    let keys_are : c.args.self.now.names.keys ≡ c.pop.new.self.keys ++ c.in-Some.name.now ∷ [] =
    last_out c.args.self.now.names.keys c.pop.new.self.keys c.pop.result c.in-Some.name.now (ap (λ s. s.keys) (sym c.was_synced.ensures.names) ∙ c.pop.ensures.keys)
    (λ some. c.pop.ensures.found.1 (search rules)) c.in-Some.ensures.key in
    let within : slice_index_or c.as_bytes.result.now 0 0 < length c.args.self.now.homes = search rules in
    let small : slice_index_or c.as_bytes.result.now 0 0 < 256 = search rules in
    file_one c.args.self.now.names.keys c.pop.new.self.keys c.in-Some.name.now c.args.self.now.homes c.was_synced.new.self.homes (slice_index_or c.as_bytes.result.now 0 0) old new keys_are
    (does_ok (SyncedFile (place_of c.in-Some.name.now)) old new c.sync_object-synced.result c.in_ok-was_synced.field-0 c.in_ok-was_synced.ensures.same (c.sync_object-synced.ensures.effect honest))
    c.was_synced.ensures.homes (ap (λ (bytes : List ℕ). slice_index_or bytes 0 0) c.as_bytes.ensures.bytes) small within
