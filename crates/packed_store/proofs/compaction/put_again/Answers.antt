use Rattle.std.proofs.Common.{List, ℕ, Some, option_map, sym, subst, ◌∙◌, ap}
use Rattle.std.specs.FinMap.{insert}
use Rattle.devices.specs.Device.{files_of}
use Rattle.packed_store.specs.declared.place.Place.{Place}
use Rattle.packed_store.specs.Contents.{contents_in}
use Rattle.packed_store.specs.Place.{AreRecorded, bytes_at, index_of}
use Rattle.packed_store.proofs.ContentLemmas.{found_at, grown_in, kept_there, moved_in, put_there}
use Rattle.packed_store.proofs.compaction.put_again.Goals as goal

pub returns-in_err-make_room-clause-there : goal.returns-in_err-make_room-clause-there
returns-in_err-make_room-clause-there g c honest all =
    subst (λ (es : List (List ℕ × Place)). AreRecorded (files_of (g.D.Device.past c.args.log.now.device)) (index_of es)) (sym c.make_room.ensures) all

pub returns-in_err-copied-clause-kept : goal.returns-in_err-copied-clause-kept
returns-in_err-copied-clause-kept g c there =
    let old = c.args.log.now.device in
    let new = c.add_file.new.self.device in
    ap (λ (es : List (List ℕ × Place)). contents_in (g.D.Device.honest new) (g.D.Device.past new) (index_of es)) c.make_room.ensures
    ∙ grown_in (g.D.Device.honest old) (g.D.Device.honest new) (g.D.Device.past old) (g.D.Device.past new) (index_of c.args.index.now.entries) c.add_file.ensures.honest there
    c.add_file.ensures.grows

pub returns-in_err-copied-clause-there : goal.returns-in_err-copied-clause-there
returns-in_err-copied-clause-there g c honest there =
    let old = c.args.log.now.device in
    let new = c.add_file.new.self.device in
    kept_there (g.D.Device.honest old) (g.D.Device.honest new) (g.D.Device.past old) (g.D.Device.past new) honest c.add_file.ensures.honest (index_of c.args.index.now.entries) there
    (c.add_file.ensures.grows honest)
    (index_of c.make_room.new.index.entries) (ap index_of c.make_room.ensures)

pub returns-in_err-set_place-clause-kept : goal.returns-in_err-set_place-clause-kept
returns-in_err-set_place-clause-kept g c there =
    let old = c.args.log.now.device in
    let new = c.add_file.new.self.device in
    ap (contents_in (g.D.Device.honest new) (g.D.Device.past new)) (c.in_err-set_place.ensures.err ∙ ap index_of c.make_room.ensures)
    ∙ grown_in (g.D.Device.honest old) (g.D.Device.honest new) (g.D.Device.past old) (g.D.Device.past new) (index_of c.args.index.now.entries) c.add_file.ensures.honest there
    c.add_file.ensures.grows

pub returns-in_err-set_place-clause-there : goal.returns-in_err-set_place-clause-there
returns-in_err-set_place-clause-there g c honest there =
    let old = c.args.log.now.device in
    let new = c.add_file.new.self.device in
    kept_there (g.D.Device.honest old) (g.D.Device.honest new) (g.D.Device.past old) (g.D.Device.past new) honest c.add_file.ensures.honest (index_of c.args.index.now.entries) there
    (c.add_file.ensures.grows honest)
    (index_of c.set_place.new.index.entries) (c.in_err-set_place.ensures.err ∙ ap index_of c.make_room.ensures)

pub returns-clause-kept : goal.returns-clause-kept
returns-clause-kept g c there =
    let old = c.args.log.now.device in
    let new = c.add_file.new.self.device in
    let index = index_of c.args.index.now.entries in
    moved_in (g.D.Device.honest old) (g.D.Device.honest new) (g.D.Device.past old) (g.D.Device.past new) index (index_of c.set_place.new.index.entries) c.args.name c.as_slice.result.now c.in_ok-copied.copied
    c.add_file.ensures.honest there
    c.add_file.ensures.grows
    c.in_ok-copied.ensures.added
    (λ honest. ap Some (c.as_slice.ensures.value ∙ c.in_ok-bytes.ensures honest) ∙ ap (option_map (bytes_at (files_of (g.D.Device.past old)))) c.in-Some.ensures
    ∙ sym (found_at (g.D.Device.honest old) (g.D.Device.past old) index c.args.name honest))
    (c.in_ok-set_place.ensures.ok ∙ ap (λ (es : List (List ℕ × Place)). insert (index_of es) c.args.name c.in_ok-copied.copied) c.make_room.ensures)

pub returns-clause-there : goal.returns-clause-there
returns-clause-there g c honest there =
    let old = c.args.log.now.device in
    let new = c.add_file.new.self.device in
    put_there (g.D.Device.honest old) (g.D.Device.honest new) (g.D.Device.past old) (g.D.Device.past new) honest c.add_file.ensures.honest (index_of c.args.index.now.entries) there
    (c.add_file.ensures.grows honest)
    c.args.name c.as_slice.result.now c.in_ok-copied.copied (c.in_ok-copied.ensures.added honest) (index_of c.set_place.new.index.entries)
    (c.in_ok-set_place.ensures.ok ∙ ap (λ (es : List (List ℕ × Place)). insert (index_of es) c.args.name c.in_ok-copied.copied) c.make_room.ensures)
    (c.in_ok-copied.ensures.placed honest)
