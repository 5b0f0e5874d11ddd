use Rattle.std.proofs.Common.{List, ℕ, ap, subst, sym, ◌∙◌}
use Rattle.std.specs.FinMap.{insert}
use Rattle.git_name.specs.Object.{object_name, typed_bytes}
use Rattle.packed_store.specs.declared.place.Place.{Place}
use Rattle.packed_store.specs.Place.{AreRecorded, index_of}
use Rattle.devices.specs.Device.{files_of}
use Rattle.packed_store.proofs.AppendLemmas.{placed_is_written}
use Rattle.packed_store.proofs.ContentLemmas.{kept_others, kept_there, put_is, put_others, put_there}
use Rattle.packed_store.proofs.storing.put_sealed.Goals as goal

pub returns-in_err-make_room-clause-there : goal.returns-in_err-make_room-clause-there
returns-in_err-make_room-clause-there g c honest all =
    subst (λ (es : List (List ℕ × Place)). AreRecorded (files_of (g.D.Device.past c.args.log.now.device)) (index_of es)) (sym c.make_room.ensures) all

pub returns-in_err-place-clause-others : goal.returns-in_err-place-clause-others
returns-in_err-place-clause-others g c honest there =
    kept_others (g.D.Device.honest c.args.log.now.device) (g.D.Device.honest c.add_object.new.self.device) (g.D.Device.past c.args.log.now.device) (g.D.Device.past c.add_object.new.self.device)
    honest c.add_object.ensures.honest (index_of c.args.index.now.entries) there (c.add_object.ensures.grows honest) (object_name c.args.sealed.now) (index_of c.make_room.new.index.entries) (ap index_of c.make_room.ensures)

pub returns-in_err-place-clause-there : goal.returns-in_err-place-clause-there
returns-in_err-place-clause-there g c honest there =
    kept_there (g.D.Device.honest c.args.log.now.device) (g.D.Device.honest c.add_object.new.self.device) (g.D.Device.past c.args.log.now.device) (g.D.Device.past c.add_object.new.self.device)
    honest c.add_object.ensures.honest (index_of c.args.index.now.entries) there (c.add_object.ensures.grows honest) (index_of c.make_room.new.index.entries) (ap index_of c.make_room.ensures)

pub returns-in_err-set_place-clause-others : goal.returns-in_err-set_place-clause-others
returns-in_err-set_place-clause-others g c honest there =
    kept_others (g.D.Device.honest c.args.log.now.device) (g.D.Device.honest c.add_object.new.self.device) (g.D.Device.past c.args.log.now.device) (g.D.Device.past c.add_object.new.self.device)
    honest c.add_object.ensures.honest (index_of c.args.index.now.entries) there (c.add_object.ensures.grows honest) (object_name c.args.sealed.now) (index_of c.set_place.new.index.entries) (c.in_err-set_place.ensures.err ∙ ap index_of c.make_room.ensures)

pub returns-in_err-set_place-clause-there : goal.returns-in_err-set_place-clause-there
returns-in_err-set_place-clause-there g c honest there =
    kept_there (g.D.Device.honest c.args.log.now.device) (g.D.Device.honest c.add_object.new.self.device) (g.D.Device.past c.args.log.now.device) (g.D.Device.past c.add_object.new.self.device)
    honest c.add_object.ensures.honest (index_of c.args.index.now.entries) there (c.add_object.ensures.grows honest) (index_of c.set_place.new.index.entries) (c.in_err-set_place.ensures.err ∙ ap index_of c.make_room.ensures)

pub returns-clause-ok : goal.returns-clause-ok
returns-clause-ok g c honest there =
    put_is (g.D.Device.honest c.args.log.now.device) (g.D.Device.honest c.add_object.new.self.device) (g.D.Device.past c.args.log.now.device) (g.D.Device.past c.add_object.new.self.device)
    honest c.add_object.ensures.honest (index_of c.args.index.now.entries) there (c.add_object.ensures.grows honest) (object_name c.args.sealed.now) (typed_bytes c.args.sealed.now) c.in_ok-place.place (c.in_ok-place.ensures.added honest) (index_of c.set_place.new.index.entries)
    (c.in_ok-set_place.ensures.ok ∙ ap (λ (name : List ℕ). insert (index_of c.make_room.new.index.entries) name c.in_ok-place.place) c.name-name.ensures
    ∙ ap (λ (es : List (List ℕ × Place)). insert (index_of es) (object_name c.args.sealed.now) c.in_ok-place.place) c.make_room.ensures)

pub returns-clause-others : goal.returns-clause-others
returns-clause-others g c honest there =
    put_others (g.D.Device.honest c.args.log.now.device) (g.D.Device.honest c.add_object.new.self.device) (g.D.Device.past c.args.log.now.device) (g.D.Device.past c.add_object.new.self.device)
    honest c.add_object.ensures.honest (index_of c.args.index.now.entries) there (c.add_object.ensures.grows honest) (object_name c.args.sealed.now) (typed_bytes c.args.sealed.now) c.in_ok-place.place (c.in_ok-place.ensures.added honest) (index_of c.set_place.new.index.entries)
    (c.in_ok-set_place.ensures.ok ∙ ap (λ (name : List ℕ). insert (index_of c.make_room.new.index.entries) name c.in_ok-place.place) c.name-name.ensures
    ∙ ap (λ (es : List (List ℕ × Place)). insert (index_of es) (object_name c.args.sealed.now) c.in_ok-place.place) c.make_room.ensures)

pub returns-clause-there : goal.returns-clause-there
returns-clause-there g c honest there =
    put_there (g.D.Device.honest c.args.log.now.device) (g.D.Device.honest c.add_object.new.self.device) (g.D.Device.past c.args.log.now.device) (g.D.Device.past c.add_object.new.self.device)
    honest c.add_object.ensures.honest (index_of c.args.index.now.entries) there (c.add_object.ensures.grows honest) (object_name c.args.sealed.now) (typed_bytes c.args.sealed.now) c.in_ok-place.place (c.in_ok-place.ensures.added honest) (index_of c.set_place.new.index.entries)
    (c.in_ok-set_place.ensures.ok ∙ ap (λ (name : List ℕ). insert (index_of c.make_room.new.index.entries) name c.in_ok-place.place) c.name-name.ensures
    ∙ ap (λ (es : List (List ℕ × Place)). insert (index_of es) (object_name c.args.sealed.now) c.in_ok-place.place) c.make_room.ensures)
    (c.in_ok-place.ensures.placed honest)

pub returns-clause-written : goal.returns-clause-written
returns-clause-written g c honest = placed_is_written (files_of (g.D.Device.past c.add_object.new.self.device)) (object_name c.args.sealed.now) (typed_bytes c.args.sealed.now) c.in_ok-place.place (c.in_ok-place.ensures.placed honest)
