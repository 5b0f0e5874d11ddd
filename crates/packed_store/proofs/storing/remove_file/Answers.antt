use Rattle.std.proofs.Common.{refl}
use Rattle.packed_store.specs.Place.{index_of}
use Rattle.packed_store.proofs.ContentLemmas.{absent_is, kept_others, kept_there, removed_is, removed_others, removed_there}
use Rattle.packed_store.proofs.storing.remove_file.Goals as goal

pub returns-in_default-clause-ok : goal.returns-in_default-clause-ok
returns-in_default-clause-ok g c honest there =
    absent_is (g.D.Device.honest c.args.log.now.device) (g.D.Device.past c.args.log.now.device) honest (index_of c.args.index.now.entries) c.args.name c.in_default.ensures

pub returns-in_err-add_removal-clause-others : goal.returns-in_err-add_removal-clause-others
returns-in_err-add_removal-clause-others g c honest there =
    kept_others (g.D.Device.honest c.args.log.now.device) (g.D.Device.honest c.add_removal.new.self.device) (g.D.Device.past c.args.log.now.device) (g.D.Device.past c.add_removal.new.self.device)
    honest c.add_removal.ensures.honest (index_of c.args.index.now.entries) there (c.add_removal.ensures.grows honest) c.args.name (index_of c.args.index.now.entries) refl

pub returns-in_err-add_removal-clause-there : goal.returns-in_err-add_removal-clause-there
returns-in_err-add_removal-clause-there g c honest there =
    kept_there (g.D.Device.honest c.args.log.now.device) (g.D.Device.honest c.add_removal.new.self.device) (g.D.Device.past c.args.log.now.device) (g.D.Device.past c.add_removal.new.self.device)
    honest c.add_removal.ensures.honest (index_of c.args.index.now.entries) there (c.add_removal.ensures.grows honest) (index_of c.args.index.now.entries) refl

pub returns-clause-ok : goal.returns-clause-ok
returns-clause-ok g c honest there =
    removed_is (g.D.Device.honest c.args.log.now.device) (g.D.Device.honest c.add_removal.new.self.device) (g.D.Device.past c.args.log.now.device) (g.D.Device.past c.add_removal.new.self.device)
    honest c.add_removal.ensures.honest (index_of c.args.index.now.entries) there (c.add_removal.ensures.grows honest) c.args.name (index_of c.remove_place.new.index.entries) c.remove_place.ensures

pub returns-clause-others : goal.returns-clause-others
returns-clause-others g c honest there =
    removed_others (g.D.Device.honest c.args.log.now.device) (g.D.Device.honest c.add_removal.new.self.device) (g.D.Device.past c.args.log.now.device) (g.D.Device.past c.add_removal.new.self.device)
    honest c.add_removal.ensures.honest (index_of c.args.index.now.entries) there (c.add_removal.ensures.grows honest) c.args.name (index_of c.remove_place.new.index.entries) c.remove_place.ensures

pub returns-clause-there : goal.returns-clause-there
returns-clause-there g c honest there =
    removed_there (g.D.Device.honest c.args.log.now.device) (g.D.Device.honest c.add_removal.new.self.device) (g.D.Device.past c.args.log.now.device) (g.D.Device.past c.add_removal.new.self.device)
    honest c.add_removal.ensures.honest (index_of c.args.index.now.entries) there (c.add_removal.ensures.grows honest) c.args.name (index_of c.remove_place.new.index.entries) c.remove_place.ensures
