use Rattle.std.proofs.Common.{rules, ◌∙◌}
use Rattle.devices.specs.Device.{files_of}
use Rattle.packed_store.specs.Place.{index_of}
use Rattle.packed_store.proofs.RemovalLemmas.{are_recorded_kept, removed_in}
use Rattle.packed_store.proofs.compaction.drop_first.Goals as goal

pub returns-clause-kept : goal.returns-clause-kept
returns-clause-kept g c =
    removed_in (g.D.Device.honest c.sync_all.new.log.device) (g.D.Device.honest c.remove_segment.new.self.device) (g.D.Device.past c.sync_all.new.log.device) (g.D.Device.past c.remove_segment.new.self.device)
    (index_of c.args.index.now.entries) c.first-first.result c.remove_segment.ensures.honest c.remove_segment.ensures.others (search rules)
    ∙ c.sync_all.ensures.kept

pub returns-clause-there : goal.returns-clause-there
returns-clause-there g c honest all =
    are_recorded_kept c.first-first.result (files_of (g.D.Device.past c.sync_all.new.log.device)) (files_of (g.D.Device.past c.remove_segment.new.self.device))
    (c.remove_segment.ensures.others (c.sync_all.ensures.honest ∙ honest)) (index_of c.args.index.now.entries) (search rules) (c.sync_all.ensures.there honest all)
