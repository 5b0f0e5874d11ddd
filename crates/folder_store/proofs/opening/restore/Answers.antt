use Rattle.std.proofs.Common.{◌∙◌}
use Rattle.folder_store.proofs.OpeningLemmas.{last_then_ok}
use Rattle.folder_store.proofs.opening.restore.Goals as goal

pub returns-clause-lasts : goal.returns-clause-lasts
returns-clause-lasts g c honest =
    last_then_ok c.put_all_back.result (g.D.Device.past c.args.device.now) (g.D.Device.past c.clear_parts.new.device) (g.D.Device.past c.put_all_back.new.device) (c.in_ok-clear_parts.ensures.lasts honest)
    (c.put_all_back.ensures.lasts (c.clear_parts.ensures.honest ∙ honest))
