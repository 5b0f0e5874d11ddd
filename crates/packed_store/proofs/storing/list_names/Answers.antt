use Rattle.std.proofs.Common.{sym, ◌∙◌}
use Rattle.packed_store.specs.Place.{index_of}
use Rattle.packed_store.proofs.ContentLemmas.{names_at}
use Rattle.packed_store.proofs.storing.list_names.Goals as goal

pub returns : goal.returns
returns g c honest = c.in_ok-names_in.ensures ∙ sym (names_at (g.D.Device.honest c.args.log.now.device) (g.D.Device.past c.args.log.now.device) (index_of c.args.index.now.entries) honest)
