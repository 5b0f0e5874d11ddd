use Rattle.std.proofs.Common.{Some, option_map, sym, ap, ◌∙◌}
use Rattle.devices.specs.Device.{files_of}
use Rattle.packed_store.specs.Place.{bytes_at, index_of}
use Rattle.packed_store.proofs.ContentLemmas.{found_at}
use Rattle.packed_store.proofs.storing.read_file.Goals as goal

pub returns-in_default : goal.returns-in_default
returns-in_default g c honest =
    ap (option_map (bytes_at (files_of (g.D.Device.past c.args.log.now.device)))) c.in_default.ensures
    ∙ sym (found_at (g.D.Device.honest c.args.log.now.device) (g.D.Device.past c.args.log.now.device) (index_of c.args.index.now.entries) c.args.name honest)

pub returns : goal.returns
returns g c honest =
    ap Some (c.in_ok-bytes.ensures honest) ∙ ap (option_map (bytes_at (files_of (g.D.Device.past c.args.log.now.device)))) c.in-Some.ensures
    ∙ sym (found_at (g.D.Device.honest c.args.log.now.device) (g.D.Device.past c.args.log.now.device) (index_of c.args.index.now.entries) c.args.name honest)
