use Rattle.std.proofs.Common.{◌≡◌, IsTrue, Some, length, option_map, subst, sym, ◌∙◌}
use Rattle.std.specs.FinMap.{get}
use Rattle.devices.specs.Device.{files_of}
use Rattle.fork_program.proofs.RestoredLemmas.{restored_of}
use Rattle.fork_program.specs.Saving.{IsRestoredOf, IsUnfailed}
use Rattle.fork_program.proofs.restored.loaded_host.Goals as goal
use Rattle.host_folder.specs.State.{state_file}

pub returns-in-Ok-clause-current : goal.returns-in-Ok-clause-current
returns-in-Ok-clause-current g c newest =
    let same = c.new-text.ensures.0 in
    let read : IsRestoredOf c.in-Ok.host c.in-Ok.name (g.D.Device.honest c.args.device) (g.D.Device.past c.args.device) =
    subst (λ d. IsRestoredOf c.in-Ok.host c.in-Ok.name (g.D.Device.honest d) (g.D.Device.past d)) same
    (restored_of c.in-Ok.host c.in-Ok.name c.in-Ok.version _ _ (g.D.Device.honest c.new-text.result.device.now) (g.D.Device.past c.new-text.result.device.now) c.new-text.result.path.now c.new-text.result.at c.args.len _
    (c.is_newest-is_current.ensures newest) c.in-Ok.ensures.store.honest c.in-Ok.ensures.loaded c.in-Ok.ensures.text (c.new-text.ensures.1 ∙ c.state_path.ensures) c.new-text.ensures.2
    (subst (λ d. IsTrue (g.D.Device.honest d) → IsUnfailed (g.D.Device.past d)) (sym same) c.requires.unfailed)
    (subst (λ d. IsTrue (g.D.Device.honest d) → option_map length (get (files_of (g.D.Device.past d)) state_file) ≡ Some c.args.len) (sym same) c.requires.there)) in
    subst (λ n. IsRestoredOf c.in-Ok.host n (g.D.Device.honest c.args.device) (g.D.Device.past c.args.device)) (sym c.read-state.ensures.1) read
