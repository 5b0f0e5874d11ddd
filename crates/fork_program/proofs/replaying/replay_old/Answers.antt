use Rattle.std.proofs.Common.{ap, subst, ◌∙◌}
use Rattle.std.specs.FinMap.{get}
use Rattle.devices.specs.Device.{files_of}
use Rattle.devices.specs.Source.{bytes_behind}
use Rattle.fork_program.specs.Repeating.{IsOldRepeated}
use Rattle.fork_program.proofs.RepeatingLemmas.{no_old, old_served}
use Rattle.fork_program.proofs.replaying.replay_old.Goals as goal

pub returns-in-Ok-None-clause-repeated : goal.returns-in-Ok-None-clause-repeated
returns-in-Ok-None-clause-repeated g c honest =
    subst (λ path. IsOldRepeated (get (files_of (g.D.Device.past c.args.device.now)) path) c.args.host.now c.args.host.now c.counted.result.count) (c.as_str.ensures.value ∙ c.in-Ok.ensures)
    (no_old c.in-Ok-None.field-0 _ _ _ (c.in-Ok-None.ensures.there honest) c.in-Ok-None.field-0-is c.counted.ensures.count)

pub returns-clause-repeated : goal.returns-clause-repeated
returns-clause-repeated g c honest =
    let reader = c.in-Ok-Some.reader in
    let device = c.args.device.now in
    let at = rw c.in-Ok-Some.field-0-is at c.in-Ok-Some.ensures.reader in
    let bytes =
    ap (λ d. bytes_behind (g.D.Device.honest d) (g.D.Device.past d) reader.path.now reader.at) at.0
    ∙ ap (λ p. bytes_behind (g.D.Device.honest device) (g.D.Device.past device) p reader.at) at.1
    ∙ ap (λ n. bytes_behind (g.D.Device.honest device) (g.D.Device.past device) c.as_str.result.now n) at.2 in
    subst (λ path. IsOldRepeated (get (files_of (g.D.Device.past device)) path) c.args.host.now c.repeat_frames.new.host c.counted-2.result.count) (c.as_str.ensures.value ∙ c.in-Ok.ensures)
    (old_served (g.D.Device.honest device) (g.D.Device.past device) c.as_str.result.now c.in-Ok-Some.field-0 reader _ _ _ _ _ honest bytes
    (c.in-Ok-Some.ensures.there honest) c.in-Ok-Some.field-0-is c.in_ok-count.ensures.again c.counted-2.ensures.count)
