use Rattle.std.proofs.Common.{List, ℕ, ◌∙◌, subst}
use Rattle.devices.specs.Device.{Does, Removed}
use Rattle.fork_program.proofs.BegunLemmas.{log_removed}
use Rattle.fork_program.proofs.upload_log.clear_log.Goals as goal

pub returns-clause-journal : goal.returns-clause-journal
returns-clause-journal g c name text honest named =
    log_removed name text c.args.number (g.J.Device.past c.args.device.now) (g.J.Device.past c.remove-removed.new.self) c.remove-removed.result
    (subst (λ (p : List ℕ). Does (Removed p) (g.J.Device.past c.args.device.now) (g.J.Device.past c.remove-removed.new.self) c.remove-removed.result) (c.as_str.ensures.value ∙ c.in-Ok.ensures) (c.remove-removed.ensures.effect honest)) named
