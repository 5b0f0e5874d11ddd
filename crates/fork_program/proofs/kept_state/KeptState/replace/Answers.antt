use Rattle.std.proofs.Common.{◌≡◌, ◌≢◌, ◌⊎◌, inl, inr, Some}
use Rattle.devices.specs.Parts.{IsSure}
use Rattle.fork_program.proofs.SavingLemmas.{either_name}
use Rattle.fork_program.proofs.kept_state.KeptState.replace.Goals as goal
use Rattle.host_folder.specs.State.{state_file}

pub returns-clause-settles : goal.returns-clause-settles
returns-clause-settles g c text before first honest sure written unfailed = by (either_name c.standing-standing.result c.args.draft.name)
  where
    by : (c.standing-standing.result ≡ Some c.args.draft.name) ⊎ (c.standing-standing.result ≢ Some c.args.draft.name) → IsSure (g.D.Device.past c.put.new.device) state_file before ⊎ IsSure (g.D.Device.past c.put.new.device) state_file (Some text)
    by (inl same) = inl (c.in_ok-settled.ensures.stays text before first honest same sure written)
    by (inr differs) = inr (c.in_ok-settled.ensures.placed text first honest differs written unfailed)
