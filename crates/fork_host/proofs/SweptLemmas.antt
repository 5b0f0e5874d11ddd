-- What sweeps alone leave.
use Rattle.std.proofs.Common.{◌≡◌, ℕ, true, IsTrue, List, [], ◌∷◌, ap, ◌∙◌}
use Rattle.fork_request.specs.declared.reply.Reply.{Reply}
use Rattle.fork_request.specs.declared.reply.Reply.TheVariants.{Done, Unchanged, Refused, Failed}
use Rattle.fork_request.specs.declared.host_request.HostRequest.TheVariants.{Sweep}
use Rattle.fork_request.specs.Told.{is_done}
use Rattle.fork_ledger.specs.Swept.{AreSwept, IsSwept}
use Rattle.fork_ledger.specs.Tenants.{VaultState}
use Rattle.fork_host.specs.Shown.{HostState, Trusted}
use Rattle.fork_host.specs.Step.{IsRun}
use Rattle.fork_host.specs.Swept.{AreDone, Tends, sweeps}

-- a sweep that was answered is a slice
swept_one : (most : ℕ) (old new : VaultState) (reply : Reply) → IsTrue old.honest → Tends (Sweep most) old reply new → is_done reply ≡ true → IsSwept most old new
swept_one most old new (Done text) h tends done = record { sweeps = tends.tended.0; kept = tends.kept h }
swept_one most old new Unchanged h tends done = absurd (tends.tended)
swept_one most old new (Refused refusal) h tends done = absurd (cc)
swept_one most old new (Failed fault) h tends done = absurd (cc)

-- and sweeps alone are slices
pub are_swept : (slices : List ℕ) (old new : HostState) (replies : List Reply) → Trusted old → IsRun old (sweeps slices) replies new → AreDone replies → AreSwept slices old.vault new.vault
are_swept [] old new [] trusted along done = ap (λ (s : HostState). s.vault) along
are_swept [] old new (r ∷ replies) trusted along done = absurd along
are_swept (most ∷ slices) old new [] trusted along done = absurd along
are_swept (most ∷ slices) old new (r ∷ replies) trusted along done =
    (along.0.vault, swept_one most old.vault along.0.vault r trusted along.1.tends done.0, are_swept slices along.0 new replies (along.1.honest ∙ trusted) along.2 done.1)
