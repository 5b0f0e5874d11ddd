-- What a piece of an upload does (own).
use Rattle.std.specs.Prelude.{◌≡◌, ℕ, ◌+◌, true, false, nat_lt, List, [], ◌++◌, length}
use Rattle.push_stream.specs.declared.upload_limit.TheConstants.{MAX_UPLOAD}
use Rattle.push_stream.specs.Reading.{Reading}
use Rattle.fork_request.specs.declared.host_fault.HostFault.{HostFault}
use Rattle.fork_request.specs.declared.refusal.Refusal.TheVariants.{StagedTooLong}
use Rattle.fork_request.specs.declared.reply.Reply.{Reply}
use Rattle.fork_request.specs.declared.reply.Reply.TheVariants.{Done, Refused, Failed}
use Rattle.fork_ledger.specs.Tenants.{VaultState}
use Rattle.fork_host.specs.Own.{KeepsStaged, staged_in}
use Rattle.fork_host.specs.Staged.{Came}

pub data IsFed (tenant : List ℕ) (old : Reading) (piece : List ℕ) (before : VaultState) (reply : Reply) (new : Reading) (after : VaultState) : Type 0 where
  -- there is room for it: whatever bytes were received before, these were received too
  Fed : reply ≡ Done [] → nat_lt MAX_UPLOAD (old.count + length piece) ≡ false
      → ((bytes : List ℕ) → Came before.honest bytes old (staged_in before tenant) → Came before.honest (bytes ++ piece) new (staged_in after tenant)) → IsFed tenant old piece before reply new after
  -- there is no room for it
  Full : reply ≡ Refused StagedTooLong → nat_lt MAX_UPLOAD (old.count + length piece) ≡ true → new ≡ old → KeepsStaged tenant before after → IsFed tenant old piece before reply new after
  -- a host fault, which leaves the upload
  Unfed : (fault : HostFault) → reply ≡ Failed fault → new ≡ old → KeepsStaged tenant before after → IsFed tenant old piece before reply new after
