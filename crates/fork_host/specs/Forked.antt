-- What happens when an offer is forked, once it is known what it holds.
use Rattle.std.specs.Prelude.{◌≡◌, ◌⊎◌, ℕ, ◌≤◌, ◌<◌, [], IsTrue, List, Some, option_map}
use Rattle.std.specs.FinMap.{get, insert}
use Rattle.git_name.specs.Maps.{joined}
use Rattle.git_reftx.specs.Repository.{Repository}
use Rattle.fork_reach.specs.Objects.{use_of}
use Rattle.fork_reach.specs.Source.{Objects}
use Rattle.fork_ledger.specs.Private.{AreAmong, with_adopted}
use Rattle.fork_ledger.specs.Tenants.{VaultState, at_tenant}
use Rattle.fork_request.specs.declared.host_fault.HostFault.{HostFault}
use Rattle.fork_request.specs.declared.host_fault.HostFault.TheVariants.{Memory, Damaged}
use Rattle.fork_request.specs.declared.refusal.Refusal.TheVariants.{OverQuota}
use Rattle.fork_request.specs.declared.reply.Reply.{Reply}
use Rattle.fork_request.specs.declared.reply.Reply.TheVariants.{Done, Refused, Failed}
use Rattle.fork_model.specs.Context.{Context, offered_to}
use Rattle.fork_model.specs.Offer.{Offer}
use Rattle.fork_model.specs.View.{View}
use Rattle.fork_model.specs.World.{World}
use Rattle.fork_host.specs.Own.{visible_in}
use Rattle.fork_host.specs.Shown.{Account}

-- a tenant gets this repository, and sees these objects beside its own
pub data IsForked (tenant copy : List ℕ) (repository : Repository) (objects : Objects) (account now : Account) (old new : VaultState) (reply : Reply) : Type 0 where
  -- they are within the limit, and are seen under their names
  Forked : reply ≡ Done [] → use_of (joined (visible_in old tenant) objects) ≤ account.limit → now ≡ record account { repositories = insert account.repositories copy repository }
      → new.tenants ≡ at_tenant old.tenants tenant (with_adopted objects) → AreAmong objects (visible_in new tenant) → IsForked tenant copy repository objects account now old new reply
  -- they are not, and nothing changes
  Full : reply ≡ Refused OverQuota → account.limit < use_of (joined (visible_in old tenant) objects) → now ≡ account → new.tenants ≡ old.tenants → IsForked tenant copy repository objects account now old new reply
  -- a host fault, which changes nothing: over an honest store only lack of memory
  Unforked : (fault : HostFault) → reply ≡ Failed fault → (fault ≡ Memory) ⊎ (fault ≡ Damaged) → (IsTrue old.honest → fault ≡ Memory) → now ≡ account → new.tenants ≡ old.tenants → IsForked tenant copy repository objects account now old new reply

-- an account has a new repository, as it was offered
pub record HasForked (context : Context) (giver word copy : List ℕ) (account now : Account) : Type 0 where
  pub offer : Offer
  pub stands : get context.offered (giver, word) ≡ Some offer
  pub repositories : now.repositories ≡ insert account.repositories copy offer.repository

-- a tenant of a world has a new repository, as it was offered to it
pub record ForksOffered (old new : World) (tenant giver word copy : List ℕ) : Type 0 where
  pub offer : Offer
  pub stands : get (offered_to old tenant) (giver, word) ≡ Some offer
  pub repositories : option_map (λ (view : View). view.repositories) (get new tenant) ≡ option_map (λ (view : View). insert view.repositories copy offer.repository) (get old tenant)
