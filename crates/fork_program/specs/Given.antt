-- The tenants that the words give (own): they are added to a host in turn, and see nothing yet.
use Rattle.std.specs.Prelude.{◌≡◌, List, ◌∷◌, ◌++◌, Some, None, fold, ⊤}
use Rattle.std.specs.FinMap.{insert}
use Rattle.fork_command.specs.declared.grant.Grant.{Grant}
use Rattle.fork_host.specs.Adding.{new_view, refusal_to_add}
use Rattle.fork_host.specs.declared.add_error.AddError.{AddError}
use Rattle.fork_host.specs.declared.add_error.AddError.TheVariants as add
use Rattle.fork_host.specs.Shown.{HostState, Trusted, world_of}
use Rattle.fork_model.specs.World.{World}
use Rattle.fork_program.specs.declared.fault.Fault.{Fault}
use Rattle.fork_program.specs.declared.fault.Fault.TheVariants.{Memory, There, TooManyTenants}

-- the world with one more tenant, which sees nothing
abbrev pub with_grant : World → Grant → World
with_grant world grant = insert world grant.tenant (new_view grant.limit)

-- the world with these tenants added
abbrev pub world_with : World → List Grant → World
world_with world grants = fold with_grant world grants

-- why a tenant was not added
abbrev pub IsUnadded : World → Grant → Fault → Type 0
IsUnadded world grant Memory = ⊤
IsUnadded world grant (There tenant) = (tenant ≡ grant.tenant) × (refusal_to_add world grant.tenant grant.limit ≡ Some add.There)
IsUnadded world grant TooManyTenants = refusal_to_add world grant.tenant grant.limit ≡ Some add.TooMany
IsUnadded world grant _ = ⊥

-- each of them may be added after those before it
abbrev pub AreFree : World → List Grant → Type 0
AreFree world grants = (before : List Grant) (grant : Grant) (behind : List Grant) → grants ≡ before ++ grant ∷ behind
    → refusal_to_add (world_with world before) grant.tenant grant.limit ≡ None

-- the first that cannot be added, and why not
pub record IsFirstRefused (world : World) (grants : List Grant) (error : AddError) : Type 0 where
  pub before : List Grant
  pub grant : Grant
  pub behind : List Grant
  pub parts : grants ≡ before ++ grant ∷ behind
  pub free : AreFree world before
  pub refused : refusal_to_add (world_with world before) grant.tenant grant.limit ≡ Some error

-- all of them were added to a host
pub record AreGiven (grants : List Grant) (old new : HostState) : Type 0 where
  pub free : AreFree (world_of old) grants
  pub trusted : Trusted old → Trusted new
  pub shows : world_of new ≡ world_with (world_of old) grants

-- why they were not added
abbrev pub AreUngiven : World → List Grant → Fault → Type 0
AreUngiven world grants Memory = ⊤
AreUngiven world grants (There tenant) = (refused : IsFirstRefused world grants add.There) × (tenant ≡ refused.grant.tenant)
AreUngiven world grants TooManyTenants = IsFirstRefused world grants add.TooMany
AreUngiven world grants _ = ⊥
