-- What a host shows: each tenant's account, and what the vault shows that tenant.
use Rattle.std.specs.Prelude.{◌≡◌, ℕ, IsTrue, List, Option, Some, map, option_map, refl}
use Rattle.std.specs.Coded.{Coded, code_by, coded×, coded_ℕ, coded_option}
use Rattle.std.specs.FinMap.{FinMap, code, contains_key, entries, from_sorted, get}
use Rattle.git_name.specs.Name.{name_cmp}
use Rattle.git_name.specs.Text.{bytes_code}
use Rattle.git_reftx.specs.Repository.{repository_code}
use Rattle.push_stream.specs.OpenUpload.{reading_code}
use Rattle.push_stream.specs.Reading.{Reading}
use Rattle.fork_ledger.specs.Private.{Private}
use Rattle.fork_ledger.specs.Tenants.{VaultState, private_of, vault_code, with_durability}
use Rattle.fork_model.specs.Sound.{IsOrderlyWorld, IsRightWorld}
use Rattle.fork_model.specs.Uploads.{upload_among}
use Rattle.fork_model.specs.View.{View, Repositories}
use Rattle.fork_model.specs.World.{World}
use Rattle.fork_host.specs.Made.{Made, made_code, made_shown}
use Rattle.fork_host.specs.Own.{staged_in}
use Rattle.fork_host.specs.Staged.{IsStaged}

-- what a host keeps of a tenant besides its objects; of an offer its repository, and of an open upload what is known of its bytes
pub record Account : Type 0 where
  pub repositories : Repositories
  pub made : Made
  pub upload : Option Reading
  pub limit : ℕ

abbrev pub Accounts : Type 0
Accounts = FinMap name_cmp Account

pub record HostState : Type 0 where
  pub accounts : Accounts
  pub vault : VaultState

-- the state of these accounts over a vault
abbrev pub state_of : Accounts → VaultState → HostState
state_of accounts vault = record { accounts = accounts; vault = vault }

-- nothing of the host changed, but what may be undone of its store
abbrev pub IsSameHost : HostState → HostState → Type 0
IsSameHost old new = new ≡ state_of old.accounts (with_durability new.vault.durability old.vault)

-- the view of a tenant of this account that has these private maps
abbrev pub seen_by : Account → Private → View
seen_by account own = record {
  repositories = account.repositories;
  made = made_shown own.visible account.made;
  objects = own.visible;
  upload = option_map (upload_among own.staged) account.upload;
  limit = account.limit;
}

-- the view of a tenant of this account over a vault
abbrev pub shown : Account → VaultState → List ℕ → View
shown account vault tenant = seen_by account (private_of vault.tenants tenant)

-- a tenant and its view
abbrev pub entry_shown : VaultState → List ℕ × Account → List ℕ × View
entry_shown vault entry = (entry.0, shown entry.1 vault entry.0)

-- the world that a state shows
unfoldable pub world_of : HostState → World
world_of state = from_sorted (map (entry_shown state.vault) (entries state.accounts))

-- the store returns what was written to it
abbrev pub Trusted : HostState → Type 0
Trusted state = IsTrue state.vault.honest

-- between requests each tenant has staged exactly what was received of its open upload: nothing if its bytes are wrong, and nothing
-- if it has no open upload
abbrev pub StagesUploads : HostState → Type 0
StagesUploads state = (tenant : List ℕ) (account : Account) → get state.accounts tenant ≡ Some account → IsStaged state.vault.honest account.upload (staged_in state.vault tenant)

-- the world is in order, and right if the store is trusted; the vault has the tenants of the accounts, each with what its open
-- upload has staged
pub record IsWhole (state : HostState) : Type 0 where
  pub orderly : IsOrderlyWorld (world_of state)
  pub right : Trusted state → IsRightWorld (world_of state)
  pub there : (tenant : List ℕ) → contains_key state.vault.tenants tenant ≡ contains_key state.accounts tenant
  pub staged : StagesUploads state

-- accounts and states have codes, so that they can be a model's value
abbrev pub account_code : Coded Account
account_code =
    code_by (Repositories × (Made × (Option Reading × ℕ))) (coded× (code bytes_code repository_code) (coded× made_code (coded× (coded_option reading_code) coded_ℕ)))
    (λ a. (a.repositories, (a.made, (a.upload, a.limit)))) (λ p. record { repositories = p.0; made = p.1.0; upload = p.1.1.0; limit = p.1.1.1 }) (λ _. refl)

abbrev pub host_code : Coded HostState
host_code = code_by (Accounts × VaultState) (coded× (code bytes_code account_code) vault_code) (λ s. (s.accounts, s.vault)) (λ p. record { accounts = p.0; vault = p.1 }) (λ _. refl)
