-- The names of tenants and of repositories (own): lower-case letters, digits, `-` and `_`, beginning with a letter or
-- digit.
use Rattle.std.specs.Prelude.{◌≡◌, ℕ, ◌≤◌, Bool, true, ◌||◌, ◌&&◌, ◌==◌, nat_le, List, length, slice_index, All}
use Rattle.std.specs.List.{list_all}
use Rattle.fork_request.specs.declared.name.TheConstants.{MAX_REPOSITORY_NAME, MAX_TENANT_NAME}

-- a lower-case letter or a digit
abbrev pub starts_a_name : ℕ → Bool
starts_a_name byte = (nat_le 97 byte && nat_le byte 122) || (nat_le 48 byte && nat_le byte 57)

-- a lower-case letter, a digit, `-` or `_`
abbrev pub stands_in_a_name : ℕ → Bool
stands_in_a_name byte = starts_a_name byte || (byte == 45) || (byte == 95)

-- 1 to `most` bytes, the first of them a letter or a digit
pub record IsPlainName (most : ℕ) (name : List ℕ) : Type 0 where
  pub some : 1 ≤ length name
  pub few : length name ≤ most
  pub starts : starts_a_name (slice_index name 0) ≡ true
  pub bytes : All (λ byte. stands_in_a_name byte ≡ true) name

-- the test of such a name
unfoldable pub is_plain_name : ℕ → List ℕ → Bool
is_plain_name most name = nat_le 1 (length name) && nat_le (length name) most && starts_a_name (slice_index name 0) && list_all stands_in_a_name name

-- a tenant's name
abbrev pub IsTenantName : List ℕ → Type 0
IsTenantName = IsPlainName MAX_TENANT_NAME

-- a repository's name
abbrev pub IsRepositoryName : List ℕ → Type 0
IsRepositoryName = IsPlainName MAX_REPOSITORY_NAME
