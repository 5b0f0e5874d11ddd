-- The words that name tenants on the command line (own): TENANT=LIMIT.
use Rattle.std.specs.Prelude.{◌≡◌, ◌≢◌, ℕ, All, List, ◌∷◌, ◌++◌, decimal, map}
use Rattle.fork_request.specs.Names.{IsTenantName}
use Rattle.fork_command.specs.declared.grant.Grant.{Grant}
use Rattle.fork_command.specs.declared.error.CommandError.{CommandError}
use Rattle.fork_command.specs.declared.error.CommandError.TheVariants.{Help, Usage, BadTenant, Memory}

-- the tenant's name, `=`, and the limit in decimal
abbrev pub grant_word : Grant → List ℕ
grant_word grant = grant.tenant ++ 61 ∷ decimal grant.limit

-- the tenant has a tenant's name; a grant's limit is always allowed
abbrev pub IsGrant : Grant → Type 0
IsGrant grant = IsTenantName grant.tenant

-- the words are these grants, in order
pub record AreGrants (grants : List Grant) (words : List (List ℕ)) : Type 0 where
  pub right : All IsGrant grants
  pub spelled : words ≡ map grant_word grants

-- this is the first of the words that is not a grant
pub record IsFirstBad (word : List ℕ) (words : List (List ℕ)) : Type 0 where
  pub before : List Grant
  pub behind : List (List ℕ)
  pub right : All IsGrant before
  pub parts : words ≡ map grant_word before ++ word ∷ behind
  pub bad : (grant : Grant) → IsGrant grant → word ≢ grant_word grant

-- why the words are not grants
abbrev pub IsBadGrant : List (List ℕ) → CommandError → Type 0
IsBadGrant words (Help error) = ⊥
IsBadGrant words (Usage error) = ⊥
IsBadGrant words (BadTenant word) = IsFirstBad word.now words
IsBadGrant words Memory = Unit {0}
