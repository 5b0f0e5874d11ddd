-- Who asks (own): a tenant, by its name, or the host's own side.
use Rattle.std.specs.Prelude.{ℕ, List, codes}
use Rattle.fork_request.specs.Names.{IsTenantName}
use Rattle.fork_frame.specs.declared.asker.Asker.{Asker}
use Rattle.fork_frame.specs.declared.asker.Asker.TheVariants.{Tenant, Host}

-- the word that a line uses for who asks
abbrev pub asker_word : Asker → List ℕ
asker_word (Tenant name) = name
asker_word Host = codes "@host"

-- a tenant that asks has a tenant's name
abbrev pub IsAsker : Asker → Type 0
IsAsker (Tenant name) = IsTenantName name
IsAsker Host = Unit {0}
