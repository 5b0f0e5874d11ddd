-- What a version can express of states, with one item more or less.
use Rattle.std.proofs.Common.{◌≡◌, ℕ, true, false, List, [], ◌∷◌, ◌++◌, refl, sym, subst, ◌∙◌}
use Rattle.std.specs.Prelude.{⊤}
use Rattle.git_reftx.specs.Repository as git
use Rattle.git_reftx.specs.Repository.{main_branch, new_repository}
use Rattle.state_text.specs.declared.place.Place.{Place}
use Rattle.state_text.specs.declared.place.Place.TheVariants.{Own, Offered}
use Rattle.state_text.specs.declared.version.Version.{Version}
use Rattle.state_text.specs.declared.version.Version.TheVariants.{One, Two}
use Rattle.state_text.specs.Adding.{fresh, with_seen}
use Rattle.state_text.specs.Place.{with_at}
use Rattle.state_text.specs.States.{States, TenantState}
use Rattle.state_text.specs.Taking.{Adds, AddsPlace, Goes, HasJustBegun, IsRightSoFar, Taken, Tenant, Repository, Head, Reference, Seen, Offer, awaits_head}
use Rattle.state_text.specs.States.{IsStates}
use Rattle.state_text.specs.Text.{FitsVersionOne, VersionTells}
use Rattle.state_text.proofs.BehindLemmas.{each_behind, each_front, each_last}
use Rattle.state_text.proofs.PlaceLemmas.{never_nothing}

-- what a version can express of one tenant
abbrev pub TellsOne : Version → TenantState → Type 0
TellsOne One tenant = FitsVersionOne tenant
TellsOne Two tenant = ⊤

pub tells_less : (version : Version) (before : States) (tenant : TenantState) → VersionTells version (before ++ tenant ∷ []) → VersionTells version before
tells_less One before tenant tells = each_front FitsVersionOne before tenant tells
tells_less Two before tenant tells = tt

pub tells_last : (version : Version) (before : States) (tenant : TenantState) → VersionTells version (before ++ tenant ∷ []) → TellsOne version tenant
tells_last One before tenant tells = each_last FitsVersionOne before tenant tells
tells_last Two before tenant tells = tt

pub tells_behind : (version : Version) (before : States) (tenant : TenantState) → VersionTells version before → TellsOne version tenant → VersionTells version (before ++ tenant ∷ [])
tells_behind One before tenant tells one = each_behind FitsVersionOne before tenant tells one
tells_behind Two before tenant tells one = tt

pub tells_nothing : (version : Version) → VersionTells version []
tells_nothing One = tt
tells_nothing Two = tt

pub tells_fresh : (version : Version) (name : List ℕ) (limit : ℕ) → TellsOne version (fresh name limit)
tells_fresh One name limit = record { heads = tt; no_offers = refl }
tells_fresh Two name limit = tt

pub tells_seen : (version : Version) (tenant : TenantState) (name : List ℕ) → TellsOne version tenant → TellsOne version (with_seen tenant name)
tells_seen One tenant name tells = record { heads = tells.heads; no_offers = tells.no_offers }
tells_seen Two tenant name tells = tt

-- a tenant can also be expressed without its last item
pub tells_before : (version : Version) (tenant : TenantState) (place : Place) (repository : git.Repository) → TellsOne version (with_at tenant place repository) → TellsOne version tenant
tells_before One tenant (Own name) repository tells = record { heads = each_front (λ r. r.1.head ≡ main_branch) tenant.repositories (name, repository) tells.heads; no_offers = tells.no_offers }
tells_before One tenant (Offered receiver name) repository tells = absurd (never_nothing tenant.offers _ tells.no_offers)
tells_before Two tenant place repository tells = tt

-- and with another one in its place that has the same HEAD
pub tells_changed : (version : Version) (tenant : TenantState) (place : Place) (old new : git.Repository) → new.head ≡ old.head → TellsOne version (with_at tenant place old) → TellsOne version (with_at tenant place new)
tells_changed One tenant (Own name) old new same tells = record {
  heads = each_behind (λ r. r.1.head ≡ main_branch) tenant.repositories (name, new) (each_front (λ r. r.1.head ≡ main_branch) tenant.repositories (name, old) tells.heads)
      (same ∙ each_last (λ r. r.1.head ≡ main_branch) tenant.repositories (name, old) tells.heads);
  no_offers = tells.no_offers;
}
tells_changed One tenant (Offered receiver name) old new same tells = absurd (never_nothing tenant.offers _ tells.no_offers)
tells_changed Two tenant place old new same tells = tt

-- in version 1 each repository has HEAD main
pub tells_main : (tenant : TenantState) (place : Place) (repository : git.Repository) → FitsVersionOne (with_at tenant place repository) → repository.head ≡ main_branch
tells_main tenant (Own name) repository tells = each_last (λ r. r.1.head ≡ main_branch) tenant.repositories (name, repository) tells.heads
tells_main tenant (Offered receiver name) repository tells = absurd (never_nothing tenant.offers _ tells.no_offers)

-- each version can express a new repository
pub tells_new : (version : Version) (tenant : TenantState) (name : List ℕ) → TellsOne version tenant → TellsOne version (with_at tenant (Own name) new_repository)
tells_new One tenant name tells = record { heads = each_behind (λ r. r.1.head ≡ main_branch) tenant.repositories (name, new_repository) tells.heads refl; no_offers = tells.no_offers }
tells_new Two tenant name tells = tt

-- a version that has HEADs can express everything
pub tells_all : (version : Version) (states : States) → awaits_head version ≡ true → VersionTells version states
tells_all One states is = absurd (cc)
tells_all Two states is = tt

-- the last tenant changes, and the version can still express it
tells_last_changed : (version : Version) (before old new : States) (tenant next : TenantState) → old ≡ before ++ tenant ∷ [] → new ≡ before ++ next ∷ [] → (TellsOne version tenant → TellsOne version next) → VersionTells version old → VersionTells version new
tells_last_changed version before old new tenant next was is goes tells =
    let here = subst (VersionTells version) was tells in
    subst (VersionTells version) (sym is) (tells_behind version before next (tells_less version before tenant here) (goes (tells_last version before tenant here)))

tells_more : (version : Version) (old new : Taken) (line : List ℕ) → Adds version old line new → VersionTells version old.states → VersionTells version new.states
tells_more version old new line (Head told goes says) tells = tells_all version new.states told
tells_more version old new line (Tenant rest is goes adds) tells = subst (VersionTells version) (sym adds.added) (tells_behind version old.states (fresh adds.name adds.limit) tells (tells_fresh version adds.name adds.limit))
tells_more version old new line (Repository rest is goes adds) tells =
    tells_last_changed version adds.before old.states new.states adds.tenant (with_at adds.tenant (Own rest) new_repository) adds.was adds.added (tells_new version adds.tenant rest) tells
tells_more version old new line (Reference rest is goes adds) tells =
    tells_last_changed version adds.before old.states new.states (with_at adds.tenant adds.place adds.repository) (with_at adds.tenant adds.place adds.next) adds.was adds.added
    (tells_changed version adds.tenant adds.place adds.repository adds.next adds.more.head) tells
tells_more version old new line (Seen rest is goes adds) tells =
    tells_last_changed version adds.before old.states new.states adds.tenant (with_seen adds.tenant adds.name) adds.was adds.added (tells_seen version adds.tenant adds.name) tells
tells_more version old new line (Offer rest is goes adds) tells = tells_all version new.states adds.told

begun_not : (version : Version) (old new : Taken) → Goes false old false new → new.awaits ≡ true → (awaits_head version ≡ true) × HasJustBegun new.states
begun_not version old new goes is = absurd (let bad : true ≡ false = sym is ∙ goes.is in cc)

begun_at : (old new : States) (place : Place) → AddsPlace old place new → HasJustBegun new
begun_at old new place adds = record { before = adds.before; tenant = adds.tenant; place = place; last = adds.last; is = adds.added }

begun_more : (version : Version) (old new : Taken) (line : List ℕ) → Adds version old line new → new.awaits ≡ true → (awaits_head version ≡ true) × HasJustBegun new.states
begun_more version old new line (Head told goes says) is = absurd (let bad : true ≡ false = sym is ∙ goes.is in cc)
begun_more version old new line (Tenant rest line_is goes adds) is = begun_not version old new goes is
begun_more version old new line (Repository rest line_is goes adds) is = (sym goes.is ∙ is, begun_at old.states new.states (Own rest) adds)
begun_more version old new line (Reference rest line_is goes adds) is = begun_not version old new goes is
begun_more version old new line (Seen rest line_is goes adds) is = begun_not version old new goes is
begun_more version old new line (Offer rest line_is goes adds) is = (adds.told, begun_at old.states new.states (Offered adds.receiver adds.name) adds.begins)

-- after one more line, what was taken is still right
pub taken_more : (version : Version) (old new : Taken) (line : List ℕ) → Adds version old line new → IsRightSoFar version old → IsStates new.states → IsRightSoFar version new
taken_more version old new line adds was right = record { right = right; tells = tells_more version old new line adds was.tells; begun = begun_more version old new line adds }

-- states whose lines were all taken
pub all_taken : (version : Version) (states : States) → IsStates states → VersionTells version states → IsRightSoFar version (record { states = states; awaits = false })
all_taken version states right tells = record { right = right; tells = tells; begun = λ is. absurd (cc) }

-- version 1 can express no offer
pub offered_plain : (tenant : TenantState) (receiver name : List ℕ) (repository : git.Repository) → FitsVersionOne (with_at tenant (Offered receiver name) repository) → ⊥
offered_plain tenant receiver name repository plain = never_nothing tenant.offers _ plain.no_offers

-- a tenant can be expressed whatever it sees
pub unseen_told : (version : Version) (tenant : TenantState) (seen : List (List ℕ)) → TellsOne version tenant → TellsOne version (record { name = tenant.name; limit = tenant.limit; repositories = tenant.repositories; seen = seen; offers = tenant.offers })
unseen_told One tenant seen tells = record { heads = tells.heads; no_offers = tells.no_offers }
unseen_told Two tenant seen tells = tt

-- in a version without HEADs, each HEAD is main
pub main_head : (version : Version) (tenant : TenantState) (place : Place) (repository : git.Repository) → awaits_head version ≡ false → TellsOne version (with_at tenant place repository) → repository.head ≡ main_branch
main_head One tenant place repository is tells = tells_main tenant place repository tells
main_head Two tenant place repository is tells = absurd (cc)
