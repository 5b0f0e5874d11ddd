-- The two texts of states (own): lines, each ended by LF. Names of references are expanded into the namespace TENANT/REPO (gitnamespaces(7)).
use Rattle.std.specs.Prelude.{◌≡◌, ℕ, List, [], ◌∷◌, ◌++◌, ◌⊎◌, codes, map, decimal, ⊤}
use Rattle.std.specs.List.{AllByRecursion, flat_map}
use Rattle.std.specs.FinMap.{entries}
use Rattle.hex.specs.Hex.{encode_lower}
use Rattle.git_name.specs.Text.{ended}
use Rattle.git_refname.specs.Namespace.{expanded}
use Rattle.git_reftx.specs.Repository.{Repository, main_branch}
use Rattle.state_text.specs.declared.version.Version.{Version}
use Rattle.state_text.specs.declared.version.Version.TheVariants.{One, Two}
use Rattle.state_text.specs.Offer.{Offer, offer_words}
use Rattle.state_text.specs.States.{TenantState, States, IsStates}

-- the first line
abbrev pub version_line : Version → List ℕ
version_line One = codes "forkhost state 1"
version_line Two = codes "forkhost state 2"

abbrev pub tenant_line : List ℕ → ℕ → List ℕ
tenant_line name limit = codes "tenant " ++ name ++ codes " " ++ decimal limit

abbrev pub repository_line : List ℕ → List ℕ
repository_line name = codes "repo " ++ name

abbrev pub offer_line : List ℕ → List ℕ → List ℕ
offer_line receiver name = codes "offer " ++ offer_words receiver name

abbrev pub line_of_head : List ℕ → List ℕ → List ℕ → List ℕ
line_of_head tenant repository head = codes "head " ++ expanded (tenant ∷ repository ∷ []) ++ head

abbrev pub reference_line : List ℕ → List ℕ → List ℕ × List ℕ → List ℕ
reference_line tenant repository (name, target) = codes "ref " ++ encode_lower target ++ codes " " ++ expanded (tenant ∷ repository ∷ []) ++ name

abbrev pub seen_line : List ℕ → List ℕ
seen_line name = codes "see " ++ encode_lower name

-- HEAD is written from version 2 on
abbrev pub head_lines : Version → List ℕ → List ℕ → List ℕ → List (List ℕ)
head_lines One tenant repository head = []
head_lines Two tenant repository head = line_of_head tenant repository head ∷ []

-- HEAD, and the references by name
abbrev pub inner_lines : Version → List ℕ → List ℕ → Repository → List (List ℕ)
inner_lines version tenant name repository = head_lines version tenant name repository.head ++ map (reference_line tenant name) (entries repository.references)

-- a repository, and what is in it
abbrev pub repository_lines : Version → List ℕ → List ℕ × Repository → List (List ℕ)
repository_lines version tenant (name, repository) = repository_line name ∷ inner_lines version tenant name repository

-- an offer and its content, written as the giver's repository is
abbrev pub offer_lines : Version → List ℕ → Offer → List (List ℕ)
offer_lines version giver offer = offer_line offer.receiver offer.name ∷ inner_lines version giver offer.name offer.repository

-- a tenant, its repositories, the names of the objects that it sees, and its offers
abbrev pub tenant_lines : Version → TenantState → List (List ℕ)
tenant_lines version tenant =
    tenant_line tenant.name tenant.limit
    ∷ (flat_map (repository_lines version tenant.name) tenant.repositories
    ++ (map seen_line tenant.seen
    ++ flat_map (offer_lines version tenant.name) tenant.offers))

abbrev pub state_lines : Version → States → List (List ℕ)
state_lines version states = version_line version ∷ (flat_map (tenant_lines version) states ++ codes "end" ∷ [])

-- the one spelling in this version
unfoldable pub state_text : Version → States → List ℕ
state_text version states = flat_map ended (state_lines version states)

-- each HEAD names `refs/heads/main`, and no offer was made
pub record FitsVersionOne (tenant : TenantState) : Type 0 where
  pub heads : AllByRecursion (λ repository. repository.1.head ≡ main_branch) tenant.repositories
  pub no_offers : tenant.offers ≡ []

-- what a version can express: version 1 no other HEAD and no offers, version 2 everything
abbrev pub VersionTells : Version → States → Type 0
VersionTells One states = AllByRecursion FitsVersionOne states
VersionTells Two states = ⊤

-- the text is that of these states, in this version
pub record IsTextIn (version : Version) (states : States) (text : List ℕ) : Type 0 where
  pub right : IsStates states
  pub tells : VersionTells version states
  pub spelled : text ≡ state_text version states

-- version 1, in which each HEAD names `refs/heads/main` and there are no offers
abbrev pub IsStateText1 : States → List ℕ → Type 0
IsStateText1 = IsTextIn One

-- version 2, which `write` gives
abbrev pub IsStateText2 : States → List ℕ → Type 0
IsStateText2 = IsTextIn Two

-- a state text is one of either version
abbrev pub IsStateText : States → List ℕ → Type 0
IsStateText states text = IsStateText1 states text ⊎ IsStateText2 states text

-- a text has one value, whatever its version
abbrev pub OneValue : Type 0
OneValue = (states others : States) (text : List ℕ) → IsStateText states text → IsStateText others text → states ≡ others
