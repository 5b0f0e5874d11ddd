-- How each request is spelled (own): a line of words, LF, and for some requests a body.
use Rattle.std.specs.Prelude.{◌≡◌, ◌≢◌, ℕ, ◌≤◌, List, ◌++◌, None, Some, length, All, codes, decimal}
use Rattle.std.specs.List.{flat_map}
use Rattle.hex.specs.Hex.{encode_lower}
use Rattle.git_name.specs.Name.{IsName}
use Rattle.fork_request.specs.Asked.{Ask, Inits, Drops, Forks, Pushes, SendsPart, EndsParts, DropsParts, Updates, SetsHead, MakesOffer, Withdraws, ForksOffer, AsksObject, AsksTree, AsksRevisions, AsksBases, AsksReferences, AsksHead, AsksOffers, AsksRepositories, Fetches, AsksUse, Prunes, NoRequest}
use Rattle.fork_request.specs.declared.host_request.HostRequest.{HostRequest}
use Rattle.fork_request.specs.declared.host_request.HostRequest.TheVariants.{Sweep, Collect, Census, Fsck, Tenants, Bad}
use Rattle.fork_request.specs.declared.host_request.TheConstants.{MAX_SWEEP}

-- a word of a line: at least one byte, none of them SP or LF
pub record IsWord (word : List ℕ) : Type 0 where
  pub some : 1 ≤ length word
  pub no_space : All (λ byte. byte ≢ 32) word
  pub no_line_end : All (λ byte. byte ≢ 10) word

-- an item: a word, and not `^` alone
pub record IsItem (item : List ℕ) : Type 0 where
  pub word : IsWord item
  pub more : item ≢ codes "^"

-- at least one item
pub record AreItems (items : List (List ℕ)) : Type 0 where
  pub some : 1 ≤ length items
  pub each : All IsItem items

-- the words, each after a SP
abbrev pub behind_spaces : List (List ℕ) → List ℕ
behind_spaces words = flat_map (λ word. codes " " ++ word) words

-- the payload that asks for this; no payload spells what is not a request
abbrev pub Spells : Ask → List ℕ → Type 0
Spells (Inits repository) payload = IsWord repository × (payload ≡ codes "init " ++ repository ++ codes "\n")
Spells (Drops repository) payload = IsWord repository × (payload ≡ codes "drop " ++ repository ++ codes "\n")
Spells (Forks source copy) payload = IsWord source × IsWord copy × (payload ≡ codes "fork " ++ source ++ codes " " ++ copy ++ codes "\n")
Spells (Pushes repository body) payload = IsWord repository × (payload ≡ codes "push " ++ repository ++ codes "\n" ++ body)
Spells (SendsPart body) payload = payload ≡ codes "part\n" ++ body
Spells (EndsParts repository) payload = IsWord repository × (payload ≡ codes "part-end " ++ repository ++ codes "\n")
Spells DropsParts payload = payload ≡ codes "part-drop\n"
Spells (Updates repository body) payload = IsWord repository × (payload ≡ codes "update-refs " ++ repository ++ codes "\n" ++ body)
Spells (SetsHead repository reference) payload = IsWord repository × IsWord reference × (payload ≡ codes "set-head " ++ repository ++ codes " " ++ reference ++ codes "\n")
Spells (MakesOffer repository receiver) payload = IsWord repository × IsWord receiver × (payload ≡ codes "offer " ++ repository ++ codes " " ++ receiver ++ codes "\n")
Spells (Withdraws repository receiver) payload = IsWord repository × IsWord receiver × (payload ≡ codes "withdraw " ++ repository ++ codes " " ++ receiver ++ codes "\n")
Spells (ForksOffer giver repository copy) payload = IsWord giver × IsWord repository × IsWord copy × (payload ≡ codes "fork-offer " ++ giver ++ codes " " ++ repository ++ codes " " ++ copy ++ codes "\n")
Spells (AsksObject name) payload = IsName name × (payload ≡ codes "cat-file " ++ encode_lower name ++ codes "\n")
Spells (AsksTree name) payload = IsName name × (payload ≡ codes "ls-tree " ++ encode_lower name ++ codes "\n")
Spells (AsksRevisions repository items) payload = IsWord repository × AreItems items × (payload ≡ codes "rev-list " ++ repository ++ behind_spaces items ++ codes "\n")
Spells (AsksBases repository first second) payload = IsWord repository × IsWord first × IsWord second × (payload ≡ codes "merge-base " ++ repository ++ codes " " ++ first ++ codes " " ++ second ++ codes "\n")
Spells (AsksReferences repository None) payload = IsWord repository × (payload ≡ codes "for-each-ref " ++ repository ++ codes "\n")
Spells (AsksReferences repository (Some prefix)) payload = IsWord repository × IsWord prefix × (payload ≡ codes "for-each-ref " ++ repository ++ codes " " ++ prefix ++ codes "\n")
Spells (AsksHead repository) payload = IsWord repository × (payload ≡ codes "head " ++ repository ++ codes "\n")
Spells AsksOffers payload = payload ≡ codes "offers\n"
Spells AsksRepositories payload = payload ≡ codes "repos\n"
Spells (Fetches repository items) payload = IsWord repository × AreItems items × (payload ≡ codes "fetch " ++ repository ++ behind_spaces items ++ codes "\n")
Spells AsksUse payload = payload ≡ codes "quota\n"
Spells Prunes payload = payload ≡ codes "prune\n"
Spells NoRequest payload = ⊥

-- the payload that asks this of the host itself; no payload spells what is not a request
abbrev pub HostSpells : HostRequest → List ℕ → Type 0
HostSpells (Sweep most) payload = (most ≤ MAX_SWEEP) × (payload ≡ codes "sweep " ++ decimal most ++ codes "\n")
HostSpells Collect payload = payload ≡ codes "collect\n"
HostSpells Census payload = payload ≡ codes "census\n"
HostSpells Fsck payload = payload ≡ codes "fsck\n"
HostSpells Tenants payload = payload ≡ codes "tenants\n"
HostSpells Bad payload = ⊥
