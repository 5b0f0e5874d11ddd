-- What is reachable from names along links or along parents, among what a tenant sees (own).
use Rattle.std.specs.Prelude.{◌≡◌, ◌⊎◌, ◌≢◌, Bool, true, false, List, [], ◌∷◌, Contains, ℕ}
use Rattle.std.specs.FinMap.{contains_key, get}
use Rattle.std.specs.Option.{option_map_or}
use Rattle.fork_reach.specs.Reach.{IsReached}
use Rattle.object_table.specs.Ledgers.{AllWords, at_ledger, ledger_at}
use Rattle.object_table.specs.Links.{NamedLinks, leads_nowhere, next_named}
use Rattle.object_table.specs.Words.{Words, is_visible, kept_words, words_that}

-- a name is reachable from one of these
abbrev pub IsLedTo : Words → (List ℕ → List (List ℕ)) → List (List ℕ) → List ℕ → Type 0
IsLedTo words next roots name = IsReached next words roots name

-- it is reachable from a wanted name, and from no excluded one
pub record IsBetween (words : Words) (next : List ℕ → List (List ℕ)) (wanted excluded : List (List ℕ)) (name : List ℕ) : Type 0 where
  pub led : IsLedTo words next wanted name
  pub left : IsLedTo words next excluded name → ⊥

-- it is reachable from a wanted name or from an excluded one
abbrev pub IsMet : Words → (List ℕ → List (List ℕ)) → List (List ℕ) → List (List ℕ) → List ℕ → Type 0
IsMet words next wanted excluded name = IsLedTo words next wanted name ⊎ IsLedTo words next excluded name

-- it is a common ancestor of two names
abbrev pub IsCommon : Words → (List ℕ → List (List ℕ)) → List ℕ → List ℕ → List ℕ → Type 0
IsCommon words next a b name = IsLedTo words next (a ∷ []) name × IsLedTo words next (b ∷ []) name

-- it is a best common ancestor: it is no parent of another common one
pub record IsBest (words : Words) (next : List ℕ → List (List ℕ)) (a b name : List ℕ) : Type 0 where
  pub common : IsCommon words next a b name
  pub alone : (other : List ℕ) → IsCommon words next a b other → other ≢ name → Contains (next other) name → ⊥

-- one tenant sees no more than what is reachable from these names; all links on the way are known
pub record IsRetained (links : NamedLinks) (tenant : List ℕ) (roots : List (List ℕ)) (old new : AllWords) : Type 0 where
  pub reached : List ℕ → Bool
  pub only : (name : List ℕ) → reached name ≡ true → IsLedTo (words_that is_visible (ledger_at old tenant)) (next_named links) roots name
  pub all : (name : List ℕ) → IsLedTo (words_that is_visible (ledger_at old tenant)) (next_named links) roots name → reached name ≡ true
  pub known : (name : List ℕ) → IsLedTo (words_that is_visible (ledger_at old tenant)) (next_named links) roots name
      → (option_map_or (λ word. leads_nowhere word.kind) (get (words_that is_visible (ledger_at old tenant)) name) false ≡ true) ⊎ (contains_key links name ≡ true)
  pub ledgers : new ≡ at_ledger old tenant (kept_words reached)
