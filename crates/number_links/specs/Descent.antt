-- The descent from numbers to their parents, by keys (own): a key has the generation number of its number first, so
-- that the keys of the parents are lower.
use Rattle.std.specs.Prelude.{◌≡◌, ◌≢◌, ◌⊎◌, ◌<◌, ◌+◌, ◌*◌, ◌&&◌, ◌||◌, not, ℕ, Bool, true, List, Contains}
use Rattle.std.specs.BTreeSet.{BTreeSet, contains}
use Rattle.std.specs.Ordering.{nat_cmp}
use Rattle.number_links.specs.Generations.{generation}

-- the key of a number
abbrev pub key_of : List ℕ → ℕ → ℕ
key_of generations n = generation generations n * 4294967296 + n

-- whether a key is one of these
abbrev pub waits : BTreeSet ℕ → ℕ → Bool
waits keys key = contains nat_cmp keys key

-- it is the key of a number that has a generation
pub record IsKey (generations : List ℕ) (key : ℕ) : Type 0 where
  pub number : ℕ
  pub of : key ≡ key_of generations number
  pub high : 1 < generation generations number

-- the number of the second key is allowed, and is a parent of the number of the first
pub record IsParent (next : ℕ → List ℕ) (allowed : ℕ → Bool) (generations : List ℕ) (at key : ℕ) : Type 0 where
  pub child : IsKey generations at
  pub parent : ℕ
  pub of : key ≡ key_of generations parent
  pub linked : Contains (next child.number) parent
  pub there : allowed parent ≡ true

-- the keys of these numbers are added, of each if it is allowed
pub record Puts (numbers : List ℕ) (allowed : ℕ → Bool) (generations : List ℕ) (old new : ℕ → Bool) : Type 0 where
  pub keeps : (key : ℕ) → old key ≡ true → new key ≡ true
  pub only : (key : ℕ) → new key ≡ true → (old key ≡ true) ⊎ ((n : ℕ) × Contains numbers n × (allowed n ≡ true) × (key ≡ key_of generations n))
  pub adds : (n : ℕ) → Contains numbers n → allowed n ≡ true → new (key_of generations n) ≡ true

-- a key no longer waits; if it is followed, its parents are queued
pub record SettlesKey (parent : ℕ → ℕ → Type 0) (at : ℕ) (followed : Bool) (old new : ℕ → Bool) : Type 0 where
  pub keeps : (key : ℕ) → key ≢ at → old key ≡ true → new key ≡ true
  pub only : (key : ℕ) → new key ≡ true → ((key ≢ at) × (old key ≡ true)) ⊎ ((followed ≡ true) × parent at key)
  pub adds : followed ≡ true → (key : ℕ) → parent at key → new key ≡ true

-- a key is common if it is outdone or waits on both sides
abbrev pub is_common_at : Bool → Bool → Bool → Bool
is_common_at from_a from_b outdone = outdone || (from_a && from_b)

-- what waits on both sides, and what is outdone, after one step of the descent at a key
pub record GoesOn (parent : ℕ → ℕ → Type 0) (at : ℕ) (a b gone now_a now_b now_gone : ℕ → Bool) : Type 0 where
  pub of_a : SettlesKey parent at (not (is_common_at (a at) (b at) (gone at)) && a at) a now_a
  pub of_b : SettlesKey parent at (not (is_common_at (a at) (b at) (gone at)) && b at) b now_b
  pub outdone : SettlesKey parent at (is_common_at (a at) (b at) (gone at)) gone now_gone
