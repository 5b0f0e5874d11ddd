-- Names that are seen, and those of them that wait to be followed (own).
use Rattle.std.specs.Prelude.{◌≡◌, ◌⊎◌, ℕ, ◌+◌, ◌≤◌, Bool, true, not, List, length, Contains}
use Rattle.std.specs.List.{count_by}
use Rattle.std.specs.FinMap.{FinMap, contains_key, keys}
use Rattle.git_name.specs.Name.{name_cmp}

-- how many of the objects are not seen
abbrev pub unseen : {X : Type 0} → FinMap name_cmp X → (List ℕ → Bool) → ℕ
unseen objects seen = count_by (λ name. not (seen name)) (keys objects)

-- names were visited: those that are there are seen now, and the new ones wait unless a walk ends at them
pub record Sees {X : Type 0} (objects : FinMap name_cmp X) (ends : List ℕ → Bool) (names : List (List ℕ)) (seen : List ℕ → Bool) (waits : List (List ℕ)) (now_seen : List ℕ → Bool) (now_waits : List (List ℕ)) : Type 0 where
  pub kept : (name : List ℕ) → seen name ≡ true → now_seen name ≡ true
  pub stays : (name : List ℕ) → Contains waits name → Contains now_waits name
  pub all : (name : List ℕ) → Contains names name → contains_key objects name ≡ true → now_seen name ≡ true
  pub only : (name : List ℕ) → now_seen name ≡ true → (seen name ≡ true) ⊎ (Contains names name × (contains_key objects name ≡ true))
  pub new : (name : List ℕ) → now_seen name ≡ true → (seen name ≡ true) ⊎ (Contains now_waits name ⊎ (ends name ≡ true))
  pub noted : (name : List ℕ) → Contains now_waits name → Contains waits name ⊎ (now_seen name ≡ true)
  pub less : unseen objects now_seen + length now_waits ≤ unseen objects seen + length waits
