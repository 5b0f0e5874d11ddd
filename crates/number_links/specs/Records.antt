-- Records in a pool of words (own): when a record was learned, how many numbers it has, and these numbers.
use Rattle.std.specs.Prelude.{◌≡◌, ◌≢◌, ◌⊎◌, ◌<◌, ◌≤◌, ◌+◌, ℕ, Bool, List, [], ◌∷◌, ◌++◌, Option, Some, None, All, length, take, drop, get_or, nat_eq, nat_le, if◌then◌else◌}
use Rattle.std.specs.List.{list_all}

-- the numbers of the record that begins at a place
abbrev pub numbers_at : List ℕ → ℕ → List ℕ
numbers_at pool begin = take (get_or pool (begin + 1) 0) (drop (begin + 2) pool)

-- whether none of these was renewed after a time
abbrev pub are_still : List ℕ → ℕ → List ℕ → Bool
are_still renewed learned numbers = list_all (λ n. nat_le (get_or renewed n 0) learned) numbers

-- the numbers of a record that was learned at a time, if none of them was renewed since
abbrev pub told_at : List ℕ → ℕ → List ℕ → Option (List ℕ)
told_at renewed learned numbers = if are_still renewed learned numbers then Some numbers else None

-- the record at a place: 4294967295 is the place of no record, and 4294967294 of each record without numbers
unfoldable pub told : List ℕ → List ℕ → ℕ → Option (List ℕ)
told renewed pool begin =
    if nat_eq begin 4294967295 then None
    else if nat_eq begin 4294967294 then Some []
    else told_at renewed (get_or pool begin 0) (numbers_at pool begin)

-- a record is whole in the pool, was not learned after now, and has numbers whose renewals are noted
pub record IsRecord (clock room : ℕ) (pool : List ℕ) (begin : ℕ) : Type 0 where
  pub within : begin + 2 + get_or pool (begin + 1) 0 ≤ length pool
  pub learned : get_or pool begin 0 ≤ clock
  pub below : All (λ n. n < room) (numbers_at pool begin)

-- the records of all numbers are sound, and no number was renewed after now
pub record AreRecords (clock : ℕ) (renewed begins pool : List ℕ) : Type 0 where
  pub by_now : (n : ℕ) → get_or renewed n 0 ≤ clock
  pub few : length pool ≤ 4294967294
  pub records : (n : ℕ) → get_or begins n 4294967295 ≢ 4294967295 → get_or begins n 4294967295 ≢ 4294967294 → IsRecord clock (length renewed) pool (get_or begins n 4294967295)

-- a record is appended to a pool, or needs no words
pub record IsWritten (clock : ℕ) (to : List ℕ) (old new : List ℕ) (begin : ℕ) : Type 0 where
  pub few : length new ≤ 4294967294
  pub place : ((to ≡ []) × (begin ≡ 4294967294) × (new ≡ old)) ⊎ ((begin ≡ length old) × (begin < 4294967294) × (new ≡ old ++ clock ∷ length to ∷ to))

-- the record at a place of one pool is appended to another, if it is known
pub record IsCopied (clock : ℕ) (renewed pool : List ℕ) (begin : ℕ) (old new : List ℕ) (now : ℕ) : Type 0 where
  pub few : length new ≤ 4294967294
  pub after : (more : List ℕ) × (new ≡ old ++ more)
  pub same : told renewed new now ≡ told renewed pool begin
  pub place : now ≢ 4294967295 → now ≢ 4294967294 → IsRecord clock (length renewed) new now
