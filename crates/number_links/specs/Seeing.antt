-- Numbers that are seen, and those of them that wait to be followed (own).
use Rattle.std.specs.Prelude.{◌≡◌, ◌⊎◌, ℕ, zero, suc, ◌+◌, ◌≤◌, ◌&&◌, Bool, true, false, not, List, length, Contains, cond}

-- how many numbers below a bound pass a test
unfoldable pub count_below : ℕ → (ℕ → Bool) → ℕ
count_below zero test = zero
count_below (suc n) test = count_below n test + cond (test n) 1 0

-- how many of the numbers below a bound are allowed and not seen
abbrev pub unseen : ℕ → (ℕ → Bool) → (ℕ → Bool) → ℕ
unseen bound allowed seen = count_below bound (λ n. allowed n && not (seen n))

-- numbers were visited: those that are allowed are seen now, and those of them that are new wait
pub record Sees (bound : ℕ) (allowed : ℕ → Bool) (numbers : List ℕ) (seen : ℕ → Bool) (waits : List ℕ) (now_seen : ℕ → Bool) (now_waits : List ℕ) : Type 0 where
  pub kept : (n : ℕ) → seen n ≡ true → now_seen n ≡ true
  pub stays : (n : ℕ) → Contains waits n → Contains now_waits n
  pub all : (n : ℕ) → Contains numbers n → allowed n ≡ true → now_seen n ≡ true
  pub only : (n : ℕ) → now_seen n ≡ true → (seen n ≡ true) ⊎ (Contains numbers n × (allowed n ≡ true))
  pub new : (n : ℕ) → now_seen n ≡ true → (seen n ≡ true) ⊎ Contains now_waits n
  pub noted : (n : ℕ) → Contains now_waits n → Contains waits n ⊎ (now_seen n ≡ true)
  pub less : unseen bound allowed now_seen + length now_waits ≤ unseen bound allowed seen + length waits

-- numbers were visited: all are seen now, and those of them that are new wait, but for the ends
pub record Enters (bound : ℕ) (ends : ℕ → Bool) (numbers : List ℕ) (seen : ℕ → Bool) (waits : List ℕ) (now_seen : ℕ → Bool) (now_waits : List ℕ) : Type 0 where
  pub kept : (n : ℕ) → seen n ≡ true → now_seen n ≡ true
  pub stays : (n : ℕ) → Contains waits n → Contains now_waits n
  pub all : (n : ℕ) → Contains numbers n → now_seen n ≡ true
  pub only : (n : ℕ) → now_seen n ≡ true → (seen n ≡ true) ⊎ Contains numbers n
  pub new : (n : ℕ) → now_seen n ≡ true → (seen n ≡ true) ⊎ Contains now_waits n ⊎ (ends n ≡ true)
  pub noted : (n : ℕ) → Contains now_waits n → Contains waits n ⊎ (now_seen n ≡ true)
  pub go_on : (n : ℕ) → Contains now_waits n → Contains waits n ⊎ (ends n ≡ false)
  pub less : unseen bound (λ _. true) now_seen + length now_waits ≤ unseen bound (λ _. true) seen + length waits
