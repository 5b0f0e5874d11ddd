-- Looks, one after another.
use Rattle.std.proofs.Common.{◌≡◌, ℕ, suc, ◌<◌, ◌≤◌, ◌+◌, ◌⊎◌, inl, inr, List, [], ◌∷◌, ◌++◌, length, Bool, true, false, Option, Some, None, refl, ap, subst, arith, length-append}
use Rattle.std.specs.Prelude.{IfNone, nat_lt, if◌then◌else◌, IsPermutation}
use Rattle.std.proofs.lemmas.Bool.{lt-ltb}
use Rattle.std.proofs.lemmas.List.Sorted.{length_permutation}
use Rattle.looks.specs.Places.{Places, looked_at}
use Rattle.looks.specs.Looks.{Look, Looks, Walks}
use Rattle.looks.specs.Looks.Look.{Stays, Leaves}
use Rattle.looks.specs.Slices.{Sweeps}
use Rattle.object_table.specs.Rows.{LooksNextAt}
use Rattle.object_table.specs.Holders.{is_held_in}
use Rattle.object_table.specs.Ledgers.{AllWords}

-- what the names behind it become as a name leaves
abbrev pub Left : (old new : Places) (name : List ℕ) → LooksNextAt old name → Type 0
Left old new name next = (left : List (List ℕ)) × (new.names ≡ next.front ++ left) × IsPermutation next.back left

pub look_leaves : (held : List ℕ → Bool) (old new : Places) (name : List ℕ) (next : LooksNextAt old name) → held name ≡ false → Left old new name next → new.place ≡ looked_at old → Look held old new
look_leaves held old new name next free left place = Leaves next.front next.back left.0 name next.whole next.at free left.1 left.2 place

pub fewer_names : (old new : Places) (name : List ℕ) (next : LooksNextAt old name) → Left old new name next → length new.names + 1 ≡ length old.names
fewer_names old new name next left =
    omega (arith, ap length next.whole, ap length left.1, length-append next.front left.0, length-append next.front (name ∷ next.back), length_permutation next.back left.0 left.2)

pub look_stays : (held : List ℕ → Bool) (old new : Places) → 0 < length old.names → (old.names ≡ []) ⊎ ((name : List ℕ) × LooksNextAt old name × (held name ≡ true)) → new.names ≡ old.names → new.place ≡ looked_at old + 1 → Look held old new
look_stays held old new some (inl none) names place = (let empty = ap length none in absurd (omega (arith, some, empty)))
look_stays held old new some (inr next) names place = Stays next.1.front next.1.back next.0 next.1.whole next.1.at next.2 names place

pub not_held : (n : ℕ) → n ≡ 0 → nat_lt 0 n ≡ false
not_held n is = ap (nat_lt 0) is

pub next_held : (places : Places) (count : List ℕ → ℕ) → (places.names ≡ []) ⊎ ((name : List ℕ) × LooksNextAt places name × (0 < count name))
    → (places.names ≡ []) ⊎ ((name : List ℕ) × LooksNextAt places name × (nat_lt 0 (count name) ≡ true))
next_held places count (inl none) = inl none
next_held places count (inr next) = inr (next.0, next.1, lt-ltb 0 (count next.0) next.2)

pub none_case : {A P : Type 0} (o : Option A) → o ≡ None → IfNone o P → P
none_case None is h = h
none_case (Some x) is h = (let bad : ⊥ = cc in absurd bad)

-- one look more
pub looks_more : (held : List ℕ → Bool) (n : ℕ) (a b c : Places) → Looks held n a b → Look held b c → Looks held (n + 1) a c
looks_more held n a b c looks look = subst (λ m. Looks held m a c) (next n) (b, looks, look)
  where
    next : (n : ℕ) → suc n ≡ n + 1
    next n = omega arith

pub walks_more : (held : List ℕ → Bool) (n : ℕ) (a b c : Places) → Walks held n a b → b.place < length b.names → Look held b c → Walks held (n + 1) a c
walks_more held n a b c walks within look = subst (λ m. Walks held m a c) (next n) (b, walks, within, look)
  where
    next : (n : ℕ) → suc n ≡ n + 1
    next n = omega arith

looked_within : (a : Places) → a.place < length a.names → looked_at a ≡ a.place
looked_within a within = ap (λ b. if b then a.place else 0) (lt-ltb a.place (length a.names) within)

-- a look comes one step nearer to the end
pub look_nearer : (held : List ℕ → Bool) (a b : Places) → a.place < length a.names → Look held a b → length b.names + 1 + a.place ≡ length a.names + b.place
look_nearer held a b within (Stays front back name whole at is names place) = omega (arith, ap length names, place, looked_within a within)
look_nearer held a b within (Leaves front back left name whole at free names moved place) =
    omega (arith, place, looked_within a within, ap length whole, ap length names, length-append front left, length-append front (name ∷ back), length_permutation back left moved)

empty_of : (names : List (List ℕ)) → length names ≡ 0 → names ≡ []
empty_of [] is = refl
empty_of (name ∷ names) is = absurd (omega (arith, is))

-- a slice that emptied the catalogue, and one that made all its looks
pub swept_empty : (held : List ℕ → Bool) (n most : ℕ) (a b : Places) → n < most → Looks held n a b → length b.names ≡ 0 → Sweeps held most a b
swept_empty held n most a b less looks none = record { count = n; few = omega (arith, less); looks = looks; fewer = λ _. empty_of b.names none }

pub swept_all : (held : List ℕ → Bool) (most : ℕ) (a b : Places) → Looks held most a b → Sweeps held most a b
swept_all held most a b looks = record { count = most; few = omega arith; looks = looks; fewer = λ less. absurd (omega (arith, less)) }

pub one_most : (b : Bool) (n : ℕ) → n ≡ (if b then 1 else 0) → n ≤ 1
one_most true n is = omega (arith, is)
one_most false n is = omega (arith, is)

-- ledgers that did not change hold the same
pub same_look : (m k : AllWords) (a b : Places) → k ≡ m → Look (is_held_in k) a b → Look (is_held_in m) a b
same_look m k a b same look = subst (λ x. Look (is_held_in x) a b) same look
