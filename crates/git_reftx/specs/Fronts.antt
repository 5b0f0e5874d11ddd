-- Names above others, and the least of them.
use Rattle.std.specs.Prelude.{◌≡◌, ℕ, true, List, [], ◌∷◌, ◌⊎◌, Option, None, Some}
use Rattle.std.specs.declared.cmp.Ordering.TheVariants.{Less}
use Rattle.git_name.specs.Name.{name_cmp}
use Rattle.git_reftx.specs.declared.command.Command.{Command}
use Rattle.git_reftx.specs.Transaction.{stands_above}

-- one name comes before another
abbrev pub Before : List ℕ → List ℕ → Type 0
Before p q = name_cmp p q ≡ Less

-- the list has the name
abbrev pub In : List ℕ → List (List ℕ) → Type 0
In p [] = ⊥
In p (q ∷ qs) = (p ≡ q) ⊎ In p qs

-- the name is this one, or comes after it
abbrev pub Bounds : Option (List ℕ) → List ℕ → Type 0
Bounds None v = ⊥
Bounds (Some u) v = (u ≡ v) ⊎ Before u v

-- a name that is above another
pub record IsUpper (names : List (List ℕ)) (upper : List ℕ) : Type 0 where
  pub inside : In upper names
  pub lower : List ℕ
  pub lower_inside : In lower names
  pub above : stands_above upper lower ≡ true

-- the least name above another, among the pairs in which one of the two names is near
pub record IsLeastNear (names : List (List ℕ)) (near : List ℕ → Type 0) (least : Option (List ℕ)) : Type 0 where
  pub found : (u : List ℕ) → least ≡ Some u → IsUpper names u
  pub bound : (u l : List ℕ) → In u names → In l names → stands_above u l ≡ true → near u ⊎ near l → Bounds least u

-- a command has the name
abbrev pub AreOf : List Command → List ℕ → Type 0
AreOf [] name = ⊥
AreOf (command ∷ commands) name = (command.reference ≡ name) ⊎ AreOf commands name

-- the lesser of two names, if there are two
abbrev pub IsLesser : Option (List ℕ) → List ℕ → List ℕ → Type 0
IsLesser None u w = w ≡ u
IsLesser (Some v) u w = ((w ≡ v) × Bounds (Some v) u) ⊎ ((w ≡ u) × Bounds (Some u) v)

-- the lesser of two names, either of which may be missing
abbrev pub IsLesserOf : Option (List ℕ) → Option (List ℕ) → Option (List ℕ) → Type 0
IsLesserOf least None now = now ≡ least
IsLesserOf None (Some u) now = now ≡ Some u
IsLesserOf (Some v) (Some u) now = ((now ≡ Some v) × Bounds (Some v) u) ⊎ ((now ≡ Some u) × Bounds (Some u) v)

-- the first of the names that are above this one
pub record IsFrontAbove (names : List (List ℕ)) (name upper : List ℕ) : Type 0 where
  pub inside : In upper names
  pub above : stands_above upper name ≡ true
  pub first : (other : List ℕ) → In other names → stands_above other name ≡ true → Bounds (Some upper) other
