-- Tests that pass more names with each step: they stop after as many steps as there are names to pass.
use Rattle.std.proofs.Common.{◌≡◌, ℕ, zero, suc, ◌+◌, ◌≤◌, ◌&&◌, not, Bool, true, false, List, refl, arith, inl, inr, ◌⊎◌, length}
use Rattle.std.specs.List.{Contains, list_any}
use Rattle.std.proofs.lemmas.Bool.{and_parts, and_from, not-true}
use Rattle.std.proofs.lemmas.List.Sums.{count_by-le-length}
use Rattle.std.proofs.lemmas.List.Folds.{Any-from_list_any}
use Rattle.fork_reach.proofs.NameLemmas.{any_passes}
use Rattle.fork_reach.proofs.UnseenLemmas.{left_out, left_out_less}

-- one step more passes no others
abbrev pub Stops : (ℕ → List ℕ → Bool) → ℕ → Type 0
Stops passes most = (name : List ℕ) → passes (suc most) name ≡ true → passes most name ≡ true

-- what passes stays, what is new is one of the keys, and once a step adds none no further step does
pub record Rises (keys : List (List ℕ)) (passes : ℕ → List ℕ → Bool) : Type 0 where
  pub kept : (most : ℕ) (name : List ℕ) → passes most name ≡ true → passes (suc most) name ≡ true
  pub among : (most : ℕ) (name : List ℕ) → passes most name ≡ false → passes (suc most) name ≡ true → Contains keys name
  pub stops : (most : ℕ) → Stops passes most → Stops passes (suc most)

-- whether a name passes with one step more alone
abbrev is_new : (ℕ → List ℕ → Bool) → ℕ → List ℕ → Bool
is_new passes most name = passes (suc most) name && not (passes most name)

stops_or_less : (keys : List (List ℕ)) (passes : ℕ → List ℕ → Bool) → Rises keys passes → (most : ℕ) → Stops passes most ⊎ (left_out (passes (suc most)) keys + 1 ≤ left_out (passes most) keys)
stops_or_less keys passes rises most = by (list_any (is_new passes most) keys) refl
  where
    old : (name : List ℕ) (b : Bool) → passes most name ≡ b → passes (suc most) name ≡ true → list_any (is_new passes most) keys ≡ false → b ≡ true
    old name true is now none = refl
    old name false is now none =
        let new : not (passes most name) ≡ true = rw is refl in
        let some = any_passes (is_new passes most) keys name (rises.among most name is now) (and_from _ _ now new) in
        (let no : ⊥ = cc in absurd no)

    by : (b : Bool) → list_any (is_new passes most) keys ≡ b → Stops passes most ⊎ (left_out (passes (suc most)) keys + 1 ≤ left_out (passes most) keys)
    by true is =
        let any = Any-from_list_any (is_new passes most) keys is in
        let both = and_parts (passes (suc most) any.1) _ any.4 in
        inr (left_out_less (passes most) (passes (suc most)) (rises.kept most) keys any.1 any.0 any.2 any.3 (not-true _ both.1) both.0)
    by false is = inl (λ name now. old name (passes most name) refl now is)

-- each step that passes others leaves one name less
stops_or_few : (keys : List (List ℕ)) (passes : ℕ → List ℕ → Bool) → Rises keys passes → (most : ℕ) → Stops passes most ⊎ (left_out (passes most) keys + most ≤ length keys)
stops_or_few keys passes rises zero = inr (let few = count_by-le-length (λ name. not (passes zero name)) keys in omega arith)
stops_or_few keys passes rises (suc most) =
    elim (stops_or_few keys passes rises most) [
      | inl stops ↦ inl (rises.stops most stops)
      | inr few ↦
          elim (stops_or_less keys passes rises most) [
            | inl stops ↦ inl (rises.stops most stops)
            | inr less ↦ inr (omega arith)
          ]
    ]

-- as many steps as there are keys are enough
pub stops_end : (keys : List (List ℕ)) (passes : ℕ → List ℕ → Bool) → Rises keys passes → Stops passes (length keys)
stops_end keys passes rises =
    elim (stops_or_few keys passes rises (length keys)) [
      | inl stops ↦ stops
      | inr few ↦
          elim (stops_or_less keys passes rises (length keys)) [
            | inl stops ↦ stops
            | inr less ↦ absurd (omega arith)
          ]
    ]
