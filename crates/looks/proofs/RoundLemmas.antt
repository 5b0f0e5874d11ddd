-- A whole round: every name that it leaves is held.
use Rattle.std.proofs.Common.{◌≡◌, ℕ, zero, suc, ◌+◌, ◌<◌, ◌≤◌, ◌⊎◌, inl, inr, List, [], ◌∷◌, ◌++◌, length, Bool, true, refl, sym, ap, subst, ◌∙◌, arith, length-append, append_assoc}
use Rattle.git_name.specs.Same.{is_listed}
use Rattle.looks.specs.Places.{Places, looked_at, at_start}
use Rattle.looks.specs.Looks.{Look, Walks}
use Rattle.looks.specs.Looks.Look.{Stays, Leaves}
use Rattle.looks.specs.Slices.{Collects}
use Rattle.looks.proofs.HeldLemmas.{Each, listed_held, same_front}
use Rattle.looks.proofs.ComeLemmas.{Passed, all_passed, falls, stays_front}

-- looks from the beginning leave held names before the place
walked : (held : List ℕ → Bool) (m : ℕ) (b c : Places) → Walks held m b c → Passed held b → Passed held c
walked held zero b c walks passed = subst (Passed held) (sym walks) passed
walked held (suc m) b c walks passed = one (walked held m b walks.0 walks.1 passed) (falls walks.0) walks.3
  where
    one : Passed held walks.0 → ((walks.0.place < length walks.0.names) × (looked_at walks.0 ≡ walks.0.place)) ⊎ ((length walks.0.names ≤ walks.0.place) × (looked_at walks.0 ≡ 0)) → Look held walks.0 c → Passed held c
    one before (inr end) look = absurd (omega (arith, end.0, walks.2))
    one before (inl here) (Stays front back name whole at is names place) =
        let same : before.front ≡ front = same_front before.front before.back front (name ∷ back) (sym before.whole ∙ whole) (before.at ∙ sym here.1 ∙ sym at) in
        record {
          front = front ++ name ∷ [];
          back = back;
          whole = names ∙ whole ∙ sym (append_assoc front (name ∷ []) back);
          at = length-append front (name ∷ []) ∙ ap (λ m. m + 1) at ∙ sym place;
          are = stays_front held front name (subst (Each held) same before.are) is;
        }
    one before (inl here) (Leaves front back rest name whole at free names moved place) =
        let same : before.front ≡ front = same_front before.front before.back front (name ∷ back) (sym before.whole ∙ whole) (before.at ∙ sym here.1 ∙ sym at) in
        record { front = front; back = rest; whole = names; at = at ∙ sym place; are = subst (Each held) same before.are }

-- what a whole round leaves is held
pub collected : (held : List ℕ → Bool) (old new : Places) → Collects held old new → (name : List ℕ) → is_listed new.names name ≡ true → held name ≡ true
collected held old new round name is =
    let passed = walked held round.count (at_start old) round.end round.walks (record { front = []; back = old.names; whole = refl; at = refl; are = tt }) in
    listed_held held round.end.names name (all_passed held round.end passed (omega (arith, round.ended))) (ap (λ (x : Places). is_listed x.names name) (sym round.is) ∙ is)
