-- How far looks have come: first to the list's end, then one more round, after which every name is held.
use Rattle.std.proofs.Common.{◌≡◌, ℕ, zero, suc, ◌<◌, ◌≤◌, ◌+◌, ◌⊎◌, inl, inr, List, [], ◌∷◌, ◌++◌, length, Bool, true, false, refl, sym, ap, subst, ◌∙◌, arith, length-append, append_assoc}
use Rattle.std.specs.Prelude.{IsPermutation, nat_lt, if◌then◌else◌}
use Rattle.std.proofs.lemmas.Bool.{ltb-true, ltb-false}
use Rattle.std.proofs.lemmas.List.Sorted.{length_permutation}
use Rattle.looks.specs.Places.{Places, looked_at}
use Rattle.looks.specs.Looks.{Look, Looks}
use Rattle.looks.specs.Looks.Look.{Stays, Leaves}
use Rattle.looks.proofs.HeldLemmas.{Each, each_both, each_back, empty_of, same_front, true_false}

placed : (c : Places) (b : Bool) → nat_lt c.place (length c.names) ≡ b → ((c.place < length c.names) × (looked_at c ≡ c.place)) ⊎ ((length c.names ≤ c.place) × (looked_at c ≡ 0))
placed c true e = inl (ltb-true _ _ e, ap (λ x. if x then c.place else 0) e)
placed c false e = inr (ltb-false _ _ e, ap (λ x. if x then c.place else 0) e)

-- a look falls at the place, or, from the list's end, at the beginning
pub falls : (c : Places) → ((c.place < length c.names) × (looked_at c ≡ c.place)) ⊎ ((length c.names ≤ c.place) × (looked_at c ≡ 0))
falls c = placed c (nat_lt c.place (length c.names)) refl

-- the names before the place are held
pub record Passed (held : List ℕ → Bool) (c : Places) : Type 0 where
  pub front : List (List ℕ)
  pub back : List (List ℕ)
  pub whole : c.names ≡ front ++ back
  pub at : length front ≡ c.place
  pub are : Each held front

-- n: names at first, p: place at first, k: looks so far. First to the end, then one round more, then all is held
pub data Come (held : List ℕ → Bool) (n p k : ℕ) (c : Places) : Type 0 where
  First : length c.names ≤ n → c.place ≤ length c.names → length c.names + k + p ≤ n + c.place → Come held n p k c
  Round : Passed held c → length c.names ≤ n → length c.names + k + p ≤ n + n + c.place → Come held n p k c
  Done : Each held c.names → Come held n p k c

-- at the end all names are before the place
pub all_passed : (held : List ℕ → Bool) (c : Places) → Passed held c → length c.names ≤ c.place → Each held c.names
all_passed held c passed end =
    let none : passed.back ≡ [] = empty_of passed.back (omega (arith, end, passed.at, ap length passed.whole, length-append passed.front passed.back)) in
    subst (Each held) (sym passed.whole) (each_both held passed.front passed.back passed.are (subst (Each held) (sym none) tt))

pub stays_front : (held : List ℕ → Bool) (front : List (List ℕ)) (name : List ℕ) → Each held front → held name ≡ true → Each held (front ++ name ∷ [])
stays_front held front name h is = each_both held front (name ∷ []) h (is, tt)

-- a look at a held name comes one look further
come_stays : (held : List ℕ → Bool) (n p k : ℕ) (b c : Places) (front back : List (List ℕ)) (name : List ℕ) → b.names ≡ front ++ name ∷ back → length front ≡ looked_at b → held name ≡ true
    → c.names ≡ b.names → c.place ≡ looked_at b + 1 → Come held n p k b → Come held n p (k + 1) c
come_stays held n p k b c front back name whole at is names place come = by (falls b) come
  where
    same : length c.names ≡ length b.names
    same = ap length names

    parted : c.names ≡ (front ++ name ∷ []) ++ back
    parted = names ∙ whole ∙ sym (append_assoc front (name ∷ []) back)

    one_more : length (front ++ name ∷ []) ≡ c.place
    one_more = length-append front (name ∷ []) ∙ ap (λ m. m + 1) at ∙ sym place

    moved : Each held front → Passed held c
    moved are = record { front = front ++ name ∷ []; back = back; whole = parted; at = one_more; are = stays_front held front name are is }

    by : ((b.place < length b.names) × (looked_at b ≡ b.place)) ⊎ ((length b.names ≤ b.place) × (looked_at b ≡ 0)) → Come held n p k b → Come held n p (k + 1) c
    by (inl here) (First few within far) = First (omega (arith, few, same)) (omega (arith, same, place, here.0, here.1)) (omega (arith, same, place, here.1, far))
    by (inl here) (Round passed few far) =
        let before : passed.front ≡ front = same_front passed.front passed.back front (name ∷ back) (sym passed.whole ∙ whole) (passed.at ∙ sym here.1 ∙ sym at) in
        Round (moved (subst (Each held) before passed.are)) (omega (arith, few, same)) (omega (arith, same, place, here.1, far))
    by (inr end) (First few within far) =
        Round (moved (subst (Each held) (sym (empty_of front (omega (arith, at, end.1)))) tt)) (omega (arith, few, same)) (omega (arith, same, place, end.0, end.1, far, few, within))
    by (inr end) (Round passed few far) = Done (subst (Each held) (sym names) (all_passed held b passed end.0))
    by (inl here) (Done all) = Done (subst (Each held) (sym names) all)
    by (inr end) (Done all) = Done (subst (Each held) (sym names) all)

not_held : (G : Type 0) (held : List ℕ → Bool) (front back : List (List ℕ)) (name : List ℕ) → Each held (front ++ name ∷ back) → held name ≡ false → G
not_held G held front back name all free = true_false G (held name) (each_back held front (name ∷ back) all).0 free

-- and so does one at any other name
come_leaves : (held : List ℕ → Bool) (n p k : ℕ) (b c : Places) (front back rest : List (List ℕ)) (name : List ℕ) → b.names ≡ front ++ name ∷ back → length front ≡ looked_at b → held name ≡ false
    → c.names ≡ front ++ rest → IsPermutation back rest → c.place ≡ looked_at b → Come held n p k b → Come held n p (k + 1) c
come_leaves held n p k b c front back rest name whole at free names moved place come = by (falls b) come
  where
    fewer : length c.names + 1 ≡ length b.names
    fewer = omega (arith, ap length names, ap length whole, length-append front rest, length-append front (name ∷ back), length_permutation back rest moved)

    longer : looked_at b ≤ length c.names
    longer = omega (arith, at, ap length names, length-append front rest)

    stood : Each held front → Passed held c
    stood are = record { front = front; back = rest; whole = names; at = at ∙ sym place; are = are }

    by : ((b.place < length b.names) × (looked_at b ≡ b.place)) ⊎ ((length b.names ≤ b.place) × (looked_at b ≡ 0)) → Come held n p k b → Come held n p (k + 1) c
    by (inl here) (First few within far) = First (omega (arith, few, fewer)) (omega (arith, longer, place)) (omega (arith, fewer, place, here.1, far))
    by (inl here) (Round passed few far) =
        let before : passed.front ≡ front = same_front passed.front passed.back front (name ∷ back) (sym passed.whole ∙ whole) (passed.at ∙ sym here.1 ∙ sym at) in
        Round (stood (subst (Each held) before passed.are)) (omega (arith, few, fewer)) (omega (arith, fewer, place, here.1, far))
    by (inr end) (First few within far) =
        Round (stood (subst (Each held) (sym (empty_of front (omega (arith, at, end.1)))) tt)) (omega (arith, few, fewer)) (omega (arith, fewer, place, end.0, end.1, far, few, within))
    by (inr end) (Round passed few far) = not_held _ held front back name (subst (Each held) whole (all_passed held b passed end.0)) free
    by (inl here) (Done all) = not_held _ held front back name (subst (Each held) whole all) free
    by (inr end) (Done all) = not_held _ held front back name (subst (Each held) whole all) free

come_on : (held : List ℕ → Bool) (n p k : ℕ) (b c : Places) → Look held b c → Come held n p k b → Come held n p (k + 1) c
come_on held n p k b c (Stays front back name whole at is names place) = come_stays held n p k b c front back name whole at is names place
come_on held n p k b c (Leaves front back rest name whole at free names moved place) = come_leaves held n p k b c front back rest name whole at free names moved place

-- m looks come m looks further
pub come_far : (held : List ℕ → Bool) (n p k m : ℕ) (b c : Places) → Looks held m b c → Come held n p k b → Come held n p (k + m) c
come_far held n p k zero b c looks come = subst (λ i. Come held n p i c) (omega arith) (subst (Come held n p k) (sym looks) come)
come_far held n p k (suc m) b c looks come = subst (λ i. Come held n p i c) (omega arith) (come_on held n p (k + m) looks.0 c looks.2 (come_far held n p k m b looks.0 looks.1 come))
