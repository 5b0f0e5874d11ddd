-- Slices one after another: every name that they leave is held.
use Rattle.std.proofs.Common.{◌≡◌, ℕ, zero, suc, ◌<◌, ◌≤◌, ◌+◌, ◌*◌, ◌⊎◌, inl, inr, List, [], ◌∷◌, ◌++◌, length, Bool, true, false, refl, sym, ap, subst, ◌∙◌, arith, length-append}
use Rattle.std.specs.Prelude.{nat_lt, sum}
use Rattle.std.proofs.lemmas.Bool.{ltb-true, ltb-false}
use Rattle.std.proofs.lemmas.List.Sums.{sum_by-cons}
use Rattle.git_name.specs.Same.{is_listed}
use Rattle.looks.specs.Places.{Places}
use Rattle.looks.specs.Looks.{Look, Looks}
use Rattle.looks.specs.Looks.Look.{Stays, Leaves}
use Rattle.looks.specs.Slices.{SweepsAll}
use Rattle.looks.proofs.HeldLemmas.{Each, empty_of, listed_held}
use Rattle.looks.proofs.ComeLemmas.{Come, all_passed, come_far}
use Rattle.looks.proofs.ComeLemmas.Come.{First, Round, Done}

-- an empty list has no name to look at
nothing_there : (front back : List (List ℕ)) (name : List ℕ) → [] ≡ front ++ name ∷ back → ⊥
nothing_there front back name e = let bad : 0 ≡ length front + suc (length back) = ap length e ∙ length-append front (name ∷ back) in omega (arith, bad)

no_look : (held : List ℕ → Bool) (b c : Places) → b.names ≡ [] → Look held b c → ⊥
no_look held b c none (Stays front back name whole at is names place) = nothing_there front back name (sym none ∙ whole)
no_look held b c none (Leaves front back rest name whole at free names moved place) = nothing_there front back name (sym none ∙ whole)

-- and stays empty
still_empty : (held : List ℕ → Bool) (m : ℕ) (b c : Places) → b.names ≡ [] → Looks held m b c → c.names ≡ []
still_empty held zero b c none looks = ap (λ (x : Places). x.names) looks ∙ none
still_empty held (suc m) b c none looks = absurd (no_look held looks.0 c (still_empty held m b looks.0 none looks.1) looks.2)

all_empty : (held : List ℕ → Bool) (ks : List ℕ) (b c : Places) → b.names ≡ [] → SweepsAll held ks b c → c.names ≡ []
all_empty held [] b c none sweeps = ap (λ (x : Places). x.names) sweeps ∙ none
all_empty held (k ∷ ks) b c none sweeps = all_empty held ks sweeps.0 c (still_empty held sweeps.1.count b sweeps.0 none sweeps.1.looks) sweeps.2

by_count : (G : Type 0) (m k : ℕ) → m ≤ k → (m < k → G) → (m ≡ k → G) → G
by_count G m k few f g = go (nat_lt m k) refl
  where
    go : (b : Bool) → nat_lt m k ≡ b → G
    go true e = f (ltb-true m k e)
    go false e = g (omega (arith, ltb-false m k e, few))

add_over : (a b c : ℕ) → a + b + c ≡ a + (b + c)
add_over a b c = omega arith

-- slices that do not empty the list come as far as they have looks
come_all : (held : List ℕ → Bool) (n p k : ℕ) (ks : List ℕ) (b c : Places) → SweepsAll held ks b c → Come held n p k b → Come held n p (k + sum ks) c ⊎ (c.names ≡ [])
come_all held n p k [] b c sweeps come = inl (subst (λ m. Come held n p m c) (omega arith) (subst (Come held n p k) (sym sweeps) come))
come_all held n p k (j ∷ ks) b c sweeps come =
    let s = sweeps.1 in
    by_count _ s.count j s.few
    (λ less. inr (all_empty held ks sweeps.0 c (s.fewer less) sweeps.2))
    (λ all. go (come_all held n p (k + s.count) ks sweeps.0 c sweeps.2 (come_far held n p k s.count b sweeps.0 s.looks come)) all)
  where
    go : Come held n p (k + sweeps.1.count + sum ks) c ⊎ (c.names ≡ []) → sweeps.1.count ≡ j → Come held n p (k + sum (j ∷ ks)) c ⊎ (c.names ≡ [])
    go (inl come') all = inl (subst (λ m. Come held n p m c) (add_over k sweeps.1.count (sum ks) ∙ ap (λ i. k + (i + sum ks)) all ∙ ap (λ i. k + i) (sym (sum_by-cons (λ x. x) j ks))) come')
    go (inr none) all = inr none

-- after twice as many looks as there were names, each name is held
come_end : (held : List ℕ → Bool) (n p k : ℕ) (c : Places) → p ≤ n → 2 * n ≤ k → Come held n p k c → Each held c.names
come_end held n p k c within enough (First few inside far) = subst (Each held) (sym (empty_of c.names (omega (arith, few, inside, far, enough)))) tt
come_end held n p k c within enough (Round passed few far) = all_passed held c passed (omega (arith, far, enough))
come_end held n p k c within enough (Done all) = all

each_end : (held : List ℕ → Bool) (n p k : ℕ) (c : Places) → p ≤ n → 2 * n ≤ k → Come held n p k c ⊎ (c.names ≡ []) → Each held c.names
each_end held n p k c within enough (inl come) = come_end held n p k c within enough come
each_end held n p k c within enough (inr none) = subst (Each held) (sym none) tt

-- after enough looks, each name that slices leave is held
pub swept : (held : List ℕ → Bool) (ks : List ℕ) (old new : Places) → old.place ≤ length old.names → 2 * length old.names ≤ sum ks → SweepsAll held ks old new
    → (name : List ℕ) → is_listed new.names name ≡ true → held name ≡ true
swept held ks old new within enough sweeps name is =
    listed_held held new.names name (each_end held (length old.names) old.place (0 + sum ks) new within (omega (arith, enough))
    (come_all held (length old.names) old.place 0 ks old new sweeps (First (omega arith) within (omega arith)))) is
