-- Tests of all numbers of a list.
use Rattle.std.proofs.Common.{◌≡◌, ℕ, Bool, true, false, cond, List, [], ◌∷◌, refl, sym, ap, ◌∙◌, ◌&&◌}
use Rattle.std.specs.List.{Contains, list_all}
use Rattle.std.proofs.lemmas.Bool.{and_from}
use Rattle.std.proofs.lemmas.List.Elements.{Contains-append_left, Contains-append_right}
use Rattle.std.proofs.lemmas.List.Folds.{list_all_at}
use Rattle.number_links.proofs.SeeingLemmas.{sole}

-- all pass where each passes
pub all_from_each : (test : ℕ → Bool) (ns : List ℕ) → ((n : ℕ) → Contains ns n → test n ≡ true) → list_all test ns ≡ true
all_from_each test [] each = refl
all_from_each test (n ∷ ns) each =
    and_from (test n) (list_all test ns) (each n (Contains-append_left (n ∷ []) ns n (sole n))) (all_from_each test ns (λ m among. each m (Contains-append_right (n ∷ []) ns m among)))

-- each passes where all pass
pub each_from_all : (test : ℕ → Bool) (ns : List ℕ) (n : ℕ) → list_all test ns ≡ true → Contains ns n → test n ≡ true
each_from_all test ns n all among = by (test n) refl
  where
    by : (b : Bool) → test n ≡ b → test n ≡ true
    by true is = is
    by false is = (let no : true ≡ false = sym all ∙ list_all_at test ns among.0 n among.1 (ap test among.2 ∙ is) in absurd (cc))

-- two tests that agree are passed alike
pub all_alike : (one other : ℕ → Bool) (ns : List ℕ) → ((n : ℕ) → one n ≡ other n) → list_all one ns ≡ list_all other ns
all_alike one other [] same = refl
all_alike one other (n ∷ ns) same = ap (λ b. b && list_all one ns) (same n) ∙ ap (λ b. other n && b) (all_alike one other ns same)

-- a choice does not change where its second way does not
pub second_way : {X : Type 0} (b : Bool) (x y z : X) → (b ≡ false → y ≡ z) → cond b x y ≡ cond b x z
second_way true x y z same = refl
second_way false x y z same = same refl
