-- The order of names: what begins with a name follows it, with nothing else in between.
use Rattle.std.proofs.Common.{◌≡◌, ℕ, ◌<◌, List, [], ◌∷◌, ◌++◌, refl, sym, ap, ◌∙◌, arith}
use Rattle.std.specs.declared.cmp.Ordering.{Ordering}
use Rattle.std.specs.declared.cmp.Ordering.TheVariants.{Less, Equal, Greater}
use Rattle.std.specs.Ordering.{nat_cmp, ordering_then}
use Rattle.std.proofs.lemmas.Cmp.{ranked, tied_itself, nat_cmp_total}
use Rattle.git_name.specs.Name.{name_cmp}
use Rattle.git_name.proofs.Names.{name_total}
use Rattle.git_reftx.specs.Fronts.{Before}

pub never_before_itself : (p : List ℕ) → Before p p → ⊥
never_before_itself p is = cc (sym is ∙ tied_itself name_total p)

pub never_both : (p q : List ℕ) → Before p q → Before q p → ⊥
never_both p q first second = never_before_itself p (name_total.trans p q p first second)

pub front_before : (p : List ℕ) (x : ℕ) (r : List ℕ) → Before p (p ++ x ∷ r)
front_before [] x r = refl
front_before (y ∷ p) x r = ap (λ o. ordering_then o (name_cmp p (p ++ x ∷ r))) (tied_itself nat_cmp_total y) ∙ front_before p x r

heads : (x y : ℕ) (o q a b : Ordering) → o ≡ nat_cmp x y → q ≡ nat_cmp y x → ordering_then o a ≡ Less → ordering_then q b ≡ Less → (x ≡ y) × (a ≡ Less) × (b ≡ Less)
heads x y Less Less a b o_is q_is first second = (let l : x < y = ranked x y Less o_is in let m : y < x = ranked y x Less q_is in absurd (omega arith))
heads x y Less Equal a b o_is q_is first second = (let l : x < y = ranked x y Less o_is in let m : y ≡ x = ranked y x Equal q_is in absurd (omega arith))
heads x y Less Greater a b o_is q_is first second = absurd (cc)
heads x y Equal Less a b o_is q_is first second = (let l : x ≡ y = ranked x y Equal o_is in let m : y < x = ranked y x Less q_is in absurd (omega arith))
heads x y Equal Equal a b o_is q_is first second = (ranked x y Equal o_is, first, second)
heads x y Equal Greater a b o_is q_is first second = absurd (cc)
heads x y Greater q a b o_is q_is first second = absurd (cc)

-- what is between a name and one that begins with it begins with it too
pub between : (p l r : List ℕ) → Before p l → Before l (p ++ r) → (more : List ℕ) × (l ≡ p ++ more)
between [] l r first second = (l, refl)
between (x ∷ p) [] r first second = absurd (cc)
between (x ∷ p) (y ∷ l) r first second =
    let same = heads x y (nat_cmp x y) (nat_cmp y x) (name_cmp p l) (name_cmp l (p ++ r)) refl refl first second in
    let rest = between p l r same.1 same.2 in
    (rest.0, λ i. sym same.0 i ∷ rest.1 i)
