-- Offers are ordered by receiver, then by repository.
use Rattle.std.proofs.Common.{◌≡◌, ℕ, ◌<◌, ◌≤◌, true, false, nat_eq, nat_le, ◌&&◌, ◌||◌, All, ⊎_elim, List, [], ◌∷◌, ◌++◌, codes, refl, sym, ap, ◌∙◌, append_assoc, arith}
use Rattle.std.specs.List.{AllByRecursion}
use Rattle.std.specs.Ordering.{nat_cmp, ordering_then}
use Rattle.std.specs.Cmp.{nat_cmp_is}
use Rattle.std.specs.declared.cmp.Ordering.{Ordering}
use Rattle.std.specs.declared.cmp.Ordering.TheVariants.{Less, Equal, Greater}
use Rattle.std.proofs.lemmas.Bool.{cases_lt}
use Rattle.std.proofs.lemmas.Bool.Decides.{nat_tests}
use Rattle.std.proofs.lemmas.List.Elements.{All-head, All-tail}
use Rattle.git_name.specs.Name.{name_cmp}
use Rattle.fork_request.specs.Names.{IsPlainName, IsTenantName, stands_in_a_name}
use Rattle.state_text.specs.Offer.{Offer, offer_words, words_of_offer}

then_assoc : (o p q : Ordering) → ordering_then o (ordering_then p q) ≡ ordering_then (ordering_then o p) q
then_assoc Less p q = refl
then_assoc Equal p q = refl
then_assoc Greater p q = refl

-- words before a SP decide first
before_space : (a b x y : List ℕ) → AllByRecursion (λ c. 32 < c) a → AllByRecursion (λ c. 32 < c) b → name_cmp (a ++ 32 ∷ x) (b ++ 32 ∷ y) ≡ ordering_then (name_cmp a b) (name_cmp x y)
before_space [] [] x y above others = refl
before_space [] (d ∷ b) x y above others = ap (λ o. ordering_then o (name_cmp x (b ++ 32 ∷ y))) (sym (nat_cmp_is 32 d Less others.0))
before_space (c ∷ a) [] x y above others = ap (λ o. ordering_then o (name_cmp (a ++ 32 ∷ x) y)) (sym (nat_cmp_is c 32 Greater above.0))
before_space (c ∷ a) (d ∷ b) x y above others = ap (ordering_then (nat_cmp c d)) (before_space a b x y above.1 others.1) ∙ then_assoc (nat_cmp c d) (name_cmp a b) (name_cmp x y)

below : (byte : ℕ) → byte ≤ 32 → stands_in_a_name byte ≡ false
below byte not =
    let letter : nat_le 97 byte ≡ false = grind (arith, nat_tests) in
    let digit : nat_le 48 byte ≡ false = grind (arith, nat_tests) in
    let dash : nat_eq byte 45 ≡ false = grind (arith, nat_tests) in
    let low_line : nat_eq byte 95 ≡ false = grind (arith, nat_tests) in
    λ i. (letter i && nat_le byte 122) || (digit i && nat_le byte 57) || dash i || low_line i

above_space : (byte : ℕ) → stands_in_a_name byte ≡ true → 32 < byte
above_space byte is = ⊎_elim (λ above. above) (λ not. absurd (let both : true ≡ false = sym is ∙ below byte not in cc both)) (cases_lt 32 byte)

above_all : (name : List ℕ) → All (λ byte. stands_in_a_name byte ≡ true) name → AllByRecursion (λ c. 32 < c) name
above_all [] stand = tt
above_all (c ∷ name) stand = (above_space c (All-head (λ byte. stands_in_a_name byte ≡ true) c name stand), above_all name (All-tail (λ byte. stands_in_a_name byte ≡ true) c name stand))

-- the words of offers are ordered by receiver, then by repository
pub words_cmp : (most most_too : ℕ) (a b x y : List ℕ) → IsPlainName most a → IsPlainName most_too b → name_cmp (offer_words a x) (offer_words b y) ≡ ordering_then (name_cmp a b) (name_cmp x y)
words_cmp most most_too a b x y named named_too =
    (λ i. name_cmp (append_assoc a (codes " ") x i) (append_assoc b (codes " ") y i)) ∙ before_space a b x y (above_all a named.bytes) (above_all b named_too.bytes)

-- and so are offers
pub offers_cmp : (a b : Offer) (one two : List ℕ) (order : Ordering) → IsTenantName a.receiver → IsTenantName b.receiver → one ≡ a.receiver → two ≡ b.receiver → order ≡ name_cmp one two
    → name_cmp (words_of_offer a) (words_of_offer b) ≡ ordering_then order (name_cmp a.name b.name)
offers_cmp a b one two order named named_too is is_too compared =
    words_cmp _ _ a.receiver b.receiver a.name b.name named named_too ∙ ap (λ o. ordering_then o (name_cmp a.name b.name)) ((λ i. name_cmp (sym is i) (sym is_too i)) ∙ sym compared)
