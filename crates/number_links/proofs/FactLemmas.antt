-- What is known of a number, by its links and its time.
use Rattle.std.proofs.Common.{◌≡◌, ◌≢◌, ◌⊎◌, inl, inr, ℕ, ◌<◌, true, false, List, Option, Some, None, Contains, is_some, length, set, get_or, refl, sym, ap, ◌∙◌}
use Rattle.std.specs.Option.{option_map}
use Rattle.std.proofs.lemmas.Bool.{cases_eq}
use Rattle.std.proofs.lemmas.List.{get_or-set_other, get_or-set_same}
use Rattle.number_links.specs.Facts.{Facts, Learned, learned, told}
use Rattle.number_links.specs.Known.{Known, known}

-- something is known just where links are
pub some_learned : (facts : Facts) (n : ℕ) → is_some (learned facts n) ≡ is_some (known facts.links n)
some_learned facts n = by (known facts.links n)
  where
    by : (o : Option (List ℕ)) → is_some (option_map (λ links. told links (get_or facts.times n 0)) o) ≡ is_some o
    by None = refl
    by (Some to) = refl

pub none_learned : (facts : Facts) (n : ℕ) → known facts.links n ≡ None → learned facts n ≡ None
none_learned facts n none = ap (option_map (λ links. told links (get_or facts.times n 0))) none

-- what is known of a number has links that are
pub links_learned : (facts : Facts) (n : ℕ) (one : Learned ℕ) → learned facts n ≡ Some one → (known facts.links n ≡ Some one.links) × (one ≡ told one.links (get_or facts.times n 0))
links_learned facts n one = by (known facts.links n) refl
  where
    by : (o : Option (List ℕ)) → known facts.links n ≡ o → option_map (λ links. told links (get_or facts.times n 0)) o ≡ Some one → (known facts.links n ≡ Some one.links) × (one ≡ told one.links (get_or facts.times n 0))
    by None none is = absurd (let differs : ⊥ = cc in differs)
    by (Some to) here is =
        (let same : told to (get_or facts.times n 0) ≡ one = cc in
        let links : to ≡ one.links = ap (λ (l : Learned ℕ). l.links) same in (
          here ∙ ap Some links,
          sym same ∙ ap (λ ms. told ms (get_or facts.times n 0)) links,
        ))

-- it is the same where links and time are
pub learned_same : (facts now : Facts) (n : ℕ) → known now.links n ≡ known facts.links n → get_or now.times n 0 ≡ get_or facts.times n 0 → learned now n ≡ learned facts n
learned_same facts now n links times = ap (option_map (λ ms. told ms (get_or now.times n 0))) links ∙ ap (λ t. option_map (λ ms. told ms t) (known facts.links n)) times

-- one number is learned, and its time is written
module _ (facts now : Facts) (n : ℕ) (to : List ℕ) (time : ℕ) (room : List ℕ)
    (long : n < length room) (words : (i : ℕ) → get_or room i 0 ≡ get_or facts.times i 0) (written : now.times ≡ set room n time)
    (here : known now.links n ≡ Some to) (others : (q : ℕ) → q ≢ n → known now.links q ≡ known facts.links q) where
  itself : learned now n ≡ Some (told to time)
  itself = ap (option_map (λ ms. told ms (get_or now.times n 0))) here ∙ ap (λ ts. Some (told to (get_or ts n 0))) written ∙ ap (λ t. Some (told to t)) (get_or-set_same room n time 0 long)

  pub other_stays : (q : ℕ) → q ≢ n → learned now q ≡ learned facts q
  other_stays q apart = learned_same facts now q (others q apart) (ap (λ ts. get_or ts q 0) written ∙ get_or-set_other room n q time 0 apart ∙ words q)

  pub learned_only : (q : ℕ) (one : Learned ℕ) → learned now q ≡ Some one → (learned facts q ≡ Some one) ⊎ ((q ≡ n) × (one ≡ told to time))
  learned_only q one is = elim (cases_eq q n) as (λ _. (learned facts q ≡ Some one) ⊎ ((q ≡ n) × (one ≡ told to time))) [
    | inl same ↦
        (let both : Some (told to time) ≡ Some one = sym itself ∙ ap (learned now) (sym same) ∙ is in
        let it : told to time ≡ one = cc in
        inr (same, sym it))
    | inr apart ↦ inl (sym (other_stays q apart) ∙ is)
  ]

  pub learned_there : is_some (learned now n) ≡ true
  learned_there = ap is_some itself

  pub learned_stays : known facts.links n ≡ None → (q : ℕ) → is_some (learned facts q) ≡ true → learned now q ≡ learned facts q
  learned_stays none q there = other_stays q (λ same.
      (let out : is_some (learned facts q) ≡ is_some (learned facts n) = ap (λ k. is_some (learned facts k)) same in
      let gone : is_some (learned facts n) ≡ false = ap is_some (none_learned facts n none) in
      let differs : true ≡ false = sym there ∙ out ∙ gone in
      let wrong : ⊥ = cc in wrong))

-- a number is renewed
pub learned_left : (facts : Facts) (links : Known) (n : ℕ) → ((q : ℕ) (ms : List ℕ) → known links q ≡ Some ms → (known facts.links q ≡ Some ms) × (q ≢ n) × (Contains ms n → ⊥))
    → (q : ℕ) (one : Learned ℕ) → learned (record { links = links; times = facts.times }) q ≡ Some one → (learned facts q ≡ Some one) × (q ≢ n) × (Contains one.links n → ⊥)
learned_left facts links n gone q one is =
    let now : Facts = record { links = links; times = facts.times } in
    let parts = links_learned now q one is in
    let left = gone q one.links parts.0 in (
      learned_same now facts q (left.0 ∙ sym parts.0) refl ∙ is,
      left.1,
      left.2,
    )

-- and what does not lead to it stays, if its links do
pub learned_yet : (facts : Facts) (links : Known) (n : ℕ) → ((q : ℕ) (ms : List ℕ) → known facts.links q ≡ Some ms → q ≢ n → (Contains ms n → ⊥) → known links q ≡ Some ms)
    → (q : ℕ) (one : Learned ℕ) → learned facts q ≡ Some one → q ≢ n → (Contains one.links n → ⊥) → learned (record { links = links; times = facts.times }) q ≡ Some one
learned_yet facts links n stays q one is apart away =
    let here = (links_learned facts q one is).0 in
    learned_same facts (record { links = links; times = facts.times }) q (stays q one.links here apart away ∙ sym here) refl ∙ is
