-- Numbers that are known to link to nothing, as more becomes known and as numbers are renewed.
use Rattle.std.proofs.Common.{◌≡◌, ◌≢◌, ◌||◌, ◌&&◌, ℕ, Bool, true, false, List, [], Some, is_some, not, nat_eq, refl, sym, ap, subst, ◌∙◌, inl, inr, arith}
use Rattle.std.specs.List.{Contains}
use Rattle.std.specs.Option.{unwrap_or}
use Rattle.number_links.specs.Known.{Known, LeadNowhere, known, linked}
use Rattle.number_links.proofs.SeeingLemmas.{either_seen, none_there}

-- what is known of them stays
pub nowhere_stays : (links now : Known) (among : ℕ → Bool) → ((q : ℕ) → is_some (known links q) ≡ true → known now q ≡ known links q) → LeadNowhere links among → LeadNowhere now among
nowhere_stays links now among stays lead q is = stays q (ap is_some (lead q is)) ∙ lead q is

-- each is known
pub nowhere_clear : (links now : Known) (among : ℕ → Bool) → ((q : ℕ) → is_some (known links q) ≡ true → known now q ≡ known links q) → LeadNowhere links among → (q : ℕ) → among q ≡ true → is_some (known now q) ≡ true
nowhere_clear links now among stays lead q is = ap is_some (nowhere_stays links now among stays lead q is)

-- none leads anywhere
pub nowhere_linked : (links : Known) (among : ℕ → Bool) → LeadNowhere links among → (q : ℕ) → among q ≡ true → linked links q ≡ []
nowhere_linked links among lead q is = ap (λ o. unwrap_or o []) (lead q is)

-- one number more
pub nowhere_more : (links : Known) (among now : ℕ → Bool) (n : ℕ) → known links n ≡ Some [] → ((q : ℕ) → now q ≡ nat_eq q n || among q) → LeadNowhere links among → LeadNowhere links now
nowhere_more links among now n is_end inserts lead q is = elim (either_seen n q (among q) (now q) (inserts q) is) [
  | inl same ↦ subst (λ m. known links m ≡ Some []) same is_end
  | inr before ↦ lead q before
]

-- a number is renewed, and is none of them any more
pub nowhere_renewed : (links now : Known) (among left : ℕ → Bool) (n : ℕ) → ((q : ℕ) (ms : List ℕ) → known links q ≡ Some ms → q ≢ n → (Contains ms n → ⊥) → known now q ≡ Some ms)
    → ((q : ℕ) → left q ≡ (not (nat_eq q n) && among q)) → LeadNowhere links among → LeadNowhere now left
nowhere_renewed links now among left n stays removes lead q is = (let parts = by (nat_eq q n) refl (sym (removes q) ∙ is) in stays q [] (lead q parts.1) parts.0 (none_there n))
  where
    by : (b : Bool) → nat_eq q n ≡ b → not b && among q ≡ true → (q ≢ n) × (among q ≡ true)
    by true same wrong = (let no : ⊥ = cc in absurd no)
    by false apart there = (λ same. (let no : true ≡ false = sym (search (arith, same)) ∙ apart in cc), there)
