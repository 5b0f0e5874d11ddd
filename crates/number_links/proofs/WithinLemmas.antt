-- One set within another, part by part.
use Rattle.std.proofs.Common.{◌≡◌, ℕ, ◌/◌, ◌%◌, ◌<◌, ◌≤◌, true, false, List, None, is_some, length, get_or, sym, ap, ◌∙◌, arith, inl, inr}
use Rattle.std.proofs.lemmas.Bool.{cases_lt}
use Rattle.std.proofs.lemmas.List.{get_or_past}
use Rattle.number_links.specs.Numbers.{Pages, has, has_bit, has_room, is_in, is_there}
use Rattle.number_links.proofs.PageLemmas.{zero_has}

-- all words of a page were compared
pub page_within : (own other : List ℕ) (at : ℕ) → length own ≤ at → ((i k : ℕ) → i < at → has_bit (get_or own i 0) k ≡ true → has_bit (get_or other i 0) k ≡ true) → (q : ℕ) → is_in own q ≡ true → is_in other q ≡ true
unfolding is_in
page_within own other at all parts q is = elim (cases_lt (q / 64) at) [
  | inl inside ↦ parts (q / 64) (q % 64) inside is
  | inr past ↦
      (let no : true ≡ false = sym is ∙ ap (λ w. has_bit w (q % 64)) (get_or_past own (q / 64) 0 (omega (arith, all, past))) ∙ zero_has (q % 64) in
      let wrong : ⊥ = cc in absurd wrong)
]

-- the pages that both have were compared, and there are no others
pub set_within : (own other : Pages) (common at end : ℕ) → common ≤ at → length own ≤ end → ((i k : ℕ) → i < at → is_there (get_or own i None) k ≡ true → is_there (get_or other i None) k ≡ true)
    → ((i : ℕ) → common ≤ i → i < end → get_or own i None ≡ None) → (q : ℕ) → has own q ≡ true → has other q ≡ true
unfolding has
set_within own other common at end first all parts none q is = elim (cases_lt (q / 4096) at) [
  | inl inside ↦ parts (q / 4096) (q % 4096) inside is
  | inr past ↦ elim (cases_lt (q / 4096) end) [
    | inl within ↦
        (let no : true ≡ false = sym is ∙ ap (λ p. is_there p (q % 4096)) (none (q / 4096) (omega (arith, first, past)) within) in
        let wrong : ⊥ = cc in absurd wrong)
    | inr beyond ↦
        (let no : true ≡ false = sym is ∙ ap (λ p. is_there p (q % 4096)) (get_or_past own (q / 4096) None (omega (arith, all, beyond))) in
        let wrong : ⊥ = cc in absurd wrong)
  ]
]

-- ---- the same numbers, and room for those of another set
pub has_alike : (own now : Pages) → ((i k : ℕ) → is_there (get_or now i None) k ≡ is_there (get_or own i None) k) → (q : ℕ) → has now q ≡ has own q
unfolding has
has_alike own now alike q = alike (q / 4096) (q % 4096)

pub room_of : (other own : Pages) (at : ℕ) → length other ≤ at → ((i : ℕ) → i < at → is_some (get_or other i None) ≡ true → is_some (get_or own i None) ≡ true) → (q : ℕ) → has_room other q ≡ true → has_room own q ≡ true
unfolding has_room
room_of other own at all pages q room = elim (cases_lt (q / 4096) at) [
  | inl inside ↦ pages (q / 4096) inside room
  | inr past ↦
      (let no : true ≡ false = sym room ∙ ap is_some (get_or_past other (q / 4096) None (omega (arith, all, past))) in
      let wrong : ⊥ = cc in absurd wrong)
]
