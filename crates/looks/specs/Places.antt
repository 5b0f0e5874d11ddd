-- Names in places, and the place of the next look (own). Nothing here depends on code or on a store.
use Rattle.std.specs.Coded.{Coded, code_by, coded×, coded_list, coded_ℕ}
use Rattle.std.specs.Prelude.{ℕ, List, length, nat_lt, refl, if◌then◌else◌}

-- names, each at a place, and the place of the next look
pub record Places : Type 0 where
  pub names : List (List ℕ)
  pub place : ℕ

-- where a look falls: a place at the list's end is first set to its beginning
abbrev pub looked_at : Places → ℕ
looked_at places = if nat_lt places.place (length places.names) then places.place else 0

-- the place set to the beginning
abbrev pub at_start : Places → Places
at_start places = record { names = places.names; place = 0 }

-- places have a code, so that they can be part of a model's value
abbrev pub places_code : Coded Places
places_code = code_by (List (List ℕ) × ℕ) (coded× (coded_list (coded_list coded_ℕ)) coded_ℕ) (λ places. (places.names, places.place)) (λ p. record { names = p.0; place = p.1 }) (λ _. refl)
