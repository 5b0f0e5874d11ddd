-- What a survey says of a name of a listing (own).
use Rattle.std.specs.Prelude.{◌≡◌, ℕ, Option, Some}
use Rattle.packed_store.specs.declared.survey.Last.{Last}

-- it found the segment of this number
abbrev pub IsCalled : Option Last → ℕ → Type 0
IsCalled next segment = (last : Last) × (next ≡ Some last) × (last.segment ≡ segment)
