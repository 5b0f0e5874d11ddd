-- How damage to the files of objects is reported (own): a line for each, `lost NAME` or `damaged NAME`.
use Rattle.std.specs.Prelude.{ℕ, List, ◌++◌, codes, flat_map}
use Rattle.hex.specs.Hex.{encode_lower}
use Rattle.fork_request.specs.declared.harm.Harm.{Harm}
use Rattle.fork_request.specs.declared.harm.Harm.TheVariants.{Lost, Damaged}

-- the word of a harm
abbrev pub harm_word : Harm → List ℕ
harm_word Lost = codes "lost"
harm_word Damaged = codes "damaged"

-- names of objects, each with its harm
abbrev pub Harmed : Type 0
Harmed = List (List ℕ × Harm)

-- the line of an object
abbrev pub harm_line : List ℕ × Harm → List ℕ
harm_line entry = harm_word entry.1 ++ codes " " ++ encode_lower entry.0 ++ codes "\n"

-- the lines of all objects
abbrev pub harm_lines : Harmed → List ℕ
harm_lines harms = flat_map harm_line harms
