-- The names of objects in listings of their folders (own).
use Rattle.std.specs.Prelude.{ℕ, zero, suc, List, [], ◌∷◌, ◌++◌, Option, Some, None, codes, flat_map}
use Rattle.hex.specs.Hex.{encode_lower}
use Rattle.git_name.specs.Name.{name_in}
use Rattle.devices.specs.Device.{names_in_folder}
use Rattle.folder_store.specs.Place.{home_with, name_of_parts}

-- a name, or none
abbrev pub one_or_none : Option (List ℕ) → List (List ℕ)
one_or_none (Some name) = name ∷ []
one_or_none None = []

-- the names whose files are called so in the folder of two digits
abbrev pub names_called : List ℕ → List (List ℕ) → List (List ℕ)
names_called front called = flat_map (λ rest. one_or_none (name_of_parts front rest)) called

-- the names whose swept files are called so
abbrev pub names_spelled : List (List ℕ) → List (List ℕ)
names_spelled called = flat_map (λ digits. one_or_none (name_in digits)) called

-- the names of the swept files, among paths
abbrev pub names_swept : List (List ℕ) → List (List ℕ)
names_swept paths = names_spelled (names_in_folder (codes "swept/") paths)

-- the names that begin with this byte, among paths
abbrev pub names_at : ℕ → List (List ℕ) → List (List ℕ)
names_at first paths = names_called (encode_lower (first ∷ [])) (names_in_folder (home_with (first ∷ [])) paths)

-- the names that begin with a byte below this one, among paths
unfoldable pub names_below : ℕ → List (List ℕ) → List (List ℕ)
names_below zero paths = []
names_below (suc first) paths = names_below first paths ++ names_at first paths
