-- Examples that the definitions compute: the path of a file.
use Rattle.std.proofs.Common.{◌≡◌, ℕ, List, [], ◌∷◌, codes, refl}
use Rattle.hex.specs.Hex.{encode_with}
use Rattle.folder_store.specs.Place.{place_of}

-- the name of the empty tree
abbrev empty : List ℕ
empty = 110 ∷ 241 ∷ 155 ∷ 65 ∷ 34 ∷ 92 ∷ 83 ∷ 105 ∷ 241 ∷ 193 ∷ 4 ∷ 212 ∷ 93 ∷ 141 ∷ 133 ∷ 239 ∷ 169 ∷ 176 ∷ 87 ∷ 181 ∷ 59 ∷ 20 ∷ 180 ∷ 185 ∷ 185 ∷ 57 ∷ 221 ∷ 116 ∷ 222 ∷ 204 ∷ 83 ∷ 33 ∷ []

pub empty_tree_lies : place_of empty ≡ codes "objects/6e/f19b41225c5369f1c104d45d8d85efa9b057b53b14b4b9b939dd74decc5321"
unfolding encode_with
empty_tree_lies = refl
