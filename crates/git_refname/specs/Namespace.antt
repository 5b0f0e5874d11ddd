-- Namespaces of references (gitnamespaces(7)): `a/b` expands to `refs/namespaces/a/refs/namespaces/b/`.
use Rattle.std.specs.Prelude.{ℕ, List, ◌++◌, codes}
use Rattle.std.specs.List.{flat_map}

-- a namespace with one name
abbrev pub namespace : List ℕ → List ℕ
namespace name = codes "refs/namespaces/" ++ name ++ codes "/"

-- a nested namespace, by its names from the outermost to the innermost
abbrev pub expanded : List (List ℕ) → List ℕ
expanded names = flat_map namespace names
