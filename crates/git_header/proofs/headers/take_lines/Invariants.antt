use Rattle.std.proofs.Common.{◌≡◌, ◌≢◌, ◌++◌, ◌∷◌, [], List, ℕ, length}
use Rattle.std.specs.List.{flat_map, AllByRecursion}
use Rattle.git_name.specs.Text.{ended}
use Rattle.git_header.specs.Header.{kind_at, HeaderValue, IsHeader, header_lines}
use Rattle.git_header.proofs.headers.take_lines.Given as goal

-- what was read is valid further headers, complete with their continuation lines
abbrev pub invariant-headers : goal.invariant-headers
invariant-headers g l =
    (headers : List HeaderValue) × AllByRecursion (IsHeader (kind_at g.row.KIND)) headers × (l.text ≡ flat_map ended (flat_map header_lines headers) ++ l.rest)
    × (headers ≢ [] → (line : List ℕ) → l.rest ≢ 32 ∷ line)

abbrev pub decreases-headers : goal.decreases-headers
decreases-headers g l = length l.rest
