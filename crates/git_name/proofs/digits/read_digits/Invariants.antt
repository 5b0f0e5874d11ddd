use Rattle.std.proofs.Common.{◌≡◌, ◌≢◌, ◌*◌, ℕ, List, true, false, length, take}
use Rattle.hex.specs.Hex.{encode_lower}
use Rattle.git_name.specs.Name.{IsName}
use Rattle.git_name.proofs.digits.read_digits.Given as goal

-- as long as all digits are valid, the bytes write what was read; otherwise the text writes no name
abbrev pub invariant-pairs : goal.invariant-pairs
invariant-pairs l = (length l.bytes ≡ 32)
    × (l.right ≡ true → encode_lower (take l.at l.bytes) ≡ take (2 * l.at) l.fn.text)
    × (l.right ≡ false → (name : List ℕ) → IsName name → l.fn.text ≢ encode_lower name)
