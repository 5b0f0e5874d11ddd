-- The number of the next segment is between the least and the greatest one.
use Rattle.std.proofs.Common.{◌≡◌, ◌≤◌, ℕ, Option, Some, None, IfSome, arith}
use Rattle.packed_store.specs.declared.survey.Last.{Last}
use Rattle.packed_store.specs.Numbered.{IsCalled}

pub between : (next : Option Last) (n lo hi first last : ℕ) → IsCalled next n → IfSome next (λ one. first ≤ one.segment) → IfSome next (λ one. one.segment ≤ last) → lo ≤ first → last ≤ hi → (lo ≤ n) × (n ≤ hi)
between (Some one) n lo hi first last (last_one, is, named) least most low high =
    (let same : one.segment ≡ last_one.segment = cc in (omega (arith, low, least, same, named), omega (arith, high, most, same, named)))
between None n lo hi first last (last_one, is, named) least most low high = absurd (cc)
