-- The name of an object is a name: a digest has 32 bytes.
use Rattle.std.proofs.Common.{ℕ, zero, suc, ◌<◌, List, [], ◌∷◌, ◌++◌, slice_index, arith}
use Rattle.std.specs.List.{AllByRecursion}
use Rattle.std.specs.Int.{byte_at, bytes_high_first, to_be_bytes, w32}
use Rattle.hex.specs.Hex.{IsBytes}
use Rattle.sha2.specs.Sha256.{digest_bytes, sha256}
use Rattle.sha2.proofs.Facts256.{length-sha256}
use Rattle.git_name.specs.Name.{IsName}
use Rattle.git_name.specs.Object.{Object, object_name, typed_bytes}

abbrev AreBytes : List ℕ → Type 0
AreBytes bytes = AllByRecursion (λ b. b < 256) bytes

-- bytes, place by place
by_place : (bytes : List ℕ) → AreBytes bytes → IsBytes bytes
by_place [] are i = omega arith
by_place (b ∷ bytes) are zero = are.0
by_place (b ∷ bytes) are (suc i) = by_place bytes are.1 i

-- a byte of a word
byte_small : (k n : ℕ) → byte_at k n < 256
byte_small zero n = omega arith
byte_small (suc k) n = omega arith

word_bytes : (k n : ℕ) → AreBytes (bytes_high_first k n)
word_bytes zero n = tt
word_bytes (suc k) n = (byte_small k n, word_bytes k n)

both_bytes : (front rest : List ℕ) → AreBytes front → AreBytes rest → AreBytes (front ++ rest)
both_bytes [] rest are more = more
both_bytes (b ∷ front) rest are more = (are.0, both_bytes front rest are.1 more)

-- the words of a hash value
words_bytes : (h : List ℕ) (n : ℕ) → AreBytes (digest_bytes h n)
unfolding digest_bytes
words_bytes h zero = tt
words_bytes h (suc n) = both_bytes (digest_bytes h n) (to_be_bytes w32 (slice_index h n)) (words_bytes h n) (word_bytes 4 (slice_index h n))

digest_are_bytes : (m : List ℕ) → AreBytes (sha256 m)
unfolding sha256
digest_are_bytes m = words_bytes _ 8

-- the name of any object
pub is_name-object_name : (object : Object) → IsName (object_name object)
unfolding object_name
is_name-object_name object = record { length = length-sha256 (typed_bytes object); bytes = by_place (sha256 (typed_bytes object)) (digest_are_bytes (typed_bytes object)) }
