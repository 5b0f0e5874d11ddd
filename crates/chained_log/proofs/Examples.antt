-- Example digests, as the definition computes them. They are those of `siphash13` of CPython 3.11, whose keys are 0 if its hash seed is.
use Rattle.std.proofs.Common.{◌≡◌, [], ◌∷◌, codes, refl}
use Rattle.std.specs.Hash.DefaultHasher.{initial, round, write, write_byte, write_word, finish}
use Rattle.chained_log.specs.Log.{digest}

pub digest_of_one : digest [] (codes "a") ≡ 0x40 ∷ 0x74 ∷ 0x48 ∷ 0xd2 ∷ 0xb8 ∷ 0x9b ∷ 0x18 ∷ 0x13 ∷ []
unfolding digest initial round write write_byte write_word finish
digest_of_one = refl

pub digest_of_eight : digest (codes "abc") (codes "defgh") ≡ 0x3f ∷ 0x7b ∷ 0x84 ∷ 0x9c ∷ 0x0b ∷ 0x8e ∷ 0x35 ∷ 0xea ∷ []
unfolding digest initial round write write_byte write_word finish
digest_of_eight = refl
