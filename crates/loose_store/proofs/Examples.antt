-- Examples that the definitions compute: a stored file, and a fuse.
use Rattle.std.proofs.Common.{◌≡◌, ℕ, List, [], ◌∷◌, ◌++◌, codes, ap, arith, refl, None}
use Rattle.std.proofs.lemmas.Fmt.{decimal_digit}
use Rattle.git_name.specs.declared.kind.Kind.TheVariants.{Blob}
use Rattle.git_name.specs.Object.{typed_bytes}
use Rattle.loose_store.specs.Fuse.{burnt}

pub hello_is_stored : typed_bytes (record { kind = Blob; bytes = codes "hello\n" }) ≡ codes "blob 6" ++ 0 ∷ codes "hello\n"
hello_is_stored = ap (λ (digits : List ℕ). (codes "blob" ++ 32 ∷ digits ++ 0 ∷ []) ++ codes "hello\n") (decimal_digit 6 (omega arith))

-- one call passes, the next one fails, and all later ones pass
pub fuse_burns_down : burnt (burnt (burnt (record { kind = None; pass = 1; fail = 1 }))) ≡ record { kind = None; pass = 0; fail = 0 }
fuse_burns_down = refl
