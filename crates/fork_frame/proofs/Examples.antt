-- Example frames, as the definitions compute them.
use Rattle.std.proofs.Common.{◌≡◌, ℕ, List, ◌∷◌, ◌++◌, codes, ap, arith}
use Rattle.std.proofs.lemmas.Fmt.{decimal_digit}
use Rattle.fork_frame.specs.declared.asker.Asker.TheVariants.{Tenant, Host}
use Rattle.fork_frame.specs.Frame.{frame_bytes}
use Rattle.fork_frame.specs.Reply.{reply_frame}

pub carol_asks : frame_bytes (record { asker = Tenant (codes "carol"); payload = codes "quota\n" }) ≡ codes "carol 6\nquota\n"
carol_asks = ap (λ (digits : List ℕ). (codes "carol" ++ 32 ∷ digits) ++ 10 ∷ codes "quota\n") (decimal_digit 6 (omega arith))

pub host_asks : frame_bytes (record { asker = Host; payload = codes "" }) ≡ codes "@host 0\n"
host_asks = ap (λ (digits : List ℕ). (codes "@host" ++ 32 ∷ digits) ++ 10 ∷ codes "") (decimal_digit 0 (omega arith))

pub done_is_told : reply_frame (codes "ok\n") ≡ codes "3\nok\n"
done_is_told = ap (λ (digits : List ℕ). digits ++ 10 ∷ codes "ok\n") (decimal_digit 3 (omega arith))
