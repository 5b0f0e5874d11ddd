-- Borrowed bytes as a value, without their address.
use Rattle.std.specs.Prelude.{ℕ, List, Option, Some, None}
use Rattle.std.specs.Borrow.{Bor}

abbrev pub message_of : Option (Bor (List ℕ)) → Option (List ℕ)
message_of None = None
message_of (Some message) = Some message.now
