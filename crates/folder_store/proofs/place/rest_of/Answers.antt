use Rattle.std.proofs.Common.{IfOk, List, ℕ, ap, ◌∙◌, string_bytes, take, drop, subst, ◌≡◌}
use Rattle.hex.specs.Hex.{encode_lower}
use Rattle.folder_store.proofs.PlaceLemmas.{rest_of}
use Rattle.folder_store.proofs.place.rest_of.Goals as goal

pub returns : goal.returns
returns c =
    subst (λ (xs : List ℕ). IfOk c.encode.result (λ rest. string_bytes rest ≡ xs)) (ap (λ bytes. encode_lower (take 31 (drop 1 bytes))) c.as_bytes.ensures.bytes ∙ ap encode_lower (rest_of c.args.name c.as_bytes.ensures.name.length)) c.encode.ensures
