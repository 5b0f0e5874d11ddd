use Rattle.std.proofs.Common.{List, ℕ, ap, ◌∙◌}
use Rattle.std.specs.FinMap as map
use Rattle.std.specs.List.{list_any}
use Rattle.git_reftx.specs.Transaction.{stands_above}
use Rattle.git_reftx.proofs.NearLemmas.{told_above}
use Rattle.git_reftx.proofs.above.has_above.Goals as goal

pub returns : goal.returns
returns c =
    let names = map.keys c.args.references.now in
    c.is_some.ensures ∙ told_above c.front_above.result names c.as_bytes.result.now c.front_above.ensures.found c.front_above.ensures.none
    ∙ ap (λ (n : List ℕ). list_any (λ upper. stands_above upper n) names) c.as_bytes.ensures.bytes
