use Rattle.std.proofs.Common.{List, ℕ, ap, ◌∙◌}
use Rattle.std.specs.FinMap as map
use Rattle.std.specs.List.{list_any}
use Rattle.git_refname.specs.Rule.{begins}
use Rattle.git_reftx.specs.Transaction.{References, stands_above}
use Rattle.git_reftx.proofs.ref_map.RefMap.has_below.Goals as goal

pub returns : goal.returns
returns c =
    c.begins_one.ensures ∙ ap (λ (f : List ℕ). list_any (begins f) (map.keys c.self.inside.references)) c.write_front.ensures
    ∙ ap (λ (n : List ℕ). list_any (stands_above n) (map.keys c.self.inside.references)) c.as_bytes-text.ensures.bytes
    ∙ ap (λ (m : References). list_any (stands_above c.args.name.now) (map.keys m)) c.self.view_is
