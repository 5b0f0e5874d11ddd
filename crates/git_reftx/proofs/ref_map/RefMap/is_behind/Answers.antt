use Rattle.std.proofs.Common.{not, is_lt, List, ℕ, ap, ◌∙◌}
use Rattle.std.specs.FinMap as map
use Rattle.std.specs.List.{find}
use Rattle.git_name.specs.Name.{name_cmp}
use Rattle.git_reftx.specs.Transaction.{References}
use Rattle.git_reftx.proofs.NearLemmas.{told_behind}
use Rattle.git_reftx.proofs.ref_map.RefMap.is_behind.Goals as goal

pub returns : goal.returns
returns c =
    told_behind c.first_from.result (map.keys c.args.self.now) c.args.name.now c.is_none.result
    (c.first_from.ensures ∙ ap (λ (n : List ℕ). find (λ other. not (is_lt (name_cmp other n))) (map.keys c.self.inside.references)) c.as_bytes.ensures.bytes
    ∙ ap (λ (m : References). find (λ other. not (is_lt (name_cmp other c.args.name.now))) (map.keys m)) c.self.view_is) c.is_none.ensures
