use Rattle.std.proofs.Common.{sym, ap, subst, ◌∙◌, [], unwrap_or, map as mapped}
use Rattle.std.specs.FinMap as map
use Rattle.std.specs.List.Sorted.{IsStrictlySortedBy}
use Rattle.git_name.specs.Name.{name_cmp}
use Rattle.shared_map.specs.Chunks.{joined}
use Rattle.shared_map.proofs.ChangeLemmas.{entries_risen, sorted_of}
use Rattle.shared_map.proofs.map.SharedMap.iter.Goals as goal

pub returns-clause-entries : goal.returns-clause-entries
returns-clause-entries c =
    c.new.ensures ∙ ap joined c.slice_of.ensures ∙ sym (entries_risen (joined (unwrap_or c.self.inside.chunks [])) c.self.invariant.order) ∙ ap map.entries c.self.view_is

pub returns-clause-ordered : goal.returns-clause-ordered
returns-clause-ordered c =
    let es = joined (unwrap_or c.self.inside.chunks []) in
    subst (λ l. IsStrictlySortedBy name_cmp (mapped (λ e. e.0) l)) (sym (entries_risen es c.self.invariant.order) ∙ ap map.entries c.self.view_is) (sorted_of es c.self.invariant.order)
