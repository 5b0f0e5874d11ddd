use Rattle.std.proofs.Common.{sym, subst}
use Rattle.std.specs.FinMap as map
use Rattle.std.specs.List.{IsDistinct, zip}
use Rattle.std.specs.List.Sorted.{IsPermutation}
use Rattle.git_name.specs.Same.{same_name}
use Rattle.fork_reach.proofs.KeyLemmas.{entries_reordered}
use Rattle.fork_reach.proofs.NoteLemmas.{keys_noted}
use Rattle.fork_reach.proofs.history.History.commits.Goals as goal

pub returns-clause-entries : goal.returns-clause-entries
returns-clause-entries c =
    let names = c.self.inside.names.keys in
    let notes = c.self.inside.notes.items in
    let distinct = subst (IsDistinct same_name) (sym (keys_noted names notes c.self.invariant)) c.as_slice.ensures.unique in
    subst (λ ns. IsPermutation (map.entries c.args.self.now) (zip ns c.«as_slice-2».result.now)) (sym c.as_slice.ensures.keys)
    (subst (λ ns. IsPermutation (map.entries c.args.self.now) (zip names ns)) (sym c.«as_slice-2».ensures.value)
    (subst (λ all. IsPermutation (map.entries all) (zip names notes)) c.self.view_is (entries_reordered (zip names notes) distinct)))
