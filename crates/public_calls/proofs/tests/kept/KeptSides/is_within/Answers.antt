use Rattle.std.proofs.Common.{◌≡◌, ℕ, ◌+◌, List, sym, ap, ◌∙◌, rules, map as mapped}
use Rattle.std.specs.Prelude.{sum_by}
use Rattle.std.specs.FinMap.{from_entries}
use Rattle.std.specs.List.Sorted.{IsStrictlySortedBy}
use Rattle.git_name.specs.Name.{name_cmp}
use Rattle.git_name.specs.Object.{Object}
use Rattle.git_name.proofs.Names.{name_total}
use Rattle.git_name.proofs.TreeMaps.{entries_of_ordered}
use Rattle.fork_reach.specs.Objects.{use_of, use_of_object}
use Rattle.public_calls.proofs.tests.kept.KeptSides.is_within.Goals as goal

-- what the objects of ordered entries use
use_of_entries : (es : List (List ℕ × Object)) → IsStrictlySortedBy name_cmp (mapped (λ e. e.0) es) → use_of (from_entries {R = name_cmp} es) ≡ sum_by use_of_object (mapped (λ e. e.1) es)
unfolding use_of
use_of_entries es sorted = ap (λ fs. sum_by use_of_object (mapped (λ e. e.1) fs)) (entries_of_ordered name_total es sorted)

pub loop-sealed-init : goal.loop-sealed-init
loop-sealed-init c =
    let same : c.into_iter-sealed-iterator.result ≡ mapped (λ e. e.1) c.args.self.now.objects.entries = search rules in
    ap (λ n. c.args.limit + n) (use_of_entries c.args.self.now.objects.entries c.values-sealed-items.ensures.ordered ∙ ap (sum_by use_of_object) (sym same))
