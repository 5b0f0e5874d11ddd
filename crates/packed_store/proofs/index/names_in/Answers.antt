use Rattle.std.proofs.Common.{is_some, ap, subst, sym, ◌∙◌}
use Rattle.std.specs.BTreeMap.{is_at}
use Rattle.std.specs.FinMap as map
use Rattle.std.specs.List.Sorted.{IsPermutation}
use Rattle.std.specs.Map.{keys_of}
use Rattle.std.proofs.lemmas.Map.Made.{is_some-lookup}
use Rattle.git_name.specs.Name.{name_cmp}
use Rattle.git_name.proofs.Names.{name_total}
use Rattle.git_name.proofs.SortedNames.{sorted_entries, sorted_keys}
use Rattle.git_name.proofs.TreeMaps.{get_of_entries}
use Rattle.packed_store.proofs.index.names_in.Goals as goal

pub returns : goal.returns
returns c =
    let es = c.args.index.now.entries in
    let files = map.from_entries {R = name_cmp} es in
    sorted_keys files (keys_of es) c.sort_unstable.new.self.items (sorted_entries files)
    (subst (λ ns. IsPermutation ns c.sort_unstable.new.self.items) c.in_ok-names.ensures.names c.sort_unstable.ensures.permutation) c.sort_unstable.ensures.sorted c.listed.ensures.distinct
    (λ q. sym (is_some-lookup (is_at (name_cmp q)) es) ∙ ap is_some (sym (get_of_entries name_total es q)))
