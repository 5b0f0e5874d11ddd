use Rattle.std.proofs.Common.{◌∙◌}
use Rattle.git_name.proofs.SortedNames.{sorted_entries, sorted_keys}
use Rattle.object_table.specs.Views.{words_of}
use Rattle.object_table.specs.Words.{is_visible, words_that}
use Rattle.object_table.proofs.ListingLemmas.{listed_alike}
use Rattle.object_table.proofs.listing.seen_names.Goals as goal

pub returns : goal.returns
returns c =
    let shown = words_that is_visible (words_of c.args.table.now.entries c.args.own.now) in
    sorted_keys shown c.in_ok-names.names.items c.sort_unstable.new.self.items (sorted_entries shown) c.sort_unstable.ensures.permutation c.sort_unstable.ensures.sorted c.in_ok-names.ensures.distinct
    (λ q. listed_alike c.in_ok-names.names.items q ∙ c.in_ok-names.ensures.listed q)
