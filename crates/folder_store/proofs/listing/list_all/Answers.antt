use Rattle.std.proofs.Common.{Bool, List, ℕ, ap, subst, sym, ◌∙◌}
use Rattle.std.specs.FinMap as map
use Rattle.std.specs.List.Sorted.{IsPermutation}
use Rattle.std.proofs.lemmas.List.Filters.{dedup_is}
use Rattle.git_name.specs.Same.{same_name}
use Rattle.devices.specs.Device.{files_of}
use Rattle.folder_store.specs.Contents.{contents_in}
use Rattle.folder_store.proofs.ListingLemmas.{sorted_listing}
use Rattle.folder_store.proofs.listing.list_all.Goals as goal

pub returns : goal.returns
returns g c honest =
    sorted_listing (files_of (g.D.Device.past c.args.device.now)) c.sort_unstable.new.self.items c.dedup.new.self.items
    (subst (λ (ns : List (List ℕ)). IsPermutation ns c.sort_unstable.new.self.items) (c.in_ok-names.ensures honest) c.sort_unstable.ensures.permutation)
    c.sort_unstable.ensures.sorted (dedup_is same_name _ _ c.dedup.ensures.filtered)
    ∙ ap (λ (b : Bool). map.keys (contents_in b (g.D.Device.past c.args.device.now))) (sym honest)
