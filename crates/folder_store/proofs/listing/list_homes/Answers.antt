use Rattle.std.proofs.Common.{sym, ap, ◌++◌, List, ℕ, ◌∙◌}
use Rattle.std.specs.FinMap as map
use Rattle.devices.specs.Device.{files_of}
use Rattle.folder_store.specs.Listing.{names_at}
use Rattle.folder_store.proofs.ListingLemmas.{below_more, none_below}
use Rattle.folder_store.proofs.listing.list_homes.Goals as goal

pub loop-first-init : goal.loop-first-init
loop-first-init g c _ = c.new-names.ensures.items ∙ sym (none_below (map.keys (files_of (g.D.Device.past c.args.device.now))))

pub loop-first-preserved : goal.loop-first-preserved
loop-first-preserved g c honest =
    let paths = map.keys (files_of (g.D.Device.past c.args.device.now)) in
    below_more c.loop-first.first paths c.list_home.new.names.items
    (c.in_ok-list_home.ensures honest ∙ ap (λ (xs : List (List ℕ)). xs ++ names_at c.loop-first.first paths) (c.loop-first.invariant honest))
