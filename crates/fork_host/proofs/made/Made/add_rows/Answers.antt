use Rattle.std.proofs.Common.{◌++◌, List, map, sym, ap, ◌∙◌}
use Rattle.std.specs.Prelude.{codes}
use Rattle.std.specs.List.{flat_map}
use Rattle.std.specs.FinMap.{keys}
use Rattle.git_name.proofs.TreeMaps.{entries_of_ordered}
use Rattle.git_reftx.specs.Repository.{Repository}
use Rattle.fork_model.specs.Answer.{offer_row}
use Rattle.fork_model.specs.Offer.{Pair}
use Rattle.fork_model.proofs.EntryLemmas.{pair_total}
use Rattle.fork_host.specs.Made.{Made}
use Rattle.fork_host.proofs.made.Made.add_rows.Goals as goal

pub loop-pair-init : goal.loop-pair-init
loop-pair-init c =
    ap (λ (es : List (Pair × Repository)). c.args.rows.now.items ++ flat_map (offer_row (codes "to ")) (map (λ e. e.0) es))
    (c.into_iter-pair-iterator.ensures.into_iter_gives ∙ c.iter-pair-items.ensures.rest ∙ sym (entries_of_ordered pair_total c.self.inside.offers.entries c.iter-pair-items.ensures.ordered))
    ∙ ap (λ (made : Made). c.args.rows.now.items ++ flat_map (offer_row (codes "to ")) (keys made)) c.self.view_is
