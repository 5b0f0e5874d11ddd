use Rattle.std.proofs.Common.{◌++◌, [], List, map, sym, ap, ◌∙◌}
use Rattle.std.specs.Prelude.{codes, if◌then◌else◌}
use Rattle.std.specs.List.{flat_map}
use Rattle.git_name.specs.Same.{same_name}
use Rattle.git_name.proofs.TreeMaps.{entries_of_ordered}
use Rattle.git_reftx.specs.Repository.{Repository}
use Rattle.fork_model.specs.Answer.{offer_row}
use Rattle.fork_model.specs.Offer.{Pair}
use Rattle.fork_model.proofs.EntryLemmas.{pair_total}
use Rattle.fork_host.specs.Made.{Made, rows_from}
use Rattle.fork_host.proofs.made.Made.add_rows_to.Goals as goal

pub loop-pair-init : goal.loop-pair-init
loop-pair-init c =
    ap (λ (es : List (Pair × Repository)). c.args.rows.now.items ++ flat_map (λ (key : Pair). if same_name key.0 c.args.receiver.now then offer_row (codes "from ") (c.args.giver.now, key.1) else []) (map (λ e. e.0) es))
    (c.into_iter-pair-iterator.ensures.into_iter_gives ∙ c.iter-pair-items.ensures.rest ∙ sym (entries_of_ordered pair_total c.self.inside.offers.entries c.iter-pair-items.ensures.ordered))
    ∙ ap (λ (made : Made). c.args.rows.now.items ++ rows_from c.args.giver.now c.args.receiver.now made) c.self.view_is
