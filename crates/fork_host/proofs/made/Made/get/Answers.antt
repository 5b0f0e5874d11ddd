use Rattle.std.proofs.Common.{◌≡◌, sym, ◌∙◌, ap}
use Rattle.std.specs.FinMap as map
use Rattle.git_name.proofs.TreeMaps.{get_of_entries}
use Rattle.fork_model.specs.Offer.{Pair}
use Rattle.fork_model.proofs.EntryLemmas.{pair_total}
use Rattle.fork_host.specs.Made.{Made}
use Rattle.fork_host.proofs.made.Made.get.Goals as goal

pub returns : goal.returns
returns c =
    let key : ◌≡◌ {A = Pair} (c.copy.result, c.copy-2.result) (c.args.receiver.now, c.args.name.now) = λ i. (c.copy.ensures i, c.copy-2.ensures i) in
    c.get.ensures.value ∙ sym (get_of_entries pair_total c.self.inside.offers.entries (c.copy.result, c.copy-2.result))
    ∙ ap (λ (m : Made). map.get m (c.copy.result, c.copy-2.result)) c.self.view_is ∙ ap (map.get c.args.self.now) key
