use Rattle.std.proofs.Common.{true, sym, ◌∙◌}
use Rattle.fork_request.proofs.ItemLemmas.{items_are}
use Rattle.fork_request.proofs.words.some_items.Goals as goal

pub returns : goal.returns
returns c = sym (items_are c.args.words.now true (sym c.are_items.ensures ∙ c.if-not-are_items.false))
