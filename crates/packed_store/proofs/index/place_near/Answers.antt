use Rattle.std.proofs.Common.{sym, ◌∙◌}
use Rattle.git_name.proofs.HashMaps.{get_of_hashed}
use Rattle.packed_store.proofs.index.place_near.Goals as goal

pub returns : goal.returns
returns c = c.copied.ensures ∙ c.get.ensures ∙ sym (get_of_hashed c.args.index.now.entries c.args.name)
