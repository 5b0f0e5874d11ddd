use Rattle.std.proofs.Common.{sym, ◌∙◌}
use Rattle.std.specs.FinMap.{same_map}
use Rattle.git_name.proofs.HashMaps.{get_of_hashed}
use Rattle.git_name.proofs.Names.{name_total, name_exact}
use Rattle.packed_store.proofs.index.put_in_order.Goals as goal

pub returns : goal.returns
returns c = same_map name_total name_exact _ _
    (λ q. get_of_hashed c.sort_unstable_keys.new.self.entries q ∙ c.in-Ok.ensures.reordered.2 q ∙ sym (get_of_hashed c.args.index.now.entries q))
