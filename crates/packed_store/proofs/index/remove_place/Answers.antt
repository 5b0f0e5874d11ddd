use Rattle.git_name.proofs.Names.{name_total, name_exact}
use Rattle.git_name.proofs.TreeMaps.{entries_after_remove}
use Rattle.packed_store.proofs.index.remove_place.Goals as goal

pub returns : goal.returns
returns c = entries_after_remove name_total name_exact c.args.index.now.entries c.remove_from.new.index.entries c.args.name c.remove_from.ensures
