use Rattle.std.proofs.lemmas.Result.{on_ok_weaker}
use Rattle.git_name.proofs.Names.{name_total, name_exact}
use Rattle.git_name.proofs.TreeMaps.{entries_after_insert}
use Rattle.packed_store.proofs.index.set_place.Goals as goal

pub returns-clause-ok : goal.returns-clause-ok
returns-clause-ok c =
    on_ok_weaker c.insert_into.result
    (entries_after_insert name_total name_exact c.args.index.now.entries c.insert_into.new.index.entries c.args.name c.args.place) c.insert_into.ensures.ok
