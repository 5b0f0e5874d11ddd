use Rattle.std.proofs.Common.{ap, ◌∙◌}
use Rattle.std.specs.FinMap as map
use Rattle.std.proofs.lemmas.Result.{on_ok_weaker}
use Rattle.git_name.specs.Maps.{map_values}
use Rattle.git_name.proofs.MapLemmas.{map_values_insert}
use Rattle.git_name.proofs.Names.{name_total, name_exact}
use Rattle.git_name.proofs.TreeMaps.{entries_after_insert}
use Rattle.loose_store.specs.MemoryFile.{file_bytes}
use Rattle.loose_store.proofs.memory.Memory.keep.Goals as goal

pub returns-clause-ok : goal.returns-clause-ok
returns-clause-ok c = on_ok_weaker c.insert_into.result (λ set.
    let before = map.from_entries c.self.inside.files.entries in
    ap (map_values file_bytes) (entries_after_insert name_total name_exact c.self.inside.files.entries c.insert_into.new.files.entries c.args.name c.args.file set)
    ∙ map_values_insert name_total name_exact file_bytes before c.args.name c.args.file
    ∙ ap (λ files. map.insert files c.args.name (file_bytes c.args.file)) c.self.view_is) c.insert_into.ensures.ok
