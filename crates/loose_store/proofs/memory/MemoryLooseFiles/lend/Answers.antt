use Rattle.std.proofs.Common.{Some, ap, sym, ◌∙◌}
use Rattle.std.specs.Option.{option_map}
use Rattle.std.specs.FinMap as map
use Rattle.std.proofs.lemmas.Option.{IfSome_then}
use Rattle.git_name.proofs.MapLemmas.{get_map_values}
use Rattle.git_name.proofs.Names.{name_total}
use Rattle.git_name.proofs.HashMaps.{get_of_hashed}
use Rattle.loose_store.specs.MemoryFile.{file_bytes}
use Rattle.loose_store.proofs.memory.MemoryLooseFiles.lend.Goals as goal

pub returns-in-Some : goal.returns-in-Some
returns-in-Some c _ = IfSome_then c.object.result c.object.ensures (λ lent is.
    ap (λ files. map.get files c.args.name) (sym c.self.view_is)
    ∙ get_map_values name_total file_bytes (map.from_entries c.self.inside.files.entries) c.args.name
    ∙ ap (option_map file_bytes) (get_of_hashed c.self.inside.files.entries c.args.name ∙ sym c.in-Some.ensures)
    ∙ ap Some is)
