use Rattle.std.proofs.Common.{ap, sym, ◌∙◌}
use Rattle.std.specs.Map.{keys_of}
use Rattle.std.specs.FinMap as map
use Rattle.git_name.proofs.MapLemmas.{entries_map_values}
use Rattle.loose_store.proofs.MapLemmas.{keys_of_mapped}
use Rattle.loose_store.specs.MemoryFile.{file_bytes}
use Rattle.loose_store.proofs.memory.MemoryLooseFiles.names.Goals as goal

pub returns-clause-found : goal.returns-clause-found
returns-clause-found c _ =
    let files = map.from_entries c.self.inside.files.entries in
    c.in_ok-names_in.ensures ∙ sym (ap keys_of (entries_map_values file_bytes files) ∙ keys_of_mapped file_bytes (map.entries files)) ∙ ap map.keys c.self.view_is
