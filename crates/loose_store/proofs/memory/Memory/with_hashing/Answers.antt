use Rattle.std.proofs.Common.{ap, ◌∙◌}
use Rattle.std.specs.FinMap as map
use Rattle.git_name.specs.Maps.{map_values}
use Rattle.git_name.specs.Name.{name_cmp}
use Rattle.git_name.proofs.MapLemmas.{map_values_empty}
use Rattle.git_name.proofs.Names.{name_total, name_exact}
use Rattle.loose_store.specs.MemoryFile.{file_bytes}
use Rattle.loose_store.proofs.memory.Memory.with_hashing.Goals as goal

pub returns : goal.returns
returns c =
    ap (λ es. map_values file_bytes (map.from_entries {R = name_cmp} es)) c.with_hasher.ensures.empty
    ∙ map_values_empty name_total name_exact file_bytes
