use Rattle.std.proofs.Common.{◌≡◌, List, [], ◌∷◌, ap, sym, refl, ◌∙◌, arith, length}
use Rattle.std.specs.FinMap as map
use Rattle.git_name.specs.Maps.{map_values}
use Rattle.git_name.specs.Name.{name_cmp}
use Rattle.git_name.proofs.MapLemmas.{map_values_empty}
use Rattle.git_name.proofs.Names.{name_total, name_exact}
use Rattle.loose_store.specs.MemoryFile.{file_bytes}
use Rattle.loose_store.proofs.memory.MemoryLooseFiles.is_fresh.Goals as goal

none_of : {A : Type 0} (es : List A) → length es ≡ 0 → es ≡ []
none_of [] e = refl
none_of (x ∷ es) e = absurd (omega (arith, e))

pub returns-clause-empty : goal.returns-clause-empty
returns-clause-empty c is =
    let none : c.self.inside.files.entries ≡ [] = none_of c.self.inside.files.entries (c.is_empty.ensures.0 is) in
    sym c.self.view_is ∙ ap (λ es. map_values file_bytes (map.from_entries {R = name_cmp} es)) none
    ∙ map_values_empty name_total name_exact file_bytes
