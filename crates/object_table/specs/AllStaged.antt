-- Several objects staged in a tenant's ledger, one after another (own).
use Rattle.std.specs.Prelude.{◌≡◌, true, List, [], ◌∷◌}
use Rattle.std.specs.List.{All}
use Rattle.git_name.specs.Same.{is_listed}
use Rattle.looks.specs.Places.{Places}
use Rattle.object_table.specs.Words.{Words, staged_words}
use Rattle.object_table.specs.declared.entry.Entry.{Entry}

-- with the object of each of these entries staged, in order
abbrev pub all_staged_words : List Entry → Words → Words
all_staged_words [] words = words
all_staged_words (entry ∷ entries) words = all_staged_words entries (staged_words entry.name entry.kind entry.length words)

-- the name of each of these entries is in the catalogue
abbrev pub AreListed : Places → List Entry → Type 0
AreListed places entries = All (λ entry. is_listed places.names entry.name ≡ true) entries
