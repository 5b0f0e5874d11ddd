-- What a ledger adopts from another one, name by name (own).
use Rattle.std.specs.Prelude.{◌+◌, ◌&&◌, ℕ, false, not, Option, None, Some, List, [], ◌∷◌, if◌then◌else◌}
use Rattle.std.specs.FinMap.{get, insert}
use Rattle.std.specs.List.{filter_map}
use Rattle.std.specs.Option.{option_map_or}
use Rattle.git_name.specs.declared.kind.Kind.{Kind}
use Rattle.fork_reach.specs.declared.usage.TheConstants.{OBJECT_USE}
use Rattle.object_table.specs.Adopted.{seen_too}
use Rattle.object_table.specs.declared.entry.Entry.{Entry}
use Rattle.object_table.specs.declared.word.Standing.TheVariants.{Visible}
use Rattle.object_table.specs.declared.word.Word.{Word}
use Rattle.object_table.specs.Words.{Words, is_visible, with_standing}

-- the entry of a name with this word
abbrev pub entry_under : List ℕ → Word → Entry
entry_under name word = record { name = name; kind = word.kind; length = word.length }

-- the entry of an object that is visible in the other ledger and not in this one
abbrev pub coming_at : List ℕ → Option Word → Option Word → Option Entry
coming_at name None own = None
coming_at name (Some word) own = if is_visible word && not (option_map_or is_visible own false) then Some (entry_under name word) else None

-- the entries of all these names
abbrev pub coming_in : Words → Words → List (List ℕ) → List Entry
coming_in shown own names = filter_map (λ name. coming_at name (get shown name) (get own name)) names

-- the use of an entry's object, in bytes
abbrev pub use_of_entry : Entry → ℕ
use_of_entry entry = entry.length + OBJECT_USE

-- the word of an object that becomes visible: the one that was there, or else one of the adopted kind and length
abbrev pub seen_over : Kind → ℕ → Option Word → Word
seen_over kind length None = record { kind = kind; length = length; standing = Visible }
seen_over kind length (Some word) = with_standing word (seen_too word.standing)

-- with the object of an entry visible
abbrev pub seen_words : Entry → Words → Words
seen_words entry words = insert words entry.name (seen_over entry.kind entry.length (get words entry.name))

-- with the objects of all these entries visible
abbrev pub all_seen_words : List Entry → Words → Words
all_seen_words [] words = words
all_seen_words (entry ∷ entries) words = all_seen_words entries (seen_words entry words)
