-- The private maps that ledgers give over the files of a store (own). Names, kinds and lengths are the ledgers'.
use Rattle.std.specs.Prelude.{ℕ, Bool, List, [], ◌++◌, None, Some, drop, length, replicate, take, if◌then◌else◌}
use Rattle.std.specs.Option.{unwrap_or}
use Rattle.std.specs.FinMap.{get}
use Rattle.git_name.specs.Maps.{map_values}
use Rattle.git_name.specs.Object.{Object, header}
use Rattle.fork_reach.specs.Source.{Objects}
use Rattle.object_table.specs.Chosen.{chosen}
use Rattle.object_table.specs.Ledgers.{AllWords}
use Rattle.object_table.specs.Words.{Words, is_staged, is_visible}
use Rattle.object_table.specs.declared.word.Word.{Word}
use Rattle.loose_store.specs.Files.{Files}
use Rattle.fork_ledger.specs.Private.{Private}
use Rattle.fork_ledger.specs.Tenants.{Tenants}

-- the first bytes of these, up to a length, filled with zeros if there are too few
abbrev pub resized : ℕ → List ℕ → List ℕ
resized len bytes = take len (bytes ++ replicate len 0)

-- the object for a ledger's word of a name: the word's kind and length, and the bytes after the file's header
unfoldable pub object_at : Files → List ℕ → Word → Object
object_at files name word = record { kind = word.kind; bytes = resized word.length (drop (length (header word.kind word.length)) (unwrap_or (get files name) [])) }

-- the objects of the words that pass
unfoldable pub part : (Word → Bool) → Files → Words → Objects
part p files words = chosen (λ name word. if p word then Some (object_at files name word) else None) words

-- one tenant's private maps
abbrev pub own_of : Files → Words → Private
own_of files words = record { visible = part is_visible files words; staged = part is_staged files words }

-- the private maps of all tenants
abbrev pub tenants_of : Files → AllWords → Tenants
tenants_of files ledgers = map_values (own_of files) ledgers
