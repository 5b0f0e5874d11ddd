-- Objects to stage whose kind or length a ledger contradicts (own).
use Rattle.std.specs.Prelude.{◌≡◌, ◌<◌, ◌⊎◌, ℕ, List, None, Some, Contains}
use Rattle.git_name.specs.declared.kind.Kind.{Kind}
use Rattle.object_table.specs.declared.entry.Entry.{Entry}
use Rattle.object_table.specs.declared.row.Row.{Row}
use Rattle.object_table.specs.declared.word.Word.{Word}
use Rattle.object_table.specs.Ledgers.{AllWords, word_at}
use Rattle.object_table.specs.Rows.{Rows, row_in}

-- a word has this kind and length
pub record IsAs (kind : Kind) (length : ℕ) (word : Word) : Type 0 where
  pub kinds : word.kind ≡ kind
  pub lengths : word.length ≡ length

-- each word of the name, in any ledger, has this kind and length
abbrev pub AreAs : AllWords → List ℕ → Kind → ℕ → Type 0
AreAs ledgers name kind length = (tenant : List ℕ) (word : Word) → word_at ledgers tenant name ≡ Some word → IsAs kind length word

-- the row of an entry's name has the entry's kind and length
pub record HasRow (rows : Rows) (entry : Entry) : Type 0 where
  pub row : Row
  pub here : row_in rows entry.name ≡ Some row
  pub kinds : row.kind ≡ entry.kind
  pub lengths : row.length ≡ entry.length

-- two entries have the same name and different kinds or lengths
pub record AreApart (one other : Entry) : Type 0 where
  pub named : other.name ≡ one.name
  pub apart : other.kind ≡ one.kind → other.length ≡ one.length → ⊥

-- an entry differs in kind or length from a ledger's word of its name, or from another entry of its name
pub record Clash (ledgers : AllWords) (entries : List Entry) : Type 0 where
  pub entry : Entry
  pub among : Contains entries entry
  pub met : (AreAs ledgers entry.name entry.kind entry.length → ⊥) ⊎ ((other : Entry) × Contains entries other × AreApart other entry)

-- only rows of names that nobody holds changed, and only in kind and length
pub record DescribesUnheld (old new : Rows) : Type 0 where
  pub held : (q : List ℕ) (row : Row) → row_in old q ≡ Some row → 0 < row.holders → row_in new q ≡ Some row
  pub free : (q : List ℕ) (row : Row) → row_in old q ≡ Some row → row.holders ≡ 0 → (other : Row) × (row_in new q ≡ Some other) × (other.number ≡ row.number) × (other.holders ≡ 0)
  pub none : (q : List ℕ) → row_in old q ≡ None → row_in new q ≡ None

-- a clash of entries with held rows, or with each other
pub record RowClash (rows : Rows) (entries : List Entry) : Type 0 where
  pub entry : Entry
  pub among : Contains entries entry
  pub met : ((row : Row) × (row_in rows entry.name ≡ Some row) × (0 < row.holders) × (row.kind ≡ entry.kind → row.length ≡ entry.length → ⊥)) ⊎ ((other : Entry) × Contains entries other × AreApart other entry)
