-- The words that a tenant's two sets of numbers give (own). Callers of the table see these words, and no numbers.
use Rattle.std.specs.Prelude.{◌≡◌, ◌≤◌, ◌<◌, ◌+◌, ℕ, Bool, true, false, ◌||◌, List, Option, None, Some, refl}
use Rattle.std.specs.Coded.{Coded, code_by, coded×, coded_list, coded_ℕ}
use Rattle.std.specs.FinMap.{FinMap, code, contains_key, empty, from_entries}
use Rattle.std.specs.Option.{option_map, option_map_or}
use Rattle.git_name.specs.Maps.{map_values}
use Rattle.git_name.specs.Name.{name_cmp}
use Rattle.number_links.specs.Numbers.{Pages, has, has_room}
use Rattle.number_links.specs.contracts.number_set.NumberSet as number_set
use Rattle.object_table.specs.Chosen.{chosen_in}
use Rattle.object_table.specs.declared.row.Row.{Row}
use Rattle.object_table.specs.declared.word.Word.{Word}
use Rattle.object_table.specs.declared.word.Standing.{Standing}
use Rattle.object_table.specs.declared.word.Standing.TheVariants.{Visible, Staged, Both}
use Rattle.object_table.specs.Ledgers.{AllWords}
use Rattle.object_table.specs.Rows.{IsUsed, Rows, TableState, TellSame, count_in, one_if, places_of, row_in}
use Rattle.object_table.specs.Totals.{total_of, used_by}
use Rattle.object_table.specs.Words.{Words}

-- the numbers of what a tenant sees and of what it has staged, and the use of the first and of both
pub record Sets : Type 0 where
  pub visible : Pages
  pub staged : Pages
  pub used : ℕ
  pub total : ℕ

-- the standing of an object, by whether it is visible and whether it is staged
abbrev pub standing_by : Bool → Bool → Option Standing
standing_by false false = None
standing_by true false = Some Visible
standing_by false true = Some Staged
standing_by true true = Some Both

-- the word of a row, by whether it is visible and whether it is staged
abbrev pub word_by : Row → Bool → Bool → Option Word
word_by row seen staged = option_map (λ standing. record { kind = row.kind; length = row.length; standing = standing }) (standing_by seen staged)

-- the word of a row in a tenant's sets
abbrev pub word_in : Sets → Row → Option Word
word_in sets row = word_by row (has sets.visible row.number) (has sets.staged row.number)

-- a tenant's words
abbrev pub words_of : Rows → Sets → Words
words_of rows sets = from_entries {R = name_cmp} (chosen_in (λ _ row. word_in sets row) rows)

-- the words of a tenant that may not exist
abbrev pub words_under : Rows → Option Sets → Words
words_under rows sets = option_map_or (words_of rows) sets empty

-- the words of all tenants
abbrev pub all_words : Rows → FinMap name_cmp Sets → AllWords
all_words rows tenants = map_values (words_of rows) tenants

-- whether a tenant holds a number
abbrev pub holds : Sets → ℕ → Bool
holds sets n = has sets.visible n || has sets.staged n

-- a tenant holds only numbers of names, and its sums are those of its words
pub record IsOwn (rows : Rows) (sets : Sets) : Type 0 where
  pub within : (n : ℕ) → holds sets n ≡ true → IsUsed rows n
  pub visible : sets.used ≡ used_by (words_of rows sets)
  pub both : sets.total ≡ total_of (words_of rows sets)

-- the same; the tenant is counted as a holder of each name that it holds, and no count can overflow
pub record IsOne (rows : Rows) (sets : Sets) : Type 0 where
  pub own : IsOwn rows sets
  pub some : (q : List ℕ) → one_if (contains_key (words_of rows sets) q) ≤ count_in rows q
  pub fits : (q : List ℕ) → count_in rows q + 1 < 18446744073709551616 + one_if (contains_key (words_of rows sets) q)

-- the number of a name has room in both sets
abbrev pub HasRoom : Rows → Sets → List ℕ → Type 0
HasRoom rows sets name = (row : Row) → row_in rows name ≡ Some row → (has_room sets.visible row.number ≡ true) × (has_room sets.staged row.number ≡ true)

-- the same numbers, and the same sums
pub record SameSets (old new : Sets) : Type 0 where
  pub visible : (n : ℕ) → has new.visible n ≡ has old.visible n
  pub staged : (n : ℕ) → has new.staged n ≡ has old.staged n
  pub used : new.used ≡ old.used
  pub total : new.total ≡ old.total

-- one tenant's sets changed, and the counts of holders accordingly; nothing else changed
pub record Moves (old new : TableState) (own after : Sets) : Type 0 where
  pub told : TellSame old.entries new.entries
  pub places : places_of new ≡ places_of old
  pub counts : (q : List ℕ) → count_in new.entries q + one_if (contains_key (words_of old.entries own) q) ≡ count_in old.entries q + one_if (contains_key (words_of new.entries after) q)

-- sets have a code, so that they can be a model's value
abbrev pub sets_code : Coded Sets
sets_code =
    code_by (Pages × (Pages × (ℕ × ℕ))) (coded× number_set.the_row.coded (coded× number_set.the_row.coded (coded× coded_ℕ coded_ℕ)))
    (λ sets. (sets.visible, (sets.staged, (sets.used, sets.total)))) (λ p. record { visible = p.0; staged = p.1.0; used = p.1.1.0; total = p.1.1.1 }) (λ _. refl)

abbrev pub tenants_code : Coded (FinMap name_cmp Sets)
tenants_code = code (coded_list coded_ℕ) sets_code
