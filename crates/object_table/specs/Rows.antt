-- Names in places, each with a row (own): its object's kind and length, how many tenants hold it, and its number.
use Rattle.std.specs.Prelude.{◌≡◌, ◌<◌, ◌≤◌, ◌++◌, ◌∷◌, ℕ, Bool, true, List, Option, Some, length, cond, refl}
use Rattle.std.specs.Coded.{Coded, code_by, coded×, coded_list, coded_ℕ}
use Rattle.std.specs.Option.{option_map, option_map_or}
use Rattle.std.specs.Map.{lookup, keys_of}
use Rattle.std.specs.List.{IsDistinct}
use Rattle.git_name.specs.contracts.kind.Kind as kind
use Rattle.git_name.specs.declared.kind.Kind.{Kind}
use Rattle.git_name.specs.Same.{same_name}
use Rattle.looks.specs.Places.{Places, looked_at}
use Rattle.object_table.specs.declared.row.Row.{Row}

-- names with their rows, in their places
abbrev pub Rows : Type 0
Rows = List (List ℕ × Row)

-- these, and the place that the sweep looks at next
pub record TableState : Type 0 where
  pub entries : Rows
  pub place : ℕ

-- the names and the place, without the rows
abbrev pub places_of : TableState → Places
places_of table = record { names = keys_of table.entries; place = table.place }

-- the row of a name
abbrev pub row_in : Rows → List ℕ → Option Row
row_in rows name = lookup (same_name name) rows

-- how many holders a name has; a name that is not there has none
abbrev pub count_in : Rows → List ℕ → ℕ
count_in rows name = option_map_or (λ row. row.holders) (row_in rows name) 0

-- 1 if true, and 0 if false
abbrev pub one_if : Bool → ℕ
one_if b = cond b 1 0

-- the number belongs to some name
pub record IsUsed (rows : Rows) (number : ℕ) : Type 0 where
  pub name : List ℕ
  pub row : Row
  pub here : row_in rows name ≡ Some row
  pub same : row.number ≡ number

-- a row without its count of holders
abbrev pub told_of : Row → Row
told_of row = record { length = row.length; holders = 0; number = row.number; kind = row.kind }

-- two tables have the same rows, except for the counts of holders
abbrev pub TellSame : Rows → Rows → Type 0
TellSame old new = (name : List ℕ) → option_map told_of (row_in new name) ≡ option_map told_of (row_in old name)

-- the sweep looks at this name next
pub record LooksNextAt (places : Places) (name : List ℕ) : Type 0 where
  pub front : List (List ℕ)
  pub back : List (List ℕ)
  pub whole : places.names ≡ front ++ name ∷ back
  pub at : length front ≡ looked_at places

-- no name and no number occurs twice; lengths have 64 bits
pub record AreRows (rows : Rows) : Type 0 where
  pub distinct : IsDistinct same_name (keys_of rows)
  pub few : length rows ≤ 4294967295
  pub numbers : (q r : List ℕ) (one other : Row) → row_in rows q ≡ Some one → row_in rows r ≡ Some other → one.number ≡ other.number → same_name q r ≡ true
  pub small : (q : List ℕ) (row : Row) → row_in rows q ≡ Some row → row.number < 4294967295
  pub short : (q : List ℕ) (row : Row) → row_in rows q ≡ Some row → row.length < 18446744073709551616

-- rows have a code, so that they can be a model's value
abbrev pub row_code : Coded Row
row_code =
    code_by (Kind × (ℕ × (ℕ × ℕ))) (coded× kind.the_row.coded (coded× coded_ℕ (coded× coded_ℕ coded_ℕ)))
    (λ row. (row.kind, (row.length, (row.holders, row.number)))) (λ p. record { length = p.1.0; holders = p.1.1.0; number = p.1.1.1; kind = p.0 }) (λ _. refl)

abbrev pub table_code : Coded TableState
table_code =
    code_by (Rows × ℕ) (coded× (coded_list (coded× (coded_list coded_ℕ) row_code)) coded_ℕ)
    (λ table. (table.entries, table.place)) (λ p. record { entries = p.0; place = p.1 }) (λ _. refl)
