-- Numbers of names (own): those in use, in the order of places, then the free ones; and for each number its place.
use Rattle.std.specs.Prelude.{◌≡◌, ◌<◌, ◌≤◌, ℕ, List, Some, length, get_or, map}
use Rattle.std.specs.Map.{keys_of}
use Rattle.std.specs.List.{IsDistinct}
use Rattle.git_name.specs.Same.{same_name}
use Rattle.object_table.specs.declared.row.Row.{Row}
use Rattle.object_table.specs.Rows.{Rows, row_in}

-- each number occurs once, at the place that is noted for it
pub record AreNoted (numbers places : List ℕ) : Type 0 where
  pub few : length numbers ≤ 4294967295
  pub even : length places ≡ length numbers
  pub inside : (at : ℕ) → at < length numbers → get_or numbers at 0 < length numbers
  pub back : (at : ℕ) → at < length numbers → get_or places (get_or numbers at 0) 0 ≡ at

-- the numbers of rows, in their places
abbrev pub numbers_of : Rows → List ℕ
numbers_of rows = map (λ e. e.1.number) rows

-- rows have the first numbers
pub record AreNumbered (rows : Rows) (numbers places : List ℕ) : Type 0 where
  pub distinct : IsDistinct same_name (keys_of rows)
  pub noted : AreNoted numbers places
  pub long : length rows ≤ length numbers
  pub own : (at : ℕ) → at < length rows → get_or (numbers_of rows) at 0 ≡ get_or numbers at 0
  pub short : (q : List ℕ) (row : Row) → row_in rows q ≡ Some row → row.length < 18446744073709551616
