-- What records of segments leave (own): which files are live, and which were removed since removals were last made final.
use Rattle.std.specs.Prelude.{ℕ, List, Option, Some, None}
use Rattle.std.specs.FinMap.{empty, get, insert, remove}
use Rattle.git_name.specs.Maps.{joined}
use Rattle.packed_store.specs.Place.{Index, index_of}
use Rattle.packed_store.specs.declared.place.Place.{Place}
use Rattle.packed_store.specs.declared.reading.Word.{Word}
use Rattle.packed_store.specs.declared.reading.Word.TheVariants.{Object, File, Removal, Settled, Undone}

-- live places, and places of files whose removal is not final
pub record Shown : Type 0 where
  pub live : Index
  pub pending : Index

-- nothing is live or pending
abbrev pub nothing : Shown
nothing = record { live = empty; pending = empty }

-- a file of this name is live
abbrev pub with_file : Shown → List ℕ → Place → Shown
with_file shown name place = record shown { live = insert shown.live name place }

-- the file of a name moves from the live ones to the pending ones, if it is live
abbrev pub without : Shown → List ℕ → Option Place → Shown
without shown name (Some place) = record { live = remove shown.live name; pending = insert shown.pending name place }
without shown name None = shown

-- what an opening shows: what is live, and what is pending where nothing is live
abbrev pub opened : Shown → Index
opened shown = joined shown.live shown.pending

-- no removal is pending: what was pending is live
abbrev pub undone : Shown → Shown
undone shown = record { live = opened shown; pending = empty }

-- what one more record leaves
abbrev pub noted : Word → List ℕ → Place → Shown → Shown
noted Object name place shown = with_file shown name place
noted File name place shown = with_file shown name place
noted Removal name place shown = without shown name (get shown.live name)
noted Settled name place shown = record shown { pending = empty }
noted Undone name place shown = undone shown

-- a file is live again, unless another of its name is
abbrev pub restored : Index → List ℕ → Place → Option Place → Index
restored live name place None = insert live name place
restored live name place (Some other) = live

-- live and pending entries
abbrev pub shown_in : List (List ℕ × Place) → List (List ℕ × Place) → Shown
shown_in live pending = record { live = index_of live; pending = index_of pending }
