-- Which objects' files a folder has (own), as the files of its device say.
use Rattle.std.specs.Prelude.{ℕ, Bool, true, false, List, [], ◌∷◌, Option, Some, None}
use Rattle.std.specs.FinMap.{empty, entries, from_entries}
use Rattle.devices.specs.Device.{Past, files_of, within}
use Rattle.loose_store.specs.Files.{Files}
use Rattle.folder_store.specs.Place.{name_at}
use Rattle.folder_store.specs.declared.max_file.TheConstants.{MAX_FILE}

-- an entry by its name, if its path has one, before others. A file that is too long is read as an empty one
abbrev pub add_named : Option (List ℕ) → List ℕ → List (List ℕ × List ℕ) → List (List ℕ × List ℕ)
add_named (Some name) bytes rest = (name, within MAX_FILE bytes) ∷ rest
add_named None bytes rest = rest

-- the entries whose paths have names, by these
abbrev pub named : List (List ℕ × List ℕ) → List (List ℕ × List ℕ)
named [] = []
named (e ∷ es) = add_named (name_at e.0) e.1 (named es)

-- the objects' files by their names
unfoldable pub contents_of : Files → Files
contents_of files = from_entries (named (entries files))

-- the files of an honest device by names of objects. Nothing is said of another's
abbrev pub contents_in : Bool → Past → Files
contents_in true past = contents_of (files_of past)
contents_in false past = empty
