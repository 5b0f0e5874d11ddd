-- What the files of a host's folder show of journals of other states (own).
use Rattle.std.specs.Prelude.{◌≡◌, ◌≢◌, ◌<◌, ◌⊎◌, ℕ, List, ◌++◌, None, Some, length}
use Rattle.std.specs.FinMap.{get}
use Rattle.devices.specs.Device.{Files}
use Rattle.git_name.specs.Name.{IsName}
use Rattle.hex.specs.Hex.{encode_lower}
use Rattle.host_folder.specs.Journal.{first_line, journal_called, journal_file, old_journal_file}
use Rattle.host_folder.specs.declared.other_journals.Standing.{Standing}
use Rattle.host_folder.specs.declared.other_journals.Standing.TheVariants.{Absent, Old, After}

-- there is a file at the path
abbrev pub IsThere : Files → List ℕ → Type 0
IsThere shown path = (text : List ℕ) × (get shown path ≡ Some text)

-- the file at the path begins with this line
abbrev pub BeginsWith : Files → List ℕ → List ℕ → Type 0
BeginsWith shown path line = (rest : List ℕ) × (get shown path ≡ Some (line ++ rest))

-- the file at the path has more bytes than so many
abbrev pub HasMore : Files → List ℕ → ℕ → Type 0
HasMore shown path len = (text : List ℕ) × (get shown path ≡ Some text) × (len < length text)

-- there is a journal of this name, of either version
abbrev pub HasJournal : Files → List ℕ → Type 0
HasJournal shown name = IsThere shown (journal_file name) ⊎ IsThere shown (old_journal_file name)

-- a save that was killed may have left the journal `other` beside the journal of `name`: the first line of one names the other
pub record IsLeftOver (shown : Files) (other name : List ℕ) : Type 0 where
  pub beside : HasJournal shown name
  pub begun : BeginsWith shown (journal_file name) (first_line other) ⊎ BeginsWith shown (journal_file other) (first_line name)

-- if the journal `other` has more than its first line, which has 75 bytes, it is left over
abbrev pub IsPassed : Files → List ℕ → List ℕ → Type 0
IsPassed shown other name = (text : List ℕ) → get shown (journal_file other) ≡ Some text → 75 < length text → IsLeftOver shown other name

-- if the journal `other` of version 1 is not empty, there is a journal of `name`
abbrev pub IsOldPassed : Files → List ℕ → List ℕ → Type 0
IsOldPassed shown other name = (text : List ℕ) → get shown (old_journal_file other) ≡ Some text → 0 < length text → HasJournal shown name

-- no journal of another name counts
pub record HasNoOther (shown : Files) (name : List ℕ) : Type 0 where
  pub journals : (other : List ℕ) → IsName other → other ≢ name → IsPassed shown other name
  pub old : (other : List ℕ) → IsName other → other ≢ name → IsOldPassed shown other name

-- the journal `other` has more than its first line, and the first line of the journal of `name` does not name it. Nothing is said
-- of its own first line: a journal whose first line cannot be read counts
pub record MayCount (shown : Files) (other name : List ℕ) : Type 0 where
  pub more : HasMore shown (journal_file other) 75
  pub apart : BeginsWith shown (journal_file name) (first_line other) → ⊥

-- the journal `other` of version 1 is not empty, and there is no journal of `name`
pub record OldCounts (shown : Files) (other name : List ℕ) : Type 0 where
  pub more : HasMore shown (old_journal_file other) 0
  pub none : HasJournal shown name → ⊥

-- there is a journal of another name that may count
abbrev pub HasOther : Files → List ℕ → Type 0
HasOther shown name = (other : List ℕ) × IsName other × (other ≢ name) × (MayCount shown other name ⊎ OldCounts shown other name)

-- a file called so is no journal of another name that counts
pub record IsNoOther (shown : Files) (name called : List ℕ) : Type 0 where
  pub journal : (other : List ℕ) → IsName other → other ≢ name → called ≡ journal_called other → IsPassed shown other name
  pub old : (other : List ℕ) → IsName other → other ≢ name → called ≡ encode_lower other → IsOldPassed shown other name

-- the journal of this name is the one that was found
abbrev pub Stands : Files → List ℕ → Standing → Type 0
Stands shown name Absent = (get shown (journal_file name) ≡ None) × (get shown (old_journal_file name) ≡ None)
Stands shown name Old = (get shown (journal_file name) ≡ None) × IsThere shown (old_journal_file name)
Stands shown name (After before) = IsName before × BeginsWith shown (journal_file name) (first_line before)
