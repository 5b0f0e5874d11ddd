-- What is reported about a folder on standard error, besides the program's own line (own). Nothing is claimed of what a device
-- holds.
use Rattle.std.specs.Prelude.{◌≡◌, ◌≢◌, ◌⊎◌, ℕ, List, ◌++◌, bit_and, codes, false}
use Rattle.std.specs.Fmt.{digits}
use Rattle.clap.specs.Words.{Text}
use Rattle.fork_program.specs.Asked.{AskAbout, AskToStart}

-- the line of a cause: words, and the path that they are about
abbrev pub cause_line : List ℕ → List ℕ → List ℕ
cause_line words path = codes "forkhost: " ++ words ++ codes ": " ++ path ++ codes "\n"

-- what was added to the report: nothing, or the line of a cause at a path that begins with this folder's
pub data AddsCause (dir : Text) (before after : List ℕ) : Type 0 where
  Nothing : after ≡ before → AddsCause dir before after
  Line : (rest words : List ℕ) → after ≡ before ++ cause_line words (dir ++ rest) → AddsCause dir before after

-- the reported fault is one of the folder, its lock or its state
abbrev pub IsOfFolder : List ℕ → Type 0
IsOfFolder told = (told ≡ codes "forkhost: store\n") ⊎ (told ≡ codes "forkhost: state unreadable\n")

-- what follows the reported line: nothing, or a cause at the folder of the command that the words ask for
pub data IsCauseTold (texts : List Text) (before after : List ℕ) : Type 0 where
  Unknown : after ≡ before → IsCauseTold texts before after
  Tried : (dir : Text) → IsOfFolder before → AskAbout texts dir → AddsCause dir before after → IsCauseTold texts before after

-- the line for a folder that is open to others
abbrev pub open_line : List ℕ → ℕ → List ℕ
open_line dir mode = codes "forkhost: " ++ dir ++ codes " is open to others (mode 0" ++ digits 8 false mode ++ codes ")\n"

-- what is reported about a folder's mode: nothing, or that others may do something there
pub data AreRightsTold (texts : List Text) (before after : List ℕ) : Type 0 where
  Closed : after ≡ before → AreRightsTold texts before after
  Open : (dir : List ℕ) (mode : ℕ) → AskToStart texts dir → bit_and mode 63 ≢ 0 → after ≡ before ++ open_line dir mode → AreRightsTold texts before after
