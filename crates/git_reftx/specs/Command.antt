-- The commands of a transaction, one a line (git-update-ref(1), `--stdin`; the profile is own): words separated by one SP.
use Rattle.std.specs.Prelude.{ℕ, Bool, List, [], ◌∷◌, Option, None, Some, codes, replicate, if◌then◌else◌}
use Rattle.std.specs.Str.{bytes_eq}
use Rattle.git_name.specs.Name.{name_in}
use Rattle.git_reftx.specs.declared.command.Command.{Command}
use Rattle.git_reftx.specs.declared.command.Change.{Change}
use Rattle.git_reftx.specs.declared.command.Change.TheVariants.{Keep, Remove, Point}
use Rattle.git_reftx.specs.declared.command.Demand.{Demand}
use Rattle.git_reftx.specs.declared.command.Demand.TheVariants.{Any, Absent, Present, At}

-- ZERO, spelled as 64 digits `0`, names no object: it means no reference
abbrev pub is_zero : List ℕ → Bool
is_zero name = bytes_eq name (replicate 32 0)

-- what NEW does to the reference
abbrev pub change_to : List ℕ → Change
change_to name = if is_zero name then Remove else Point name

-- what OLD requires of it
abbrev pub demand_of : List ℕ → Demand
demand_of name = if is_zero name then Absent else At name

abbrev pub command : List ℕ → Demand → Change → Command
command reference demand change = record { reference = reference; demand = demand; change = change }

-- the names that the words write, if each writes one
abbrev pub and_name : Option (List ℕ) → Option (List (List ℕ)) → Option (List (List ℕ))
and_name (Some name) (Some names) = Some (name ∷ names)
and_name (Some name) None = None
and_name None names = None

abbrev pub names_spelled : List (List ℕ) → Option (List (List ℕ))
names_spelled [] = Some []
names_spelled (word ∷ words) = and_name (name_in word) (names_spelled words)

-- `update REF NEW [OLD]`
abbrev pub update : List ℕ → Option (List (List ℕ)) → Option Command
update reference (Some (new ∷ [])) = Some (command reference Any (change_to new))
update reference (Some (new ∷ old ∷ [])) = Some (command reference (demand_of old) (change_to new))
update reference names = None

-- `create REF NEW`, if NEW is not ZERO
abbrev pub create : List ℕ → Option (List (List ℕ)) → Option Command
create reference (Some (new ∷ [])) = if is_zero new then None else Some (command reference Absent (Point new))
create reference names = None

-- `delete REF [OLD]`, if OLD is not ZERO
abbrev pub delete : List ℕ → Option (List (List ℕ)) → Option Command
delete reference (Some []) = Some (command reference Present Remove)
delete reference (Some (old ∷ [])) = if is_zero old then None else Some (command reference (At old) Remove)
delete reference names = None

-- `verify REF [OLD]`
abbrev pub verify : List ℕ → Option (List (List ℕ)) → Option Command
verify reference (Some []) = Some (command reference Absent Keep)
verify reference (Some (old ∷ [])) = Some (command reference (demand_of old) Keep)
verify reference names = None

-- the command, depending on the first word
abbrev pub command_by : List ℕ → List ℕ → Option (List (List ℕ)) → Option Command
command_by verb reference names =
    if bytes_eq verb (codes "update") then update reference names
    else if bytes_eq verb (codes "create") then create reference names
    else if bytes_eq verb (codes "delete") then delete reference names
    else if bytes_eq verb (codes "verify") then verify reference names
    else None

-- the command that the words of a line are; REF is not empty
abbrev pub command_of : List (List ℕ) → Option Command
command_of (verb ∷ (b ∷ bs) ∷ words) = command_by verb (b ∷ bs) (names_spelled words)
command_of words = None
