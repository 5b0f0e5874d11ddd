-- Transactions of references: all commands or none (git-update-ref(1); what is required of names above and below is own).
use Rattle.std.specs.Prelude.{ℕ, Bool, true, false, ◌&&◌, not, nat_lt, List, [], ◌∷◌, ◌++◌, Option, None, Some, Result, Ok, Err, is_none, is_some, codes, if◌then◌else◌}
use Rattle.std.specs.List.{find, list_any}
use Rattle.std.specs.Option.{option_or}
use Rattle.std.specs.Str.{bytes_eq}
use Rattle.std.specs.FinMap.{FinMap, get, insert, remove, keys, len}
use Rattle.git_name.specs.declared.kind.Kind.{Kind}
use Rattle.git_name.specs.declared.kind.Kind.TheVariants.{Blob, Tree, Commit, Tag}
use Rattle.git_name.specs.Name.{name_cmp}
use Rattle.git_refname.specs.Rule.{begins, least_broken_rule}
use Rattle.git_reftx.specs.declared.command.Command.{Command}
use Rattle.git_reftx.specs.declared.command.Change.{Change}
use Rattle.git_reftx.specs.declared.command.Change.TheVariants.{Keep, Remove, Point}
use Rattle.git_reftx.specs.declared.command.Demand.{Demand}
use Rattle.git_reftx.specs.declared.command.Demand.TheVariants.{Any, Absent, Present, At}
use Rattle.git_reftx.specs.declared.fault.TxRefusal.{TxRefusal}
use Rattle.git_reftx.specs.declared.fault.TxRefusal.TheVariants.{BadRef, RepeatedRef, Missing, NotACommit, Stale, RefConflict, TooMany}
use Rattle.git_reftx.specs.Known.{Kinds}
use Rattle.git_reftx.specs.declared.transact.TheConstants.{MAX_REFERENCES}

-- the name of the object at which each reference points
abbrev pub References : Type 0
References = FinMap name_cmp (List ℕ)

-- the first refusal among the commands, in their order
abbrev pub first_refusal : (Command → Option TxRefusal) → List Command → Option TxRefusal
first_refusal refused [] = None
first_refusal refused (command ∷ commands) = option_or (refused command) (first_refusal refused commands)

-- bad-ref: the name breaks a rule
abbrev pub bad_ref : Command → Option TxRefusal
bad_ref command = if is_some (least_broken_rule command.reference) then Some (BadRef command.reference) else None

-- repeated-ref: the reference is in an earlier command
abbrev pub repeated_ref : List (List ℕ) → List Command → Option TxRefusal
repeated_ref earlier [] = None
repeated_ref earlier (command ∷ commands) =
    if list_any (bytes_eq command.reference) earlier then Some (RepeatedRef command.reference)
    else repeated_ref (command.reference ∷ earlier) commands

-- missing: the new object is not known
abbrev pub missing_object : Kinds → Change → Option TxRefusal
missing_object known (Point name) = if is_none (known name) then Some (Missing name) else None
missing_object known Keep = None
missing_object known Remove = None

abbrev pub is_commit : Option Kind → Bool
is_commit (Some Commit) = true
is_commit (Some Blob) = false
is_commit (Some Tree) = false
is_commit (Some Tag) = false
is_commit None = false

-- not-a-commit: a branch, which is a reference under `refs/heads/`, would point at something else
abbrev pub is_branch : List ℕ → Bool
is_branch reference = begins (codes "refs/heads/") reference

abbrev pub not_a_commit : Kinds → Bool → Change → Option TxRefusal
not_a_commit known branch (Point name) = if branch && not (is_commit (known name)) then Some (NotACommit name) else None
not_a_commit known branch Keep = None
not_a_commit known branch Remove = None

-- whether the reference is as the command requires
abbrev pub points_at : List ℕ → Option (List ℕ) → Bool
points_at name (Some target) = bytes_eq target name
points_at name None = false

abbrev pub meets : Demand → Option (List ℕ) → Bool
meets Any target = true
meets Absent target = is_none target
meets Present target = is_some target
meets (At name) target = points_at name target

-- stale: the reference is not as the command requires
abbrev pub stale : References → Command → Option TxRefusal
stale old command = if meets command.demand (get old command.reference) then None else Some (Stale command.reference)

-- the references after a command, and after all of them
abbrev pub changed_by : List ℕ → Change → References → References
changed_by reference Keep old = old
changed_by reference Remove old = remove old reference
changed_by reference (Point name) old = insert old reference name

abbrev pub changed : List Command → References → References
changed [] old = old
changed (command ∷ commands) old = changed commands (changed_by command.reference command.change old)

-- a name is above another if it and a `/` begin the other
abbrev pub stands_above : List ℕ → List ℕ → Bool
stands_above upper lower = begins (upper ++ codes "/") lower

-- the least name that is above another of them
abbrev pub least_upper : List (List ℕ) → Option (List ℕ)
least_upper names = find (λ upper. list_any (stands_above upper) names) names

-- ref-conflict: of the references afterwards one is above another
abbrev pub conflict : Option (List ℕ) → Option TxRefusal
conflict None = None
conflict (Some upper) = Some (RefConflict upper)

abbrev pub ref_conflict : References → Option TxRefusal
ref_conflict new = conflict (least_upper (keys new))

-- too-many: there are more than 4,096 references afterwards
abbrev pub too_many : References → Option TxRefusal
too_many new = if nat_lt MAX_REFERENCES (len new) then Some TooMany else None

-- what is wrong with the commands: every check is made on the references before, except the last two
abbrev pub refusal_of : References → List Command → Kinds → Option TxRefusal
refusal_of old commands known =
    option_or (first_refusal bad_ref commands)
    (option_or (repeated_ref [] commands)
    (option_or (first_refusal (λ command. missing_object known command.change) commands)
    (option_or (first_refusal (λ command. not_a_commit known (is_branch command.reference) command.change) commands)
    (option_or (first_refusal (stale old) commands)
    (option_or (ref_conflict (changed commands old))
    (too_many (changed commands old)))))))

abbrev pub unless_refused : Option TxRefusal → References → Result References TxRefusal
unless_refused (Some refusal) new = Err refusal
unless_refused None new = Ok new

-- the references after the transaction, or the first refusal
unfoldable pub transacted : References → List Command → Kinds → Result References TxRefusal
transacted old commands known = unless_refused (refusal_of old commands known) (changed commands old)
