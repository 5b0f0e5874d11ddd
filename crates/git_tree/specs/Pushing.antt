-- Why an entry is not appended (own).
use Rattle.std.specs.Prelude.{List}
use Rattle.git_tree.specs.declared.fault.TreeFault.{TreeFault}
use Rattle.git_tree.specs.declared.fault.TreeFault.TheVariants as fault
use Rattle.git_tree.specs.declared.builder.PushError.{PushError}
use Rattle.git_tree.specs.declared.builder.PushError.TheVariants as error
use Rattle.git_tree.specs.Entry.{Entry, IsFileName}
use Rattle.git_tree.specs.Fault.{IsRepeated, IsOutOfOrder}

-- the first rule that the entry breaks after the others
abbrev pub IsPushFault : TreeFault → List Entry → Entry → Type 0
IsPushFault fault.Mode front entry = ⊥
IsPushFault fault.Name front entry = IsFileName entry.file_name → ⊥
IsPushFault fault.Truncated front entry = ⊥
IsPushFault fault.Repeated front entry = IsFileName entry.file_name × IsRepeated front entry
IsPushFault fault.Order front entry = IsFileName entry.file_name × (IsRepeated front entry → ⊥) × IsOutOfOrder front entry

-- such a fault, or lack of memory
abbrev pub IsCause : PushError → List Entry → Entry → Type 0
IsCause (error.Fault fault) front entry = IsPushFault fault front entry
IsCause error.Memory front entry = Unit {0}
