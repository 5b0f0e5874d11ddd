-- Briefs: streams with the names of their objects in place of the objects (own).
use Rattle.std.specs.Prelude.{ℕ, List, map, Result, Ok, Err}
use Rattle.git_name.specs.Object.{Object, object_name}
use Rattle.git_reftx.specs.declared.command.Command.{Command}
use Rattle.push_stream.specs.declared.brief.Brief.{Brief}
use Rattle.push_stream.specs.declared.fault.StreamFault.{StreamFault}

-- the commands, and the names of the objects
abbrev pub BriefValue : Type 0
BriefValue = List Command × List (List ℕ)

-- the brief of what a whole stream holds, if it is valid
abbrev pub brief_of : Result (List Command × List Object) StreamFault → Result BriefValue StreamFault
brief_of (Ok held) = Ok (held.0, map object_name held.1)
brief_of (Err fault) = Err fault

-- the value of a brief
abbrev pub brief_shown : Result Brief StreamFault → Result BriefValue StreamFault
brief_shown (Ok brief) = Ok (brief.commands.items, brief.names.items)
brief_shown (Err fault) = Err fault
