-- What a ledger knows about an object (own): everything but its bytes.
use Rattle.std.specs.Prelude.{length}
use Rattle.git_name.specs.Object.{Object, object_name}
use Rattle.object_table.specs.declared.entry.Entry.{Entry}

-- its name, its kind, and its length in bytes
abbrev pub entry_of : Object → Entry
entry_of object = record { name = object_name object; kind = object.kind; length = length object.bytes }
