-- The values of the readers' answers.
use Rattle.std.specs.Prelude.{◌≡◌, Option, None, Some, Err, ⊤}
use Rattle.push_stream.specs.declared.record.Parts.{Parts}
use Rattle.push_stream.specs.declared.record.Parts.TheVariants.{Whole as Whole_parts, Open, Wrong}
use Rattle.push_stream.specs.declared.fault.StreamFault.{StreamFault}
use Rattle.push_stream.specs.declared.fault.StreamFault.TheVariants.{Truncated}
use Rattle.push_stream.specs.declared.fault.BodyError.{BodyError}
use Rattle.push_stream.specs.declared.fault.BodyError.TheVariants.{Fault, Memory}
use Rattle.push_stream.specs.Record as record_value
use Rattle.push_stream.specs.Stream.{Stream, finished}

abbrev pub record_parts_shown : Parts → record_value.PartsAt
record_parts_shown (Whole_parts head content behind) = record_value.Parts head content.now behind.now
record_parts_shown Open = record_value.Short
record_parts_shown (Wrong fault) = record_value.Faulty fault

-- why there is no record
abbrev pub fault_at : record_value.RecordAt → Option StreamFault
fault_at (record_value.Taken object behind) = None
fault_at record_value.Open = Some Truncated
fault_at (record_value.Wrong fault) = Some fault

-- the error reports why there is no record; running out of memory reports nothing
abbrev pub TellsRecord : record_value.RecordAt → BodyError → Type 0
TellsRecord found (Fault fault) = fault_at found ≡ Some fault
TellsRecord found Memory = ⊤

-- the error reports why a stream yields no commands and objects
abbrev pub TellsStreamFault : Stream → BodyError → Type 0
TellsStreamFault stream (Fault fault) = finished stream ≡ Err fault
TellsStreamFault stream Memory = ⊤
