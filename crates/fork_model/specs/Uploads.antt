-- An open upload, by what is known of its bytes and by the objects that arrived with them (own).
use Rattle.std.specs.Prelude.{◌≡◌, ℕ, List, [], Some, map}
use Rattle.std.specs.List.{AllByRecursion}
use Rattle.std.specs.Option.{unwrap_or}
use Rattle.std.specs.FinMap.{get}
use Rattle.git_name.specs.Object.{Object, object_name}
use Rattle.push_stream.specs.declared.sent.Sent.{Sent}
use Rattle.push_stream.specs.Reading.{Flow, Going, Broken, Reading}
use Rattle.push_stream.specs.Stream.{Stream, Flows, Breaks}
use Rattle.push_stream.specs.Upload.{UploadValue}
use Rattle.fork_reach.specs.Source.{Objects}
use Rattle.fork_model.specs.Provenance.{IsAmong}

-- these are the objects that were sent, each under its name, and no others
pub record AreSent (objects : Objects) (sent : List Object) : Type 0 where
  pub each : AllByRecursion (λ object. get objects (object_name object) ≡ Some object) sent
  pub alone : (name : List ℕ) (object : Object) → get objects name ≡ Some object → IsAmong sent name object

-- an object that was sent, found among these objects; an empty one if it does not exist
abbrev pub object_sent : Objects → Sent → Object
object_sent objects sent = unwrap_or (get objects sent.name) (record { kind = sent.kind; bytes = [] })

-- a stream with its objects
abbrev pub stream_among : Objects → Flow → Stream
stream_among objects (Going commands sent headed rest) = Flows commands (map (object_sent objects) sent) headed rest
stream_among objects (Broken fault) = Breaks fault

-- an upload with its objects
abbrev pub upload_among : Objects → Reading → UploadValue
upload_among objects reading = record { count = reading.count; stream = stream_among objects reading.flow }
