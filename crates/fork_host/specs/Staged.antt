-- What an open upload has staged (own): the objects that arrived with its bytes, and no others.
use Rattle.std.specs.Prelude.{◌≡◌, ℕ, IsTrue, Bool, true, List, Contains, Option, None, Some}
use Rattle.std.specs.FinMap.{contains_key, empty}
use Rattle.std.specs.List.{AllByRecursion}
use Rattle.git_name.specs.Object.{Object, object_name}
use Rattle.push_stream.specs.Reading.{Reading, reading_of}
use Rattle.push_stream.specs.Stream.{sent_in, stream_of}
use Rattle.fork_reach.specs.Source.{Objects}
use Rattle.fork_model.specs.Uploads.{AreSent}

-- an object of this name was sent
abbrev pub IsSentName : List Object → List ℕ → Type 0
IsSentName sent name = (object : Object) × Contains sent object × (object_name object ≡ name)

-- this is known of the bytes received, and exactly the names of the objects that they hold are staged: none if the bytes are wrong.
-- An honest store has these very objects
pub record Came (honest : Bool) (bytes : List ℕ) (reading : Reading) (staged : Objects) : Type 0 where
  pub read : reading_of bytes ≡ reading
  pub there : AllByRecursion (λ object. contains_key staged (object_name object) ≡ true) (sent_in (stream_of bytes))
  pub alone : (name : List ℕ) → contains_key staged name ≡ true → IsSentName (sent_in (stream_of bytes)) name
  pub exact : IsTrue honest → AreSent staged (sent_in (stream_of bytes))

-- what is staged is what was received of the open upload; nothing if no upload is open
abbrev pub IsStaged : Bool → Option Reading → Objects → Type 0
IsStaged honest None staged = staged ≡ empty
IsStaged honest (Some reading) staged = (bytes : List ℕ) × Came honest bytes reading staged
