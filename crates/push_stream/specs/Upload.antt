-- Uploads (own): streams that are received in pieces, as the value of the bytes received.
use Rattle.std.specs.Prelude.{ℕ, ◌+◌, ◌-◌, Bool, true, false, List, [], ◌∷◌, ◌++◌, length, ◌⊎◌, ◌≡◌, refl}
use Rattle.std.proofs.Common.{inl, inr}
use Rattle.std.specs.Coded.{Coded, code_by, coded×, coded⊎, coded_ℕ, coded_bool, coded_list}
use Rattle.git_name.specs.Object.{Object}
use Rattle.git_name.specs.contracts.sealed.Sealed as sealed
use Rattle.git_name.specs.Text.{bytes_code}
use Rattle.git_reftx.specs.declared.command.Command.{Command}
use Rattle.git_reftx.specs.declared.reading.TheConstants.{MAX_COMMANDS}
use Rattle.git_reftx.specs.contracts.command.Command as command
use Rattle.push_stream.specs.declared.fault.StreamFault.{StreamFault}
use Rattle.push_stream.specs.contracts.fault.StreamFault as fault
use Rattle.push_stream.specs.Stream.{Stream, Flows, Breaks, behind, header_in, records_in, stream_of}

-- how many bytes were received, and their value
pub record UploadValue : Type 0 where
  pub count : ℕ
  pub stream : Stream

-- the value of the bytes received
abbrev pub upload_of : List ℕ → UploadValue
upload_of bytes = record { count = length bytes; stream = stream_of bytes }

-- the value of a stream after one more piece; a fault is kept
abbrev pub stream_with : Stream → List ℕ → Stream
stream_with (Flows commands objects true rest) piece = behind commands objects (records_in (length (rest ++ piece)) (rest ++ piece))
stream_with (Flows commands objects false rest) piece = behind commands objects (header_in (MAX_COMMANDS - length commands) (rest ++ piece))
stream_with (Breaks fault) piece = Breaks fault

-- an upload after one more piece
unfoldable pub continued : UploadValue → List ℕ → UploadValue
continued upload piece = record { count = upload.count + length piece; stream = stream_with upload.stream piece }

-- an upload after these pieces
abbrev pub fed : UploadValue → List (List ℕ) → UploadValue
fed upload [] = upload
fed upload (piece ∷ pieces) = fed (continued upload piece) pieces

-- an upload has a code, so that it can be a model's value
abbrev pub stream_parts : Stream → ((List Command × List Object) × (Bool × List ℕ)) ⊎ StreamFault
stream_parts (Flows commands objects headed rest) = inl ((commands, objects), (headed, rest))
stream_parts (Breaks fault) = inr fault

abbrev pub stream : ((List Command × List Object) × (Bool × List ℕ)) ⊎ StreamFault → Stream
stream (inl p) = Flows p.0.0 p.0.1 p.1.0 p.1.1
stream (inr fault) = Breaks fault

pub stream-parts : (s : Stream) → stream (stream_parts s) ≡ s
stream-parts (Flows commands objects headed rest) = refl
stream-parts (Breaks fault) = refl

abbrev stream_code : Coded Stream
stream_code = code_by (((List Command × List Object) × (Bool × List ℕ)) ⊎ StreamFault) (coded⊎ (coded× (coded× (coded_list command.the_row.coded) (coded_list sealed.the_row.coded)) (coded× coded_bool bytes_code)) fault.the_row.coded) stream_parts stream stream-parts

abbrev pub upload_code : Coded UploadValue
upload_code = code_by (ℕ × Stream) (coded× coded_ℕ stream_code) (λ u. (u.count, u.stream)) (λ p. record { count = p.0; stream = p.1 }) (λ _. refl)
