-- What a piece adds to a stream, by what is known of the stream.
use Rattle.std.proofs.Common.{◌≡◌, ℕ, zero, suc, ◌+◌, ◌-◌, true, false, List, [], ◌∷◌, ◌++◌, Ok, refl, sym, ap, ◌∙◌, length, drop, map}
use Rattle.std.proofs.Math.Seq.{drop-append_seam}
use Rattle.std.proofs.lemmas.List.{map-append}
use Rattle.git_name.specs.Object.{Object, object_name}
use Rattle.git_reftx.specs.declared.command.Command.{Command}
use Rattle.git_reftx.specs.declared.reading.TheConstants.{MAX_COMMANDS}
use Rattle.push_stream.specs.declared.sent.Sent.{Sent}
use Rattle.push_stream.specs.Brief.{brief_of}
use Rattle.push_stream.specs.Reading.{Flow, Going, Reading, sent_of, flow_of, reading_of, added, gained, gained_by, noted, flow_with, read_on, finished_flow}
use Rattle.push_stream.specs.Stream.{Stream, Flows, Breaks, behind, finished, header_in, records_in, sent_in, stream_of}
use Rattle.push_stream.specs.Upload.{UploadValue, continued, stream_with}
use Rattle.push_stream.proofs.PieceLemmas.{piece_joins}

-- what precedes a stream is noted before it
flow_behind : (commands : List Command) (objects : List Object) (s : Stream) → flow_of (behind commands objects s) ≡ noted commands (map sent_of objects) (flow_of s)
flow_behind commands objects (Flows others more headed rest) = ap (λ (sent : List Sent). Going (commands ++ others) sent headed rest) (map-append sent_of objects more)
flow_behind commands objects (Breaks fault) = refl

-- a stream after one more piece, from what is known of it
flow_joins : (s : Stream) (piece : List ℕ) → flow_of (stream_with s piece) ≡ flow_with (flow_of s) (added (flow_of s) piece)
flow_joins (Flows commands objects true rest) piece = flow_behind commands objects (records_in (length (rest ++ piece)) (rest ++ piece))
flow_joins (Flows commands objects false rest) piece = flow_behind commands objects (header_in (MAX_COMMANDS - length commands) (rest ++ piece))
flow_joins (Breaks fault) piece = refl

-- what is known of an upload
abbrev known : UploadValue → Reading
known upload = record { count = upload.count; flow = flow_of upload.stream }

-- one more piece
pub reading_joins : (bytes piece : List ℕ) → reading_of (bytes ++ piece) ≡ read_on (reading_of bytes) piece
unfolding continued read_on
reading_joins bytes piece =
    sym (ap known (piece_joins bytes piece))
    ∙ ap (λ (flow : Flow). record { count = length bytes + length piece; flow = flow }) (flow_joins (stream_of bytes) piece)

-- nothing is left of nothing
drop_none : (n : ℕ) → ◌≡◌ {A = List Object} (drop n []) []
drop_none zero = refl
drop_none (suc n) = refl

-- what follows other objects
gained_behind : (commands : List Command) (objects : List Object) (s : Stream) → drop (length objects) (sent_in (behind commands objects s)) ≡ sent_in s
gained_behind commands objects (Flows others more headed rest) = drop-append_seam objects more
gained_behind commands objects (Breaks fault) = drop_none (length objects)

gained_with : (s : Stream) (piece : List ℕ) → drop (length (sent_in s)) (sent_in (stream_with s piece)) ≡ gained (flow_of s) piece
gained_with (Flows commands objects true rest) piece = gained_behind commands objects (records_in (length (rest ++ piece)) (rest ++ piece))
gained_with (Flows commands objects false rest) piece = gained_behind commands objects (header_in (MAX_COMMANDS - length commands) (rest ++ piece))
gained_with (Breaks fault) piece = refl

-- the objects that a piece brings
pub gained_is : (bytes piece : List ℕ) → gained_by bytes piece ≡ gained (reading_of bytes).flow piece
unfolding continued
gained_is bytes piece =
    ap (λ (upload : UploadValue). drop (length (sent_in (stream_of bytes))) (sent_in upload.stream)) (sym (piece_joins bytes piece))
    ∙ gained_with (stream_of bytes) piece

-- the names of what was sent
names_are : (objects : List Object) → map (λ (one : Sent). one.name) (map sent_of objects) ≡ map object_name objects
names_are [] = refl
names_are (object ∷ objects) = ap (λ names. object_name object ∷ names) (names_are objects)

-- a stream that ends here
pub finished_is : (s : Stream) → finished_flow (flow_of s) ≡ brief_of (finished s)
finished_is (Flows commands objects true []) = ap (λ names. Ok (commands, names)) (names_are objects)
finished_is (Flows commands objects true (b ∷ rest)) = refl
finished_is (Flows commands objects false rest) = refl
finished_is (Breaks fault) = refl

-- what a piece adds depends on what is known and on the piece
pub same_reading : (xs ys piece : List ℕ) → reading_of xs ≡ reading_of ys → reading_of (xs ++ piece) ≡ reading_of (ys ++ piece)
same_reading xs ys piece same = reading_joins xs piece ∙ ap (λ reading. read_on reading piece) same ∙ sym (reading_joins ys piece)

pub same_gained : (xs ys piece : List ℕ) → reading_of xs ≡ reading_of ys → gained_by xs piece ≡ gained_by ys piece
same_gained xs ys piece same = gained_is xs piece ∙ ap (λ (reading : Reading). gained reading.flow piece) same ∙ sym (gained_is ys piece)
