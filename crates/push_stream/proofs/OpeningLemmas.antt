-- What a header, records and a tail open again, as pieces are received.
use Rattle.std.proofs.Common.{◌≡◌, ℕ, suc, ◌+◌, ◌<◌, ◌≤◌, Bool, true, false, List, [], ◌∷◌, ◌++◌, Option, None, Some, refl, sym, ap, ap₂, ◌∙◌, is_some, length, length-append, map, append_assoc, append-nil, arith}
use Rattle.std.specs.Prelude.{replicate}
use Rattle.std.proofs.lemmas.List.{append_cancel_left, length-replicate}
use Rattle.std.proofs.lemmas.List.Sums.{sum_by-append, sum_by-cons}
use Rattle.git_name.specs.Object.{Object}
use Rattle.git_reftx.specs.declared.command.Command.{Command}
use Rattle.push_stream.specs.declared.again.TheConstants.{MAX_HEADER}
use Rattle.push_stream.specs.declared.fault.StreamFault.{StreamFault}
use Rattle.push_stream.specs.declared.sent.Sent.{Sent}
use Rattle.push_stream.specs.Again.{OpensAs, OpensBroken, OpensGoing, record_size, records_size, told_in}
use Rattle.push_stream.specs.OpenUpload.{IsStanding, flow_from, rest_of}
use Rattle.push_stream.specs.Reading.{Flow, Going, Broken, Reading, added_in, flow_of, reading_of, sent_of}
use Rattle.push_stream.specs.Record.{record_line, record_of}
use Rattle.push_stream.specs.Spelling.{AreWithin, records_of}
use Rattle.push_stream.specs.Stream.{AreObjects, Breaks, Flows, Stream, behind, records_in, sent_in, stream_of}
use Rattle.push_stream.specs.Upload.{stream_with}
use Rattle.push_stream.proofs.GainingLemmas.{open_in}
use Rattle.push_stream.proofs.OpenUploadLemmas.{waits_on}
use Rattle.push_stream.proofs.LengthLemmas.{header_short}
use Rattle.push_stream.proofs.PieceLemmas.{stream_grows}
use Rattle.push_stream.proofs.WrittenLemmas.{append-none, records_again}

-- ---- lengths
-- a record has as many bytes as what is known of its object says
size_of_record : (object : Object) → length (record_of object) ≡ record_size (sent_of object)
unfolding record_of
size_of_record object =
    let whole : length (record_line object ++ 10 ∷ object.bytes ++ 10 ∷ []) ≡ length (record_line object ++ 10 ∷ object.bytes) + 1 = length-append (record_line object ++ 10 ∷ object.bytes) (10 ∷ []) in
    let front : length (record_line object ++ 10 ∷ object.bytes) ≡ length (record_line object) + suc (length object.bytes) = length-append (record_line object) (10 ∷ object.bytes) in
    omega arith

-- and so do records
size_of_records : (objects : List Object) → length (records_of objects) ≡ records_size (map sent_of objects)
size_of_records [] = refl
size_of_records (object ∷ objects) =
    let joined : length (record_of object ++ records_of objects) ≡ length (record_of object) + length (records_of objects) = length-append (record_of object) (records_of objects) in
    let one : length (record_of object) ≡ record_size (sent_of object) = size_of_record object in
    let others : length (records_of objects) ≡ records_size (map sent_of objects) = size_of_records objects in
    let sum : records_size (sent_of object ∷ map sent_of objects) ≡ record_size (sent_of object) + records_size (map sent_of objects) = sum_by-cons record_size (sent_of object) (map sent_of objects) in
    joined ∙ ap₂ (λ (m n : ℕ). m + n) one others ∙ sym sum

-- and those of more records
sizes_join : (sent more : List Sent) → records_size (sent ++ more) ≡ records_size sent + records_size more
sizes_join sent more = sum_by-append record_size sent more

-- ---- a header, and what follows it
-- what a text adds after a header
pub header_before : (header text : List ℕ) (commands : List Command) (headed : Bool) → stream_of header ≡ Flows commands [] headed [] → stream_of (header ++ text) ≡ behind commands [] (added_in headed (length commands) text)
header_before header text commands true asks = sym (stream_grows header text) ∙ ap (λ (s : Stream). stream_with s text) asks
header_before header text commands false asks = sym (stream_grows header text) ∙ ap (λ (s : Stream). stream_with s text) asks

-- a list that adds nothing to another is empty
no_more : {A : Type 0} (xs ys : List A) → xs ++ ys ≡ xs → ys ≡ []
no_more xs ys is = append_cancel_left xs ys [] (is ∙ sym (append-nil xs))

-- a stream that adds nothing to another is nothing but a rest
nothing_more : (commands : List Command) (objects : List Object) (headed : Bool) (rest : List ℕ) (s : Stream) → behind commands objects s ≡ Flows commands objects headed rest → s ≡ Flows [] [] headed rest
nothing_more commands objects headed rest (Flows others more later left) is =
    let asked : commands ++ others ≡ commands = cc in
    let sent : objects ++ more ≡ objects = cc in
    let no_others : others ≡ [] = no_more commands others asked in
    let none_sent : more ≡ [] = no_more objects more sent in
    let same : later ≡ headed = cc in
    let ends : left ≡ rest = cc in
    λ i. Flows (no_others i) (none_sent i) (same i) (ends i)
nothing_more commands objects headed rest (Breaks fault) is = (let differs : ⊥ = cc in absurd differs)

-- so nothing in the rest of a stream is complete
pub rest_waits : (bytes : List ℕ) (commands : List Command) (objects : List Object) (headed : Bool) (rest : List ℕ) → stream_of bytes ≡ Flows commands objects headed rest → added_in headed (length commands) rest ≡ Flows [] [] headed rest
rest_waits bytes commands objects true rest is =
    let again = ap (λ (s : Stream). stream_with s []) (sym is) ∙ stream_grows bytes [] ∙ ap stream_of (append-nil bytes) ∙ is in
    nothing_more commands objects true rest (added_in true (length commands) rest) (ap (λ (l : List ℕ). behind commands objects (added_in true (length commands) l)) (sym (append-nil rest)) ∙ again)
rest_waits bytes commands objects false rest is =
    let again = ap (λ (s : Stream). stream_with s []) (sym is) ∙ stream_grows bytes [] ∙ ap stream_of (append-nil bytes) ∙ is in
    nothing_more commands objects false rest (added_in false (length commands) rest) (ap (λ (l : List ℕ). behind commands objects (added_in false (length commands) l)) (sym (append-nil rest)) ∙ again)

-- ---- one more piece
-- an unfinished record goes on
pub short_opens : (header bytes piece new : List ℕ) (count : ℕ) (commands : List Command) (sent : List Sent) (headed : Bool) (own : Option (List ℕ)) (fault : Option StreamFault) (wanted : ℕ)
    → own ≡ None → is_some fault ≡ false → headed ≡ true → new ≡ bytes ++ piece → IsStanding (record { count = count; flow = flow_from commands sent headed (rest_of bytes own) fault }) wanted → length new < wanted
    → OpensAs header (rest_of bytes own) count (flow_from commands sent headed (rest_of bytes own) fault) → OpensAs header (rest_of new own) (count + length piece) (flow_from commands sent headed (rest_of new own) fault)
short_opens header bytes piece new count commands sent headed (Some rest) fault wanted whole right front is stands few opens = (let differs : ⊥ = cc in absurd differs)
short_opens header bytes piece new count commands sent headed None (Some fault) wanted whole right front is stands few opens = (let differs : ⊥ = cc in absurd differs)
short_opens header bytes piece new count commands sent false None None wanted whole right front is stands few opens = (let differs : ⊥ = cc in absurd differs)
short_opens header bytes piece new count commands sent true None None wanted whole right front is stands few opens =
    let grown : length new ≡ length bytes + length piece = ap (λ (l : List ℕ). length l) is ∙ length-append bytes piece in
    let before : length header + (records_size sent + length bytes) ≡ count = opens.counted in
    record {
      asks = opens.asks;
      waits = open_in (length new) new (waits_on bytes piece new wanted is stands.waits few);
      bare = opens.bare;
      left = refl;
      counted = omega arith;
    }

-- a stream breaks
pub breaks_opens : (header bytes piece new : List ℕ) (count : ℕ) (commands : List Command) (sent : List Sent) (headed : Bool) (own : Option (List ℕ)) (fault : Option StreamFault) (why : StreamFault)
    → own ≡ None → is_some fault ≡ false → new ≡ bytes ++ piece → added_in headed (length commands) new ≡ Breaks why
    → OpensAs header (rest_of bytes own) count (flow_from commands sent headed (rest_of bytes own) fault) → OpensBroken header (rest_of new own) (count + length piece) why
breaks_opens header bytes piece new count commands sent headed (Some rest) fault why whole right is found opens = (let differs : ⊥ = cc in absurd differs)
breaks_opens header bytes piece new count commands sent headed None (Some fault) why whole right is found opens = (let differs : ⊥ = cc in absurd differs)
breaks_opens header bytes piece new count commands sent headed None None why whole right is found opens =
    let grown : length new ≡ length bytes + length piece = ap (λ (l : List ℕ). length l) is ∙ length-append bytes piece in
    let before : length header + (records_size sent + length bytes) ≡ count = opens.counted in
    record {
      breaks = header_before header new commands headed opens.asks ∙ ap (behind commands []) found;
      short = header_short header commands headed opens.asks;
      within = omega arith;
    }

-- nothing sent before, and nothing that comes
none_sent : (sent : List Sent) (objects : List Object) → sent ≡ [] → objects ≡ [] → sent ++ map sent_of objects ≡ []
none_sent sent objects first second = ap₂ (λ (s : List Sent) (os : List Object). s ++ map sent_of os) first second

-- a text adds commands, records and a rest
pub added_opens : (header bytes piece new : List ℕ) (count : ℕ) (commands : List Command) (sent : List Sent) (headed : Bool) (own : Option (List ℕ)) (fault : Option StreamFault)
    → (more rest : List ℕ) (others : List Command) (objects : List Object) (later : Bool)
    → own ≡ None → is_some fault ≡ false → new ≡ bytes ++ piece → added_in headed (length commands) new ≡ Flows others objects later rest
    → added_in headed (length commands) more ≡ Flows others [] later [] → new ≡ more ++ (records_of objects ++ rest) → (later ≡ false → (headed ≡ false) × (objects ≡ []))
    → OpensAs header (rest_of bytes own) count (flow_from commands sent headed (rest_of bytes own) fault)
    → OpensGoing (header ++ more) rest (count + length piece) (commands ++ others) (sent ++ map sent_of objects) later rest
added_opens header bytes piece new count commands sent headed (Some own) fault more rest others objects later whole right is found front spelled alone opens = (let differs : ⊥ = cc in absurd differs)
added_opens header bytes piece new count commands sent headed None (Some fault) more rest others objects later whole right is found front spelled alone opens = (let differs : ⊥ = cc in absurd differs)
added_opens header bytes piece new count commands sent headed None None more rest others objects later whole right is found front spelled alone opens =
    let grown : length new ≡ length bytes + length piece = ap (λ (l : List ℕ). length l) is ∙ length-append bytes piece in
    let before : length header + (records_size sent + length bytes) ≡ count = opens.counted in
    let parted : length new ≡ length more + length (records_of objects ++ rest) = ap (λ (l : List ℕ). length l) spelled ∙ length-append more (records_of objects ++ rest) in
    let ended : length (records_of objects ++ rest) ≡ length (records_of objects) + length rest = length-append (records_of objects) rest in
    let size : length (records_of objects) ≡ records_size (map sent_of objects) = size_of_records objects in
    let joined : records_size (sent ++ map sent_of objects) ≡ records_size sent + records_size (map sent_of objects) = sizes_join sent (map sent_of objects) in
    let longer : length (header ++ more) ≡ length header + length more = length-append header more in
    record {
      asks = header_before header more commands headed opens.asks ∙ ap (behind commands []) front;
      waits = rest_waits (header ++ new) (commands ++ others) objects later rest (header_before header new commands headed opens.asks ∙ ap (behind commands []) found);
      bare = λ plain. none_sent sent objects (opens.bare (alone plain).0) (alone plain).1;
      left = refl;
      counted = omega arith;
    }

-- ---- an upload again
-- the header is short
pub opens_short : (header tail : List ℕ) (count : ℕ) (flow : Flow) → OpensAs header tail count flow → length header ≤ MAX_HEADER
opens_short header tail count (Going commands sent headed rest) opens = header_short header commands headed opens.asks
opens_short header tail count (Broken fault) opens = opens.short

-- if nothing was sent, there are no objects
none_told : (objects : List Object) (sent : List Sent) → map sent_of objects ≡ sent → sent ≡ [] → objects ≡ []
none_told [] sent told none = refl
none_told (object ∷ objects) sent told none = (let differs : ⊥ = cc in absurd differs)

-- records after a header
records_behind : (header rest : List ℕ) (commands : List Command) (objects : List Object) → AreObjects objects → AreWithin objects → stream_of header ≡ Flows commands [] true [] → records_in (length rest) rest ≡ Flows [] [] true rest
    → stream_of (header ++ (records_of objects ++ rest)) ≡ Flows commands objects true rest
records_behind header rest commands objects are within asks waits =
    let sent : stream_of (header ++ records_of objects) ≡ Flows commands objects true [] =
    header_before header (records_of objects) commands true asks ∙ ap (behind commands []) (records_again (length (records_of objects)) objects are within (omega arith)) ∙ append-none commands objects in
    ap stream_of (sym (append_assoc header (records_of objects) rest))
    ∙ sym (stream_grows (header ++ records_of objects) rest)
    ∙ ap (λ (s : Stream). stream_with s rest) sent
    ∙ ap (behind commands objects) waits
    ∙ ap₂ (λ (cs : List Command) (os : List Object). Flows cs os true rest) (append-nil commands) (append-nil objects)

-- a stream that goes on
going_again : (header rest : List ℕ) (commands : List Command) (sent : List Sent) (headed : Bool) (objects : List Object) → AreObjects objects → AreWithin objects → map sent_of objects ≡ sent → (headed ≡ false → sent ≡ [])
    → stream_of header ≡ Flows commands [] headed [] → added_in headed (length commands) rest ≡ Flows [] [] headed rest → flow_of (stream_of (header ++ (records_of objects ++ rest))) ≡ Going commands sent headed rest
going_again header rest commands sent true objects are within told bare asks waits =
    ap flow_of (records_behind header rest commands objects are within asks waits) ∙ ap (λ (s : List Sent). Going commands s true rest) told
going_again header rest commands sent false objects are within told bare asks waits =
    let none : objects ≡ [] = none_told objects sent told (bare refl) in
    ap (λ (os : List Object). flow_of (stream_of (header ++ (records_of os ++ rest)))) none
    ∙ ap flow_of (header_before header rest commands false asks ∙ ap (behind commands []) waits)
    ∙ ap₂ (λ (cs : List Command) (s : List Sent). Going cs s false rest) (append-nil commands) (sym (bare refl))

-- bytes of this number that lead the stream to this state
same_reading : (bytes : List ℕ) (reading : Reading) → length bytes ≡ reading.count → flow_of (stream_of bytes) ≡ reading.flow → reading_of bytes ≡ reading
same_reading bytes reading count flow = ap₂ (λ (n : ℕ) (f : Flow). record { count = n; flow = f }) count flow

-- what was kept opens the upload again
pub opened_again : (header tail : List ℕ) (missing count : ℕ) (commands : List Command) (sent : List Sent) (headed : Bool) (rest : List ℕ) (fault : Option StreamFault)
    → OpensAs header tail count (flow_from commands sent headed rest fault) → (is_some fault ≡ false → missing ≡ 0) → (is_some fault ≡ true → length header + length tail + missing ≡ count)
    → (objects : List Object) → AreObjects objects → AreWithin objects → map sent_of objects ≡ told_in (flow_from commands sent headed rest fault)
    → reading_of (header ++ (records_of objects ++ (tail ++ replicate missing 0))) ≡ record { count = count; flow = flow_from commands sent headed rest fault }
opened_again header tail missing count commands sent headed rest None opens none all_there objects are within told =
    let all : length (header ++ (records_of objects ++ rest)) ≡ length header + length (records_of objects ++ rest) = length-append header (records_of objects ++ rest) in
    let ended : length (records_of objects ++ rest) ≡ length (records_of objects) + length rest = length-append (records_of objects) rest in
    let size : length (records_of objects) ≡ records_size sent = size_of_records objects ∙ ap records_size told in
    let before : length header + (records_size sent + length rest) ≡ count = opens.counted in
    ap₂ (λ (l : List ℕ) (n : ℕ). reading_of (header ++ (records_of objects ++ (l ++ replicate n 0)))) opens.left (none refl)
    ∙ ap (λ (l : List ℕ). reading_of (header ++ (records_of objects ++ l))) (append-nil rest)
    ∙ same_reading (header ++ (records_of objects ++ rest)) (record { count = count; flow = Going commands sent headed rest }) (omega arith) (going_again header rest commands sent headed objects are within told opens.bare opens.asks opens.waits)
opened_again header tail missing count commands sent headed rest (Some fault) opens none all_there objects are within told =
    let nothing : objects ≡ [] = none_told objects [] told refl in
    let ends : List ℕ = replicate missing 0 in
    let padded : length ends ≡ missing = length-replicate missing 0 in
    let all : length ((header ++ tail) ++ ends) ≡ length (header ++ tail) + length ends = length-append (header ++ tail) ends in
    let front : length (header ++ tail) ≡ length header + length tail = length-append header tail in
    let so_many : length header + length tail + missing ≡ count = all_there refl in
    ap (λ (os : List Object). reading_of (header ++ (records_of os ++ (tail ++ ends)))) nothing
    ∙ ap reading_of (sym (append_assoc header tail ends))
    ∙ same_reading ((header ++ tail) ++ ends) (record { count = count; flow = Broken fault }) (omega arith) (ap flow_of (sym (stream_grows (header ++ tail) ends) ∙ ap (λ (s : Stream). stream_with s ends) opens.breaks))

-- ---- the objects of an upload again
-- a stream that goes on holds these objects
going_sent : (header rest : List ℕ) (commands : List Command) (sent : List Sent) (headed : Bool) (objects : List Object) → AreObjects objects → AreWithin objects → map sent_of objects ≡ sent → (headed ≡ false → sent ≡ [])
    → stream_of header ≡ Flows commands [] headed [] → added_in headed (length commands) rest ≡ Flows [] [] headed rest → sent_in (stream_of (header ++ (records_of objects ++ rest))) ≡ objects
going_sent header rest commands sent true objects are within told bare asks waits = ap sent_in (records_behind header rest commands objects are within asks waits)
going_sent header rest commands sent false objects are within told bare asks waits =
    let none : objects ≡ [] = none_told objects sent told (bare refl) in
    ap (λ (os : List Object). sent_in (stream_of (header ++ (records_of os ++ rest)))) none
    ∙ ap sent_in (header_before header rest commands false asks ∙ ap (behind commands []) waits)
    ∙ sym none

-- what was kept opens the upload with these objects
pub sent_again : (header tail : List ℕ) (missing count : ℕ) (commands : List Command) (sent : List Sent) (headed : Bool) (rest : List ℕ) (fault : Option StreamFault)
    → OpensAs header tail count (flow_from commands sent headed rest fault) → (is_some fault ≡ false → missing ≡ 0)
    → (objects : List Object) → AreObjects objects → AreWithin objects → map sent_of objects ≡ told_in (flow_from commands sent headed rest fault)
    → sent_in (stream_of (header ++ (records_of objects ++ (tail ++ replicate missing 0)))) ≡ objects
sent_again header tail missing count commands sent headed rest None opens none objects are within told =
    ap₂ (λ (l : List ℕ) (n : ℕ). sent_in (stream_of (header ++ (records_of objects ++ (l ++ replicate n 0))))) opens.left (none refl)
    ∙ ap (λ (l : List ℕ). sent_in (stream_of (header ++ (records_of objects ++ l)))) (append-nil rest)
    ∙ going_sent header rest commands sent headed objects are within told opens.bare opens.asks opens.waits
sent_again header tail missing count commands sent headed rest (Some fault) opens none objects are within told =
    let nothing : objects ≡ [] = none_told objects [] told refl in
    let ends : List ℕ = replicate missing 0 in
    ap (λ (os : List Object). sent_in (stream_of (header ++ (records_of os ++ (tail ++ ends))))) nothing
    ∙ ap (λ (l : List ℕ). sent_in (stream_of l)) (sym (append_assoc header tail ends))
    ∙ ap sent_in (sym (stream_grows (header ++ tail) ends) ∙ ap (λ (s : Stream). stream_with s ends) opens.breaks)
    ∙ sym nothing
