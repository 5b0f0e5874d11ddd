-- A stream after commands and objects that were taken before.
use Rattle.std.proofs.Common.{◌≡◌, ℕ, true, false, zero, suc, ◌≤◌, ◌<◌, List, [], ◌∷◌, ◌++◌, Result, Ok, Err, refl, sym, ap, ap₂, ◌∙◌, Some, length, append_assoc, append-nil, arith}
use Rattle.git_name.specs.Object.{Object}
use Rattle.git_reftx.specs.Line.{line_at}
use Rattle.git_reftx.specs.declared.command.Command.{Command}
use Rattle.push_stream.specs.Record.{RecordAt, Taken, Open, Wrong, record_at, parts_at}
use Rattle.push_stream.specs.Shown.{TellsStreamFault, TellsRecord, fault_at}
use Rattle.push_stream.specs.Stream.{Stream, Flows, Breaks, behind, records_in, after_record, finished}
use Rattle.push_stream.specs.declared.fault.BodyError.{BodyError}
use Rattle.push_stream.specs.declared.fault.BodyError.TheVariants.{Fault, Memory}
use Rattle.push_stream.specs.declared.fault.StreamFault.{StreamFault}
use Rattle.push_stream.proofs.RecordLemmas.{record_shorter}

-- nothing precedes
pub behind-nil : (s : Stream) → behind [] [] s ≡ s
behind-nil (Flows commands objects headed rest) = refl
behind-nil (Breaks fault) = refl

-- what precedes in two steps precedes in one
pub behind-behind : (cs ds : List Command) (os ps : List Object) (s : Stream) → behind cs os (behind ds ps s) ≡ behind (cs ++ ds) (os ++ ps) s
behind-behind cs ds os ps (Flows commands objects headed rest) = ap₂ (λ before more. Flows before more headed rest) (sym (append_assoc cs ds commands)) (sym (append_assoc os ps objects))
behind-behind cs ds os ps (Breaks fault) = refl

-- nothing is left
pub records_in-nil : (most : ℕ) → records_in most [] ≡ Flows [] [] true []
unfolding record_at parts_at line_at
records_in-nil zero = refl
records_in-nil (suc most) = refl

-- one more record was taken
pub taken_more : (whole : Stream) (most : ℕ) (sent more : List Object) (rest others : List ℕ) (object : Object) → length rest ≤ most → whole ≡ behind [] sent (records_in most rest) → record_at rest ≡ Taken object others → more ≡ sent ++ object ∷ []
    → (left : ℕ) × (length others ≤ left) × (whole ≡ behind [] more (records_in left others))
taken_more whole zero sent more rest others object fits so_far taken grown =
    let shorter : length others < length rest = record_shorter rest object others taken in
    absurd (omega arith)
taken_more whole (suc most) sent more rest others object fits so_far taken grown =
    let shorter : length others < length rest = record_shorter rest object others taken in
    (most, omega arith, so_far ∙ ap (λ at. behind [] sent (after_record rest (records_in most) at)) taken ∙ behind-behind [] [] sent (object ∷ []) (records_in most others) ∙ ap (λ objects. behind [] objects (records_in most others)) (sym grown))

-- an empty rest holds no record
nothing_left : (whole : Stream) (most : ℕ) (sent : List Object) (rest : List ℕ) → whole ≡ behind [] sent (records_in most rest) → rest ≡ [] → finished whole ≡ Ok ([], sent)
nothing_left whole most sent rest so_far none =
    ap finished (so_far ∙ ap (λ r. behind [] sent (records_in most r)) none ∙ ap (behind [] sent) (records_in-nil most)) ∙ ap (λ objects. Ok ([], objects)) (append-nil sent)

-- a text of no bytes is empty
no_bytes : (rest : List ℕ) → length rest ≡ 0 → rest ≡ []
no_bytes [] none = refl
no_bytes (b ∷ rest) none = absurd (omega arith)

-- all records were taken
pub taken_all : (whole : Stream) (most : ℕ) (sent : List Object) (rest : List ℕ) → whole ≡ behind [] sent (records_in most rest) → length rest ≡ 0 → finished whole ≡ Ok ([], sent)
taken_all whole most sent rest so_far none = nothing_left whole most sent rest so_far (no_bytes rest none)

-- a whole stream after commands and objects
abbrev pub and_more : List Command → List Object → Result (List Command × List Object) StreamFault → Result (List Command × List Object) StreamFault
and_more commands objects (Ok held) = Ok (commands ++ held.0, objects ++ held.1)
and_more commands objects (Err fault) = Err fault

-- a stream that ends here, after commands and objects
pub finished-behind : (commands : List Command) (objects : List Object) (s : Stream) → finished (behind commands objects s) ≡ and_more commands objects (finished s)
finished-behind commands objects (Flows others more true []) = refl
finished-behind commands objects (Flows others more true (b ∷ rest)) = refl
finished-behind commands objects (Flows others more false rest) = refl
finished-behind commands objects (Breaks fault) = refl

-- what is wrong with the rest is wrong with the whole
pub tells_behind : (whole s : Stream) (commands : List Command) (objects : List Object) (error : BodyError) → whole ≡ behind commands objects s → TellsStreamFault s error → TellsStreamFault whole error
tells_behind whole s commands objects (Fault fault) is told = ap finished is ∙ finished-behind commands objects s ∙ ap (and_more commands objects) told
tells_behind whole s commands objects Memory is told = tt

-- why there is no record at the front of the rest
told_at : (text : List ℕ) (others : List ℕ → Stream) (at : RecordAt) (fault : StreamFault) → 0 < length text → fault_at at ≡ Some fault → finished (after_record text others at) ≡ Err fault
told_at text others (Taken object rest) fault some told = absurd (cc)
told_at [] others Open fault some told = absurd (omega arith)
told_at (b ∷ bs) others Open fault some told = cc
told_at text others (Wrong why) fault some told = cc

-- the same for an error
tells_at : (text : List ℕ) (others : List ℕ → Stream) (at : RecordAt) (error : BodyError) → 0 < length text → TellsRecord at error → TellsStreamFault (after_record text others at) error
tells_at text others at (Fault fault) some told = told_at text others at fault some told
tells_at text others at Memory some told = tt

-- a record that is not valid
pub tells_record : (whole : Stream) (most : ℕ) (sent : List Object) (rest : List ℕ) (error : BodyError) → 0 < length rest → length rest ≤ most → whole ≡ behind [] sent (records_in most rest) → TellsRecord (record_at rest) error → TellsStreamFault whole error
tells_record whole zero sent rest error some fits so_far told = absurd (omega arith)
tells_record whole (suc most) sent rest error some fits so_far told =
    tells_behind whole (after_record rest (records_in most) (record_at rest)) [] sent error so_far (tells_at rest (records_in most) (record_at rest) error some told)
