-- The commands of a stream, one by one, to the empty line.
use Rattle.std.proofs.Common.{◌≡◌, ◌≢◌, ℕ, Bool, true, false, cond, eqb, zero, suc, ◌+◌, ◌<◌, List, [], ◌∷◌, ◌++◌, Ok, sym, ap, ◌∙◌, length, length-append, arith}
use Rattle.std.proofs.lemmas.Bool.Decides.{nat_tests}
use Rattle.git_reftx.specs.declared.reading.TheConstants.{MAX_COMMANDS}
use Rattle.git_reftx.specs.Reading.{command_at}
use Rattle.git_reftx.specs.declared.command.Command.{Command}
use Rattle.push_stream.specs.Shown.{TellsStreamFault}
use Rattle.push_stream.specs.Stream.{Stream, Breaks, behind, records_in, after_command, header_in, stream_of}
use Rattle.push_stream.specs.declared.fault.BodyError.{BodyError}
use Rattle.push_stream.specs.declared.fault.StreamFault.TheVariants.{TooMany}
use Rattle.push_stream.proofs.StreamLemmas.{behind-nil, behind-behind, tells_behind}

-- what the commands of a stream begin with
pub header_none : (text : List ℕ) (none : List Command) → none ≡ [] → stream_of text ≡ behind none [] (header_in MAX_COMMANDS text)
unfolding stream_of
header_none text none is = sym (behind-nil (header_in MAX_COMMANDS text)) ∙ ap (λ commands. behind commands [] (header_in MAX_COMMANDS text)) (sym is)

-- what follows a command, with room for this many
abbrev pub others_in : ℕ → List ℕ → Stream
others_in zero rest = Breaks TooMany
others_in (suc room) rest = header_in room rest

-- a byte that is no LF
not_ten : (b : ℕ) → b ≢ 10 → eqb b 10 ≡ false
not_ten b apart = grind (arith, nat_tests)

-- what follows an empty line
pub step_end : (room b : ℕ) (bs : List ℕ) → eqb b 10 ≡ true → header_in room (b ∷ bs) ≡ records_in (length bs) bs
step_end zero b bs is = ap (λ (t : Bool). cond t (records_in (length bs) bs) (after_command (b ∷ bs) (others_in zero) (command_at (b ∷ bs)))) is
step_end (suc room) b bs is = ap (λ (t : Bool). cond t (records_in (length bs) bs) (after_command (b ∷ bs) (header_in room) (command_at (b ∷ bs)))) is

-- what follows a line that is not empty
pub step_line : (room b : ℕ) (bs : List ℕ) → eqb b 10 ≡ false → header_in room (b ∷ bs) ≡ after_command (b ∷ bs) (others_in room) (command_at (b ∷ bs))
step_line zero b bs is = ap (λ (t : Bool). cond t (records_in (length bs) bs) (after_command (b ∷ bs) (others_in zero) (command_at (b ∷ bs)))) is
step_line (suc room) b bs is = ap (λ (t : Bool). cond t (records_in (length bs) bs) (after_command (b ∷ bs) (header_in room) (command_at (b ∷ bs)))) is

-- a text that does not begin with an empty line
pub header_step : (room : ℕ) (rest : List ℕ) → 0 < length rest → ((records : List ℕ) → rest ≢ 10 ∷ records) → header_in room rest ≡ after_command rest (others_in room) (command_at rest)
header_step room [] some line = absurd (omega arith)
header_step room (b ∷ bs) some line = step_line room b bs (not_ten b (λ is. line bs (ap (λ x. x ∷ bs) is)))

-- one more command was read
pub header_more : (whole : Stream) (room : ℕ) (sent more : List Command) (rest others : List ℕ) (command : Command) → 0 < length rest → ((records : List ℕ) → rest ≢ 10 ∷ records) → length sent + room ≡ MAX_COMMANDS → length sent < MAX_COMMANDS
    → whole ≡ behind sent [] (header_in room rest) → command_at rest ≡ Ok (command, others) → more ≡ sent ++ command ∷ []
    → (left : ℕ) × (length more + left ≡ MAX_COMMANDS) × (whole ≡ behind more [] (header_in left others))
header_more whole zero sent more rest others command some line all few so_far taken grown = absurd (omega arith)
header_more whole (suc room) sent more rest others command some line all few so_far taken grown =
    let longer : length more ≡ length sent + 1 = ap (λ (l : List Command). length l) grown ∙ length-append sent (command ∷ []) in (
      room,
      omega arith,
      so_far ∙ ap (behind sent []) (header_step (suc room) rest some line ∙ ap (after_command rest (header_in room)) taken)
          ∙ behind-behind sent (command ∷ []) [] [] (header_in room others) ∙ ap (λ commands. behind commands [] (header_in room others)) (sym grown),
    )

-- a line that is no command
pub header_fault : (whole : Stream) (room : ℕ) (sent : List Command) (rest : List ℕ) (error : BodyError) → 0 < length rest → ((records : List ℕ) → rest ≢ 10 ∷ records)
    → whole ≡ behind sent [] (header_in room rest) → ((others : List ℕ → Stream) → TellsStreamFault (after_command rest others (command_at rest)) error) → TellsStreamFault whole error
header_fault whole room sent rest error some line so_far told =
    tells_behind whole (after_command rest (others_in room) (command_at rest)) sent [] error (so_far ∙ ap (behind sent []) (header_step room rest some line)) (told (others_in room))
