-- Lines and commands that are written are read, whatever follows them, and what is read was written this way.
use Rattle.std.proofs.Common.{◌≡◌, ◌≢◌, ℕ, ◌≤◌, Bool, true, false, cond, eqb, All, List, [], ◌∷◌, ◌++◌, Option, None, Some, Result, Ok, Err, refl, ap, ◌∙◌, length, option_map, arith}
use Rattle.std.specs.Prelude.{nat_le, ⊤}
use Rattle.std.proofs.lemmas.Bool.Decides.{nat_tests}
use Rattle.git_name.specs.Text.{split_once, words_of}
use Rattle.git_name.proofs.TextLemmas.{split_once-append, split_once-plain, split_once-whole}
use Rattle.git_reftx.specs.declared.command.Command.{Command}
use Rattle.git_reftx.specs.declared.fault.CommandFault.{CommandFault}
use Rattle.git_reftx.specs.declared.fault.CommandFault.TheVariants as command
use Rattle.git_reftx.specs.Command.{command_of}
use Rattle.git_reftx.specs.Line.{LineAt, Whole, Unfinished, TooLong, line_at, line_of_parts}
use Rattle.git_reftx.specs.Reading.{command_at, command_of_line, command_taken}
use Rattle.push_stream.proofs.LongerLemmas.{line_longer, line_grows}

not_long : (n : ℕ) → n ≤ 512 → nat_le n 512 ≡ true
not_long n short = grind (arith, nat_tests)

-- a line that is short enough is read
pub line_again : (line rest : List ℕ) → All (λ b. b ≢ 10) line → length line ≤ 512 → line_at (line ++ 10 ∷ rest) ≡ Whole line rest
unfolding line_at
line_again line rest plain short =
    ap (line_of_parts (line ++ 10 ∷ rest)) (split_once-append 10 line rest plain) ∙ ap (λ (t : Bool). cond t (Whole line rest) TooLong) (not_long (length line) short)

-- a line that was read is at the start of the text
abbrev pub IsLineOf : List ℕ → LineAt → Type 0
IsLineOf text (Whole line rest) = (text ≡ line ++ 10 ∷ rest) × All (λ b. b ≢ 10) line × (length line ≤ 512)
IsLineOf text Unfinished = ⊤
IsLineOf text TooLong = ⊤

unfinished_is : (text : List ℕ) (t : Bool) → IsLineOf text (cond t Unfinished TooLong)
unfinished_is text true = tt
unfinished_is text false = tt

whole_is : (text line rest : List ℕ) (t : Bool) → nat_le (length line) 512 ≡ t → split_once 10 text ≡ Some (line, rest) → IsLineOf text (cond t (Whole line rest) TooLong)
whole_is text line rest true short is = (split_once-whole 10 text line rest is, split_once-plain 10 text line rest is, grind (arith, nat_tests))
whole_is text line rest false short is = tt

parts_are : (text : List ℕ) (o : Option (List ℕ × List ℕ)) → split_once 10 text ≡ o → IsLineOf text (line_of_parts text o)
parts_are text None is = unfinished_is text (nat_le (length text) 512)
parts_are text (Some (line, rest)) is = whole_is text line rest (nat_le (length line) 512) refl is

pub line_is : (text : List ℕ) → IsLineOf text (line_at text)
unfolding line_at
line_is text = parts_are text (split_once 10 text) refl

-- the same answer with more after the line
abbrev moved : List ℕ → Result (Command × List ℕ) CommandFault → Result (Command × List ℕ) CommandFault
moved more (Ok found) = Ok (found.0, found.1 ++ more)
moved more (Err fault) = Err fault

moved_by : (rest more : List ℕ) (o : Option Command) → command_taken o (rest ++ more) ≡ moved more (command_taken o rest)
moved_by rest more None = refl
moved_by rest more (Some found) = refl

longer_by : (more : List ℕ) (at later : LineAt) (found : Command × List ℕ) → command_of_line at ≡ Ok found → command_of_line (line_longer more at later) ≡ moved more (command_of_line at)
longer_by more (Whole line rest) later found is = moved_by rest more (command_of (words_of line))
longer_by more Unfinished later found is = absurd (cc)
longer_by more TooLong later found is = absurd (cc)

-- a command that is read is read whatever follows
pub command_longer : (text more : List ℕ) (found : Command × List ℕ) → command_at text ≡ Ok found → command_at (text ++ more) ≡ Ok (found.0, found.1 ++ more)
unfolding command_at
command_longer text more found is =
    ap command_of_line (line_grows text more) ∙ longer_by more (line_at text) (line_at (text ++ more)) found is ∙ ap (moved more) is

-- an empty line is no command
empty_line : (b : ℕ) (bs : List ℕ) → eqb b 10 ≡ true → command_at (b ∷ bs) ≡ Err command.Syntax
unfolding command_at line_at
empty_line b bs is =
    ap (λ (t : Bool). command_of_line (line_of_parts (b ∷ bs) (cond {A = Option (List ℕ × List ℕ)} t (Some ([], bs)) (option_map (λ p. (b ∷ p.0, p.1)) (split_once 10 bs))))) is

-- so a command does not begin with LF
pub no_line_end : (b : ℕ) (bs : List ℕ) (found : Command × List ℕ) → command_at (b ∷ bs) ≡ Ok found → eqb b 10 ≡ false
no_line_end b bs found is = by_byte (eqb b 10) refl
  where
    by_byte : (t : Bool) → eqb b 10 ≡ t → t ≡ false
    by_byte true same = let none = empty_line b bs same in absurd (cc)
    by_byte false same = refl

-- a command that was read is a line, which is read so whatever follows
pub command_is : (text : List ℕ) (found : Command × List ℕ) → command_at text ≡ Ok found
    → (line : List ℕ) × (text ≡ line ++ 10 ∷ found.1) × ((more : List ℕ) → command_at (line ++ 10 ∷ more) ≡ Ok (found.0, more))
unfolding command_at
command_is text found is = by_line (line_at text) (line_is text) is
  where
    by_command : (line rest : List ℕ) (o : Option Command) → command_of (words_of line) ≡ o → IsLineOf text (Whole line rest) → command_taken o rest ≡ Ok found
        → (line : List ℕ) × (text ≡ line ++ 10 ∷ found.1) × ((more : List ℕ) → command_of_line (line_at (line ++ 10 ∷ more)) ≡ Ok (found.0, more))
    by_command line rest None said spelled is = absurd (cc)
    by_command line rest (Some one) said spelled is =
        let same : (one, rest) ≡ found = cc in (
          line,
          spelled.0 ∙ ap (λ (p : Command × List ℕ). line ++ 10 ∷ p.1) same,
          λ more. ap command_of_line (line_again line more spelled.1 spelled.2) ∙ ap (λ o. command_taken o more) said ∙ ap (λ (p : Command × List ℕ). Ok (p.0, more)) same,
        )

    by_line : (at : LineAt) → IsLineOf text at → command_of_line at ≡ Ok found
        → (line : List ℕ) × (text ≡ line ++ 10 ∷ found.1) × ((more : List ℕ) → command_of_line (line_at (line ++ 10 ∷ more)) ≡ Ok (found.0, more))
    by_line (Whole line rest) spelled is = by_command line rest (command_of (words_of line)) refl spelled is
    by_line Unfinished spelled is = absurd (cc)
    by_line TooLong spelled is = absurd (cc)
