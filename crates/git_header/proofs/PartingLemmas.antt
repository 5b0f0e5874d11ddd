-- A text of valid lines and an ending is split into exactly these.
use Rattle.std.proofs.Common.{true, Bool, cond, ◌≡◌, ◌≢◌, ℕ, List, [], ◌∷◌, ◌++◌, length, drop, refl, ap, ◌∙◌, Option, Some, None}
use Rattle.std.specs.List.{AllByRecursion, flat_map, take_while}
use Rattle.std.proofs.Math.Seq.{drop-append_seam}
use Rattle.std.proofs.lemmas.List.Elements.{recursion_from_All}
use Rattle.std.proofs.lemmas.List.Sums.{take_while-cons}
use Rattle.git_name.specs.Text.{ended}
use Rattle.git_header.specs.Line.{ending}
use Rattle.git_header.specs.Judging.{Grammar, AreRightLines}
use Rattle.git_header.specs.Parting.{holds_some, header_part, behind_end, message_part}
use Rattle.git_header.specs.Row.{lines_in}
use Rattle.git_header.proofs.JudgingLemmas.{IsSound, lines_then}
use Rattle.git_header.proofs.RowLemmas.{line_first, no_lines}

-- the elements that pass, up to where one fails
pub taken : {X : Type 0} (p : X → Bool) (xs ys : List X) → AllByRecursion (λ x. p x ≡ true) xs → take_while p ys ≡ [] → take_while p (xs ++ ys) ≡ xs
taken p [] ys pass stop = stop
taken p (x ∷ xs) ys pass stop =
    take_while-cons p x (xs ++ ys) ∙ ap (λ (b : Bool). cond b (x ∷ take_while p (xs ++ ys)) []) pass.0 ∙ ap (λ t. x ∷ t) (taken p xs ys pass.1 stop)

holds : (line : List ℕ) → line ≢ [] → holds_some line ≡ true
holds [] some = absurd (some refl)
holds (b ∷ line) some = refl

some_lines : {P F : Type 0} (g : Grammar P F) → IsSound g → (p q : P) (lines : List (List ℕ)) → AreRightLines g p lines q → AllByRecursion (λ line. holds_some line ≡ true) lines
some_lines g sound p q [] right = tt
some_lines g sound p q (line ∷ lines) right = (holds line (sound.some p line right.0), some_lines g sound (g.next p line) q lines right.1)

lines_before : {P F : Type 0} (g : Grammar P F) → IsSound g → (p q : P) (lines : List (List ℕ)) (rest : List ℕ) → AreRightLines g p lines q → lines_in (flat_map ended lines ++ rest) ≡ lines ++ lines_in rest
lines_before g sound p q [] rest right = refl
lines_before g sound p q (line ∷ lines) rest right =
    ap lines_in (lines_then line lines rest) ∙ line_first line (flat_map ended lines ++ rest) (recursion_from_All (λ b. b ≢ 10) line (sound.no_end p line right.0))
    ∙ ap (λ (t : List (List ℕ)). line ∷ t) (lines_before g sound (g.next p line) q lines rest right.1)

stops : (m : Option (List ℕ)) → take_while holds_some (lines_in (ending m)) ≡ []
stops None = ap (take_while holds_some) no_lines
stops (Some m) = ap (take_while holds_some) (line_first [] m tt)

-- the lines of a text
pub header_found : {P F : Type 0} (g : Grammar P F) → IsSound g → (p q : P) (lines : List (List ℕ)) (m : Option (List ℕ)) → AreRightLines g p lines q → header_part (flat_map ended lines ++ ending m) ≡ lines
unfolding header_part
header_found g sound p q lines m right =
    ap (take_while holds_some) (lines_before g sound p q lines (ending m) right) ∙ taken holds_some lines (lines_in (ending m)) (some_lines g sound p q lines right) (stops m)

ends : (m : Option (List ℕ)) → behind_end (ending m) ≡ m
ends None = refl
ends (Some m) = refl

-- and its message
pub message_found : {P F : Type 0} (g : Grammar P F) → IsSound g → (p q : P) (lines : List (List ℕ)) (m : Option (List ℕ)) → AreRightLines g p lines q → message_part (flat_map ended lines ++ ending m) ≡ m
unfolding message_part
message_found g sound p q lines m right =
    ap (λ (ls : List (List ℕ)). behind_end (drop (length (flat_map ended ls)) (flat_map ended lines ++ ending m))) (header_found g sound p q lines m right)
    ∙ ap behind_end (drop-append_seam (flat_map ended lines) (ending m)) ∙ ends m
