-- The words of a line that refers to a log of open uploads.
use Rattle.std.proofs.Common.{◌≡◌, ◌∙◌, Bool, true, false, not, ap, refl, sym, ℕ, List, [], ◌∷◌, ◌++◌, append_assoc, nat_eq}
use Rattle.std.specs.Prelude.{codes, decimal}
use Rattle.std.specs.Cmp.Lexicographic.{pointwise}
use Rattle.std.proofs.lemmas.Slice.Eq.{slice_eq-Decides}
use Rattle.std.proofs.lemmas.Bool.Decides.{Decides-eqb}
use Rattle.hex.specs.Hex.{encode_lower}
use Rattle.fork_program.specs.UploadLog.{reference_line}

-- from the left and from the right
joined : (a b c d e f g h : List ℕ) → a ++ b ++ c ++ d ++ e ++ f ++ g ++ h ≡ a ++ (b ++ (c ++ (d ++ (e ++ (f ++ (g ++ h))))))
joined a b c d e f g h = simp append_assoc

one_line : (number len sum : List ℕ) → (codes "uploads" ++ 32 ∷ (number ++ 32 ∷ (len ++ 32 ∷ sum))) ++ 10 ∷ [] ≡ codes "uploads" ++ codes " " ++ number ++ codes " " ++ len ++ codes " " ++ sum ++ codes "\n"
one_line number len sum =
    ap (λ rest. codes "uploads" ++ (32 ∷ rest)) (append_assoc number (32 ∷ (len ++ 32 ∷ sum)) (10 ∷ []) ∙ ap (λ rest. number ++ 32 ∷ rest) (append_assoc len (32 ∷ sum) (10 ∷ [])))
    ∙ sym (joined (codes "uploads") (codes " ") number (codes " ") len (codes " ") sum (codes "\n"))

told_true : (b : Bool) → false ≡ not b → b ≡ true
told_true true is = refl
told_true false is = absurd (cc)

-- the test of the first word
pub same_word : (word other : List ℕ) → false ≡ not (pointwise nat_eq word other) → word ≡ other
same_word word other is = (slice_eq-Decides Decides-eqb word other (pointwise nat_eq word other) refl).0 (told_true _ is)

-- four words make the line
pub words_are : (line word words number others len sum : List ℕ) (n l : ℕ) (name : List ℕ) → line ≡ word ++ 32 ∷ words → word ≡ codes "uploads" → words ≡ number ++ 32 ∷ others → others ≡ len ++ 32 ∷ sum
    → number ≡ decimal n → len ≡ decimal l → sum ≡ encode_lower name → line ++ 10 ∷ [] ≡ reference_line n l name
words_are line word words number others len sum n l name first is second third number_is len_is sum_is =
    let last = third ∙ ap (λ (t : List ℕ). t ++ 32 ∷ sum) len_is ∙ ap (λ (t : List ℕ). decimal l ++ 32 ∷ t) sum_is in
    let middle = second ∙ ap (λ (t : List ℕ). t ++ 32 ∷ others) number_is ∙ ap (λ (t : List ℕ). decimal n ++ 32 ∷ t) last in
    ap (λ (t : List ℕ). t ++ 10 ∷ []) (first ∙ ap (λ (t : List ℕ). t ++ 32 ∷ words) is ∙ ap (λ (t : List ℕ). codes "uploads" ++ 32 ∷ t) middle) ∙ one_line (decimal n) (decimal l) (encode_lower name)
