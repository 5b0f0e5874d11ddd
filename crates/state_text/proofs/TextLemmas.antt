-- Texts of lines: the same bytes are the same lines, and a text goes wrong at no more than one line.
use Rattle.std.proofs.Common.{◌≡◌, ◌≢◌, ℕ, List, [], ◌∷◌, ◌++◌, refl, sym, ap, subst, ◌∙◌, length, append_assoc, arith}
use Rattle.std.specs.List.{AllByRecursion, flat_map}
use Rattle.std.proofs.lemmas.List.Elements.{All-nil}
use Rattle.git_name.specs.Text.{split_once, ended}
use Rattle.git_name.proofs.TextLemmas.{split_once-append, split_once-none}
use Rattle.state_text.specs.Fault.{IsOneLine}
use Rattle.state_text.proofs.PartLemmas.{split_unique}

-- a text without LF has no line
pub no_lf : (rest line more : List ℕ) → IsOneLine rest → IsOneLine line → rest ≡ line ++ 10 ∷ more → ⊥
no_lf rest line more plain is_line is =
    let bad = sym (split_once-none 10 rest plain) ∙ ap (split_once 10) is ∙ split_once-append 10 line more is_line in
    absurd (cc)

-- the first line, and the others
pub first_line : (line : List ℕ) (lines : List (List ℕ)) (rest : List ℕ) → flat_map ended (line ∷ lines) ++ rest ≡ line ++ 10 ∷ (flat_map ended lines ++ rest)
first_line line lines rest = append_assoc (ended line) (flat_map ended lines) rest ∙ append_assoc line (10 ∷ []) (flat_map ended lines ++ rest)

-- the same bytes are the same lines
pub same_lines : (ls bs : List (List ℕ)) (r s : List ℕ) → AllByRecursion IsOneLine ls → AllByRecursion IsOneLine bs → IsOneLine r → IsOneLine s → flat_map ended ls ++ r ≡ flat_map ended bs ++ s → (ls ≡ bs) × (r ≡ s)
same_lines [] [] r s p q m n is = (refl, is)
same_lines [] (b ∷ bs) r s p q m n is = absurd (no_lf r b (flat_map ended bs ++ s) m q.0 (is ∙ first_line b bs s))
same_lines (a ∷ ls) [] r s p q m n is = absurd (no_lf s a (flat_map ended ls ++ r) n p.0 (sym is ∙ first_line a ls r))
same_lines (a ∷ ls) (b ∷ bs) r s p q m n is =
    let parts = split_unique 10 a (flat_map ended ls ++ r) b (flat_map ended bs ++ s) p.0 q.0 (sym (first_line a ls r) ∙ is ∙ first_line b bs s) in
    let others = same_lines ls bs r s p.1 q.1 m n parts.1 in
    ((λ i. parts.0 i ∷ others.0 i), others.1)

-- lines whose bytes begin with other lines begin with these lines
pub lines_behind : (ls bs : List (List ℕ)) (line more : List ℕ) → AllByRecursion IsOneLine ls → AllByRecursion IsOneLine bs → IsOneLine line → flat_map ended ls ≡ flat_map ended bs ++ (line ++ 10 ∷ more) → (others : List (List ℕ)) × (ls ≡ bs ++ line ∷ others)
lines_behind [] [] line more p q m is = absurd (no_lf [] line more (All-nil (λ b. b ≢ 10)) m is)
lines_behind [] (b ∷ bs) line more p q m is = absurd (no_lf [] b (flat_map ended bs ++ (line ++ 10 ∷ more)) (All-nil (λ x. x ≢ 10)) q.0 (is ∙ first_line b bs (line ++ 10 ∷ more)))
lines_behind (a ∷ ls) [] line more p q m is =
    let parts = split_unique 10 a (flat_map ended ls) line more p.0 m (sym (append_assoc a (10 ∷ []) (flat_map ended ls)) ∙ is) in
    (ls, λ i. parts.0 i ∷ ls)
lines_behind (a ∷ ls) (b ∷ bs) line more p q m is =
    let parts = split_unique 10 a (flat_map ended ls) b (flat_map ended bs ++ (line ++ 10 ∷ more)) p.0 q.0 (sym (append_assoc a (10 ∷ []) (flat_map ended ls)) ∙ is ∙ first_line b bs (line ++ 10 ∷ more)) in
    let others = lines_behind ls bs line more p.1 q.1 m parts.1 in
    (others.0, λ i. parts.0 i ∷ others.1 i)

-- a text goes no further: with the next line nothing begins, or there is no whole line
pub data Stops (P : List ℕ → Type 0) (front rest : List ℕ) : Type 0 where
  Refused : (line more : List ℕ) → IsOneLine line → rest ≡ line ++ 10 ∷ more → (P (front ++ ended line) → ⊥) → Stops P front rest
  Cut : IsOneLine rest → Stops P front rest

stops_first : (P : List ℕ → Type 0) → ((a b : List ℕ) → P (a ++ b) → P a) → (line : List ℕ) (lines : List (List ℕ)) (r s : List ℕ) → IsOneLine line → r ≡ flat_map ended (line ∷ lines) ++ s → P (flat_map ended (line ∷ lines)) → Stops P [] r → ⊥
stops_first P closed line lines r s plain is holds (Refused other more is_line parts never) =
    let same = split_unique 10 other more line (flat_map ended lines ++ s) is_line plain (sym parts ∙ is ∙ first_line line lines s) in
    never (subst (λ l. P (ended l)) (sym same.0) (closed (ended line) (flat_map ended lines) holds))
stops_first P closed line lines r s plain is holds (Cut is_line) = no_lf r line (flat_map ended lines ++ s) is_line plain (is ∙ first_line line lines s)

stops_later : (P : List ℕ → Type 0) (line front rest : List ℕ) → Stops P (ended line ++ front) rest → Stops (λ x. P (ended line ++ x)) front rest
stops_later P line front rest (Refused other more is_line parts never) = Refused other more is_line parts (λ holds. never (subst P (sym (append_assoc (ended line) front (ended other))) holds))
stops_later P line front rest (Cut is_line) = Cut is_line

pub one_stop : (P : List ℕ → Type 0) → ((a b : List ℕ) → P (a ++ b) → P a) → (ls bs : List (List ℕ)) (r s : List ℕ) → AllByRecursion IsOneLine ls → AllByRecursion IsOneLine bs → flat_map ended ls ++ r ≡ flat_map ended bs ++ s
    → P (flat_map ended ls) → P (flat_map ended bs) → Stops P (flat_map ended ls) r → Stops P (flat_map ended bs) s → length ls ≡ length bs
one_stop P closed [] [] r s p q is holds other stops stops_too = refl
one_stop P closed [] (b ∷ bs) r s p q is holds other stops stops_too = absurd (stops_first P closed b bs r s q.0 is other stops)
one_stop P closed (a ∷ ls) [] r s p q is holds other stops stops_too = absurd (stops_first P closed a ls s r p.0 (sym is) holds stops_too)
one_stop P closed (a ∷ ls) (b ∷ bs) r s p q is holds other stops stops_too =
    let parts = split_unique 10 a (flat_map ended ls ++ r) b (flat_map ended bs ++ s) p.0 q.0 (sym (first_line a ls r) ∙ is ∙ first_line b bs s) in
    let same : length ls ≡ length bs = one_stop (λ x. P (ended a ++ x)) (λ x y h. closed (ended a ++ x) y (subst P (sym (append_assoc (ended a) x y)) h)) ls bs r s p.1 q.1 parts.1 holds
    (subst (λ l. P (ended l ++ flat_map ended bs)) (sym parts.0) other) (stops_later P a (flat_map ended ls) r stops)
    (stops_later P a (flat_map ended bs) s (subst (λ l. Stops P (ended l ++ flat_map ended bs) s) (sym parts.0) stops_too)) in
    omega (arith, same)
