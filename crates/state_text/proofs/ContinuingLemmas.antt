-- How a state text that begins with the lines of what was taken continues.
use Rattle.std.proofs.Common.{◌≡◌, ◌≢◌, ℕ, zero, suc, ◌+◌, ◌≤◌, Bool, true, false, List, [], ◌∷◌, ◌++◌, ◌⊎◌, inl, inr, ⊎_elim, codes, refl, sym, ap, subst, ◌∙◌, length, length-append, append_assoc, rules, arith}
use Rattle.std.specs.List.{AllByRecursion, flat_map}
use Rattle.std.proofs.lemmas.List.{append-nil, append_cancel_left}
use Rattle.std.proofs.lemmas.List.Concat.{flat_map-append}
use Rattle.std.proofs.lemmas.List.Elements.{All-from_recursion}
use Rattle.git_name.specs.Text.{ended}
use Rattle.git_reftx.specs.Repository.{main_branch}
use Rattle.state_text.specs.declared.version.Version.{Version}
use Rattle.state_text.specs.declared.version.Version.TheVariants.{One, Two}
use Rattle.state_text.specs.Fault.{IsOneLine}
use Rattle.state_text.specs.Place.{place_name}
use Rattle.state_text.specs.States.{States}
use Rattle.state_text.specs.Taking.{Adds, IsRightSoFar, Taken, open_lines, told_lines}
use Rattle.state_text.specs.Text.{line_of_head, state_text, version_line}
use Rattle.state_text.proofs.BackLemmas.{back, nothing_taken}
use Rattle.state_text.proofs.BehindLemmas.{each_behind, from_back, length_behind, same_behind}
use Rattle.state_text.proofs.LineLemmas.{adds_line, begun_lines, headed_lines, open_told}
use Rattle.state_text.proofs.PlainLemmas.{adds_plain}
use Rattle.state_text.proofs.SameLemmas.{adds_same, never_end}
use Rattle.state_text.proofs.TextLemmas.{lines_behind, same_lines}

pub version_plain : (version : Version) → IsOneLine (version_line version)
version_plain One = All-from_recursion (λ b. b ≢ 10) (codes "forkhost state 1") (search (rules, arith))
version_plain Two = All-from_recursion (λ b. b ≢ 10) (codes "forkhost state 2") (search (rules, arith))

pub end_plain : IsOneLine (codes "end")
end_plain = All-from_recursion (λ b. b ≢ 10) (codes "end") (search (rules, arith))

-- the lines begin with that of the version, and go on to those of the states
pub record HasFirst (version : Version) (taken : Taken) : Type 0 where
  pub others : List (List ℕ)
  pub first : open_lines version taken ≡ version_line version ∷ others
  pub more : List (List ℕ)
  pub told : told_lines version taken.states ≡ open_lines version taken ++ more

pub has_first : (version : Version) (taken : Taken) → IsRightSoFar version taken → HasFirst version taken
has_first version taken right = by taken.awaits refl
  where
    by : (b : Bool) → taken.awaits ≡ b → HasFirst version taken
    by false is = record { others = _; first = open_told version taken is; more = []; told = sym (open_told version taken is) ∙ sym (append-nil (open_lines version taken)) }
    by true is =
        let begun = right.begun is in
        let lines = begun_lines version begun.1.before begun.1.tenant begun.1.place taken begun.1.last (is ∙ sym begun.0) begun.1.is in
        record {
          others = _;
          first = lines;
          more = _;
          told = ap (told_lines version) begun.1.is ∙ headed_lines version begun.1.before begun.1.tenant begun.1.place main_branch begun.0 begun.1.last ∙ ap (λ ls. ls ++ line_of_head begun.1.tenant.name (place_name begun.1.place) main_branch ∷ []) (sym lines);
        }

some_lines : (version : Version) (taken : Taken) → IsRightSoFar version taken → 1 ≤ length (open_lines version taken)
some_lines version taken right = (let long = ap (λ (ls : List (List ℕ)). length ls) (has_first version taken right).first in omega (arith, long))

-- each line of what was taken has no LF
plain_by : (n : ℕ) (version : Version) (taken : Taken) → length (open_lines version taken) ≤ n → IsRightSoFar version taken → AllByRecursion IsOneLine (open_lines version taken)
plain_by zero version taken few right = absurd (let some = some_lines version taken right in omega (arith, some, few))
plain_by (suc n) version taken few right =
    ⊎_elim
    (λ none. subst (λ s. AllByRecursion IsOneLine (open_lines version s)) (sym none) (version_plain version, tt))
    (λ has. let line_is = adds_line version has.old taken has.line has.adds in
    let long : length (open_lines version taken) ≡ length (open_lines version has.old) + 1 = ap (λ (ls : List (List ℕ)). length ls) line_is ∙ length_behind (open_lines version has.old) has.line in
    subst (AllByRecursion IsOneLine) (sym line_is) (each_behind IsOneLine (open_lines version has.old) has.line (plain_by n version has.old (omega (arith, few, long)) has.right) (adds_plain version has.old taken has.line has.adds right.right)))
    (back version taken right)

pub plain_lines : (version : Version) (taken : Taken) → IsRightSoFar version taken → AllByRecursion IsOneLine (open_lines version taken)
plain_lines version taken right = plain_by (length (open_lines version taken)) version taken (omega arith) right

-- the lines of what was taken determine it
module _ (version : Version) where
  longer : (p : Taken) (line : List ℕ) → IsRightSoFar version p → open_lines version nothing_taken ≡ open_lines version p ++ line ∷ [] → ⊥
  longer p line right is =
      let long : 1 ≡ length (open_lines version p) + 1 = ap (λ (ls : List (List ℕ)). length ls) is ∙ length_behind (open_lines version p) line in
      let some = some_lines version p right in
      absurd (omega (arith, long, some))

  same_by : (n : ℕ) (s t : Taken) → length (open_lines version s) ≤ n → IsRightSoFar version s → IsRightSoFar version t → open_lines version s ≡ open_lines version t → s ≡ t
  same_by zero s t few right other is = absurd (let some = some_lines version s right in omega (arith, some, few))
  same_by (suc n) s t few right other is =
      ⊎_elim
      (λ none. ⊎_elim
      (λ none_too. none ∙ sym none_too)
      (λ has. absurd (longer has.old has.line has.right (ap (open_lines version) (sym none) ∙ is ∙ adds_line version has.old t has.line has.adds)))
      (back version t other))
      (λ has. ⊎_elim
      (λ none_too. absurd (longer has.old has.line has.right (ap (open_lines version) (sym none_too) ∙ sym is ∙ adds_line version has.old s has.line has.adds)))
      (λ has_too. let one = adds_line version has.old s has.line has.adds in
      let two = adds_line version has_too.old t has_too.line has_too.adds in
      let parts = same_behind (open_lines version has.old) (open_lines version has_too.old) has.line has_too.line (sym one ∙ is ∙ two) in
      let long : length (open_lines version s) ≡ length (open_lines version has.old) + 1 = ap (λ (ls : List (List ℕ)). length ls) one ∙ length_behind (open_lines version has.old) has.line in
      let old : has.old ≡ has_too.old = same_by n has.old has_too.old (omega (arith, few, long)) has.right has_too.right parts.0 in
      adds_same version has.old s t has.line has.adds (subst (λ l. Adds version has.old l t) (sym parts.1) (subst (λ p. Adds version p has_too.line t) (sym old) has_too.adds)) right.right other.right)
      (back version t other))
      (back version s right)

  pub lines_same : (s t : Taken) → IsRightSoFar version s → IsRightSoFar version t → open_lines version s ≡ open_lines version t → s ≡ t
  lines_same s t right other is = same_by (length (open_lines version s)) s t (omega arith) right other is

-- something was taken that has these lines
pub record HasLines (version : Version) (lines : List (List ℕ)) : Type 0 where
  pub taken : Taken
  pub right : IsRightSoFar version taken
  pub are : open_lines version taken ≡ lines

-- the first lines of what was taken are the lines of something taken
front_by : (n : ℕ) (version : Version) (s : Taken) (first : List ℕ) (front more : List (List ℕ)) → length more ≤ n → IsRightSoFar version s → open_lines version s ≡ (first ∷ front) ++ more → HasLines version (first ∷ front)
front_by n version s first front [] few right is = record { taken = s; right = right; are = is ∙ append-nil (first ∷ front) }
front_by zero version s first front (x ∷ more) few right is = absurd (omega (arith, few))
front_by (suc n) version s first front (x ∷ more) few right is =
    ⊎_elim
    (λ none. absurd (let long : length (x ∷ more) ≡ 0 = ap (λ (l : List (List ℕ)). length l) none in omega (arith, long)))
    (λ last. let whole : open_lines version s ≡ ((first ∷ front) ++ last.front) ++ last.last ∷ [] = is ∙ ap (λ ls. (first ∷ front) ++ ls) last.is ∙ sym (append_assoc (first ∷ front) last.front (last.last ∷ [])) in
    let long : length (x ∷ more) ≡ length last.front + 1 = ap (λ (l : List (List ℕ)). length l) last.is ∙ length_behind last.front last.last in
    ⊎_elim
    (λ none. absurd (let size : 1 ≡ length ((first ∷ front) ++ last.front) + 1 = ap (λ t. length (open_lines version t)) (sym none) ∙ ap (λ (l : List (List ℕ)). length l) whole ∙ length_behind ((first ∷ front) ++ last.front) last.last in
    let parts = length-append (first ∷ front) last.front in omega (arith, size, parts)))
    (λ has. let parts = same_behind (open_lines version has.old) ((first ∷ front) ++ last.front) has.line last.last (sym (adds_line version has.old s has.line has.adds) ∙ whole) in
    front_by n version has.old first front last.front (omega (arith, few, long)) has.right parts.0)
    (back version s right))
    (from_back (x ∷ more))

-- what was taken with one more line
pub record HasNext (version : Version) (old : Taken) (line : List ℕ) : Type 0 where
  pub new : Taken
  pub right : IsRightSoFar version new
  pub adds : Adds version old line new

next_of : (version : Version) (p s : Taken) (line : List ℕ) (others : List (List ℕ)) → IsRightSoFar version p → IsRightSoFar version s → open_lines version s ≡ open_lines version p ++ line ∷ others → HasNext version p line
next_of version p s line others right whole is =
    let first = has_first version p right in
    let parts : open_lines version s ≡ (version_line version ∷ (first.others ++ line ∷ [])) ++ others = is ∙ sym (append_assoc (open_lines version p) (line ∷ []) others) ∙ ap (λ ls. (ls ++ line ∷ []) ++ others) first.first in
    let front = front_by (length others) version s (version_line version) (first.others ++ line ∷ []) others (omega arith) whole parts in
    let are : open_lines version front.taken ≡ open_lines version p ++ line ∷ [] = front.are ∙ ap (λ ls. ls ++ line ∷ []) (sym first.first) in
    ⊎_elim
    (λ none. absurd (longer version p line right (ap (open_lines version) (sym none) ∙ are)))
    (λ has. let parts = same_behind (open_lines version has.old) (open_lines version p) has.line line (sym (adds_line version has.old front.taken has.line has.adds) ∙ are) in
    let old : has.old ≡ p = lines_same version has.old p has.right right parts.0 in
    record { new = front.taken; right = front.right; adds = subst (λ l. Adds version p l front.taken) parts.1 (subst (λ q. Adds version q has.line front.taken) old has.adds) })
    (back version front.taken front.right)

-- the states of a text, whose lines have been taken
abbrev pub all_of : States → Taken
all_of states = record { states = states; awaits = false }

all_plain : (version : Version) (s : States) → IsRightSoFar version (all_of s) → AllByRecursion IsOneLine (told_lines version s ++ codes "end" ∷ [])
all_plain version s right = each_behind IsOneLine (told_lines version s) (codes "end") (plain_lines version (all_of s) right) end_plain

-- if a state text begins with the lines of what was taken and one more line, this is the end, with no HEAD awaited, or says something
pub continues : (version : Version) (p : Taken) (s : States) (line more : List ℕ) → IsRightSoFar version p → IsRightSoFar version (all_of s) → IsOneLine line → state_text version s ≡ flat_map ended (open_lines version p) ++ (line ++ 10 ∷ more)
    → ((line ≡ codes "end") × (p.awaits ≡ false)) ⊎ HasNext version p line
unfolding state_text
continues version p s line more right whole plain is =
    let found = lines_behind (told_lines version s ++ codes "end" ∷ []) (open_lines version p) line more (all_plain version s whole) (plain_lines version p right) plain is in
    ⊎_elim
    (λ none. let parts = same_behind (told_lines version s) (open_lines version p) (codes "end") line (found.1 ∙ ap (λ ls. open_lines version p ++ line ∷ ls) none) in
    inl (sym parts.1, ap (λ t. t.awaits) (sym (lines_same version (all_of s) p whole right parts.0))))
    (λ last. let parts = same_behind (told_lines version s) (open_lines version p ++ line ∷ last.front) (codes "end") last.last (found.1 ∙ ap (λ ls. open_lines version p ++ line ∷ ls) last.is ∙ sym (append_assoc (open_lines version p) (line ∷ last.front) (last.last ∷ []))) in
    inr (next_of version p (all_of s) line last.front right whole parts.0))
    (from_back found.0)

-- a state text has nothing after its end
pub ended_text : (version : Version) (p : Taken) (s : States) (rest : List ℕ) → IsRightSoFar version p → IsRightSoFar version (all_of s) → state_text version s ≡ flat_map ended (open_lines version p) ++ (codes "end" ++ 10 ∷ rest) → rest ≡ []
unfolding state_text
ended_text version p s rest right whole is =
    let found = lines_behind (told_lines version s ++ codes "end" ∷ []) (open_lines version p) (codes "end") rest (all_plain version s whole) (plain_lines version p right) end_plain is in
    ⊎_elim
    (λ none. let same : state_text version s ≡ flat_map ended (open_lines version p) ++ codes "end\n" = ap (flat_map ended) (found.1 ∙ ap (λ ls. open_lines version p ++ codes "end" ∷ ls) none) ∙ flat_map-append ended (open_lines version p) (codes "end" ∷ []) in
    append_cancel_left (codes "end\n") rest [] (append_cancel_left (flat_map ended (open_lines version p)) (codes "end\n" ++ rest) (codes "end\n" ++ []) (sym is ∙ same)))
    (λ last. let parts = same_behind (told_lines version s) (open_lines version p ++ codes "end" ∷ last.front) (codes "end") last.last (found.1 ∙ ap (λ ls. open_lines version p ++ codes "end" ∷ ls) last.is ∙ sym (append_assoc (open_lines version p) (codes "end" ∷ last.front) (last.last ∷ []))) in
    let next = next_of version p (all_of s) (codes "end") last.front right whole parts.0 in
    absurd (never_end version p next.new (codes "end") next.adds refl))
    (from_back found.0)

pub nothing_plain : IsOneLine []
nothing_plain = All-from_recursion (λ b. b ≢ 10) [] tt

-- the lines of what was taken are no whole state text
pub not_whole : (version : Version) (p : Taken) (s : States) → IsRightSoFar version p → IsRightSoFar version (all_of s) → state_text version s ≡ flat_map ended (open_lines version p) → ⊥
unfolding state_text
not_whole version p s right whole is =
    let lines = (same_lines (told_lines version s ++ codes "end" ∷ []) (open_lines version p) [] [] (all_plain version s whole) (plain_lines version p right) nothing_plain nothing_plain (append-nil (state_text version s) ∙ is ∙ sym (append-nil (flat_map ended (open_lines version p))))).0 in
    ⊎_elim
    (λ none. longer version (all_of s) (codes "end") whole (ap (open_lines version) (sym none) ∙ sym lines))
    (λ has. never_end version has.old p has.line has.adds (sym (same_behind (told_lines version s) (open_lines version has.old) (codes "end") has.line (lines ∙ adds_line version has.old p has.line has.adds)).1))
    (back version p right)

-- a text of one version has one value
pub text_same : (version : Version) (s t : States) → IsRightSoFar version (all_of s) → IsRightSoFar version (all_of t) → state_text version s ≡ state_text version t → s ≡ t
unfolding state_text
text_same version s t right other is =
    let lines = same_lines (told_lines version s ++ codes "end" ∷ []) (told_lines version t ++ codes "end" ∷ []) [] [] (all_plain version s right) (all_plain version t other) nothing_plain nothing_plain
    (append-nil (state_text version s) ∙ is ∙ sym (append-nil (state_text version t))) in
    ap (λ p. p.states) (lines_same version (all_of s) (all_of t) right other (same_behind (told_lines version s) (told_lines version t) (codes "end") (codes "end") lines.0).0)
