-- Lines that are read in pieces, where the bytes that the reader has are known.
use Rattle.std.proofs.Common.{◌≡◌, ◌≢◌, ℕ, ◌+◌, ◌<◌, ◌≤◌, List, [], ◌∷◌, ◌++◌, ◌⊎◌, inl, inr, ⊎_elim, codes, refl, sym, ap, subst, ◌∙◌, length, length-append, length-drop, length-take, append_assoc, arith, drop, take, true, false, ◌-◌}
use Rattle.std.specs.Prelude.{Option, None, Some, IfSome, IfOk, IfErr, Result, Ok, Err}
use Rattle.std.specs.Io.KnownBytes.{Consumes, IsAtEnd, Keeps}
use Rattle.std.specs.List.{flat_map}
use Rattle.std.proofs.KnownBytes.{Consumes-nil, Consumes-trans}
use Rattle.std.proofs.lemmas.List.{append-nil}
use Rattle.std.proofs.lemmas.List.Concat.{flat_map-append}
use Rattle.std.proofs.lemmas.List.Elements.{All-head, All-tail}
use Rattle.std.proofs.lemmas.List.{take_all, take-append-drop}
use Rattle.std.proofs.Math.Seq.{drop-append_seam}
use Rattle.git_name.specs.Text.{ended}
use Rattle.sha2.specs.Hashers.{Holds256}
use Rattle.sha2.specs.Sha256.{sha256}
use Rattle.state_text.specs.declared.fault.StateFault.{StateFault}
use Rattle.state_text.specs.declared.fault.StateFault.TheVariants.{Line, Read, Memory}
use Rattle.state_text.specs.declared.line_fault.LineFault.TheVariants.{Wrong}
use Rattle.state_text.specs.declared.lines.Lines.{Lines}
use Rattle.state_text.specs.declared.lines.TheConstants.{LONGEST_LINE}
use Rattle.state_text.specs.declared.version.Version.{Version}
use Rattle.state_text.specs.declared.version.Version.TheVariants.{One, Two}
use Rattle.state_text.specs.Fault.{IsOneLine, IsWrongLine, TellsLine}
use Rattle.state_text.specs.Lines.{EndsAt, GoesBeyond, HasNoLine, IsBehind, IsReadTo, IsTaken, IsWhole, Refills, TakesLine, Waits, rest_of}
use Rattle.state_text.specs.Reading.{IsNoWrongLine, ReadsText}
use Rattle.state_text.specs.States.{States, IsStates}
use Rattle.state_text.specs.Taking.{Adds, IsReadSoFar, IsRightSoFar, RefusesLine, Taken, open_lines, told_lines}
use Rattle.state_text.specs.Text.{IsStateText, version_line}
use Rattle.state_text.proofs.FaultLemmas.{Parts, Plain, Lined, behind_end, cut_line, no_header, none_wrong, parts_of, wrong_header, wrong_line}
use Rattle.state_text.proofs.BehindLemmas.{length_behind}
use Rattle.state_text.proofs.ContinuingLemmas.{all_of}
use Rattle.state_text.proofs.LineLemmas.{adds_line, text_ends}
use Rattle.state_text.proofs.TellingLemmas.{taken_more}
use Rattle.state_text.proofs.ShortLemmas.{line_short}
use Rattle.state_text.proofs.StateLemmas.{no_states}
use Rattle.state_text.proofs.VersionLemmas.{of_version, one_value}

-- nothing was read
pub nothing_taken : (first : Option (List ℕ)) (lines : Lines) → Holds256 lines.hasher [] → rest_of lines ≡ [] → IsTaken first first lines []
nothing_taken first lines hashed none = record { front = []; consumed = Consumes-nil first; hashed = hashed; parts = sym none }

-- more is read behind what was not taken
pub refilled : (first before after : Option (List ℕ)) (old new : Lines) (taken : List ℕ) → IsTaken first before old taken → Refills before after old new → IsTaken first after new taken
refilled first before after old new taken so_far more = record {
  front = so_far.front ++ more.more;
  consumed = Consumes-trans first before after so_far.front more.more so_far.consumed more.consumed;
  hashed = more.hashed so_far.front so_far.hashed;
  parts = ap (λ t. t ++ more.more) so_far.parts ∙ append_assoc taken (rest_of old) more.more ∙ ap (λ t. taken ++ t) (sym more.rest);
}

-- what was not taken stays as it was
pub kept_taken : (first now : Option (List ℕ)) (old new : Lines) (taken : List ℕ) → rest_of new ≡ rest_of old → new.hasher ≡ old.hasher → IsTaken first now old taken → IsTaken first now new taken
kept_taken first now old new taken rest same so_far = record {
  front = so_far.front;
  consumed = so_far.consumed;
  hashed = subst (λ hasher. Holds256 hasher so_far.front) (sym same) so_far.hashed;
  parts = so_far.parts ∙ ap (λ t. taken ++ t) (sym rest);
}

-- a line is taken
pub line_taken : (first now : Option (List ℕ)) (old new : Lines) (taken line : List ℕ) → rest_of old ≡ line ++ 10 ∷ rest_of new → new.hasher ≡ old.hasher → IsTaken first now old taken → IsTaken first now new (taken ++ ended line)
line_taken first now old new taken line rest same so_far = record {
  front = so_far.front;
  consumed = so_far.consumed;
  hashed = subst (λ hasher. Holds256 hasher so_far.front) (sym same) so_far.hashed;
  parts = so_far.parts ∙ ap (λ t. taken ++ t) (rest ∙ sym (append_assoc line (10 ∷ []) (rest_of new))) ∙ sym (append_assoc taken (ended line) (rest_of new));
}

-- where the bytes are known, what was taken is a front of them
pub record IsFront (text taken : List ℕ) (lines : Lines) (now : Option (List ℕ)) : Type 0 where
  pub left : List ℕ
  pub is_left : now ≡ Some left
  pub parts : text ≡ taken ++ (rest_of lines ++ left)

pub front_of : (text : List ℕ) (now : Option (List ℕ)) (lines : Lines) (taken : List ℕ) → IsTaken (Some text) now lines taken → IsFront text taken lines now
front_of text None lines taken so_far = absurd so_far.consumed
front_of text (Some left) lines taken so_far = record { left = left; is_left = refl; parts = so_far.consumed ∙ ap (λ t. t ++ left) so_far.parts ∙ append_assoc taken (rest_of lines) left }

-- a line reaches as far as bytes without LF do
long_line : (rest left line more : List ℕ) → IsOneLine rest → rest ++ left ≡ line ++ 10 ∷ more → length rest ≤ length line
long_line [] left line more plain is = omega arith
long_line (x ∷ rest) left [] more plain is = (let lf : x ≡ 10 = cc in absurd (All-head (λ byte. byte ≢ 10) x rest plain lf))
long_line (x ∷ rest) left (y ∷ line) more plain is = (let behind : rest ++ left ≡ line ++ 10 ∷ more = cc in let less = long_line rest left line more (All-tail (λ byte. byte ≢ 10) x rest plain) behind in omega (arith, less))

version_short : (version : Version) → length (version_line version) ≤ 16
version_short One = omega arith
version_short Two = omega arith

-- no line comes first
no_first_in : (text rest : List ℕ) (left : List ℕ) → text ≡ rest ++ left → IsOneLine rest → (left ≡ []) ⊎ (LONGEST_LINE < length rest) → IsWrongLine text 1
no_first_in text rest left is plain (inl end) = no_header text (subst IsOneLine (sym (is ∙ ap (λ t. rest ++ t) end ∙ append-nil rest)) plain)
no_first_in text rest left is plain (inr long) = by (parts_of text)
  where
    by : Parts text → IsWrongLine text 1
    by (Plain all) = no_header text all
    by (Lined line more one parts) =
        let reach = long_line rest left line more plain (sym is ∙ parts) in
        wrong_header text line more parts one (λ version same. let short = version_short version in let size : length line ≡ length (version_line version) = ap (λ (l : List ℕ). length l) same in absurd (omega (arith, long, reach, short, size)))

-- what is left of a reader that may be at its end
at_end : (now : Option (List ℕ)) (left : List ℕ) (lines : Lines) → now ≡ Some left → IsAtEnd now ⊎ (LONGEST_LINE < length (rest_of lines)) → (left ≡ []) ⊎ (LONGEST_LINE < length (rest_of lines))
at_end now left lines is (inl end) = inl (subst IsAtEnd is end)
at_end now left lines is (inr long) = inr long

pub no_first : (first now : Option (List ℕ)) (old new : Lines) → IsTaken first first old [] → HasNoLine first now old new → IfSome first (λ text. IsWrongLine text 1)
no_first None now old new nothing none = tt
no_first (Some text) now old new nothing none =
    let front = front_of text now new [] (none.waits.goes_on (Some text) [] nothing) in
    no_first_in text (rest_of new) front.left front.parts none.is_line (at_end now front.left new front.is_left none.why)

-- the first line is that of no version
pub wrong_first : (first now : Option (List ℕ)) (old new : Lines) → IsTaken first first old [] → TakesLine first now old new → ((version : Version) → new.line.items ≢ version_line version) → IfSome first (λ text. IsWrongLine text 1)
wrong_first None now old new nothing takes other = tt
wrong_first (Some text) now old new nothing takes other =
    let line = new.line.items in
    let front = front_of text now new (ended line) (takes.goes_on (Some text) [] nothing) in
    wrong_header text line (rest_of new ++ front.left) (front.parts ∙ append_assoc line (10 ∷ []) (rest_of new ++ front.left)) takes.is_line other

-- what was read so far, where the bytes are known
so_far_in : (text : List ℕ) (now : Option (List ℕ)) (lines : Lines) (version : Version) (read : Taken) (number : ℕ) (rest : List ℕ) → IsReadTo (Some text) now lines version read number → text ≡ flat_map ended (open_lines version read) ++ rest
    → IsReadSoFar version text read (length (open_lines version read)) rest
so_far_in text now lines version read number rest so_far is = record { parts = is; count = refl; right = so_far.right }

-- the number of the next line
next_number : (text : List ℕ) (lines number : ℕ) → number ≡ lines + 1 → IsWrongLine text (lines + 1) → IsWrongLine text number
next_number text lines number is wrong = subst (IsWrongLine text) (sym is) wrong

no_next_in : (version : Version) (text rest left : List ℕ) (read : Taken) (lines : ℕ) → IsReadSoFar version text read lines (rest ++ left) → IsOneLine rest → (left ≡ []) ⊎ (LONGEST_LINE < length rest) → IsWrongLine text (lines + 1)
no_next_in version text rest left read lines so_far plain (inl end) = cut_line version text (rest ++ left) read lines so_far (subst IsOneLine (sym (ap (λ t. rest ++ t) end ∙ append-nil rest)) plain)
no_next_in version text rest left read lines so_far plain (inr long) = by (parts_of (rest ++ left))
  where
    by : Parts (rest ++ left) → IsWrongLine text (lines + 1)
    by (Plain all) = cut_line version text (rest ++ left) read lines so_far all
    by (Lined line more one parts) =
        let reach = long_line rest left line more plain parts in
        wrong_line version text (rest ++ left) line more read lines so_far parts one
        (λ is known. let size : length line ≡ 3 = ap (λ (l : List ℕ). length l) is in absurd (omega (arith, long, reach, size)))
        (λ new right adds. let short = line_short version read new line right adds in absurd (omega (arith, long, reach, short)))

-- no line comes next
pub no_next : (first before after : Option (List ℕ)) (old new : Lines) (version : Version) (read : Taken) (number : ℕ) → IsReadTo first before old version read number → HasNoLine before after old new → IfSome first (λ text. IsWrongLine text number)
no_next None before after old new version read number so_far none = tt
no_next (Some text) before after old new version read number so_far none =
    let front = front_of text after new (flat_map ended (open_lines version read)) (none.waits.goes_on (Some text) (flat_map ended (open_lines version read)) so_far.taken) in
    next_number text (length (open_lines version read)) number so_far.count
    (no_next_in version text (rest_of new) front.left read (length (open_lines version read)) (so_far_in text before old version read number (rest_of new ++ front.left) so_far front.parts) none.is_line (at_end after front.left new front.is_left none.why))

-- the bytes from the next line on, where they are known
line_in : (text : List ℕ) (before after : Option (List ℕ)) (old new : Lines) (version : Version) (read : Taken) (number : ℕ) (left : List ℕ) → IsReadTo (Some text) before old version read number
    → text ≡ (flat_map ended (open_lines version read) ++ ended new.line.items) ++ left → IsReadSoFar version text read (length (open_lines version read)) (new.line.items ++ 10 ∷ left)
line_in text before after old new version read number left so_far is =
    so_far_in text before old version read number (new.line.items ++ 10 ∷ left) so_far
    (is ∙ append_assoc (flat_map ended (open_lines version read)) (ended new.line.items) left ∙ ap (λ t. flat_map ended (open_lines version read) ++ t) (append_assoc new.line.items (10 ∷ []) left))

-- the next line is wrong
pub wrong_next : (first before after : Option (List ℕ)) (old new : Lines) (version : Version) (read : Taken) (number : ℕ) → IsReadTo first before old version read number → TakesLine before after old new
    → (new.line.items ≡ codes "end" → read.awaits ≡ false → ⊥) → RefusesLine version read new.line.items Wrong → IfSome first (λ text. IsWrongLine text number)
wrong_next None before after old new version read number so_far takes not_end refuses = tt
wrong_next (Some text) before after old new version read number so_far takes not_end refuses =
    let done = flat_map ended (open_lines version read) in
    let front = front_of text after new (done ++ ended new.line.items) (takes.goes_on (Some text) done so_far.taken) in
    let left = rest_of new ++ front.left in
    next_number text (length (open_lines version read)) number so_far.count
    (wrong_line version text (new.line.items ++ 10 ∷ left) new.line.items left read (length (open_lines version read)) (line_in text before after old new version read number left so_far front.parts) refl takes.is_line not_end refuses)

-- the lines with one more
lines_with : (version : Version) (old new : Taken) (line : List ℕ) → Adds version old line new → flat_map ended (open_lines version old) ++ ended line ≡ flat_map ended (open_lines version new)
lines_with version old new line adds =
    ap (λ l. flat_map ended (open_lines version old) ++ l) (sym (append-nil (ended line))) ∙ sym (flat_map-append ended (open_lines version old) (line ∷ [])) ∙ ap (flat_map ended) (sym (adds_line version old new line adds))

-- one more line was read
pub next_read : (first before after : Option (List ℕ)) (old new : Lines) (version : Version) (read next : Taken) (number : ℕ) → IsReadTo first before old version read number → TakesLine before after old new → Adds version read new.line.items next → IsStates next.states
    → IsReadTo first after new version next (number + 1)
next_read first before after old new version read next number so_far takes adds right =
    let more : length (open_lines version next) ≡ length (open_lines version read) + 1 = ap (λ (ls : List (List ℕ)). length ls) (adds_line version read next new.line.items adds) ∙ length_behind (open_lines version read) new.line.items in
    record {
      taken = subst (IsTaken first after new) (lines_with version read next new.line.items adds) (takes.goes_on first (flat_map ended (open_lines version read)) so_far.taken);
      count = (let count = so_far.count in omega (arith, count, more));
      right = taken_more version read next new.line.items adds so_far.right right;
    }

begun_right : (version : Version) → IsRightSoFar version (record { states = []; awaits = false })
begun_right One = record { right = no_states; tells = tt; begun = λ never. absurd (cc never) }
begun_right Two = record { right = no_states; tells = tt; begun = λ never. absurd (cc never) }

-- the first line was read
pub first_read : (first now : Option (List ℕ)) (old new : Lines) (version : Version) → IsTaken first first old [] → TakesLine first now old new → new.line.items ≡ version_line version → IsReadTo first now new version (record { states = []; awaits = false }) 2
first_read first now old new version nothing takes is = record {
  taken = subst (IsTaken first now new) (ap ended is ∙ sym (append-nil (ended (version_line version)))) (takes.goes_on first [] nothing);
  count = refl;
  right = begun_right version;
}

-- the text was read to its end
pub whole_read : (first before mid after : Option (List ℕ)) (old new : Lines) (version : Version) (states : States) (number : ℕ) (name : List ℕ) → IsReadTo first before old version (all_of states) number → TakesLine before mid old new → new.line.items ≡ codes "end"
    → EndsAt mid after new name → ReadsText first after states name version
whole_read first before mid after old new version states number name so_far takes is_end ends =
    let done = flat_map ended (told_lines version states) in
    let whole = ends.whole first (done ++ ended new.line.items) (takes.goes_on first done so_far.taken) in
    record {
      text = done ++ ended new.line.items;
      consumed = whole.consumed;
      ends = whole.ends;
      right = record { right = so_far.right.right; tells = so_far.right.tells; spelled = ap (λ l. done ++ ended l) is_end ∙ text_ends version states };
      named = whole.named;
    }

-- bytes follow the end
pub beyond_end : (first before mid : Option (List ℕ)) (old new : Lines) (version : Version) (states : States) (number : ℕ) → IsReadTo first before old version (all_of states) number → TakesLine before mid old new → new.line.items ≡ codes "end"
    → GoesBeyond mid new → IfSome first (λ text. IsWrongLine text (number + 1))
beyond_end None before mid old new version states number so_far takes is_end beyond = tt
beyond_end (Some text) before mid old new version states number so_far takes is_end beyond =
    let done = flat_map ended (told_lines version states) in
    let behind = beyond.more (Some text) (done ++ ended new.line.items) (takes.goes_on (Some text) done so_far.taken) in
    subst (λ n. IsWrongLine text (n + 1)) (sym so_far.count)
    (behind_end version text (new.line.items ++ 10 ∷ behind.behind) new.line.items behind.behind states (length (told_lines version states)) (line_in text before mid old new version (all_of states) number behind.behind so_far behind.parts) refl is_end behind.some)

-- a whole text that was read is all that the reader had
whole_text : (text : List ℕ) (after : Option (List ℕ)) (states : States) (name : List ℕ) (version : Version) → ReadsText (Some text) after states name version → IsStateText states text
whole_text text None states name version reads = absurd reads.consumed
whole_text text (Some left) states name version reads = subst (IsStateText states) (sym (reads.consumed ∙ ap (λ t. reads.text ++ t) reads.ends ∙ append-nil reads.text)) (of_version version states reads.text reads.right)

-- a state text is read, unless the reader fails or memory runs out
pub reads_only : (first after : Option (List ℕ)) (result : Result (States × List ℕ × Version) StateFault) → IfOk result (λ read. ReadsText first after read.0 read.1 read.2) → IfSome first (λ text. IfErr result (TellsLine text))
    → IfSome first (λ text. (states : States) → IsStateText states text → IfOk result (λ read. read.0 ≡ states) × IfErr result IsNoWrongLine)
reads_only None after result found exact = tt
reads_only (Some text) after (Ok read) found exact = λ states is. (one_value read.0 states text (whole_text text after read.0 read.1 read.2 found) is, tt)
reads_only (Some text) after (Err (Line n)) found exact = λ states is. absurd (none_wrong states text n is exact)
reads_only (Some text) after (Err Read) found exact = λ states is. (tt, tt)
reads_only (Some text) after (Err Memory) found exact = λ states is. (tt, tt)

-- what was read and not taken follows what was taken
pub beyond_rest : (first now : Option (List ℕ)) (lines : Lines) (taken : List ℕ) → 0 < length (rest_of lines) → IsTaken first now lines taken → IfSome first (λ text. IsBehind text taken)
beyond_rest None now lines taken some so_far = tt
beyond_rest (Some text) now lines taken some so_far =
    let front = front_of text now lines taken so_far in
    record { behind = rest_of lines ++ front.left; parts = front.parts; some = (let long = length-append (rest_of lines) front.left in omega (arith, long, some)) }

-- ---- a line in what was read
is_rest : (text read : List ℕ) (at : ℕ) (line rest : List ℕ) → read ≡ text → take (length read - at) (drop at read) ≡ line ++ 10 ∷ rest → drop at text ≡ line ++ 10 ∷ rest
is_rest text read at line rest same is = ap (drop at) (sym same) ∙ sym (take_all (length read - at) (drop at read) (let size = length-drop at read in omega (arith, size))) ∙ is

pub line_fits : (text read : List ℕ) (at len : ℕ) (line rest : List ℕ) → read ≡ text → take (length read - at) (drop at read) ≡ line ++ 10 ∷ rest → len ≡ length line → at ≤ length text → at + (len + 1) ≤ length text
line_fits text read at len line rest same is long within =
    let size : length (drop at text) ≡ length (line ++ 10 ∷ rest) = ap (λ (l : List ℕ). length l) (is_rest text read at line rest same is) in
    let parts = length-append line (10 ∷ rest) in
    let left = length-drop at text in
    omega (arith, size, parts, left, long, within)

pub line_behind : (text read : List ℕ) (at len : ℕ) (line rest : List ℕ) → read ≡ text → take (length read - at) (drop at read) ≡ line ++ 10 ∷ rest → len ≡ length line → at ≤ length text → drop at text ≡ line ++ 10 ∷ drop (at + (len + 1)) text
line_behind text read at len line rest same is long within =
    let whole = is_rest text read at line rest same is in
    let front = take at text ++ (line ++ 10 ∷ []) in
    let all : text ≡ front ++ rest = sym (take-append-drop at text) ∙ ap (λ t. take at text ++ t) (whole ∙ sym (append_assoc line (10 ∷ []) rest)) ∙ sym (append_assoc (take at text) (line ++ 10 ∷ []) rest) in
    let first = length-take at text in
    let one = length-append line (10 ∷ []) in
    let size : length front ≡ length (take at text) + length (line ++ 10 ∷ []) = length-append (take at text) (line ++ 10 ∷ []) in
    let place : at + (len + 1) ≡ length front = omega (arith, first, one, size, long, within) in
    whole ∙ ap (λ r. line ++ 10 ∷ r) (sym (ap (λ n. drop n text) place ∙ ap (drop (length front)) all ∙ drop-append_seam front rest))

-- a line that is not whole, and more read behind it
pub waits_more : (before mid after : Option (List ℕ)) (old now kept new : Lines) → Waits before mid old now → rest_of kept ≡ rest_of now → kept.hasher ≡ now.hasher → Refills mid after kept new → Waits before after old new
waits_more before mid after old now kept new waits rest same more = record { goes_on = λ first taken so_far. refilled first mid after kept new taken (kept_taken first mid now kept taken rest same (waits.goes_on first taken so_far)) more }
