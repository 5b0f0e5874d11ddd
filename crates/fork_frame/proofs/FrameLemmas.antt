-- What was taken of the input is a frame, or shows that there is none.
use Rattle.std.proofs.Common.{◌≡◌, ◌≢◌, ℕ, ◌+◌, ◌<◌, ◌≤◌, ◌⊎◌, inl, inr, All, Option, Some, None, IfSome, List, [], ◌∷◌, ◌++◌, length, refl, sym, ap, ◌∙◌, subst, arith}
use Rattle.std.proofs.lemmas.List.{append-nil, append_assoc, length-append}
use Rattle.std.specs.Io.KnownBytes.{Consumes, IsAtEnd}
use Rattle.fork_frame.specs.declared.line.Line.{Line}
use Rattle.fork_frame.specs.declared.frame.Frame.{Frame}
use Rattle.fork_frame.specs.Line.{IsFrameLine, line_text}
use Rattle.fork_frame.specs.Frame.{IsFrame, IsBad, frame_bytes}
use Rattle.fork_frame.specs.Next.{FindsNoFrame, OfLine, OfPayload}
use Rattle.fork_frame.specs.Reading.{TakesNoLine}
use Rattle.fork_frame.proofs.LineLemmas.{split_unique, split_none, split_later, line_plain, line_short, line_unique}
use Rattle.fork_frame.specs.declared.text.TheConstants.{LONGEST}

-- the line that begins a frame
abbrev pub line_of : Frame → Line
line_of frame = record { asker = frame.asker; len = length frame.payload }

pub is_line_of : (frame : Frame) → IsFrame frame → IsFrameLine (line_of frame) (line_text (line_of frame))
is_line_of frame right = record { named = right.named; fits = right.fits; spelled = refl }

-- a frame's line, LF, and what follows
pub line_first : (frame : Frame) (rest : List ℕ) → frame_bytes frame ++ rest ≡ line_text (line_of frame) ++ 10 ∷ (frame.payload ++ rest)
line_first frame rest = append_assoc (line_text (line_of frame)) (10 ∷ frame.payload) rest

-- the line of any frame that comes precedes the first LF
pub split_line : (text after rest : List ℕ) (frame : Frame) → All (λ byte. byte ≢ 10) text → IsFrame frame → text ++ 10 ∷ after ≡ frame_bytes frame ++ rest → (text ≡ line_text (line_of frame)) × (after ≡ frame.payload ++ rest)
split_line text after rest frame plain right is =
    split_unique 10 text after (line_text (line_of frame)) (frame.payload ++ rest) plain (line_plain (line_of frame) _ (is_line_of frame right)) (is ∙ line_first frame rest)

pub longer : (input front rest : List ℕ) → 1 ≤ length front → input ≡ front ++ rest → 1 ≤ length input
longer input front rest some parts =
    let whole : length input ≡ length front + length rest = ap (λ (l : List ℕ). length l) parts ∙ length-append front rest in
    omega arith

-- bytes without LF, as many as are searched or all that there were, begin no frame
none_in_front : (input front new rest : List ℕ) (frame : Frame) → All (λ byte. byte ≢ 10) front → input ≡ front ++ new → (length front ≡ LONGEST) ⊎ (new ≡ []) → IsFrame frame → input ≡ frame_bytes frame ++ rest → ⊥
none_in_front input front new rest frame plain parts (inl long) right is =
    let later : length front ≤ length (line_text (line_of frame)) = split_later 10 (line_text (line_of frame)) (frame.payload ++ rest) front new plain (sym parts ∙ is ∙ line_first frame rest) in
    let short = line_short (line_of frame) _ (is_line_of frame right) in
    omega arith
none_in_front input front new rest frame plain parts (inr all) right is =
    split_none 10 (line_text (line_of frame)) (frame.payload ++ rest) front plain (sym (append-nil front) ∙ (ap (λ r. front ++ r) (sym all) ∙ (sym parts ∙ is ∙ line_first frame rest)))

pub bad_front : (old new : Option (List ℕ)) (front : List ℕ) → 1 ≤ length front → All (λ byte. byte ≢ 10) front → Consumes old new front → (length front ≡ LONGEST) ⊎ IsAtEnd new → IfSome old IsBad
bad_front None new front some plain taken cut = tt
bad_front (Some input) None front some plain taken cut = absurd taken
bad_front (Some input) (Some rest) front some plain taken cut = record {
  some = longer input front rest some taken;
  none = λ frame more right is. none_in_front input front rest more frame plain taken cut right is;
}

-- no line
pub finds_no_line : (old new : Option (List ℕ)) → TakesNoLine old new → FindsNoFrame old new
finds_no_line old new no_line = record {
  bad = bad_front old new no_line.front no_line.some no_line.plain no_line.taken no_line.cut;
  front = no_line.front;
  taken = no_line.taken;
  enough = OfLine no_line.few;
}

some_line : (input text after : List ℕ) → input ≡ (text ++ 10 ∷ []) ++ after → 1 ≤ length input
some_line input text after is =
    let front : length (text ++ 10 ∷ []) ≡ length text + 1 = length-append text (10 ∷ []) in
    let some : 1 ≤ length (text ++ 10 ∷ []) = omega arith in
    longer input (text ++ 10 ∷ []) after some is

then_after : (input text after : List ℕ) → input ≡ (text ++ 10 ∷ []) ++ after → text ++ 10 ∷ after ≡ input
then_after input text after is = sym (is ∙ append_assoc text (10 ∷ []) after)

pub bad_line : (old mid : Option (List ℕ)) (text : List ℕ) → All (λ byte. byte ≢ 10) text → Consumes old mid (text ++ 10 ∷ []) → ((line : Line) → IsFrameLine line text → ⊥) → IfSome old IsBad
bad_line None mid text plain taken no_line = tt
bad_line (Some input) None text plain taken no_line = absurd taken
bad_line (Some input) (Some after) text plain taken no_line = record {
  some = some_line input text after taken;
  none = λ frame rest right is.
      let sides = split_line text after rest frame plain right (then_after input text after taken ∙ is) in
      no_line (line_of frame) (subst (λ t. IsFrameLine (line_of frame) t) (sym sides.0) (is_line_of frame right));
}

-- a line that is no frame's
pub finds_no_right_line : (old new : Option (List ℕ)) (text : List ℕ) → All (λ byte. byte ≢ 10) text → length text ≤ 40 → Consumes old new (text ++ 10 ∷ []) → ((line : Line) → IsFrameLine line text → ⊥) → FindsNoFrame old new
finds_no_right_line old new text plain short taken no_line = record {
  bad = bad_line old new text plain taken no_line;
  front = text ++ 10 ∷ [];
  taken = taken;
  enough = OfLine (let whole : length (text ++ 10 ∷ []) ≡ length text + 1 = length-append text (10 ∷ []) in omega arith);
}

too_short : (after payload front rest : List ℕ) → after ≡ front ++ [] → after ≡ payload ++ rest → length front < length payload → ⊥
too_short after payload front rest one two short =
    let all : length after ≡ length front + 0 = ap (λ (l : List ℕ). length l) one ∙ length-append front [] in
    let whole : length after ≡ length payload + length rest = ap (λ (l : List ℕ). length l) two ∙ length-append payload rest in
    omega arith

pub bad_payload : (old mid new : Option (List ℕ)) (text front : List ℕ) (line : Line) → All (λ byte. byte ≢ 10) text → Consumes old mid (text ++ 10 ∷ []) → IsFrameLine line text
    → length front < line.len → Consumes mid new front → IsAtEnd new → IfSome old IsBad
bad_payload None mid new text front line plain taken right short more ended = tt
bad_payload (Some input) None new text front line plain taken right short more ended = absurd taken
bad_payload (Some input) (Some after) None text front line plain taken right short more ended = absurd more
bad_payload (Some input) (Some after) (Some rest) text front line plain taken right short more ended = record {
  some = some_line input text after taken;
  none = λ frame left whole is.
      let sides = split_line text after left frame plain whole (then_after input text after taken ∙ is) in
      let same : line ≡ line_of frame = line_unique text line (line_of frame) right (subst (λ t. IsFrameLine (line_of frame) t) (sym sides.0) (is_line_of frame whole)) in
      too_short after frame.payload front left (more ∙ ap (λ r. front ++ r) ended) sides.1 (subst (λ (l : Line). length front < l.len) same short);
}

-- a payload that is cut off
pub finds_short_payload : (old mid new : Option (List ℕ)) (text front : List ℕ) (line : Line) → All (λ byte. byte ≢ 10) text → Consumes old mid (text ++ 10 ∷ []) → IsFrameLine line text
    → length front < line.len → Consumes mid new front → IsAtEnd new → Consumes old new (text ++ 10 ∷ front) → FindsNoFrame old new
finds_short_payload old mid new text front line plain taken right short more ended all = record {
  bad = bad_payload old mid new text front line plain taken right short more ended;
  front = text ++ 10 ∷ front;
  taken = all;
  enough = OfPayload line text front right short refl;
}

-- a whole frame
pub is_frame : (frame : Frame) (line : Line) (text : List ℕ) → IsFrameLine line text → frame.asker ≡ line.asker → length frame.payload ≡ line.len → IsFrame frame × (text ++ 10 ∷ frame.payload ≡ frame_bytes frame)
is_frame frame line text right asker len =
    let same : line ≡ line_of frame = λ i. record { asker = sym asker i; len = sym len i } in
    let line_is : IsFrameLine (line_of frame) text = subst (λ (l : Line). IsFrameLine l text) same right in
    (record { named = line_is.named; fits = line_is.fits }, ap (λ (t : List ℕ). t ++ 10 ∷ frame.payload) line_is.spelled)
