-- What is read of a front of frames.
use Rattle.std.proofs.Common.{◌≡◌, ℕ, ◌≤◌, ◌⊎◌, inl, inr, List, [], ◌∷◌, ◌++◌, length, refl, sym, ap, ap₂, ◌∙◌, arith, append_assoc, append-nil, length-append}
use Rattle.std.specs.Prelude.{flat_map, All}
use Rattle.std.proofs.lemmas.List.Concat.{flat_map-append, flat_map-cons}
use Rattle.std.proofs.lemmas.List.Elements.{All-append, All-cons, All-head, All-nil, All-tail}
use Rattle.fork_frame.specs.Frame.{IsFrame, IsRequestStream, frame_bytes}
use Rattle.fork_frame.proofs.LawLemmas.{one_frame, one_stream}
use Rattle.fork_frame.specs.declared.frame.Frame.{Frame}
use Rattle.fork_frame.specs.declared.session_end.Ended.{Ended}
use Rattle.fork_frame.specs.declared.session_end.Ended.TheVariants.{Clean, BadFrame}
use Rattle.fork_frame.specs.Fronts.{FrontIsRead}

-- of two fronts of the same bytes, one begins with the other
split : (a l front rest : List ℕ) → a ++ l ≡ front ++ rest
    → ((more : List ℕ) × (front ≡ a ++ more) × (l ≡ more ++ rest)) ⊎ ((lost : List ℕ) × (1 ≤ length lost) × (front ++ lost ≡ a))
split [] l front rest e = inl (front, refl, e)
split (x ∷ a) l [] rest e = inr (x ∷ a, omega arith, refl)
split (x ∷ a) l (y ∷ front) rest e =
    let head : x ≡ y = cc in
    let tail : a ++ l ≡ front ++ rest = cc in
    longer head (split a l front rest tail)
  where
    longer : x ≡ y → ((more : List ℕ) × (front ≡ a ++ more) × (l ≡ more ++ rest)) ⊎ ((lost : List ℕ) × (1 ≤ length lost) × (front ++ lost ≡ a))
        → ((more : List ℕ) × (y ∷ front ≡ x ∷ (a ++ more)) × (l ≡ more ++ rest)) ⊎ ((lost : List ℕ) × (1 ≤ length lost) × (y ∷ (front ++ lost) ≡ x ∷ a))
    longer head (inl p) = inl (p.0, ap₂ (λ (h : ℕ) (t : List ℕ). h ∷ t) (sym head) p.1, p.2)
    longer head (inr p) = inr (p.0, p.1, ap₂ (λ (h : ℕ) (t : List ℕ). h ∷ t) (sym head) p.2)

-- a front of frames is read as the first of them
record IsReadAsFirst (front : List ℕ) (frames : List Frame) : Type 0 where
  found : List Frame
  lost : List Frame
  ended : Ended
  parts : frames ≡ found ++ lost
  read : IsRequestStream front found ended

nothing_read : (frames : List Frame) → IsReadAsFirst [] frames
nothing_read frames = record { found = []; lost = frames; ended = Clean; parts = refl; read = record { came = []; rest = []; parts = refl; right = record { right = All-nil IsFrame; spelled = refl }; ends = refl } }

-- the front of one frame begins no frame
none_begins : (frame other : Frame) (front lost rest : List ℕ) → IsFrame frame → IsFrame other → 1 ≤ length lost → front ++ lost ≡ frame_bytes frame → front ≡ frame_bytes other ++ rest → ⊥
none_begins frame other front lost rest right also some is begins =
    let both = one_frame frame other [] (rest ++ lost) right also (append-nil (frame_bytes frame) ∙ sym is ∙ ap (λ (l : List ℕ). l ++ lost) begins ∙ append_assoc (frame_bytes other) rest lost) in
    let none : 0 ≡ length (rest ++ lost) = ap (λ (l : List ℕ). length l) both.1 in
    let parts = length-append rest lost in
    omega (arith, none, parts, some)

read_short : (frame : Frame) (frames : List Frame) (front lost : List ℕ) → IsFrame frame → 1 ≤ length lost → front ++ lost ≡ frame_bytes frame → IsReadAsFirst front (frame ∷ frames)
read_short frame frames [] lost right some is = nothing_read (frame ∷ frames)
read_short frame frames (x ∷ front) lost right some is = record {
  found = [];
  lost = frame ∷ frames;
  ended = BadFrame;
  parts = refl;
  read = record {
    came = [];
    rest = x ∷ front;
    parts = refl;
    right = record { right = All-nil IsFrame; spelled = refl };
    ends = record { some = omega arith; none = λ other rest also begins. none_begins frame other (x ∷ front) lost rest right also some is begins };
  };
}

read_more : (frame : Frame) (frames : List Frame) (front more : List ℕ) → IsFrame frame → front ≡ frame_bytes frame ++ more → IsReadAsFirst more frames → IsReadAsFirst front (frame ∷ frames)
read_more frame frames front more right is later = record {
  found = frame ∷ later.found;
  lost = later.lost;
  ended = later.ended;
  parts = ap (λ (t : List Frame). frame ∷ t) later.parts;
  read = record {
    came = frame_bytes frame ++ later.read.came;
    rest = later.read.rest;
    parts = is ∙ ap (λ (l : List ℕ). frame_bytes frame ++ l) later.read.parts ∙ sym (append_assoc (frame_bytes frame) later.read.came later.read.rest);
    right = record {
      right = All-cons IsFrame frame later.found right later.read.right.right;
      spelled = ap (λ (l : List ℕ). frame_bytes frame ++ l) later.read.right.spelled ∙ sym (flat_map-cons frame_bytes frame later.found);
    };
    ends = later.read.ends;
  };
}

-- a front of a frame and what follows it, by where it ends
read_either : (frame : Frame) (frames : List Frame) (front rest : List ℕ) → IsFrame frame → ((more : List ℕ) → flat_map frame_bytes frames ≡ more ++ rest → IsReadAsFirst more frames)
    → ((more : List ℕ) × (front ≡ frame_bytes frame ++ more) × (flat_map frame_bytes frames ≡ more ++ rest)) ⊎ ((lost : List ℕ) × (1 ≤ length lost) × (front ++ lost ≡ frame_bytes frame)) → IsReadAsFirst front (frame ∷ frames)
read_either frame frames front rest right later (inl p) = read_more frame frames front p.0 right p.1 (later p.0 p.2)
read_either frame frames front rest right later (inr p) = read_short frame frames front p.0 right p.1 p.2

read_first : (frames : List Frame) (front rest : List ℕ) → All IsFrame frames → flat_map frame_bytes frames ≡ front ++ rest → IsReadAsFirst front frames
read_first [] [] rest right is = nothing_read []
read_first [] (x ∷ front) rest right is = absurd (let none : 0 ≡ length (x ∷ (front ++ rest)) = ap (λ (l : List ℕ). length l) is in omega (arith, none))
read_first (frame ∷ frames) front rest right is =
    read_either frame frames front rest (All-head IsFrame frame frames right) (λ more whole. read_first frames more rest (All-tail IsFrame frame frames right) whole)
    (split (frame_bytes frame) (flat_map frame_bytes frames) front rest (sym (flat_map-cons frame_bytes frame frames) ∙ is))

-- frames, and then what is read behind them
read_behind : (frames read : List Frame) (bytes : List ℕ) (ended : Ended) → All IsFrame frames → IsRequestStream bytes read ended → IsRequestStream (flat_map frame_bytes frames ++ bytes) (frames ++ read) ended
read_behind frames read bytes ended right stream = record {
  came = flat_map frame_bytes frames ++ stream.came;
  rest = stream.rest;
  parts = ap (λ (l : List ℕ). flat_map frame_bytes frames ++ l) stream.parts ∙ sym (append_assoc (flat_map frame_bytes frames) stream.came stream.rest);
  right = record {
    right = All-append IsFrame frames read right stream.right.right;
    spelled = ap (λ (l : List ℕ). flat_map frame_bytes frames ++ l) stream.right.spelled ∙ sym (flat_map-append frame_bytes frames read);
  };
  ends = stream.ends;
}

pub front_is_read : FrontIsRead
front_is_read frames others read tail rest ended right also is stream =
    let first = read_first others tail rest also is in
    let one = one_stream (flat_map frame_bytes frames ++ tail) read (frames ++ first.found) ended first.ended stream (read_behind frames first.found tail first.ended right first.read) in
    record { found = first.found; lost = first.lost; parts = first.parts; all = one.0 }
