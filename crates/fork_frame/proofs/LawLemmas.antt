-- The same bytes are the same frames.
use Rattle.std.proofs.Common.{◌≡◌, ℕ, ◌+◌, All, List, [], ◌∷◌, ◌++◌, length, refl, sym, ap, ap₂, ◌∙◌, subst, arith}
use Rattle.std.specs.Prelude.{flat_map}
use Rattle.std.proofs.lemmas.List.{append_assoc, length-append}
use Rattle.std.proofs.lemmas.List.Concat.{flat_map-cons}
use Rattle.std.proofs.lemmas.List.Elements.{All-head, All-tail}
use Rattle.fork_frame.specs.declared.line.Line.{Line}
use Rattle.fork_frame.specs.declared.frame.Frame.{Frame}
use Rattle.fork_frame.specs.declared.session_end.Ended.{Ended}
use Rattle.fork_frame.specs.declared.session_end.Ended.TheVariants.{Clean, BadFrame}
use Rattle.fork_frame.specs.Line.{IsFrameLine, line_text}
use Rattle.fork_frame.specs.Frame.{IsFrame, IsBad, EndsAt, IsRequestStream, OneFrame, OneStream, frame_bytes}
use Rattle.fork_frame.proofs.LineLemmas.{line_plain, line_unique}
use Rattle.fork_frame.proofs.FrameLemmas.{line_of, is_line_of, line_first, split_line}

-- two fronts of the same bytes are equal if they have the same length
pub fronts : (a b r s : List ℕ) → length a ≡ length b → a ++ r ≡ b ++ s → (a ≡ b) × (r ≡ s)
fronts [] [] r s same e = (refl, e)
fronts [] (y ∷ b) r s same e = absurd (omega arith)
fronts (x ∷ a) [] r s same e = absurd (omega arith)
fronts (x ∷ a) (y ∷ b) r s same e =
    let head : x ≡ y = cc in
    let tail : a ++ r ≡ b ++ s = cc in
    let lens : length a ≡ length b = omega arith in
    let rest = fronts a b r s lens tail in
    (ap₂ (λ (h : ℕ) (t : List ℕ). h ∷ t) head rest.0, rest.1)

pub one_frame : OneFrame
one_frame f g r s right other is =
    let plain = line_plain (line_of f) _ (is_line_of f right) in
    let sides = split_line (line_text (line_of f)) (f.payload ++ r) s g plain other (sym (line_first f r) ∙ is) in
    let same : line_of f ≡ line_of g = line_unique (line_text (line_of f)) (line_of f) (line_of g) (is_line_of f right) (subst (λ t. IsFrameLine (line_of g) t) (sym sides.0) (is_line_of g other)) in
    let parts = fronts f.payload g.payload r s (ap (λ (l : Line). l.len) same) sides.1 in
    let asker = ap (λ (l : Line). l.asker) same in
    let frames : f ≡ g = λ i. record { asker = asker i; payload = parts.0 i } in
    (frames, parts.1)

some_bytes : (f : Frame) (rest : List ℕ) → frame_bytes f ++ rest ≡ [] → ⊥
some_bytes f rest is =
    let whole : length (line_text (line_of f) ++ 10 ∷ (f.payload ++ rest)) ≡ 0 = ap (λ (l : List ℕ). length l) (sym (line_first f rest) ∙ is) in
    let parts : length (line_text (line_of f) ++ 10 ∷ (f.payload ++ rest)) ≡ length (line_text (line_of f)) + length (10 ∷ (f.payload ++ rest)) = length-append (line_text (line_of f)) (10 ∷ (f.payload ++ rest)) in
    omega arith

-- no frame follows where an input ends
no_more : (ended : Ended) (left rest : List ℕ) (f : Frame) → EndsAt ended left → IsFrame f → left ≡ frame_bytes f ++ rest → ⊥
no_more Clean left rest f ends right is = some_bytes f rest (sym is ∙ ends)
no_more BadFrame left rest f ends right is = ends.none f rest right is

nothing_is_bad : (rest : List ℕ) → rest ≡ [] → IsBad rest → ⊥
nothing_is_bad rest is bad =
    let none : length rest ≡ 0 = ap (λ (l : List ℕ). length l) is in
    let some = bad.some in
    absurd (omega arith)

one_end : (a b : Ended) (r s : List ℕ) → EndsAt a r → EndsAt b s → r ≡ s → a ≡ b
one_end Clean Clean r s p q e = refl
one_end Clean BadFrame r s p q e = absurd (nothing_is_bad s (sym e ∙ p) q)
one_end BadFrame Clean r s p q e = absurd (nothing_is_bad r (e ∙ q) p)
one_end BadFrame BadFrame r s p q e = refl

first_of_all : (f : Frame) (fs : List Frame) (rest : List ℕ) → flat_map frame_bytes (f ∷ fs) ++ rest ≡ frame_bytes f ++ (flat_map frame_bytes fs ++ rest)
first_of_all f fs rest = ap (λ (l : List ℕ). l ++ rest) (flat_map-cons frame_bytes f fs) ∙ append_assoc (frame_bytes f) (flat_map frame_bytes fs) rest

one_list : (fs gs : List Frame) (a b : Ended) (r s : List ℕ) → All IsFrame fs → All IsFrame gs → EndsAt a r → EndsAt b s → flat_map frame_bytes fs ++ r ≡ flat_map frame_bytes gs ++ s → (fs ≡ gs) × (a ≡ b)
one_list [] [] a b r s all others p q e = (refl, one_end a b r s p q e)
one_list [] (g ∷ gs) a b r s all others p q e = absurd (no_more a r (flat_map frame_bytes gs ++ s) g p (All-head IsFrame g gs others) (e ∙ first_of_all g gs s))
one_list (f ∷ fs) [] a b r s all others p q e = absurd (no_more b s (flat_map frame_bytes fs ++ r) f q (All-head IsFrame f fs all) (sym e ∙ first_of_all f fs r))
one_list (f ∷ fs) (g ∷ gs) a b r s all others p q e =
    let first = one_frame f g (flat_map frame_bytes fs ++ r) (flat_map frame_bytes gs ++ s) (All-head IsFrame f fs all) (All-head IsFrame g gs others) (sym (first_of_all f fs r) ∙ (e ∙ first_of_all g gs s)) in
    let more = one_list fs gs a b r s (All-tail IsFrame f fs all) (All-tail IsFrame g gs others) p q first.1 in
    (ap₂ (λ (h : Frame) (t : List Frame). h ∷ t) first.0 more.0, more.1)

whole_input : (input : List ℕ) (fs : List Frame) (a : Ended) → (stream : IsRequestStream input fs a) → input ≡ flat_map frame_bytes fs ++ stream.rest
whole_input input fs a stream = stream.parts ∙ ap (λ (c : List ℕ). c ++ stream.rest) stream.right.spelled

pub one_stream : OneStream
one_stream input fs gs a b one two =
    one_list fs gs a b one.rest two.rest one.right.right two.right.right one.ends two.ends (sym (whole_input input fs a one) ∙ whole_input input gs b two)
