-- Bytes with a prefix that was written.
use Rattle.std.proofs.Common.{◌≡◌, ◌++◌, ◌-◌, ℕ, List, Option, append_assoc, ap, arith, drop, length, length-drop, sym, take, ◌∙◌}
use Rattle.std.proofs.lemmas.List.{take_all, take-append-drop}
use Rattle.std.specs.Io.KnownBytes.{Appends}
use Rattle.std.proofs.KnownBytes.{Appends-trans}
use Rattle.fork_frame.specs.Reply.{WritesFront}

-- a front of the first of two texts is a front of both
pub front_before : (a b : Option (List ℕ)) (bs cs : List ℕ) → WritesFront a b bs → WritesFront a b (bs ++ cs)
front_before a b bs cs w = record {
  front = w.front;
  rest = w.rest ++ cs;
  parts = ap (λ t. t ++ cs) w.parts ∙ append_assoc w.front w.rest cs;
  written = w.written;
}

-- the first of two texts, and a front of the second one
pub front_behind : (a b c : Option (List ℕ)) (bs cs : List ℕ) → Appends a b bs → WritesFront b c cs → WritesFront a c (bs ++ cs)
front_behind a b c bs cs first w = record {
  front = bs ++ w.front;
  rest = w.rest;
  parts = ap (λ t. bs ++ t) w.parts ∙ sym (append_assoc bs w.front w.rest);
  written = Appends-trans a b c bs w.front first w.written;
}

-- what is written next follows what was written, and precedes what is left
pub written_more : (bytes front rest : List ℕ) (n : ℕ) → bytes ≡ front ++ rest → bytes ≡ (front ++ take n rest) ++ take (length rest - n) (drop n rest)
written_more bytes front rest n whole =
    let behind = take_all (length rest - n) (drop n rest) (omega (arith, length-drop n rest)) in
    whole ∙ ap (λ r. front ++ r) (sym (take-append-drop n rest)) ∙ sym (append_assoc front (take n rest) (drop n rest))
    ∙ ap (λ r. (front ++ take n rest) ++ r) (sym behind)
