use Rattle.std.proofs.Common.{◌≡◌, ◌<◌, ◌≤◌, ◌&&◌, ℕ, false, length}
use Rattle.std.specs.List.{slice_index_or}
use Rattle.fork_reach.proofs.places.keep_among.Given as goal

-- the flags up to this place were kept among the others, and those behind stand as they did
abbrev pub invariant-loop-at : goal.invariant-loop-at
invariant-loop-at l = record {
  len : length l.marks ≡ length l.fn.marks;
  front : (at : ℕ) → at < l.at → slice_index_or l.marks at false ≡ (slice_index_or l.others at false && slice_index_or l.fn.marks at false);
  behind : (at : ℕ) → l.at ≤ at → slice_index_or l.marks at false ≡ slice_index_or l.fn.marks at false;
}
