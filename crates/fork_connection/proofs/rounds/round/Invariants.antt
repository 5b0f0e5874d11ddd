use Rattle.std.proofs.Common.{◌≡◌, Ok, length}
use Rattle.fork_connection.specs.Rounds.{has_ended, peer_in}
use Rattle.fork_connection.proofs.RoundLemmas.{AreTurnsBefore}
use Rattle.fork_connection.proofs.rounds.round.Given as goal

-- turns led here
abbrev pub invariant-loop-place : goal.invariant-loop-place
invariant-loop-place g l =
    (length l.parties ≡ length l.fn.parties) × (length l.buffer ≡ length l.fn.buffer)
    × AreTurnsBefore g.H.Answering.answered g.H.Answering.lost (peer_in g.R.Read.remaining g.W.Write.contents) has_ended l.fn.host l.host l.fn.parties l.parties (Ok tt) l.place
