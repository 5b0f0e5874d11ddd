use Rattle.std.proofs.Common.{◌<◌, length, refl, ◌∙◌, rules}
use Rattle.std.proofs.lemmas.List.{length-set}
use Rattle.std.proofs.lemmas.Result.{err_from_is_err_and}
use Rattle.fork_connection.specs.Rounds.{has_ended, peer_in}
use Rattle.fork_connection.proofs.RoundLemmas.{are_turns, no_turns, none_before, turns_more}
use Rattle.fork_connection.proofs.rounds.round.Goals as goal

pub loop-place-init : goal.loop-place-init
loop-place-init g c = (refl, refl, none_before _ _ _ _ _ _ _)

pub loop-place-preserved : goal.loop-place-preserved
loop-place-preserved g c =
    let so_far = c.loop-place.invariant in
    let old = c.index-parties-place.result in
    let within : c.loop-place.place < length c.loop-place.parties = search rules in
    let new = c.serve_counted.new.party in (
      length-set _ _ _ ∙ so_far.0,
      c.serve_counted.ensures.buffer ∙ so_far.1,
      turns_more g.H.Answering.answered g.H.Answering.lost (peer_in g.R.Read.remaining g.W.Write.contents) has_ended _ c.loop-place.host c.serve_counted.new.host _ c.loop-place.parties c.loop-place.place new old _ within so_far.2
          c.in_ok-serve_counted.ensures.served,
    )

pub returns-in_err-serve_counted : goal.returns-in_err-serve_counted
returns-in_err-serve_counted g c =
    let told = err_from_is_err_and c.from_residual.result c.from_residual.ensures.1 in
    let old = c.index-parties-place.result in
    let within : c.loop-place.place < length c.loop-place.parties = search rules in
    let new = c.serve_counted.new.party in
    rw told.1 (record {
      turns = are_turns _ _ _ _ _ _ _ _ _ _ (turns_more g.H.Answering.answered g.H.Answering.lost (peer_in g.R.Read.remaining g.W.Write.contents) has_ended _ c.loop-place.host c.serve_counted.new.host _ c.loop-place.parties c.loop-place.place new old _ within c.loop-place.invariant.2
          c.in_err-serve_counted.ensures.served);
      buffer = c.serve_counted.ensures.buffer ∙ c.loop-place.invariant.1;
    })

pub returns-then-is_empty-clause-turns : goal.returns-then-is_empty-clause-turns
returns-then-is_empty-clause-turns g c = no_turns _ _ _ _ _ _

pub returns-clause-turns : goal.returns-clause-turns
returns-clause-turns g c = are_turns _ _ _ _ _ _ _ _ _ _ c.loop-place.invariant.2
