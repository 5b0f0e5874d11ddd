use Rattle.std.proofs.Common.{◌≡◌, true}
use Rattle.fork_wire.specs.Kept.{SyncedIf}
use Rattle.fork_wire.proofs.AtOnceLemmas.{cut_leaves, cut_shows, ran_cut, ran_served, round_carries, round_cut, round_leaves, round_served}
use Rattle.fork_wire.proofs.at_once.turns.Goals as goal

pub returns-in-Ok-clause-served : goal.returns-in-Ok-clause-served
returns-in-Ok-clause-served g c first stands =
    round_served _ _ _ _ (λ k. k.host.now) (λ k. g.J.Journal.kept k.journal.now) (λ o f r n is. is.0) (λ o f r n is. is.1) (λ o f n is. (is.0, is.1)) _ _ _ _ (rw c.in-Ok.is at c.round.ensures.turns) first stands

pub returns-in-Ok-clause-ran : goal.returns-in-Ok-clause-ran
returns-in-Ok-clause-ran g c =
    ran_served _ _ _ _ (λ k. k.host.now) (λ k. g.J.Journal.kept k.journal.now) (λ o f r n is. is.0) (λ o f r n is. is.1) (λ o f n is. (is.0, is.1)) _ _ _ _ (rw c.in-Ok.is at c.round.ensures.turns)

pub returns-in-Ok-clause-whole : goal.returns-in-Ok-clause-whole
returns-in-Ok-clause-whole g c = round_leaves _ _ _ _ (λ k. g.J.Journal.is_cut k.journal.now) (λ o f r n is. is.2) _ _ _ _ (rw c.in-Ok.is at c.round.ensures.turns)

pub returns-in-Ok-clause-synced : goal.returns-in-Ok-clause-synced
returns-in-Ok-clause-synced g c =
    round_carries _ _ _ _ (λ k. SyncedIf k.is_synced (g.J.Journal.synced k.journal.now) (g.J.Journal.kept k.journal.now)) (λ o f r n is. is.3) _ _ _ _ (rw c.in-Ok.is at c.round.ensures.turns)

pub returns-in-Err-clause-stopped : goal.returns-in-Err-clause-stopped
returns-in-Err-clause-stopped g c first stands =
    round_cut _ _ _ _ (λ k. k.host.now) (λ k. g.J.Journal.kept k.journal.now) (λ o f r n is. is.0) (λ o f r n is. is.1) (λ o f n is. (is.0, is.1)) _ _ _ _ _ (rw c.in-Err.is at c.round.ensures.turns) first stands

pub returns-in-Err-clause-ran : goal.returns-in-Err-clause-ran
returns-in-Err-clause-ran g c =
    ran_cut _ _ _ _ (λ k. k.host.now) (λ k. g.J.Journal.kept k.journal.now) (λ o f r n is. is.0) (λ o f r n is. is.1) (λ o f n is. (is.0, is.1)) _ _ _ _ _ (rw c.in-Err.is at c.round.ensures.turns)

pub returns-in-Err-clause-cause : goal.returns-in-Err-clause-cause
returns-in-Err-clause-cause g c = cut_shows _ _ _ _ (λ k. g.J.Journal.can_fail) (λ o f n is. is.2) _ _ _ _ _ (rw c.in-Err.is at c.round.ensures.turns)

pub returns-in-Err-clause-cut : goal.returns-in-Err-clause-cut
returns-in-Err-clause-cut g c = cut_shows _ _ _ _ (λ k. g.J.Journal.is_cut k.journal.now ≡ true) (λ o f n is. is.3) _ _ _ _ _ (rw c.in-Err.is at c.round.ensures.turns)

pub returns-in-Ok-clause-host : goal.returns-in-Ok-clause-host
returns-in-Ok-clause-host g c = round_leaves _ _ _ _ (λ k. k.host.ghost_name) (λ o f r n is. is.4) _ _ _ _ (rw c.in-Ok.is at c.round.ensures.turns)

pub returns-in-Ok-clause-journal : goal.returns-in-Ok-clause-journal
returns-in-Ok-clause-journal g c = round_leaves _ _ _ _ (λ k. k.journal.ghost_name) (λ o f r n is. is.5) _ _ _ _ (rw c.in-Ok.is at c.round.ensures.turns)

pub returns-in-Err-clause-host : goal.returns-in-Err-clause-host
returns-in-Err-clause-host g c = cut_leaves _ _ _ _ (λ k. k.host.ghost_name) (λ o f r n is. is.4) (λ o f n is. is.4) _ _ _ _ _ (rw c.in-Err.is at c.round.ensures.turns)

pub returns-in-Err-clause-journal : goal.returns-in-Err-clause-journal
returns-in-Err-clause-journal g c = cut_leaves _ _ _ _ (λ k. k.journal.ghost_name) (λ o f r n is. is.5) (λ o f n is. is.5) _ _ _ _ _ (rw c.in-Err.is at c.round.ensures.turns)
