use Rattle.std.proofs.Common.{refl}
use Rattle.fork_connection.proofs.ConnectionLemmas.{sends, sends_then}
use Rattle.fork_connection.proofs.connection.Connection.turn.Goals as goal

pub returns-then-is_full-clause-turn : goal.returns-then-is_full-clause-turn
returns-then-is_full-clause-turn g c = sends _ _ _ _ _ _ c.args.self.now c.send.new.self _ c.send.ensures.pending refl c.send.ensures.sent

pub returns-then-is_owed-clause-turn : goal.returns-then-is_owed-clause-turn
returns-then-is_owed-clause-turn g c = sends _ _ _ _ _ _ c.args.self.now c.send.new.self _ c.send.ensures.pending refl c.send.ensures.sent

pub returns-clause-turn : goal.returns-clause-turn
returns-clause-turn g c = sends_then _ _ _ _ _ _ _ _ c.args.self.now c.send.new.self c.take-2.new.self _ c.send.ensures.pending c.send.ensures.sent (c.is_owed-2.ensures.none c.if-is_owed.false) (c.take-2.ensures.turn _)

pub returns-in_default-clause-turn : goal.returns-in_default-clause-turn
returns-in_default-clause-turn g c = sends _ _ _ _ _ _ c.args.self.now c.send.new.self _ c.send.ensures.pending c.send.ensures.found c.send.ensures.sent
