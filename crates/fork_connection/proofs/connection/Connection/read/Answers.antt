use Rattle.std.proofs.Common.{◌≡◌, ◌++◌, ap, sym, ◌∙◌, subst, rules}
use Rattle.fork_connection.specs.declared.connection.Turn.TheVariants.{Over}
use Rattle.fork_connection.specs.Inbox.{IsPart}
use Rattle.fork_connection.specs.Turns.{Ended, Talk, peer_of}
use Rattle.fork_connection.proofs.ConnectionLemmas.{part_has_room, reads, refuses, then}
use Rattle.fork_connection.proofs.connection.Connection.read.Goals as goal

pub fill-requires-clause-room : goal.fill-requires-clause-room
fill-requires-clause-room g c = part_has_room c.self.inside.inbox (subst IsPart (sym (ap (λ (t : Talk). t.pending) c.self.view_is)) c.requires.part)

pub returns-in-Ok-Some-clause-exchange : goal.returns-in-Ok-Some-clause-exchange
returns-in-Ok-Some-clause-exchange g c out =
    let came = c.in-Ok-Some.ensures.came in
    let now : Talk = record { pending = c.fill.new.self; waiting = c.self.inside.outbox; is_ending = c.self.inside.is_ending } in
    reads _ _ out c.args.self.now now _ came.0 came.1 (came.2 ∙ ap (λ (t : Talk). t.pending ++ came.0) c.self.view_is) (ap (λ (t : Talk). t.waiting) c.self.view_is)

pub returns-in-Ok-Nothing-clause-exchange : goal.returns-in-Ok-Nothing-clause-exchange
returns-in-Ok-Nothing-clause-exchange g c out =
    let came = c.in-Ok-Nothing.ensures.came in
    let now : Talk = record { pending = c.fill.new.self; waiting = c.self.inside.outbox; is_ending = c.self.inside.is_ending } in
    reads _ _ out c.args.self.now now _ came.0 came.1 (came.2 ∙ ap (λ (t : Talk). t.pending ++ came.0) c.self.view_is) (ap (λ (t : Talk). t.waiting) c.self.view_is)

pub returns-in-Clean-clause-exchange : goal.returns-in-Clean-clause-exchange
returns-in-Clean-clause-exchange g c out =
    let came = c.in-Ok-End.ensures.came in
    let now : Talk = record { pending = c.fill.new.self; waiting = c.self.inside.outbox; is_ending = c.self.inside.is_ending } in
    reads _ _ out c.args.self.now now _ came.0 came.1 (came.2 ∙ ap (λ (t : Talk). t.pending ++ came.0) c.self.view_is) (ap (λ (t : Talk). t.waiting) c.self.view_is)

pub returns-in-BadFrame-clause-exchange : goal.returns-in-BadFrame-clause-exchange
returns-in-BadFrame-clause-exchange g c out =
    let came = c.in-Ok-End.ensures.came in
    let mid : Talk = record { pending = c.fill.new.self; waiting = c.self.inside.outbox; is_ending = c.self.inside.is_ending } in
    let same : c.fill.new.self ≡ c.self.inside.inbox = c.in-Ok-End.ensures.nothing (search rules) in
    let part : IsPart c.fill.new.self = subst IsPart (sym (same ∙ ap (λ (t : Talk). t.pending) c.self.view_is)) c.requires.part in
    let bad = (rw c.in-BadFrame.is at c.ended.ensures) part in
    then (peer_of (g.R.Read.remaining c.args.reader.now) out c.args.self.now) (peer_of (g.R.Read.remaining c.fill.new.reader) out mid) _ Over _
    (reads _ _ out c.args.self.now mid _ came.0 came.1 (came.2 ∙ ap (λ (t : Talk). t.pending ++ came.0) c.self.view_is) (ap (λ (t : Talk). t.waiting) c.self.view_is))
    (refuses _ out mid c.refuse.new.self _ (Ended (c.in-Ok-End.ensures.end (search rules)) bad) (ap (λ (t : Talk). t.waiting) c.self.view_is ∙ c.requires.waiting) c.refuse.ensures.pending c.refuse.ensures.found c.refuse.ensures.told)
