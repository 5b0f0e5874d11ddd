use Rattle.std.proofs.Common.{◌≡◌, ℕ, List, ◌++◌, ap, refl, sym, ◌∙◌, subst}
use Rattle.fork_frame.specs.Frame.{frame_bytes}
use Rattle.fork_connection.specs.Turns.{Hopeless, IsExchange, Talk, peer_of}
use Rattle.fork_connection.specs.Inbox.{IsHopeless}
use Rattle.fork_connection.proofs.ConnectionLemmas.{answers, is_quiet, refuses}
use Rattle.fork_connection.proofs.connection.Connection.take.Goals as goal

pub returns-in-Ok-Frame-clause-turn : goal.returns-in-Ok-Frame-clause-turn
returns-in-Ok-Frame-clause-turn g c out =
    let arrives = rw c.in-Ok-Frame.field-0-is at c.in-Ok-Frame.ensures.arrives in
    let front = frame_bytes c.in-Ok-Frame.frame in
    answers _ _ _ _ c.in-Ok-Frame.frame _ out c.args.self.now c.answer.new.self _ c.requires.waiting arrives.0
    (sym (ap (λ (t : Talk). t.pending) c.self.view_is) ∙ (arrives.1 ∙ ap (λ (p : List ℕ). front ++ p) (sym c.answer.ensures.pending))) c.answer.ensures.replied

pub returns-in-Ok-Bad-clause-turn : goal.returns-in-Ok-Bad-clause-turn
returns-in-Ok-Bad-clause-turn g c out =
    let arrives = rw c.in-Ok-Bad.field-0-is at c.in-Ok-Bad.ensures.arrives in
    let pending : c.self.inside.inbox ≡ c.args.self.now.pending = ap (λ (t : Talk). t.pending) c.self.view_is in
    is_quiet _ _ _ _ _ _ _ (refuses _ out c.args.self.now c.refuse.new.self _ (Hopeless (subst IsHopeless pending arrives.0)) c.requires.waiting
    (c.refuse.ensures.pending ∙ (arrives.1 ∙ pending)) c.refuse.ensures.found c.refuse.ensures.told) refl

pub returns-in-Ok-Part-clause-turn : goal.returns-in-Ok-Part-clause-turn
returns-in-Ok-Part-clause-turn g c out =
    let arrives = rw c.in-Ok-Part.field-0-is at c.in-Ok-Part.ensures.arrives in
    let with : List ℕ → Talk = λ p. record { pending = p; waiting = c.self.inside.outbox; is_ending = c.self.inside.is_ending } in
    let same : with c.take.new.self ≡ c.args.self.now = ap with arrives.1 ∙ c.self.view_is in
    is_quiet _ _ _ _ _ _ _ (subst (λ (t : Talk). IsExchange (peer_of (g.R.Read.remaining c.args.reader.now) out t) (peer_of (g.R.Read.remaining c.read.new.reader) out c.read.new.self) c.read.result) same (c.read.ensures.exchange out)) refl
