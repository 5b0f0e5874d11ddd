-- Connections one after another, with one more behind them.
use Rattle.std.proofs.Common.{ℕ, ◌+◌, ◌≤◌, List, [], ◌∷◌, ◌++◌, Option, IfOk, IfErr, Result, Ok, Err, length-append, refl, subst, sym, arith}
use Rattle.fork_frame.specs.declared.session_end.Ended.{Ended}
use Rattle.fork_host.specs.Shown.{HostState}
use Rattle.fork_wire.specs.Sessions.{IsServed, IsStopped}
use Rattle.fork_wire.specs.declared.fault.SessionFault.{SessionFault}
use Rattle.fork_program.specs.Keeping.{IsSaved}
use Rattle.fork_program.specs.Serving.{AreSomeVisits, AreVisits, Asked, Idle, IsConnection, IsConnectionThenSaved, IsVisit, IsVisitThenSaved, Pauses, Visits}
use Rattle.fork_program.proofs.HostingLemmas.{unsaved}

-- a session is a visit, however it ended
pub visited : (old new : HostState) (input before after : Option (List ℕ)) (result : Result Ended SessionFault) → IfOk result (IsServed old new input before after) → IfErr result (IsStopped old new input before after) → IsVisit old new
visited old new input before after (Ok ended) served stopped = Asked served.frames served.replies served.answered
visited old new input before after (Err fault) served stopped = Asked stopped.frames stopped.replies stopped.answered

pauses_more : (old mid new : HostState) (states : List HostState) → Pauses old states mid → IsVisitThenSaved mid new → Pauses old (states ++ new ∷ []) new
pauses_more old mid new [] chain more = (subst (λ m. IsVisitThenSaved m new) (sym chain) more, refl)
pauses_more old mid new (next ∷ states) chain more = (chain.0, pauses_more next mid new states chain.1 more)

-- a connection that has not begun
pub not_begun : (host : HostState) → IsConnection host host
not_begun host = record { states = []; left = host; pauses = refl; last = Idle refl }

-- one visit is a connection
pub one_visit : (old new : HostState) → IsVisit old new → IsConnection old new
one_visit old new visit = record { states = []; left = old; pauses = refl; last = visit }

-- a connection so far, before its next visit: it paused, and its state may have been saved
pub record IsPaused (old new : HostState) : Type 0 where
  pub states : List HostState
  pub pauses : Pauses old states new

pub none_yet : (host : HostState) → IsPaused host host
none_yet host = record { states = []; pauses = refl }

-- one pause more
pub paused : (old mid left new : HostState) → IsPaused old mid → IsVisit mid left → IsSaved left new → IsPaused old new
paused old mid left new before visit saved = record {
  states = before.states ++ new ∷ [];
  pauses = pauses_more old mid new before.states before.pauses (record { left = left; visit = visit; saved = saved });
}

-- the last visit
pub served_to_end : (old mid new : HostState) → IsPaused old mid → IsVisit mid new → IsConnection old new
served_to_end old mid new before visit = record { states = before.states; left = mid; pauses = before.pauses; last = visit }

visits_more : (old mid new : HostState) (states : List HostState) → Visits old states mid → IsConnectionThenSaved mid new → Visits old (states ++ new ∷ []) new
visits_more old mid new [] chain more = (subst (λ m. IsConnectionThenSaved m new) (sym chain) more, refl)
visits_more old mid new (next ∷ states) chain more = (chain.0, visits_more next mid new states chain.1 more)

-- one connection more, behind which the state was saved
pub one_saved : (old mid left new : HostState) (n : ℕ) → AreVisits old mid n → IsConnection mid left → IsSaved left new → AreVisits old new (n + 1)
one_saved old mid left new n visits more saved = record {
  states = visits.states ++ new ∷ [];
  number = (let number = visits.number in omega (arith, number, length-append visits.states (new ∷ [])));
  chain = visits_more old mid new visits.states visits.chain (record { left = left; connection = more; saved = saved });
}

-- or was not
pub one_more : (old mid new : HostState) (n : ℕ) → AreVisits old mid n → IsConnection mid new → AreVisits old new (n + 1)
one_more old mid new n visits more = one_saved old mid new new n visits more (unsaved new)

-- so many are some
pub some_visits : (old new : HostState) (m n : ℕ) → AreVisits old new m → m ≤ n → AreSomeVisits old new n
some_visits old new m n visits fits = record {
  states = visits.states;
  number = (let number = visits.number in omega (arith, fits));
  chain = visits.chain;
}
