-- Acts at many connections, and what answers them, as one session of the host.
use Rattle.std.proofs.Common.{◌≡◌, ◌<◌, Bool, ℕ, zero, suc, get_or, None, List, [], ◌∷◌, ◌++◌, ◌⊎◌, Option, Result, Ok, Err, inl, inr, refl, sym, ap, ◌∙◌, subst, append_assoc, length, arith}
use Rattle.std.specs.Io.KnownBytes.{Appends, Keeps}
use Rattle.std.proofs.KnownBytes.{Appends-kept, Appends-nil, Appends-trans}
use Rattle.std.proofs.lemmas.List.{map-append}
use Rattle.fork_request.specs.declared.reply.Reply.{Reply}
use Rattle.fork_host.specs.Shown.{HostState}
use Rattle.fork_host.specs.Step.{IsRun, IsStep}
use Rattle.fork_host.proofs.StepLemmas.{run_joined}
use Rattle.fork_frame.specs.declared.frame.Frame.{Frame}
use Rattle.fork_connection.specs.declared.answering.Lost.{Lost}
use Rattle.fork_connection.specs.Rounds.{AreTurns, Stands}
use Rattle.fork_connection.specs.Turns.{Act, Answered, Answers, Chain, Loses, Peer, Reads, Refuses, Runs, Step, Writes, acts_of, asked}
use Rattle.fork_connection.proofs.RoundLemmas.{acts_of-append, get_any, runs_append}
use Rattle.fork_connection.proofs.TurnLemmas as turn
use Rattle.fork_wire.specs.AtOnce.{EachIsHeardAtOnce, EndsRound, IsCutOff, IsRound, IsServedAtOnce, IsUnsynced, RoundsAreOne, frames_in, replied, replies_in}
use Rattle.fork_wire.specs.Kept.{kept_bytes, kept_one}
use Rattle.fork_wire.specs.declared.journal.NotKept.{NotKept}
use Rattle.fork_wire.specs.Sessions.{IsAnswered, event_of, events_of}
use Rattle.fork_wire.proofs.Going.{answered_so_far, run_on}
use Rattle.fork_wire.proofs.KeptLemmas.{kept_first}

module _ {H : Type 0} (answered : Answered H) where
  -- what each answer leaves is left at the end
  pub chain_leaves : {A : Type 0} (f : H → A) → ((old : H) (frame : Frame) (reply : Reply) (new : H) → answered old frame reply new → f new ≡ f old) → (old new : H) (acts : List Act) → Chain answered old acts new → f new ≡ f old
  chain_leaves f leaves old new [] same = sym (ap f same)
  chain_leaves f leaves old new (Answers frame reply ∷ acts) (next, is, more) = chain_leaves f leaves next new acts more ∙ leaves old frame reply next is
  chain_leaves f leaves old new (Reads bytes ∷ acts) chain = chain_leaves f leaves old new acts chain
  chain_leaves f leaves old new (Writes bytes ∷ acts) chain = chain_leaves f leaves old new acts chain
  chain_leaves f leaves old new (Refuses ∷ acts) chain = chain_leaves f leaves old new acts chain

  -- what each answer carries over is carried over
  pub chain_carries : (Q : H → Type 0) → ((old : H) (frame : Frame) (reply : Reply) (new : H) → answered old frame reply new → Q old → Q new) → (old new : H) (acts : List Act) → Chain answered old acts new → Q old → Q new
  chain_carries Q carries old new [] same at_first = subst Q same at_first
  chain_carries Q carries old new (Answers frame reply ∷ acts) (next, is, more) at_first = chain_carries Q carries next new acts more (carries old frame reply next is at_first)
  chain_carries Q carries old new (Reads bytes ∷ acts) chain at_first = chain_carries Q carries old new acts chain at_first
  chain_carries Q carries old new (Writes bytes ∷ acts) chain at_first = chain_carries Q carries old new acts chain at_first
  chain_carries Q carries old new (Refuses ∷ acts) chain at_first = chain_carries Q carries old new acts chain at_first

  -- the host ran
  pub chain_ran : (host : H → HostState) → ((old : H) (frame : Frame) (reply : Reply) (new : H) → answered old frame reply new → IsStep (host old) (event_of frame) reply (host new)) → (old new : H) (acts : List Act) → Chain answered old acts new
      → IsRun (host old) (events_of (asked acts)) (replied acts) (host new)
  chain_ran host steps old new [] same = sym (ap host same)
  chain_ran host steps old new (Answers frame reply ∷ acts) (next, is, more) = (host next, steps old frame reply next is, chain_ran host steps next new acts more)
  chain_ran host steps old new (Reads bytes ∷ acts) chain = chain_ran host steps old new acts chain
  chain_ran host steps old new (Writes bytes ∷ acts) chain = chain_ran host steps old new acts chain
  chain_ran host steps old new (Refuses ∷ acts) chain = chain_ran host steps old new acts chain

  -- what was kept
  pub chain_kept : (kept : H → Option (List ℕ)) → ((old : H) (frame : Frame) (reply : Reply) (new : H) → answered old frame reply new → Appends (kept old) (kept new) (kept_one frame reply)) → (old new : H) (acts : List Act) → Chain answered old acts new
      → Appends (kept old) (kept new) (kept_bytes (asked acts) (replied acts))
  chain_kept kept keeps old new [] same = subst (λ (h : H). Appends (kept old) (kept h) []) same (Appends-nil (kept old))
  chain_kept kept keeps old new (Answers frame reply ∷ acts) (next, is, more) =
      subst (Appends (kept old) (kept new)) (sym (kept_first frame reply (asked acts) (replied acts)))
      (Appends-trans (kept old) (kept next) (kept new) (kept_one frame reply) (kept_bytes (asked acts) (replied acts)) (keeps old frame reply next is) (chain_kept kept keeps next new acts more))
  chain_kept kept keeps old new (Reads bytes ∷ acts) chain = chain_kept kept keeps old new acts chain
  chain_kept kept keeps old new (Writes bytes ∷ acts) chain = chain_kept kept keeps old new acts chain
  chain_kept kept keeps old new (Refuses ∷ acts) chain = chain_kept kept keeps old new acts chain

asked-append : (acts more : List Act) → asked (acts ++ more) ≡ asked acts ++ asked more
asked-append [] more = refl
asked-append (Answers frame reply ∷ acts) more = ap (λ (l : List Frame). frame ∷ l) (asked-append acts more)
asked-append (Reads bytes ∷ acts) more = asked-append acts more
asked-append (Writes bytes ∷ acts) more = asked-append acts more
asked-append (Refuses ∷ acts) more = asked-append acts more

replied-append : (acts more : List Act) → replied (acts ++ more) ≡ replied acts ++ replied more
replied-append [] more = refl
replied-append (Answers frame reply ∷ acts) more = ap (λ (l : List Reply). reply ∷ l) (replied-append acts more)
replied-append (Reads bytes ∷ acts) more = replied-append acts more
replied-append (Writes bytes ∷ acts) more = replied-append acts more
replied-append (Refuses ∷ acts) more = replied-append acts more

-- as many replies as frames, in two halves
kept_joined : (acts more : List Act) → kept_bytes (asked (acts ++ more)) (replied (acts ++ more)) ≡ kept_bytes (asked acts) (replied acts) ++ kept_bytes (asked more) (replied more)
kept_joined [] more = refl
kept_joined (Answers frame reply ∷ acts) more =
    kept_first frame reply (asked (acts ++ more)) (replied (acts ++ more))
    ∙ ap (λ bytes. kept_one frame reply ++ bytes) (kept_joined acts more)
    ∙ sym (append_assoc (kept_one frame reply) (kept_bytes (asked acts) (replied acts)) (kept_bytes (asked more) (replied more)))
    ∙ ap (λ bytes. bytes ++ kept_bytes (asked more) (replied more)) (sym (kept_first frame reply (asked acts) (replied acts)))
kept_joined (Reads bytes ∷ acts) more = kept_joined acts more
kept_joined (Writes bytes ∷ acts) more = kept_joined acts more
kept_joined (Refuses ∷ acts) more = kept_joined acts more

run_in_two : (old mid new : HostState) (acts more : List Act) → IsRun old (events_of (asked acts)) (replied acts) mid → IsRun mid (events_of (asked more)) (replied more) new
    → IsRun old (events_of (asked (acts ++ more))) (replied (acts ++ more)) new
run_in_two old mid new acts more one two =
    let events : events_of (asked (acts ++ more)) ≡ events_of (asked acts) ++ events_of (asked more) = ap events_of (asked-append acts more) ∙ map-append event_of (asked acts) (asked more) in
    subst (λ e. IsRun old e (replied (acts ++ more)) new) (sym events)
    (subst (λ r. IsRun old (events_of (asked acts) ++ events_of (asked more)) r new) (sym (replied-append acts more))
    (run_joined old mid new (events_of (asked acts)) (events_of (asked more)) (replied acts) (replied more) one two))

pub rounds_are_one : RoundsAreOne
rounds_are_one old mid new before then after first next last one two =
    let acts : acts_of (one.steps ++ two.steps) ≡ acts_of one.steps ++ acts_of two.steps = acts_of-append one.steps two.steps in
    record {
      steps = one.steps ++ two.steps;
      runs = runs_append first next last one.steps two.steps one.runs two.runs;
      answered = answered_so_far old new (asked (acts_of (one.steps ++ two.steps))) (replied (acts_of (one.steps ++ two.steps)))
          (subst (λ (l : List Act). IsRun old (events_of (asked l)) (replied l) new) (sym acts) (run_in_two old mid new (acts_of one.steps) (acts_of two.steps) one.answered.ran two.answered.ran));
      kept = subst (λ (l : List Act). Appends before after (kept_bytes (asked l) (replied l))) (sym acts)
          (subst (Appends before after) (sym (kept_joined (acts_of one.steps) (acts_of two.steps)))
          (Appends-trans before then after (kept_bytes (asked (acts_of one.steps)) (replied (acts_of one.steps))) (kept_bytes (asked (acts_of two.steps)) (replied (acts_of two.steps))) one.kept two.kept));
    }

pub each_is_heard_at_once : EachIsHeardAtOnce
each_is_heard_at_once old new before after first last served peer = turn.each_is_heard first last served.steps served.runs peer

-- a peer of whom nothing is known
abbrev nobody : Peer
nobody = record { left = None; out = None; pending = []; waiting = [] }

-- there is a table in which they stand
pub some_table : {P : Type 0} (peer : P → Peer) (is_over : P → Bool) (parties : List P) → (table : ℕ → Peer) × Stands peer is_over table parties
some_table peer is_over [] = (λ place. nobody, λ place other within on. absurd (omega (arith, within)))
some_table peer is_over (first ∷ rest) = (λ place. peer (get_or (first ∷ rest) place first), λ place other within on. ap peer (get_any (first ∷ rest) place first other within))

module _ {H P : Type 0} (answered : Answered H) (lost : Loses H) (peer : P → Peer) (is_over : P → Bool) (host : H → HostState) (kept : H → Option (List ℕ))
    (steps : (old : H) (frame : Frame) (reply : Reply) (new : H) → answered old frame reply new → IsStep (host old) (event_of frame) reply (host new))
    (keeps : (old : H) (frame : Frame) (reply : Reply) (new : H) → answered old frame reply new → Appends (kept old) (kept new) (kept_one frame reply))
    (loses : (old : H) (frame : Frame) (new : H) → lost old frame new → (reply : Reply) × IsStep (host old) (event_of frame) reply (host new)) where
  served_by : (old new : H) (first last : ℕ → Peer) (all : List Step) → Runs first all last → Chain answered old (acts_of all) new → IsServedAtOnce (host old) (host new) (kept old) (kept new) first last
  served_by old new first last all runs chain = record {
    steps = all;
    runs = runs;
    answered = answered_so_far (host old) (host new) (frames_in all) (replies_in all) (chain_ran answered host steps old new (acts_of all) chain);
    kept = chain_kept answered kept keeps old new (acts_of all) chain;
  }

  -- a round
  pub round_served : (old new : H) (before after : List P) → AreTurns answered lost peer is_over old new before after (Ok tt) → (first : ℕ → Peer) → Stands peer is_over first before
      → IsRound peer is_over (host old) (host new) (kept old) (kept new) first before after
  unfolding served_by
  round_served old new before after turns first stands =
      let reached = turns first stands in
      record { last = reached.next; stands = reached.stands; served = served_by old new first reached.next reached.steps reached.runs reached.leads; late = reached.late; gone = reached.gone }

  -- one that was cut off
  pub round_cut : (old new : H) (before after : List P) (why : Lost) → AreTurns answered lost peer is_over old new before after (Err why) → (first : ℕ → Peer) → Stands peer is_over first before
      → IsCutOff peer (host old) (host new) (kept old) first before after
  unfolding served_by
  round_cut old new before after why turns first stands =
      let reached = turns first stands in
      let loss = loses reached.leads.mid reached.leads.frame new reached.leads.is in
      record {
        mid = host reached.leads.mid;
        kept = kept reached.leads.mid;
        last = reached.next;
        served = served_by old reached.leads.mid first reached.next reached.steps reached.runs reached.leads.chain;
        late = reached.late;
        gone = reached.gone;
        frame = reached.leads.frame;
        right = reached.leads.right;
        reply = loss.0;
        step = loss.1;
      }

  -- what was answered in either
  pub ran_served : (old new : H) (before after : List P) → AreTurns answered lost peer is_over old new before after (Ok tt) → (frames : List Frame) × (replies : List Reply) × IsAnswered (host old) (host new) frames replies
  ran_served old new before after turns =
      let table = some_table peer is_over before in
      let round = round_served old new before after turns table.0 table.1 in
      (frames_in round.served.steps, replies_in round.served.steps, round.served.answered)

  pub ran_cut : (old new : H) (before after : List P) (why : Lost) → AreTurns answered lost peer is_over old new before after (Err why) → (frames : List Frame) × (replies : List Reply) × IsAnswered (host old) (host new) frames replies
  ran_cut old new before after why turns =
      let table = some_table peer is_over before in
      let cut = round_cut old new before after why turns table.0 table.1 in
      let frames = frames_in cut.served.steps in
      let replies = replies_in cut.served.steps in (
        frames ++ cut.frame ∷ [],
        replies ++ cut.reply ∷ [],
        answered_so_far (host old) (host new) (frames ++ cut.frame ∷ []) (replies ++ cut.reply ∷ []) (run_on (host old) cut.mid (host new) frames replies cut.frame cut.reply cut.served.answered.ran cut.step),
      )

module _ {P : Type 0} where
  pub cut_off : (peer : P → Peer) (old new : HostState) (before : Option (List ℕ)) (first : ℕ → Peer) (parties left : List P) → IsCutOff peer old new before first parties left
      → IsCutOff peer old new before first parties left ⊎ IsUnsynced peer old new before first parties left
  cut_off peer old new before first parties left cut = inl cut

  -- turns of all, and then a sync
  pub ended_by : (peer : P → Peer) (is_over : P → Bool) (old mid new : HostState) (before then after : Option (List ℕ)) (first : ℕ → Peer) (parties left : List P) (result : Result (Unit {0}) NotKept) → new ≡ mid → Keeps then after
      → IsRound peer is_over old mid before then first parties left → EndsRound peer is_over old new before after first parties left result
  ended_by peer is_over old mid new before then after first parties left (Ok done) same kept round = record {
    last = round.last;
    stands = round.stands;
    served = record {
      steps = round.served.steps;
      runs = round.served.runs;
      answered = subst (λ (h : HostState). IsAnswered old h (frames_in round.served.steps) (replies_in round.served.steps)) (sym same) round.served.answered;
      kept = Appends-kept before then after (kept_bytes (frames_in round.served.steps) (replies_in round.served.steps)) round.served.kept kept;
    };
    late = round.late;
    gone = round.gone;
  }
  ended_by peer is_over old mid new before then after first parties left (Err lost) same kept round = inr (record {
    kept = then;
    last = round.last;
    served = record {
      steps = round.served.steps;
      runs = round.served.runs;
      answered = subst (λ (h : HostState). IsAnswered old h (frames_in round.served.steps) (replies_in round.served.steps)) (sym same) round.served.answered;
      kept = round.served.kept;
    };
    late = round.late;
    gone = round.gone;
  })

module _ {H P : Type 0} (answered : Answered H) (lost : Loses H) (peer : P → Peer) (is_over : P → Bool) where
  -- what each answer leaves is left by a round
  pub round_leaves : {A : Type 0} (f : H → A) → ((old : H) (frame : Frame) (reply : Reply) (new : H) → answered old frame reply new → f new ≡ f old) → (old new : H) (before after : List P)
      → AreTurns answered lost peer is_over old new before after (Ok tt) → f new ≡ f old
  round_leaves f leaves old new before after turns =
      let table = some_table peer is_over before in
      let reached = turns table.0 table.1 in
      chain_leaves answered f leaves old new (acts_of reached.steps) reached.leads

  -- what each answer carries over is carried over by a round
  pub round_carries : (Q : H → Type 0) → ((old : H) (frame : Frame) (reply : Reply) (new : H) → answered old frame reply new → Q old → Q new) → (old new : H) (before after : List P)
      → AreTurns answered lost peer is_over old new before after (Ok tt) → Q old → Q new
  round_carries Q carries old new before after turns =
      let table = some_table peer is_over before in
      let reached = turns table.0 table.1 in
      chain_carries answered Q carries old new (acts_of reached.steps) reached.leads

  -- and by one that was cut off, if a loss leaves it too
  pub cut_leaves : {A : Type 0} (f : H → A) → ((old : H) (frame : Frame) (reply : Reply) (new : H) → answered old frame reply new → f new ≡ f old) → ((old : H) (frame : Frame) (new : H) → lost old frame new → f new ≡ f old)
      → (old new : H) (before after : List P) (why : Lost) → AreTurns answered lost peer is_over old new before after (Err why) → f new ≡ f old
  cut_leaves f leaves gone old new before after why turns =
      let table = some_table peer is_over before in
      let reached = turns table.0 table.1 in
      gone reached.leads.mid reached.leads.frame new reached.leads.is ∙ chain_leaves answered f leaves old reached.leads.mid (acts_of reached.steps) reached.leads.chain

  -- what a loss shows
  pub cut_shows : (Q : H → Type 0) → ((old : H) (frame : Frame) (new : H) → lost old frame new → Q new) → (old new : H) (before after : List P) (why : Lost) → AreTurns answered lost peer is_over old new before after (Err why) → Q new
  cut_shows Q shows old new before after why turns =
      let table = some_table peer is_over before in
      let reached = turns table.0 table.1 in
      shows reached.leads.mid reached.leads.frame new reached.leads.is
