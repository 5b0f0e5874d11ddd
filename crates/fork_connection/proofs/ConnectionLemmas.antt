-- What a turn does, from what its parts did.
use Rattle.std.proofs.Common.{Bool, true, false, ◌≡◌, ℕ, ◌+◌, ◌<◌, List, [], ◌∷◌, ◌++◌, length, Option, Result, Ok, Err, refl, sym, ap, ◌∙◌, subst, arith}
use Rattle.std.specs.Prelude.{OnOk}
use Rattle.std.specs.Io.KnownBytes.{Appends, Consumes}
use Rattle.std.proofs.KnownBytes.{Appends-nil, Appends-trans}
use Rattle.std.proofs.lemmas.List.{append-nil, length-append}
use Rattle.fork_request.specs.Told.{bytes_of}
use Rattle.fork_frame.specs.declared.session_end.Ended.TheVariants.{BadFrame}
use Rattle.fork_frame.specs.declared.frame.Frame.{Frame}
use Rattle.fork_frame.specs.Frame.{IsFrame, frame_bytes}
use Rattle.fork_frame.specs.Reply.{last_line, reply_frame}
use Rattle.fork_frame.proofs.LineLemmas.{line_short}
use Rattle.fork_connection.specs.declared.connection.Turn.{Turn}
use Rattle.fork_connection.specs.declared.connection.TurnFault.{TurnFault}
use Rattle.fork_connection.specs.declared.connection.TurnFault.TheVariants.{Broken, Lost}
use Rattle.fork_connection.specs.declared.inbox.TheConstants.{LONGEST_FRAME}
use Rattle.fork_connection.specs.Inbox.{IsPart, OfLine, OfPayload}
use Rattle.fork_connection.specs.Turns.{Act, Acts, Answered, Answers, Chain, IsExchange, IsSent, IsTurn, LeadsTo, Loses, NoFrameComes, Peer, Reads, Refuses, Replies, Talk, Writes, asked, is_loss, peer_of, sent}

-- while a frame is incomplete, there is room for it
pub part_has_room : (pending : List ℕ) → IsPart pending → length pending < LONGEST_FRAME
part_has_room pending (OfLine plain short) = omega arith
part_has_room pending (OfPayload line text payload right short parts) =
    let front = line_short line text right in
    let fits = right.fits in
    let whole : length pending ≡ length text + length (10 ∷ payload) = ap (λ (l : List ℕ). length l) parts ∙ length-append text (10 ∷ payload) in
    omega arith

pub breaks : (old new : Peer) → new.out ≡ old.out → IsExchange old new (Err Broken)
breaks old new still = record { acts = []; left = old; does = refl; none = refl; unsent = refl; still = still; found = refl; stays = tt }

-- bytes are read
pub reads : (left now out : Option (List ℕ)) (old new : Talk) (turn : Turn) (more : List ℕ) → Consumes left now more → new.pending ≡ old.pending ++ more → new.waiting ≡ old.waiting
    → IsExchange (peer_of left out old) (peer_of now out new) (Ok turn)
reads left now out old new turn more taken pending waiting = record {
  acts = Reads more ∷ [];
  left = peer_of now out new;
  does = (peer_of now out new, (taken, pending, waiting, refl), refl);
  none = refl;
  unsent = refl;
  still = refl;
  found = refl;
  stays = refl;
}

-- the last line waits
pub refuses : (left out : Option (List ℕ)) (old new : Talk) (result : Result Turn TurnFault) → NoFrameComes (peer_of left out old) → old.waiting ≡ [] → new.pending ≡ old.pending
    → is_loss result ≡ false → OnOk result (new.waiting ≡ last_line BadFrame) → IsExchange (peer_of left out old) (peer_of left out new) result
refuses left out old new (Ok turn) none nothing same found told = record {
  acts = Refuses ∷ [];
  left = peer_of left out new;
  does = (peer_of left out new, (none, nothing, told, same, refl, refl), refl);
  none = refl;
  unsent = refl;
  still = refl;
  found = refl;
  stays = refl;
}
refuses left out old new (Err fault) none nothing same found told = record { acts = []; left = peer_of left out old; does = refl; none = refl; unsent = refl; still = refl; found = found; stays = tt }

-- one exchange after another
acts_append : (old mid new : Peer) (acts more : List Act) → Acts old acts mid → Acts mid more new → Acts old (acts ++ more) new
acts_append old mid new [] more same then = subst (λ (p : Peer). Acts p more new) (sym same) then
acts_append old mid new (act ∷ acts) more (next, does, rest) then = (next, does, acts_append next mid new acts more rest then)

nil_front : (xs ys : List ℕ) → xs ++ ys ≡ [] → xs ≡ []
nil_front [] ys is = refl
nil_front (x ∷ xs) ys is = (let none : length (x ∷ (xs ++ ys)) ≡ 0 = ap (λ (l : List ℕ). length l) is in absurd (omega arith))

-- if the first acts asked or sent nothing
asked_behind : (acts more : List Act) → asked acts ≡ [] → asked (acts ++ more) ≡ asked more
asked_behind [] more none = refl
asked_behind (Reads bytes ∷ acts) more none = asked_behind acts more none
asked_behind (Writes bytes ∷ acts) more none = asked_behind acts more none
asked_behind (Answers frame reply ∷ acts) more none = absurd (some frame (asked acts) none)
  where
    some : (f : Frame) (fs : List Frame) → f ∷ fs ≡ [] → ⊥
    some f fs is = let none : length (f ∷ fs) ≡ 0 = ap (λ (l : List Frame). length l) is in absurd (omega arith)
asked_behind (Refuses ∷ acts) more none = asked_behind acts more none

sent_behind : (acts more : List Act) → sent acts ≡ [] → sent (acts ++ more) ≡ sent more
sent_behind [] more none = refl
sent_behind (Reads bytes ∷ acts) more none = sent_behind acts more none
sent_behind (Writes bytes ∷ acts) more none =
    let front : bytes ≡ [] = nil_front bytes (sent acts) none in
    ap (λ b. b ++ sent (acts ++ more)) front ∙ sent_behind acts more (sym (ap (λ b. b ++ sent acts) front) ∙ none)
sent_behind (Answers frame reply ∷ acts) more none = sent_behind acts more none
sent_behind (Refuses ∷ acts) more none = sent_behind acts more none

pub then : (old mid new : Peer) (turn : Turn) (result : Result Turn TurnFault) → IsExchange old mid (Ok turn) → IsExchange mid new result → IsExchange old new result
then old mid new turn result one two = record {
  acts = one.acts ++ two.acts;
  left = two.left;
  does = acts_append old mid two.left one.acts two.acts (subst (λ (p : Peer). Acts old one.acts p) one.stays one.does) two.does;
  none = asked_behind one.acts two.acts one.none ∙ two.none;
  unsent = sent_behind one.acts two.acts one.unsent ∙ two.unsent;
  still = two.still ∙ one.still;
  found = two.found;
  stays = two.stays;
}

nothing_gone : (old new : Option (List ℕ)) (bytes : List ℕ) → new ≡ old → bytes ≡ [] → Appends old new bytes
nothing_gone old new bytes same none = subst (λ (b : List ℕ). Appends old new b) (sym none) (subst (λ (n : Option (List ℕ)). Appends old n []) (sym same) (Appends-nil old))

module _ {H : Type 0} where
  quiet : (answered : Answered H) (before after : H) (acts : List Act) → asked acts ≡ [] → before ≡ after → Chain answered before acts after
  quiet answered before after [] none same = same
  quiet answered before after (Reads bytes ∷ acts) none same = quiet answered before after acts none same
  quiet answered before after (Writes bytes ∷ acts) none same = quiet answered before after acts none same
  quiet answered before after (Answers frame reply ∷ acts) none same = absurd (some frame (asked acts) none)
    where
      some : (f : Frame) (fs : List Frame) → f ∷ fs ≡ [] → ⊥
      some f fs is = let none : length (f ∷ fs) ≡ 0 = ap (λ (l : List Frame). length l) is in absurd (omega arith)
  quiet answered before after (Refuses ∷ acts) none same = quiet answered before after acts none same

  led : (answered : Answered H) (lost : Loses H) (before after : H) (acts : List Act) (loses : Bool) → loses ≡ false → Chain answered before acts after → LeadsTo answered lost before after acts loses
  led answered lost before after acts false found chain = chain
  led answered lost before after acts true found chain = let bad : true ≡ false = found in absurd (cc bad)

  -- a turn without a frame
  pub is_quiet : (answered : Answered H) (lost : Loses H) (before after : H) (old new : Peer) (result : Result Turn TurnFault) → IsExchange old new result → before ≡ after → IsTurn answered lost before after old new result
  is_quiet answered lost before after old new result exchange same = record {
    acts = exchange.acts;
    left = exchange.left;
    does = exchange.does;
    leads = led answered lost before after exchange.acts (is_loss result) exchange.found (quiet answered before after exchange.acts exchange.none same);
    few = (let size : length (asked exchange.acts) ≡ 0 = ap (λ (l : List Frame). length l) exchange.none in omega arith);
    late = (old.waiting, ap (λ b. b ++ old.waiting) (sym exchange.unsent));
    gone = nothing_gone old.out new.out (sent exchange.acts) exchange.still exchange.unsent;
    stays = exchange.stays;
  }

  -- a turn with one
  pub answers : (answered : Answered H) (lost : Loses H) (host next : H) (frame : Frame) (left out : Option (List ℕ)) (old new : Talk) (result : Result Turn TurnFault)
      → old.waiting ≡ [] → IsFrame frame → old.pending ≡ frame_bytes frame ++ new.pending → Replies answered lost host next frame new.waiting result
      → IsTurn answered lost host next (peer_of left out old) (peer_of left out new) result
  answers answered lost host next frame left out old new (Ok turn) nothing right parts replied = record {
    acts = Answers frame replied.reply ∷ [];
    left = peer_of left out new;
    does = (peer_of left out new, (right, nothing, parts, replied.waits, refl, refl), refl);
    leads = (next, replied.is, refl);
    few = omega arith;
    late = (old.waiting, refl);
    gone = Appends-nil out;
    stays = refl;
  }
  answers answered lost host next frame left out old new (Err Broken) nothing right parts replied = record {
    acts = Answers frame replied.reply ∷ [];
    left = record { left = left; out = out; pending = new.pending; waiting = reply_frame (bytes_of replied.reply) };
    does = (record { left = left; out = out; pending = new.pending; waiting = reply_frame (bytes_of replied.reply) }, (right, nothing, parts, refl, refl, refl), refl);
    leads = (next, replied.is, refl);
    few = omega arith;
    late = (old.waiting, refl);
    gone = Appends-nil out;
    stays = tt;
  }
  answers answered lost host next frame left out old new (Err Lost) nothing right parts replied = record {
    acts = [];
    left = peer_of left out old;
    does = refl;
    leads = record { mid = host; chain = refl; frame = frame; right = right; is = replied };
    few = omega arith;
    late = (old.waiting, refl);
    gone = Appends-nil out;
    stays = tt;
  }

  -- what waits is written
  pub sends : (answered : Answered H) (lost : Loses H) (host : H) (left before after : Option (List ℕ)) (old new : Talk) (result : Result Turn TurnFault) → new.pending ≡ old.pending → is_loss result ≡ false → IsSent old.waiting new.waiting before after
      → IsTurn answered lost host host (peer_of left before old) (peer_of left after new) result
  sends answered lost host left before after old new (Ok turn) same found went = record {
    acts = Writes went.gone ∷ [];
    left = peer_of left after new;
    does = (peer_of left after new, (went.written, went.parts, same, refl), refl);
    leads = refl;
    few = omega arith;
    late = (new.waiting, went.parts ∙ ap (λ b. b ++ new.waiting) (sym (append-nil went.gone)));
    gone = subst (Appends before after) (sym (append-nil went.gone)) went.written;
    stays = refl;
  }
  sends answered lost host left before after old new (Err Broken) same found went = record {
    acts = Writes went.gone ∷ [];
    left = peer_of left after new;
    does = (peer_of left after new, (went.written, went.parts, same, refl), refl);
    leads = refl;
    few = omega arith;
    late = (new.waiting, went.parts ∙ ap (λ b. b ++ new.waiting) (sym (append-nil went.gone)));
    gone = subst (Appends before after) (sym (append-nil went.gone)) went.written;
    stays = tt;
  }
  sends answered lost host left before after old new (Err Lost) same found went = (let bad : true ≡ false = found in absurd (cc bad))

  leads_behind : (answered : Answered H) (lost : Loses H) (before after : H) (bytes : List ℕ) (acts : List Act) (loses : Bool) → LeadsTo answered lost before after acts loses → LeadsTo answered lost before after (Writes bytes ∷ acts) loses
  leads_behind answered lost before after bytes acts false leads = leads
  leads_behind answered lost before after bytes acts true leads = record { mid = leads.mid; chain = leads.chain; frame = leads.frame; right = leads.right; is = leads.is }

  -- all that waits is written, and then more is done
  pub sends_then : (answered : Answered H) (lost : Loses H) (host next : H) (left now before after : Option (List ℕ)) (old mid new : Talk) (result : Result Turn TurnFault) → mid.pending ≡ old.pending → IsSent old.waiting mid.waiting before after → mid.waiting ≡ []
      → IsTurn answered lost host next (peer_of left after mid) (peer_of now after new) result → IsTurn answered lost host next (peer_of left before old) (peer_of now after new) result
  sends_then answered lost host next left now before after old mid new result same went empty more =
      let nothing : sent more.acts ≡ [] = nil_front (sent more.acts) more.late.0 (sym more.late.1 ∙ empty) in
      record {
        acts = Writes went.gone ∷ more.acts;
        left = more.left;
        does = (peer_of left after mid, (went.written, went.parts, same, refl), more.does);
        leads = leads_behind answered lost host next went.gone more.acts (is_loss result) more.leads;
        few = more.few;
        late = (mid.waiting, went.parts ∙ ap (λ b. b ++ mid.waiting) (sym (append-nil went.gone) ∙ ap (λ b. went.gone ++ b) (sym nothing)));
        gone = Appends-trans before after after went.gone (sent more.acts) went.written more.gone;
        stays = more.stays;
      }
