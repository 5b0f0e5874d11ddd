-- Turns of many connections, one after another (own): what they did, as acts at the peers.
use Rattle.std.specs.Prelude.{◌≡◌, ℕ, ◌<◌, ◌≤◌, Bool, true, false, List, [], length, get_or, Option, Result, OnOk, is_err}
use Rattle.std.specs.Io.KnownBytes.{Appends}
use Rattle.fork_connection.specs.declared.answering.Lost.{Lost}
use Rattle.fork_connection.specs.declared.party.Party.{Party}
use Rattle.fork_connection.specs.Turns.{Act, Acts, Answered, LeadsTo, Loses, Peer, Runs, SendsWhatWaited, Step, acts_at, acts_of, asked, peer_of, sent}

module _ {H : Type 0} where
  -- one connection had its turn, unless it was over: at most one frame was answered, and only what waited before went
  -- out; what it holds that went out is what these acts wrote, whether it goes on or not; if it goes on, it is as the
  -- acts leave it
  pub record IsServed (answered : Answered H) (lost : Loses H) (before after : H) (old new : Peer) (was is : Bool) (result : Result (Unit {0}) Lost) : Type 0 where
    pub acts : List Act
    pub left : Peer
    pub does : was ≡ false → Acts old acts left
    pub idle : was ≡ true → acts ≡ []
    pub leads : LeadsTo answered lost before after acts (is_err result)
    pub few : length (asked acts) ≤ 1
    pub late : SendsWhatWaited old acts
    pub gone : Appends old.out new.out (sent acts)
    pub stays : OnOk result (is ≡ false → (was ≡ false) × (left ≡ new))

-- a connection with its two ends, as a peer: `remaining` is what a reader has left, and `contents` what a writer holds
abbrev pub peer_in : {R W : Type 0} → (R → Option (List ℕ)) → (W → Option (List ℕ)) → Party R W → Peer
peer_in remaining contents party = peer_of (remaining party.reader) (contents party.writer) party.connection

abbrev pub has_ended : {R W : Type 0} → Party R W → Bool
has_ended party = party.is_over

module _ {P : Type 0} where
  -- the connections that go on are the peers of this table, by their places
  abbrev pub Stands : (P → Peer) → (P → Bool) → (ℕ → Peer) → List P → Type 0
  Stands peer is_over table parties = (place : ℕ) (other : P) → place < length parties → is_over (get_or parties place other) ≡ false → table place ≡ peer (get_or parties place other)

module _ {P : Type 0} where
  -- what went out at each place is what these acts wrote there, whether its connection goes on or not
  abbrev pub GoesOut : (P → Peer) → List P → List P → List Step → Type 0
  GoesOut peer old new steps = (place : ℕ) (other : P) → Appends (peer (get_or old place other)).out (peer (get_or new place other)).out (sent (acts_at place steps))

module _ {H P : Type 0} where
  -- acts led from these peers to those of the connections now, and from the one state of what answers to the other,
  -- up to a loss if there is one; to each peer only what waited for it before went out
  pub record Reaches (answered : Answered H) (lost : Loses H) (peer : P → Peer) (is_over : P → Bool) (before after : H) (table : ℕ → Peer) (old new : List P) (result : Result (Unit {0}) Lost) : Type 0 where
    pub steps : List Step
    pub next : ℕ → Peer
    pub runs : Runs table steps next
    pub leads : LeadsTo answered lost before after (acts_of steps) (is_err result)
    pub late : (place : ℕ) → SendsWhatWaited (table place) (acts_at place steps)
    pub gone : GoesOut peer old new steps
    pub stands : OnOk result (Stands peer is_over next new)

  -- turns led from the old connections to the new ones, whatever the peers were
  abbrev pub AreTurns : Answered H → Loses H → (P → Peer) → (P → Bool) → H → H → List P → List P → Result (Unit {0}) Lost → Type 0
  AreTurns answered lost peer is_over before after old new result = (table : ℕ → Peer) → Stands peer is_over table old → Reaches answered lost peer is_over before after table old new result
