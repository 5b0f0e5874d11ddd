-- Turns of many connections are acts at their peers.
use Rattle.std.proofs.Common.{Result, Ok, Err, ◌≡◌, ◌≢◌, ℕ, zero, suc, ◌+◌, ◌<◌, ◌≤◌, ◌==◌, Bool, true, false, cond, List, [], ◌∷◌, ◌++◌, length, get_or, set, refl, sym, ap, ◌∙◌, subst, arith}
use Rattle.std.specs.Prelude.{OnOk, is_err}
use Rattle.std.specs.Io.KnownBytes.{Appends}
use Rattle.std.proofs.KnownBytes.{Appends-nil, Appends-trans}
use Rattle.std.proofs.lemmas.List.{append-nil, append_assoc, get_or-set_other, get_or-set_same, length-set}
use Rattle.fork_connection.specs.declared.answering.Lost.{Lost}
use Rattle.fork_connection.specs.Turns.{Act, Acts, Answered, Answers, Chain, Does, LeadsTo, Loses, Peer, Reads, Refuses, Runs, SendsWhatWaited, Step, Writes, acts_at, acts_of, sent}
use Rattle.fork_connection.specs.Rounds.{AreTurns, IsServed, Reaches, Stands}
use Rattle.fork_connection.proofs.TurnLemmas.{acts_alone}

-- the default does not matter for a place within a list
pub get_any : {X : Type 0} (xs : List X) (at : ℕ) (a b : X) → at < length xs → get_or xs at a ≡ get_or xs at b
get_any [] at a b within = absurd (omega (arith, within))
get_any (x ∷ xs) zero a b within = refl
get_any (x ∷ xs) (suc at) a b within = (let less : at < length xs = omega (arith, within) in get_any xs at a b less)

-- the table with this peer at this place
abbrev put : (ℕ → Peer) → ℕ → Peer → ℕ → Peer
put table at peer place = cond (place == at) peer (table place)

there : (table : ℕ → Peer) (at : ℕ) (peer : Peer) → put table at peer at ≡ peer
there table at peer = ap (λ (b : Bool). cond b peer (table at)) (let same : (at == at) ≡ true = grind arith in same)

elsewhere : (table : ℕ → Peer) (at : ℕ) (peer : Peer) (place : ℕ) → place ≢ at → put table at peer place ≡ table place
elsewhere table at peer place apart = ap (λ (b : Bool). cond b peer (table place)) (let other : (place == at) ≡ false = grind arith in other)

put_again : (table : ℕ → Peer) (at : ℕ) (mid peer : Peer) (place : ℕ) (same : Bool) → cond same peer (cond same mid (table place)) ≡ cond same peer (table place)
put_again table at mid peer place true = refl
put_again table at mid peer place false = refl

-- acts at one place
abbrev steps_at : ℕ → List Act → List Step
steps_at at [] = []
steps_at at (act ∷ acts) = record { at = at; act = act } ∷ steps_at at acts

acts_at-steps_at : (at : ℕ) (acts : List Act) → acts_at at (steps_at at acts) ≡ acts
acts_at-steps_at at [] = refl
acts_at-steps_at at (act ∷ acts) =
    ap (λ (b : Bool). cond b (act ∷ acts_at at (steps_at at acts)) (acts_at at (steps_at at acts))) (let same : (at == at) ≡ true = grind arith in same)
    ∙ ap (λ (l : List Act). act ∷ l) (acts_at-steps_at at acts)

acts_at-elsewhere : (at place : ℕ) (acts : List Act) → place ≢ at → acts_at place (steps_at at acts) ≡ []
acts_at-elsewhere at place [] apart = refl
acts_at-elsewhere at place (act ∷ acts) apart =
    ap (λ (b : Bool). cond b (act ∷ acts_at place (steps_at at acts)) (acts_at place (steps_at at acts))) (let other : (at == place) ≡ false = grind (arith, apart) in other)
    ∙ acts_at-elsewhere at place acts apart

acts_at_append : (b : Bool) (act : Act) (acts more : List Act) → cond b (act ∷ (acts ++ more)) (acts ++ more) ≡ cond b (act ∷ acts) acts ++ more
acts_at_append true act acts more = refl
acts_at_append false act acts more = refl

acts_at-append : (place : ℕ) (steps more : List Step) → acts_at place (steps ++ more) ≡ acts_at place steps ++ acts_at place more
acts_at-append place [] more = refl
acts_at-append place (step ∷ steps) more =
    ap (λ (l : List Act). cond (step.at == place) (step.act ∷ l) l) (acts_at-append place steps more)
    ∙ acts_at_append (step.at == place) step.act (acts_at place steps) (acts_at place more)

sent-append : (acts more : List Act) → sent (acts ++ more) ≡ sent acts ++ sent more
sent-append [] more = refl
sent-append (Writes bytes ∷ acts) more = ap (λ (l : List ℕ). bytes ++ l) (sent-append acts more) ∙ sym (append_assoc bytes (sent acts) (sent more))
sent-append (Reads bytes ∷ acts) more = sent-append acts more
sent-append (Answers frame reply ∷ acts) more = sent-append acts more
sent-append (Refuses ∷ acts) more = sent-append acts more

sent_at-append : (place : ℕ) (steps more : List Step) → sent (acts_at place (steps ++ more)) ≡ sent (acts_at place steps) ++ sent (acts_at place more)
sent_at-append place steps more = ap sent (acts_at-append place steps more) ∙ sent-append (acts_at place steps) (acts_at place more)

acts_of-steps_at : (at : ℕ) (acts : List Act) → acts_of (steps_at at acts) ≡ acts
acts_of-steps_at at [] = refl
acts_of-steps_at at (act ∷ acts) = ap (λ (l : List Act). act ∷ l) (acts_of-steps_at at acts)

runs_to : (old new other : ℕ → Peer) (steps : List Step) → Runs old steps new → ((place : ℕ) → new place ≡ other place) → Runs old steps other
runs_to old new other [] runs same = λ place. runs place ∙ same place
runs_to old new other (step ∷ steps) (next, is, more) same = (next, is, runs_to next new other steps more same)

runs_at : (table : ℕ → Peer) (at : ℕ) (acts : List Act) (old left : Peer) → table at ≡ old → Acts old acts left → Runs table (steps_at at acts) (put table at left)
runs_at table at [] old left is same = λ place. here place (place == at) refl
  where
    here : (place : ℕ) (b : Bool) → (place == at) ≡ b → table place ≡ cond b left (table place)
    here place true hit = (let e : place ≡ at = grind (arith, hit) in ap table e ∙ (is ∙ same))
    here place false miss = refl
runs_at table at (act ∷ acts) old left is (mid, does, more) =
    let next : ℕ → Peer = put table at mid in (
      next,
      record {
        does = subst (λ (p : Peer). Does p act (next at)) (sym is) (subst (λ (p : Peer). Does old act p) (sym (there table at mid)) does);
        others = λ place apart. elsewhere table at mid place apart;
      },
      runs_to next (put next at left) (put table at left) (steps_at at acts) (runs_at next at acts mid left (there table at mid) more) (λ place. put_again table at mid left place (place == at)),
    )

pub runs_append : (old mid new : ℕ → Peer) (steps more : List Step) → Runs old steps mid → Runs mid more new → Runs old (steps ++ more) new
runs_append old mid new [] [] one two = λ place. one place ∙ two place
runs_append old mid new [] (step ∷ more) one (next, is, rest) =
    (next, record { does = subst (λ (p : Peer). Does p step.act (next step.at)) (sym (one step.at)) is.does; others = λ place apart. is.others place apart ∙ sym (one place) }, rest)
runs_append old mid new (step ∷ steps) more (next, is, rest) two = (next, is, runs_append next mid new steps more rest two)

pub acts_of-append : (steps more : List Step) → acts_of (steps ++ more) ≡ acts_of steps ++ acts_of more
acts_of-append [] more = refl
acts_of-append (step ∷ steps) more = ap (λ (l : List Act). step.act ∷ l) (acts_of-append steps more)

module _ {H : Type 0} where
  chain_append : (answered : Answered H) (old mid new : H) (acts more : List Act) → Chain answered old acts mid → Chain answered mid more new → Chain answered old (acts ++ more) new
  chain_append answered old mid new [] more same then = subst (λ (h : H). Chain answered h more new) (sym same) then
  chain_append answered old mid new (Answers frame reply ∷ acts) more (next, is, rest) then = (next, is, chain_append answered next mid new acts more rest then)
  chain_append answered old mid new (Reads bytes ∷ acts) more one then = chain_append answered old mid new acts more one then
  chain_append answered old mid new (Writes bytes ∷ acts) more one then = chain_append answered old mid new acts more one then
  chain_append answered old mid new (Refuses ∷ acts) more one then = chain_append answered old mid new acts more one then

module _ {H : Type 0} where
  -- answers, and then what leads on
  leads_append : (answered : Answered H) (lost : Loses H) (old mid new : H) (acts more : List Act) (loses : Bool) → Chain answered old acts mid → LeadsTo answered lost mid new more loses → LeadsTo answered lost old new (acts ++ more) loses
  leads_append answered lost old mid new acts more false one two = chain_append answered old mid new acts more one two
  leads_append answered lost old mid new acts more true one two = record {
    mid = two.mid;
    chain = chain_append answered old mid two.mid acts more one two.chain;
    frame = two.frame;
    right = two.right;
    is = two.is;
  }

  -- a connection that is over, or has nothing to do, has no turn
  pub has_no_turn : (answered : Answered H) (lost : Loses H) (host : H) (peer : Peer) (is_over : Bool) → IsServed answered lost host host peer peer is_over is_over (Ok tt)
  has_no_turn answered lost host peer is_over = record {
    acts = [];
    left = peer;
    does = λ goes. refl;
    idle = λ over. refl;
    leads = refl;
    few = omega arith;
    late = (peer.waiting, refl);
    gone = Appends-nil peer.out;
    stays = λ on. (on, refl);
  }

module _ {H P : Type 0} where
  no_turn : (answered : Answered H) (lost : Loses H) (peer : P → Peer) (is_over : P → Bool) (host : H) (parties : List P) (table : ℕ → Peer) → Stands peer is_over table parties → Reaches answered lost peer is_over host host table parties parties (Ok tt)
  no_turn answered lost peer is_over host parties table stands = record { steps = []; next = table; runs = λ place. refl; leads = refl; late = λ place. ((table place).waiting, refl); gone = λ place other. Appends-nil (peer (get_or parties place other)).out; stands = stands }

  pub no_turns : (answered : Answered H) (lost : Loses H) (peer : P → Peer) (is_over : P → Bool) (host : H) (parties : List P) → AreTurns answered lost peer is_over host host parties parties (Ok tt)
  no_turns answered lost peer is_over host parties table stands = no_turn answered lost peer is_over host parties table stands

  -- the turns of those before this place
  abbrev pub AreTurnsBefore : Answered H → Loses H → (P → Peer) → (P → Bool) → H → H → List P → List P → Result (Unit {0}) Lost → ℕ → Type 0
  AreTurnsBefore answered lost peer is_over before after old new result at = (table : ℕ → Peer) → Stands peer is_over table old
      → (reached : Reaches answered lost peer is_over before after table old new result) × ((place : ℕ) → at ≤ place → acts_at place reached.steps ≡ [])

  pub none_before : (answered : Answered H) (lost : Loses H) (peer : P → Peer) (is_over : P → Bool) (host : H) (parties : List P) (at : ℕ) → AreTurnsBefore answered lost peer is_over host host parties parties (Ok tt) at
  unfolding no_turn
  none_before answered lost peer is_over host parties at table stands = (no_turn answered lost peer is_over host parties table stands, λ place less. refl)

  pub are_turns : (answered : Answered H) (lost : Loses H) (peer : P → Peer) (is_over : P → Bool) (before after : H) (old new : List P) (result : Result (Unit {0}) Lost) (at : ℕ) → AreTurnsBefore answered lost peer is_over before after old new result at
      → AreTurns answered lost peer is_over before after old new result
  are_turns answered lost peer is_over before after old new result at turns table stands = (turns table stands).0

  -- one more turn
  one_turn : (answered : Answered H) (lost : Loses H) (peer : P → Peer) (is_over : P → Bool) (before after : H) (parties : List P) (at : ℕ) (new other : P) (result : Result (Unit {0}) Lost) → at < length parties
      → IsServed answered lost before after (peer (get_or parties at other)) (peer new) (is_over (get_or parties at other)) (is_over new) result → (table : ℕ → Peer) → Stands peer is_over table parties
      → (reached : Reaches answered lost peer is_over before after table parties (set parties at new) result) × ((place : ℕ) → place ≢ at → acts_at place reached.steps ≡ [])
  one_turn answered lost peer is_over before after parties at new other result within served table stands = turn (is_over (get_or parties at other)) refl
    where
      still : length (set parties at new) ≡ length parties
      still = length-set parties at new

      after_it : (next : ℕ → Peer) (left : Peer) → next at ≡ left → ((place : ℕ) → place ≢ at → next place ≡ table place) → (is_over new ≡ false → left ≡ peer new) → Stands peer is_over next (set parties at new)
      after_it next left here others stays place some inside goes_on = place_is (place == at) refl
        where
          place_is : (b : Bool) → (place == at) ≡ b → next place ≡ peer (get_or (set parties at new) place some)
          place_is true hit =
              let e : place ≡ at = grind (arith, hit) in
              let now : get_or (set parties at new) place some ≡ new = ap (λ (p : ℕ). get_or (set parties at new) p some) e ∙ get_or-set_same parties at new some within in
              ap next e ∙ (here ∙ (stays (sym (ap is_over now) ∙ goes_on) ∙ ap peer (sym now)))
          place_is false miss =
              let apart : place ≢ at = grind (arith, miss) in
              let now : get_or (set parties at new) place some ≡ get_or parties place some = get_or-set_other parties at place new some apart in
              others place apart ∙ (stands place some (subst (λ (n : ℕ). place < n) still inside) (sym (ap is_over now) ∙ goes_on) ∙ ap peer (sym now))

      stood : (next : ℕ → Peer) (left : Peer) (how : Result (Unit {0}) Lost) → next at ≡ left → ((place : ℕ) → place ≢ at → next place ≡ table place) → OnOk how (is_over new ≡ false → left ≡ peer new)
          → OnOk how (Stands peer is_over next (set parties at new))
      stood next left (Ok done) here others stays = after_it next left here others stays
      stood next left (Err gone) here others stays = tt

      same_left : (how : Result (Unit {0}) Lost) → OnOk how (is_over new ≡ false → (is_over (get_or parties at other) ≡ false) × (served.left ≡ peer new)) → OnOk how (is_over new ≡ false → served.left ≡ peer new)
      same_left (Ok done) stays = λ on. (stays on).1
      same_left (Err gone) stays = tt

      not_on : is_over (get_or parties at other) ≡ true → is_over (get_or parties at other) ≡ false → ⊥
      not_on over on = let bad : true ≡ false = sym over ∙ on in absurd (cc bad)

      over_left : (how : Result (Unit {0}) Lost) → is_over (get_or parties at other) ≡ true → OnOk how (is_over new ≡ false → (is_over (get_or parties at other) ≡ false) × (served.left ≡ peer new)) → OnOk how (is_over new ≡ false → table at ≡ peer new)
      over_left (Ok done) over stays = λ on. absurd (not_on over (stays on).0)
      over_left (Err gone) over stays = tt

      -- what went out to this one, and to any other one
      late : peer (get_or parties at other) ≡ table at → (place : ℕ) (b : Bool) → (place == at) ≡ b → SendsWhatWaited (table place) (acts_at place (steps_at at served.acts))
      late was place true hit =
          let e : at ≡ place = grind (arith, hit) in
          subst (λ (p : ℕ). SendsWhatWaited (table p) (acts_at p (steps_at at served.acts))) e
          (subst (λ (l : List Act). SendsWhatWaited (table at) l) (sym (acts_at-steps_at at served.acts)) (subst (λ (p : Peer). SendsWhatWaited p served.acts) was served.late))
      late was place false miss =
          let apart : place ≢ at = grind (arith, miss) in
          subst (λ (l : List Act). SendsWhatWaited (table place) l) (sym (acts_at-elsewhere at place served.acts apart)) ((table place).waiting, refl)

      -- what went out at this one, and at any other one
      gone : (place : ℕ) (some : P) (b : Bool) → (place == at) ≡ b → Appends (peer (get_or parties place some)).out (peer (get_or (set parties at new) place some)).out (sent (acts_at place (steps_at at served.acts)))
      gone place some true hit =
          let e : at ≡ place = grind (arith, hit) in
          let now : get_or (set parties at new) at some ≡ new = get_or-set_same parties at new some within in
          let was : get_or parties at other ≡ get_or parties at some = get_any parties at other some within in
          subst (λ (p : ℕ). Appends (peer (get_or parties p some)).out (peer (get_or (set parties at new) p some)).out (sent (acts_at p (steps_at at served.acts)))) e
          (subst (λ (l : List Act). Appends (peer (get_or parties at some)).out (peer (get_or (set parties at new) at some)).out (sent l)) (sym (acts_at-steps_at at served.acts))
          (subst (λ (p : P). Appends (peer (get_or parties at some)).out (peer p).out (sent served.acts)) (sym now)
          (subst (λ (p : P). Appends (peer p).out (peer new).out (sent served.acts)) was served.gone)))
      gone place some false miss =
          let apart : place ≢ at = grind (arith, miss) in
          let now : get_or (set parties at new) place some ≡ get_or parties place some = get_or-set_other parties at place new some apart in
          subst (λ (l : List Act). Appends (peer (get_or parties place some)).out (peer (get_or (set parties at new) place some)).out (sent l)) (sym (acts_at-elsewhere at place served.acts apart))
          (subst (λ (p : P). Appends (peer (get_or parties place some)).out (peer p).out []) (sym now) (Appends-nil (peer (get_or parties place some)).out))

      -- if it was over, nothing went out
      gone_none : is_over (get_or parties at other) ≡ true → (place : ℕ) (some : P) → Appends (peer (get_or parties place some)).out (peer (get_or (set parties at new) place some)).out []
      gone_none over place some = by_place (place == at) refl
        where
          by_place : (b : Bool) → (place == at) ≡ b → Appends (peer (get_or parties place some)).out (peer (get_or (set parties at new) place some)).out []
          by_place true hit =
              let e : at ≡ place = grind (arith, hit) in
              subst (λ (l : List Act). Appends (peer (get_or parties place some)).out (peer (get_or (set parties at new) place some)).out (sent l))
              (ap (λ (p : ℕ). acts_at p (steps_at at served.acts)) (sym e) ∙ (acts_at-steps_at at served.acts ∙ served.idle over)) (gone place some true hit)
          by_place false miss =
              let apart : place ≢ at = grind (arith, miss) in
              subst (λ (l : List Act). Appends (peer (get_or parties place some)).out (peer (get_or (set parties at new) place some)).out (sent l)) (acts_at-elsewhere at place served.acts apart) (gone place some false miss)

      turn : (was : Bool) → is_over (get_or parties at other) ≡ was
          → (reached : Reaches answered lost peer is_over before after table parties (set parties at new) result) × ((place : ℕ) → place ≢ at → acts_at place reached.steps ≡ [])
      turn false goes =
          let was = stands at other within goes in (
            record {
              steps = steps_at at served.acts;
              next = put table at served.left;
              runs = runs_at table at served.acts (peer (get_or parties at other)) served.left was (served.does goes);
              leads = subst (λ (l : List Act). LeadsTo answered lost before after l (is_err result)) (sym (acts_of-steps_at at served.acts)) served.leads;
              late = λ place. late (sym was) place (place == at) refl;
              gone = λ place some. gone place some (place == at) refl;
              stands = stood (put table at served.left) served.left result (there table at served.left) (λ place apart. elsewhere table at served.left place apart) (same_left result served.stays);
            },
            λ place apart. acts_at-elsewhere at place served.acts apart,
          )
      turn true over = (
        record {
          steps = [];
          next = table;
          runs = λ place. refl;
          leads = subst (λ (l : List Act). LeadsTo answered lost before after l (is_err result)) (served.idle over) served.leads;
          late = λ place. ((table place).waiting, refl);
          gone = gone_none over;
          stands = stood table (table at) result refl (λ place apart. refl) (over_left result over served.stays);
        },
        λ place apart. refl,
      )

  pub turns_more : (answered : Answered H) (lost : Loses H) (peer : P → Peer) (is_over : P → Bool) (first before after : H) (old parties : List P) (at : ℕ) (new other : P) (result : Result (Unit {0}) Lost) → at < length parties
      → AreTurnsBefore answered lost peer is_over first before old parties (Ok tt) at
      → IsServed answered lost before after (peer (get_or parties at other)) (peer new) (is_over (get_or parties at other)) (is_over new) result → AreTurnsBefore answered lost peer is_over first after old (set parties at new) result (at + 1)
  turns_more answered lost peer is_over first before after old parties at new other result within so_far served table stands =
      let one = (so_far table stands).0 in
      let quiet = (so_far table stands).1 in
      let turn = one_turn answered lost peer is_over before after parties at new other result within served one.next one.stands in
      let two = turn.0 in (
        record {
          steps = one.steps ++ two.steps;
          next = two.next;
          runs = runs_append table one.next two.next one.steps two.steps one.runs two.runs;
          leads = subst (λ (l : List Act). LeadsTo answered lost first after l (is_err result)) (sym (acts_of-append one.steps two.steps)) (leads_append answered lost first before after (acts_of one.steps) (acts_of two.steps) (is_err result) one.leads two.leads);
          late = λ place. both table one.next one.steps two.steps place at one.runs quiet turn.1 one.late two.late (place == at) refl;
          gone = λ place some. subst (λ (b : List ℕ). Appends (peer (get_or old place some)).out (peer (get_or (set parties at new) place some)).out b) (sym (sent_at-append place one.steps two.steps))
              (Appends-trans _ (peer (get_or parties place some)).out _ (sent (acts_at place one.steps)) (sent (acts_at place two.steps)) (one.gone place some) (two.gone place some));
          stands = two.stands;
        },
        λ place less. (let before : at ≤ place = omega (arith, less) in
            let apart : place ≢ at = grind (arith, less) in
            acts_at-append place one.steps two.steps ∙ (ap (λ (l : List Act). l ++ acts_at place two.steps) (quiet place before) ∙ turn.1 place apart)),
      )
    where
      -- two lists of steps, one of which has none at a place
      both : (table next : ℕ → Peer) (steps more : List Step) (place at : ℕ) → Runs table steps next → ((p : ℕ) → at ≤ p → acts_at p steps ≡ []) → ((p : ℕ) → p ≢ at → acts_at p more ≡ [])
          → ((p : ℕ) → SendsWhatWaited (table p) (acts_at p steps)) → ((p : ℕ) → SendsWhatWaited (next p) (acts_at p more)) → (b : Bool) → (place == at) ≡ b → SendsWhatWaited (table place) (acts_at place (steps ++ more))
      both table next steps more place at runs quiet alone late later true hit =
          let here : at ≤ place = grind (arith, hit) in
          let none : acts_at place steps ≡ [] = quiet place here in
          let same : table place ≡ next place = subst (λ (l : List Act). Acts (table place) l (next place)) none (acts_alone table next steps runs place) in
          subst (λ (l : List Act). SendsWhatWaited (table place) l) (sym (acts_at-append place steps more ∙ ap (λ (l : List Act). l ++ acts_at place more) none))
          (subst (λ (p : Peer). SendsWhatWaited p (acts_at place more)) (sym same) (later place))
      both table next steps more place at runs quiet alone late later false miss =
          let apart : place ≢ at = grind (arith, miss) in
          subst (λ (l : List Act). SendsWhatWaited (table place) l) (sym (acts_at-append place steps more ∙ (ap (λ (l : List Act). acts_at place steps ++ l) (alone place apart) ∙ append-nil (acts_at place steps)))) (late place)
