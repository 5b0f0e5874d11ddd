-- A walk in which `clap` finds no fault keeps what each use of an argument keeps of the rows.
use Rattle.std.proofs.Common.{◌≡◌, ◌&&◌, ℕ, zero, suc, Bool, true, false, List, [], ◌∷◌, Option, Some, None, is_some, if◌then◌else◌, length, not, drop, refl, sym, subst, slice_get}
use Rattle.std.specs.Prelude.{encode_utf8, find, fold}
use Rattle.std.specs.Option.{option_map_or}
use Rattle.std.specs.Str.{bytes_eq, chars}
use Rattle.clap.specs.Words.{Kinds, Row, Rule, Shape, Text}
use Rattle.clap.specs.Kinds.{or_else}
use Rattle.clap.specs.Lexer.{long_of, short_of}
use Rattle.clap.specs.Faults.{bundle_fault, bundle_step_fault, flag_word_fault, flags_fault, level_fault, long_fault, option_fault, other_fault, positional_fault, react_fault, settle_fault, short_fault, step_fault, stray_fault, turn_fault, use_fault, walk_fault, word_fault}
use Rattle.clap.specs.Walk.{Held, Names, Outcome, Step, Waiting, Walk, after_flag, after_step, arg_by_id, arg_by_index, arg_by_long, arg_by_short, attached_value, bundle_met, bundle_step, done, flag_met, has_long, has_short, idle, is_pending, long_met, long_or_other, next, nothing_held, option, option_met, option_word, plain, plain_word, positional, pushed, reacted, refused, rows_after, settled, settled_rows, short_met, short_or_plain, subcommand, subcommand_met, subcommand_or_other, takes_several, takes_values, to_positional, trailing, used, used_by_id, value, waits, walk, walk_from, walked, walked_from, with_default, word_met}
use Rattle.clap.specs.declared.error.kind.ErrorKind.TheVariants.{TooManyValues}

pub or_else_first : (a b : Kinds) → or_else a b ≡ [] → a ≡ []
or_else_first [] b none = refl
or_else_first (kind ∷ kinds) b none = absurd (cc)

pub or_else_last : (a b : Kinds) → or_else a b ≡ [] → b ≡ []
or_else_last [] b none = none
or_else_last (kind ∷ kinds) b none = absurd (cc)

-- words after a flag change no row
option_same : (o : Option Rule) (id word : Text) (h : Held) → (option_word o id word h).0.rows ≡ h.rows
option_same None id word h = refl
option_same (Some a) id word h = refl

plain_same : (c : List Rule) (waiting : Waiting) (word : Text) (h : Held) → (plain_word c waiting word h).0.rows ≡ h.rows
plain_same c idle word h = refl
plain_same c (option id) word h = option_same (arg_by_id c id) id word h
plain_same c positional word h = refl

after_same : (c : List Rule) (waiting : Waiting) (word : Text) (h : Held) (o : Outcome) → (after_flag c waiting word h o).0.rows ≡ h.rows
after_same c waiting word h done = refl
after_same c waiting word h (waits id) = refl
after_same c waiting word h plain = plain_same c waiting word h
after_same c waiting word h refused = plain_same c waiting word h

module _ (s : Shape) (P : List Row → Type 0) where
  -- a use of the argument without a fault keeps P
  abbrev pub Keeps : Option Rule → Type 0
  Keeps None = Unit {0}
  Keeps (Some a) = (values : List Text) (rows : List Row) → P rows → use_fault s.args_override_self a values rows ≡ [] → P (used a values rows)

  -- each argument keeps P
  abbrev pub EachKeeps : Type 0
  EachKeeps = (p : Rule → Bool) → Keeps (find p s.rules)

  settled_by : (o : Option Rule) (values : List Text) (rows : List Row) → Keeps o → P rows → option_map_or (λ a. use_fault s.args_override_self a values rows) o [] ≡ [] → P (used_by_id o values rows)
  settled_by None values rows keeps held none = held
  settled_by (Some a) values rows keeps held none = keeps values rows held none

  pending_settled : EachKeeps → (pending : Option (Text × List Text)) (rows : List Row) → P rows
      → option_map_or (λ p. option_map_or (λ a. use_fault s.args_override_self a p.1 rows) (arg_by_id s.rules p.0) []) pending [] ≡ [] → P (settled_rows s.rules pending rows)
  pending_settled each None rows held none = held
  pending_settled each (Some p) rows held none = settled_by (arg_by_id s.rules p.0) p.1 rows (each (λ a. bytes_eq a.id p.0)) held none

  settled_keeps : EachKeeps → (h : Held) → P h.rows → settle_fault s.rules s.args_override_self h ≡ [] → P (settled s.rules h).rows
  settled_keeps each h held none = pending_settled each h.pending h.rows held none

  reacted_keeps : EachKeeps → (a : Rule) (values : List Text) (h : Held) → Keeps (Some a) → P h.rows → react_fault s.rules s.args_override_self a values h ≡ [] → P (reacted s.rules a values h).rows
  reacted_keeps each a values h keeps held none = keeps values (settled s.rules h).rows (settled_keeps each h held (or_else_first _ _ none)) (or_else_last (settle_fault s.rules s.args_override_self h) _ none)

  option_keeps : EachKeeps → (a : Rule) (v : Option Text) (h : Held) → Keeps (Some a) → P h.rows → option_fault s.rules s.args_override_self a v h ≡ [] → P (option_met s.rules a v h).0.rows
  option_keeps each a (Some v) h keeps held none = reacted_keeps each a (v ∷ []) h keeps held none
  option_keeps each a None h keeps held none = settled_keeps each h held none

  flag_keeps : EachKeeps → (a : Rule) (v : Option Text) (h : Held) → Keeps (Some a) → P h.rows
      → (if is_some v then TooManyValues ∷ [] else react_fault s.rules s.args_override_self a [] h) ≡ [] → P (flag_met s.rules a v h).0.rows
  flag_keeps each a (Some v) h keeps held none = held
  flag_keeps each a None h keeps held none = reacted_keeps each a [] h keeps held none

  long_keeps : EachKeeps → (o : Option Rule) (v : Option Text) (h : Held) → Keeps o → P h.rows → long_fault s.rules s.args_override_self o v h ≡ [] → P (long_met s.rules o v h).0.rows
  long_keeps each None v h keeps held none = held
  long_keeps each (Some a) v h keeps held none = go (takes_values a) none
    where
      go : (t : Bool) → (if t then option_fault s.rules s.args_override_self a v h else (if is_some v then TooManyValues ∷ [] else react_fault s.rules s.args_override_self a [] h)) ≡ []
          → P (if t then option_met s.rules a v h else flag_met s.rules a v h).0.rows
      go true fine = option_keeps each a v h keeps held fine
      go false fine = flag_keeps each a v h keeps held fine

  short_keeps : EachKeeps → (o : Option Rule) (rest : Text) (h : Held) (faults : Held → Kinds) (goes : Held → Held × Outcome) → ((g : Held) → P g.rows → faults g ≡ [] → P (goes g).0.rows)
      → Keeps o → P h.rows → short_fault s.rules s.args_override_self o rest h faults ≡ [] → P (short_met s.rules o rest h goes).0.rows
  short_keeps each None rest h faults goes on keeps held none = held
  short_keeps each (Some a) rest h faults goes on keeps held none = go (takes_values a) none
    where
      go : (t : Bool) → (if t then option_fault s.rules s.args_override_self a (attached_value rest) h else or_else (react_fault s.rules s.args_override_self a [] h) (faults (reacted s.rules a [] h))) ≡ []
          → P (if t then option_met s.rules a (attached_value rest) h else goes (reacted s.rules a [] h)).0.rows
      go true fine = option_keeps each a (attached_value rest) h keeps held fine
      go false fine = on (reacted s.rules a [] h) (reacted_keeps each a [] h keeps held (or_else_first _ _ fine)) (or_else_last (react_fault s.rules s.args_override_self a [] h) _ fine)

  flag_step_keeps : EachKeeps → (x : Option ℕ) (flags : Text) (skip : ℕ) (so_far : Outcome) (h : Held) (faults : Text → ℕ → Held → Kinds) (goes : Text → ℕ → Outcome → Held → Held × Outcome)
      → ((rest : Text) (n : ℕ) (o : Outcome) (g : Held) → P g.rows → faults rest n g ≡ [] → P (goes rest n o g).0.rows)
      → P h.rows → bundle_step_fault s.rules s.args_override_self x flags skip h faults ≡ [] → P (bundle_step s.rules x flags skip so_far h goes).0.rows
  flag_step_keeps each None flags skip so_far h faults goes on held none = held
  flag_step_keeps each (Some x) flags zero so_far h faults goes on held none =
      let rest = drop (length (encode_utf8 x)) flags in
      short_keeps each (arg_by_short s.rules x) rest h (faults rest 0) (goes rest 0 done) (on rest 0 done) (each (λ a. not (is_some a.index) && has_short a x)) held none
  flag_step_keeps each (Some x) flags (suc skip) so_far h faults goes on held none = on (drop (length (encode_utf8 x)) flags) skip so_far h held none

  flags_keep : EachKeeps → (k : ℕ) (flags : Text) (skip : ℕ) (so_far : Outcome) (h : Held) → P h.rows → flags_fault s.rules s.args_override_self k flags skip h ≡ [] → P (bundle_met s.rules k flags skip so_far h).0.rows
  unfolding flags_fault bundle_met
  flags_keep each zero flags skip so_far h held none = held
  flags_keep each (suc k) flags skip so_far h held none =
      flag_step_keeps each (slice_get (chars flags) 0) flags skip so_far h (flags_fault s.rules s.args_override_self k) (bundle_met s.rules k) (λ rest n o g. flags_keep each k rest n o g) held none

  -- a word that is a flag or a value
  short_or_plain_keeps : EachKeeps → (waiting : Waiting) (word : Text) (o : Option Text) (h : Held) → P h.rows → option_map_or (λ flags. bundle_fault s.rules s.args_override_self flags h) o [] ≡ []
      → P (short_or_plain s.rules waiting word o h).0.rows
  short_or_plain_keeps each waiting word None h held none = subst P (sym (plain_same s.rules waiting word h)) held
  short_or_plain_keeps each waiting word (Some flags) h held none =
      subst P (sym (after_same s.rules waiting word _ _)) (flags_keep each (length flags) flags h.skip plain (record h { skip = 0 }) held none)

  long_or_other_keeps : EachKeeps → (waiting : Waiting) (word : Text) (o : Option (Text × Option Text)) (h : Held) → P h.rows → flag_word_fault s.rules s.args_override_self o word h ≡ []
      → P (long_or_other s.rules waiting word o h).0.rows
  long_or_other_keeps each waiting word (Some p) h held none =
      subst P (sym (after_same s.rules waiting word _ _)) (long_keeps each (arg_by_long s.rules p.0) p.1 h (each (λ a. not (is_some a.index) && has_long a p.0)) held none)
  long_or_other_keeps each waiting word None h held none = short_or_plain_keeps each waiting word (short_of word) h held none

  other_keeps : EachKeeps → (o : Option Text) (waiting : Waiting) (position : ℕ) (word : Text) (h : Held) → P h.rows → other_fault s o word h ≡ [] → P (subcommand_or_other s.rules o waiting position word h).0.rows
  other_keeps each (Some name) waiting position word h held none = held
  other_keeps each None waiting position word h held none = go (bytes_eq word (45 ∷ 45 ∷ [])) none
    where
      go : (t : Bool) → (if t then [] else flag_word_fault s.rules s.args_override_self (long_of word) word h) ≡ [] → P (if t then (h, trailing position) else long_or_other s.rules waiting word (long_of word) h).0.rows
      go true fine = held
      go false fine = long_or_other_keeps each waiting word (long_of word) h held fine

  met_keeps : EachKeeps → (names : Names) (is_trailing : Bool) (waiting : Waiting) (position : ℕ) (word : Text) (h : Held) → P h.rows → word_fault s names is_trailing waiting word h ≡ []
      → P (word_met s.rules names is_trailing waiting position word h).0.rows
  met_keeps each names true waiting position word h held none = held
  met_keeps each names false waiting position word h held none = other_keeps each (subcommand_met names waiting word) waiting position word h held none

  -- a word that goes to a positional
  positional_keeps : EachKeeps → (o : Option Rule) (word : Text) (w : Walk) (h : Held) → P h.rows → option_map_or (λ a. positional_fault s.rules s.args_override_self a h) o (stray_fault s) ≡ []
      → P (to_positional s.rules o word w h).held.rows
  positional_keeps each None word w h held none = held
  positional_keeps each (Some a) word w h held none = go (is_pending a h.pending && takes_several a) none
    where
      go : (t : Bool) → (if t then [] else settle_fault s.rules s.args_override_self h) ≡ [] → P (pushed a.id word (if t then h else settled s.rules h)).rows
      go true fine = held
      go false fine = settled_keeps each h held fine

  stepped_keeps : EachKeeps → (word : Text) (w : Walk) (h : Held) (step : Step) → P h.rows → step_fault s w.position h step ≡ [] → P (after_step s.rules word w h step).held.rows
  stepped_keeps each word w h (next waiting) held none = held
  stepped_keeps each word w h (trailing position) held none = held
  stepped_keeps each word w h (subcommand name) held none = held
  stepped_keeps each word w h value held none = positional_keeps each (arg_by_index s.rules w.position) word w h held none

  turn_keeps : EachKeeps → (names : Names) (w : Walk) (word : Text) → P w.held.rows → turn_fault s names w word ≡ [] → P (walked s.rules names w word).held.rows
  unfolding walked
  turn_keeps each names w word held none = go w.stopped none
    where
      go : (o : Option (Text × List Text)) → (let met = word_met s.rules names w.is_trailing w.waiting w.position word w.held in
          (if is_some o then [] else or_else (word_fault s names w.is_trailing w.waiting word w.held) (step_fault s w.position met.0 met.1)) ≡ []) → P (walked_from s.rules names o w word).held.rows
      go (Some p) fine = held
      go None fine = stepped_keeps each word w _ _ (met_keeps each names w.is_trailing w.waiting w.position word w.held held (or_else_first _ _ fine)) (or_else_last (word_fault s names w.is_trailing w.waiting word w.held) _ fine)

  walk_keeps : EachKeeps → (names : Names) (w : Walk) (words : List Text) → P w.held.rows → walk_fault s names w words ≡ [] → P (fold (walked s.rules names) w words).held.rows
  unfolding walk_fault
  walk_keeps each names w [] held none = held
  walk_keeps each names w (word ∷ rest) held none =
      walk_keeps each names (walked s.rules names w word) rest (turn_keeps each names w word held (or_else_first _ _ none)) (or_else_last (turn_fault s names w word) _ none)

  -- a level of the parse without a fault keeps P to its end
  pub level_keeps : EachKeeps → (names : Names) (words : List Text) (has : Bool) (below : Kinds) → ((rows : List Row) → P rows → P (fold with_default rows s.rules)) → P [] → level_fault s names nothing_held words has below ≡ []
      → P (rows_after s.rules names words)
  level_keeps each names words has below defaults start none =
      let end = (walk s.rules names nothing_held words).held in
      let past = or_else_last below _ (or_else_last (walk_fault s names (walk_from nothing_held) words) _ none) in
      let held = settled_keeps each end (walk_keeps each names (walk_from nothing_held) words start (or_else_first _ _ none)) (or_else_first _ _ past) in
      defaults (settled s.rules end).rows held
