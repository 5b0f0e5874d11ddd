-- An argument that is set has a first value, and its parser took it.
use Rattle.std.proofs.Common.{◌≡◌, ◌∙◌, ◌&&◌, length, ◌||◌, not, Bool, true, false, List, [], ◌∷◌, ◌++◌, Option, Some, None, if◌then◌else◌, refl, sym, subst, ap, IfSome}
use Rattle.std.specs.Prelude.{find, fold}
use Rattle.std.specs.List.{list_all}
use Rattle.std.specs.Str.{bytes_eq}
use Rattle.std.proofs.lemmas.Slice.Eq.{bytes_eq-Decides}
use Rattle.clap.specs.Words.{Row, Rule, Shape, Text}
use Rattle.clap.specs.Kinds.{range_kinds}
use Rattle.clap.specs.ValueTests.{accepts}
use Rattle.clap.specs.Facts.{parser_of_value, unwrap_or_range}
use Rattle.clap.specs.Faults.{action_fault, repeat_fault, set_fault, use_fault}
use Rattle.clap.specs.Walk.{action_of, at_row, default_rows, has_row, more_values, most_values, reading_by, used, used_as, with_default, with_values, without}
use Rattle.clap.specs.declared.builder.value_parser.Reading.{Reading}
use Rattle.clap.specs.declared.builder.action.ArgAction.{ArgAction}
use Rattle.clap.specs.declared.builder.action.ArgAction.TheVariants.{Set, Append, SetTrue, SetFalse, Count, Help, HelpShort, HelpLong, Version}
use Rattle.clap.specs.declared.error.kind.ErrorKind.{ErrorKind}
use Rattle.clap.specs.declared.error.kind.ErrorKind.TheVariants.{ArgumentConflict}
use Rattle.clap.specs.declared.parser.matches.ValueSource.{ValueSource}
use Rattle.clap.specs.declared.parser.matches.ValueSource.TheVariants.{CommandLine, DefaultValue}
use Rattle.clap.proofs.SimpleLemmas.{is_false}
use Rattle.clap.proofs.WalkLemmas.{both}
use Rattle.fork_command.proofs.KeptLemmas.{Keeps, or_else_first, or_else_last}

-- the first row of this id
abbrev pub row_at : Text → List Row → Option Row
row_at id rows = find (λ r. bytes_eq r.id id) rows

-- if there is a row of this id, Q holds of it
abbrev pub Holds : Text → (Row → Type 0) → List Row → Type 0
Holds id Q rows = IfSome (row_at id rows) Q

past : (t : Bool) (x y : Option Row) → t ≡ false → (if t then x else y) ≡ y
past true x y none = absurd (cc)
past false x y none = refl

-- a change at one id leaves the row of another
other_row : (id other : Text) (change : Row → List Row) (missing rows : List Row) → bytes_eq id other ≡ false
    → ((r : Row) (rs : List Row) → bytes_eq r.id other ≡ false → row_at other (change r ++ rs) ≡ row_at other rs) → row_at other missing ≡ None
    → row_at other (at_row id change missing rows) ≡ row_at other rows
other_row id other change missing [] apart on none = none
other_row id other change missing (r ∷ rs) apart on none = go (bytes_eq r.id id) refl (other_row id other change missing rs apart on none)
  where
    go : (t : Bool) → bytes_eq r.id id ≡ t → row_at other (at_row id change missing rs) ≡ row_at other rs → row_at other (if t then change r ++ rs else r ∷ at_row id change missing rs) ≡ row_at other (r ∷ rs)
    go true same rest =
        let differs : bytes_eq r.id other ≡ false = ap (λ (t : Text). bytes_eq t other) ((bytes_eq-Decides r.id id).0 same) ∙ apart in
        on r rs differs ∙ ap (λ (t : Bool). if t then Some r else row_at other rs) (sym differs)
    go false same rest = ap (λ (o : Option Row). if bytes_eq r.id other then Some r else o) rest

other_values : (source : ValueSource) (id other : Text) (how : Reading) (values : List Text) (rows : List Row) → bytes_eq id other ≡ false → row_at other (with_values id how source values rows) ≡ row_at other rows
other_values source id other how values rows apart =
    other_row id other (more_values source values) _ rows apart (λ r rs differs. past (bytes_eq r.id other) _ (row_at other rs) differs) (past (bytes_eq id other) _ None apart)

other_without : (id other : Text) (rows : List Row) → bytes_eq id other ≡ false → row_at other (without id rows) ≡ row_at other rows
other_without id other rows apart = other_row id other (λ _. []) [] rows apart (λ r rs differs. refl) refl

other_set : (id other : Text) (how : Reading) (values : List Text) (rows : List Row) → bytes_eq id other ≡ false
    → row_at other (with_values id how CommandLine values (without id rows)) ≡ row_at other rows
other_set id other how values rows apart = other_values CommandLine id other how values (without id rows) apart ∙ other_without id other rows apart

-- the actions of this table: an argument is set, is a flag, is added to, or asks for help
abbrev pub is_of_table : ArgAction → Bool
is_of_table Set = true
is_of_table SetTrue = true
is_of_table Append = true
is_of_table Help = true
is_of_table _ = false

other_used : (x : ArgAction) (id other : Text) (how : Reading) (values : List Text) (rows : List Row) → is_of_table x ≡ true → bytes_eq id other ≡ false
    → row_at other (used_as x id how values rows) ≡ row_at other rows
other_used Set id other how values rows known apart = other_set id other how values rows apart
other_used Append id other how values rows known apart = other_values CommandLine id other how values rows apart
other_used Help id other how values rows known apart = refl
other_used SetTrue id other how values rows known apart = other_set id other how values rows apart
other_used SetFalse id other how values rows known apart = absurd (cc)
other_used Count id other how values rows known apart = absurd (cc)
other_used HelpShort id other how values rows known apart = absurd (cc)
other_used HelpLong id other how values rows known apart = absurd (cc)
other_used Version id other how values rows known apart = absurd (cc)

-- a use of another argument keeps what holds
pub other_keeps : (s : Shape) (a : Rule) (id : Text) (Q : Row → Type 0) → is_of_table (action_of a) ≡ true → bytes_eq a.id id ≡ false → Keeps s (Holds id Q) (Some a)
other_keeps s a id Q known apart = λ values rows held none. subst (λ (o : Option Row). IfSome o Q) (sym (other_used (action_of a) a.id id (reading_by a) _ rows known apart)) held

-- no values
abbrev pub is_none : List Text → Bool
is_none [] = true
is_none (v ∷ vs) = false

-- defaults of other arguments keep it too
one_default : (id : Text) (Q : Row → Type 0) (other : Text) (how : Reading) (values : List Text) (rows : List Row) → (is_none values || not (bytes_eq other id)) ≡ true → Holds id Q rows → Holds id Q (default_rows other how values rows)
one_default id Q other how [] rows fine held = held
one_default id Q other how (v ∷ vs) rows fine held =
    subst (λ (o : Option Row). IfSome o Q) (sym (other_values DefaultValue other id how (v ∷ vs) rows (is_false (bytes_eq other id) fine))) held

pub defaults_keep : (id : Text) (Q : Row → Type 0) (c : List Rule) → list_all (λ a. is_none a.defaults || not (bytes_eq a.id id)) c ≡ true → (rows : List Row) → Holds id Q rows → Holds id Q (fold with_default rows c)
defaults_keep id Q [] all rows held = held
defaults_keep id Q (a ∷ c) all rows held =
    let each = both (is_none a.defaults || not (bytes_eq a.id id)) (list_all (λ b. is_none b.defaults || not (bytes_eq b.id id)) c) all in
    defaults_keep id Q c each.1 (with_default rows a) (go (has_row a.id rows) (one_default id Q a.id (reading_by a) a.defaults rows each.0 held))
  where
    go : (t : Bool) → Holds id Q (default_rows a.id (reading_by a) a.defaults rows) → Holds id Q (if t then rows else default_rows a.id (reading_by a) a.defaults rows)
    go true changed = held
    go false changed = changed

neither : (a b : Bool) → (a || b) ≡ false → (a ≡ false) × (b ≡ false)
neither false b none = (refl, none)
neither true b none = absurd (cc)

without_none : (id : Text) (rows : List Row) → has_row id rows ≡ false → without id rows ≡ rows
without_none id [] none = refl
without_none id (r ∷ rs) none =
    let both = neither (bytes_eq r.id id) (has_row id rs) none in
    ap (λ (t : Bool). if t then rs else r ∷ without id rs) both.0 ∙ ap (λ (rest : List Row). r ∷ rest) (without_none id rs both.1)

new_row : (id : Text) (change : Row → List Row) (missing rows : List Row) → has_row id rows ≡ false → row_at id (at_row id change missing rows) ≡ row_at id missing
new_row id change missing [] none = refl
new_row id change missing (r ∷ rs) none =
    let both = neither (bytes_eq r.id id) (has_row id rs) none in
    ap (λ (t : Bool). row_at id (if t then change r ++ rs else r ∷ at_row id change missing rs)) both.0
    ∙ (ap (λ (t : Bool). if t then Some r else row_at id (at_row id change missing rs)) both.0 ∙ new_row id change missing rs both.1)

not_repeated : (has again : Bool) (kind : ErrorKind) → again ≡ false → (if has && not again then kind ∷ [] else []) ≡ [] → has ≡ false
not_repeated false again kind once none = refl
not_repeated true false kind once none = absurd (cc)
not_repeated true true kind once none = absurd (cc)

taken : (t : Bool) (kind : ErrorKind) → (if t then [] else kind ∷ []) ≡ [] → t ≡ true
taken true kind none = refl
taken false kind none = absurd (cc)

-- the row of an argument that was set to these values
abbrev pub set_row : Rule → List Text → Row
set_row a values = record { id = a.id; values = values; count = None; source = Some CommandLine; reading = reading_by a }

-- the use of an argument that is set once, and takes a value, is what Q says of values that its parser took
pub own_keeps : (s : Shape) (a : Rule) (Q : Row → Type 0) → action_of a ≡ Set → (unwrap_or_range a.range).start_inclusive ≡ 1 → s.args_override_self ≡ false
    → ((v : Text) (vs : List Text) → accepts a.ignore_case (parser_of_value a.parser) v ≡ true → Q (set_row a (v ∷ vs))) → Keeps s (Holds a.id Q) (Some a)
own_keeps s a Q set least once told = λ values. go values
  where
    go : (values : List Text) (rows : List Row) → Holds a.id Q rows → use_fault s.args_override_self a values rows ≡ [] → Holds a.id Q (used a values rows)
    go [] rows held none =
        let few : range_kinds 1 (most_values a) 0 ≡ [] = subst (λ n. range_kinds n (most_values a) 0 ≡ []) least (or_else_first _ _ none) in
        absurd (cc)
    go (v ∷ vs) rows held none =
        let fine : set_fault s.args_override_self a (v ∷ vs) rows ≡ [] = subst (λ (x : ArgAction). action_fault x s.args_override_self a (v ∷ vs) rows ≡ []) set (or_else_last (range_kinds (unwrap_or_range a.range).start_inclusive (most_values a) (length (v ∷ vs))) _ none) in
        let alone : has_row a.id rows ≡ false = not_repeated _ s.args_override_self ArgumentConflict once (or_else_first _ _ fine) in
        let passed : accepts a.ignore_case (parser_of_value a.parser) v ≡ true = taken _ _ (or_else_first _ _ (or_else_last (repeat_fault s.args_override_self a.id rows) _ fine)) in
        let is : row_at a.id (used a (v ∷ vs) rows) ≡ Some (set_row a (v ∷ vs)) =
        ap (λ (x : ArgAction). row_at a.id (used_as x a.id (reading_by a) (v ∷ vs) rows)) set
        ∙ (ap (λ (rs : List Row). row_at a.id (with_values a.id (reading_by a) CommandLine (v ∷ vs) rs)) (without_none a.id rows alone)
        ∙ (new_row a.id (more_values CommandLine (v ∷ vs)) (set_row a (v ∷ vs) ∷ []) rows alone
        ∙ ap (λ (t : Bool). if t then Some (set_row a (v ∷ vs)) else None) ((bytes_eq-Decides a.id a.id).1 refl))) in
        subst (λ (o : Option Row). IfSome o Q) (sym is) (told v vs passed)

-- what each of these arguments keeps
abbrev pub AllKeep : Shape → (List Row → Type 0) → List Rule → Type 0
AllKeep s P [] = Unit {0}
AllKeep s P (a ∷ c) = Keeps s P (Some a) × AllKeep s P c

pub others_keep : (s : Shape) (id : Text) (Q : Row → Type 0) (c : List Rule) → list_all (λ a. is_of_table (action_of a) && not (bytes_eq a.id id)) c ≡ true → AllKeep s (Holds id Q) c
others_keep s id Q [] all = tt
others_keep s id Q (a ∷ c) all =
    let each = both (is_of_table (action_of a) && not (bytes_eq a.id id)) (list_all (λ b. is_of_table (action_of b) && not (bytes_eq b.id id)) c) all in
    let here = both (is_of_table (action_of a)) (not (bytes_eq a.id id)) each.0 in
    (other_keeps s a id Q here.0 (is_false (bytes_eq a.id id) here.1), others_keep s id Q c each.1)

pub found_keeps : (s : Shape) (P : List Row → Type 0) (c : List Rule) → AllKeep s P c → (p : Rule → Bool) → Keeps s P (find p c)
found_keeps s P [] all p = tt
found_keeps s P (a ∷ c) all p = go (p a) (found_keeps s P c all.1 p)
  where
    go : (t : Bool) → Keeps s P (find p c) → Keeps s P (if t then Some a else find p c)
    go true rest = all.0
    go false rest = rest
