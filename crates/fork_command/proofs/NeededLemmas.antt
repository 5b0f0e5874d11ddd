-- Words in which `clap` finds no fault give each subcommand what it needs.
use Rattle.std.proofs.Common.{◌≡◌, ◌||◌, not, Bool, true, false, List, [], drop, Option, Some, None, is_some, codes, refl, sym, subst, IfSome, slice_get, pos}
use Rattle.std.specs.Option.{option_and_then, option_map_or}
use Rattle.clap.specs.Words.{App, IsSignedIn, Kinds, Row, Rule, Shape, Text, built, first_of, without_minus}
use Rattle.clap.specs.Facts.{explicit_source}
use Rattle.clap.specs.Faults.{check_fault, defaults_fault, level_fault, settle_fault, walk_fault}
use Rattle.clap.specs.Kinds.{check_kinds}
use Rattle.clap.specs.Simple.{built_leaf, filled, inherited, with_index}
use Rattle.clap.specs.Takes.{is_given}
use Rattle.clap.specs.Walk.{Names, nothing_held, row_text, rows_after, settled, walk, walk_from}
use Rattle.clap.specs.declared.builder.value_parser.ValueParser.TheVariants.{Signed}
use Rattle.clap.proofs.ValueTestLemmas.{accepts-Accepts}
use Rattle.fork_command.specs.Command.{HasServeWords, HasTenantWords, IsPlaces}
use Rattle.fork_command.specs.Table.{at_once_rule, connections_rule, folder_app, needed_rule, repack_app, serve_app, table_app, tenant_app, word_rule}
use Rattle.fork_command.proofs.GivenLemmas.{Holds, defaults_keep, found_keeps, other_keeps, others_keep, own_keeps, row_at}
use Rattle.fork_command.proofs.KeptLemmas.{EachKeeps, level_keeps, or_else_first, or_else_last}

-- the subcommand as it is in the table
abbrev pub standing : App → Shape
standing a = built_leaf (inherited (built table_app).top a.top)

-- a level without a fault passes the last checks
pub level_last : (s : Shape) (names : Names) (words : List Text) (has : Bool) (below : Kinds) → level_fault s names nothing_held words has below ≡ [] → check_fault s (rows_after s.rules names words) has ≡ []
level_last s names words has below none =
    let end = (walk s.rules names nothing_held words).held in
    or_else_last (defaults_fault (settled s.rules end).rows s.rules) _
    (or_else_last (settle_fault s.rules s.args_override_self end) _ (or_else_last below _ (or_else_last (walk_fault s names (walk_from nothing_held) words) _ none)))

-- and so does the level below it
pub level_below : (s : Shape) (names : Names) (words : List Text) (has : Bool) (below : Kinds) → level_fault s names nothing_held words has below ≡ [] → below ≡ []
level_below s names words has below none = or_else_first _ _ (or_else_last (walk_fault s names (walk_from nothing_held) words) _ none)

-- a row with a first value
abbrev pub HasValue : Row → Type 0
HasValue row = is_some (slice_get row.values 0) ≡ true

-- a row whose first value is a number from 1 to 1,000,000
abbrev pub HasNumber : Row → Type 0
HasNumber row = (text : Text) × (row_text row ≡ Some (without_minus text)) × IsSignedIn (pos 1) (pos 1000000) text

-- a row whose first value is a number from 1 to 256
abbrev pub HasPlaces : Row → Type 0
HasPlaces row = (text : Text) × (row_text row ≡ Some (without_minus text)) × IsSignedIn (pos 1) (pos 256) text

value_given : (o : Option Row) → option_map_or (λ r. explicit_source r.source) o false ≡ true → IfSome o HasValue → is_some (option_and_then (λ r. slice_get r.values 0) o) ≡ true
value_given None given held = absurd (cc)
value_given (Some row) given held = held

number_there : (o : Option Row) → option_map_or (λ r. explicit_source r.source) o false ≡ true → IfSome o HasNumber
    → (text : Text) × (option_and_then row_text o ≡ Some (without_minus text)) × IsSignedIn (pos 1) (pos 1000000) text
number_there None given held = absurd (cc)
number_there (Some row) given held = held

places_there : (o : Option Row) → IfSome o HasPlaces → IfSome (option_and_then row_text o) IsPlaces
places_there None held = tt
places_there (Some row) held = subst (λ (o : Option Text). IfSome o IsPlaces) (sym held.1) (held.0, refl, held.2)

two_given : (g h : Bool) → check_kinds false false (not g || (not h || false)) ≡ [] → (g ≡ true) × (h ≡ true)
two_given true true none = (refl, refl)
two_given true false none = absurd (cc)
two_given false h none = absurd (cc)

one_given : (g : Bool) → check_kinds false false (not g || false) ≡ [] → g ≡ true
one_given true none = refl
one_given false none = absurd (cc)

-- options as they are in the table
abbrev socket_built : Rule
socket_built = with_index 1 (filled (needed_rule (codes "socket")))

abbrev connections_built : Rule
connections_built = with_index 1 (filled connections_rule)

abbrev at_once_built : Rule
at_once_built = with_index 1 (filled at_once_rule)

abbrev dir_built : Rule
dir_built = with_index 1 (filled (needed_rule (codes "dir")))

abbrev tenant_built : Rule
tenant_built = with_index 1 (filled (word_rule (codes "tenant")))

socket_kept : EachKeeps (standing serve_app) (Holds (codes "socket") HasValue)
unfolding table_app
socket_kept =
    let s = standing serve_app in
    found_keeps s (Holds (codes "socket") HasValue) s.rules (own_keeps s socket_built HasValue refl refl refl (λ v vs passed. refl), others_keep s (codes "socket") HasValue (drop 1 s.rules) refl)

connections_kept : EachKeeps (standing serve_app) (Holds (codes "connections") HasNumber)
unfolding table_app
connections_kept =
    let s = standing serve_app in
    found_keeps s (Holds (codes "connections") HasNumber) s.rules (
      other_keeps s socket_built (codes "connections") HasNumber refl refl,
      (
        own_keeps s connections_built HasNumber refl refl refl (λ v vs passed. (v, refl, accepts-Accepts false (Signed (pos 1) (pos 1000000)) v passed)),
        others_keep s (codes "connections") HasNumber (drop 2 s.rules) refl,
      ),
    )

at_once_kept : EachKeeps (standing serve_app) (Holds (codes "at-once") HasPlaces)
unfolding table_app
at_once_kept =
    let s = standing serve_app in
    found_keeps s (Holds (codes "at-once") HasPlaces) s.rules (
      other_keeps s socket_built (codes "at-once") HasPlaces refl refl,
      (
        other_keeps s connections_built (codes "at-once") HasPlaces refl refl,
        (
          own_keeps s at_once_built HasPlaces refl refl refl (λ v vs passed. (v, refl, accepts-Accepts false (Signed (pos 1) (pos 256)) v passed)),
          others_keep s (codes "at-once") HasPlaces (drop 3 s.rules) refl,
        ),
      ),
    )

dir_kept : (name : Text) → EachKeeps (standing (folder_app name)) (Holds (codes "dir") HasValue)
unfolding table_app
dir_kept name =
    let s = standing (folder_app name) in
    found_keeps s (Holds (codes "dir") HasValue) s.rules (own_keeps s dir_built HasValue refl refl refl (λ v vs passed. refl), others_keep s (codes "dir") HasValue (drop 1 s.rules) refl)

pub serve_words : (words : List Text) → level_fault (standing serve_app) [] nothing_held words false [] ≡ [] → HasServeWords (rows_after (standing serve_app).rules [] words)
unfolding table_app
serve_words words none =
    let s = standing serve_app in
    let rows = rows_after s.rules [] words in
    let given = two_given (is_given (codes "socket") rows) (is_given (codes "connections") rows) (level_last s [] words false [] none) in
    let number = number_there (row_at (codes "connections") rows) given.1 (level_keeps s (Holds (codes "connections") HasNumber) connections_kept [] words false [] (defaults_keep (codes "connections") HasNumber s.rules refl) tt none) in
    record {
      socket = value_given (row_at (codes "socket") rows) given.0 (level_keeps s (Holds (codes "socket") HasValue) socket_kept [] words false [] (defaults_keep (codes "socket") HasValue s.rules refl) tt none);
      text = number.0;
      connections = number.1;
      number = number.2;
      at_once = places_there (row_at (codes "at-once") rows) (level_keeps s (Holds (codes "at-once") HasPlaces) at_once_kept [] words false [] (defaults_keep (codes "at-once") HasPlaces s.rules refl) tt none);
    }

pub folder_words : (name : Text) (words : List Text) → level_fault (standing (folder_app name)) [] nothing_held words false [] ≡ [] → is_some (first_of (codes "dir") (rows_after (standing (folder_app name)).rules [] words)) ≡ true
unfolding table_app
folder_words name words none =
    let s = standing (folder_app name) in
    let rows = rows_after s.rules [] words in
    value_given (row_at (codes "dir") rows) (one_given (is_given (codes "dir") rows) (level_last s [] words false [] none)) (level_keeps s (Holds (codes "dir") HasValue) (dir_kept name) [] words false [] (defaults_keep (codes "dir") HasValue s.rules refl) tt none)

tenant_dir_kept : (name : Text) → EachKeeps (standing (tenant_app name)) (Holds (codes "dir") HasValue)
unfolding table_app
tenant_dir_kept name =
    let s = standing (tenant_app name) in
    found_keeps s (Holds (codes "dir") HasValue) s.rules (own_keeps s dir_built HasValue refl refl refl (λ v vs passed. refl), others_keep s (codes "dir") HasValue (drop 1 s.rules) refl)

tenant_kept : (name : Text) → EachKeeps (standing (tenant_app name)) (Holds (codes "tenant") HasValue)
unfolding table_app
tenant_kept name =
    let s = standing (tenant_app name) in
    found_keeps s (Holds (codes "tenant") HasValue) s.rules (
      other_keeps s dir_built (codes "tenant") HasValue refl refl,
      (own_keeps s tenant_built HasValue refl refl refl (λ v vs passed. refl), others_keep s (codes "tenant") HasValue (drop 2 s.rules) refl),
    )

pub tenant_words : (name : Text) (words : List Text) → level_fault (standing (tenant_app name)) [] nothing_held words false [] ≡ [] → HasTenantWords (rows_after (standing (tenant_app name)).rules [] words)
unfolding table_app
tenant_words name words none =
    let s = standing (tenant_app name) in
    let rows = rows_after s.rules [] words in
    let given = two_given (is_given (codes "dir") rows) (is_given (codes "tenant") rows) (level_last s [] words false [] none) in
    record {
      dir = value_given (row_at (codes "dir") rows) given.0 (level_keeps s (Holds (codes "dir") HasValue) (tenant_dir_kept name) [] words false [] (defaults_keep (codes "dir") HasValue s.rules refl) tt none);
      tenant = value_given (row_at (codes "tenant") rows) given.1 (level_keeps s (Holds (codes "tenant") HasValue) (tenant_kept name) [] words false [] (defaults_keep (codes "tenant") HasValue s.rules refl) tt none);
    }

repack_dir_kept : EachKeeps (standing repack_app) (Holds (codes "dir") HasValue)
unfolding table_app
repack_dir_kept =
    let s = standing repack_app in
    found_keeps s (Holds (codes "dir") HasValue) s.rules (own_keeps s dir_built HasValue refl refl refl (λ v vs passed. refl), others_keep s (codes "dir") HasValue (drop 1 s.rules) refl)

pub repack_words : (words : List Text) → level_fault (standing repack_app) [] nothing_held words false [] ≡ [] → is_some (first_of (codes "dir") (rows_after (standing repack_app).rules [] words)) ≡ true
unfolding table_app
repack_words words none =
    let s = standing repack_app in
    let rows = rows_after s.rules [] words in
    value_given (row_at (codes "dir") rows) (one_given (is_given (codes "dir") rows) (level_last s [] words false [] none)) (level_keeps s (Holds (codes "dir") HasValue) repack_dir_kept [] words false [] (defaults_keep (codes "dir") HasValue s.rules refl) tt none)
