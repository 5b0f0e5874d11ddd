-- Words in which clap finds no fault name a subcommand of the table, and give what it needs.
use Rattle.std.proofs.Common.{◌≡◌, Bool, true, false, cond, codes, List, [], ◌∷◌, Option, Some, None, is_some, refl, ap}
use Rattle.std.specs.Option.{option_map, option_map_or}
use Rattle.clap.specs.Words.{Row, Shape, Text, fault_of, first_of, subcommand_of}
use Rattle.clap.specs.Faults.{check_fault, entered_fault, level_fault}
use Rattle.clap.specs.Simple.{argument_words, built, entered, label_of, names_of, rows_at}
use Rattle.clap.specs.Walk.{answers_to, nothing_held, rows_after, stop_after}
use Rattle.clap.specs.declared.error.kind.ErrorKind.TheVariants.{MissingSubcommand}
use Rattle.fork_command.specs.Command.{HasServeWords, HasTenantWords, IsCommandMet, ToAdd, ToCheck, ToHash, ToLimit, ToRemove, ToRepack, ToRun, ToServe, ToUpgrade}
use Rattle.fork_command.specs.Table.{add_tenant_app, check_app, hash_object_app, remove_tenant_app, repack_app, run_app, serve_app, set_limit_app, table_app, upgrade_app}
use Rattle.fork_command.proofs.NeededLemmas.{folder_words, level_below, level_last, repack_words, serve_words, standing, tenant_words}

-- the table requires a subcommand
checked : (rows : List Row) (has : Bool) → check_fault (built table_app).top rows has ≡ [] → has ≡ true
unfolding table_app
checked rows true none = refl
checked rows false none = (let bad : MissingSubcommand ∷ [] ≡ [] = none in absurd (cc))

-- a subcommand finds no fault in the words
abbrev Takes : Shape → List Text → Type 0
Takes s words = level_fault s [] nothing_held words false [] ≡ []

-- one of nine subcommands; all but the first two need words
one_of_nine : (w x y z u p q r v : Shape) (words : List Text) → w.name ≡ codes "hash-object" → x.name ≡ codes "run" → y.name ≡ codes "serve" → z.name ≡ codes "check" → u.name ≡ codes "upgrade" → p.name ≡ codes "add-tenant" → q.name ≡ codes "set-limit" → r.name ≡ codes "remove-tenant" → v.name ≡ codes "repack"
    → (Takes y words → HasServeWords (rows_after y.rules [] words)) → (Takes z words → is_some (first_of (codes "dir") (rows_after z.rules [] words)) ≡ true) → (Takes u words → is_some (first_of (codes "dir") (rows_after u.rules [] words)) ≡ true) → (Takes p words → HasTenantWords (rows_after p.rules [] words)) → (Takes q words → HasTenantWords (rows_after q.rules [] words)) → (Takes r words → HasTenantWords (rows_after r.rules [] words)) → (Takes v words → is_some (first_of (codes "dir") (rows_after v.rules [] words)) ≡ true)
    → (a b c d e f g h i : Bool) → (let one = cond a (Some w) (cond b (Some x) (cond c (Some y) (cond d (Some z) (cond e (Some u) (cond f (Some p) (cond g (Some q) (cond h (Some r) (cond i (Some v) None)))))))) in
    is_some (option_map (λ s. rows_at s words) one) ≡ true → option_map_or (λ s. level_fault s [] nothing_held words false []) one [] ≡ [] → IsCommandMet (option_map (λ s. rows_at s words) one))
one_of_nine w x y z u p q r v words is_w is_x is_y is_z is_u is_p is_q is_r is_v needs_y needs_z needs_u needs_p needs_q needs_r needs_v true b c d e f g h i some none = ToHash (rows_after w.rules [] words) (ap (λ (name : Text). Some (name, rows_after w.rules [] words)) is_w)
one_of_nine w x y z u p q r v words is_w is_x is_y is_z is_u is_p is_q is_r is_v needs_y needs_z needs_u needs_p needs_q needs_r needs_v false true c d e f g h i some none = ToRun (rows_after x.rules [] words) (ap (λ (name : Text). Some (name, rows_after x.rules [] words)) is_x)
one_of_nine w x y z u p q r v words is_w is_x is_y is_z is_u is_p is_q is_r is_v needs_y needs_z needs_u needs_p needs_q needs_r needs_v false false true d e f g h i some none = ToServe (rows_after y.rules [] words) (ap (λ (name : Text). Some (name, rows_after y.rules [] words)) is_y) (needs_y none)
one_of_nine w x y z u p q r v words is_w is_x is_y is_z is_u is_p is_q is_r is_v needs_y needs_z needs_u needs_p needs_q needs_r needs_v false false false true e f g h i some none = ToCheck (rows_after z.rules [] words) (ap (λ (name : Text). Some (name, rows_after z.rules [] words)) is_z) (needs_z none)
one_of_nine w x y z u p q r v words is_w is_x is_y is_z is_u is_p is_q is_r is_v needs_y needs_z needs_u needs_p needs_q needs_r needs_v false false false false true f g h i some none = ToUpgrade (rows_after u.rules [] words) (ap (λ (name : Text). Some (name, rows_after u.rules [] words)) is_u) (needs_u none)
one_of_nine w x y z u p q r v words is_w is_x is_y is_z is_u is_p is_q is_r is_v needs_y needs_z needs_u needs_p needs_q needs_r needs_v false false false false false true g h i some none = ToAdd (rows_after p.rules [] words) (ap (λ (name : Text). Some (name, rows_after p.rules [] words)) is_p) (needs_p none)
one_of_nine w x y z u p q r v words is_w is_x is_y is_z is_u is_p is_q is_r is_v needs_y needs_z needs_u needs_p needs_q needs_r needs_v false false false false false false true h i some none = ToLimit (rows_after q.rules [] words) (ap (λ (name : Text). Some (name, rows_after q.rules [] words)) is_q) (needs_q none)
one_of_nine w x y z u p q r v words is_w is_x is_y is_z is_u is_p is_q is_r is_v needs_y needs_z needs_u needs_p needs_q needs_r needs_v false false false false false false false true i some none = ToRemove (rows_after r.rules [] words) (ap (λ (name : Text). Some (name, rows_after r.rules [] words)) is_r) (needs_r none)
one_of_nine w x y z u p q r v words is_w is_x is_y is_z is_u is_p is_q is_r is_v needs_y needs_z needs_u needs_p needs_q needs_r needs_v false false false false false false false false true some none = ToRepack (rows_after v.rules [] words) (ap (λ (name : Text). Some (name, rows_after v.rules [] words)) is_v) (needs_v none)
one_of_nine w x y z u p q r v words is_w is_x is_y is_z is_u is_p is_q is_r is_v needs_y needs_z needs_u needs_p needs_q needs_r needs_v false false false false false false false false false some none = absurd (cc)

-- the table's subcommands
at_stop : (stop : Option (Text × List Text)) → is_some (entered (built table_app) stop) ≡ true → entered_fault (built table_app) stop ≡ [] → IsCommandMet (entered (built table_app) stop)
unfolding table_app
at_stop None some none = absurd (cc)
at_stop (Some p) some none =
    let answers = (λ (s : Shape). answers_to p.0 (label_of s)) in
    one_of_nine (standing hash_object_app) (standing run_app) (standing serve_app) (standing check_app) (standing upgrade_app) (standing add_tenant_app) (standing set_limit_app) (standing remove_tenant_app) (standing repack_app) p.1 refl refl refl refl refl refl refl refl refl
    (serve_words p.1) (folder_words (codes "check") p.1) (folder_words (codes "upgrade") p.1) (tenant_words (codes "add-tenant") p.1) (tenant_words (codes "set-limit") p.1) (tenant_words (codes "remove-tenant") p.1) (repack_words p.1)
    (answers (standing hash_object_app)) (answers (standing run_app)) (answers (standing serve_app)) (answers (standing check_app)) (answers (standing upgrade_app)) (answers (standing add_tenant_app)) (answers (standing set_limit_app)) (answers (standing remove_tenant_app)) (answers (standing repack_app)) some none

-- if clap finds no fault, it met a subcommand of the table
pub met_of : (texts : List Text) → fault_of table_app texts ≡ [] → IsCommandMet (subcommand_of table_app texts)
met_of texts none =
    let a = built table_app in
    let words = argument_words table_app texts in
    let stop = stop_after a.top.rules (names_of a) words in
    let has = is_some (entered a stop) in
    at_stop stop (checked (rows_after a.top.rules (names_of a) words) has (level_last a.top (names_of a) words has (entered_fault a stop) none))
    (level_below a.top (names_of a) words has (entered_fault a stop) none)
