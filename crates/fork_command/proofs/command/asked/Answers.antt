use Rattle.std.proofs.Common.{ap, ◌≡◌, ◌∙◌, sym, subst, List, Option, Some, codes, unwrap_or}
use Rattle.std.proofs.lemmas.Result.{err_from_is_err_and}
use Rattle.clap.specs.Words.{Row, Text, subcommand_rows_of, rows_of, found_of}
use Rattle.clap.proofs.WalkLemmas.{first_value-rows}
use Rattle.fork_command.specs.Command.{Asks, BadOfAdd, BadOfLimit, BadOfRemove, BadOfRun, BadOfServe, ToAdd, ToCheck, ToHash, ToLimit, ToRemove, ToRepack, ToRun, ToServe, ToUpgrade}
use Rattle.fork_command.proofs.AskedLemmas.{grant_refused, grants_refused, tenant_refused}
use Rattle.fork_command.proofs.MetLemmas.{add_met, both_halves, check_met, limit_met, none_met, remove_met, repack_met, text_is, upgrade_met}
use Rattle.fork_command.proofs.ServeLemmas.{absent}
use Rattle.fork_command.proofs.command.asked.Goals as goal

pub unreachable-requires : goal.unreachable-requires
unreachable-requires c = elim c.requires.met [
  | ToHash rows is ↦ none_met _ _ _ _ c.in_default.ensures.name is
  | ToRun rows is ↦ none_met _ _ _ _ c.in_default.ensures.name is
  | ToServe rows is words ↦ none_met _ _ _ _ c.in_default.ensures.name is
  | ToCheck rows is some ↦ none_met _ _ _ _ c.in_default.ensures.name is
  | ToUpgrade rows is some ↦ none_met _ _ _ _ c.in_default.ensures.name is
  | ToAdd rows is words ↦ none_met _ _ _ _ c.in_default.ensures.name is
  | ToLimit rows is words ↦ none_met _ _ _ _ c.in_default.ensures.name is
  | ToRemove rows is words ↦ none_met _ _ _ _ c.in_default.ensures.name is
  | ToRepack rows is some ↦ none_met _ _ _ _ c.in_default.ensures.name is
]

pub returns-in_default-kind_given-clause-none : goal.returns-in_default-kind_given-clause-none
returns-in_default-kind_given-clause-none c =
    let name = text_is _ _ _ c.eq.ensures c.if-eq.true in
    let met : subcommand_rows_of c.args.matches.now ≡ Some (c.in-Some.name.now, rows_of (found_of c.in-Some.matches.now)) = both_halves _ _ _ _ _ c.in-Some.ensures.name c.in-Some.ensures.rows in
    let given = ap (λ (o : Option Text). unwrap_or o (codes "blob")) (c.get_str.ensures ∙ first_value-rows (found_of c.in-Some.matches.now) (codes "type")) in
    (_, met ∙ ap (λ (t : Text). Some (t, rows_of (found_of c.in-Some.matches.now))) name, λ kind is. c.in_default-kind_given.ensures.none kind (given ∙ is))

pub returns-then-eq-clause-some : goal.returns-then-eq-clause-some
returns-then-eq-clause-some c =
    let name = text_is _ _ _ c.eq.ensures c.if-eq.true in
    let met : subcommand_rows_of c.args.matches.now ≡ Some (c.in-Some.name.now, rows_of (found_of c.in-Some.matches.now)) = both_halves _ _ _ _ _ c.in-Some.ensures.name c.in-Some.ensures.rows in
    let given = ap (λ (o : Option Text). unwrap_or o (codes "blob")) (c.get_str.ensures ∙ first_value-rows (found_of c.in-Some.matches.now) (codes "type")) in
    (_, met ∙ ap (λ (t : Text). Some (t, rows_of (found_of c.in-Some.matches.now))) name, sym given ∙ c.in-Some-kind_given.ensures.found)

pub returns-in_err-hosting-clause-err : goal.returns-in_err-hosting-clause-err
returns-in_err-hosting-clause-err c =
    let name = text_is _ _ _ c.eq-2.ensures c.if-eq-2.true in
    let met : subcommand_rows_of c.args.matches.now ≡ Some (c.in-Some.name.now, rows_of (found_of c.in-Some.matches.now)) = both_halves _ _ _ _ _ c.in-Some.ensures.name c.in-Some.ensures.rows in
    let here = met ∙ ap (λ (t : Text). Some (t, rows_of (found_of c.in-Some.matches.now))) name in
    let told = err_from_is_err_and c.from_residual.result c.from_residual.ensures.1 in
    rw (told.1, told.2) (grants_refused _ _ _ (λ word bad. BadOfRun _ here bad) c.in_err-hosting.ensures.err)

pub returns-in_err-command-clause-err : goal.returns-in_err-command-clause-err
returns-in_err-command-clause-err c =
    let name = text_is _ _ _ c.eq-3.ensures c.if-eq-3.true in
    let met : subcommand_rows_of c.args.matches.now ≡ Some (c.in-Some.name.now, rows_of (found_of c.in-Some.matches.now)) = both_halves _ _ _ _ _ c.in-Some.ensures.name c.in-Some.ensures.rows in
    let here = met ∙ ap (λ (t : Text). Some (t, rows_of (found_of c.in-Some.matches.now))) name in
    let told = err_from_is_err_and c.from_residual-in_err-command.result c.from_residual-in_err-command.ensures.1 in
    rw (told.1, told.2) (grants_refused _ _ _ (λ word bad. BadOfServe _ here bad) c.in_err-command.ensures.err)

pub unreachable-requires-in_default-get_str : goal.unreachable-requires-in_default-get_str
unreachable-requires-in_default-get_str c =
    let name = text_is _ _ _ c.eq-4.ensures c.if-eq-4.true in
    let met : subcommand_rows_of c.args.matches.now ≡ Some (c.in-Some.name.now, rows_of (found_of c.in-Some.matches.now)) = both_halves _ _ _ _ _ c.in-Some.ensures.name c.in-Some.ensures.rows in
    let some = check_met _ _ c.requires.met (met ∙ ap (λ (t : Text). Some (t, rows_of (found_of c.in-Some.matches.now))) name) in
    absent _ (c.in_default-get_str.ensures ∙ first_value-rows (found_of c.in-Some.matches.now) (codes "dir")) some

pub returns-then-eq-4-clause-some : goal.returns-then-eq-4-clause-some
returns-then-eq-4-clause-some c =
    let name = text_is _ _ _ c.eq-4.ensures c.if-eq-4.true in
    let met : subcommand_rows_of c.args.matches.now ≡ Some (c.in-Some.name.now, rows_of (found_of c.in-Some.matches.now)) = both_halves _ _ _ _ _ c.in-Some.ensures.name c.in-Some.ensures.rows in (
      rows_of (found_of c.in-Some.matches.now),
      met ∙ ap (λ (t : Text). Some (t, rows_of (found_of c.in-Some.matches.now))) name,
      sym (c.in-Some-get_str.ensures ∙ first_value-rows (found_of c.in-Some.matches.now) (codes "dir")),
    )

pub unreachable-requires-in_default-get_str-2 : goal.unreachable-requires-in_default-get_str-2
unreachable-requires-in_default-get_str-2 c =
    let name = text_is _ _ _ c.eq-5.ensures c.if-eq-5.true in
    let met : subcommand_rows_of c.args.matches.now ≡ Some (c.in-Some.name.now, rows_of (found_of c.in-Some.matches.now)) = both_halves _ _ _ _ _ c.in-Some.ensures.name c.in-Some.ensures.rows in
    let some = upgrade_met _ _ c.requires.met (met ∙ ap (λ (t : Text). Some (t, rows_of (found_of c.in-Some.matches.now))) name) in
    absent _ (c.in_default-get_str-2.ensures ∙ first_value-rows (found_of c.in-Some.matches.now) (codes "dir")) some

pub returns-then-eq-5-clause-some : goal.returns-then-eq-5-clause-some
returns-then-eq-5-clause-some c =
    let name = text_is _ _ _ c.eq-5.ensures c.if-eq-5.true in
    let met : subcommand_rows_of c.args.matches.now ≡ Some (c.in-Some.name.now, rows_of (found_of c.in-Some.matches.now)) = both_halves _ _ _ _ _ c.in-Some.ensures.name c.in-Some.ensures.rows in (
      rows_of (found_of c.in-Some.matches.now),
      met ∙ ap (λ (t : Text). Some (t, rows_of (found_of c.in-Some.matches.now))) name,
      sym (c.in-Some-get_str-2.ensures ∙ first_value-rows (found_of c.in-Some.matches.now) (codes "dir")),
    )

pub granted-requires : goal.granted-requires
granted-requires c =
    let name = text_is _ _ _ c.eq-6.ensures c.if-eq-6.true in
    let met : subcommand_rows_of c.args.matches.now ≡ Some (c.in-Some.name.now, rows_of (found_of c.in-Some.matches.now)) = both_halves _ _ _ _ _ c.in-Some.ensures.name c.in-Some.ensures.rows in
    let here = met ∙ ap (λ (t : Text). Some (t, rows_of (found_of c.in-Some.matches.now))) name in
    record { words = add_met _ _ c.requires.met here }

pub returns-in_err-dir-clause-err : goal.returns-in_err-dir-clause-err
returns-in_err-dir-clause-err c =
    let name = text_is _ _ _ c.eq-6.ensures c.if-eq-6.true in
    let met : subcommand_rows_of c.args.matches.now ≡ Some (c.in-Some.name.now, rows_of (found_of c.in-Some.matches.now)) = both_halves _ _ _ _ _ c.in-Some.ensures.name c.in-Some.ensures.rows in
    let here = met ∙ ap (λ (t : Text). Some (t, rows_of (found_of c.in-Some.matches.now))) name in
    let told = err_from_is_err_and c.from_residual-in_err-dir.result c.from_residual-in_err-dir.ensures.1 in
    rw (told.1, told.2) (grant_refused _ (rows_of (found_of c.in-Some.matches.now)) _ (λ word bad. BadOfAdd _ here bad) c.in_err-dir.ensures.err)

pub returns-then-eq-6-clause-some : goal.returns-then-eq-6-clause-some
returns-then-eq-6-clause-some c =
    let name = text_is _ _ _ c.eq-6.ensures c.if-eq-6.true in
    let met : subcommand_rows_of c.args.matches.now ≡ Some (c.in-Some.name.now, rows_of (found_of c.in-Some.matches.now)) = both_halves _ _ _ _ _ c.in-Some.ensures.name c.in-Some.ensures.rows in
    let here = met ∙ ap (λ (t : Text). Some (t, rows_of (found_of c.in-Some.matches.now))) name in
    ((rows_of (found_of c.in-Some.matches.now), here, c.in_ok-dir.ensures.dir, c.in_ok-dir.ensures.word), c.in_ok-dir.ensures.right)

pub granted-requires-then-eq-7 : goal.granted-requires-then-eq-7
granted-requires-then-eq-7 c =
    let name = text_is _ _ _ c.eq-7.ensures c.if-eq-7.true in
    let met : subcommand_rows_of c.args.matches.now ≡ Some (c.in-Some.name.now, rows_of (found_of c.in-Some.matches.now)) = both_halves _ _ _ _ _ c.in-Some.ensures.name c.in-Some.ensures.rows in
    let here = met ∙ ap (λ (t : Text). Some (t, rows_of (found_of c.in-Some.matches.now))) name in
    record { words = limit_met _ _ c.requires.met here }

pub returns-in_err-dir-2-clause-err : goal.returns-in_err-dir-2-clause-err
returns-in_err-dir-2-clause-err c =
    let name = text_is _ _ _ c.eq-7.ensures c.if-eq-7.true in
    let met : subcommand_rows_of c.args.matches.now ≡ Some (c.in-Some.name.now, rows_of (found_of c.in-Some.matches.now)) = both_halves _ _ _ _ _ c.in-Some.ensures.name c.in-Some.ensures.rows in
    let here = met ∙ ap (λ (t : Text). Some (t, rows_of (found_of c.in-Some.matches.now))) name in
    let told = err_from_is_err_and c.from_residual-in_err-dir-2.result c.from_residual-in_err-dir-2.ensures.1 in
    rw (told.1, told.2) (grant_refused _ (rows_of (found_of c.in-Some.matches.now)) _ (λ word bad. BadOfLimit _ here bad) c.in_err-dir-2.ensures.err)

pub returns-then-eq-7-clause-some : goal.returns-then-eq-7-clause-some
returns-then-eq-7-clause-some c =
    let name = text_is _ _ _ c.eq-7.ensures c.if-eq-7.true in
    let met : subcommand_rows_of c.args.matches.now ≡ Some (c.in-Some.name.now, rows_of (found_of c.in-Some.matches.now)) = both_halves _ _ _ _ _ c.in-Some.ensures.name c.in-Some.ensures.rows in
    let here = met ∙ ap (λ (t : Text). Some (t, rows_of (found_of c.in-Some.matches.now))) name in
    ((rows_of (found_of c.in-Some.matches.now), here, c.in_ok-dir-2.ensures.dir, c.in_ok-dir-2.ensures.word), c.in_ok-dir-2.ensures.right)

pub named-requires : goal.named-requires
named-requires c =
    let name = text_is _ _ _ c.eq-8.ensures c.if-eq-8.true in
    let met : subcommand_rows_of c.args.matches.now ≡ Some (c.in-Some.name.now, rows_of (found_of c.in-Some.matches.now)) = both_halves _ _ _ _ _ c.in-Some.ensures.name c.in-Some.ensures.rows in
    let here = met ∙ ap (λ (t : Text). Some (t, rows_of (found_of c.in-Some.matches.now))) name in
    record { words = remove_met _ _ c.requires.met here }

pub returns-in_err-dir-3-clause-err : goal.returns-in_err-dir-3-clause-err
returns-in_err-dir-3-clause-err c =
    let name = text_is _ _ _ c.eq-8.ensures c.if-eq-8.true in
    let met : subcommand_rows_of c.args.matches.now ≡ Some (c.in-Some.name.now, rows_of (found_of c.in-Some.matches.now)) = both_halves _ _ _ _ _ c.in-Some.ensures.name c.in-Some.ensures.rows in
    let here = met ∙ ap (λ (t : Text). Some (t, rows_of (found_of c.in-Some.matches.now))) name in
    let told = err_from_is_err_and c.from_residual-in_err-dir-3.result c.from_residual-in_err-dir-3.ensures.1 in
    rw (told.1, told.2) (tenant_refused _ (rows_of (found_of c.in-Some.matches.now)) _ (λ word bad. BadOfRemove _ here bad) c.in_err-dir-3.ensures.err)

pub returns-then-eq-8-clause-some : goal.returns-then-eq-8-clause-some
returns-then-eq-8-clause-some c =
    let name = text_is _ _ _ c.eq-8.ensures c.if-eq-8.true in
    let met : subcommand_rows_of c.args.matches.now ≡ Some (c.in-Some.name.now, rows_of (found_of c.in-Some.matches.now)) = both_halves _ _ _ _ _ c.in-Some.ensures.name c.in-Some.ensures.rows in
    let here = met ∙ ap (λ (t : Text). Some (t, rows_of (found_of c.in-Some.matches.now))) name in
    ((rows_of (found_of c.in-Some.matches.now), here, c.in_ok-dir-3.ensures.dir, c.in_ok-dir-3.ensures.word), c.in_ok-dir-3.ensures.right)

pub repacking-requires : goal.repacking-requires
repacking-requires c =
    let name = text_is _ _ _ c.eq-9.ensures c.if-eq-9.true in
    let met : subcommand_rows_of c.args.matches.now ≡ Some (c.in-Some.name.now, rows_of (found_of c.in-Some.matches.now)) = both_halves _ _ _ _ _ c.in-Some.ensures.name c.in-Some.ensures.rows in
    let here = met ∙ ap (λ (t : Text). Some (t, rows_of (found_of c.in-Some.matches.now))) name in
    record { dir = repack_met _ _ c.requires.met here }

pub returns-then-eq-9-clause-some : goal.returns-then-eq-9-clause-some
returns-then-eq-9-clause-some c =
    let name = text_is _ _ _ c.eq-9.ensures c.if-eq-9.true in
    let met : subcommand_rows_of c.args.matches.now ≡ Some (c.in-Some.name.now, rows_of (found_of c.in-Some.matches.now)) = both_halves _ _ _ _ _ c.in-Some.ensures.name c.in-Some.ensures.rows in
    let here = met ∙ ap (λ (t : Text). Some (t, rows_of (found_of c.in-Some.matches.now))) name in
    subst (λ (m : Option (Text × List Row)). Asks m c.repacking.result) (sym here) c.repacking.ensures
