use Rattle.std.proofs.Common.{map, List, subst, sym}
use Rattle.std.proofs.lemmas.Result.{err_from_is_err_and}
use Rattle.clap.specs.Words.{Text}
use Rattle.fork_command.specs.Command.{Asks, IsBadType, IsCommandMet}
use Rattle.fork_command.proofs.EnteredLemmas.{met_of}
use Rattle.fork_command.proofs.TableLemmas.{free_as_table, kind_as_table, met_as_table, none_as_table, passes_as_table, refused_as_table, refused_faulty, simple_as_table}
use Rattle.fork_command.proofs.command.command_of.Goals as goal

pub returns-in-Err-clause-err : goal.returns-in-Err-clause-err
returns-in-Err-clause-err c =
    let texts : List Text = map (λ word. word.now) c.args.words.now in
    let same = c.in-Ok.ensures.table in
    c.refusal.ensures.refused _ _ (kind_as_table _ texts c.in-Err.error same (c.in-Err.ensures.kinds (free_as_table _ same)))

pub returns-in-Err-clause-faulty : goal.returns-in-Err-clause-faulty
returns-in-Err-clause-faulty c =
    let texts : List Text = map (λ word. word.now) c.args.words.now in
    c.refusal.ensures.faulty _ _ (passes_as_table _ texts c.in-Err.error c.in-Ok.ensures.table c.in-Err.ensures.passes)

pub asked-requires : goal.asked-requires
asked-requires c =
    let texts : List Text = map (λ word. word.now) c.args.words.now in
    let same = c.in-Ok.ensures.table in
    let parsed = c.in-Ok-try_get_matches_from_mut.ensures in
    let none = none_as_table _ texts same (parsed.kinds (free_as_table _ same)) in
    let met = met_as_table _ texts _ same (parsed.ok.2 (simple_as_table _ same)).1 in
    record { met = subst IsCommandMet (sym met) (met_of texts none) }

pub returns-in_err-command-clause-err : goal.returns-in_err-command-clause-err
returns-in_err-command-clause-err c =
    let texts : List Text = map (λ word. word.now) c.args.words.now in
    let same = c.in-Ok.ensures.table in
    let parsed = c.in-Ok-try_get_matches_from_mut.ensures in
    let none = none_as_table _ texts same (parsed.kinds (free_as_table _ same)) in
    let met = met_as_table _ texts _ same (parsed.ok.2 (simple_as_table _ same)).1 in
    let p = err_from_is_err_and c.from_residual.result c.from_residual.ensures.1 in
    rw (p.1, p.2) (refused_as_table _ _ _ _ none met c.in_err-command.ensures.err)

pub returns-in_err-command-clause-faulty : goal.returns-in_err-command-clause-faulty
returns-in_err-command-clause-faulty c =
    let texts : List Text = map (λ word. word.now) c.args.words.now in
    let same = c.in-Ok.ensures.table in
    let met = met_as_table _ texts _ same (c.in-Ok-try_get_matches_from_mut.ensures.ok.2 (simple_as_table _ same)).1 in
    let p = err_from_is_err_and c.from_residual.result c.from_residual.ensures.1 in
    rw (p.1, p.2) (refused_faulty _ _ _ _ met c.in_err-command.ensures.err)

pub returns-in-Some-clause-ok : goal.returns-in-Some-clause-ok
returns-in-Some-clause-ok c =
    let texts : List Text = map (λ word. word.now) c.args.words.now in
    let same = c.in-Ok.ensures.table in
    let parsed = c.in-Ok-try_get_matches_from_mut.ensures in
    let none = none_as_table _ texts same (parsed.kinds (free_as_table _ same)) in
    let met = met_as_table _ texts _ same (parsed.ok.2 (simple_as_table _ same)).1 in
    (none, subst (λ m. Asks m c.in-Some.command) met (rw c.in-Some.is at c.in_ok-command.ensures.some))

pub returns-clause-err : goal.returns-clause-err
returns-clause-err c =
    let texts : List Text = map (λ word. word.now) c.args.words.now in
    let same = c.in-Ok.ensures.table in
    let parsed = c.in-Ok-try_get_matches_from_mut.ensures in
    let none = none_as_table _ texts same (parsed.kinds (free_as_table _ same)) in
    let met = met_as_table _ texts _ same (parsed.ok.2 (simple_as_table _ same)).1 in
    refused_as_table _ _ _ _ none met (c.bad_type.ensures.refused _ (rw c.in-None.is at c.in_ok-command.ensures.none))

pub returns-clause-faulty : goal.returns-clause-faulty
returns-clause-faulty c =
    let texts : List Text = map (λ word. word.now) c.args.words.now in
    let same = c.in-Ok.ensures.table in
    let met = met_as_table _ texts _ same (c.in-Ok-try_get_matches_from_mut.ensures.ok.2 (simple_as_table _ same)).1 in
    c.bad_type.ensures.faulty _ _ (subst IsBadType met (rw c.in-None.is at c.in_ok-command.ensures.none))
