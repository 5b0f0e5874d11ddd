use Rattle.std.proofs.Common.{ap, sym, ◌∙◌}
use Rattle.std.specs.FinMap.{get, get-empty}
use Rattle.std.specs.Option.{option_and_then, option_copied}
use Rattle.git_name.specs.Name.{name_cmp}
use Rattle.object_table.specs.Views.{word_in, words_under}
use Rattle.object_table.proofs.ViewLemmas.{get_words}
use Rattle.object_table.proofs.coming.word_under.Goals as goal

pub returns-in_default : goal.returns-in_default
returns-in_default c = sym (ap (λ ledger. get (words_under c.args.table.now.entries (option_copied ledger)) c.args.name) c.in_default.is ∙ get-empty name_cmp c.args.name)

pub returns-in_default-row : goal.returns-in_default-row
returns-in_default-row c =
    sym (ap (λ ledger. get (words_under c.args.table.now.entries (option_copied ledger)) c.args.name) c.in-Some.is
    ∙ get_words c.args.table.now.entries c.in-Some.ledger.now c.args.name c.invariant.ensures.rows.distinct ∙ ap (option_and_then (word_in c.in-Some.ledger.now)) (sym c.row.ensures ∙ c.in_default-row.is))

pub returns : goal.returns
returns c =
    c.word_of.ensures ∙ sym (ap (λ ledger. get (words_under c.args.table.now.entries (option_copied ledger)) c.args.name) c.in-Some.is
    ∙ get_words c.args.table.now.entries c.in-Some.ledger.now c.args.name c.invariant.ensures.rows.distinct ∙ ap (option_and_then (word_in c.in-Some.ledger.now)) (sym c.in-Some-row.ensures))
