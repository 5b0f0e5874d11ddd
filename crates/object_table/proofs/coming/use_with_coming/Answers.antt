use Rattle.std.proofs.Common.{ap, subst, sym, ◌+◌, ◌∙◌}
use Rattle.std.specs.Prelude.{sum_by}
use Rattle.std.specs.Option.{option_copied, option_map_or}
use Rattle.object_table.specs.Coming.{coming_at, coming_in, use_of_entry}
use Rattle.object_table.specs.Views.{words_under}
use Rattle.object_table.proofs.AdoptLemmas.{coming_more}
use Rattle.object_table.proofs.CappedLemmas.{CountsTo, counts_more}
use Rattle.object_table.proofs.coming.use_with_coming.Goals as goal

pub loop-name-preserved : goal.loop-name-preserved
loop-name-preserved c = λ before is.
    let shown = words_under c.args.table.now.entries (option_copied c.args.shown) in
    let own = words_under c.args.table.now.entries (option_copied c.args.own) in
    let name = c.in-Some.name.now in
    subst (CountsTo _ _) (sym c.saturating_add-total.ensures)
    (counts_more _ _ _ c.loop-name.total c.coming_size.result
    (ap (λ names. sum_by use_of_entry (coming_in shown own names)) c.in-Some.ensures.steps ∙ coming_more shown own name c.next.new.self
    ∙ ap (λ n. n + sum_by use_of_entry (coming_in shown own c.next.new.self))
    ((λ i. option_map_or use_of_entry (coming_at name (sym c.word_under-comes.ensures i) (sym c.word_under-word.ensures i)) 0) ∙ sym c.coming_size.ensures))
    (c.loop-name.invariant before is))
