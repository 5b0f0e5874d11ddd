use Rattle.std.proofs.Common.{◌+◌, ◌∷◌, ap, drop, subst, sym, ◌∙◌, arith}
use Rattle.std.proofs.lemmas.List.{drop_more}
use Rattle.object_table.specs.AllStaged.{all_staged_words}
use Rattle.object_table.specs.declared.entry.Entry.{Entry}
use Rattle.object_table.specs.Views.{HasRoom, words_of}
use Rattle.object_table.proofs.StepLemmas.{moves_then, room_still, row_still}
use Rattle.object_table.proofs.staging.stage_entries.Goals as goal

pub stage_one-requires-clause-room : goal.stage_one-requires-clause-room
stage_one-requires-clause-room c =
    subst (λ (e : Entry). HasRoom c.loop-entry.table.entries c.loop-entry.own e.name) (sym c.entry-item.is) (c.loop-entry.invariant.room c.loop-entry.entry-index c.entry-item.result (omega arith))

pub loop-entry-preserved : goal.loop-entry-preserved
loop-entry-preserved c =
    let entries = c.args.entries.now in
    let at = c.loop-entry.entry-index in
    let entry = c.entry-item.result in
    let was = c.loop-entry.invariant in
    let now = words_of c.loop-entry.table.entries c.loop-entry.own in
    let step = c.stage_one.ensures in
    record {
      words = ap (all_staged_words (drop (at + 1) entries)) step.words
          ∙ ap (λ es. all_staged_words es now) (sym (drop_more entries at entry (omega arith) ∙ ap (λ e. e ∷ drop (at + 1) entries) (sym c.entry-item.is))) ∙ was.words;
      moves = moves_then c.args.table.now c.loop-entry.table c.stage_one.new.table c.args.own.now c.loop-entry.own c.stage_one.new.own was.moves step.moves;
      one = step.one;
      rows = λ k d small. row_still c.loop-entry.table.entries c.stage_one.new.table.entries _ step.moves.told (was.rows k d small);
      room = λ k d small. room_still c.loop-entry.table.entries c.stage_one.new.table.entries c.loop-entry.own c.stage_one.new.own _ step.moves.told step.room step.waits (was.room k d small);
    }
