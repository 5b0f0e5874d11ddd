use Rattle.std.proofs.Common.{subst, arith}
use Rattle.std.proofs.lemmas.Result.{on_ok_weaker}
use Rattle.object_table.specs.AllStaged.{AreListed}
use Rattle.object_table.specs.Rows.{places_of}
use Rattle.object_table.specs.declared.entry.Entry.{Entry}
use Rattle.object_table.proofs.holdings.Holdings.stage.Goals as goal

pub returns-clause-listed : goal.returns-clause-listed
returns-clause-listed c =
    let entry : Entry = record { name = c.args.name; kind = c.args.kind; length = c.args.length } in
    on_ok_weaker c.stage_all.result (λ all. subst (AreListed (places_of c.args.self.now.catalogue)) c.as_slice.ensures all 0 entry (omega arith)) c.stage_all.ensures.listed
