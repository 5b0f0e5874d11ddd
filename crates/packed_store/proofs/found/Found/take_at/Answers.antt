use Rattle.std.proofs.Common.{◌+◌, ℕ, List, IfOk, subst, sym}
use Rattle.std.proofs.lemmas.Result.{on_ok_weaker}
use Rattle.packed_store.specs.Stored.{IsPart}
use Rattle.packed_store.specs.Taking.{Takes, seen_in}
use Rattle.packed_store.proofs.StoredLemmas.{part_behind}
use Rattle.packed_store.proofs.found.Found.take_at.Goals as goal

pub returns-clause-takes : goal.returns-clause-takes
returns-clause-takes c =
    let old = c.args.self.now in
    let new = c.take_first.new.self in
    subst (λ (b : List ℕ). IfOk c.take_first.result (λ size. Takes b c.args.segment (c.args.from + c.args.at) (seen_in old.live.entries old.pending.entries old.is_damaged) (seen_in new.live.entries new.pending.entries new.is_damaged) size))
    c.split_at-parts.ensures.back c.take_first.ensures.takes

pub returns-clause-written : goal.returns-clause-written
returns-clause-written c =
    on_ok_weaker c.take_first.result (λ one files part. one files
    (subst (λ (bytes : List ℕ). IsPart files c.args.segment (c.args.from + c.args.at) bytes) (sym c.split_at-parts.ensures.back) (part_behind files c.args.segment c.args.from c.args.bytes.now c.args.at c.requires.inside part)))
    c.take_first.ensures.written
