use Rattle.std.proofs.Common.{rules, ◌+◌, ℕ, subst}
use Rattle.packed_store.specs.Reading.{IsSummed, IsTitle}
use Rattle.packed_store.proofs.ReadingLemmas.{begins_file}
use Rattle.packed_store.proofs.RefusalLemmas.{not_file}
use Rattle.packed_store.proofs.reading.file_of.Goals as goal

pub returns-clause-found : goal.returns-clause-found
returns-clause-found c =
    let sum : IsSummed (37 + c.args.title.len) c.args.bytes.now = search rules in
    begins_file c.args.title.len c.args.bytes.now c.args.title.name c.args.rest.now
    (subst (λ (k : ℕ). IsTitle c.args.bytes.now k c.args.title.len c.args.title.name c.args.rest.now) c.requires.kind c.requires.title) sum

pub returns-then-not-is_summed-clause-none : goal.returns-then-not-is_summed-clause-none
returns-then-not-is_summed-clause-none c =
    let differs : IsSummed (37 + c.args.title.len) c.args.bytes.now → ⊥ = search rules in
    not_file c.args.bytes.now c.args.title.len c.args.title.name c.args.rest.now (subst (λ (k : ℕ). IsTitle c.args.bytes.now k c.args.title.len c.args.title.name c.args.rest.now) c.requires.kind c.requires.title) differs
