use Rattle.std.proofs.Common.{rules, ◌≡◌, ℕ, subst, arith}
use Rattle.packed_store.specs.Reading.{IsSummed, IsTitle}
use Rattle.packed_store.proofs.ReadingLemmas.{begins_removal}
use Rattle.packed_store.proofs.RefusalLemmas.{not_summed}
use Rattle.packed_store.proofs.reading.removal_of.Goals as goal

pub returns-clause-found : goal.returns-clause-found
returns-clause-found c =
    let sum : IsSummed 37 c.args.bytes.now = search rules in
    let none : c.args.title.len ≡ 0 = omega (arith, c.if-title-ne0.false) in
    begins_removal c.args.bytes.now c.args.title.name c.args.rest.now
    (subst (λ (n : ℕ). IsTitle c.args.bytes.now 114 n c.args.title.name c.args.rest.now) none
    (subst (λ (k : ℕ). IsTitle c.args.bytes.now k c.args.title.len c.args.title.name c.args.rest.now) c.requires.kind c.requires.title)) sum

pub returns-then-not-is_summed-clause-none : goal.returns-then-not-is_summed-clause-none
returns-then-not-is_summed-clause-none c =
    let differs : IsSummed 37 c.args.bytes.now → ⊥ = search rules in
    not_summed c.args.bytes.now c.args.title.kind c.args.title.len c.args.title.name c.args.rest.now c.requires.title (λ k. let never : ⊥ = omega (arith, k, c.requires.kind) in never) (λ k. let never : ⊥ = omega (arith, k, c.requires.kind) in never)
    (λ k. let never : ⊥ = omega (arith, k, c.requires.kind) in never) differs
