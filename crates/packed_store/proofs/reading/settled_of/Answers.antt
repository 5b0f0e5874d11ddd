use Rattle.std.proofs.Common.{rules, ◌≡◌, ℕ, subst, arith}
use Rattle.packed_store.specs.Entry.{no_name}
use Rattle.packed_store.specs.Reading.{IsSummed, IsTitle}
use Rattle.packed_store.proofs.ReadingLemmas.{begins_settled}
use Rattle.packed_store.proofs.RefusalLemmas.{not_blank, not_summed}
use Rattle.packed_store.proofs.reading.settled_of.Goals as goal

pub returns-clause-found : goal.returns-clause-found
returns-clause-found c =
    let sum : IsSummed 37 c.args.bytes.now = search rules in
    let zeros : c.args.title.name ≡ no_name = search rules in
    let none : c.args.title.len ≡ 0 = omega (arith, c.if-title-ne0.false) in
    begins_settled c.args.bytes.now c.args.title.name c.args.rest.now
    (subst (λ (n : ℕ). IsTitle c.args.bytes.now 115 n c.args.title.name c.args.rest.now) none
    (subst (λ (k : ℕ). IsTitle c.args.bytes.now k c.args.title.len c.args.title.name c.args.rest.now) c.requires.kind c.requires.title)) zeros sum

pub returns-then-not-is_same-clause-none : goal.returns-then-not-is_same-clause-none
returns-then-not-is_same-clause-none c =
    let differs : c.args.title.name ≡ no_name → ⊥ = search rules in
    not_blank c.args.bytes.now c.args.title.kind c.args.title.len c.args.title.name c.args.rest.now c.requires.title (λ k. let never : ⊥ = omega (arith, k, c.requires.kind) in never) (λ k. let never : ⊥ = omega (arith, k, c.requires.kind) in never)
    (λ k. let never : ⊥ = omega (arith, k, c.requires.kind) in never) (λ k. let never : ⊥ = omega (arith, k, c.requires.kind) in never) differs

pub returns-then-not-is_summed-clause-none : goal.returns-then-not-is_summed-clause-none
returns-then-not-is_summed-clause-none c =
    let differs : IsSummed 37 c.args.bytes.now → ⊥ = search rules in
    not_summed c.args.bytes.now c.args.title.kind c.args.title.len c.args.title.name c.args.rest.now c.requires.title (λ k. let never : ⊥ = omega (arith, k, c.requires.kind) in never) (λ k. let never : ⊥ = omega (arith, k, c.requires.kind) in never)
    (λ k. let never : ⊥ = omega (arith, k, c.requires.kind) in never) differs
