use Rattle.std.proofs.Common.{rules, ◌≡◌, ◌≤◌, ℕ, length, subst, take, arith}
use Rattle.sha2.specs.Sha256.{sha256}
use Rattle.packed_store.specs.Reading.{IsTitle}
use Rattle.packed_store.proofs.ReadingLemmas.{begins_object}
use Rattle.packed_store.proofs.RefusalLemmas.{not_object, too_short}
use Rattle.packed_store.proofs.reading.object_of.Goals as goal

pub returns-clause-found : goal.returns-clause-found
returns-clause-found c =
    let long : c.args.title.len ≤ length c.args.rest.now = omega arith in
    let named : c.args.title.name ≡ sha256 (take c.args.title.len c.args.rest.now) = search rules in
    begins_object c.args.title.len c.args.bytes.now c.args.title.name c.args.rest.now
    (subst (λ (k : ℕ). IsTitle c.args.bytes.now k c.args.title.len c.args.title.name c.args.rest.now) c.requires.kind c.requires.title) long named

pub returns-then-rest-len-clause-none : goal.returns-then-rest-len-clause-none
returns-then-rest-len-clause-none c = too_short c.args.bytes.now c.args.title.kind c.args.title.len c.args.title.name c.args.rest.now c.requires.title (omega arith)

pub returns-then-not-is_hash-clause-none : goal.returns-then-not-is_hash-clause-none
returns-then-not-is_hash-clause-none c =
    let differs : c.args.title.name ≡ sha256 (take c.args.title.len c.args.rest.now) → ⊥ = search rules in
    not_object c.args.bytes.now c.args.title.len c.args.title.name c.args.rest.now (subst (λ (k : ℕ). IsTitle c.args.bytes.now k c.args.title.len c.args.title.name c.args.rest.now) c.requires.kind c.requires.title) differs
