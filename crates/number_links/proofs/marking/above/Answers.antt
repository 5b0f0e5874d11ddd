use Rattle.std.proofs.Common.{◌≡◌, ◌<◌, ◌≤◌, ◌∙◌, All, arith, get_or, inl, inr, subst, take}
use Rattle.std.proofs.lemmas.List.{take_all}
use Rattle.std.proofs.lemmas.List.Elements.{All-more, All-weaker, Contains-get_or}
use Rattle.number_links.specs.Generations.{generation}
use Rattle.number_links.proofs.GenerationLemmas.{next_none, next_tight, still_of, under_next}
use Rattle.number_links.proofs.marking.above.Goals as goal

pub loop-p-preserved : goal.loop-p-preserved
loop-p-preserved c =
    let gs = c.args.generations.now in
    let parents = c.args.parents.now in
    let at = c.loop-p.p-index in
    let most = c.larger-most.result in
    let more : c.loop-p.most ≤ most = c.larger-most.ensures.0 in
    let one : c.at-one.result ≡ generation gs (get_or parents at 0) = c.at-one.ensures.value in
    let within : c.at-one.result ≤ most = c.larger-most.ensures.1 in
    let high = c.if-one-lt2.false in
    let least = c.loop-p.invariant.0.0 in
    let few = c.loop-p.invariant.0.1 in (
      (
        omega arith,
        elim c.larger-most.ensures.2 [
          | inl same ↦ omega (arith, same)
          | inr other ↦ omega (arith, other)
        ],
      ),
      All-more (λ p. (1 < generation gs p) × (generation gs p ≤ most)) parents at 0 (omega arith)
          (All-weaker (λ p. (1 < generation gs p) × (generation gs p ≤ c.loop-p.most)) (λ p. (1 < generation gs p) × (generation gs p ≤ most)) (λ p is. (is.0, omega (arith, is.1))) (take at parents) c.loop-p.invariant.1)
          (omega arith, omega arith),
      elim c.larger-most.ensures.2 [
        | inl same ↦ still_of gs parents c.loop-p.most most same c.loop-p.invariant.2
        | inr other ↦ inr (get_or parents at 0, Contains-get_or parents at 0 (omega arith), other ∙ one)
      ],
    )

pub returns-then-one-lt2-clause-none : goal.returns-then-one-lt2-clause-none
returns-then-one-lt2-clause-none c =
    let parents = c.args.parents.now in
    let at = c.loop-p.p-index in
    let low = c.if-one-lt2.true in
    let value = c.at-one.ensures.value in
    inl (get_or parents at 0, Contains-get_or parents at 0 (omega arith), omega arith)

pub returns-clause-tight : goal.returns-clause-tight
returns-clause-tight c = next_tight _ c.args.generations.now c.args.parents.now c.loop-p.most c.checked_add.result c.checked_add.ensures c.loop-p.invariant.2

pub returns-clause-none : goal.returns-clause-none
returns-clause-none c = next_none c.args.generations.now c.args.parents.now c.loop-p.most c.checked_add.result c.checked_add.ensures c.loop-p.invariant.0.1 c.loop-p.invariant.2

pub returns-clause-above : goal.returns-clause-above
returns-clause-above c =
    let gs = c.args.generations.now in
    let most = c.loop-p.most in
    under_next _ gs c.args.parents.now most c.checked_add.result c.checked_add.ensures (subst (All (λ p. (1 < generation gs p) × (generation gs p ≤ most))) (take_all c.loop-p.p-index c.args.parents.now (omega arith)) c.loop-p.invariant.1)
