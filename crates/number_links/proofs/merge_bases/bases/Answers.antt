use Rattle.std.proofs.Common.{◌≡◌, ◌∷◌, [], arith, inl, inr, is_some, true}
use Rattle.number_links.specs.Numbers.{has}
use Rattle.number_links.specs.Facts.{Facts}
use Rattle.number_links.specs.Known.{known}
use Rattle.number_links.proofs.KeyLemmas.{one_high, reached_high}
use Rattle.number_links.proofs.merge_bases.bases.Goals as goal

pub returns-in-Ok-clause-known : goal.returns-in-Ok-clause-known
returns-in-Ok-clause-known c n either =
    let facts : Facts = record { links = c.args.ground.now.links.now; times = c.args.ground.now.times.now } in
    let allowed = has c.args.ground.now.allowed.now in
    let gs = c.args.ground.now.generations.now in
    let value_a = c.at.ensures.value in
    let value_b = c.at-2.ensures.value in
    let high_a = c.if-at-lt2.false in
    let high_b = c.if-at-lt2-2.false in
    elim either as (λ _. is_some (known facts.links n) ≡ true) [
      | inl reached ↦ c.requires.known n (reached_high facts allowed gs c.at.ensures.few c.requires (c.args.a ∷ []) (one_high allowed gs c.args.a (omega arith)) n reached)
      | inr reached ↦ c.requires.known n (reached_high facts allowed gs c.at.ensures.few c.requires (c.args.b ∷ []) (one_high allowed gs c.args.b (omega arith)) n reached)
    ]
