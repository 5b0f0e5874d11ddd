use Rattle.std.proofs.Common.{◌≡◌, inl, inr, is_some, rules, true}
use Rattle.number_links.specs.Numbers.{has}
use Rattle.number_links.specs.Facts.{Facts}
use Rattle.number_links.specs.Known.{known}
use Rattle.number_links.proofs.KeyLemmas.{reached_high}
use Rattle.number_links.proofs.history.near.Goals as goal

pub returns-in-Ok-clause-known : goal.returns-in-Ok-clause-known
returns-in-Ok-clause-known c n either =
    let facts : Facts = record { links = c.args.ground.now.links.now; times = c.args.ground.now.times.now } in
    let allowed = has c.args.ground.now.allowed.now in
    let gs = c.args.ground.now.generations.now in
    let wanted = c.have_generations.ensures (search rules) in
    let excluded = c.have_generations-2.ensures (search rules) in
    elim either as (λ _. is_some (known facts.links n) ≡ true) [
      | inl reached ↦ c.requires.known n (reached_high facts allowed gs c.invariant.ensures c.requires c.args.wanted.now wanted n reached)
      | inr reached ↦ c.requires.known n (reached_high facts allowed gs c.invariant.ensures c.requires c.args.excluded.now excluded n reached)
    ]
