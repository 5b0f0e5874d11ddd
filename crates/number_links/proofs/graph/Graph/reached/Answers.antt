use Rattle.std.proofs.Common.{◌≡◌, ◌↔◌, ℕ, true, subst}
use Rattle.std.specs.Prelude.{IfOk, IfSome}
use Rattle.number_links.specs.Numbers.{has}
use Rattle.number_links.specs.Facts.{Facts, goes_on}
use Rattle.number_links.specs.Known.{RestsOrIsKnown}
use Rattle.number_links.specs.Reach.{IsReached}
use Rattle.number_links.specs.declared.along.Along.TheVariants.{Links}
use Rattle.number_links.proofs.GenerationLemmas.{generations_more}
use Rattle.number_links.proofs.KeptLemmas.{all_more, gathered_known, gathered_reached}
use Rattle.number_links.proofs.NowhereLemmas.{nowhere_stays}
use Rattle.number_links.proofs.OptionLemmas.{found_both}
use Rattle.number_links.proofs.graph.Graph.reached.Goals as goal

pub invariant_of-self : goal.invariant_of-self
invariant_of-self g c =
    let links = c.self.inside.links in
    let now = c.gather_allowed.new.links in
    let stays = c.gather_allowed.ensures.stays in (
      all_more links now stays c.self.inside.kept.items c.self.invariant.0,
      generations_more (record { links = links; times = c.self.inside.times }) now c.self.inside.generations stays c.self.invariant.1,
      nowhere_stays links now (has c.self.inside.ends) stays c.self.invariant.2,
    )

pub returns-clause-found : goal.returns-clause-found
returns-clause-found g c =
    let links = c.self.inside.links in
    let now = c.gather_allowed.new.links in
    let allowed = has c.args.allowed.now in
    subst (λ (facts : Facts). IfOk c.gather_allowed.result (λ r. IfSome r (λ found. (n : ℕ) → (has found n ≡ true) ↔ IsReached (goes_on Links facts) allowed c.args.roots.now n))) c.self.view_is
    (found_both c.gather_allowed.result _ _ _ (λ set led within n. gathered_reached links now c.args.roots.now (has set) allowed (g.R.Resting.rests c.args.resting.now) c.gather_allowed.ensures.stays c.gather_allowed.ensures.only led within n)
    c.gather_allowed.ensures.found c.gather_allowed.ensures.within)

pub returns-clause-known : goal.returns-clause-known
returns-clause-known g c =
    let links = c.self.inside.links in
    let now = c.gather_allowed.new.links in
    subst (λ (facts : Facts). IfOk c.gather_allowed.result (λ r. IfSome r (λ found. (n : ℕ) → has found n ≡ true → RestsOrIsKnown facts.links (g.R.Resting.rests c.args.resting.now) n))) c.self.view_is
    (found_both c.gather_allowed.result _ _ _ (λ set led within. gathered_known links now c.args.roots.now (has set) (has c.args.allowed.now) (g.R.Resting.rests c.args.resting.now) c.gather_allowed.ensures.only led)
    c.gather_allowed.ensures.found c.gather_allowed.ensures.within)
