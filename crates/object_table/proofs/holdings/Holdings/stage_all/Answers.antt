use Rattle.std.proofs.Common.{◌≡◌, IfErr, ap, subst, ◌∙◌}
use Rattle.object_table.specs.Holders.{HoldingsState}
use Rattle.object_table.proofs.LinkLemmas.{same_links, still_links}
use Rattle.object_table.specs.AllStaged.{AreListed}
use Rattle.object_table.specs.Rows.{places_of}
use Rattle.object_table.specs.declared.stage_fault.StageFault.TheVariants.{Unlisted}
use Rattle.object_table.proofs.holdings.Holdings.stage_all.Goals as goal

pub invariant_of-self : goal.invariant_of-self
invariant_of-self c = (
  c.stage_in-staged.ensures.held,
  still_links c.self.inside.table.entries c.stage_in-staged.new.table.entries c.self.inside.links c.invariant.ensures.rows c.invariant-2.ensures.rows c.self.invariant.1 c.stage_in-staged.ensures.numbers,
)

pub returns-clause-links : goal.returns-clause-links
returns-clause-links c =
    same_links c.self.inside.table.entries c.stage_in-staged.new.table.entries c.self.inside.links c.invariant.ensures.rows c.invariant-2.ensures.rows c.self.invariant.1 c.stage_in-staged.ensures.numbers
    ∙ ap (λ (s : HoldingsState). s.links) c.self.view_is

pub returns-clause-unlisted : goal.returns-clause-unlisted
returns-clause-unlisted c =
    subst (λ (s : HoldingsState). IfErr c.stage_in-staged.result (λ fault. fault ≡ Unlisted → AreListed (places_of s.catalogue) c.args.entries.now → ⊥)) c.self.view_is c.stage_in-staged.ensures.unlisted
