use Rattle.std.proofs.Common.{rules, refl, sym, arith, ◌∙◌}
use Rattle.fork_ledger.proofs.LedLemmas.{learns_more, learns_none}
use Rattle.fork_ledger.proofs.leading.learn_all.Goals as goal

pub loop-sealed-init : goal.loop-sealed-init
loop-sealed-init c = record { ledgers = refl; catalogue = refl; links = learns_none c.args.objects.now c.args.holdings.now.links }

pub loop-sealed-preserved : goal.loop-sealed-preserved
loop-sealed-preserved c =
    let before = c.loop-sealed.invariant in
    let object = c.sealed-item.result in
    let told = c.learn_links.ensures in
    record {
      ledgers = told.ledgers ∙ before.ledgers;
      catalogue = told.catalogue ∙ before.catalogue;
      links = learns_more c.args.objects.now c.args.holdings.now.links c.loop-sealed.holdings.links c.learn_links.new.holdings.links object (c.loop-sealed.sealed-index, omega arith, sym c.sealed-item.is) before.links (search rules);
    }

pub returns-clause-ledgers : goal.returns-clause-ledgers
returns-clause-ledgers c = c.loop-sealed.invariant.ledgers

pub returns-clause-catalogue : goal.returns-clause-catalogue
returns-clause-catalogue c = c.loop-sealed.invariant.catalogue

pub returns-clause-links : goal.returns-clause-links
returns-clause-links c = c.loop-sealed.invariant.links
