use Rattle.std.proofs.Common.{◌≡◌, ◌∙◌, map as mapped, ap, sym, rules}
use Rattle.std.specs.FinMap.{contains_key, get}
use Rattle.number_links.specs.Facts.{told}
use Rattle.object_table.specs.Holders.{HoldingsState}
use Rattle.object_table.specs.Links.{numbered_name}
use Rattle.object_table.proofs.LinkLemmas.{either_known}
use Rattle.object_table.proofs.holdings.Holdings.learn.Goals as goal

pub returns-clause-links : goal.returns-clause-links
returns-clause-links c q one is =
    let named : mapped (numbered_name c.self.inside.table.entries) c.as_slice.result.now ≡ c.args.to.now = search rules in
    either_known (ap (λ (s : HoldingsState). get s.links q) (sym c.self.view_is)) (ap (λ names. told names c.args.time) named) (c.learn_row.ensures.links q one is)

pub returns-clause-stays : goal.returns-clause-stays
returns-clause-stays c q there =
    c.learn_row.ensures.stays q (ap (λ (s : HoldingsState). contains_key s.links q) c.self.view_is ∙ there) ∙ ap (λ (s : HoldingsState). get s.links q) c.self.view_is
