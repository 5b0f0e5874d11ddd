use Rattle.std.proofs.Common.{ap, sym, ◌∙◌, is_some}
use Rattle.std.specs.FinMap.{contains_key}
use Rattle.object_table.specs.Holders.{HoldingsState}
use Rattle.object_table.proofs.ChangeLemmas.{there_is}
use Rattle.object_table.proofs.holdings.Holdings.contains.Goals as goal

pub returns-in_default : goal.returns-in_default
returns-in_default c =
    ap is_some c.in_default.ensures ∙ sym (there_is c.self.inside.table.entries c.self.inside.ledgers c.args.tenant.now) ∙ ap (λ (s : HoldingsState). contains_key s.ledgers c.args.tenant.now) c.self.view_is

pub returns : goal.returns
returns c =
    ap is_some c.in-Some.ensures ∙ sym (there_is c.self.inside.table.entries c.self.inside.ledgers c.args.tenant.now) ∙ ap (λ (s : HoldingsState). contains_key s.ledgers c.args.tenant.now) c.self.view_is
