use Rattle.std.proofs.Common.{◌++◌, ap, ◌∙◌}
use Rattle.std.specs.Prelude.{codes}
use Rattle.std.specs.FinMap.{keys}
use Rattle.std.specs.List.{flat_map}
use Rattle.fork_model.specs.Answer.{offer_row, offer_rows}
use Rattle.fork_host.specs.Shown.{Account}
use Rattle.fork_host.proofs.MadeLemmas.{offers_told}
use Rattle.fork_host.proofs.tenant.Tenant.offers.Goals as goal

pub returns-in-Ok : goal.returns-in-Ok
returns-in-Ok c context own rows =
    offers_told context c.args.self.now own c.new.result
    (c.new.ensures ∙ c.in-Ok.ensures ∙ ap (λ text. text ++ flat_map (offer_row (codes "to ")) (keys c.self.inside.made)) rows
    ∙ ap (λ (a : Account). offer_rows (codes "from ") context.offered ++ flat_map (offer_row (codes "to ")) (keys a.made)) c.self.view_is)
