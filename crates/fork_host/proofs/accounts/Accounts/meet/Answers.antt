use Rattle.std.proofs.Common.{◌∙◌}
use Rattle.fork_host.specs.Shown.{state_of}
use Rattle.fork_host.proofs.MetLemmas.{rows_met}
use Rattle.fork_host.proofs.accounts.Accounts.meet.Goals as goal

pub returns-in_ok-rows-in-Offers : goal.returns-in_ok-rows-in-Offers
returns-in_ok-rows-in-Offers g c = rw c.in-Offers.is (c.in_ok-rows-in-Offers.ensures ∙ rows_met (state_of c.args.self.now c.args.vault.now) c.args.name.now)

pub returns-in-ForkOffer : goal.returns-in-ForkOffer
returns-in-ForkOffer g c = rw c.in-ForkOffer.is (c.offer_from.ensures c.in-ForkOffer.field-2.now)
