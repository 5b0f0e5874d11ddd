use Rattle.object_table.specs.Rows.{places_of}
use Rattle.object_table.specs.Holders.{holders_of, is_held_in}
use Rattle.fork_ledger.proofs.LookLemmas.{look_stays, next_held, none_case}
use Rattle.fork_ledger.proofs.sweep_step.look_once.Goals as goal

pub returns-in_default-clause-look : goal.returns-in_default-clause-look
returns-in_default-clause-look g c =
    look_stays (is_held_in c.args.holdings.now.ledgers) (places_of c.args.holdings.now.catalogue) (places_of c.pass.new.self.catalogue) c.requires
    (next_held (places_of c.args.holdings.now.catalogue) (holders_of c.args.holdings.now.ledgers) (none_case c.free_name.result c.in_default.is c.free_name.ensures.none)) c.pass.ensures.names (c.pass.ensures.place c.requires)
