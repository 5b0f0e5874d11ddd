use Rattle.std.proofs.Common.{ap}
use Rattle.std.specs.HashSet.{contains}
use Rattle.git_name.specs.Same.{same_name}
use Rattle.fork_ledger.proofs.AdoptedLemmas.{room_told}
use Rattle.fork_ledger.proofs.vault.Vault.has_room.Goals as goal

pub returns : goal.returns
returns g c =
    room_told c.self.inside.files.contents c.self.inside.holdings.ledgers c.args.self.now.tenants c.args.to.now c.args.from.now (contains same_name c.args.names.now) c.args.limit c.has_room.result (ap (λ s. s.tenants) c.self.view_is) c.has_room.ensures
