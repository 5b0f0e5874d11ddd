use Rattle.std.proofs.Common.{◌≡◌, ap, sym, subst, ◌∙◌}
use Rattle.std.specs.Prelude.{IfOk}
use Rattle.std.specs.FinMap as map
use Rattle.object_table.specs.Ledgers.{ledger_at}
use Rattle.fork_ledger.specs.Tenants.{private_of}
use Rattle.fork_ledger.proofs.ShownLemmas.{private_shown}
use Rattle.fork_ledger.proofs.ToldLemmas.{names_shown}
use Rattle.fork_ledger.proofs.vault.Vault.names.Goals as goal

pub returns : goal.returns
returns g c =
    let files = c.self.inside.files.contents in
    subst (λ ns. IfOk c.names.result (λ names. names.items ≡ ns))
    (names_shown files (ledger_at c.self.inside.holdings.ledgers c.args.tenant.now) ∙ ap (λ own. map.keys own.visible) (sym (private_shown files c.self.inside.holdings.ledgers c.args.tenant.now))
    ∙ ap (λ s. map.keys (private_of s.tenants c.args.tenant.now).visible) c.self.view_is) c.names.ensures
