use Rattle.std.proofs.Common.{Some, ap, sym, ◌∙◌}
use Rattle.std.specs.FinMap as map
use Rattle.std.proofs.lemmas.Option.{IfSome_then}
use Rattle.git_name.specs.Object.{Object}
use Rattle.fork_ledger.specs.Tenants.{private_of}
use Rattle.fork_ledger.proofs.StoreLemmas.{one_whole}
use Rattle.fork_ledger.proofs.ToldLemmas.{seen_whole}
use Rattle.fork_ledger.proofs.vault.Vault.lend.Goals as goal

pub returns-then-sees-clause-found : goal.returns-then-sees-clause-found
returns-then-sees-clause-found g c = IfSome_then c.lend.result c.lend.ensures (λ lent told.
    let files = c.self.inside.files.contents in
    let read : Object = record { kind = lent.0; bytes = lent.1.now } in
    let stands = seen_whole files c.self.inside.holdings.ledgers c.args.tenant.now c.args.name (c.self.invariant told.0).0.stored (sym c.sees.ensures ∙ c.if-sees.true) in (
      sym (ap (λ s. s.honest) c.self.view_is) ∙ told.0,
      sym (ap (λ s. map.get (private_of s.tenants c.args.tenant.now).visible c.args.name) c.self.view_is) ∙ stands.1
          ∙ ap Some (one_whole files c.args.name stands.0 read stands.2 told.1),
    ))

pub returns-then-sees-clause-named : goal.returns-then-sees-clause-named
returns-then-sees-clause-named g c = IfSome_then c.lend.result c.lend.ensures (λ lent told. told.1.named)
