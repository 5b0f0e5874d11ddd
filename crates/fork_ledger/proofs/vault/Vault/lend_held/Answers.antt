use Rattle.std.proofs.Common.{Some, ap, sym, ◌∙◌}
use Rattle.std.specs.FinMap as map
use Rattle.std.proofs.lemmas.Option.{IfSome_then}
use Rattle.git_name.specs.Object.{Object}
use Rattle.fork_ledger.specs.Private.{both_of}
use Rattle.fork_ledger.specs.Tenants.{private_of}
use Rattle.fork_ledger.proofs.LentLemmas.{word_whole}
use Rattle.fork_ledger.proofs.StoreLemmas.{one_whole}
use Rattle.fork_ledger.proofs.vault.Vault.lend_held.Goals as goal

pub returns-clause-found : goal.returns-clause-found
returns-clause-found g c = IfSome_then c.lend.result c.lend.ensures (λ lent told.
    let files = c.self.inside.files.contents in
    let read : Object = record { kind = lent.0; bytes = lent.1.now } in
    let stands = word_whole files c.self.inside.holdings.ledgers c.args.tenant.now c.args.name c.in-Some.field-0 (c.self.invariant told.0).0.stored (sym c.in-Some.ensures) in (
      sym (ap (λ s. s.honest) c.self.view_is) ∙ told.0,
      sym (ap (λ s. map.get (both_of (private_of s.tenants c.args.tenant.now)) c.args.name) c.self.view_is) ∙ stands.1
          ∙ ap Some (one_whole files c.args.name stands.0 read stands.2 told.1),
    ))

pub returns-clause-named : goal.returns-clause-named
returns-clause-named g c = IfSome_then c.lend.result c.lend.ensures (λ lent told. told.1.named)
