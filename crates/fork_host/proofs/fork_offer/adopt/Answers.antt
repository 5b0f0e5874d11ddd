use Rattle.std.proofs.Common.{ap, inl, refl}
use Rattle.fork_request.specs.declared.host_fault.HostFault.TheVariants.{Memory}
use Rattle.fork_request.specs.declared.reply.Reply.TheVariants.{Failed}
use Rattle.fork_host.specs.Forked.{Unforked}
use Rattle.fork_host.specs.Rows.{vault_told}
use Rattle.fork_host.proofs.ForkedLemmas.{fault_of_adopting, given_back}
use Rattle.fork_host.proofs.fork_offer.adopt.Goals as goal

pub returns-in_default-clause-forked : goal.returns-in_default-clause-forked
returns-in_default-clause-forked g c = Unforked Memory refl (inl refl) (λ honest. refl) c.in_default.ensures.err refl

pub returns-in-Err-clause-forked : goal.returns-in-Err-clause-forked
returns-in-Err-clause-forked g c =
    let fault = c.in-Err.fault in
    Unforked (vault_told fault) (ap (λ f. Failed f) c.vault_fault.ensures) (fault_of_adopting fault c.in-Err.ensures.cause) (λ honest. ap vault_told (c.in-Err.ensures.undamaged honest))
    (given_back c.args.tenant.now c.put_repository.new.self c.take_repository.new.self c.args.copy c.copy-key.result c.args.repository c.requires.new c.copy-key.ensures c.in-Ok.ensures.ok c.take_repository.ensures) c.in-Err.ensures.err
