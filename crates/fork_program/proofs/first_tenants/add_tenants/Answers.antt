use Rattle.std.proofs.Common.{rules, subst}
use Rattle.std.proofs.lemmas.Result.{err_from_is_err_and}
use Rattle.fork_host.specs.Shown.{world_of}
use Rattle.fork_program.proofs.GivenLemmas.{Adding, all_given, none_added, not_added, one_added}
use Rattle.fork_program.proofs.first_tenants.add_tenants.Goals as goal

pub loop-grant-init : goal.loop-grant-init
loop-grant-init g c = record {
  trusted = λ trusted. trusted;
  adding = subst (λ rest. Adding c.args.tenants.items rest (world_of c.args.host.now) (world_of c.args.host.now)) (search rules) (none_added c.args.tenants.items (world_of c.args.host.now));
}

pub loop-grant-preserved : goal.loop-grant-preserved
loop-grant-preserved g c =
    let so_far = subst (λ rest. Adding c.args.tenants.items rest (world_of c.args.host.now) (world_of c.loop-grant.host)) c.in-Some.ensures.steps.0 c.loop-grant.invariant.adding in
    record {
      trusted = λ trusted. c.add.ensures.trusted (c.loop-grant.invariant.trusted trusted);
      adding = one_added _ _ c.in-Some.grant _ _ _ so_far c.in_ok-add.ensures.free c.in_ok-add.ensures.ok;
    }

pub returns-in_err-add-clause-err : goal.returns-in_err-add-clause-err
returns-in_err-add-clause-err g c =
    let so_far = subst (λ rest. Adding c.args.tenants.items rest (world_of c.args.host.now) (world_of c.loop-grant.host)) c.in-Some.ensures.steps.0 c.loop-grant.invariant.adding in
    let told = err_from_is_err_and c.from_residual.result c.from_residual.ensures.1 in
    rw (told.1, told.2) (not_added _ _ c.in-Some.grant _ (world_of c.loop-grant.host) _ so_far c.in_err-add.ensures.err)

pub returns-clause-ok : goal.returns-clause-ok
returns-clause-ok g c =
    all_given _ _ _ _ _ c.loop-grant.grant-iterator.rest.ok.0 c.in-None.ensures.steps.0 c.loop-grant.invariant.adding c.loop-grant.invariant.trusted
