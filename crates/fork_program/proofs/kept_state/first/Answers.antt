use Rattle.std.proofs.Common.{inl}
use Rattle.std.proofs.lemmas.Result.{on_ok_weaker}
use Rattle.fork_program.proofs.HostingLemmas.{on_ok_always}
use Rattle.fork_program.specs.Keeping.{IsNameOf}
use Rattle.fork_program.specs.Saving.{IsStanding}
use Rattle.fork_program.proofs.SameHostLemmas.{same_saved}
use Rattle.fork_program.proofs.SavingLemmas.{none_of_host, ok_of_name, settled_of, sure_stands, sure_still}
use Rattle.fork_program.proofs.kept_state.first.Goals as goal

pub returns-then-is_current-clause-named : goal.returns-then-is_current-clause-named
returns-then-is_current-clause-named g c trusted =
    ok_of_name (λ settled. settled.name) (IsNameOf c.args.host.now) c.args.name c.resume.result (on_ok_always c.resume.result ((c.requires c.if-is_current.true).own trusted)) c.resume.ensures.name

pub returns-then-is_current-clause-each : goal.returns-then-is_current-clause-each
returns-then-is_current-clause-each g c before honest sure =
    let runs = c.resume.ensures.tried honest in
    none_of_host before c.args.host.now (g.D.Device.past c.args.device.now) (g.D.Device.past c.resume.new.device) (c.a_synced_state_is_sure.ensures.each before (g.D.Device.past c.args.device.now) (g.D.Device.past c.resume.new.device) runs.0 sure runs.1)

pub returns-then-is_current-clause-stands : goal.returns-then-is_current-clause-stands
returns-then-is_current-clause-stands g c honest unfailed =
    let it = (c.requires c.if-is_current.true).shown honest in
    ok_of_name (λ settled. settled.name) (λ name. IsStanding name (g.D.Device.past c.resume.new.device)) c.args.name c.resume.result
    (on_ok_weaker c.resume.result (λ runs. sure_stands it.text c.args.name (g.D.Device.past c.resume.new.device) it.named (c.a_synced_state_is_sure.ensures.shown it.text (g.D.Device.past c.args.device.now) (g.D.Device.past c.resume.new.device) it.shown runs)) (c.resume.ensures.synced honest))
    c.resume.ensures.name

pub returns-then-is_current-clause-settles : goal.returns-then-is_current-clause-settles
returns-then-is_current-clause-settles g c before honest sure unfailed =
    let runs = c.resume.ensures.tried honest in
    on_ok_always c.resume.result (inl (sure_still before (g.D.Device.past c.args.device.now) (g.D.Device.past c.resume.new.device) (c.a_synced_state_is_sure.ensures.leaves (g.D.Device.past c.args.device.now) (g.D.Device.past c.resume.new.device) runs.0 runs.1) sure))

pub returns-clause-settles : goal.returns-clause-settles
returns-clause-settles g c before honest sure unfailed = settled_of before c.args.host.now (g.D.Device.past c.save_over.new.device) c.save_over.result (c.save_over.ensures.sure honest unfailed)

pub returns-then-is_current-clause-saved : goal.returns-then-is_current-clause-saved
returns-then-is_current-clause-saved g c = same_saved c.args.host.now c.resume.new.host c.resume.ensures.host
