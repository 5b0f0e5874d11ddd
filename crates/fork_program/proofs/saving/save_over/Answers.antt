use Rattle.std.proofs.Common.{◌∙◌, ℕ, List, Some}
use Rattle.std.proofs.lemmas.Result.{on_ok_weaker}
use Rattle.devices.specs.Parts.{IsSure}
use Rattle.host_folder.specs.State.{state_file}
use Rattle.fork_program.specs.Keeping.{IsNameOf, IsTextOf}
use Rattle.fork_program.specs.Saving.{IsDrafted, IsStanding}
use Rattle.fork_program.proofs.HostingLemmas.{on_ok_always, saved_again}
use Rattle.fork_program.proofs.SameHostLemmas.{same_saved}
use Rattle.fork_program.proofs.SavingLemmas.{it_is, none_of_host, none_stands, ok_of_name, one_of_host}
use Rattle.fork_program.proofs.saving.save_over.Goals as goal

pub returns-in_err-drafted-clause-each : goal.returns-in_err-drafted-clause-each
returns-in_err-drafted-clause-each g c before honest sure =
    none_of_host before c.args.host.now (g.D.Device.past c.args.device.now) (g.D.Device.past c.drafted.new.device) (c.a_tried_part_leaves_the_state.ensures.each before (g.D.Device.past c.args.device.now) (g.D.Device.past c.drafted.new.device) sure (c.drafted.ensures.tried honest))

pub returns-in_default-clause-each : goal.returns-in_default-clause-each
returns-in_default-clause-each g c before honest sure =
    none_of_host before c.args.host.now (g.D.Device.past c.args.device.now) (g.D.Device.past c.drafted.new.device) (c.a_tried_part_leaves_the_state.ensures.each before (g.D.Device.past c.args.device.now) (g.D.Device.past c.drafted.new.device) sure (c.drafted.ensures.tried honest))

pub returns-clause-each : goal.returns-clause-each
returns-clause-each g c before honest sure =
    let it : IsDrafted c.args.host.now c.in-Some.draft.name (g.D.Device.past c.args.device.now) (g.D.Device.past c.drafted.new.device) = it_is (λ draft. IsDrafted c.args.host.now draft.name (g.D.Device.past c.args.device.now) (g.D.Device.past c.drafted.new.device)) c.in_ok-drafted.drafted c.in-Some.draft c.in-Some.is (c.in_ok-drafted.ensures.text honest) in
    one_of_host before c.args.host.now it.text (g.D.Device.past c.args.device.now) (g.D.Device.past c.put.new.device) it.saved (c.put.ensures.each it.text before (g.D.Device.past c.args.device.now) (c.drafted.ensures.honest ∙ honest) sure it.written)

pub returns-clause-named : goal.returns-clause-named
returns-clause-named g c =
    ok_of_name (λ settled. settled.name) (IsNameOf c.args.host.now) c.in-Some.draft.name c.put.result
    (on_ok_always c.put.result (it_is (λ draft. IsNameOf c.args.host.now draft.name) c.in_ok-drafted.drafted c.in-Some.draft c.in-Some.is c.in_ok-drafted.ensures.name))
    c.put.ensures.name

pub returns-clause-sure : goal.returns-clause-sure
returns-clause-sure g c honest unfailed =
    let it : IsDrafted c.args.host.now c.in-Some.draft.name (g.D.Device.past c.args.device.now) (g.D.Device.past c.drafted.new.device) = it_is (λ draft. IsDrafted c.args.host.now draft.name (g.D.Device.past c.args.device.now) (g.D.Device.past c.drafted.new.device)) c.in_ok-drafted.drafted c.in-Some.draft c.in-Some.is (c.in_ok-drafted.ensures.text honest) in
    on_ok_weaker {P = IsSure (g.D.Device.past c.put.new.device) state_file (Some it.text)} {Q = (text : List ℕ) × IsTextOf c.args.host.now text × IsSure (g.D.Device.past c.put.new.device) state_file (Some text)} c.put.result (λ sure. (it.text, it.saved, sure))
    (c.put.ensures.placed it.text (g.D.Device.past c.args.device.now) (c.drafted.ensures.honest ∙ honest) (none_stands c.in-Some.draft.name) it.written unfailed)

pub returns-clause-stands : goal.returns-clause-stands
returns-clause-stands g c honest unfailed =
    let it : IsDrafted c.args.host.now c.in-Some.draft.name (g.D.Device.past c.args.device.now) (g.D.Device.past c.drafted.new.device) = it_is (λ draft. IsDrafted c.args.host.now draft.name (g.D.Device.past c.args.device.now) (g.D.Device.past c.drafted.new.device)) c.in_ok-drafted.drafted c.in-Some.draft c.in-Some.is (c.in_ok-drafted.ensures.text honest) in
    ok_of_name (λ settled. settled.name) (λ name. IsStanding name (g.D.Device.past c.put.new.device)) c.in-Some.draft.name c.put.result
    (c.put.ensures.stands it.text (g.D.Device.past c.args.device.now) (c.drafted.ensures.honest ∙ honest) it.written it.named unfailed)
    c.put.ensures.name

pub returns-clause-saved : goal.returns-clause-saved
returns-clause-saved g c = saved_again c.args.host.now c.drafted.new.host c.put.new.host c.drafted.ensures.saved (same_saved c.drafted.new.host c.put.new.host c.put.ensures.host)
