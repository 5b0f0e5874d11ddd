use Rattle.std.proofs.Common.{◌∙◌, inl, sym}
use Rattle.fork_program.specs.Keeping.{IsNameOf}
use Rattle.fork_program.specs.Saving.{IsDrafted}
use Rattle.fork_program.proofs.HostingLemmas.{saved_again}
use Rattle.fork_program.proofs.SameHostLemmas.{same_saved}
use Rattle.fork_program.proofs.SavingLemmas.{it_is, leaves_name, none_of_host, one_of_host, settled_on, stands_as, stands_tried}
use Rattle.fork_program.proofs.kept_state.KeptState.save.Goals as goal

pub returns-in_err-drafted-clause-stands : goal.returns-in_err-drafted-clause-stands
returns-in_err-drafted-clause-stands g c = stands_tried c.args.self.now.is_sure (g.D.Device.honest c.args.self.now.device) (g.D.Device.honest c.drafted.new.device) c.args.self.now.name (g.D.Device.past c.args.self.now.device) (g.D.Device.past c.drafted.new.device) c.drafted.ensures.honest c.drafted.ensures.tried c.a_tried_part_leaves_the_state.ensures.names c.a_tried_part_leaves_the_state.ensures.leaves c.requires

pub returns-in_err-drafted-clause-each : goal.returns-in_err-drafted-clause-each
returns-in_err-drafted-clause-each g c before honest sure = none_of_host before c.args.host.now (g.D.Device.past c.args.self.now.device) (g.D.Device.past c.drafted.new.device) (c.a_tried_part_leaves_the_state.ensures.each before (g.D.Device.past c.args.self.now.device) (g.D.Device.past c.drafted.new.device) sure (c.drafted.ensures.tried honest))

pub returns-in_default-clause-stands : goal.returns-in_default-clause-stands
returns-in_default-clause-stands g c = stands_tried c.args.self.now.is_sure (g.D.Device.honest c.args.self.now.device) (g.D.Device.honest c.drafted.new.device) c.args.self.now.name (g.D.Device.past c.args.self.now.device) (g.D.Device.past c.drafted.new.device) c.drafted.ensures.honest c.drafted.ensures.tried c.a_tried_part_leaves_the_state.ensures.names c.a_tried_part_leaves_the_state.ensures.leaves c.requires

pub returns-in_default-clause-each : goal.returns-in_default-clause-each
returns-in_default-clause-each g c before honest sure = none_of_host before c.args.host.now (g.D.Device.past c.args.self.now.device) (g.D.Device.past c.drafted.new.device) (c.a_tried_part_leaves_the_state.ensures.each before (g.D.Device.past c.args.self.now.device) (g.D.Device.past c.drafted.new.device) sure (c.drafted.ensures.tried honest))

pub replace-requires : goal.replace-requires
replace-requires g c = stands_tried c.args.self.now.is_sure (g.D.Device.honest c.args.self.now.device) (g.D.Device.honest c.drafted.new.device) c.args.self.now.name (g.D.Device.past c.args.self.now.device) (g.D.Device.past c.drafted.new.device) c.drafted.ensures.honest c.drafted.ensures.tried c.a_tried_part_leaves_the_state.ensures.names c.a_tried_part_leaves_the_state.ensures.leaves c.requires

pub returns-in_err-begun-clause-each : goal.returns-in_err-begun-clause-each
returns-in_err-begun-clause-each g c before honest sure =
    let it : IsDrafted c.args.host.now c.in-Some.draft.name (g.D.Device.past c.args.self.now.device) (g.D.Device.past c.drafted.new.device) = it_is (λ draft. IsDrafted c.args.host.now draft.name (g.D.Device.past c.args.self.now.device) (g.D.Device.past c.drafted.new.device)) c.in_ok-drafted.drafted c.in-Some.draft c.in-Some.is (c.in_ok-drafted.ensures.text honest) in
    one_of_host before c.args.host.now it.text (g.D.Device.past c.args.self.now.device) (g.D.Device.past c.replace.new.self.device) it.saved (c.replace.ensures.each it.text before (g.D.Device.past c.args.self.now.device) (c.drafted.ensures.honest ∙ honest) sure it.written)

pub returns-clause-each : goal.returns-clause-each
returns-clause-each g c before honest sure =
    let it : IsDrafted c.args.host.now c.in-Some.draft.name (g.D.Device.past c.args.self.now.device) (g.D.Device.past c.drafted.new.device) = it_is (λ draft. IsDrafted c.args.host.now draft.name (g.D.Device.past c.args.self.now.device) (g.D.Device.past c.drafted.new.device)) c.in_ok-drafted.drafted c.in-Some.draft c.in-Some.is (c.in_ok-drafted.ensures.text honest) in
    one_of_host before c.args.host.now it.text (g.D.Device.past c.args.self.now.device) (g.D.Device.past c.replace.new.self.device) it.saved (c.replace.ensures.each it.text before (g.D.Device.past c.args.self.now.device) (c.drafted.ensures.honest ∙ honest) sure it.written)

pub returns-clause-stands : goal.returns-clause-stands
returns-clause-stands g c is trusted unfailed =
    let honest = sym (c.replace.ensures.honest ∙ c.drafted.ensures.honest) ∙ trusted in
    let it : IsDrafted c.args.host.now c.in-Some.draft.name (g.D.Device.past c.args.self.now.device) (g.D.Device.past c.drafted.new.device) = it_is (λ draft. IsDrafted c.args.host.now draft.name (g.D.Device.past c.args.self.now.device) (g.D.Device.past c.drafted.new.device)) c.in_ok-drafted.drafted c.in-Some.draft c.in-Some.is (c.in_ok-drafted.ensures.text honest) in
    stands_as c.in-Some.draft.name c.replace.new.self.name (g.D.Device.past c.replace.new.self.device) c.in_ok-begun.ensures.name (c.in_ok-begun.ensures.stands it.text (g.D.Device.past c.args.self.now.device) (c.drafted.ensures.honest ∙ honest) it.written it.named unfailed)

pub returns-clause-sure : goal.returns-clause-sure
returns-clause-sure g c honest unfailed =
    let it : IsDrafted c.args.host.now c.in-Some.draft.name (g.D.Device.past c.args.self.now.device) (g.D.Device.past c.drafted.new.device) = it_is (λ draft. IsDrafted c.args.host.now draft.name (g.D.Device.past c.args.self.now.device) (g.D.Device.past c.drafted.new.device)) c.in_ok-drafted.drafted c.in-Some.draft c.in-Some.is (c.in_ok-drafted.ensures.text honest) in
    leaves_name c.args.host.now c.in-Some.draft.name (g.D.Device.past c.replace.new.self.device) (it_is (λ draft. IsNameOf c.args.host.now draft.name) c.in_ok-drafted.drafted c.in-Some.draft c.in-Some.is c.in_ok-drafted.ensures.name) (c.in_ok-begun.ensures.stands it.text (g.D.Device.past c.args.self.now.device) (c.drafted.ensures.honest ∙ honest) it.written it.named unfailed)

pub returns-in_default-clause-stays : goal.returns-in_default-clause-stays
returns-in_default-clause-stays g c before honest sure none =
    c.a_tried_part_leaves_the_state.ensures.sure before (g.D.Device.past c.args.self.now.device) (g.D.Device.past c.drafted.new.device) sure (c.drafted.ensures.tried honest)

pub returns-clause-settles : goal.returns-clause-settles
returns-clause-settles g c before honest sure unfailed =
    let it : IsDrafted c.args.host.now c.in-Some.draft.name (g.D.Device.past c.args.self.now.device) (g.D.Device.past c.drafted.new.device) = it_is (λ draft. IsDrafted c.args.host.now draft.name (g.D.Device.past c.args.self.now.device) (g.D.Device.past c.drafted.new.device)) c.in_ok-drafted.drafted c.in-Some.draft c.in-Some.is (c.in_ok-drafted.ensures.text honest) in
    settled_on before c.args.host.now it.text (g.D.Device.past c.replace.new.self.device) it.saved (c.in_ok-begun.ensures.settles it.text before (g.D.Device.past c.args.self.now.device) (c.drafted.ensures.honest ∙ honest) sure it.written unfailed)

pub returns-in_default-clause-settles : goal.returns-in_default-clause-settles
returns-in_default-clause-settles g c before honest sure unfailed =
    inl (c.a_tried_part_leaves_the_state.ensures.sure before (g.D.Device.past c.args.self.now.device) (g.D.Device.past c.drafted.new.device) sure (c.drafted.ensures.tried honest))

pub returns-in_err-begun-clause-saved : goal.returns-in_err-begun-clause-saved
returns-in_err-begun-clause-saved g c = saved_again c.args.host.now c.drafted.new.host c.replace.new.host c.drafted.ensures.saved (same_saved c.drafted.new.host c.replace.new.host c.replace.ensures.host)

pub returns-clause-saved : goal.returns-clause-saved
returns-clause-saved g c = saved_again c.args.host.now c.drafted.new.host c.replace.new.host c.drafted.ensures.saved (same_saved c.drafted.new.host c.replace.new.host c.replace.ensures.host)
