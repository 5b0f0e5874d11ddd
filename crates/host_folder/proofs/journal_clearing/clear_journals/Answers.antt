use Rattle.std.proofs.Common.{rules, Bool, [], refl, subst, sym, ◌∙◌, map as each}
use Rattle.devices.specs.Device.{files_of}
use Rattle.host_folder.specs.Journal.{ClearsBy, IsGone, journal_file}
use Rattle.host_folder.proofs.ClearingLemmas.{clear_end, clear_more, none_called}
use Rattle.host_folder.proofs.JournalLemmas.{clears_none, clears_then, is_there_by}
use Rattle.host_folder.proofs.journal_clearing.clear_journals.Goals as goal

pub loop-called-init : goal.loop-called-init
loop-called-init g c =
    let first = g.D.Device.past c.args.device.now in (
      refl,
      (λ honest. clears_none c.is_some-is_there.result c.args.name first first refl),
      (λ honest. ([], sym (search rules), tt)),
    )

pub loop-called-preserved : goal.loop-called-preserved
loop-called-preserved g c =
    let first = g.D.Device.past c.args.device.now in (
      c.clear_called.ensures.honest ∙ c.loop-called.invariant.0,
      (λ honest. clears_then c.is_some-is_there.result c.args.name first (g.D.Device.past c.loop-called.device) (g.D.Device.past c.clear_called.new.device) (c.loop-called.invariant.1 honest) (c.clear_called.ensures.effects (c.loop-called.invariant.0 ∙ honest))),
      (λ honest. clear_more c.is_some-is_there.result c.args.name (files_of first) (g.D.Device.past c.loop-called.device) (g.D.Device.past c.clear_called.new.device) c.in-Some.called.items
          (each (λ called. called.items) c.loop-called.called-iterator.rest.items) (each (λ called. called.items) c.next.new.self.rest.items) (search rules)
          (c.clear_called.ensures.effects (c.loop-called.invariant.0 ∙ honest))
          (subst (IsGone (files_of (g.D.Device.past c.clear_called.new.device)) c.is_some-is_there.result c.args.name) c.as_slice.ensures.value (c.in_ok-clear_called.ensures.gone (c.loop-called.invariant.0 ∙ honest)))
          (c.loop-called.invariant.2 honest)),
    )

pub returns-in_err-clear_called-clause-effects : goal.returns-in_err-clear_called-clause-effects
returns-in_err-clear_called-clause-effects g c honest =
    let first = g.D.Device.past c.args.device.now in
    subst (λ (b : Bool). ClearsBy b c.args.name first (g.D.Device.past c.clear_called.new.device)) (c.is_some-is_there.ensures ∙ is_there_by (files_of first) c.as_str.result.now (journal_file c.args.name) c.in_ok-len.field-0 (c.in_ok-len.ensures honest) (c.as_str.ensures.value ∙ c.in_ok-path.ensures))
    (clears_then c.is_some-is_there.result c.args.name first (g.D.Device.past c.loop-called.device) (g.D.Device.past c.clear_called.new.device) (c.loop-called.invariant.1 honest) (c.clear_called.ensures.effects (c.loop-called.invariant.0 ∙ honest)))

pub returns-clause-clear : goal.returns-clause-clear
returns-clause-clear g c honest called =
    let first = g.D.Device.past c.args.device.now in
    let new = g.D.Device.past c.loop-called.device in
    let rest = c.loop-called.called-iterator.rest in
    subst (λ (b : Bool). IsGone (files_of new) b c.args.name called)
    (c.is_some-is_there.ensures ∙ is_there_by (files_of first) c.as_str.result.now (journal_file c.args.name) c.in_ok-len.field-0 (c.in_ok-len.ensures honest) (c.as_str.ensures.value ∙ c.in_ok-path.ensures))
    (clear_end c.is_some-is_there.result c.args.name first new (each (λ called. called.items) rest.items) (none_called (λ called. called.items) rest.items (sym rest.ok.0 ∙ c.in-None.ensures.steps.0)) (c.loop-called.invariant.1 honest) (c.loop-called.invariant.2 honest) called)
