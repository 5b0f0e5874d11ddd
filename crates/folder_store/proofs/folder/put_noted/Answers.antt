use Rattle.std.proofs.Common.{ap, refl, sym}
use Rattle.folder_store.specs.Calls.{Puts, standing}
use Rattle.folder_store.proofs.StandingLemmas.{call_as, call_none, put_call}
use Rattle.folder_store.proofs.folder.put_noted.Goals as goal

pub returns-in_err-note-clause-call : goal.returns-in_err-note-clause-call
returns-in_err-note-clause-call g c honest =
    call_none (Puts c.args.name c.args.bytes.now) _ _ (ap (standing (g.D.Device.past c.args.device.now) c.args.has_swept) c.note.ensures.failed)

pub returns-then-has_swept-clause-call : goal.returns-then-has_swept-clause-call
returns-then-has_swept-clause-call g c honest =
    call_as (Puts c.args.name c.args.bytes.now) _ _ _ _
    (λ i. standing (g.D.Device.past c.args.device.now) (c.if-has_swept.true i) (sym c.note.ensures.failed i))
    (λ i. standing (g.D.Device.past c.put_again.new.device) (c.if-has_swept.true i) c.put_again.new.unsynced.has_failed)
    (c.put_again.ensures.call honest)

pub returns-clause-call : goal.returns-clause-call
returns-clause-call g c honest =
    call_as (Puts c.args.name c.args.bytes.now) _ _ _ _
    (λ i. standing (g.D.Device.past c.args.device.now) c.args.has_swept (sym c.note.ensures.failed i)) refl
    (put_call c.args.name c.args.bytes.now (g.D.Device.past c.args.device.now) (g.D.Device.past c.put_file.new.device) c.args.has_swept c.note.new.self.has_failed c.if-has_swept.false (c.put_file.ensures.lasts honest) (c.put_file.ensures.unfailed honest))
