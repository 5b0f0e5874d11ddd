use Rattle.std.proofs.Common.{◌≡◌, ◌+◌, ◌++◌, ◌∙◌, ℕ, List, Option, append-nil, ap, length, length-append, sym}
use Rattle.std.proofs.lemmas.Result.{on_ok_weaker}
use Rattle.devices.specs.Device.{Added, with_effect}
use Rattle.fork_program.specs.Journaling.{IsBegun, reference_lines}
use Rattle.fork_program.specs.UploadLog.{reference_line}
use Rattle.fork_program.specs.declared.log_reference.LogReference.{LogReference}
use Rattle.fork_program.proofs.BegunLemmas.{goes_on_by, has_line, has_more, if_ok_at, is_begun}
use Rattle.fork_program.proofs.draft.write_lines.Goals as goal
use Rattle.host_folder.specs.Appending.{bytes_at}
use Rattle.host_folder.specs.Journal.{first_line, journal_part}
use Rattle.host_folder.proofs.OtherLemmas.{line_length}

pub returns-in-None-clause-begun : goal.returns-in-None-clause-begun
returns-in-None-clause-begun g c honest unfailed =
    is_begun c.args.standing (g.J.Device.past c.args.device.now) (g.J.Device.past c.clear_journals.new.device) (g.J.Device.past c.begin_journal.new.device) unfailed (c.clear_journals.ensures.effects honest)
    (c.in_ok-begin_journal.ensures.effects (c.clear_journals.ensures.honest ∙ honest))

pub returns-in-Some-clause-begun : goal.returns-in-Some-clause-begun
returns-in-Some-clause-begun g c honest unfailed =
    let line = reference_line c.in-Some.reference.number c.in-Some.reference.len c.in-Some.reference.sum in
    let begun = is_begun c.args.standing (g.J.Device.past c.args.device.now) (g.J.Device.past c.clear_journals.new.device) (g.J.Device.past c.begin_journal.new.device) unfailed (c.clear_journals.ensures.effects honest)
    (c.in_ok-begin_journal.ensures.effects (c.clear_journals.ensures.honest ∙ honest)) in
    on_ok_weaker {P = g.J.Device.past c.refer.new.device ≡ with_effect (g.J.Device.past c.begin_journal.new.device) (Added journal_part line)} {Q = IsBegun (g.J.Device.past c.refer.new.device)} c.refer.result
    (λ is. goes_on_by (g.J.Device.past c.begin_journal.new.device) (g.J.Device.past c.refer.new.device) line is begun) (c.refer.ensures.effect (c.begin_journal.ensures.honest ∙ c.clear_journals.ensures.honest ∙ honest))

pub returns-in-None-clause-text : goal.returns-in-None-clause-text
returns-in-None-clause-text g c honest =
    has_line c.args.standing (g.J.Device.past c.clear_journals.new.device) (g.J.Device.past c.begin_journal.new.device) (c.in_ok-begin_journal.ensures.effects (c.clear_journals.ensures.honest ∙ honest))
    ∙ sym (append-nil (first_line c.args.standing)) ∙ ap (λ (o : Option LogReference). first_line c.args.standing ++ reference_lines o) (sym c.in-None.is)

pub returns-in-Some-clause-text : goal.returns-in-Some-clause-text
returns-in-Some-clause-text g c honest =
    let line = reference_line c.in-Some.reference.number c.in-Some.reference.len c.in-Some.reference.sum in
    let first = has_line c.args.standing (g.J.Device.past c.clear_journals.new.device) (g.J.Device.past c.begin_journal.new.device) (c.in_ok-begin_journal.ensures.effects (c.clear_journals.ensures.honest ∙ honest)) in
    on_ok_weaker {P = g.J.Device.past c.refer.new.device ≡ with_effect (g.J.Device.past c.begin_journal.new.device) (Added journal_part line)} {Q = bytes_at journal_part (g.J.Device.past c.refer.new.device) ≡ first_line c.args.standing ++ reference_lines c.args.reference} c.refer.result
    (λ is. has_more (g.J.Device.past c.begin_journal.new.device) (g.J.Device.past c.refer.new.device) line is ∙ ap (λ (b : List ℕ). b ++ line) first ∙ ap (λ (o : Option LogReference). first_line c.args.standing ++ reference_lines o) (sym c.in-Some.is))
    (c.refer.ensures.effect (c.begin_journal.ensures.honest ∙ c.clear_journals.ensures.honest ∙ honest))

pub returns-in-None-clause-start : goal.returns-in-None-clause-start
returns-in-None-clause-start g c =
    sym (line_length c.args.standing c.as_bytes-name.ensures.name) ∙ ap length (sym (append-nil (first_line c.args.standing))) ∙ ap (λ (o : Option LogReference). length (first_line c.args.standing ++ reference_lines o)) (sym c.in-None.is)

pub returns-in-Some-clause-start : goal.returns-in-Some-clause-start
returns-in-Some-clause-start g c =
    let line = reference_line c.in-Some.reference.number c.in-Some.reference.len c.in-Some.reference.sum in
    let whole : 75 + length line ≡ length (first_line c.args.standing ++ reference_lines c.args.reference) =
    ap (λ (n : ℕ). n + length line) (sym (line_length c.args.standing c.as_bytes-name.ensures.name)) ∙ sym (length-append (first_line c.args.standing) line)
    ∙ ap (λ (o : Option LogReference). length (first_line c.args.standing ++ reference_lines o)) (sym c.in-Some.is) in
    if_ok_at (λ n. n ≡ length (first_line c.args.standing ++ reference_lines c.args.reference)) c.refer.result (75 + length line) whole c.refer.ensures.start
