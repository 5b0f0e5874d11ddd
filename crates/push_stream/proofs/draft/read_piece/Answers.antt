use Rattle.std.proofs.Common.{ap, sym, subst, ◌∙◌, ◌+◌, ◌≤◌, ◌++◌, rules, option_map, length}
use Rattle.std.proofs.lemmas.Result.{on_ok_weaker}
use Rattle.git_reftx.specs.declared.reading.TheConstants.{MAX_COMMANDS}
use Rattle.push_stream.specs.Again.{Opens}
use Rattle.push_stream.specs.Adding.{IsAdded}
use Rattle.push_stream.specs.Stream.{Breaks, Flows}
use Rattle.push_stream.proofs.OpenUploadLemmas.{added_read, added_stands, both_ok, broken_read, short_gained, short_read, short_stands}
use Rattle.push_stream.proofs.OpeningLemmas.{added_opens, breaks_opens, short_opens}
use Rattle.push_stream.proofs.draft.read_piece.Goals as goal

pub returns-then-is_some-clause-read : goal.returns-then-is_some-clause-read
returns-then-is_some-clause-read c = broken_read c.args.draft.now.mark.count c.args.draft.now.commands.items c.args.draft.now.sent.items c.args.draft.now.mark.headed _ c.args.piece.now c.args.draft.now.mark.fault (search rules)

pub returns-then-is_short-clause-read : goal.returns-then-is_short-clause-read
returns-then-is_short-clause-read c =
    short_read c.args.draft.now.mark.count c.args.draft.now.commands.items c.args.draft.now.sent.items c.args.draft.now.mark.headed c.args.draft.now.bytes.items c.args.piece.now c.extend_from_slice.new.self.items _ c.args.draft.now.mark.fault c.args.draft.now.mark.wanted
    (ap (option_map (λ rest. rest.items)) c.requires.whole) (search rules) (search rules) (c.in-Ok-extend_from_slice.ensures.items ∙ sym c.in-Ok.ensures.parted) c.requires.standing (search rules)

pub returns-then-is_short-clause-standing : goal.returns-then-is_short-clause-standing
returns-then-is_short-clause-standing c =
    short_stands c.args.draft.now.mark.count c.args.draft.now.commands.items c.args.draft.now.sent.items c.args.draft.now.mark.headed c.args.draft.now.bytes.items c.args.piece.now c.extend_from_slice.new.self.items _ c.args.draft.now.mark.fault c.args.draft.now.mark.wanted
    (ap (option_map (λ rest. rest.items)) c.requires.whole) (search rules) (c.in-Ok-extend_from_slice.ensures.items ∙ sym c.in-Ok.ensures.parted) c.requires.standing (search rules) c.requires.fits

pub returns-in-Ok-add-clause-read : goal.returns-in-Ok-add-clause-read
returns-in-Ok-add-clause-read c =
    let added = c.in-Ok-add.added in
    on_ok_weaker c.note-in-Ok-add.result (λ is. is ∙ added_read c.args.draft.now.mark.count c.args.draft.now.commands.items c.args.draft.now.sent.items c.args.draft.now.mark.headed c.args.draft.now.bytes.items c.args.piece.now c.extend_from_slice.new.self.items _ c.args.draft.now.mark.fault
    (Flows added.commands.items added.objects.items added.headed added.rest.items) (ap (option_map (λ rest. rest.items)) c.requires.whole) (search rules) (c.in-Ok-extend_from_slice.ensures.items ∙ sym c.in-Ok.ensures.parted) (search rules)) c.note-in-Ok-add.ensures.read

pub returns-in-Err-Fault-clause-read : goal.returns-in-Err-Fault-clause-read
returns-in-Err-Fault-clause-read c =
    added_read c.args.draft.now.mark.count c.args.draft.now.commands.items c.args.draft.now.sent.items c.args.draft.now.mark.headed c.args.draft.now.bytes.items c.args.piece.now c.extend_from_slice.new.self.items _ c.args.draft.now.mark.fault
    (Breaks c.in-Err-Fault.fault) (ap (option_map (λ rest. rest.items)) c.requires.whole) (search rules) (c.in-Ok-extend_from_slice.ensures.items ∙ sym c.in-Ok.ensures.parted) (search rules)

pub returns-then-is_short-clause-opens : goal.returns-then-is_short-clause-opens
returns-then-is_short-clause-opens c =
    short_opens c.args.draft.now.header.items c.args.draft.now.bytes.items c.args.piece.now c.extend_from_slice.new.self.items c.args.draft.now.mark.count c.args.draft.now.commands.items c.args.draft.now.sent.items c.args.draft.now.mark.headed _ c.args.draft.now.mark.fault c.args.draft.now.mark.wanted
    (ap (option_map (λ rest. rest.items)) c.requires.whole) (search rules) (search rules) (c.in-Ok-extend_from_slice.ensures.items ∙ sym c.in-Ok.ensures.parted) c.requires.standing (search rules) c.requires.opens

pub returns-then-is_short-clause-gained : goal.returns-then-is_short-clause-gained
returns-then-is_short-clause-gained c =
    short_gained c.args.draft.now.mark.count c.args.draft.now.commands.items c.args.draft.now.sent.items c.args.draft.now.mark.headed c.args.draft.now.bytes.items c.args.piece.now c.extend_from_slice.new.self.items _ c.args.draft.now.mark.fault c.args.draft.now.mark.wanted c.no_objects-then-is_short.result.objects.items
    (ap (option_map (λ rest. rest.items)) c.requires.whole) (search rules) (search rules) (c.in-Ok-extend_from_slice.ensures.items ∙ sym c.in-Ok.ensures.parted) c.requires.standing (search rules) c.no_objects-then-is_short.ensures.objects

pub returns-in-Ok-add-clause-opens : goal.returns-in-Ok-add-clause-opens
returns-in-Ok-add-clause-opens c =
    let added = c.in-Ok-add.added in
    on_ok_weaker c.note-in-Ok-add.result (λ is. subst Opens (sym is) (added_opens c.args.draft.now.header.items c.args.draft.now.bytes.items c.args.piece.now c.extend_from_slice.new.self.items c.args.draft.now.mark.count c.args.draft.now.commands.items c.args.draft.now.sent.items c.args.draft.now.mark.headed _ c.args.draft.now.mark.fault
    added.header.items added.rest.items added.commands.items added.objects.items added.headed (ap (option_map (λ rest. rest.items)) c.requires.whole) (search rules) (c.in-Ok-extend_from_slice.ensures.items ∙ sym c.in-Ok.ensures.parted) (search rules) (search rules) (search rules) (search rules) c.requires.opens)) c.note-in-Ok-add.ensures.opening

pub returns-in-Err-Fault-clause-opens : goal.returns-in-Err-Fault-clause-opens
returns-in-Err-Fault-clause-opens c =
    breaks_opens c.args.draft.now.header.items c.args.draft.now.bytes.items c.args.piece.now c.extend_from_slice.new.self.items c.args.draft.now.mark.count c.args.draft.now.commands.items c.args.draft.now.sent.items c.args.draft.now.mark.headed _ c.args.draft.now.mark.fault c.in-Err-Fault.fault
    (ap (option_map (λ rest. rest.items)) c.requires.whole) (search rules) (c.in-Ok-extend_from_slice.ensures.items ∙ sym c.in-Ok.ensures.parted) (search rules) c.requires.opens

-- what was added in turn
in_turn : (c : goal.After-note) → IsAdded c.args.draft.now.mark.headed (length c.args.draft.now.commands.items) (c.complete.new.bytes.items ++ c.in-Ok.left.now) c.in-Some.added
in_turn c = search rules

pub returns-in-Some-clause-read : goal.returns-in-Some-clause-read
returns-in-Some-clause-read c =
    let added = c.in-Some.added in
    on_ok_weaker c.note.result (λ is. is ∙ added_read c.args.draft.now.mark.count c.args.draft.now.commands.items c.args.draft.now.sent.items c.args.draft.now.mark.headed c.args.draft.now.bytes.items c.args.piece.now (c.complete.new.bytes.items ++ c.in-Ok.left.now) _ c.args.draft.now.mark.fault
    (Flows added.commands.items added.objects.items added.headed added.rest.items) (ap (option_map (λ rest. rest.items)) c.requires.whole) (search rules) (sym c.in-Ok.ensures.parted) (in_turn c).found) c.note.ensures.read

pub returns-in-Some-clause-standing : goal.returns-in-Some-clause-standing
returns-in-Some-clause-standing c =
    let turn = in_turn c in
    both_ok c.note.result (added_stands _ _ _ _ _ c.in-Some.added c.requires.fits turn.few turn.short turn.waits) c.note.ensures.read c.note.ensures.wanted

pub returns-in-Some-clause-opens : goal.returns-in-Some-clause-opens
returns-in-Some-clause-opens c =
    let added = c.in-Some.added in
    let turn = in_turn c in
    on_ok_weaker c.note.result (λ is. subst Opens (sym is) (added_opens c.args.draft.now.header.items c.args.draft.now.bytes.items c.args.piece.now (c.complete.new.bytes.items ++ c.in-Ok.left.now) c.args.draft.now.mark.count c.args.draft.now.commands.items c.args.draft.now.sent.items c.args.draft.now.mark.headed _ c.args.draft.now.mark.fault
    added.header.items added.rest.items added.commands.items added.objects.items added.headed (ap (option_map (λ rest. rest.items)) c.requires.whole) (search rules) (sym c.in-Ok.ensures.parted) turn.found turn.header turn.spelled turn.bare c.requires.opens)) c.note.ensures.opening

pub returns-in-Ok-add-clause-standing : goal.returns-in-Ok-add-clause-standing
returns-in-Ok-add-clause-standing c =
    let few : length c.args.draft.now.commands.items + length c.in-Ok-add.added.commands.items ≤ MAX_COMMANDS = search rules in
    both_ok c.note-in-Ok-add.result (added_stands _ _ _ _ _ c.in-Ok-add.added c.requires.fits few c.in-Ok-add.ensures.short c.in-Ok-add.ensures.waits) c.note-in-Ok-add.ensures.read c.note-in-Ok-add.ensures.wanted
