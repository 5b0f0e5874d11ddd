use Rattle.std.proofs.Common.{ap, sym, subst, ◌∙◌, ◌+◌, ◌≤◌, length}
use Rattle.push_stream.specs.declared.upload_limit.TheConstants.{MAX_UPLOAD}
use Rattle.push_stream.specs.declared.draft.Mark.{Mark}
use Rattle.push_stream.specs.Reading.{Reading, gained, read_on}
use Rattle.push_stream.proofs.OpenUploadLemmas.{back_same, has_of, held_back, held_on, kept_same, rolled_opens, rolled_reading, rolled_stands}
use Rattle.push_stream.proofs.open_upload.look_at.Goals as goal

pub read_piece-requires-clause-standing : goal.read_piece-requires-clause-standing
read_piece-requires-clause-standing c = rolled_stands c.args.kept.now c.args.draft.now c.roll_back.new.draft c.roll_back.ensures c.requires.held.stands

pub read_piece-requires-clause-opens : goal.read_piece-requires-clause-opens
read_piece-requires-clause-opens c = rolled_opens c.args.kept.now c.args.draft.now c.roll_back.new.draft c.roll_back.ensures c.requires.held.opens

pub read_piece-requires-clause-fits : goal.read_piece-requires-clause-fits
read_piece-requires-clause-fits c = subst (λ (m : Mark). m.count + length c.args.piece.now ≤ MAX_UPLOAD) (sym c.roll_back.ensures.mark) c.requires.fits

pub returns-in-Ok-clause-held : goal.returns-in-Ok-clause-held
returns-in-Ok-clause-held c = held_on c.args.kept.now c.args.draft.now c.roll_back.new.draft c.read_piece.new.draft c.requires.held c.roll_back.ensures c.in-Ok.ensures.grows c.in-Ok.ensures.standing c.in-Ok.ensures.opens

pub returns-in-Ok-clause-kept : goal.returns-in-Ok-clause-kept
returns-in-Ok-clause-kept c = kept_same c.args.kept.now c.args.draft.now c.roll_back.new.draft c.read_piece.new.draft (has_of c.args.kept.now c.args.draft.now c.requires.held) c.roll_back.ensures c.in-Ok.ensures.grows

pub returns-in-Ok-clause-looked : goal.returns-in-Ok-clause-looked
returns-in-Ok-clause-looked c = c.in-Ok.ensures.read ∙ ap (λ reading. read_on reading c.args.piece.now) (rolled_reading c.args.kept.now c.args.draft.now c.roll_back.new.draft c.roll_back.ensures)

pub returns-in-Ok-clause-gained : goal.returns-in-Ok-clause-gained
returns-in-Ok-clause-gained c = c.in-Ok.ensures.gained ∙ ap (λ (reading : Reading). gained reading.flow c.args.piece.now) (rolled_reading c.args.kept.now c.args.draft.now c.roll_back.new.draft c.roll_back.ensures)

pub returns-in-Err-clause-held : goal.returns-in-Err-clause-held
returns-in-Err-clause-held c = held_back c.args.kept.now c.args.draft.now c.roll_back.new.draft c.read_piece.new.draft c.roll_back-in-Err.new.draft c.requires.held c.roll_back.ensures c.read_piece.ensures.grows c.roll_back-in-Err.ensures

pub returns-in-Err-clause-kept : goal.returns-in-Err-clause-kept
returns-in-Err-clause-kept c = back_same c.args.kept.now c.args.draft.now c.roll_back.new.draft c.read_piece.new.draft c.roll_back-in-Err.new.draft c.requires.held c.roll_back.ensures c.read_piece.ensures.grows c.roll_back-in-Err.ensures
