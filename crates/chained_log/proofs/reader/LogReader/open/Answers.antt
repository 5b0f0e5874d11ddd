use Rattle.std.proofs.Common.{◌≡◌, ◌+◌, ℕ, List, length, slice_range, arith, ap, ◌∙◌}
use Rattle.chained_log.proofs.LeftLemmas.{opened, room_of}
use Rattle.chained_log.proofs.reader.LogReader.open.Goals as goal

pub slice_bounds-copy_from_slice-end-2 : goal.slice_bounds-copy_from_slice-end-2
slice_bounds-copy_from_slice-end-2 g c =
    let room = room_of c.args.self.now.sum c.args.self.now.came.items c.args.len c.requires.piece in
    let size : length c.deref.result.now ≡ length c.args.self.now.came.items = ap (λ (l : List ℕ). length l) c.deref.ensures.value in
    omega (arith, room, size)

pub returns-clause-left : goal.returns-clause-left
returns-clause-left g c =
    let log = c.args.self.now in
    opened (g.R.Read.remaining log.reader) log.sum c.copy_from_slice.new.self log.came.items c.args.len log.at log.end log.ended log.one_piece c.requires.none.0 c.requires.none.1 c.requires.none.2 c.requires.piece
    (c.copy_from_slice.ensures.after ∙ ap (λ (l : List ℕ). slice_range l (36 + c.args.len) (36 + c.args.len + 32)) c.deref.ensures.value)
