use Rattle.std.proofs.Common.{◌≤◌, length, sym, arith}
use Rattle.std.proofs.lemmas.List.{length-take-le}
use Rattle.packed_store.proofs.reading.is_summed.Goals as goal

pub slice_bounds-is_hash-end : goal.slice_bounds-is_hash-end
slice_bounds-is_hash-end c =
    let long : 32 ≤ length c.split_at-parts.result.1.now = omega (arith, c.split_at-parts.ensures.back_len, c.if-bytes-end.false, c.if-bytes-lt-SUM.false) in
    sym (length-take-le 32 c.split_at-parts.result.1.now long)
