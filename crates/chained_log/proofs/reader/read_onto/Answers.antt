use Rattle.std.proofs.Common.{◌≡◌, ◌+◌, ◌-◌, length, take, drop, ap, sym, ◌∙◌, arith, vec_len, length-take, length-drop}
use Rattle.chained_log.proofs.ReadingLemmas.{grown_begins, kept_of_read}
use Rattle.chained_log.proofs.reader.read_onto.Goals as goal

pub returns-in-Ok-clause-some : goal.returns-in-Ok-clause-some
returns-in-Ok-clause-some g c =
    let read = c.in-Ok.ensures in
    let text = c.deref_mut.result.now in
    let at : c.len-at.result ≡ vec_len c.args.came.now = c.len-at.ensures in
    let grown = c.in_ok-resize.ensures.len in
    let size : length text ≡ c.len-at.result + c.args.most = c.deref_mut.ensures.len ∙ grown in
    let room : length c.read.new.buf ≡ c.args.most = c.read.auto.buf ∙ length-take (length text - c.len-at.result) (drop c.len-at.result text) ∙ simp length-drop (omega arith) in (
      take c.in-Ok.n c.read.new.buf,
      sym read.bound.1,
      omega (arith, read.bound.0),
      read.bytes.0,
      c.truncate.ensures.items ∙ kept_of_read text c.args.came.now.items c.read.new.buf _ _ c.len-at.result c.in-Ok.n c.resize.new.self.len
          (sym (at ∙ c.args.came.now.ok.0)) (ap (take c.len-at.result) (c.deref_mut.ensures.value ∙ c.in_ok-resize.ensures.items) ∙ grown_begins c.args.came.now.items _ c.len-at.result c.args.most (sym (at ∙ c.args.came.now.ok.0))) read.bound.0 (omega (arith, room, grown)),
    )
