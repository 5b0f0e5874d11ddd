use Rattle.std.proofs.Common.{◌≡◌, ◌+◌, ◌-◌, length, take, drop, ap, sym, ◌∙◌, arith, vec_len, length-take, length-drop}
use Rattle.fork_frame.proofs.ReadingLemmas.{grown_begins, kept_of_read}
use Rattle.fork_frame.proofs.reader.read_onto.Goals as goal

pub returns-clause-some : goal.returns-clause-some
returns-clause-some g c =
    let read = c.in_ok-n.ensures in
    let text = c.deref_mut.result.now in
    let at : c.len-at.result ≡ vec_len c.args.out.now = c.len-at.ensures in
    let grown = c.in-Ok.ensures.len in
    let size : length text ≡ c.len-at.result + c.args.most = c.deref_mut.ensures.len ∙ grown in
    let room : length c.read_some.new.buf ≡ c.args.most = c.read_some.auto.buf ∙ length-take (length text - c.len-at.result) (drop c.len-at.result text) ∙ simp length-drop (omega arith) in (
      take c.in_ok-n.n c.read_some.new.buf,
      sym read.bound.1,
      omega (arith, read.bound.0),
      read.bytes.0,
      c.truncate.ensures.items ∙ kept_of_read text c.args.out.now.items c.read_some.new.buf _ _ c.len-at.result c.in_ok-n.n c.resize.new.self.len
          (sym (at ∙ c.args.out.now.ok.0)) (ap (take c.len-at.result) (c.deref_mut.ensures.value ∙ c.in-Ok.ensures.items) ∙ grown_begins c.args.out.now.items _ c.len-at.result c.args.most (sym (at ∙ c.args.out.now.ok.0))) read.bound.0 (omega (arith, room, grown)),
    )
