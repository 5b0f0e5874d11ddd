use Rattle.std.proofs.Common.{◌∷◌, ◌++◌, [], append_assoc, decimal, length, subst}
use Rattle.std.proofs.lemmas.Result.{err_from_is_err_and, on_err_weaker}
use Rattle.fork_frame.specs.Reply.{WritesFront}
use Rattle.fork_frame.proofs.WritingLemmas.{front_before, front_behind}
use Rattle.fork_frame.proofs.reply.send_bytes.Goals as goal

pub returns-in_err-put_length-clause-err : goal.returns-in_err-put_length-clause-err
returns-in_err-put_length-clause-err g c =
    let told = err_from_is_err_and c.from_residual.result c.from_residual.ensures.1 in
    let old = g.W.Write.contents c.args.writer.now in
    let new = g.W.Write.contents c.put_length.new.writer in
    let line = decimal (length c.args.bytes.now) in
    rw told.1 (subst (WritesFront old new) (append_assoc line (10 ∷ []) c.args.bytes.now) (front_before old new (line ++ 10 ∷ []) c.args.bytes.now c.in_err-put_length.ensures.err))

pub returns-clause-err : goal.returns-clause-err
returns-clause-err g c =
    let old = g.W.Write.contents c.args.writer.now in
    let mid = g.W.Write.contents c.put_length.new.writer in
    let new = g.W.Write.contents c.send.new.writer in
    let line = decimal (length c.args.bytes.now) in
    on_err_weaker c.send.result (λ w. subst (WritesFront old new) (append_assoc line (10 ∷ []) c.args.bytes.now)
    (front_behind old mid new (line ++ 10 ∷ []) c.args.bytes.now c.in_ok-put_length.ensures.ok w)) c.send.ensures.err
