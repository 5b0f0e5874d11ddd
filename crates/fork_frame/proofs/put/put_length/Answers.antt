use Rattle.std.proofs.Common.{◌∷◌, [], decimal, subst, ◌∙◌}
use Rattle.std.specs.Io.KnownBytes.{Appends}
use Rattle.std.proofs.lemmas.Result.{err_from_is_err_and, on_err_weaker}
use Rattle.fork_frame.specs.Reply.{WritesFront}
use Rattle.fork_frame.proofs.WritingLemmas.{front_before, front_behind}
use Rattle.fork_frame.proofs.put.put_length.Goals as goal

pub returns-in_err-put-clause-err : goal.returns-in_err-put-clause-err
returns-in_err-put-clause-err g c =
    let told = err_from_is_err_and c.from_residual.result c.from_residual.ensures.1 in
    let old = g.W.Write.contents c.args.writer.now in
    let new = g.W.Write.contents c.put.new.writer in
    rw told.1 (front_before old new (decimal c.args.len) (10 ∷ []) (subst (WritesFront old new) (c.as_bytes.ensures.value ∙ c.format.ensures.text) c.in_err-put.ensures.err))

pub returns-clause-err : goal.returns-clause-err
returns-clause-err g c =
    let old = g.W.Write.contents c.args.writer.now in
    let mid = g.W.Write.contents c.put.new.writer in
    on_err_weaker c.put-2.result (front_behind old mid (g.W.Write.contents c.put-2.new.writer) (decimal c.args.len) (10 ∷ [])
    (subst (Appends old mid) (c.as_bytes.ensures.value ∙ c.format.ensures.text) c.in_ok-put.ensures.ok)) c.put-2.ensures.err
