use Rattle.std.proofs.Common.{◌≡◌, ◌+◌, List, ℕ, arith, ◌∷◌, ◌++◌, [], append_assoc, decimal, length, subst, ap, ◌∙◌}
use Rattle.std.specs.Prelude.{codes}
use Rattle.std.proofs.lemmas.Result.{err_from_is_err_and, on_err_weaker}
use Rattle.fork_frame.specs.Reply.{WritesFront}
use Rattle.fork_frame.proofs.WritingLemmas.{front_before, front_behind}
use Rattle.fork_frame.proofs.reply.send_data.Goals as goal

-- the length of the data after its word
counted : (text : List ℕ) → 3 + length text ≡ length (codes "ok\n" ++ text)
counted text = omega arith

pub returns-in_err-put_length-clause-err : goal.returns-in_err-put_length-clause-err
returns-in_err-put_length-clause-err g c =
    let told = err_from_is_err_and c.from_residual.result c.from_residual.ensures.1 in
    let old = g.W.Write.contents c.args.writer.now in
    let new = g.W.Write.contents c.put_length.new.writer in
    let text = codes "ok\n" ++ c.args.text.now in
    let line = decimal (3 + length c.args.text.now) in
    let framed = append_assoc line (10 ∷ []) text ∙ ap (λ n. decimal n ++ 10 ∷ text) (counted c.args.text.now) in
    rw told.1 (subst (WritesFront old new) framed (front_before old new (line ++ 10 ∷ []) text c.in_err-put_length.ensures.err))

pub returns-in_err-put-clause-err : goal.returns-in_err-put-clause-err
returns-in_err-put-clause-err g c =
    let told = err_from_is_err_and c.from_residual-in_err-put.result c.from_residual-in_err-put.ensures.1 in
    let old = g.W.Write.contents c.args.writer.now in
    let mid = g.W.Write.contents c.put_length.new.writer in
    let new = g.W.Write.contents c.put.new.writer in
    let text = codes "ok\n" ++ c.args.text.now in
    let line = decimal (3 + length c.args.text.now) in
    let framed = append_assoc line (10 ∷ []) text ∙ ap (λ n. decimal n ++ 10 ∷ text) (counted c.args.text.now) in
    rw told.1 (subst (WritesFront old new) framed
    (front_behind old mid new (line ++ 10 ∷ []) text c.in_ok-put_length.ensures.ok (front_before mid new (codes "ok\n") c.args.text.now c.in_err-put.ensures.err)))

pub returns-clause-err : goal.returns-clause-err
returns-clause-err g c =
    let old = g.W.Write.contents c.args.writer.now in
    let mid = g.W.Write.contents c.put_length.new.writer in
    let ok = g.W.Write.contents c.put.new.writer in
    let new = g.W.Write.contents c.send.new.writer in
    let text = codes "ok\n" ++ c.args.text.now in
    let line = decimal (3 + length c.args.text.now) in
    let framed = append_assoc line (10 ∷ []) text ∙ ap (λ n. decimal n ++ 10 ∷ text) (counted c.args.text.now) in
    on_err_weaker c.send.result (λ w. subst (WritesFront old new) framed
    (front_behind old mid new (line ++ 10 ∷ []) text c.in_ok-put_length.ensures.ok (front_behind mid ok new (codes "ok\n") c.args.text.now c.in_ok-put.ensures.ok w))) c.send.ensures.err
