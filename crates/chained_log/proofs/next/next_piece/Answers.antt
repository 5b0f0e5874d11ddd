use Rattle.std.proofs.Common.{length, take, ap, sym, ◌∙◌}
use Rattle.chained_log.proofs.SumLemmas.{sum_is}
use Rattle.chained_log.proofs.NextLemmas.{altered_head, altered_sum, begins_piece, cut_in_head, cut_in_length, cut_in_piece, cut_in_sum}
use Rattle.chained_log.proofs.NextPartsLemmas.{after_head, after_length, after_piece}
use Rattle.chained_log.proofs.next.next_piece.Goals as goal

pub returns-then-left-lt-LENGTH : goal.returns-then-left-lt-LENGTH
returns-then-left-lt-LENGTH c = cut_in_length c.args.before.now c.args.left.now c.length_at-len.result c.length_at-len.type_inv c.if-left-lt-LENGTH.true c.length_at-len.ensures

pub returns-then-not-agrees : goal.returns-then-not-agrees
returns-then-not-agrees c =
    altered_head c.args.before.now c.args.left.now c.split_at.result.1.now c.length_at-len.result c.length_at-len.type_inv
    (after_length c.args.left.now c.split_at.result.1.now c.length_at-len.result c.if-left-lt-LENGTH.false c.length_at-len.ensures c.split_at.ensures.back)
    (λ same. let yes = c.agrees.ensures.1 (same ∙ ap (take (length c.split_at.result.1.now)) (sym c.head_of-head.ensures)) in let no : ⊥ = (let bad = sym yes ∙ c.if-not-agrees.true in cc) in no)

pub returns-then-rest-lt-SUM : goal.returns-then-rest-lt-SUM
returns-then-rest-lt-SUM c =
    cut_in_head c.args.before.now c.args.left.now c.split_at.result.1.now c.length_at-len.result c.length_at-len.type_inv
    (after_length c.args.left.now c.split_at.result.1.now c.length_at-len.result c.if-left-lt-LENGTH.false c.length_at-len.ensures c.split_at.ensures.back)
    c.if-rest-lt-SUM.true
    (c.agrees.ensures.0 c.if-not-agrees.false ∙ ap (take (length c.split_at.result.1.now)) c.head_of-head.ensures)

pub returns-then-rest-len : goal.returns-then-rest-len
returns-then-rest-len c =
    cut_in_piece c.args.before.now c.args.left.now c.split_at-2.result.1.now c.length_at-len.result c.length_at-len.type_inv
    (after_head c.args.before.now c.args.left.now c.split_at.result.1.now c.split_at-2.result.1.now c.length_at-len.result
    (after_length c.args.left.now c.split_at.result.1.now c.length_at-len.result c.if-left-lt-LENGTH.false c.length_at-len.ensures c.split_at.ensures.back)
    c.if-rest-lt-SUM.false
    (c.agrees.ensures.0 c.if-not-agrees.false ∙ ap (take (length c.split_at.result.1.now)) c.head_of-head.ensures)
    c.split_at-2.ensures.back)
    c.if-rest-len.true

pub returns-then-not-follows : goal.returns-then-not-follows
returns-then-not-follows c =
    altered_sum c.args.before.now c.args.left.now c.split_at-3.result.0.now c.split_at-3.result.1.now c.length_at-len.result c.length_at-len.type_inv c.split_at-3.ensures.front_len
    (after_piece c.args.before.now c.args.left.now c.split_at-2.result.1.now c.split_at-3.result.0.now c.split_at-3.result.1.now c.length_at-len.result
    (after_head c.args.before.now c.args.left.now c.split_at.result.1.now c.split_at-2.result.1.now c.length_at-len.result
    (after_length c.args.left.now c.split_at.result.1.now c.length_at-len.result c.if-left-lt-LENGTH.false c.length_at-len.ensures c.split_at.ensures.back)
    c.if-rest-lt-SUM.false
    (c.agrees.ensures.0 c.if-not-agrees.false ∙ ap (take (length c.split_at.result.1.now)) c.head_of-head.ensures)
    c.split_at-2.ensures.back)
    c.split_at-3.ensures.front c.split_at-3.ensures.back)
    (λ kind same. let yes = c.follows.ensures.1 (kind, same ∙ ap (take (length c.split_at-3.result.1.now)) (sym (sum_is kind c.args.before.now c.split_at-3.result.0.now c.head_of-head.result c.length_at-len.result c.split_at-3.ensures.front_len c.head_of-head.ensures))) in let no : ⊥ = (let bad = sym yes ∙ c.if-not-follows.true in cc) in no)

pub returns-then-rest-lt-SUM-2 : goal.returns-then-rest-lt-SUM-2
returns-then-rest-lt-SUM-2 c =
    let agreed = c.follows.ensures.0 c.if-not-follows.false in
    cut_in_sum agreed.0 c.args.before.now c.args.left.now c.split_at-3.result.0.now c.split_at-3.result.1.now c.length_at-len.result c.length_at-len.type_inv c.split_at-3.ensures.front_len
    (after_piece c.args.before.now c.args.left.now c.split_at-2.result.1.now c.split_at-3.result.0.now c.split_at-3.result.1.now c.length_at-len.result
    (after_head c.args.before.now c.args.left.now c.split_at.result.1.now c.split_at-2.result.1.now c.length_at-len.result
    (after_length c.args.left.now c.split_at.result.1.now c.length_at-len.result c.if-left-lt-LENGTH.false c.length_at-len.ensures c.split_at.ensures.back)
    c.if-rest-lt-SUM.false
    (c.agrees.ensures.0 c.if-not-agrees.false ∙ ap (take (length c.split_at.result.1.now)) c.head_of-head.ensures)
    c.split_at-2.ensures.back)
    c.split_at-3.ensures.front c.split_at-3.ensures.back)
    c.if-rest-lt-SUM-2.true
    (agreed.1 ∙ ap (take (length c.split_at-3.result.1.now)) (sum_is agreed.0 c.args.before.now c.split_at-3.result.0.now c.head_of-head.result c.length_at-len.result c.split_at-3.ensures.front_len c.head_of-head.ensures))

pub returns : goal.returns
returns c =
    let agreed = c.follows.ensures.0 c.if-not-follows.false in
    begins_piece agreed.0 c.args.before.now c.args.left.now c.split_at-3.result.0.now c.split_at-3.result.1.now c.length_at-len.result c.length_at-len.type_inv c.split_at-3.ensures.front_len
    (after_piece c.args.before.now c.args.left.now c.split_at-2.result.1.now c.split_at-3.result.0.now c.split_at-3.result.1.now c.length_at-len.result
    (after_head c.args.before.now c.args.left.now c.split_at.result.1.now c.split_at-2.result.1.now c.length_at-len.result
    (after_length c.args.left.now c.split_at.result.1.now c.length_at-len.result c.if-left-lt-LENGTH.false c.length_at-len.ensures c.split_at.ensures.back)
    c.if-rest-lt-SUM.false
    (c.agrees.ensures.0 c.if-not-agrees.false ∙ ap (take (length c.split_at.result.1.now)) c.head_of-head.ensures)
    c.split_at-2.ensures.back)
    c.split_at-3.ensures.front c.split_at-3.ensures.back)
    c.if-rest-lt-SUM-2.false
    (agreed.1 ∙ ap (take (length c.split_at-3.result.1.now)) (sum_is agreed.0 c.args.before.now c.split_at-3.result.0.now c.head_of-head.result c.length_at-len.result c.split_at-3.ensures.front_len c.head_of-head.ensures))
