use Rattle.std.proofs.Common.{◌||◌, ◌∙◌, ap, sym, nat_eq, not, arith}
use Rattle.std.proofs.lemmas.Bool.{and_from, and_left, and_right, not_from_false, not_from_true}
use Rattle.number_links.specs.Numbers.{has}
use Rattle.number_links.specs.Reach.{past}
use Rattle.number_links.proofs.SeeingLemmas.{sees_absent, sees_known, sees_new}
use Rattle.number_links.proofs.noting.note.Goals as goal

pub returns-then-contains : goal.returns-then-contains
returns-then-contains c =
    sees_known 4294967296 (past (has c.args.allowed.now) (has c.args.hidden.now)) c.args.n (has c.args.seen.now) c.args.waiting.now.items (sym c.contains.ensures ∙ c.if-contains.true)

pub returns-then-contains-2 : goal.returns-then-contains-2
returns-then-contains-2 c =
    sees_absent 4294967296 (past (has c.args.allowed.now) (has c.args.hidden.now)) c.args.n (has c.args.seen.now) c.args.waiting.now.items
    (and_left (not (has c.args.hidden.now c.args.n)) (has c.args.allowed.now c.args.n) (not_from_true (has c.args.hidden.now c.args.n) (sym c.contains-2.ensures ∙ c.if-contains-2.true)))

pub returns-then-not-contains : goal.returns-then-not-contains
returns-then-not-contains c =
    sees_absent 4294967296 (past (has c.args.allowed.now) (has c.args.hidden.now)) c.args.n (has c.args.seen.now) c.args.waiting.now.items
    (and_right (not (has c.args.hidden.now c.args.n)) (has c.args.allowed.now c.args.n) (sym c.contains-3.ensures ∙ c.if-not-contains.true))

pub returns : goal.returns
returns c =
    let n = c.args.n in
    sees_new 4294967296 (past (has c.args.allowed.now) (has c.args.hidden.now)) n (has c.args.seen.now) c.args.waiting.now.items (has c.insert.new.self) c.push.new.self.items (omega arith)
    (and_from (not (has c.args.hidden.now n)) (has c.args.allowed.now n) (not_from_false (has c.args.hidden.now n) (sym c.contains-2.ensures ∙ c.if-contains-2.false)) (sym c.contains-3.ensures ∙ c.if-not-contains.false))
    (sym c.contains.ensures ∙ c.if-contains.false) (λ q. c.insert.ensures.has c.in_ok-reserve.ensures.ok q ∙ ap (λ b. nat_eq q n || b) (c.reserve.ensures.has q)) c.in_ok-push.ensures.items
