use Rattle.std.proofs.Common.{◌∙◌, sym, arith}
use Rattle.number_links.specs.Numbers.{has}
use Rattle.number_links.proofs.EnterLemmas.{enters_end, enters_new}
use Rattle.number_links.proofs.gathering.enter.Goals as goal

pub returns-then-contains : goal.returns-then-contains
returns-then-contains c =
    enters_end 4294967296 (has c.args.ends.now) c.args.n (has c.args.seen.now) c.args.waiting.now.items (has c.add.new.self) (sym c.contains.ensures ∙ c.if-contains.true) c.in_ok-add.ensures.ok

pub returns : goal.returns
returns c =
    enters_new 4294967296 (has c.args.ends.now) c.args.n (has c.args.seen.now) c.args.waiting.now.items (has c.add.new.self) c.push.new.self.items (omega arith) c.requires (sym c.contains.ensures ∙ c.if-contains.false) c.in_ok-add.ensures.ok c.in_ok-push.ensures.items
