use Rattle.std.proofs.Common.{◌≡◌, Ok, ap, ◌∙◌, sym}
use Rattle.std.proofs.lemmas.Result.{err_from_is_err_and}
use Rattle.git_tree.proofs.RowLemmas.{row_is_of}
use Rattle.git_tree.proofs.FaultLemmas.{no_tree}
use Rattle.git_tree.proofs.TestLemmas.{tree_in_is, no_tree_in}
use Rattle.git_tree.proofs.tree.entries.Goals as goal

pub returns-in_err-check-clause-value : goal.returns-in_err-check-clause-value
returns-in_err-check-clause-value c =
    let none = no_tree_in c.args.bytes.now (λ row tree. no_tree c.in_err-check.field-0.0 c.args.bytes.now row tree c.in_err-check.ensures.exact) in
    let is = err_from_is_err_and c.from_residual.result c.from_residual.ensures.1 in
    rw is.1 (sym none)

pub returns-in_err-check-clause-only : goal.returns-in_err-check-clause-only
returns-in_err-check-clause-only c row tree = absurd (no_tree c.in_err-check.field-0.0 c.args.bytes.now row tree c.in_err-check.ensures.exact)

pub returns-clause-value : goal.returns-clause-value
returns-clause-value c = sym (tree_in_is c.args.bytes.now c.new.result (rw c.new.ensures c.in_ok-check.ensures.found))

pub returns-clause-only : goal.returns-clause-only
returns-clause-only c row tree =
    let same : c.new.result ≡ row = c.new.ensures ∙ (row_is_of c.args.bytes.now row tree.are.each tree.spelling).0 in
    ap Ok same
