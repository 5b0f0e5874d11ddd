use Rattle.std.proofs.Common.{◌≡◌, ◌≢◌, [], length, arith, ap}
use Rattle.std.proofs.lemmas.Result.{err_from_is_err_and}
use Rattle.std.proofs.lemmas.Grind.{common_steps}
use Rattle.git_header.specs.Header.{kind_at, NoHeader, header_grammar, IsOwnWord}
use Rattle.git_header.proofs.JudgingLemmas.{itself, fault_here, no_line_broken}
use Rattle.git_header.proofs.FieldLemmas.{usual, no_space_fault, no_key_fault, own_fault, key_right, behind_key_fault, header_of_lines}
use Rattle.git_header.proofs.header.Header.take.Goals as goal

pub returns-in_err-line-clause-exact : goal.returns-in_err-line-clause-exact
returns-in_err-line-clause-exact g c =
    let told = err_from_is_err_and c.from_residual.result c.from_residual.ensures.1 in
    rw (told.1, told.2) (fault_here (header_grammar (kind_at g.row.KIND)) NoHeader c.in_err-line.field-0.0 c.args.text.now
    (no_line_broken itself (header_grammar (kind_at g.row.KIND)) (usual (kind_at g.row.KIND)) c.in_err-line.field-0.0 NoHeader c.args.text.now c.in_err-line.ensures.exact (λ ends _. c.requires ends)))

pub returns-in_default-clause-exact : goal.returns-in_default-clause-exact
returns-in_default-clause-exact g c = no_space_fault (kind_at g.row.KIND) c.args.text.now c.in_ok-line.line.now c.in_ok-line.rest.now c.in_ok-line.ensures.found c.in_ok-line.ensures.plain c.in_default.ensures.none

pub returns-then-is_own_word-clause-exact : goal.returns-then-is_own_word-clause-exact
returns-then-is_own_word-clause-exact g c =
    own_fault (kind_at g.row.KIND) c.args.text.now c.in_ok-line.line.now c.in_ok-line.rest.now c.in-Some.key.now c.in-Some.value.now c.in_ok-line.ensures.found c.in_ok-line.ensures.plain c.in-Some.ensures.whole (c.is_own_word.ensures.0 c.if-is_own_word.true)

pub returns-then-is_empty-clause-exact : goal.returns-then-is_empty-clause-exact
returns-then-is_empty-clause-exact g c =
    let other : IsOwnWord (kind_at g.row.KIND) c.in-Some.key.now → ⊥ = λ own. let is = c.is_own_word.ensures.1 own in let no_such : ⊥ = cc (is, c.if-is_own_word.false) in no_such in
    let none : length c.in-Some.key.now ≡ 0 = grind (arith, common_steps) in
    no_key_fault (kind_at g.row.KIND) c.args.text.now c.in_ok-line.line.now c.in_ok-line.rest.now c.in-Some.key.now c.in-Some.value.now c.in_ok-line.ensures.found c.in_ok-line.ensures.plain c.in-Some.ensures.whole c.in-Some.ensures.first other none

pub returns-in_err-lines-clause-exact : goal.returns-in_err-lines-clause-exact
returns-in_err-lines-clause-exact g c =
    let other : IsOwnWord (kind_at g.row.KIND) c.in-Some.key.now → ⊥ = λ own. let is = c.is_own_word.ensures.1 own in let no_such : ⊥ = cc (is, c.if-is_own_word.false) in no_such in
    let some : c.in-Some.key.now ≢ [] = λ none. let len : length c.in-Some.key.now ≡ 0 = ap length none in let no_such : ⊥ = grind (arith, common_steps) in no_such in
    let told = err_from_is_err_and c.from_residual-in_err-lines.result c.from_residual-in_err-lines.ensures.1 in
    rw (told.1, told.2) (behind_key_fault (kind_at g.row.KIND) c.in_err-lines.field-0.0 c.in_ok-line.line.now c.in_ok-line.rest.now c.args.text.now c.in-Some.key.now c.in-Some.value.now c.in_ok-line.ensures.found c.in-Some.ensures.whole
    (key_right (kind_at g.row.KIND) c.in_ok-line.line.now c.in_ok-line.rest.now c.args.text.now c.in-Some.key.now c.in-Some.value.now c.in_ok-line.ensures.found c.in_ok-line.ensures.plain c.in-Some.ensures.whole c.in-Some.ensures.first other some)
    (c.in_err-lines.ensures.exact (kind_at g.row.KIND)))

pub invariant_of-result : goal.invariant_of-result
invariant_of-result g c =
    let other : IsOwnWord (kind_at g.row.KIND) c.in-Some.key.now → ⊥ = λ own. let is = c.is_own_word.ensures.1 own in let no_such : ⊥ = cc (is, c.if-is_own_word.false) in no_such in
    let some : c.in-Some.key.now ≢ [] = λ none. let len : length c.in-Some.key.now ≡ 0 = ap length none in let no_such : ⊥ = grind (arith, common_steps) in no_such in
    let right = key_right (kind_at g.row.KIND) c.in_ok-line.line.now c.in_ok-line.rest.now c.args.text.now c.in-Some.key.now c.in-Some.value.now c.in_ok-line.ensures.found c.in_ok-line.ensures.plain c.in-Some.ensures.whole c.in-Some.ensures.first other some in
    record { right = header_of_lines (kind_at g.row.KIND) c.in-Some.key.now c.in-Some.value.now c.in_ok-lines.lines.now _ right.0 right.1 c.in_ok-lines.ensures.found c.of_lines-more.ensures }

pub returns-clause-header : goal.returns-clause-header
returns-clause-header g c =
    let other : IsOwnWord (kind_at g.row.KIND) c.in-Some.key.now → ⊥ = λ own. let is = c.is_own_word.ensures.1 own in let no_such : ⊥ = cc (is, c.if-is_own_word.false) in no_such in
    let some : c.in-Some.key.now ≢ [] = λ none. let len : length c.in-Some.key.now ≡ 0 = ap length none in let no_such : ⊥ = grind (arith, common_steps) in no_such in
    let right = key_right (kind_at g.row.KIND) c.in_ok-line.line.now c.in_ok-line.rest.now c.args.text.now c.in-Some.key.now c.in-Some.value.now c.in_ok-line.ensures.found c.in_ok-line.ensures.plain c.in-Some.ensures.whole c.in-Some.ensures.first other some in
    header_of_lines (kind_at g.row.KIND) c.in-Some.key.now c.in-Some.value.now c.in_ok-lines.lines.now _ right.0 right.1 c.in_ok-lines.ensures.found c.of_lines-more.ensures
