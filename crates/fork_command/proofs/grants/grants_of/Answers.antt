use Rattle.std.proofs.Common.{◌∷◌, [], sym, ◌∙◌}
use Rattle.std.proofs.lemmas.List.Elements.{All-append, All-cons, All-nil}
use Rattle.fork_command.specs.Grant.{IsGrant}
use Rattle.fork_command.proofs.GrantLemmas.{all_words, first_bad, more_words}
use Rattle.fork_command.proofs.grants.grants_of.Goals as goal

pub returns-in_default-clause-err : goal.returns-in_default-clause-err
returns-in_default-clause-err c =
    first_bad c.loop-word.grants.items _ c.loop-word.word-index _ c.loop-word-test.true c.loop-word.invariant.0 c.loop-word.invariant.1
    (rw c.as_bytes.ensures.value at c.in_default.ensures.none)

pub loop-word-preserved : goal.loop-word-preserved
loop-word-preserved c =
    let right = All-append IsGrant c.loop-word.grants.items (c.in-Some.grant ∷ []) c.loop-word.invariant.0 (All-cons IsGrant c.in-Some.grant [] c.in-Some.ensures.found.0 (All-nil IsGrant)) in
    let spelled = more_words c.loop-word.grants.items c.in-Some.grant _ c.loop-word.word-index _ c.loop-word-test.true c.loop-word.invariant.1 (sym c.as_bytes.ensures.value ∙ c.in-Some.ensures.found.1) in
    rw c.in-Ok.ensures.items (right, spelled)

pub returns-clause-ok : goal.returns-clause-ok
returns-clause-ok c = all_words c.loop-word.grants.items _ c.loop-word.word-index c.loop-word-test.false c.loop-word.invariant.0 c.loop-word.invariant.1
