use Rattle.std.proofs.Common.{◌∙◌}
use Rattle.fork_program.proofs.ReferenceLemmas.{same_word, words_are}
use Rattle.fork_program.proofs.log_reference.reference_in.Goals as goal

pub returns : goal.returns
returns c =
    words_are _ _ _ _ _ _ _ _ _ _ c.in-Some.ensures.whole (same_word _ _ c.if-ne.ensures ∙ c.as_slice.ensures) c.in-Some-split_once.ensures.whole c.in-Some-split_once-2.ensures.whole
    c.in-Some-decimal.ensures.found c.in-Some-decimal-2.ensures.found c.in-Some-parse_hex.ensures.found
