use Rattle.std.proofs.Common.{◌∷◌, ap, sym, ◌∙◌}
use Rattle.git_name.proofs.TextLemmas.{first_of_words}
use Rattle.push_stream.specs.Record.{head_of_words}
use Rattle.push_stream.proofs.record.read_head.Goals as goal

-- a fourth word makes it no record's line
pub returns-in-Some : goal.returns-in-Some
returns-in-Some c =
    let digits = c.in_ok-digits.digits.now in
    let word = c.in_ok-word.word.now in
    let fourth = first_of_words c.in-Some.field-0.1.now in
    let third = c.in-Some.ensures.more ∙ ap (λ words. c.in-Some.field-0.0.now ∷ words) fourth.2 in
    let all = c.in_ok-digits.ensures.more ∙ ap (λ words. digits ∷ words) (c.in_ok-word.ensures.more ∙ ap (λ words. word ∷ words) third) in
    sym (ap head_of_words all)
