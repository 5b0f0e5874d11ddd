use Rattle.std.proofs.Common.{sym, ap, ◌∙◌}
use Rattle.fork_request.specs.Asked.{asked_words}
use Rattle.fork_request.proofs.WordLemmas.{verb_many}
use Rattle.fork_request.proofs.request.read_line.Goals as goal

pub returns-in-Some : goal.returns-in-Some
returns-in-Some c =
    c.read_words.ensures ∙ sym (verb_many c.in-Some.verb.now c.in-Some.words.now c.args.body.now)
    ∙ sym (ap (λ words. asked_words words c.args.body.now) c.in-Some.ensures.more)
