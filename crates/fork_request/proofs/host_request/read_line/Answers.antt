use Rattle.std.proofs.Common.{sym, ap, ◌∙◌}
use Rattle.fork_request.specs.Asked.{host_words}
use Rattle.fork_request.proofs.WordLemmas.{host_many}
use Rattle.fork_request.proofs.host_request.read_line.Goals as goal

pub returns-in-Some : goal.returns-in-Some
returns-in-Some c =
    c.read_words.ensures ∙ sym (host_many c.in-Some.verb.now c.in-Some.words.now c.args.body.now)
    ∙ sym (ap (λ words. host_words words c.args.body.now) c.in-Some.ensures.more)
