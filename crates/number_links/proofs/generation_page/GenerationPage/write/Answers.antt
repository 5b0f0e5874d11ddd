use Rattle.std.proofs.Common.{◌∙◌, ap, arith, get_or, nat_eq, if◌then◌else◌}
use Rattle.number_links.proofs.GenerationPageLemmas.{word_set}
use Rattle.number_links.proofs.generation_page.GenerationPage.write.Goals as goal

pub returns-clause-ok : goal.returns-clause-ok
returns-clause-ok c i =
    ap (λ ws. get_or ws i 0) c.put.ensures ∙ word_set c.lengthen.new.words.items c.args.k c.args.word (let long = c.in_ok-lengthen.ensures.ok in omega (arith, long)) i
    ∙ ap (λ w. if nat_eq i c.args.k then c.args.word else w) (c.lengthen.ensures.words i ∙ ap (λ ws. get_or ws i 0) c.self.view_is)
