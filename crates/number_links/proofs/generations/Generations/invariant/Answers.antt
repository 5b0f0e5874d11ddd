use Rattle.std.proofs.Common.{◌≤◌, length, subst}
use Rattle.number_links.proofs.GenerationPageLemmas.{words_few}
use Rattle.number_links.proofs.generations.Generations.invariant.Goals as goal

pub returns : goal.returns
returns c = subst (λ ws. length ws ≤ 4294967296) c.self.view_is (words_few c.self.inside.pages.items c.self.invariant)
