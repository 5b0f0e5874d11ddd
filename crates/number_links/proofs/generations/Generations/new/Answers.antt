use Rattle.std.proofs.Common.{◌∙◌, ap}
use Rattle.number_links.specs.Generations.{words_of}
use Rattle.number_links.proofs.GenerationPageLemmas.{no_words}
use Rattle.number_links.proofs.generations.Generations.new.Goals as goal

pub returns : goal.returns
returns c = ap words_of c.new.ensures.items ∙ no_words
