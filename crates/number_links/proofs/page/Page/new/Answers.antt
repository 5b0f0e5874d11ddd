use Rattle.std.proofs.Common.{ap, ◌∙◌}
use Rattle.number_links.specs.Numbers.{is_in}
use Rattle.number_links.proofs.PageLemmas.{zeros_lack}
use Rattle.number_links.proofs.page.Page.new.Goals as goal

pub returns : goal.returns
returns c q = ap (λ ws. is_in ws q) c.in_ok-words.ensures.ok ∙ zeros_lack 64 q
