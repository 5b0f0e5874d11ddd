use Rattle.std.proofs.Common.{not, rules}
use Rattle.std.proofs.lemmas.Fn.{filter_same}
use Rattle.number_links.specs.Numbers.{has}
use Rattle.number_links.specs.declared.kept.Kept.{Kept}
use Rattle.number_links.proofs.KeptLemmas.{all_without}
use Rattle.number_links.proofs.kept.let_go.Goals as goal

pub returns : goal.returns
returns c links are =
    all_without links c.args.n c.args.kept.now.items c.retain.new.self.items (filter_same _ (λ (one : Kept). not (has one.reached c.args.n)) _ (λ one b f' k. search rules) _ _ c.retain.ensures.filtered) are
