use Rattle.git_header.proofs.HeadersLemmas.{plain_values, values_plain}
use Rattle.git_header.proofs.header.are_plain.Goals as goal

pub returns : goal.returns
returns c = (λ yes. plain_values c.args.values.now (c.all_plain.ensures.0 yes), λ all. c.all_plain.ensures.1 (values_plain c.args.values.now all))
