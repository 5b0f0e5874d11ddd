use Rattle.git_header.proofs.LineLemmas.{goes_on}
use Rattle.git_header.proofs.line.take_line.Goals as goal

pub returns-clause-found : goal.returns-clause-found
returns-clause-found c = record {
  parts = c.in-Some.ensures.whole;
  no_end = c.in-Some.ensures.first;
  some = goes_on c.args.text.now c.in-Some.line.now c.in-Some.rest.now c.in-Some.ensures.whole (λ ends. let is = c.is_ending.ensures.1 ends in let never : ⊥ = cc (is, c.if-is_ending.false) in never);
}
