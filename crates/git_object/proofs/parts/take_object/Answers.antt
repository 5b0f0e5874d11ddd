use Rattle.std.proofs.Common.{sym, subst}
use Rattle.git_header.specs.Judging.{IsFirstFault}
use Rattle.git_object.specs.Fault.{AtObject, tag_grammar}
use Rattle.git_object.proofs.TagLemmas.{object_fault}
use Rattle.git_object.proofs.parts.take_object.Goals as goal

pub returns-in-Err-clause-exact : goal.returns-in-Err-clause-exact
returns-in-Err-clause-exact c = subst (λ w. IsFirstFault tag_grammar AtObject w c.args.text.now) (sym c.from.ensures) (object_fault c.in-Err.fault c.args.text.now c.in-Err.ensures.exact)
