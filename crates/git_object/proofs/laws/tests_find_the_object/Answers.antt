use Rattle.git_object.proofs.ObjectInLemmas.{object_in_is, is_object_in}
use Rattle.git_object.proofs.laws.tests_find_the_object.Goals as goal

pub returns-clause-found : goal.returns-clause-found
returns-clause-found c = λ kind bytes object h. is_object_in kind bytes object h

pub returns-clause-only : goal.returns-clause-only
returns-clause-only c = λ kind bytes object is. object_in_is kind bytes object is
