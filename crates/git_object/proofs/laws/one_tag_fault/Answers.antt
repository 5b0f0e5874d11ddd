use Rattle.git_object.proofs.WholeLemmas as whole
use Rattle.git_object.proofs.laws.one_tag_fault.Goals as goal

pub returns-clause-one : goal.returns-clause-one
returns-clause-one c = λ bytes f g one two. whole.one_tag_fault bytes f g one two

pub returns-clause-none : goal.returns-clause-none
returns-clause-none c = λ bytes v f is wrong. whole.no_tag f bytes v is wrong
