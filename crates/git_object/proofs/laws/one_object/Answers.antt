use Rattle.git_object.proofs.ObjectLemmas as objects
use Rattle.git_object.proofs.laws.one_object.Goals as goal

pub returns-clause-one : goal.returns-clause-one
returns-clause-one c = λ kind bytes v w one two. objects.one_object kind bytes v w one two

pub returns-clause-none : goal.returns-clause-none
returns-clause-none c = λ kind bytes v f is wrong. objects.no_object f kind bytes v is wrong
