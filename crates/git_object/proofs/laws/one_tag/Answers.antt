use Rattle.git_object.proofs.WholeLemmas as whole
use Rattle.git_object.proofs.laws.one_tag.Goals as goal

pub returns : goal.returns
returns c = λ bytes v w one two. whole.one_tag bytes v w one two
