use Rattle.git_object.proofs.TagInLemmas.{tag_in_is, is_tag_in}
use Rattle.git_object.proofs.laws.tests_find_the_tag.Goals as goal

pub returns-clause-found : goal.returns-clause-found
returns-clause-found c = λ bytes tag h. is_tag_in bytes tag h

pub returns-clause-only : goal.returns-clause-only
returns-clause-only c = λ bytes tag is. tag_in_is bytes tag is
