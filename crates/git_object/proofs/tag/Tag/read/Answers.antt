use Rattle.git_object.specs.Whole.{tag_of}
use Rattle.git_object.proofs.TagInLemmas.{read_value}
use Rattle.git_object.proofs.WholeLemmas.{only_one}
use Rattle.git_object.proofs.tag.Tag.read.Goals as goal

pub returns-clause-only : goal.returns-clause-only
returns-clause-only c value is = only_one tag_of c.args.bytes.now c.parts_of.result value c.parts_of.ensures.found c.parts_of.ensures.exact is

pub returns-clause-value : goal.returns-clause-value
returns-clause-value c = read_value tag_of c.args.bytes.now c.parts_of.result c.parts_of.ensures.found c.parts_of.ensures.exact
