use Rattle.git_object.specs.Held.{object_of}
use Rattle.git_object.proofs.ObjectInLemmas.{read_value, read_links}
use Rattle.git_object.proofs.ObjectLemmas.{only_object}
use Rattle.git_object.proofs.object.Object.read.Goals as goal

pub returns-clause-only : goal.returns-clause-only
returns-clause-only c value is = only_object object_of c.args.kind c.args.bytes.now c.parts_of.result value c.parts_of.ensures.found c.parts_of.ensures.exact is

pub returns-clause-value : goal.returns-clause-value
returns-clause-value c = read_value object_of c.args.kind c.args.bytes.now c.parts_of.result c.parts_of.ensures.found c.parts_of.ensures.exact

pub returns-clause-links : goal.returns-clause-links
returns-clause-links c = read_links object_of c.args.kind c.args.bytes.now c.parts_of.result c.parts_of.ensures.found c.parts_of.ensures.exact
