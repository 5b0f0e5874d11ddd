use Rattle.std.proofs.Common.{rules, sym, ◌∙◌, ap}
use Rattle.git_name.specs.Name.{name_in}
use Rattle.git_name.proofs.ReadingLemmas.{no_name, name_in-encode_lower}
use Rattle.git_name.proofs.name.Name.parse_hex.Goals as goal

pub returns-in_default-clause-value : goal.returns-in_default-clause-value
returns-in_default-clause-value c = sym (no_name c.args.text.now c.in_default.ensures.none)

pub returns-clause-value : goal.returns-clause-value
returns-clause-value c = sym (ap name_in c.in-Some.ensures.found ∙ name_in-encode_lower c.in-Some.bytes (search rules))
