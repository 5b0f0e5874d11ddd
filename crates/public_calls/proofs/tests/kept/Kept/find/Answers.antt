use Rattle.std.proofs.Common.{sym, ◌∙◌}
use Rattle.git_name.proofs.Names.{name_total}
use Rattle.git_name.proofs.TreeMaps.{get_of_entries}
use Rattle.public_calls.proofs.tests.kept.Kept.find.Goals as goal

pub returns : goal.returns
returns c = c.get.ensures.value ∙ sym (get_of_entries name_total c.args.self.now.objects.entries c.args.name)
