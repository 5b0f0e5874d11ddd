use Rattle.std.proofs.Common.{is_some, ap, ◌∙◌}
use Rattle.git_name.specs.Same.{same_name}
use Rattle.git_name.proofs.PlaceLemmas.{placed}
use Rattle.git_name.proofs.nearby.Nearby.holds.Goals as goal

pub returns : goal.returns
returns c = c.is_some.ensures ∙ ap is_some c.place.ensures ∙ placed (same_name c.args.name) c.args.names.now.keys
