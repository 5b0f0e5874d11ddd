use Rattle.std.proofs.Common.{◌∙◌}
use Rattle.std.specs.FinMap.{get}
use Rattle.packed_store.specs.Place.{segment_path}
use Rattle.packed_store.proofs.laws.what_lasts_is_left.Goals as goal

pub returns-clause-there : goal.returns-clause-there
returns-clause-there c past first last segment left lasting fits from to (names, may, stands) =
    lasting.there segment fits from to names may (get left (segment_path segment)) (stands (segment_path segment))

pub returns-clause-gone : goal.returns-clause-gone
returns-clause-gone c past first last segment left lasting fits none (names, may, stands) =
    lasting.gone segment fits none names may (get left (segment_path segment)) (stands (segment_path segment)) ∙ none

pub returns-clause-all : goal.returns-clause-all
returns-clause-all c past segment left lasting some fits (names, may, stands) =
    lasting segment some fits names may (get left (segment_path segment)) (stands (segment_path segment))
