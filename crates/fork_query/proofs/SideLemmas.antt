-- Both sides of a list of items, item by item.
use Rattle.std.proofs.Common.{◌++◌, Result, Ok, Err}
use Rattle.fork_request.specs.declared.refusal.Refusal.{Refusal}
use Rattle.fork_query.specs.Sides.{Selection}

-- a selection, and then what others are
abbrev pub behind : Selection → Result Selection Refusal → Result Selection Refusal
behind front (Ok rest) = Ok (record { wanted = front.wanted ++ rest.wanted; excluded = front.excluded ++ rest.excluded })
behind front (Err refusal) = Err refusal
