-- What an answer to a query reports.
use Rattle.std.specs.Prelude.{◌≡◌, Option, None, Some, Result, Ok, Err, ⊤}
use Rattle.fork_reach.specs.declared.source.SourceFault.{SourceFault}
use Rattle.fork_request.specs.declared.refusal.Refusal.{Refusal}
use Rattle.fork_query.specs.declared.query_error.QueryError.{QueryError}
use Rattle.fork_query.specs.declared.query_error.QueryError.TheVariants.{Refused, Failed}

-- it reports what was found, or the refusal; a fault says nothing about either
abbrev pub Tells : {A B : Type 0} → (B → A) → Result A Refusal → Result B QueryError → Type 0
Tells view found (Ok told) = found ≡ Ok (view told)
Tells view found (Err (Refused refusal)) = found ≡ Err refusal
Tells view found (Err (Failed fault)) = ⊤

-- the fault that it reports
abbrev pub query_fault : {B : Type 0} → Result B QueryError → Option SourceFault
query_fault (Ok told) = None
query_fault (Err (Refused refusal)) = None
query_fault (Err (Failed fault)) = Some fault
