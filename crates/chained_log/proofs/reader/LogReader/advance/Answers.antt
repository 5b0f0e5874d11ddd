use Rattle.std.proofs.Common.{◌≤◌, arith, inl, inr}
use Rattle.std.proofs.KnownBytes.{Consumes-nil}
use Rattle.chained_log.proofs.LeftLemmas.{ends, none_behind}
use Rattle.chained_log.proofs.reader.LogReader.advance.Goals as goal

pub returns-in-Altered-clause-left : goal.returns-in-Altered-clause-left
returns-in-Altered-clause-left g c =
    let log = c.leave.new.self in
    let none = c.leave.ensures.none in
    let bytes = c.next_in.ensures.bytes in
    ends (g.R.Read.remaining log.reader) (g.R.Read.remaining c.next_in.new.reader) _ _ log.sum log.came.items bytes.0 log.at log.end log.ended c.in_ok-len.field-0
    c.leave.ensures.left none.0 none.1 none.2 c.in_ok-len.ensures.found (inr c.in-Altered.is) bytes.1 c.end_altered.ensures.left

pub returns-in-Cut-clause-left : goal.returns-in-Cut-clause-left
returns-in-Cut-clause-left g c =
    let log = c.leave.new.self in
    let none = c.leave.ensures.none in
    let bytes = c.next_in.ensures.bytes in
    let reader = g.R.Read.remaining c.next_in.new.reader in
    let empty : log.end ≤ log.at = omega arith in
    ends (g.R.Read.remaining log.reader) reader _ _ log.sum log.came.items bytes.0 log.at log.end log.ended c.in_ok-len.field-0
    c.leave.ensures.left none.0 none.1 none.2 c.in_ok-len.ensures.found (inl c.in-Cut.is) bytes.1
    (none_behind reader reader log.sum c.next_in.new.came.items _ log.at log.end c.ended_by.result empty (Consumes-nil reader))
