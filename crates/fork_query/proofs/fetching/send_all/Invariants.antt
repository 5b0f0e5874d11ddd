use Rattle.std.proofs.Common.{◌≡◌, ◌++◌, None, IsTrue}
use Rattle.std.specs.List.{flat_map}
use Rattle.fork_reach.specs.Faults.{IsAsked}
use Rattle.fork_query.specs.Fetch.{record_named}
use Rattle.fork_query.specs.Objects.{AreRecords}
use Rattle.fork_query.proofs.fetching.send_all.Given as goal

-- the source was asked without a fault; the records so far, and then those of the names that are left
abbrev pub invariant-loop-name : goal.invariant-loop-name
invariant-loop-name g l =
    let old = g.S.Source.state l.fn.source in
    record {
      asked : IsAsked old (g.S.Source.state l.source) None;
      named : AreRecords l.text.items;
      sent : IsTrue old.honest → l.text.items ++ flat_map (record_named old.objects) l.name-iterator.rest.items ≡ flat_map (record_named old.objects) l.fn.names.items;
    }
