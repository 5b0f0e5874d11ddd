use Rattle.std.proofs.Common.{◌≡◌, IfSome, subst, ◌∙◌}
use Rattle.std.specs.List.{AllByRecursion, flat_map}
use Rattle.fork_query.specs.Lent.{HasOwnName, IsLent, lent_names, record_lent}
use Rattle.fork_query.proofs.LentLemmas.{lent_are_records, lent_is_sent}
use Rattle.fork_query.proofs.lent.lent_records.Goals as goal

pub returns-clause-sent : goal.returns-clause-sent
returns-clause-sent g c =
    let state = g.S.Source.state c.args.source.now in
    let text = c.in_ok-write_all.field-0.items in
    let lent = c.in-Some.lent.items in
    let sorted = c.by_name-lent.result.items in
    let names = subst (λ all. IfSome all (λ lent. lent_names lent.items ≡ c.as_slice.result.now)) c.in-Some.is c.in_ok-lent.ensures.names in
    let all = subst (λ all. IfSome all (λ lent. AllByRecursion (IsLent state) lent.items)) c.in-Some.is c.in_ok-lent.ensures.lent in
    lent_is_sent state c.args.names.now.keys lent sorted text (names ∙ c.as_slice.ensures.keys) c.as_slice.ensures.unique all c.by_name-lent.ensures.moved c.by_name-lent.ensures.sorted
    (subst (λ all. AllByRecursion HasOwnName all → text ≡ flat_map record_lent all) c.as_slice-2.ensures.value c.in_ok-write_all.ensures)

pub returns-clause-named : goal.returns-clause-named
returns-clause-named g c =
    let state = g.S.Source.state c.args.source.now in
    let text = c.in_ok-write_all.field-0.items in
    let lent = subst (λ all. IfSome all (λ lent. AllByRecursion (IsLent state) lent.items)) c.in-Some.is c.in_ok-lent.ensures.lent in
    lent_are_records state c.in-Some.lent.items c.by_name-lent.result.items text lent c.by_name-lent.ensures.moved
    (subst (λ all. AllByRecursion HasOwnName all → text ≡ flat_map record_lent all) c.as_slice-2.ensures.value c.in_ok-write_all.ensures)
