use Rattle.std.proofs.Common.{◌≡◌, ℕ, IsTrue, List, ap, map, subst, sym, ◌∙◌}
use Rattle.std.specs.HashSet.{contains}
use Rattle.std.specs.Prelude.{IfSome}
use Rattle.git_name.specs.Same.{same_name}
use Rattle.fork_reach.specs.Reach.{is_between, parent_names}
use Rattle.fork_reach.specs.Source.{Objects}
use Rattle.fork_query.specs.Dates.{date_at}
use Rattle.fork_query.proofs.BeyondLemmas.{dates_named}
use Rattle.fork_query.proofs.revisions.known_dates.Goals as goal

pub returns-clause-dates : goal.returns-clause-dates
returns-clause-dates g c = λ honest.
    let old = g.S.Source.state c.args.source.now in
    let mid = g.S.Source.state c.known_history.new.self in
    let first = c.in_ok-names.ensures.asked in
    let next = parent_names old.objects in
    let wants = c.args.sides.now.wanted.items in
    let haves = c.args.sides.now.excluded.items in
    let set = c.in-Some.names in
    let found = subst (λ o. IfSome o (λ found. (name : List ℕ) → contains same_name found name ≡ is_between next old.objects c.as_slice.result.now c.as_slice-2.result.now name)) c.in-Some.is (c.in_ok-names.ensures.found honest) in
    let listed = subst (λ roots. (name : List ℕ) → contains same_name set name ≡ is_between next old.objects roots haves name) c.as_slice.ensures.value
    (subst (λ roots. (name : List ℕ) → contains same_name set name ≡ is_between next old.objects c.as_slice.result.now roots name) c.as_slice-2.ensures.value found) in
    let told = subst (λ o. IfSome o (λ dates. dates.items ≡ map (date_at mid.objects) c.as_slice-3.result.now)) c.in-Some-2.is (c.in_ok-dates.ensures (subst IsTrue (sym first.honest) honest)) in
    let dates = subst (λ (all : Objects). c.in-Some-2.dates.items ≡ map (date_at all) c.as_slice-3.result.now) (first.objects honest) told in
    dates_named next old.objects wants haves set.keys c.in-Some-2.dates.items c.sorted.result.items c.as_slice-3.ensures.unique listed (dates ∙ ap (map (date_at old.objects)) c.as_slice-3.ensures.keys) c.sorted.ensures.moved c.sorted.ensures.sorted
