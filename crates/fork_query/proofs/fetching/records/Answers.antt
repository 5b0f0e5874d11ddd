use Rattle.std.proofs.Common.{◌≡◌, ℕ, List, IsTrue, sym, ap, subst, ◌∙◌}
use Rattle.std.specs.List.{flat_map}
use Rattle.std.specs.HashSet.{contains}
use Rattle.std.proofs.lemmas.Result.{IfOk-weaker}
use Rattle.git_name.specs.Same.{same_name}
use Rattle.fork_reach.specs.Reach.{is_between, linked_names}
use Rattle.fork_query.specs.Fetch.{fetched, record_named}
use Rattle.fork_query.proofs.BeyondLemmas.{names_beyond}
use Rattle.fork_query.proofs.fetching.records.Goals as goal

pub returns-clause-sent : goal.returns-clause-sent
unfolding fetched
returns-clause-sent g c = λ honest.
    let objects = (g.S.Source.state c.args.source.now).objects in
    let asked = c.in_ok-names.ensures.asked in
    let wants = c.args.sides.now.wanted.items in
    let haves = c.args.sides.now.excluded.items in
    let found = subst (λ roots. (name : List ℕ) → contains same_name c.in_ok-names.names name ≡ is_between (linked_names objects) objects roots haves name) c.as_slice.ensures.value
    (subst (λ roots. (name : List ℕ) → contains same_name c.in_ok-names.names name ≡ is_between (linked_names objects) objects c.as_slice.result.now roots name) c.as_slice-2.ensures.value (c.in_ok-names.ensures.found honest)) in
    IfOk-weaker c.records_of.result _ _ (λ text sent.
    sent.3 ∙ ap (λ all. flat_map (record_named all) sent.0) (asked.objects honest) ∙ ap (flat_map (record_named objects)) (names_beyond (linked_names objects) objects wants haves sent.0 sent.1 (λ name. sent.2 name ∙ found name)))
    (c.records_of.ensures.sent (subst IsTrue (sym asked.honest) honest))
