use Rattle.std.proofs.Common.{◌≡◌, ℕ, List, IsTrue, sym, ap, subst, ◌∙◌}
use Rattle.std.specs.HashSet.{contains}
use Rattle.std.specs.FinMap.{retain_keys}
use Rattle.git_name.specs.Maps.{map_values}
use Rattle.git_name.specs.Same.{same_name}
use Rattle.fork_reach.specs.Hidden.{without}
use Rattle.fork_reach.specs.History.{note_of}
use Rattle.fork_reach.specs.Reach.{is_reached, parent_names}
use Rattle.fork_reach.specs.Source.{Objects}
use Rattle.fork_query.specs.Dates.{newest_first}
use Rattle.fork_query.proofs.BeyondLemmas.{dates_beyond}
use Rattle.fork_query.proofs.revisions.read_dates.Goals as goal

pub returns-in-Ok-clause-dates : goal.returns-in-Ok-clause-dates
returns-in-Ok-clause-dates g c = λ honest.
    let old = g.S.Source.state c.args.source.now in
    let mid = g.S.Source.state c.ancestors.new.source in
    let first = c.in_ok-hidden.ensures.asked in
    let hides = contains same_name c.in_ok-hidden.hidden in
    let wants = c.args.sides.now.wanted.items in
    let haves = c.args.sides.now.excluded.items in
    let history = c.in_ok-history.history in
    let hidden = subst (λ roots. (name : List ℕ) → hides name ≡ is_reached (parent_names old.objects) old.objects roots name) c.as_slice.ensures.value (c.in_ok-hidden.ensures.found honest) in
    let past = subst (λ roots. history ≡ map_values note_of (retain_keys mid.objects (is_reached (parent_names mid.objects) (without mid.objects hides) roots))) c.as_slice-2.ensures.value (c.in_ok-history.ensures.found (subst IsTrue (sym first.honest) honest)) in
    let read = subst (λ (all : Objects). history ≡ map_values note_of (retain_keys all (is_reached (parent_names all) (without all hides) wants))) (first.objects honest) past in
    c.in-Ok.ensures ∙ ap newest_first (dates_beyond (parent_names old.objects) old.objects hides wants haves history hidden read)
