use Rattle.std.proofs.Common.{◌≡◌, ◌<◌, ◌++◌, ◌∷◌, [], ap, length, map, refl, rules, sym, take, ◌∙◌}
use Rattle.std.specs.List.{zip}
use Rattle.std.proofs.lemmas.Option.{slice_get_read}
use Rattle.fork_query.specs.Dates.{noted_date, reverse}
use Rattle.fork_query.proofs.DateLemmas.{one_more, sorted_found}
use Rattle.fork_query.proofs.revisions.dates_of.Goals as goal

pub loop-at-preserved : goal.loop-at-preserved
loop-at-preserved c =
    let names = c.commits.result.0.now in
    let notes = c.commits.result.1.now in
    let at = c.loop-at.at in
    let name = c.index-names-at.result in
    let note = c.index-notes-at.result in
    let in_names : at < length names = search rules in
    let in_notes : at < length notes = search rules in
    let named = slice_get_read names (length names) at name refl in_names c.index-names-at.is in
    let noted = slice_get_read notes (length notes) at note refl in_notes c.index-notes-at.is in
    c.in_ok-push.ensures.items ∙ ap (λ dates. dates ++ record { seconds = reverse c.seconds.result; name = name } ∷ []) c.loop-at.invariant
    ∙ ap (λ seconds. map noted_date (take at (zip names notes)) ++ record { seconds = reverse seconds; name = name } ∷ []) c.seconds.ensures
    ∙ sym (one_more names notes at name note named noted)

pub returns : goal.returns
returns c =
    let names = c.commits.result.0.now in
    let notes = c.commits.result.1.now in
    let all : c.loop-at.at ≡ length names = search rules in
    sorted_found c.args.history names notes c.loop-at.dates.items c.sort_unstable.new.self.items c.commits.ensures.entries c.commits.ensures.each
    (c.loop-at.invariant ∙ ap (λ n. map noted_date (take n (zip names notes))) all) c.sort_unstable.ensures.permutation c.sort_unstable.ensures.sorted
