use Rattle.std.proofs.Common.{◌++◌, ◌-◌, ◌≤◌, List, take, drop, get_or, sym, ap, subst, ◌∙◌, []}
use Rattle.shared_map.specs.Building.{changed}
use Rattle.shared_map.specs.Chunks.{Entries, joined}
use Rattle.shared_map.proofs.MapLemmas.{rebuilt_is, rest_of}
use Rattle.shared_map.proofs.building.rebuilt.Goals as goal

pub returns-clause-joined : goal.returns-clause-joined
returns-clause-joined c =
    let cs = c.args.chunks.now in
    let first = c.first_to_join-first.result in
    let past = c.past_to_join-past.result in
    let at = c.args.at in
    let next = c.min.result in
    let middle = changed (get_or cs at []) c.args.spot.now c.args.key.now c.args.value.now in
    rebuilt_is cs first at next past middle c.share_chunks.new.out.items c.push_parts.new.out.items c.share_chunks-2.new.out.items c.as_slice.result.now
    c.first_to_join-first.ensures c.requires.within c.min.ensures (subst (λ n. n ≤ past) (sym c.min.ensures) c.past_to_join-past.ensures.next)
    (c.in_ok-share_chunks.ensures ∙ ap (λ (l : List Entries). l ++ take first cs) c.in_ok-new.ensures.items)
    (c.as_slice.ensures.value ∙ c.in_ok-share_entries-2.ensures ∙ ap (λ (l : Entries). l ++ joined (take (past - next) (drop next cs)))
    (c.in_ok-put.ensures ∙ ap (λ (es : Entries). c.share_entries.new.out.items ++ changed es c.args.spot.now c.args.key.now c.args.value.now) c.entries_at.ensures
    ∙ ap (λ (l : Entries). l ++ middle) (c.in_ok-share_entries.ensures ∙ ap (λ (l : Entries). l ++ joined (take (at - first) (drop first cs))) c.new-entries.ensures.items)))
    c.in_ok-push_parts.ensures.joined
    (c.in_ok-share_chunks-2.ensures ∙ ap (λ (l : List Entries). c.push_parts.new.out.items ++ l) (rest_of past cs))
