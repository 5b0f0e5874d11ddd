use Rattle.std.proofs.Common.{◌&&◌, ◌-◌, None, not, nat_eq, get_or, slice_get, ◌∙◌, sym, ap, subst}
use Rattle.std.specs.Map.{keys_of}
use Rattle.std.specs.Prelude.{nat_lt, if◌then◌else◌}
use Rattle.git_name.specs.Same.{is_listed, same_name}
use Rattle.looks.specs.Places.{looked_at}
use Rattle.object_table.specs.Rows.{TableState, places_of, LooksNextAt, row_in}
use Rattle.object_table.proofs.PlaceLemmas.{entry_there, leaves, stays_within, looked_is, listed_left}
use Rattle.object_table.proofs.NumberLemmas.{inside_of, numbered_out}
use Rattle.object_table.proofs.table.Table.leave.Goals as goal

pub returns-clause-rows : goal.returns-clause-rows
returns-clause-rows c q =
    let inside : TableState = record { entries = c.self.inside.rows.entries; place = c.self.inside.place } in
    let at = looked_is inside c.looked_place-at.result (c.looked_place-at.ensures ∙ ap (λ n. if nat_lt inside.place n then inside.place else 0) c.len.ensures.len) in
    let next = subst (λ (s : TableState). LooksNextAt (places_of s) c.args.name) (sym c.self.view_is) c.requires.next in
    let there = entry_there inside.entries next.front next.back c.args.name next.whole in
    let here = ap (slice_get inside.entries) (at ∙ sym next.at) ∙ there.1 in
    (c.take_out.ensures.updates (c.args.name, there.0) here).0 q ∙ ap (λ (s : TableState). if same_name c.args.name q then None else row_in s.entries q) c.self.view_is

pub returns-clause-listed : goal.returns-clause-listed
returns-clause-listed c = λ q.
    let inside : TableState = record { entries = c.self.inside.rows.entries; place = c.self.inside.place } in
    let at = looked_is inside c.looked_place-at.result (c.looked_place-at.ensures ∙ ap (λ n. if nat_lt inside.place n then inside.place else 0) c.len.ensures.len) in
    let next = subst (λ (s : TableState). LooksNextAt (places_of s) c.args.name) (sym c.self.view_is) c.requires.next in
    let there = entry_there inside.entries next.front next.back c.args.name next.whole in
    let here = ap (slice_get inside.entries) (at ∙ sym next.at) ∙ there.1 in
    listed_left inside.entries c.take_out.new.rows.entries c.args.name q ((c.take_out.ensures.updates (c.args.name, there.0) here).0 q)
    ∙ ap (λ (s : TableState). not (same_name c.args.name q) && is_listed (keys_of s.entries) q) c.self.view_is

pub returns-clause-left : goal.returns-clause-left
returns-clause-left c = λ front back whole placed.
    let inside : TableState = record { entries = c.self.inside.rows.entries; place = c.self.inside.place } in
    let at = looked_is inside c.looked_place-at.result (c.looked_place-at.ensures ∙ ap (λ n. if nat_lt inside.place n then inside.place else 0) c.len.ensures.len) in
    let whole' = ap (λ (s : TableState). keys_of s.entries) c.self.view_is ∙ whole in
    let spot = placed ∙ ap (λ (s : TableState). looked_at (places_of s)) (sym c.self.view_is) ∙ sym at in
    let there = entry_there inside.entries front back c.args.name whole' in
    let here = ap (slice_get inside.entries) (sym spot) ∙ there.1 in
    leaves inside.entries c.take_out.new.rows.entries (c.args.name, there.0) c.looked_place-at.result front back (c.take_out.ensures.entries (c.args.name, there.0) here) whole' spot

pub invariant_of-self : goal.invariant_of-self
invariant_of-self c =
    let inside : TableState = record { entries = c.self.inside.rows.entries; place = c.self.inside.place } in
    let at = looked_is inside c.looked_place-at.result (c.looked_place-at.ensures ∙ ap (λ n. if nat_lt inside.place n then inside.place else 0) c.len.ensures.len) in
    let next = subst (λ (s : TableState). LooksNextAt (places_of s) c.args.name) (sym c.self.view_is) c.requires.next in
    let there = entry_there inside.entries next.front next.back c.args.name next.whole in
    let here = ap (slice_get inside.entries) (at ∙ sym next.at) ∙ there.1 in
    let rows = inside.entries in
    let back = stays_within rows c.take_out.new.rows.entries (c.args.name, there.0) c.looked_place-at.result next.front next.back (c.take_out.ensures.entries (c.args.name, there.0) here) next.whole (next.at ∙ sym at) in (
      numbered_out rows c.take_out.new.rows.entries c.self.inside.numbers.items c.self.inside.places.items c.switch.new.numbers.items c.switch.new.places.items c.looked_place-at.result (c.args.name, there.0) c.self.invariant.0 (inside_of rows c.looked_place-at.result (c.args.name, there.0) here) here
          (c.take_out.ensures.entries (c.args.name, there.0) here) c.switch.ensures.noted c.switch.ensures.long
          (λ i. c.switch.ensures.switched i ∙ ap (λ n. if nat_eq i (n - 1) then get_or c.self.inside.numbers.items c.looked_place-at.result 0 else (if nat_eq i c.looked_place-at.result then get_or c.self.inside.numbers.items (n - 1) 0 else get_or c.self.inside.numbers.items i 0)) c.len-last.ensures.len)
          c.take_out.ensures.distinct (c.take_out.ensures.updates (c.args.name, there.0) here).0,
      back,
    )
