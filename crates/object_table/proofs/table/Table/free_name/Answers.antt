use Rattle.std.proofs.Common.{◌≡◌, ◌<◌, inl, inr, [], List, ℕ, sym, subst, ap, ◌∙◌, arith}
use Rattle.std.specs.Prelude.{nat_lt, if◌then◌else◌}
use Rattle.std.specs.Map.{keys_of}
use Rattle.object_table.proofs.PlaceLemmas.{nothing_next, next_of, count_at, looked_is}
use Rattle.object_table.specs.Rows.{TableState, count_in, LooksNextAt, places_of}
use Rattle.object_table.proofs.table.Table.free_name.Goals as goal

pub returns-in_default-clause-none : goal.returns-in_default-clause-none
returns-in_default-clause-none c =
    let inside : TableState = record { entries = c.self.inside.rows.entries; place = c.self.inside.place } in
    let at = c.looked_place-at.ensures ∙ ap (λ n. if nat_lt inside.place n then inside.place else 0) c.len.ensures.len in
    inl (subst (λ (s : TableState). keys_of s.entries ≡ []) c.self.view_is (nothing_next inside c.looked_place-at.result at (sym c.entry_at.ensures ∙ c.in_default.is)))

pub returns-then-entry-gt0-clause-none : goal.returns-then-entry-gt0-clause-none
returns-then-entry-gt0-clause-none c =
    let inside : TableState = record { entries = c.self.inside.rows.entries; place = c.self.inside.place } in
    let at = c.looked_place-at.ensures ∙ ap (λ n. if nat_lt inside.place n then inside.place else 0) c.len.ensures.len in
    let counted = count_at inside.entries c.looked_place-at.result c.in-Some.entry c.self.invariant.0.distinct (sym c.in-Some.ensures) in
    inr (subst (λ (s : TableState). (name : List ℕ) × LooksNextAt (places_of s) name × (0 < count_in s.entries name)) c.self.view_is
    (c.in-Some.entry.0, next_of inside c.looked_place-at.result c.in-Some.entry (sym c.in-Some.ensures) (looked_is inside c.looked_place-at.result at), subst (λ n. 0 < n) (sym counted) c.if-entry-gt0.true))

pub returns-else-entry-gt0-clause-some : goal.returns-else-entry-gt0-clause-some
returns-else-entry-gt0-clause-some c =
    let inside : TableState = record { entries = c.self.inside.rows.entries; place = c.self.inside.place } in
    let at = c.looked_place-at.ensures ∙ ap (λ n. if nat_lt inside.place n then inside.place else 0) c.len.ensures.len in
    let counted = count_at inside.entries c.looked_place-at.result c.in-Some.entry c.self.invariant.0.distinct (sym c.in-Some.ensures) in
    subst (λ (s : TableState). LooksNextAt (places_of s) c.in-Some.entry.0 × (count_in s.entries c.in-Some.entry.0 ≡ 0)) c.self.view_is
    (next_of inside c.looked_place-at.result c.in-Some.entry (sym c.in-Some.ensures) (looked_is inside c.looked_place-at.result at), omega (arith, counted, c.if-entry-gt0.false))
