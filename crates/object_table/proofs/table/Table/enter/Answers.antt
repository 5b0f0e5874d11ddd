use Rattle.std.proofs.Common.{◌≡◌, ◌||◌, ◌∷◌, ◌++◌, [], ◌∙◌, ◌<◌, ◌+◌, length, length-append, get_or, sym, ap, refl, subst, rules, arith}
use Rattle.std.specs.Map.{keys_of}
use Rattle.std.proofs.lemmas.List.{get_or_read_under, map-append}
use Rattle.git_name.specs.declared.kind.Kind.TheVariants.{Blob}
use Rattle.git_name.specs.Same.{is_listed, same_name}
use Rattle.looks.specs.Growth.{GrowsAmong}
use Rattle.looks.specs.Places.{Places}
use Rattle.looks.proofs.GrowthLemmas.{grows_one}
use Rattle.object_table.specs.declared.row.Row.{Row}
use Rattle.object_table.specs.Rows.{IsUsed, TableState, places_of, row_in}
use Rattle.object_table.proofs.NumberLemmas.{fresh_number, fresh_row, kept_row, numbered_last}
use Rattle.object_table.proofs.PlaceLemmas.{listed_last, listed_lookup, listed_there, none_of}
use Rattle.object_table.proofs.table.Table.enter.Goals as goal

pub returns-then-has_row-clause-listed : goal.returns-then-has_row-clause-listed
returns-then-has_row-clause-listed c q =
    subst (λ (s : TableState). is_listed (keys_of s.entries) q ≡ same_name c.args.name q || is_listed (keys_of s.entries) q) c.self.view_is
    (listed_there c.self.inside.rows.entries c.args.name q (sym c.has_row.ensures ∙ c.if-has_row.true))

pub returns-clause-listed : goal.returns-clause-listed
returns-clause-listed c q =
    let old = c.self.inside.rows.entries in
    let row : Row = record { length = 0; holders = 0; number = c.index.result.now; kind = Blob } in
    let same : c.reserve.new.self.entries ≡ old = search rules in
    let is : c.put_last.new.rows.entries ≡ old ++ (c.args.name, row) ∷ [] = c.put_last.ensures.entries ∙ ap (λ es. es ++ (c.args.name, row) ∷ []) same in
    listed_last old c.put_last.new.rows.entries c.args.name row q is ∙ ap (λ (s : TableState). same_name c.args.name q || is_listed (keys_of s.entries) q) c.self.view_is

pub returns-clause-grows : goal.returns-clause-grows
returns-clause-grows c =
    let old = c.self.inside.rows.entries in
    let name = c.args.name in
    let row : Row = record { length = 0; holders = 0; number = c.index.result.now; kind = Blob } in
    let same : c.reserve.new.self.entries ≡ old = search rules in
    let is : c.put_last.new.rows.entries ≡ old ++ (name, row) ∷ [] = c.put_last.ensures.entries ∙ ap (λ es. es ++ (name, row) ∷ []) same in
    let before : Places = record { names = keys_of old; place = c.self.inside.place } in
    let after : Places = record { names = keys_of c.put_last.new.rows.entries; place = c.self.inside.place } in
    subst (λ (s : TableState). GrowsAmong (name ∷ []) (places_of s) after) c.self.view_is
    (grows_one name before after refl (ap keys_of is ∙ map-append (λ p. p.0) old ((name, row) ∷ [])) (listed_lookup old name ∙ sym c.has_row.ensures ∙ c.if-has_row.false))

pub returns-clause-kept : goal.returns-clause-kept
returns-clause-kept c q other here =
    let old = c.self.inside.rows.entries in
    let row : Row = record { length = 0; holders = 0; number = c.index.result.now; kind = Blob } in
    let same : c.reserve.new.self.entries ≡ old = search rules in
    let is : c.put_last.new.rows.entries ≡ old ++ (c.args.name, row) ∷ [] = c.put_last.ensures.entries ∙ ap (λ es. es ++ (c.args.name, row) ∷ []) same in
    let absent = none_of _ (sym c.has_row.ensures ∙ c.if-has_row.false) in
    ap (λ es. row_in es q) is ∙ kept_row old c.args.name row q other absent (ap (λ (s : TableState). row_in s.entries q) c.self.view_is ∙ here)

pub returns-clause-fresh : goal.returns-clause-fresh
returns-clause-fresh c q other none here =
    let old = c.self.inside.rows.entries in
    let row : Row = record { length = 0; holders = 0; number = c.index.result.now; kind = Blob } in
    let same : c.reserve.new.self.entries ≡ old = search rules in
    let is : c.put_last.new.rows.entries ≡ old ++ (c.args.name, row) ∷ [] = c.put_last.ensures.entries ∙ ap (λ es. es ++ (c.args.name, row) ∷ []) same in
    let absent = none_of _ (sym c.has_row.ensures ∙ c.if-has_row.false) in
    let numbers = c.extend.new.numbers.items in
    let room : length old < length numbers = (let r = c.in_ok-extend.ensures.ok in let l = c.len-at.ensures.len in omega (arith, r, l)) in
    let number : c.index.result.now ≡ get_or numbers (length old) 0 = get_or_read_under numbers c.len-at.result _ c.index.result.now 0 c.index.ensures (c.in_ok-extend.ensures.ok) refl ∙ ap (λ n. get_or numbers n 0) c.len-at.ensures.len in
    let one : other ≡ row = fresh_row old c.args.name row q other absent (ap (λ (s : TableState). row_in s.entries q) c.self.view_is ∙ none) (ap (λ es. row_in es q) (sym is) ∙ here) in
    let nobody = fresh_number old c.put_last.new.rows.entries c.self.inside.numbers.items c.self.inside.places.items numbers c.extend.new.places.items c.args.name row c.self.invariant.0 absent c.extend.ensures.noted room c.extend.ensures.kept number in
    (ap (λ (r : Row). r.holders) one, λ used. nobody (subst (λ n. IsUsed old n) (ap (λ (r : Row). r.number) one) (subst (λ (s : TableState). IsUsed s.entries other.number) (sym c.self.view_is) used)))

pub invariant_of-self-2 : goal.invariant_of-self-2
invariant_of-self-2 c =
    let old = c.self.inside.rows.entries in
    let row : Row = record { length = 0; holders = 0; number = c.index.result.now; kind = Blob } in
    let same : c.reserve.new.self.entries ≡ old = search rules in
    let is : c.put_last.new.rows.entries ≡ old ++ (c.args.name, row) ∷ [] = c.put_last.ensures.entries ∙ ap (λ es. es ++ (c.args.name, row) ∷ []) same in
    let absent = none_of _ (sym c.has_row.ensures ∙ c.if-has_row.false) in
    let numbers = c.extend.new.numbers.items in
    let room : length old < length numbers = (let r = c.in_ok-extend.ensures.ok in let l = c.len-at.ensures.len in omega (arith, r, l)) in
    let number : c.index.result.now ≡ get_or numbers (length old) 0 = get_or_read_under numbers c.len-at.result _ c.index.result.now 0 c.index.ensures (c.in_ok-extend.ensures.ok) refl ∙ ap (λ n. get_or numbers n 0) c.len-at.ensures.len in
    let longer : length c.put_last.new.rows.entries ≡ length old + 1 = ap length is ∙ length-append old ((c.args.name, row) ∷ []) in (
      numbered_last old c.put_last.new.rows.entries c.self.inside.numbers.items c.self.inside.places.items numbers c.extend.new.places.items c.args.name row c.self.invariant.0 absent c.extend.ensures.noted room c.extend.ensures.kept number is refl c.put_last.ensures.distinct,
      (let before = c.self.invariant.1 in omega (arith, longer, before)),
    )
