-- Rows and their numbers.
use Rattle.std.proofs.Common.{◌≡◌, ℕ, zero, suc, ◌<◌, Bool, true, false, cond, List, [], ◌∷◌, Option, None, Some, length, get_or, slice_get, refl, sym, ap, ◌∙◌, arith}
use Rattle.std.specs.List.{IsDistinct}
use Rattle.std.specs.Map.{keys_of}
use Rattle.std.proofs.lemmas.Map.Entries.{lookup_from_place}
use Rattle.std.proofs.lemmas.Cmp.{nat_list_eq_equiv}
use Rattle.git_name.specs.Same.{same_name}
use Rattle.indexmap.specs.IndexMap.{set_value_at}
use Rattle.object_table.specs.declared.row.Row.{Row}
use Rattle.object_table.specs.Numbers.{AreNumbered, numbers_of}
use Rattle.object_table.specs.Rows.{AreRows, Rows, row_in}
use Rattle.object_table.proofs.PlaceLemmas.{one_name, own_name}

pub none_is_some : {A : Type 0} (G : Type 0) (x : A) → None ≡ Some x → G
none_is_some G x e = let differs : ⊥ = cc in absurd differs

-- a name that has a row stands at a place
pub place_of : (rows : Rows) (q : List ℕ) (row : Row) → row_in rows q ≡ Some row → (at : ℕ) × (at < length rows) × (slice_get rows at ≡ Some (q, row))
place_of [] q row is = none_is_some _ row is
place_of (e ∷ es) q row is = by (same_name q e.0) refl is (place_of es q row)
  where
    by : (b : Bool) → same_name q e.0 ≡ b → cond b (Some e.1) (row_in es q) ≡ Some row → (row_in es q ≡ Some row → (at : ℕ) × (at < length es) × (slice_get es at ≡ Some (q, row)))
        → (at : ℕ) × (at < length (e ∷ es)) × (slice_get (e ∷ es) at ≡ Some (q, row))
    by true same here later = (0, omega arith, (let n : e.0 ≡ q = sym (one_name q e.0 same) in let r : e.1 ≡ row = cc in let pair : ◌≡◌ {A = List ℕ × Row} e (q, row) = (λ i. (n i, r i)) in ap Some pair))
    by false apart here later = (let l = later here in (suc l.0, (let s = l.1 in omega (arith, s)), l.2))

-- and the other way round
pub row_at : (rows : Rows) (at : ℕ) (q : List ℕ) (row : Row) → IsDistinct same_name (keys_of rows) → slice_get rows at ≡ Some (q, row) → row_in rows q ≡ Some row
row_at rows at q row distinct is = lookup_from_place nat_list_eq_equiv rows at q row distinct is

-- the number at a place
pub number_at : (rows : Rows) (at : ℕ) (p : List ℕ × Row) → slice_get rows at ≡ Some p → get_or (numbers_of rows) at 0 ≡ p.1.number
number_at [] at p is = none_is_some _ p is
number_at (e ∷ es) zero p is = (let same : e ≡ p = cc in ap (λ x. x.1.number) same)
number_at (e ∷ es) (suc at) p is = number_at es at p is

-- a row whose number is noted stands where the note says
pub noted_there : (rows : Rows) (numbers places : List ℕ) (q : List ℕ) (row : Row) → AreNumbered rows numbers places → row_in rows q ≡ Some row
    → (row.number < length places) × (get_or places row.number 0 < length rows) × (slice_get rows (get_or places row.number 0) ≡ Some (q, row))
noted_there rows numbers places q row is here =
    let p = place_of rows q row here in
    let number : get_or numbers p.0 0 ≡ row.number = sym (is.own p.0 p.1) ∙ number_at rows p.0 (q, row) p.2 in
    let long = is.long in
    let far : p.0 < length numbers = (let a = p.1 in omega (arith, a, long)) in
    let back : get_or places row.number 0 ≡ p.0 = ap (λ n. get_or places n 0) (sym number) ∙ is.noted.back p.0 far in
    ((let inside = is.noted.inside p.0 far in let even = is.noted.even in omega (arith, inside, even, number)), (let a = p.1 in omega (arith, a, back)), ap (slice_get rows) back ∙ p.2)

-- what is noted is what all rows are to be
pub are_rows : (rows : Rows) (numbers places : List ℕ) → AreNumbered rows numbers places → AreRows rows
are_rows rows numbers places is = record {
  distinct = is.distinct;
  few = (let long = is.long in let few = is.noted.few in omega (arith, long, few));
  numbers = λ q r one other here there same.
      let first = noted_there rows numbers places q one is here in
      let second = noted_there rows numbers places r other is there in
      let both : ◌≡◌ {A = Option (List ℕ × Row)} (Some (q, one)) (Some (r, other)) = sym first.2 ∙ ap (λ n. slice_get rows (get_or places n 0)) same ∙ second.2 in
      let pair : ◌≡◌ {A = List ℕ × Row} (q, one) (r, other) = cc in
      ap (same_name q) (ap (λ p. p.0) (sym pair)) ∙ own_name q;
  small = λ q row here. (let n = (noted_there rows numbers places q row is here).0 in let even = is.noted.even in let few = is.noted.few in omega (arith, n, even, few));
  short = is.short;
}

-- the row of one number
pub one_used : (rows : Rows) (q r : List ℕ) (one other : Row) → AreRows rows → row_in rows q ≡ Some one → row_in rows r ≡ Some other → one.number ≡ other.number → q ≡ r
one_used rows q r one other are here there same = one_name q r (are.numbers q r one other here there same)

-- a row that is written anew keeps its number
pub numbers_written : (rows : Rows) (at : ℕ) (p : List ℕ × Row) (row : Row) → slice_get rows at ≡ Some p → row.number ≡ p.1.number → numbers_of (set_value_at rows at row) ≡ numbers_of rows
numbers_written [] at p row is same = none_is_some _ p is
numbers_written (e ∷ es) zero p row is same = (let one : e ≡ p = cc in ap (λ n. n ∷ numbers_of es) (same ∙ ap (λ x. x.1.number) (sym one)))
numbers_written (e ∷ es) (suc at) p row is same = ap (λ ns. e.1.number ∷ ns) (numbers_written es at p row is same)
