-- Rows of names that nobody holds, as they come to tell what is to be staged.
use Rattle.std.proofs.Common.{◌≡◌, inl, inr, ℕ, zero, suc, ◌<◌, Bool, true, false, cond, List, Option, None, Some, is_some, slice_index_or, refl, sym, ap, ◌∙◌, arith}
use Rattle.std.specs.Prelude.{Contains}
use Rattle.std.specs.List.{All}
use Rattle.std.specs.Map.{keys_of}
use Rattle.git_name.specs.Same.{is_listed, same_name}
use Rattle.looks.specs.Places.{Places}
use Rattle.object_table.specs.AllStaged.{AreListed}
use Rattle.object_table.specs.Clashes.{DescribesUnheld, HasRow, RowClash}
use Rattle.object_table.specs.declared.entry.Entry.{Entry}
use Rattle.object_table.specs.declared.row.Row.{Row}
use Rattle.object_table.specs.Rows.{Rows, row_in}
use Rattle.object_table.proofs.PlaceLemmas.{listed_lookup, one_name}
use Rattle.object_table.proofs.RowLemmas.{none_is_some}

no_change : (rows : Rows) → DescribesUnheld rows rows
no_change rows = record { held = λ q row here some. here; free = λ q row here none. (row, here, refl, none); none = λ q here. here }

pub described_none : (rows : Rows) → DescribesUnheld rows rows
described_none rows = no_change rows

pub described_then : (old mid new : Rows) → DescribesUnheld old mid → DescribesUnheld mid new → DescribesUnheld old new
described_then old mid new first second = record {
  held = λ q row here some. second.held q row (first.held q row here some) some;
  free = λ q row here nobody.
      let a = first.free q row here nobody in
      let b = second.free q a.0 a.1 a.3 in
      (b.0, b.1, b.2 ∙ a.2, b.3);
  none = λ q here. second.none q (first.none q here);
}

-- one row is written
pub described_one : (old new : Rows) (name : List ℕ) (row now : Row) → row_in old name ≡ Some row → row.holders ≡ 0 → now.number ≡ row.number → now.holders ≡ 0
    → ((q : List ℕ) → row_in new q ≡ cond (same_name name q) (Some now) (row_in old q)) → DescribesUnheld old new
described_one old new name row now here nobody number holders written = record {
  held = λ q other there some. written q ∙ held q other there some (same_name name q) refl;
  free = λ q other there none. free q other there none (same_name name q) refl;
  none = λ q absent. written q ∙ gone q absent (same_name name q) refl;
}
  where
    the_row : (q : List ℕ) (other : Row) → row_in old q ≡ Some other → same_name name q ≡ true → row ≡ other
    the_row q other there same = (let both : Some row ≡ Some other = sym here ∙ ap (row_in old) (one_name name q same) ∙ there in cc)

    held : (q : List ℕ) (other : Row) → row_in old q ≡ Some other → 0 < other.holders → (b : Bool) → same_name name q ≡ b → cond b (Some now) (row_in old q) ≡ Some other
    held q other there some true same = (let one = ap (λ (r : Row). r.holders) (the_row q other there same) in absurd (omega (arith, some, one, nobody)))
    held q other there some false same = there

    free : (q : List ℕ) (other : Row) → row_in old q ≡ Some other → other.holders ≡ 0 → (b : Bool) → same_name name q ≡ b → (r : Row) × (row_in new q ≡ Some r) × (r.number ≡ other.number) × (r.holders ≡ 0)
    free q other there none true same = (now, written q ∙ ap (λ b. cond b (Some now) (row_in old q)) same, number ∙ ap (λ (r : Row). r.number) (the_row q other there same), holders)
    free q other there none false same = (other, written q ∙ ap (λ b. cond b (Some now) (row_in old q)) same ∙ there, refl, none)

    gone : (q : List ℕ) → row_in old q ≡ None → (b : Bool) → same_name name q ≡ b → cond b (Some now) (row_in old q) ≡ None
    gone q absent true same = none_is_some _ row (sym absent ∙ ap (row_in old) (sym (one_name name q same)) ∙ here)
    gone q absent false same = absent

-- ---- entries, one after another
-- where nobody held the name at first, its row is of the kind and length of an entry of that name
abbrev pub IsDescribed : Rows → Rows → List Entry → Entry → Type 0
IsDescribed old now entries entry = (row : Row) → row_in old entry.name ≡ Some row → row.holders ≡ 0 → (other : Entry) × Contains entries other × (other.name ≡ entry.name) × HasRow now other

row_kept : (mid new : Rows) (entry other : Entry) → ((q : List ℕ) → same_name entry.name q ≡ false → row_in new q ≡ row_in mid q) → same_name entry.name other.name ≡ false → HasRow mid other → HasRow new other
row_kept mid new entry other others apart is = record { row = is.row; here = others other.name apart ∙ is.here; kinds = is.kinds; lengths = is.lengths }

pub described_still : (old mid new : Rows) (entries : List Entry) (entry one : Entry) → DescribesUnheld old mid → Contains entries entry
    → ((q : List ℕ) → same_name entry.name q ≡ false → row_in new q ≡ row_in mid q) → ((row : Row) → row_in mid entry.name ≡ Some row → row.holders ≡ 0 → HasRow new entry)
    → IsDescribed old mid entries one → IsDescribed old new entries one
described_still old mid new entries entry one first among others written is row here nobody = by (same_name entry.name was.0.name) refl
  where
    was : (other : Entry) × Contains entries other × (other.name ≡ one.name) × HasRow mid other
    was = is row here nobody

    by : (b : Bool) → same_name entry.name was.0.name ≡ b → (other : Entry) × Contains entries other × (other.name ≡ one.name) × HasRow new other
    by true same =
        (let named : entry.name ≡ one.name = one_name entry.name was.0.name same ∙ was.2 in
        let before = first.free one.name row here nobody in
        (entry, among, named, written before.0 (ap (row_in mid) named ∙ before.1) before.3))
    by false apart = (was.0, was.1, was.2, row_kept mid new entry was.0 others apart was.3)

pub described_now : (old mid new : Rows) (entries : List Entry) (entry : Entry) → DescribesUnheld old mid → Contains entries entry → ((row : Row) → row_in mid entry.name ≡ Some row → row.holders ≡ 0 → HasRow new entry) → IsDescribed old new entries entry
described_now old mid new entries entry first among written row here nobody = (let before = first.free entry.name row here nobody in (entry, among, refl, written before.0 before.1 before.3))

-- an entry whose row is another clashes
pub row_clash : (old now : Rows) (entries : List Entry) (entry : Entry) (row : Row) → row_in old entry.name ≡ Some row → Contains entries entry → DescribesUnheld old now → IsDescribed old now entries entry → (HasRow now entry → ⊥) → RowClash old entries
row_clash old now entries entry row here among describes described lacks = by row.holders refl
  where
    by : (n : ℕ) → row.holders ≡ n → RowClash old entries
    by zero none =
        (let other = described row here none in
        record { entry = entry; among = among; met = inr (other.0, other.1, record { named = sym other.2; apart = λ kinds lengths. lacks (record { row = other.3.row; here = ap (row_in now) (sym other.2) ∙ other.3.here; kinds = other.3.kinds ∙ sym kinds; lengths = other.3.lengths ∙ sym lengths }) }) })
    by (suc n) some =
        (let more : 0 < row.holders = omega (arith, some) in
        record { entry = entry; among = among; met = inl (row, here, more, (λ kinds lengths. lacks (record { row = row; here = describes.held entry.name row here more; kinds = kinds; lengths = lengths }))) })

-- a row that is there now was there before
pub row_before : (old now : Rows) (name : List ℕ) (row : Row) → DescribesUnheld old now → row_in now name ≡ Some row → (was : Row) × (row_in old name ≡ Some was)
row_before old now name row describes here = by (row_in old name) refl
  where
    by : (o : Option Row) → row_in old name ≡ o → (was : Row) × (row_in old name ≡ Some was)
    by None is = none_is_some _ row (sym (describes.none name is) ∙ here)
    by (Some was) is = (was, is)

-- what is listed is what has a row
pub unlisted : (rows : Rows) (places : Places) (name : List ℕ) → places.names ≡ keys_of rows → row_in rows name ≡ None → is_listed places.names name ≡ false
unlisted rows places name same none = ap (λ names. is_listed names name) same ∙ listed_lookup rows name ∙ ap is_some none

pub all_listed : (rows : Rows) (places : Places) (entries : List Entry) → places.names ≡ keys_of rows → All (HasRow rows) entries → AreListed places entries
all_listed rows places entries same have k d small =
    ap (λ names. is_listed names (slice_index_or entries k d).name) same ∙ listed_lookup rows (slice_index_or entries k d).name ∙ ap is_some (have k d small).here
