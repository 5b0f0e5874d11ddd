-- Rows that are numbered, as a name comes, goes, or has its row written anew.
use Rattle.std.proofs.Common.{◌≡◌, ℕ, zero, suc, ◌+◌, ◌-◌, ◌<◌, Bool, true, false, cond, nat_eq, nat_lt, List, [], ◌∷◌, ◌++◌, None, Some, length, get_or, set, slice_get, take, refl, sym, ap, subst, ◌∙◌, arith, length-append}
use Rattle.std.specs.Prelude.{swap_remove}
use Rattle.std.specs.List.{IsDistinct}
use Rattle.std.specs.Map.{keys_of}
use Rattle.std.proofs.Math.Seq.{get_or-append_seam}
use Rattle.std.proofs.lemmas.Bool.{eqb-false, eqb-true, ltb-false, ltb-true}
use Rattle.std.proofs.lemmas.Cmp.{nat_list_eq_equiv}
use Rattle.std.proofs.lemmas.List.{get_or-set_other, get_or-set_same, get_or-take, get_or_append_left, get_or_default, length-map, map-append}
use Rattle.git_name.specs.Same.{same_name}
use Rattle.indexmap.proofs.SetLemmas.{map-swap_remove}
use Rattle.object_table.specs.declared.row.Row.{Row}
use Rattle.object_table.specs.Numbers.{AreNoted, AreNumbered, numbers_of}
use Rattle.object_table.specs.Rows.{IsUsed, Rows, row_in}
use Rattle.object_table.proofs.PlaceLemmas.{fewer, one_name}
use Rattle.object_table.proofs.RowLemmas.{none_is_some, number_at, place_of}

by_test : (G : Type 0) (b : Bool) → (b ≡ true → G) → (b ≡ false → G) → G
by_test G true f g = f refl
by_test G false f g = g refl

-- ---- a name comes
pub row_last : (rows : Rows) (name : List ℕ) (row : Row) (q : List ℕ) → row_in rows name ≡ None → row_in (rows ++ (name, row) ∷ []) q ≡ cond (same_name name q) (Some row) (row_in rows q)
row_last [] name row q absent = ap (λ b. cond b (Some row) None) (nat_list_eq_equiv.symm q name)
row_last (e ∷ es) name row q absent = by (same_name q e.0) refl (same_name name e.0) refl absent (row_last es name row q)
  where
    by : (b : Bool) → same_name q e.0 ≡ b → (t : Bool) → same_name name e.0 ≡ t → cond t (Some e.1) (row_in es name) ≡ None
        → (row_in es name ≡ None → row_in (es ++ (name, row) ∷ []) q ≡ cond (same_name name q) (Some row) (row_in es q))
        → cond b (Some e.1) (row_in (es ++ (name, row) ∷ []) q) ≡ cond (same_name name q) (Some row) (cond b (Some e.1) (row_in es q))
    by b is true there none later = none_is_some _ e.1 (sym none)
    by false is false there none later = later none
    by true is false there none later =
        (let other : same_name name q ≡ false = ap (same_name name) (one_name q e.0 is) ∙ there in
        ap (λ t. cond t (Some row) (Some e.1)) (sym other))

pub kept_row : (rows : Rows) (name : List ℕ) (row : Row) (q : List ℕ) (other : Row) → row_in rows name ≡ None → row_in rows q ≡ Some other → row_in (rows ++ (name, row) ∷ []) q ≡ Some other
kept_row rows name row q other absent here = row_last rows name row q absent ∙ by (same_name name q) refl
  where
    by : (b : Bool) → same_name name q ≡ b → cond b (Some row) (row_in rows q) ≡ Some other
    by true same = none_is_some _ other (sym absent ∙ ap (row_in rows) (one_name name q same) ∙ here)
    by false apart = here

pub fresh_row : (rows : Rows) (name : List ℕ) (row : Row) (q : List ℕ) (other : Row) → row_in rows name ≡ None → row_in rows q ≡ None → row_in (rows ++ (name, row) ∷ []) q ≡ Some other → other ≡ row
fresh_row rows name row q other absent none here = by (same_name name q) (sym (row_last rows name row q absent) ∙ here)
  where
    by : (b : Bool) → cond b (Some row) (row_in rows q) ≡ Some other → other ≡ row
    by true is = (let one : row ≡ other = cc in sym one)
    by false is = none_is_some _ other (sym none ∙ is)

module _ (rows new : Rows) (numbers places now after : List ℕ) (name : List ℕ) (row : Row) (h : AreNumbered rows numbers places) (absent : row_in rows name ≡ None) (noted : AreNoted now after)
    (room : length rows < length now) (kept : (i : ℕ) → i < length numbers → get_or now i 0 ≡ get_or numbers i 0) (number : row.number ≡ get_or now (length rows) 0) where
  old_number : (at : ℕ) → at < length rows → get_or (numbers_of rows) at 0 ≡ get_or now at 0
  old_number at inside = h.own at inside ∙ sym (kept at (let long = h.long in omega (arith, inside, long)))

  -- the number is nobody's
  pub fresh_number : IsUsed rows row.number → ⊥
  fresh_number used =
      let p = place_of rows used.name used.row used.here in
      let inside = p.1 in
      let far : p.0 < length now = omega (arith, inside, room) in
      let same : get_or now p.0 0 ≡ get_or now (length rows) 0 = sym (old_number p.0 inside) ∙ number_at rows p.0 (used.name, used.row) p.2 ∙ used.same ∙ number in
      let places_same = sym (noted.back p.0 far) ∙ ap (λ n. get_or after n 0) same ∙ noted.back (length rows) room in
      omega (arith, places_same, inside)

  pub numbered_last : new ≡ rows ++ (name, row) ∷ [] → row.length ≡ 0 → IsDistinct same_name (keys_of new) → AreNumbered new now after
  numbered_last is short distinct =
      let longer : length new ≡ length rows + 1 = ap length is ∙ length-append rows ((name, row) ∷ []) in
      let more : numbers_of new ≡ numbers_of rows ++ row.number ∷ [] = ap numbers_of is ∙ map-append (λ e. e.1.number) rows ((name, row) ∷ []) in
      let long : length (numbers_of rows) ≡ length rows = length-map rows (λ e. e.1.number) in
      record {
        distinct = distinct;
        noted = noted;
        long = omega (arith, longer, room);
        own = λ at inside. by_test _ (nat_lt at (length rows))
            (λ is_before. (let before = ltb-true at (length rows) is_before in
            ap (λ ns. get_or ns at 0) more ∙ get_or_append_left (numbers_of rows) (row.number ∷ []) 0 at (omega (arith, before, long)) ∙ old_number at before))
            (λ is_last. (let past = ltb-false at (length rows) is_last in
            let last : at ≡ length rows = omega (arith, past, inside, longer) in
            ap (λ ns. get_or ns at 0) more ∙ ap (λ i. get_or (numbers_of rows ++ row.number ∷ []) i 0) (last ∙ sym long) ∙ get_or-append_seam (numbers_of rows) row.number [] 0 ∙ number
            ∙ ap (λ i. get_or now i 0) (sym last)));
        short = λ q other here. by_test _ (same_name name q)
            (λ same. (let it : Some row ≡ Some other = sym (ap (λ b. cond b (Some row) (row_in rows q)) same) ∙ sym (row_last rows name row q absent) ∙ ap (λ es. row_in es q) (sym is) ∙ here in
            let one : row ≡ other = cc in let none = ap (λ (r : Row). r.length) (sym one) ∙ short in omega (arith, none)))
            (λ apart. h.short q other (sym (ap (λ b. cond b (Some row) (row_in rows q)) apart) ∙ sym (row_last rows name row q absent) ∙ ap (λ es. row_in es q) (sym is) ∙ here));
      }

-- ---- a name goes
pub numbered_out : (rows new : Rows) (numbers places now after : List ℕ) (at : ℕ) (p : List ℕ × Row) → AreNumbered rows numbers places → at < length rows → slice_get rows at ≡ Some p → new ≡ swap_remove rows at p → AreNoted now after
    → length now ≡ length numbers → ((i : ℕ) → get_or now i 0 ≡ cond (nat_eq i (length rows - 1)) (get_or numbers at 0) (cond (nat_eq i at) (get_or numbers (length rows - 1) 0) (get_or numbers i 0)))
    → IsDistinct same_name (keys_of new) → ((q : List ℕ) → row_in new q ≡ cond (same_name p.0 q) None (row_in rows q)) → AreNumbered new now after
numbered_out rows new numbers places now after at p h inside here is noted even switched distinct rows_left = record {
  distinct = distinct;
  noted = noted;
  long = (let long = h.long in omega (arith, shorter, long, even));
  own = λ i within. own_at i (omega (arith, within, shorter)) (nat_eq i at) refl;
  short = λ q row there. h.short q row (left_there q row (same_name p.0 q) (sym (rows_left q) ∙ there));
}
  where
    shorter : length new + 1 ≡ length rows
    shorter = fewer rows new p at inside is

    long : length (numbers_of rows) ≡ length rows
    long = length-map rows (λ e. e.1.number)

    last : ℕ
    last = get_or (numbers_of rows) (length (numbers_of rows) - 1) p.1.number

    all : numbers_of new ≡ take (length (numbers_of rows) - 1) (set (numbers_of rows) at last)
    all = ap numbers_of is ∙ map-swap_remove (λ e. e.1.number) rows at p (omega (arith, inside))

    last_is : last ≡ get_or numbers (length rows - 1) 0
    last_is =
        get_or_default (numbers_of rows) (length (numbers_of rows) - 1) p.1.number 0 (omega (arith, long, inside)) ∙ ap (λ n. get_or (numbers_of rows) (n - 1) 0) long ∙ h.own (length rows - 1) (omega (arith, inside))

    own_at : (i : ℕ) → i < length rows - 1 → (b : Bool) → nat_eq i at ≡ b → get_or (numbers_of new) i 0 ≡ get_or now i 0
    own_at i below b same =
        ap (λ ns. get_or ns i 0) all ∙ get_or-take (length (numbers_of rows) - 1) (set (numbers_of rows) at last) i 0 (omega (arith, below, long)) ∙ by b same
        ∙ sym (switched i ∙ ap (λ t. cond t (get_or numbers at 0) (cond (nat_eq i at) (get_or numbers (length rows - 1) 0) (get_or numbers i 0))) other ∙ ap (λ t. cond t (get_or numbers (length rows - 1) 0) (get_or numbers i 0)) same)
      where
        other : nat_eq i (length rows - 1) ≡ false
        other = search arith

        by : (b : Bool) → nat_eq i at ≡ b → get_or (set (numbers_of rows) at last) i 0 ≡ cond b (get_or numbers (length rows - 1) 0) (get_or numbers i 0)
        by true e = ap (λ j. get_or (set (numbers_of rows) at last) j 0) (eqb-true i at e) ∙ get_or-set_same (numbers_of rows) at last 0 (omega (arith, inside, long)) ∙ last_is
        by false e = get_or-set_other (numbers_of rows) at i last 0 (eqb-false i at e) ∙ h.own i (omega (arith, below))

    left_there : (q : List ℕ) (row : Row) (b : Bool) → cond b None (row_in rows q) ≡ Some row → row_in rows q ≡ Some row
    left_there q row true none = none_is_some _ row none
    left_there q row false there = there

-- ---- a row is written anew
pub numbered_written : (rows new : Rows) (numbers places : List ℕ) (name : List ℕ) (row : Row) → AreNumbered rows numbers places → keys_of new ≡ keys_of rows → numbers_of new ≡ numbers_of rows
    → ((q : List ℕ) → row_in new q ≡ cond (same_name name q) (Some row) (row_in rows q)) → row.length < 18446744073709551616 → AreNumbered new numbers places
numbered_written rows new numbers places name row h keys same rows_are small =
    let long : length new ≡ length rows = sym (length-map new (λ e. e.0)) ∙ ap length keys ∙ length-map rows (λ e. e.0) in
    record {
      distinct = subst (IsDistinct same_name) (sym keys) h.distinct;
      noted = h.noted;
      long = (let before = h.long in omega (arith, long, before));
      own = λ at inside. ap (λ ns. get_or ns at 0) same ∙ h.own at (omega (arith, inside, long));
      short = λ q other here. short_at q other (same_name name q) (sym (rows_are q) ∙ here);
    }
  where
    short_at : (q : List ℕ) (other : Row) (b : Bool) → cond b (Some row) (row_in rows q) ≡ Some other → other.length < 18446744073709551616
    short_at q other true is = (let one : row ≡ other = cc in subst (λ (r : Row). r.length < 18446744073709551616) one small)
    short_at q other false is = h.short q other is

-- what stands at a place stands inside
pub inside_of : {X : Type 0} (xs : List X) (at : ℕ) (x : X) → slice_get xs at ≡ Some x → at < length xs
inside_of [] at x is = none_is_some _ x is
inside_of (y ∷ ys) zero x is = omega arith
inside_of (y ∷ ys) (suc at) x is = (let h = inside_of ys at x is in omega (arith, h))
