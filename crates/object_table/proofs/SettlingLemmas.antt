-- The object of one name comes to stand otherwise with one tenant.
use Rattle.std.proofs.Common.{◌≡◌, ℕ, ◌+◌, ◌*◌, ◌<◌, ◌≤◌, Bool, true, false, ◌||◌, cond, nat_eq, List, Option, None, Some, is_some, refl, sym, ap, subst, ◌∙◌, arith}
use Rattle.std.specs.List.{IsDistinct}
use Rattle.std.specs.Map.{keys_of}
use Rattle.std.specs.Option.{option_and_then, option_map, option_map_or}
use Rattle.std.specs.FinMap.{contains_key, get}
use Rattle.std.proofs.lemmas.Bool.{eq-eqb, eqb-true}
use Rattle.git_name.specs.Same.{same_name}
use Rattle.number_links.specs.Numbers.{has}
use Rattle.fork_reach.specs.declared.usage.TheConstants.{OBJECT_USE}
use Rattle.object_table.specs.declared.row.Row.{Row}
use Rattle.object_table.specs.Rows.{AreRows, IsUsed, Rows, TableState, TellSame, count_in, one_if, places_of, row_in, told_of}
use Rattle.object_table.specs.Totals.{seen_use, total_of, use_of_word, used_by}
use Rattle.object_table.specs.Views.{IsOne, IsOwn, Moves, Sets, holds, word_by, word_in, words_of}
use Rattle.object_table.proofs.PlaceLemmas.{one_name, own_name}
use Rattle.object_table.proofs.SumLemmas.{worth, worth_within}
use Rattle.object_table.proofs.ViewLemmas.{get_words, most, seen_there, sum_bounded, sum_settled, use_there, used_still, word_there}

-- ---- before the step
module _ (rows : Rows) (own : Sets) (name : List ℕ) (row : Row) (are : AreRows rows) (here : row_in rows name ≡ Some row) (one : IsOne rows own) where
  pub word_before : get (words_of rows own) name ≡ word_by row (has own.visible row.number) (has own.staged row.number)
  word_before = get_words rows own name are.distinct ∙ ap (option_and_then (word_in own)) here

  pub held_before : contains_key (words_of rows own) name ≡ holds own row.number
  held_before = ap is_some word_before ∙ word_there row (has own.visible row.number) (has own.staged row.number)

  pub count_before : count_in rows name ≡ row.holders
  count_before = ap (λ o. option_map_or (λ (r : Row). r.holders) o 0) here

  pub seen_within : cond (has own.visible row.number) (row.length + OBJECT_USE) 0 ≤ own.used
  unfolding used_by
  seen_within =
      let within = worth_within seen_use (words_of rows own) name in
      let is = ap (worth seen_use) word_before ∙ seen_there row (has own.visible row.number) (has own.staged row.number) in
      let used = one.own.visible in
      omega (arith, within, is, used)

  pub use_within : cond (holds own row.number) (row.length + OBJECT_USE) 0 ≤ own.total
  unfolding total_of
  use_within =
      let within = worth_within use_of_word (words_of rows own) name in
      let is = ap (worth use_of_word) word_before ∙ use_there row (has own.visible row.number) (has own.staged row.number) in
      let total = one.own.both in
      omega (arith, within, is, total)

  pub holders_some : holds own row.number ≡ true → 0 < row.holders
  holders_some held = (let some = one.some name in let is = ap one_if (held_before ∙ held) in let count = count_before in omega (arith, some, is, count))

  pub holders_fit : holds own row.number ≡ false → row.holders + 1 < 18446744073709551616
  holders_fit lacks = (let fits = one.fits name in let is = ap one_if (held_before ∙ lacks) in let count = count_before in omega (arith, fits, is, count))

at_most : (b : Bool) (n : ℕ) → cond b n 0 ≤ n
at_most true n = omega arith
at_most false n = omega arith

-- no sum comes near 128 bits
pub used_small : (rows : Rows) (own : Sets) → AreRows rows → IsOwn rows own → own.used ≤ 4294967295 * most
unfolding used_by
used_small rows own are one =
    let all = sum_bounded seen_use rows own are.distinct (λ q row here. (let s = are.short q row here in let is = seen_there row (has own.visible row.number) (has own.staged row.number) in let m = at_most (has own.visible row.number) (row.length + OBJECT_USE) in omega (arith, s, is, m))) in
    let few = are.few in
    let used = one.visible in
    omega (arith, all, few, used)

pub total_small : (rows : Rows) (own : Sets) → AreRows rows → IsOwn rows own → own.total ≤ 4294967295 * most
unfolding total_of
total_small rows own are one =
    let all = sum_bounded use_of_word rows own are.distinct (λ q row here. (let s = are.short q row here in let is = use_there row (has own.visible row.number) (has own.staged row.number) in let m = at_most (holds own row.number) (row.length + OBJECT_USE) in omega (arith, s, is, m))) in
    let few = are.few in
    let total = one.both in
    omega (arith, all, few, total)

pub size_fits : (sum : ℕ) (size other : ℕ) (b c : Bool) → sum ≤ 4294967295 * most → size ≤ most → sum + cond b size 0 < 340282366920938463463374607431768211456 + cond c size 0
size_fits sum size other b c small little = (let m = at_most b size in omega (arith, small, little, m))

-- ---- the step
module _ (old new : TableState) (own after : Sets) (name : List ℕ) (row now : Row) (v s : Bool) (are : AreRows old.entries) (here : row_in old.entries name ≡ Some row) (one : IsOne old.entries own)
    (told : told_of now ≡ told_of row) (counted : now.holders + cond (holds own row.number) 1 0 ≡ row.holders + cond (v || s) 1 0)
    (places : places_of new ≡ places_of old) (written : (q : List ℕ) → row_in new.entries q ≡ cond (same_name name q) (Some now) (row_in old.entries q))
    (visible : (n : ℕ) → has after.visible n ≡ cond (nat_eq n row.number) v (has own.visible n)) (staged : (n : ℕ) → has after.staged n ≡ cond (nat_eq n row.number) s (has own.staged n))
    (used : after.used + cond (has own.visible row.number) (row.length + OBJECT_USE) 0 ≡ own.used + cond v (row.length + OBJECT_USE) 0)
    (total : after.total + cond (holds own row.number) (row.length + OBJECT_USE) 0 ≡ own.total + cond (v || s) (row.length + OBJECT_USE) 0) where
  keys : keys_of new.entries ≡ keys_of old.entries
  keys = ap (λ p. p.names) places

  distinct : IsDistinct same_name (keys_of new.entries)
  distinct = subst (IsDistinct same_name) (sym keys) are.distinct

  tells : TellSame old.entries new.entries
  tells q = ap (option_map told_of) (written q) ∙ by (same_name name q) refl
    where
      by : (b : Bool) → same_name name q ≡ b → option_map told_of (cond b (Some now) (row_in old.entries q)) ≡ option_map told_of (row_in old.entries q)
      by true same = ap Some told ∙ sym (ap (option_map told_of) (sym (ap (row_in old.entries) (one_name name q same)) ∙ here))
      by false apart = refl

  itself : nat_eq row.number row.number ≡ true
  itself = eq-eqb row.number row.number refl

  word_now : word_in after now ≡ word_by row v s
  word_now =
      ap (λ (r : Row). word_in after r) told
      ∙ ap (λ b. word_by row b (has after.staged row.number)) (visible row.number ∙ ap (λ b. cond b v (has own.visible row.number)) itself)
      ∙ ap (word_by row v) (staged row.number ∙ ap (λ b. cond b s (has own.staged row.number)) itself)

  pub word_at : (q : List ℕ) → get (words_of new.entries after) q ≡ cond (same_name name q) (word_by row v s) (get (words_of old.entries own) q)
  word_at q = get_words new.entries after q distinct ∙ ap (option_and_then (word_in after)) (written q) ∙ by (same_name name q) refl (row_in old.entries q) refl
    where
      by : (b : Bool) → same_name name q ≡ b → (o : Option Row) → row_in old.entries q ≡ o → option_and_then (word_in after) (cond b (Some now) o) ≡ cond b (word_by row v s) (get (words_of old.entries own) q)
      by true same o is = word_now
      by false apart None is = sym (get_words old.entries own q are.distinct ∙ ap (option_and_then (word_in own)) is)
      by false apart (Some other) is =
          (let differ : nat_eq other.number row.number ≡ false = other_number other is (nat_eq other.number row.number) refl in
          ap (λ b. word_by other b (has after.staged other.number)) (visible other.number ∙ ap (λ b. cond b v (has own.visible other.number)) differ)
          ∙ ap (word_by other (has own.visible other.number)) (staged other.number ∙ ap (λ b. cond b s (has own.staged other.number)) differ)
          ∙ sym (get_words old.entries own q are.distinct ∙ ap (option_and_then (word_in own)) is))
        where
          other_number : (other : Row) → row_in old.entries q ≡ Some other → (t : Bool) → nat_eq other.number row.number ≡ t → t ≡ false
          other_number other is false e = refl
          other_number other is true e =
              (let same = are.numbers name q row other here is (sym (eqb-true _ _ e)) in let bad : true ≡ false = sym same ∙ apart in absurd (let differs : ⊥ = cc in differs))

  counts_at : (q : List ℕ) → count_in new.entries q + one_if (contains_key (words_of old.entries own) q) ≡ count_in old.entries q + one_if (contains_key (words_of new.entries after) q)
  counts_at q = by (same_name name q) refl
    where
      by : (b : Bool) → same_name name q ≡ b → count_in new.entries q + one_if (contains_key (words_of old.entries own) q) ≡ count_in old.entries q + one_if (contains_key (words_of new.entries after) q)
      by true same =
          (let at = one_name name q same in
          let count_now = ap (λ o. option_map_or (λ (r : Row). r.holders) o 0) (written q ∙ ap (λ b. cond b (Some now) (row_in old.entries q)) same) in
          let count_old = ap (count_in old.entries) (sym at) ∙ count_before old.entries own name row are here one in
          let had = ap (λ k. one_if (contains_key (words_of old.entries own) k)) (sym at) ∙ ap one_if (held_before old.entries own name row are here one) in
          let has_now = ap one_if (ap is_some (word_at q ∙ ap (λ b. cond b (word_by row v s) (get (words_of old.entries own) q)) same) ∙ word_there row v s) in
          omega (arith, count_now, count_old, had, has_now, counted))
      by false apart =
          (let count_now = ap (λ o. option_map_or (λ (r : Row). r.holders) o 0) (written q ∙ ap (λ b. cond b (Some now) (row_in old.entries q)) apart) in
          let has_now = ap one_if (ap is_some (word_at q ∙ ap (λ b. cond b (word_by row v s) (get (words_of old.entries own) q)) apart)) in
          omega (arith, count_now, has_now))

  pub moves : Moves old new own after
  moves = record { told = tells; places = places; counts = counts_at }

  used_now : after.used ≡ used_by (words_of new.entries after)
  unfolding used_by
  used_now =
      let settled = sum_settled seen_use (words_of old.entries own) (words_of new.entries after) name (word_by row v s) word_at in
      let before = ap (worth seen_use) (word_before old.entries own name row are here one) ∙ seen_there row (has own.visible row.number) (has own.staged row.number) in
      let behind = seen_there row v s in
      let was = one.own.visible in
      omega (arith, settled, before, behind, was, used)

  total_now : after.total ≡ total_of (words_of new.entries after)
  unfolding total_of
  total_now =
      let settled = sum_settled use_of_word (words_of old.entries own) (words_of new.entries after) name (word_by row v s) word_at in
      let before = ap (worth use_of_word) (word_before old.entries own name row are here one) ∙ use_there row (has own.visible row.number) (has own.staged row.number) in
      let behind = use_there row v s in
      let was = one.own.both in
      omega (arith, settled, before, behind, was, total)

  within_now : (n : ℕ) → holds after n ≡ true → IsUsed new.entries n
  within_now n held = by (nat_eq n row.number) refl
    where
      by : (b : Bool) → nat_eq n row.number ≡ b → IsUsed new.entries n
      by true e = record { name = name; row = now; here = written name ∙ ap (λ b. cond b (Some now) (row_in old.entries name)) (own_name name); same = ap (λ (r : Row). r.number) told ∙ sym (eqb-true n row.number e) }
      by false e =
          used_still old.entries new.entries n tells (one.own.within n
          (sym ((λ i. (visible n ∙ ap (λ b. cond b v (has own.visible n)) e) i || (staged n ∙ ap (λ b. cond b s (has own.staged n)) e) i)) ∙ held))

  pub is_one : IsOne new.entries after
  is_one = record {
    own = record { within = within_now; visible = used_now; both = total_now };
    some = λ q. (let c = counts_at q in let before = one.some q in omega (arith, c, before));
    fits = λ q. (let c = counts_at q in let before = one.fits q in omega (arith, c, before));
  }
