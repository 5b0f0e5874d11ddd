-- The ledgers of all tenants, as one tenant's sets change or the rows do.
use Rattle.std.proofs.Common.{◌≡◌, ℕ, suc, [], ◌∷◌, ◌+◌, ◌<◌, ◌≤◌, Bool, true, false, cond, List, None, Some, refl, sym, ap, subst, ◌∙◌, arith, length}
use Rattle.std.specs.List.{IsDistinct}
use Rattle.std.specs.Map.{keys_of}
use Rattle.std.specs.Ordering.{eq_by_cmp}
use Rattle.std.specs.Option.{option_map}
use Rattle.std.specs.FinMap.{FinMap, contains_key, entries, get, get-insert, insert, len, len-entries}
use Rattle.std.proofs.lemmas.Bool.{ltb-true}
use Rattle.git_name.specs.Maps.{map_values, mapped}
use Rattle.git_name.specs.Name.{name_cmp}
use Rattle.git_name.specs.Same.{same_name}
use Rattle.git_name.proofs.MapLemmas.{entries_map_values, get_map_values, map_values_insert}
use Rattle.git_name.proofs.Names.{name_exact, name_total}
use Rattle.object_table.specs.Holders.{AreHeld, holders_of}
use Rattle.object_table.specs.Ledgers.{at_ledger}
use Rattle.object_table.specs.Rows.{AreRows, Rows, TableState, count_in, one_if}
use Rattle.object_table.specs.Totals.{total_of, used_by}
use Rattle.object_table.specs.Views.{IsOne, IsOwn, Moves, Sets, all_words, words_of}
use Rattle.object_table.specs.Words.{Words}
use Rattle.object_table.proofs.HolderLemmas.{few_holders, few_others, holders_set, held_by}
use Rattle.object_table.proofs.TenantEntries.{changed_at}
use Rattle.object_table.proofs.UpdateLemmas.{insert_same}
use Rattle.object_table.proofs.ViewLemmas.{used_still, words_told}

-- a tenant's words
pub words_at : (rows : Rows) (m : FinMap name_cmp Sets) (t : List ℕ) (own : Sets) → get m t ≡ Some own → get (all_words rows m) t ≡ Some (words_of rows own)
words_at rows m t own here = get_map_values name_total (words_of rows) m t ∙ ap (option_map (words_of rows)) here

pub no_words_at : (rows : Rows) (m : FinMap name_cmp Sets) (t : List ℕ) → get m t ≡ None → get (all_words rows m) t ≡ None
no_words_at rows m t none = get_map_values name_total (words_of rows) m t ∙ ap (option_map (words_of rows)) none

mapped_length : {K X Y : Type 0} (f : X → Y) (es : List (K × X)) → length (mapped f es) ≡ length es
mapped_length f [] = refl
mapped_length f (e ∷ es) = ap suc (mapped_length f es)

pub as_many : (rows : Rows) (m : FinMap name_cmp Sets) → len (all_words rows m) ≡ len m
as_many rows m = len-entries (all_words rows m) ∙ ap length (entries_map_values (words_of rows) m) ∙ mapped_length (words_of rows) (entries m) ∙ sym (len-entries m)

-- what one tenant's ledger knows of itself
pub one_of : (rows : Rows) (m : FinMap name_cmp Sets) (t : List ℕ) (own : Sets) → AreHeld rows m → get m t ≡ Some own → len m < 18446744073709551616 → IsOne rows own
one_of rows m t own held here few = record {
  own = held.own t own here;
  some = λ q. some_at q (contains_key (words_of rows own) q) refl;
  fits = λ q. fits_at q (contains_key (words_of rows own) q) refl;
}
  where
    there : get (all_words rows m) t ≡ Some (words_of rows own)
    there = words_at rows m t own here

    many : len (all_words rows m) ≡ len m
    many = as_many rows m

    some_at : (q : List ℕ) (b : Bool) → contains_key (words_of rows own) q ≡ b → one_if b ≤ count_in rows q
    some_at q true is = (let counted = held.counted q in let one = ltb-true 0 _ (held_by (all_words rows m) t (words_of rows own) q there is) in omega (arith, counted, one))
    some_at q false is = omega arith

    fits_at : (q : List ℕ) (b : Bool) → contains_key (words_of rows own) q ≡ b → count_in rows q + 1 < 18446744073709551616 + one_if b
    fits_at q true is = (let counted = held.counted q in let most = few_holders (all_words rows m) q in omega (arith, counted, most, many, few))
    fits_at q false is = (let counted = held.counted q in let most = few_others (all_words rows m) t (words_of rows own) q there is in omega (arith, counted, most, many, few))

-- ---- one tenant's sets change
module _ (old new : TableState) (m : FinMap name_cmp Sets) (t : List ℕ) (own after : Sets) (are : AreRows old.entries) (held : AreHeld old.entries m) (here : get m t ≡ Some own) (moves : Moves old new own after) (one : IsOne new.entries after) where
  distinct : IsDistinct same_name (keys_of new.entries)
  distinct = subst (IsDistinct same_name) (sym (ap (λ p. p.names) moves.places)) are.distinct

  others : (sets : Sets) → words_of new.entries sets ≡ words_of old.entries sets
  others sets = words_told old.entries new.entries sets are.distinct distinct moves.told

  all_others : all_words new.entries m ≡ all_words old.entries m
  all_others = (λ i. map_values (λ sets. others sets i) m)

  pub all_set : all_words new.entries (insert m t after) ≡ insert (all_words old.entries m) t (words_of new.entries after)
  all_set = map_values_insert name_total name_exact (words_of new.entries) m t after ∙ ap (λ x. insert x t (words_of new.entries after)) all_others

  pub ledger_moved : (f : Words → Words) → words_of new.entries after ≡ f (words_of old.entries own) → all_words new.entries (insert m t after) ≡ at_ledger (all_words old.entries m) t f
  ledger_moved f is = all_set ∙ ap (insert (all_words old.entries m) t) is ∙ sym (changed_at (all_words old.entries m) t (words_of old.entries own) f (words_at old.entries m t own here))

  pub ledger_stays : words_of new.entries after ≡ words_of old.entries own → all_words new.entries (insert m t after) ≡ all_words old.entries m
  ledger_stays is = all_set ∙ ap (insert (all_words old.entries m) t) is ∙ insert_same (all_words old.entries m) t (words_of old.entries own) (words_at old.entries m t own here)

  pub held_moved : AreHeld new.entries (insert m t after)
  held_moved = record {
    counted = λ q.
        (let counted = held.counted q in let step = moves.counts q in
        let set = holders_set (all_words old.entries m) t (words_of old.entries own) (words_of new.entries after) q (words_at old.entries m t own here) in
        let is = ap (λ x. holders_of x q) all_set in
        omega (arith, counted, step, set, is));
    own = λ q sets there. own_at q sets (eq_by_cmp name_cmp q t) (sym (get-insert name_total m t after q) ∙ there);
  }
    where
      own_at : (q : List ℕ) (sets : Sets) (b : Bool) → cond b (Some after) (get m q) ≡ Some sets → IsOwn new.entries sets
      own_at q sets true is = (let same : after ≡ sets = cc in subst (IsOwn new.entries) same one.own)
      own_at q sets false is =
          (let before = held.own q sets is in
          record {
            within = λ n holding. used_still old.entries new.entries n moves.told (before.within n holding);
            visible = before.visible ∙ ap used_by (sym (others sets));
            both = before.both ∙ ap total_of (sym (others sets));
          })
