-- A tree that was read so far has one more entry, or a fault.
use Rattle.std.proofs.Common.{◌≡◌, ℕ, ◌-◌, ◌<◌, ◌≤◌, inr, Bool, false, List, [], ◌∷◌, ◌++◌, length, take, drop, refl, sym, ap, subst, ◌∙◌, arith, append_assoc, length-append, take-append-drop}
use Rattle.std.proofs.lemmas.List.{take_at, length-drop}
use Rattle.git_tree.specs.declared.fault.TreeFault.{TreeFault}
use Rattle.std.specs.declared.cmp.Ordering.TheVariants.{Less}
use Rattle.git_name.specs.Name.{name_cmp}
use Rattle.git_tree.specs.Entry.{Entry, IsEntry, spelled, key}
use Rattle.git_tree.specs.Tree.{IsBelow, Differ, AreEntries}
use Rattle.git_tree.specs.Fault.{IsPlaceFault, IsTreeFault}
use Rattle.git_tree.specs.Row.{IsRow, entries_in}
use Rattle.git_tree.specs.Fronts.{FrontLengths}
use Rattle.git_tree.specs.Building.{IsBuilt}
use Rattle.git_tree.specs.Tracks.{Reached, Tracks, MayFollow}
use Rattle.git_tree.proofs.OrderLemmas.{nil_below}
use Rattle.git_tree.proofs.RowLemmas.{row_push, row_of, entries_are}
use Rattle.git_tree.proofs.ListLemmas.{all_push, pairs_of_all, all_of_pairs, pairs_of_sorted, sorted_of_pairs, sorted_none, pairs_push}

pub are_none : AreEntries (entries_in [])
are_none = subst AreEntries (sym (entries_are [] tt)) (record { each = tt; ascending = sorted_none; different = all_of_pairs Differ [] tt })

pub row_none_is : IsRow []
row_none_is = row_of [] tt

pub tracks_none : (none : Reached) → none.file_name ≡ [] → none.is_tree ≡ false → Tracks (entries_in []) none
tracks_none none name tree =
    let last : key none.is_tree none.file_name ≡ [] = ap (λ (t : Bool). key t none.file_name) tree ∙ name in
    subst (λ (es : List Entry). Tracks es none) (sym (entries_are [] tt)) (record { low = tt; met = λ k some all. subst (λ (x : List ℕ). name_cmp x k ≡ Less) (sym last) (nil_below k some); known = tt })

pub are_push : (es : List Entry) (e : Entry) → AreEntries es → IsEntry e → MayFollow es e → AreEntries (es ++ e ∷ [])
are_push es e are is follows = record {
  each = all_push IsEntry es e are.each is;
  ascending = sorted_of_pairs (es ++ e ∷ []) (pairs_push IsBelow es e (pairs_of_sorted es are.ascending) follows.above);
  different = all_of_pairs Differ (es ++ e ∷ []) (pairs_push Differ es e (pairs_of_all Differ es are.different) follows.new);
}

cut_at : (b : List ℕ) (at : ℕ) (x after : List ℕ) → at ≤ length b → drop at b ≡ x ++ after → take (length b - length after) b ≡ take at b ++ x
cut_at b at x after within parts =
    let whole : b ≡ (take at b ++ x) ++ after = sym (take-append-drop at b) ∙ ap (λ (r : List ℕ). take at b ++ r) parts ∙ sym (append_assoc (take at b) x after) in
    let len : length (take at b ++ x) ≡ length b - length after = omega (arith, ap length whole, length-append (take at b ++ x) after) in
    ap (take (length b - length after)) whole ∙ take_at (take at b ++ x) after (length b - length after) len

-- what was read so far, and what is known of it, after one more entry
pub record Reads (b : List ℕ) (n : ℕ) (front : List Entry) (e : Entry) : Type 0 where
  pub row : IsRow (take n b)
  pub entries : entries_in (take n b) ≡ front ++ e ∷ []
  pub are : AreEntries (entries_in (take n b))

pub reads_on : (b : List ℕ) (at : ℕ) (e : Entry) (after : List ℕ) → at ≤ length b → drop at b ≡ spelled e ++ after → IsEntry e → IsRow (take at b) → AreEntries (entries_in (take at b)) → MayFollow (entries_in (take at b)) e
    → Reads b (length b - length after) (entries_in (take at b)) e
reads_on b at e after within parts is row are follows =
    let cut = cut_at b at (spelled e) after within parts in
    let more = row_push (take at b) e is row in
    let same : entries_in (take (length b - length after) b) ≡ entries_in (take at b) ++ e ∷ [] = ap entries_in cut ∙ more.0 in
    record {
      row = subst IsRow (sym cut) more.1;
      entries = same;
      are = subst AreEntries (sym same) (are_push (entries_in (take at b)) e are is follows);
    }

-- an entry in a wrong place is the bytes' fault
pub misplaced : (f : TreeFault) (b : List ℕ) (at : ℕ) (e : Entry) (after : List ℕ) → at < length b → drop at b ≡ spelled e ++ after → IsEntry e → IsRow (take at b) → AreEntries (entries_in (take at b)) → IsPlaceFault f (entries_in (take at b)) e → IsTreeFault f b
misplaced f b at e after within parts is row are wrong = record {
  front = entries_in (take at b);
  rest = drop at b;
  are = are;
  parts = sym (take-append-drop at b) ∙ ap (λ (x : List ℕ). x ++ drop at b) row.spelling;
  some = λ none. omega (arith, ap length none, length-drop at b);
  wrong = inr (record { entry = e; after = after; is = is; parts = parts; wrong = wrong });
}

pub built_none : (bytes : List ℕ) (fronts : FrontLengths) → bytes ≡ [] → IsBuilt bytes 0 0 false fronts
built_none bytes fronts none = subst (λ (b : List ℕ). IsBuilt b 0 0 false fronts) (sym none) (record {
  row = row_none_is;
  are = are_none;
  within = omega arith;
  name_within = omega arith;
  tracks = tracks_none (record { file_name = []; is_tree = false; fronts = fronts }) refl refl;
})
