-- A key's entry, put in between those before it and those after it.
use Rattle.std.proofs.Common.{◌≡◌, ℕ, Bool, true, false, cond, List, [], ◌∷◌, ◌++◌, Option, None, Some, refl, sym, ap, ◌∙◌, is_eq, map as mapped, Less}
use Rattle.std.specs.List.{AllByRecursion}
use Rattle.std.specs.List.Sorted.{IsStrictlySortedBy}
use Rattle.std.specs.Cmp.{Equal-is}
use Rattle.std.specs.Ordering.{eq_by_cmp}
use Rattle.std.specs.FinMap as map
use Rattle.std.proofs.lemmas.Cmp.{tied_itself}
use Rattle.git_name.specs.Name.{name_cmp}
use Rattle.git_name.proofs.Names.{name_total, name_exact}
use Rattle.git_name.proofs.TreeMaps.{entries_of_ordered}
use Rattle.shared_map.specs.Building.{set_in}
use Rattle.shared_map.specs.Chunks.{Entry, Entries, Rises, AreBefore, AreBehind, kept}
use Rattle.shared_map.proofs.AllLemmas.{all_first, all_second, all_both}
use Rattle.shared_map.proofs.RiseLemmas.{less_of}

-- keys that rise are in order
heads : (e : Entry) (es : Entries) → AllByRecursion (λ f. name_cmp e.0 f.0 ≡ Less) es → AllByRecursion (λ k. name_cmp e.0 k ≡ Less) (mapped (λ f. f.0) es)
heads e [] all = tt
heads e (f ∷ fs) all = (all.0, heads e fs all.1)

pub sorted_of : (es : Entries) → Rises es → IsStrictlySortedBy name_cmp (mapped (λ e. e.0) es)
unfolding IsStrictlySortedBy
sorted_of [] rises = tt
sorted_of (e ∷ es) rises = (heads e es rises.0, sorted_of es rises.1)

-- entries in order are those of their map
pub entries_risen : (es : Entries) → Rises es → map.entries (map.from_entries {R = name_cmp} es) ≡ es
entries_risen es rises = entries_of_ordered name_total es (sorted_of es rises)

-- entries in order stay in order without one between them
pub rises_without : (before : Entries) (key : List ℕ) (o : Option (List ℕ)) (behind : Entries) → Rises (before ++ (kept key o ++ behind)) → Rises (before ++ behind)
rises_without [] key None behind rises = rises
rises_without [] key (Some v) behind rises = rises.1
rises_without (e ∷ es) key o behind rises =
    let P : Entry → Type 0 = λ f. name_cmp e.0 f.0 ≡ Less in
    (all_both P es behind (all_first P es (kept key o ++ behind) rises.0) (all_second P (kept key o) behind (all_second P es (kept key o ++ behind) rises.0)), rises_without es key o behind rises.1)

one : (P : Entry → Type 0) (key : List ℕ) (o : Option (List ℕ)) → ((v : List ℕ) → P (key, v)) → AllByRecursion P (kept key o)
one P key None so = tt
one P key (Some v) so = (so v, tt)

pub rises_with : (before : Entries) (key : List ℕ) (o : Option (List ℕ)) (behind : Entries) → Rises (before ++ behind) → AreBefore key before → AreBehind key behind → Rises (before ++ (kept key o ++ behind))
rises_with [] key None behind rises ahead after = rises
rises_with [] key (Some v) behind rises ahead after = (after, rises)
rises_with (e ∷ es) key o behind rises ahead after =
    let P : Entry → Type 0 = λ f. name_cmp e.0 f.0 ≡ Less in (
      all_both P es (kept key o ++ behind) (all_first P es behind rises.0) (all_both P (kept key o) behind (one P key o (λ v. less_of (name_cmp e.0 key) ahead.0)) (all_second P es behind rises.0)),
      rises_with es key o behind rises.1 ahead.1 after,
    )

-- a key that none of the entries has is not found among them
tied_less : (q key k : List ℕ) → eq_by_cmp name_cmp q key ≡ true → name_cmp key k ≡ Less → eq_by_cmp name_cmp q k ≡ false
tied_less q key k tied less = ap is_eq (name_total.congr q key k ((Equal-is (name_cmp q key)).0 tied) ∙ less)

none_behind : (q key : List ℕ) (es : Entries) → eq_by_cmp name_cmp q key ≡ true → AreBehind key es → map.find name_cmp q es ≡ None
none_behind q key [] tied after = refl
none_behind q key (e ∷ es) tied after = ap (λ b. cond b (Some e.1) (map.find name_cmp q es)) (tied_less q key e.0 tied after.0) ∙ none_behind q key es tied after.1

absent : (q key : List ℕ) (es : Entries) (tie : Bool) → eq_by_cmp name_cmp q key ≡ tie → AreBehind key es → map.find name_cmp q es ≡ cond tie None (map.find name_cmp q es)
absent q key es true tied after = none_behind q key es tied after
absent q key es false tied after = refl

turned : (a b : Bool) (x : List ℕ) (o r : Option (List ℕ)) → (a ≡ true → b ≡ true → ⊥) → cond a (Some x) (cond b o r) ≡ cond b o (cond a (Some x) r)
turned true true x o r apart = absurd (apart refl refl)
turned true false x o r apart = refl
turned false b x o r apart = refl

never_tied : (q key k : List ℕ) → name_cmp k key ≡ Less → eq_by_cmp name_cmp q k ≡ true → eq_by_cmp name_cmp q key ≡ true → ⊥
never_tied q key k less tied_k tied_key = cc (sym tied_key ∙ tied_less q k key tied_k less)

-- what is found once a key's entry is put in
pub find_around : (before : Entries) (key : List ℕ) (o : Option (List ℕ)) (behind : Entries) (q : List ℕ) → AreBefore key before → AreBehind key behind
    → map.find name_cmp q (before ++ (kept key o ++ behind)) ≡ cond (eq_by_cmp name_cmp q key) o (map.find name_cmp q (before ++ behind))
find_around [] key None behind q ahead after = absent q key behind (eq_by_cmp name_cmp q key) refl after
find_around [] key (Some v) behind q ahead after = refl
find_around (e ∷ es) key o behind q ahead after =
    ap (cond (eq_by_cmp name_cmp q e.0) (Some e.1)) (find_around es key o behind q ahead.1 after)
    ∙ turned (eq_by_cmp name_cmp q e.0) (eq_by_cmp name_cmp q key) e.1 o (map.find name_cmp q (es ++ behind)) (λ tied_e tied_key. never_tied q key e.0 (less_of (name_cmp e.0 key) ahead.0) tied_e tied_key)

-- the value of the key
pub get_around : (before : Entries) (key : List ℕ) (o : Option (List ℕ)) (behind : Entries) → AreBefore key before → AreBehind key behind
    → map.get (map.from_entries {R = name_cmp} (before ++ (kept key o ++ behind))) key ≡ o
get_around before key o behind ahead after =
    map.get-from_entries name_total (before ++ (kept key o ++ behind)) key ∙ find_around before key o behind key ahead after
    ∙ ap (λ r. cond (is_eq r) o (map.find name_cmp key (before ++ behind))) (tied_itself name_total key)

twice : (b : Bool) (o p r : Option (List ℕ)) → cond b o r ≡ cond b o (cond b p r)
twice true o p r = refl
twice false o p r = refl

set_get : (m : map.FinMap name_cmp (List ℕ)) (key : List ℕ) (o : Option (List ℕ)) (q : List ℕ) → map.get (set_in m key o) q ≡ cond (eq_by_cmp name_cmp q key) o (map.get m q)
set_get m key None q = map.get-remove name_total m key q
set_get m key (Some v) q = map.get-insert name_total m key v q

-- another value put in, or none
pub set_around : (before : Entries) (key : List ℕ) (old new : Option (List ℕ)) (behind : Entries) → AreBefore key before → AreBehind key behind
    → map.from_entries {R = name_cmp} (before ++ (kept key new ++ behind)) ≡ set_in (map.from_entries (before ++ (kept key old ++ behind))) key new
set_around before key old new behind ahead after = map.same_map name_total name_exact _ _ (λ q.
    let rest = map.find name_cmp q (before ++ behind) in
    let tie = eq_by_cmp name_cmp q key in
    map.get-from_entries name_total (before ++ (kept key new ++ behind)) q ∙ find_around before key new behind q ahead after ∙ twice tie new old rest
    ∙ ap (cond tie new) (sym (map.get-from_entries name_total (before ++ (kept key old ++ behind)) q ∙ find_around before key old behind q ahead after))
    ∙ sym (set_get (map.from_entries (before ++ (kept key old ++ behind))) key new q))
