-- The tests of `tree_in` decide what the definitions say.
use Rattle.std.proofs.Common.{◌≡◌, ◌≢◌, ℕ, ◌<◌, ◌&&◌, ◌==◌, Bool, true, false, not, nat_lt, List, [], ◌∷◌, length, codes, cond, slice_index, None, Some, refl, sym, ap, subst, ◌∙◌, arith, inl, inr}
use Rattle.std.specs.Bool.{Decides}
use Rattle.std.specs.List.{AllByRecursion, list_all, flat_map}
use Rattle.std.specs.Ordering.{is_lt}
use Rattle.std.specs.Str.{bytes_eq}
use Rattle.std.specs.declared.cmp.Ordering.{Ordering}
use Rattle.std.specs.declared.cmp.Ordering.TheVariants.{Less, Equal, Greater}
use Rattle.std.proofs.lemmas.Bool.{cases_lt}
use Rattle.std.proofs.lemmas.Bool.Decides.{Decides-eqb, Decides-ltb, Decides-not, Decides-and, Decides-by_and}
use Rattle.std.proofs.lemmas.Grind.{get_or_default_zero}
use Rattle.std.proofs.lemmas.List.{get_or_past}
use Rattle.std.proofs.lemmas.Slice.Eq.{bytes_eq-Decides}
use Rattle.git_name.specs.Name.{name_cmp}
use Rattle.git_name.specs.Text.{Lacks}
use Rattle.git_tree.specs.Entry.{Entry, IsFileName, IsEntry, spelled, entry_key}
use Rattle.git_tree.specs.Tree.{IsBelow, Differ, IsTree}
use Rattle.git_tree.specs.Row.{entries_in}
use Rattle.git_tree.specs.TreeIn.{is_file_name, is_entry, is_followed_by, are_in_order, tree_in}
use Rattle.git_tree.proofs.ListLemmas.{Pairs, all_map, pairs_of_all, all_of_pairs, pairs_of_sorted, sorted_of_pairs}
use Rattle.git_tree.proofs.RowLemmas.{row_is_of}

is_lt_decides : (o : Ordering) → Decides (is_lt o) (o ≡ Less)
is_lt_decides Less = (λ h. refl, λ h. refl)
is_lt_decides Equal = (λ h. cc, λ h. cc)
is_lt_decides Greater = (λ h. cc, λ h. cc)

pub lacks_decides : (c : ℕ) (xs : List ℕ) → Decides (list_all (λ b. not (b == c)) xs) (Lacks c xs)
lacks_decides c xs = Decides-by_and (λ b. not (b == c)) (λ b. b ≢ c) (list_all (λ b. not (b == c))) (λ b. Decides-not (b == c) (Decides-eqb b c)) refl (λ _ _. refl) xs

pub differ_decides : (xs ys : List ℕ) → Decides (not (bytes_eq xs ys)) (xs ≢ ys)
differ_decides xs ys = Decides-not (bytes_eq xs ys) (bytes_eq-Decides xs ys)

pub file_name_decides : (bytes : List ℕ) → Decides (is_file_name bytes) (IsFileName bytes)
file_name_decides bytes =
    let nor_dots = Decides-and _ _ (Decides-and _ _ (Decides-and _ _ (Decides-and _ _ (differ_decides bytes []) (lacks_decides 47 bytes)) (lacks_decides 0 bytes)) (differ_decides bytes (codes "."))) (differ_decides bytes (codes "..")) in
    let parts = Decides-and _ _ nor_dots (differ_decides bytes (codes ".git")) in (
      λ test. let p = parts.0 test in record { some = p.0.0.0.0.0; no_slash = p.0.0.0.0.1; no_zero = p.0.0.0.1; not_here = p.0.0.1; not_above = p.0.1; not_git = p.1 },
      λ is. parts.1 (((((is.some, is.no_slash), is.no_zero), is.not_here), is.not_above), is.not_git),
    )

bytes_decides : (xs : List ℕ) → Decides (list_all (λ b. nat_lt b 256) xs) ((i : ℕ) → slice_index xs i < 256)
bytes_decides xs =
    let all = Decides-by_and (λ b. nat_lt b 256) (λ b. b < 256) (list_all (λ b. nat_lt b 256)) (λ b. Decides-ltb b 256) refl (λ _ _. refl) xs in (
      λ test i. elim (cases_lt i (length xs)) [
        | inl lt ↦ all.0 test i 0 lt
        | inr le ↦ omega (arith, get_or_past xs i 0 le)
      ],
      λ is. all.1 (λ k d within. omega (arith, is k, get_or_default_zero xs k d within)),
    )

pub entry_decides : (e : Entry) → Decides (is_entry e) (IsEntry e)
entry_decides e =
    let parts = Decides-and _ _ (Decides-and _ _ (file_name_decides e.file_name) (Decides-eqb (length e.name) 32)) (bytes_decides e.name) in (
      λ test. let p = parts.0 test in record { file_name = p.0.0; name = record { length = p.0.1; bytes = p.1 } },
      λ is. parts.1 ((is.file_name, is.name.length), is.name.bytes),
    )

all_decides : (p : Entry → Bool) (P : Entry → Type 0) → ((e : Entry) → Decides (p e) (P e)) → (es : List Entry) → Decides (list_all p es) (AllByRecursion P es)
all_decides p P each [] = (λ t. tt, λ t. refl)
all_decides p P each (e ∷ es) = Decides-and (p e) (list_all p es) (each e) (all_decides p P each es)

abbrev Follows : Entry → Entry → Type 0
Follows a b = IsBelow a b × Differ a b

follows_decides : (a b : Entry) → Decides (is_followed_by a b) (Follows a b)
follows_decides a b = Decides-and _ _ (is_lt_decides (name_cmp (entry_key a) (entry_key b))) (differ_decides a.file_name b.file_name)

order_decides : (es : List Entry) → Decides (are_in_order es) (Pairs Follows es)
order_decides [] = (λ t. tt, λ t. refl)
order_decides (e ∷ es) = Decides-and (list_all (is_followed_by e) es) (are_in_order es) (all_decides (is_followed_by e) (Follows e) (follows_decides e) es) (order_decides es)

pairs_below : (es : List Entry) → Pairs Follows es → Pairs IsBelow es
pairs_below [] pairs = tt
pairs_below (e ∷ es) pairs = (all_map {P = Follows e} {Q = IsBelow e} es (λ a both. both.0) pairs.0, pairs_below es pairs.1)

pairs_differ : (es : List Entry) → Pairs Follows es → Pairs Differ es
pairs_differ [] pairs = tt
pairs_differ (e ∷ es) pairs = (all_map {P = Follows e} {Q = Differ e} es (λ a both. both.1) pairs.0, pairs_differ es pairs.1)

all_both : (P Q : Entry → Type 0) (es : List Entry) → AllByRecursion P es → AllByRecursion Q es → AllByRecursion (λ e. P e × Q e) es
all_both P Q [] p q = tt
all_both P Q (e ∷ es) p q = ((p.0, q.0), all_both P Q es p.1 q.1)

pairs_both : (es : List Entry) → Pairs IsBelow es → Pairs Differ es → Pairs Follows es
pairs_both [] below differ = tt
pairs_both (e ∷ es) below differ = (all_both (IsBelow e) (Differ e) es below.0 differ.0, pairs_both es below.1 differ.1)

tree_decides : (row : List Entry) (bytes : List ℕ) → Decides (list_all is_entry row && are_in_order row && bytes_eq (flat_map spelled row) bytes) (IsTree row bytes)
tree_decides row bytes =
    let parts = Decides-and _ _ (Decides-and _ _ (all_decides is_entry IsEntry entry_decides row) (order_decides row)) (bytes_eq-Decides (flat_map spelled row) bytes) in (
      λ test. let p = parts.0 test in record {
        are = record { each = p.0.0; ascending = sorted_of_pairs row (pairs_below row p.0.1); different = all_of_pairs Differ row (pairs_differ row p.0.1) };
        spelling = sym p.1;
      },
      λ tree. parts.1 ((tree.are.each, pairs_both row (pairs_of_sorted row tree.are.ascending) (pairs_of_all Differ row tree.are.different)), sym tree.spelling),
    )

chosen : (test : Bool) (row : List Entry) → test ≡ true → cond test (Some row) None ≡ Some row
chosen true row h = refl
chosen false row h = absurd cc

not_chosen : (test : Bool) (row : List Entry) → (test ≡ true → ⊥) → cond test (Some row) None ≡ None
not_chosen true row refused = absurd (refused refl)
not_chosen false row refused = refl

chosen_is : (test : Bool) (row other : List Entry) → cond test (Some row) None ≡ Some other → (test ≡ true) × (row ≡ other)
chosen_is true row other h = (refl, cc)
chosen_is false row other h = absurd cc

-- the tests find the tree that bytes are
pub tree_in_is : (bytes : List ℕ) (row : List Entry) → IsTree row bytes → tree_in bytes ≡ Some row
unfolding tree_in
tree_in_is bytes row tree =
    let same = (row_is_of bytes row tree.are.each tree.spelling).0 in
    let found : IsTree (entries_in bytes) bytes = subst (λ (r : List Entry). IsTree r bytes) (sym same) tree in
    chosen _ (entries_in bytes) ((tree_decides (entries_in bytes) bytes).1 found) ∙ ap Some same

-- and nothing else
pub is_tree_in : (bytes : List ℕ) (row : List Entry) → tree_in bytes ≡ Some row → IsTree row bytes
unfolding tree_in
is_tree_in bytes row h =
    let found = chosen_is _ (entries_in bytes) row h in
    subst (λ (r : List Entry). IsTree r bytes) found.1 ((tree_decides (entries_in bytes) bytes).0 found.0)

pub no_tree_in : (bytes : List ℕ) → ((row : List Entry) → IsTree row bytes → ⊥) → tree_in bytes ≡ None
unfolding tree_in
no_tree_in bytes none = not_chosen _ (entries_in bytes) (λ test. none (entries_in bytes) ((tree_decides (entries_in bytes) bytes).0 test))
