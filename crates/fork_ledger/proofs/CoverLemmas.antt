-- The catalogue's names and the files, as one name comes or leaves.
use Rattle.std.proofs.Common.{◌≡◌, ◌≢◌, ◌⊎◌, ◌<◌, inl, inr, ℕ, List, [], ◌∷◌, ◌++◌, ◌||◌, ◌&&◌, not, Bool, true, false, None, cond, is_some, length, refl, sym, ap, subst, ◌∙◌, arith}
use Rattle.std.specs.Prelude.{Contains}
use Rattle.std.specs.Cmp.{eq_by_cmp_equiv}
use Rattle.std.specs.FinMap.{contains_key, contains_key-keys, get, get-remove, keys, remove}
use Rattle.std.specs.List.{AllByRecursion, IsDistinct, list_any}
use Rattle.std.specs.Ordering.{eq_by_cmp}
use Rattle.std.proofs.lemmas.Cmp.{nat_list_eq_equiv}
use Rattle.std.proofs.lemmas.List.{append-nil}
use Rattle.std.proofs.lemmas.List.Elements.{Contains-push_cases}
use Rattle.std.proofs.lemmas.Map.Keys.{IsDistinct-from_sorted}
use Rattle.git_name.specs.Name.{name_cmp}
use Rattle.git_name.proofs.Names.{name_total}
use Rattle.git_name.specs.Same.{is_listed, same_name}
use Rattle.fork_reach.proofs.KeyLemmas.{keys_ascend}
use Rattle.looks.specs.Growth.{AreNew, GrowsAmong}
use Rattle.looks.specs.Places.{Places}
use Rattle.object_table.specs.Rows.{LooksNextAt}
use Rattle.object_table.proofs.PlaceLemmas.{one_name, own_name}
use Rattle.object_table.proofs.HolderLemmas.{same_tests}
use Rattle.loose_store.specs.Files.{Files, SameBut}
use Rattle.loose_store.specs.Stored.{Whole}
use Rattle.fork_ledger.specs.AllStaged.{StaysWhole}
use Rattle.fork_ledger.specs.Kept.{Covers, IsExact}

pub false_is_true : (G : Type 0) → false ≡ true → G
false_is_true G is = (let differs : ⊥ = cc in absurd differs)

pub by_name : (G : Type 0) (name q : List ℕ) → (name ≡ q → G) → (q ≢ name → same_name name q ≡ false → G) → G
by_name G name q f g = go (same_name name q) refl
  where
    go : (b : Bool) → same_name name q ≡ b → G
    go true is = f (one_name name q is)
    go false apart = g (λ same. false_is_true ⊥ (sym apart ∙ ap (same_name name) same ∙ own_name name)) apart

-- a name is entered, and then one file changes
pub covers_entered : (files after : Files) (old new : Places) (name : List ℕ) → Covers files old → ((q : List ℕ) → is_listed new.names q ≡ (same_name name q || is_listed old.names q)) → SameBut name files after → Covers after new
covers_entered files after old new name cover listed but q there = by_name _ name q
    (λ same. listed q ∙ ap (λ x. same_name name x || is_listed old.names x) (sym same) ∙ ap (λ b. b || is_listed old.names name) (own_name name))
    (λ apart differs. listed q ∙ ap (λ b. b || is_listed old.names q) differs ∙ cover q (ap is_some (sym (but q apart)) ∙ there))

-- a file is taken away, and then its name
pub covers_left : (files after : Files) (old new : Places) (name : List ℕ) → Covers files old → ((q : List ℕ) → is_listed new.names q ≡ (not (same_name name q) && is_listed old.names q)) → SameBut name files after → get after name ≡ None
    → Covers after new
covers_left files after old new name cover listed but gone q there = by_name _ name q
    (λ same. false_is_true _ (sym (ap is_some (ap (get after) (sym same) ∙ gone)) ∙ there))
    (λ apart differs. listed q ∙ ap (λ b. not b && is_listed old.names q) differs ∙ cover q (ap is_some (sym (but q apart)) ∙ there))

next_any : (front back : List (List ℕ)) (name : List ℕ) → is_listed (front ++ name ∷ back) name ≡ true
next_any [] back name = ap (λ b. b || is_listed back name) (own_name name)
next_any (x ∷ front) back name = ap (λ b. same_name name x || b) (next_any front back name) ∙ or_true (same_name name x)
  where
    or_true : (b : Bool) → (b || true) ≡ true
    or_true true = refl
    or_true false = refl

-- a file may be gone, and its name stays
pub covers_failed : (files after : Files) (places : Places) (name : List ℕ) → Covers files places → LooksNextAt places name → SameBut name files after → Covers after places
covers_failed files after places name cover next but q there = by_name _ name q
    (λ here. ap (is_listed places.names) (sym here) ∙ ap (λ xs. is_listed xs name) next.whole ∙ next_any next.front next.back name)
    (λ apart differs. cover q (ap is_some (sym (but q apart)) ∙ there))

-- a file and then its name are gone
pub exact_left : (files after : Files) (old new : Places) (name : List ℕ) → ((q : List ℕ) → is_listed new.names q ≡ (not (same_name name q) && is_listed old.names q)) → SameBut name files after → IsExact files old → IsExact after new
exact_left files after old new name listed but exact q there = by_name _ name q
    (λ same. false_is_true _ (sym (listed q ∙ ap (λ x. not (same_name name x) && is_listed old.names x) (sym same) ∙ ap (λ b. not b && is_listed old.names name) (own_name name)) ∙ there))
    (λ apart differs. ap is_some (but q apart) ∙ exact q (sym (listed q ∙ ap (λ b. not b && is_listed old.names q) differs) ∙ there))

-- a name is entered, and then its file is there
pub exact_entered : (files after : Files) (old new : Places) (name : List ℕ) → ((q : List ℕ) → is_listed new.names q ≡ (same_name name q || is_listed old.names q)) → SameBut name files after → contains_key after name ≡ true → IsExact files old
    → IsExact after new
exact_entered files after old new name listed but there exact q is = by_name _ name q
    (λ same. ap (contains_key after) (sym same) ∙ there)
    (λ apart differs. ap is_some (but q apart) ∙ exact q (sym (listed q ∙ ap (λ b. b || is_listed old.names q) differs) ∙ is))

pub removed_none : (files : Files) (name : List ℕ) → get (remove files name) name ≡ None
removed_none files name = get-remove name_total files name name ∙ ap (λ b. cond b None (get files name)) ((eq_by_cmp_equiv name_total).refl name)

-- ---- the names of all files
listed_alike : (names : List (List ℕ)) (q : List ℕ) → list_any (eq_by_cmp name_cmp q) names ≡ is_listed names q
listed_alike [] q = refl
listed_alike (name ∷ names) q = ap (λ b. b || list_any (eq_by_cmp name_cmp q) names) (same_tests q name ∙ nat_list_eq_equiv.symm name q) ∙ ap (λ b. same_name q name || b) (listed_alike names q)

pub keys_listed : (files : Files) (q : List ℕ) → is_listed (keys files) q ≡ contains_key files q
keys_listed files q = sym (contains_key-keys files q ∙ listed_alike (keys files) q)

-- and each is there once
unlike : (first : List ℕ) (rest : List (List ℕ)) → AllByRecursion (λ other. eq_by_cmp name_cmp first other ≡ false) rest → AllByRecursion (λ other. same_name first other ≡ false) rest
unlike first [] each = tt
unlike first (other ∷ rest) each = (nat_list_eq_equiv.symm first other ∙ sym (same_tests first other) ∙ each.0, unlike first rest each.1)

distinct_names : (names : List (List ℕ)) → IsDistinct (eq_by_cmp name_cmp) names → IsDistinct same_name names
unfolding IsDistinct
distinct_names [] all = tt
distinct_names (name ∷ names) all = (unlike name names all.0, distinct_names names all.1)

pub keys_distinct : (files : Files) → IsDistinct same_name (keys files)
keys_distinct files = distinct_names (keys files) (IsDistinct-from_sorted name_cmp (keys files) (keys_ascend files))

-- a file comes under a name that no file has
pub new_stays : (files after : Files) (name : List ℕ) → contains_key files name ≡ false → SameBut name files after → StaysWhole files after
new_stays files after name absent but q object whole = by_name _ name q
    (λ same. false_is_true _ (sym absent ∙ ap (λ n. is_some (get files n)) same ∙ ap is_some whole.file))
    (λ apart differs. record { file = but q apart ∙ whole.file; named = whole.named })

sole : (name x : List ℕ) → Contains (name ∷ []) x → name ≡ x
sole name x inside = by (Contains-push_cases [] name x inside)
  where
    by : Contains [] x ⊎ (name ≡ x) → name ≡ x
    by (inl nowhere) = (let within = nowhere.1 in absurd (omega (arith, within)))
    by (inr same) = same

longer_new : (old added : List (List ℕ)) (name : List ℕ) → AreNew old added → AllByRecursion (Contains (name ∷ [])) added → length old < length (old ++ added) → is_listed old name ≡ false
longer_new old [] name fresh among longer = (let same : length old < length old = subst (λ xs. length old < length xs) (append-nil old) longer in absurd (omega (arith, same)))
longer_new old (x ∷ added) name fresh among longer = subst (λ n. is_listed old n ≡ false) (sym (sole name x among.0)) fresh.0

-- no file has a name that made the catalogue longer
pub uncovered : (files : Files) (old new : Places) (name : List ℕ) → Covers files old → GrowsAmong (name ∷ []) old new → length old.names < length new.names → contains_key files name ≡ false
uncovered files old new name cover grows longer = by (contains_key files name) refl
  where
    apart : is_listed old.names name ≡ false
    apart = longer_new old.names grows.added name grows.fresh grows.among (subst (λ xs. length old.names < length xs) grows.parts longer)

    by : (b : Bool) → contains_key files name ≡ b → contains_key files name ≡ false
    by true there = false_is_true _ (sym apart ∙ cover name there)
    by false absent = absent
