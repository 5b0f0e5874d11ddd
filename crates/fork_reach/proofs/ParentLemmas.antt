-- Parents whose flags are set, and commits that have a name as a parent.
use Rattle.std.proofs.Common.{◌≡◌, ◌≢◌, ℕ, ◌&&◌, ◌||◌, not, cond, Bool, true, false, List, [], ◌∷◌, ◌++◌, length, refl, sym, ap, subst, ◌∙◌}
use Rattle.std.specs.List.{Contains, list_any, slice_index_or}
use Rattle.std.specs.Cmp.{eq_by_cmp_equiv}
use Rattle.std.specs.Str.{bytes_eq}
use Rattle.std.specs.FinMap.{FinMap, contains_key, contains_key-keys, keys}
use Rattle.std.proofs.lemmas.Cmp.{nat_list_eq_equiv}
use Rattle.std.proofs.lemmas.List.Folds.{Any-from_list_any, list_any-append}
use Rattle.std.proofs.lemmas.Map.Views.{Contains-from_any, list_any-from_Contains}
use Rattle.std.proofs.lemmas.Slice.Eq.{bytes_eq-Decides}
use Rattle.git_name.specs.Name.{name_cmp}
use Rattle.git_name.specs.Same.{same_name}
use Rattle.git_name.proofs.HashMaps.{one_name}
use Rattle.git_name.proofs.Names.{name_total}
use Rattle.fork_reach.specs.History.{Note, notes_under}
use Rattle.fork_reach.specs.Marks.{is_marked}
use Rattle.fork_reach.specs.NotedBases.{is_best_noted, is_common_noted, is_other_parent}
use Rattle.fork_reach.specs.Reach.{is_among}
use Rattle.fork_reach.proofs.MarkLemmas.{marked_less, marked_there, there_under}
use Rattle.fork_reach.proofs.NameLemmas.{Contains-keys, among-Contains, among-from_Contains, any_passes, same_tests}
use Rattle.fork_reach.proofs.SeeingLemmas.{sole, sole_there}

-- one more parent that is the commit itself
skipped : (old front itself last : Bool) → (last ≡ true → itself ≡ true) → (old || (not itself && front)) ≡ (old || (not itself && (front || last)))
skipped true front itself last same = refl
skipped false front true last same = refl
skipped false true false last same = refl
skipped false false false true same = (let no : false ≡ true = same refl in absurd (cc))
skipped false false false false same = refl

-- one more parent that is another commit
put_last : (old front itself last : Bool) → (last ≡ true → itself ≡ false) → cond last true (old || (not itself && front)) ≡ (old || (not itself && (front || last)))
put_last true front itself true apart = refl
put_last true front itself false apart = refl
put_last false front true true apart = (let no : true ≡ false = apart refl in absurd (cc))
put_last false front true false apart = refl
put_last false true false true apart = refl
put_last false false false true apart = refl
put_last false true false false apart = refl
put_last false false false false apart = refl

-- one more name behind others
among_more : (front : List (List ℕ)) (last name : List ℕ) → is_among (front ++ last ∷ []) name ≡ (is_among front name || is_among (last ∷ []) name)
among_more front last name = list_any-append (bytes_eq name) front (last ∷ [])

is_last : (last name : List ℕ) → is_among (last ∷ []) name ≡ true → last ≡ name
is_last last name is = sole_there last name (among-Contains (last ∷ []) name is)

-- the parent is the commit itself, and was left out
pub parents_skip : (old now : Bool) (commit last name : List ℕ) (front : List (List ℕ)) → last ≡ commit → now ≡ (old || (not (bytes_eq commit name) && is_among front name)) → now ≡ (old || (not (bytes_eq commit name) && is_among (front ++ last ∷ []) name))
parents_skip old now commit last name front same before =
    before ∙ skipped old (is_among front name) (bytes_eq commit name) (is_among (last ∷ []) name) (λ is. (bytes_eq-Decides commit name).1 (sym same ∙ is_last last name is))
    ∙ ap (λ b. old || (not (bytes_eq commit name) && b)) (sym (among_more front last name))

pub unequal : (a b : List ℕ) → a ≢ b → bytes_eq a b ≡ false
unequal a b apart = by (bytes_eq a b) refl
  where
    by : (c : Bool) → bytes_eq a b ≡ c → bytes_eq a b ≡ false
    by true is = absurd (apart ((bytes_eq-Decides a b).0 is))
    by false is = is

-- the parent is another commit, and its flag was set
pub parents_put : (old before now : Bool) (commit last name : List ℕ) (front : List (List ℕ)) → last ≢ commit → now ≡ cond (same_name last name) true before → before ≡ (old || (not (bytes_eq commit name) && is_among front name))
    → now ≡ (old || (not (bytes_eq commit name) && is_among (front ++ last ∷ []) name))
parents_put old before now commit last name front apart put was =
    put ∙ ap (cond (same_name last name) true) was ∙ ap (λ b. cond b true (old || (not (bytes_eq commit name) && is_among front name))) tied
    ∙ put_last old (is_among front name) (bytes_eq commit name) (is_among (last ∷ []) name) (λ is. unequal commit name (λ same. apart (is_last last name is ∙ sym same)))
    ∙ ap (λ b. old || (not (bytes_eq commit name) && b)) (sym (among_more front last name))
  where
    tied : same_name last name ≡ is_among (last ∷ []) name
    tied = same_tests _ _ (λ is. among-from_Contains (last ∷ []) name (subst (Contains (last ∷ [])) (one_name last name is) (sole last)))
        (λ is. subst (λ n. same_name last n ≡ true) (is_last last name is) (nat_list_eq_equiv.refl last))

-- a test of names, and another that passes the same of those that are keys
pub any_of_keys : {X : Type 0} (values : FinMap name_cmp X) (names : List (List ℕ)) (test other : List ℕ → Bool) → ((name : List ℕ) → contains_key values name ≡ list_any (same_name name) names) → ((name : List ℕ) → test name ≡ other name) → list_any test names ≡ list_any other (keys values)
any_of_keys values names test other there same =
    same_tests _ _
    (λ is.
    let any = Any-from_list_any test names is in
    any_passes other (keys values) any.1 (Contains-keys values any.1 (there any.1 ∙ list_any-from_Contains nat_list_eq_equiv any.1 names (any.0, any.2, any.3))) (sym (same any.1) ∙ any.4))
    (λ is.
    let any = Any-from_list_any other (keys values) is in
    let key = contains_key-keys values any.1 ∙ list_any-from_Contains (eq_by_cmp_equiv name_total) any.1 (keys values) (any.0, any.2, any.3) in
    any_passes test names any.1 (Contains-from_any {eq = same_name} one_name any.1 names (sym (there any.1) ∙ key)) (same any.1 ∙ any.4))

neither : (a b c d : Bool) → b ≡ false → b ≡ d → (a && b) ≡ (c && d)
neither a true c d off same = absurd (cc)
neither a false c true off same = absurd (cc)
neither true false true false off same = refl
neither true false false false off same = refl
neither false false true false off same = refl
neither false false false false off same = refl

-- the flags of common commits, less those of what one of them has as a parent, are those of the best
pub best_told : (names : List (List ℕ)) (notes : List Note) (a b : List ℕ) (common outdone now : List Bool) → length notes ≡ length names → ((name : List ℕ) → is_marked names common name ≡ is_common_noted (notes_under names notes) a b name)
    → ((name : List ℕ) → list_any (same_name name) names ≡ true → is_marked names outdone name ≡ list_any (λ other. is_marked names common other && is_other_parent (notes_under names notes) name other) names)
    → ((at : ℕ) → slice_index_or now at false ≡ (not (slice_index_or outdone at false) && slice_index_or common at false)) → (name : List ℕ) → is_marked names now name ≡ is_best_noted (notes_under names notes) a b name
best_told names notes a b common outdone now each commons outdoes less name = marked_less names common outdone now less name ∙ by (is_marked names common name) refl
  where
    by : (c : Bool) → is_marked names common name ≡ c → (not (is_marked names outdone name) && is_marked names common name) ≡ is_best_noted (notes_under names notes) a b name
    by true is =
        (let there = notes_under names notes in
        let children = list_any (λ other. is_common_noted there a b other && is_other_parent there name other) (keys there) in
        let told = outdoes name (marked_there names common name is)
        ∙ any_of_keys there names (λ other. is_marked names common other && is_other_parent there name other) (λ other. is_common_noted there a b other && is_other_parent there name other) (there_under names notes each) (λ other. ap (λ c. c && is_other_parent there name other) (commons other)) in
        ap (λ c. not c && is_marked names common name) told ∙ ap (λ c. not children && c) (commons name))
    by false is = neither _ (is_marked names common name) _ (is_common_noted (notes_under names notes) a b name) is (commons name)
