-- What is gathered from a list whose names ascend.
use Rattle.std.proofs.Common.{◌≡◌, ℕ, ◌+◌, ◌<◌, List, [], ◌∷◌, ◌++◌, refl, sym, ap, subst, ◌∙◌, arith, length, get_or, take, drop, map, take-append-drop}
use Rattle.std.proofs.lemmas.List.{drop_more, take_more}
use Rattle.std.proofs.lemmas.List.Elements.{All-head, All-tail}
use Rattle.std.specs.BTreeSet.{insert_key}
use Rattle.std.specs.Ordering.{ordering_reverse}
use Rattle.std.specs.FinMap.{empty, entries, insert, len-empty, len-entries}
use Rattle.std.specs.declared.cmp.Ordering.TheVariants.{Less}
use Rattle.git_name.specs.Name.{name_cmp}
use Rattle.git_name.proofs.Names.{name_total}
use Rattle.git_reftx.specs.Repository.{Repository}
use Rattle.git_reftx.proofs.PushLemmas.{entries_behind}
use Rattle.fork_model.specs.View.{Repositories}
use Rattle.state_text.specs.Adding.{AreBefore}
use Rattle.state_text.specs.States.{Ascend}
use Rattle.fork_host.proofs.KeepingLemmas.{before_next_by}

-- those at the front, one of them, and those after it
pub parts_at : {A : Type 0} (xs : List A) (i : ℕ) (x : A) → i < length xs → x ≡ get_or xs i x → xs ≡ take i xs ++ x ∷ drop (i + 1) xs
parts_at xs i x inside is = sym (take-append-drop i xs) ∙ ap (λ back. take i xs ++ back) (drop_more xs i x inside ∙ ap (λ y. y ∷ drop (i + 1) xs) (sym is))

pub taken_more : {A : Type 0} (xs : List A) (i : ℕ) (x : A) → i < length xs → x ≡ get_or xs i x → take (i + 1) xs ≡ take i xs ++ x ∷ []
taken_more xs i x inside is = take_more xs i x inside ∙ ap (λ y. take i xs ++ y ∷ []) (sym is)

-- if names ascend, those at the front come before the next
pub next_by : {A : Type 0} (name : A → List ℕ) (xs : List A) (i : ℕ) (x : A) → Ascend (map name xs) → i < length xs → x ≡ get_or xs i x → AreBefore (map name (take i xs)) (name x)
next_by name xs i x ascend inside is = before_next_by name (take i xs) x (drop (i + 1) xs) (subst (λ ys. Ascend (map name ys)) (parts_at xs i x inside is) ascend)

-- a name after all others is inserted at the end
set_behind : (names : List (List ℕ)) (name : List ℕ) → AreBefore names name → insert_key name_cmp names name ≡ names ++ name ∷ []
set_behind [] name before = refl
set_behind (first ∷ names) name before =
    let above = name_total.antisymm name first ∙ ap ordering_reverse (All-head (λ other. name_cmp other name ≡ Less) first names before) in
    rw above (ap (λ ks. first ∷ ks) (set_behind names name (All-tail (λ other. name_cmp other name ≡ Less) first names before)))

same_names : (names : List (List ℕ)) → map (λ name. name) names ≡ names
same_names [] = refl
same_names (name ∷ names) = ap (λ ks. name ∷ ks) (same_names names)

-- a set of ascending names when the next name is inserted
pub set_more : (names : List (List ℕ)) (i : ℕ) (name : List ℕ) (old new : List (List ℕ)) → Ascend names → i < length names → name ≡ get_or names i name → new ≡ insert_key name_cmp old name → old ≡ take i names → new ≡ take (i + 1) names
set_more names i name old new ascend inside is put so_far =
    let before = subst (λ ks. AreBefore ks name) (same_names (take i names)) (next_by (λ k. k) names i name (subst Ascend (sym (same_names names)) ascend) inside is) in
    put ∙ ap (λ ks. insert_key name_cmp ks name) so_far ∙ set_behind (take i names) name before ∙ sym (taken_more names i name inside is)

-- the repositories of a list when the next one is added
pub gathered_more : (list : List (List ℕ × Repository)) (old new : Repositories) (i : ℕ) (item : List ℕ × Repository) (name : List ℕ) (repository : Repository) → Ascend (map (λ row. row.0) list) → i < length list → item ≡ get_or list i item
    → name ≡ item.0 → repository ≡ item.1 → new ≡ insert old name repository → entries old ≡ take i list → entries new ≡ take (i + 1) list
gathered_more list old new i item name repository ascend inside is named same set so_far =
    let before = subst (λ es. AreBefore (map (λ e. e.0) es) name) (sym so_far) (subst (AreBefore (map (λ e. e.0) (take i list))) (sym named) (next_by (λ row. row.0) list i item ascend inside is)) in
    ap (λ (m : Repositories). entries m) set ∙ entries_behind old name repository before
    ∙ ap (λ es. es ++ (name, repository) ∷ []) so_far ∙ ap (λ (e : List ℕ × Repository). take i list ++ e ∷ []) (λ k. (named k, same k))
    ∙ sym (taken_more list i item inside is)

pub none_gathered : entries (empty {K = List ℕ} {X = Repository} {R = name_cmp}) ≡ []
none_gathered = no_elements (entries (empty {K = List ℕ} {X = Repository} {R = name_cmp})) (sym (len-entries (empty {K = List ℕ} {X = Repository} {R = name_cmp})) ∙ len-empty name_cmp Repository)
  where
    no_elements : {A : Type 0} (xs : List A) → length xs ≡ 0 → xs ≡ []
    no_elements [] is = refl
    no_elements (x ∷ xs) is = absurd (omega (arith, is))
