-- What a survey notes, and what is undone behind it.
use Rattle.std.proofs.Common.{◌≡◌, ℕ, Bool, true, false, List, [], ◌∷◌, ◌++◌, Option, Some, None, cond, refl, sym, ◌∙◌, ap}
use Rattle.std.specs.Option.{option_or}
use Rattle.std.specs.Ordering.{eq_by_cmp}
use Rattle.std.specs.Map.{lookup}
use Rattle.std.specs.FinMap.{get, get-insert, get-remove, insert, remove, same_map}
use Rattle.std.proofs.lemmas.Cmp.{nat_list_eq_equiv}
use Rattle.git_name.specs.Maps.{joined}
use Rattle.git_name.specs.Name.{name_cmp}
use Rattle.git_name.specs.Same.{same_name}
use Rattle.git_name.proofs.HashMaps.{get_of_hashed}
use Rattle.git_name.proofs.MapLemmas.{get_joined}
use Rattle.git_name.proofs.Names.{name_total, name_exact}
use Rattle.loose_store.proofs.FilesLemmas.{tied}
use Rattle.packed_store.specs.declared.place.Place.{Place}
use Rattle.packed_store.specs.Place.{Index, index_of}
use Rattle.packed_store.specs.Survey.{restored}

-- the last entry of a list, which is not among the others
found_last : (test : List ℕ → Bool) (fs : List (List ℕ × Place)) (e : List ℕ × Place) → test e.0 ≡ true → lookup test fs ≡ None → lookup test (fs ++ e ∷ []) ≡ Some e.1
found_last test [] e here none = ap (λ (b : Bool). cond b (Some e.1) None) here
found_last test (f ∷ fs) e here none = behind (test f.0) f.1 (lookup test fs) (lookup test (fs ++ e ∷ [])) (Some e.1) none (found_last test fs e here)
  where
    behind : (b : Bool) (v : Place) (o p q : Option Place) → cond b (Some v) o ≡ None → (o ≡ None → p ≡ q) → cond b (Some v) p ≡ q
    behind true v o p q none is = let never : ⊥ = cc in absurd never
    behind false v o p q none is = is none

taken_out : (b : Bool) (o : Option Place) → b ≡ true → cond b None o ≡ None
taken_out true o is = refl
taken_out false o is = let never : ⊥ = cc in absurd never

pub last_found : (es fs : List (List ℕ × Place)) (p : List ℕ × Place) → es ≡ fs ++ p ∷ []
    → ((q : List ℕ) → lookup (same_name q) fs ≡ cond (same_name p.0 q) None (lookup (same_name q) es)) → get (index_of es) p.0 ≡ Some p.1
last_found es fs p is updates =
    let here : same_name p.0 p.0 ≡ true = nat_list_eq_equiv.refl p.0 in
    get_of_hashed es p.0 ∙ ap (lookup (same_name p.0)) is ∙ found_last (same_name p.0) fs p here (updates p.0 ∙ taken_out (same_name p.0 p.0) (lookup (same_name p.0) es) here)

one_name : (a b : List ℕ) → eq_by_cmp name_cmp a b ≡ true → a ≡ b
one_name a b e = name_exact a b (tied (name_cmp a b) e)

-- a pending file that is live again, at any name
restored_at : (b : Bool) (live pending : Option Place) (place : Place) → (b ≡ true → pending ≡ Some place) → (b ≡ true → live ≡ None) → option_or (cond b (Some place) live) (cond b None pending) ≡ option_or live pending
restored_at true live pending place is none = sym (ap (λ (o : Option Place). option_or o pending) (none refl) ∙ is refl)
restored_at false live pending place is none = refl

dropped_at : (b : Bool) (live pending : Option Place) (other : Place) → (b ≡ true → live ≡ Some other) → option_or live (cond b None pending) ≡ option_or live pending
dropped_at true live pending other is = ap (λ (o : Option Place). option_or o None) (is refl) ∙ sym (ap (λ (o : Option Place). option_or o pending) (is refl))
dropped_at false live pending other is = refl

-- one pending file less, and the same is opened
pub restore_step : (live pending : Index) (name : List ℕ) (place : Place) (o : Option Place) → get live name ≡ o → get pending name ≡ Some place → joined (restored live name place o) (remove pending name) ≡ joined live pending
restore_step live pending name place None none is = same_map name_total name_exact _ _ (λ q.
    let b = eq_by_cmp name_cmp q name in
    get_joined name_total (insert live name place) (remove pending name) q
    ∙ ap (λ (o : Option Place). option_or o (get (remove pending name) q)) (get-insert name_total live name place q)
    ∙ ap (option_or (cond b (Some place) (get live q))) (get-remove name_total pending name q)
    ∙ restored_at b (get live q) (get pending q) place (λ e. ap (get pending) (one_name q name e) ∙ is) (λ e. ap (get live) (one_name q name e) ∙ none)
    ∙ sym (get_joined name_total live pending q))
restore_step live pending name place (Some other) some is = same_map name_total name_exact _ _ (λ q.
    let b = eq_by_cmp name_cmp q name in
    get_joined name_total live (remove pending name) q
    ∙ ap (option_or (get live q)) (get-remove name_total pending name q)
    ∙ dropped_at b (get live q) (get pending q) other (λ e. ap (get live) (one_name q name e) ∙ some)
    ∙ sym (get_joined name_total live pending q))
