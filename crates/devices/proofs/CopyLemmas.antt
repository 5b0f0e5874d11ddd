-- Files that are copied path by path.
use Rattle.std.proofs.Common.{◌≡◌, ℕ, ◌||◌, Bool, true, false, cond, List, [], ◌∷◌, Option, Some, None, is_some, length, refl, sym, ◌∙◌, ap, arith}
use Rattle.std.specs.declared.cmp.Ordering.{Ordering}
use Rattle.std.specs.declared.cmp.Ordering.TheVariants.{Less, Equal, Greater}
use Rattle.std.specs.Ordering.{is_eq, eq_by_cmp}
use Rattle.std.specs.List.{list_any}
use Rattle.std.specs.FinMap.{get, insert, keys, empty, contains_key-keys, get-insert, get-empty, same_map}
use Rattle.git_name.specs.Name.{name_cmp}
use Rattle.git_name.proofs.Names.{name_total, name_exact}
use Rattle.devices.specs.Copy.{AreFound, IsCopy}
use Rattle.devices.specs.Device.{Files, put_there}

tied : (o : Ordering) → is_eq o ≡ true → o ≡ Equal
tied Less e = cc
tied Equal e = refl
tied Greater e = cc

pub one_key : (q path : List ℕ) → eq_by_cmp name_cmp q path ≡ true → q ≡ path
one_key q path is = name_exact q path (tied (name_cmp q path) is)

nothing : (b : Bool) (o : Option (List ℕ)) → o ≡ None → cond b o None ≡ None
nothing true o is = is
nothing false o is = refl

copied_more : (found : List ℕ → Option (List ℕ)) (copy : Files) (path : List ℕ) (others : List (List ℕ)) (given : Option (List ℕ)) → given ≡ found path → AreFound others found copy → AreFound (path ∷ others) found (put_there copy path given)
copied_more found copy path others (Some bytes) is before q = by (eq_by_cmp name_cmp q path) refl
  where
    put : get (insert copy path bytes) q ≡ cond (eq_by_cmp name_cmp q path) (Some bytes) (get copy q)
    put = get-insert name_total copy path bytes q

    by : (b : Bool) → eq_by_cmp name_cmp q path ≡ b → get (insert copy path bytes) q ≡ cond (eq_by_cmp name_cmp q path || list_any (eq_by_cmp name_cmp q) others) (found q) None
    by true same =
        put ∙ ap (λ (t : Bool). cond t (Some bytes) (get copy q)) same ∙ is ∙ ap found (sym (one_key q path same))
        ∙ ap (λ (t : Bool). cond (t || list_any (eq_by_cmp name_cmp q) others) (found q) None) (sym same)
    by false differs =
        put ∙ ap (λ (t : Bool). cond t (Some bytes) (get copy q)) differs ∙ before q
        ∙ ap (λ (t : Bool). cond (t || list_any (eq_by_cmp name_cmp q) others) (found q) None) (sym differs)
copied_more found copy path others None is before q = by (eq_by_cmp name_cmp q path) refl
  where
    by : (b : Bool) → eq_by_cmp name_cmp q path ≡ b → get copy q ≡ cond (eq_by_cmp name_cmp q path || list_any (eq_by_cmp name_cmp q) others) (found q) None
    by true same =
        let none : found q ≡ None = ap found (one_key q path same) ∙ sym is in
        before q ∙ nothing (list_any (eq_by_cmp name_cmp q) others) (found q) none ∙ sym (nothing (eq_by_cmp name_cmp q path || list_any (eq_by_cmp name_cmp q) others) (found q) none)
    by false differs = before q ∙ ap (λ (t : Bool). cond (t || list_any (eq_by_cmp name_cmp q) others) (found q) None) (sym differs)

-- the same of a list, by its first path
pub copied_first : (found : List ℕ → Option (List ℕ)) (copy new : Files) (path key : List ℕ) (paths others : List (List ℕ)) (given : Option (List ℕ)) → paths ≡ path ∷ others → key ≡ path → given ≡ found path → new ≡ put_there copy key given
    → AreFound others found copy → AreFound paths found new
copied_first found copy new path key paths others given is key_is given_is new_is before q =
    ap (λ (f : Files). get f q) (new_is ∙ ap (λ (k : List ℕ). put_there copy k given) key_is) ∙ copied_more found copy path others given given_is before q
    ∙ ap (λ (ps : List (List ℕ)). cond (list_any (eq_by_cmp name_cmp q) ps) (found q) None) (sym is)

pub copied_none : (found : List ℕ → Option (List ℕ)) (copy : Files) (paths : List (List ℕ)) → length paths ≡ 0 → copy ≡ empty → AreFound paths found copy
copied_none found copy [] none is q = ap (λ (f : Files). get f q) is ∙ get-empty name_cmp q
copied_none found copy (path ∷ paths) none is q = absurd (omega (arith, none))

itself : (o : Option (List ℕ)) → cond (is_some o) o None ≡ o
itself None = refl
itself (Some bytes) = refl

-- a copy at all paths is the files
pub copied_all : (files copy : Files) (paths : List (List ℕ)) → paths ≡ keys files → IsCopy paths files copy → copy ≡ files
copied_all files copy paths is before = same_map name_total name_exact _ _ (λ q.
    before q ∙ ap (λ (ps : List (List ℕ)). cond (list_any (eq_by_cmp name_cmp q) ps) (get files q) None) is
    ∙ ap (λ (t : Bool). cond t (get files q) None) (sym (contains_key-keys files q)) ∙ itself (get files q))
