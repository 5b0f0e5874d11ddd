-- Two stores that agree under all names but some.
use Rattle.std.proofs.Common.{◌≡◌, ◌∙◌, ◌||◌, sym, ap, subst, refl, arith, length, ℕ, Bool, true, false, List, [], ◌∷◌, Option, Some, None, cond, is_some}
use Rattle.std.specs.List.{list_any}
use Rattle.std.specs.declared.cmp.Ordering.{Ordering}
use Rattle.std.specs.declared.cmp.Ordering.TheVariants.{Less, Equal, Greater}
use Rattle.std.specs.Ordering.{is_eq, eq_by_cmp}
use Rattle.std.specs.FinMap.{contains_key-keys, get, get-insert, keys, same_map}
use Rattle.git_name.specs.Name.{name_cmp}
use Rattle.git_name.proofs.Names.{name_total, name_exact}
use Rattle.loose_store.specs.Files.{Files}
use Rattle.packed_store.specs.Copied.{IsCopied}

-- a name is not among these
abbrev pub IsOther : List ℕ → List (List ℕ) → Type 0
IsOther name names = list_any (eq_by_cmp name_cmp name) names ≡ false

-- two stores have the same under all other names
abbrev pub AgreeBut : List (List ℕ) → Files → Files → Type 0
AgreeBut names old new = (name : List ℕ) → IsOther name names → get new name ≡ get old name

none_of : (o : Option (List ℕ)) → is_some o ≡ false → o ≡ None
none_of None none = refl
none_of (Some bytes) none = absurd (cc)

-- a store has no file under a name that it does not list
unlisted : (files : Files) (name : List ℕ) → IsOther name (keys files) → get files name ≡ None
unlisted files name other = none_of (get files name) (contains_key-keys files name ∙ other)

-- a store without files agrees with another under all names that this one does not list
pub none_agree : (old new : Files) → keys new ≡ [] → AgreeBut (keys old) old new
none_agree old new none name other = unlisted new name (subst (IsOther name) (sym none) refl) ∙ sym (unlisted old name other)

tied : (o : Ordering) → is_eq o ≡ true → o ≡ Equal
tied Less e = cc
tied Equal e = refl
tied Greater e = cc

neither : (first rest : Bool) → first ≡ false → rest ≡ false → (first || rest) ≡ false
neither false rest first none = none
neither true rest first none = absurd (cc)

-- a file that was copied is one name less under which they may differ
pub copy_agrees : (name : List ℕ) (names : List (List ℕ)) (old before after : Files) → AgreeBut (name ∷ names) old before → IsCopied name old before after → AgreeBut names old after
copy_agrees name names old before after agree copied other apart =
    ap (λ files. get files other) copied.put ∙ get-insert name_total before name copied.bytes other ∙ by (eq_by_cmp name_cmp other name) refl
  where
    by : (b : Bool) → eq_by_cmp name_cmp other name ≡ b → cond b (Some copied.bytes) (get before other) ≡ get old other
    by true e = sym (ap (get old) (name_exact other name (tied _ e)) ∙ copied.there)
    by false e = agree other (neither (eq_by_cmp name_cmp other name) (list_any (eq_by_cmp name_cmp other) names) e apart)

pub none_left : (names : List (List ℕ)) → length names ≡ 0 → names ≡ []
none_left [] none = refl
none_left (name ∷ names) none = absurd (omega arith)

-- in the end they have the same
pub all_agree : (names : List (List ℕ)) (old new : Files) → names ≡ [] → AgreeBut names old new → new ≡ old
all_agree names old new none agree = same_map name_total name_exact new old (λ name. agree name (subst (IsOther name) (sym none) refl))
