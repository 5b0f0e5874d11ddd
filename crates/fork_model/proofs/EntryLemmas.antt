-- Each entry of a finite map is found under its key.
use Rattle.std.proofs.Common.{◌≡◌, Bool, true, false, cond, List, [], ◌∷◌, Some, refl, sym, ap, ◌∙◌, map}
use Rattle.std.specs.declared.cmp.Ordering.{Ordering}
use Rattle.std.specs.declared.cmp.Ordering.TheVariants.{Less, Equal, Greater}
use Rattle.std.specs.Ordering.{eq_by_cmp, is_eq, ordering_then}
use Rattle.std.specs.Cmp.{IsTotalOrder}
use Rattle.std.specs.List.{AllByRecursion}
use Rattle.std.specs.List.Sorted.{IsStrictlySortedBy}
use Rattle.std.specs.FinMap.{FinMap, IsAntisymmetric, entries, find, get, get-entries}
use Rattle.std.proofs.lemmas.Cmp.{on_total, then_total, tied_itself}
use Rattle.git_name.specs.Name.{name_cmp}
use Rattle.git_name.proofs.Names.{name_exact, name_total}
use Rattle.git_name.proofs.SortedNames.{sorted_entries}
use Rattle.fork_model.specs.Offer.{Pair, pair_cmp}

pub is_equal : (order : Ordering) → is_eq order ≡ true → order ≡ Equal
is_equal Less is = cc
is_equal Equal is = refl
is_equal Greater is = cc

module _ {K : Type 0} {R : K → K → Ordering} (total : IsTotalOrder R) (exact : IsAntisymmetric R) where
  not_less : (key : K) → R key key ≡ Less → ⊥
  not_less key is = (let tied = tied_itself total key in cc)

  -- a key does not tie with a lower one
  untied : (lower key : K) → R lower key ≡ Less → eq_by_cmp R key lower ≡ false
  untied lower key below = by (eq_by_cmp R key lower) refl
    where
      by : (b : Bool) → eq_by_cmp R key lower ≡ b → b ≡ false
      by true same = absurd (not_less lower (ap (R lower) (sym (exact key lower (is_equal _ same))) ∙ below))
      by false apart = refl

  -- what is found under a key above the first is found after the first
  behind_first : {X : Type 0} (first : K × X) (es fs : List (K × X)) → AllByRecursion (λ key. R first.0 key ≡ Less) (map (λ e. e.0) fs)
      → AllByRecursion (λ e. find R e.0 es ≡ Some e.1) fs → AllByRecursion (λ e. find R e.0 (first ∷ es) ≡ Some e.1) fs
  behind_first first es [] above found = tt
  behind_first first es (f ∷ fs) above found =
      (ap (λ b. cond b (Some first.1) (find R f.0 es)) (untied first.0 f.0 above.0) ∙ found.0, behind_first first es fs above.1 found.1)

  each_found : {X : Type 0} (es : List (K × X)) → IsStrictlySortedBy R (map (λ e. e.0) es) → AllByRecursion (λ e. find R e.0 es ≡ Some e.1) es
  unfolding IsStrictlySortedBy
  each_found [] ascend = tt
  each_found (e ∷ es) ascend =
      (ap (λ order. cond (is_eq order) (Some e.1) (find R e.0 es)) (tied_itself total e.0), behind_first e es es ascend.0 (each_found es ascend.1))

  -- each entry is found under its key
  pub each_entry : {X : Type 0} (m : FinMap R X) → AllByRecursion (λ e. get m e.0 ≡ Some e.1) (entries m)
  each_entry {X = X} m = found (entries m) (each_found (entries m) (sorted_entries m))
    where
      found : (es : List (K × X)) → AllByRecursion (λ e. find R e.0 (entries m) ≡ Some e.1) es → AllByRecursion (λ e. get m e.0 ≡ Some e.1) es
      found [] all = tt
      found (e ∷ es) all = (get-entries m e.0 ∙ all.0, found es all.1)

  -- what holds of each entry that is found holds of what is made of the entries
  pub each_made : {X Y : Type 0} (P : Y → Type 0) (f : K × X → Y) (m : FinMap R X) → ((key : K) (value : X) → get m key ≡ Some value → P (f (key, value))) → AllByRecursion P (map f (entries m))
  each_made {X = X} P f m holds = made (entries m) (each_entry m)
    where
      made : (es : List (K × X)) → AllByRecursion (λ e. get m e.0 ≡ Some e.1) es → AllByRecursion P (map f es)
      made [] found = tt
      made (e ∷ es) found = (holds e.0 e.1 found.0, made es found.1)

-- pairs of names are in order, and those that compare alike are one
pub pair_total : IsTotalOrder pair_cmp
pair_total = then_total (on_total (λ (p : Pair). p.0) name_total) (on_total (λ (p : Pair). p.1) name_total)

pub pair_exact : IsAntisymmetric pair_cmp
pair_exact p q is = by (name_cmp p.0 q.0) refl is
  where
    by : (order : Ordering) → name_cmp p.0 q.0 ≡ order → ordering_then order (name_cmp p.1 q.1) ≡ Equal → p ≡ q
    by Less first both = absurd (let no : ⊥ = cc in no)
    by Equal first both = λ i. (name_exact p.0 q.0 first i, name_exact p.1 q.1 both i)
    by Greater first both = absurd (let no : ⊥ = cc in no)
