-- Names above others: prefixes of a name, and the least of all.
use Rattle.std.proofs.Common.{◌≡◌, ℕ, ◌+◌, ◌<◌, ◌≤◌, true, List, ◌∷◌, ◌++◌, ◌⊎◌, inl, inr, ⊎_elim, Option, None, Some, refl, sym, ap, subst, ◌∙◌, length, take, drop, get_or, length-take-le, length-append, take-append-drop, arith}
use Rattle.std.proofs.lemmas.Bool.{cases_order}
use Rattle.std.proofs.lemmas.List.{drop_at, drop_more, take_at, take-take}
use Rattle.std.specs.declared.cmp.Ordering.{Ordering}
use Rattle.std.specs.declared.cmp.Ordering.TheVariants.{Less, Equal, Greater}
use Rattle.std.specs.Ordering.{eq_by_cmp, ordering_reverse}
use Rattle.std.specs.FinMap as map
use Rattle.std.proofs.lemmas.Cmp.{eq_by_cmp_equiv}
use Rattle.git_refname.specs.Rule.{IsRefName}
use Rattle.git_reftx.specs.Sound.{AreRefNames}
use Rattle.std.specs.List.{list_any}
use Rattle.std.specs.List.Sorted.{IsStrictlySortedBy}
use Rattle.git_name.specs.Name.{name_cmp}
use Rattle.git_name.proofs.Names.{name_total, name_exact}
use Rattle.git_reftx.specs.Fronts.{Before, In, Bounds, IsUpper, IsFrontAbove, IsLeastNear, IsLesser, IsLesserOf}
use Rattle.git_reftx.specs.Transaction.{References, least_upper, stands_above}
use Rattle.git_reftx.proofs.AboveLemmas.{above_true, above_from}
use Rattle.git_reftx.proofs.MemberLemmas.{any_in, in_any, find_inside, find_least}
use Rattle.git_reftx.proofs.OrderLemmas.{front_before}

pub above_before : (u l : List ℕ) → stands_above u l ≡ true → Before u l
above_before u l above = (let parts = above_true u l above in subst (λ n. Before u n) (sym parts.1) (front_before u 47 parts.0))

-- a `/` follows a front that is a name
pub record StandsAt (met : List (List ℕ)) (name upper : List ℕ) : Type 0 where
  pub place : ℕ
  pub short : place < length name
  pub slash : get_or name place 0 ≡ 47
  pub is : take place name ≡ upper
  pub inside : In upper met

pub stands_at : (met : List (List ℕ)) (name upper : List ℕ) → In upper met → stands_above upper name ≡ true → StandsAt met name upper
stands_at met name upper inside above =
    let parts = above_true upper name above in
    let sized : length name ≡ length upper + length (47 ∷ parts.0) = ap (λ (l : List ℕ). length l) parts.1 ∙ length-append upper (47 ∷ parts.0) in
    let short : length upper < length name = omega (arith, sized) in
    let behind : get_or name (length upper) 0 ∷ drop (length upper + 1) name ≡ 47 ∷ parts.0 = sym (drop_more name (length upper) 0 short) ∙ ap (drop (length upper)) parts.1 ∙ drop_at upper (47 ∷ parts.0) (length upper) refl in
    record { place = length upper; short = short; slash = cc; is = ap (take (length upper)) parts.1 ∙ take_at upper (47 ∷ parts.0) (length upper) refl; inside = inside }

shorter_before : (j k : ℕ) (name : List ℕ) → j < k → k ≤ length name → Before (take j name) (take k name)
shorter_before j k name less fits =
    let long : length (take k name) ≡ k = length-take-le k name fits in
    let parts = take-append-drop j (take k name) in
    let first : take j (take k name) ≡ take j name = take-take j k name (omega arith) in
    let more = drop_more (take k name) j 0 (omega (arith, long)) in
    subst (Before (take j name)) ((λ i. sym first i ++ sym more i) ∙ parts) (front_before (take j name) _ _)

-- the first `/` after a front that is a name shows the least name above this one
pub first_front : (names : List (List ℕ)) (name : List ℕ) (k : ℕ) → k < length name → get_or name k 0 ≡ 47 → In (take k name) names → ((j : ℕ) → j < k → get_or name j 0 ≡ 47 → In (take j name) names → ⊥)
    → IsFrontAbove names name (take k name)
first_front names name k short slash inside none =
    let whole : name ≡ take k name ++ 47 ∷ drop (k + 1) name = sym (take-append-drop k name) ∙ ap (λ r. take k name ++ r) (drop_more name k 0 short ∙ ap (λ b. b ∷ drop (k + 1) name) slash) in
    record { inside = inside; above = above_from (take k name) name (drop (k + 1) name) whole; first = λ other there above. at_or_later other (stands_at names name other there above) }
  where
    at_or_later : (other : List ℕ) → StandsAt names name other → Bounds (Some (take k name)) other
    at_or_later other stands = by_order (cases_order k stands.place)
      where
        by_order : (k ≡ stands.place) ⊎ ((k < stands.place) ⊎ (stands.place < k)) → Bounds (Some (take k name)) other
        by_order (inl same) = inl (ap (λ n. take n name) same ∙ stands.is)
        by_order (inr (inl less)) = inr (subst (Before (take k name)) stands.is (shorter_before k stands.place name less (let s = stands.short in omega arith)))
        by_order (inr (inr more)) = absurd (none stands.place more stands.slash (subst (λ p. In p names) (sym stands.is) stands.inside))

pub bounds_through : (w u v : List ℕ) → Bounds (Some w) u → Bounds (Some u) v → Bounds (Some w) v
bounds_through w u v (inl same) second = subst (λ n. Bounds (Some n) v) (sym same) second
bounds_through w u v (inr first) (inl same) = inr (subst (Before w) same first)
bounds_through w u v (inr first) (inr second) = inr (name_total.trans w u v first second)

-- the least of all, of the names above others
pub least_of_all : (names : List (List ℕ)) (least : Option (List ℕ)) → IsStrictlySortedBy name_cmp names → ((u : List ℕ) → least ≡ Some u → IsUpper names u) → ((u l : List ℕ) → In u names → In l names → stands_above u l ≡ true → Bounds least u)
    → least_upper names ≡ least
least_of_all names least sorted found bound = find_least (λ upper. list_any (stands_above upper) names) names least sorted
    (λ u least_is. let up = found u least_is in (up.inside, in_any (stands_above u) names up.lower up.lower_inside up.above))
    (λ v inside passes. let lower = any_in (stands_above v) names passes in bound v lower.0 inside lower.1 lower.2)

-- the lesser of two names
pub lesser_is : (least : Option (List ℕ)) (old front : List ℕ) → least ≡ Some old → (name_cmp old front ≡ Greater → ⊥) → IsLesser least front old
lesser_is least old front is not_above = subst (λ o. IsLesser o front old) (sym is) (inl (refl, by_order (name_cmp old front) refl not_above))
  where
    by_order : (o : Ordering) → name_cmp old front ≡ o → (name_cmp old front ≡ Greater → ⊥) → (old ≡ front) ⊎ Before old front
    by_order Less same never = inr same
    by_order Equal same never = inl (name_exact old front same)
    by_order Greater same never = absurd (never same)

pub lesser_new : (least : Option (List ℕ)) (old front : List ℕ) → least ≡ Some old → name_cmp old front ≡ Greater → IsLesser least front front
lesser_new least old front is above = subst (λ o. IsLesser o front front) (sym is) (inr (refl, inr (name_total.antisymm front old ∙ ap ordering_reverse above)))

-- and of two that may be missing
pub lesser_some : (least : Option (List ℕ)) (u w : List ℕ) → IsLesser least u w → IsLesserOf least (Some u) (Some w)
lesser_some None u w is = ap (λ n. Some n) is
lesser_some (Some v) u w (inl (is, bound)) = inl (ap (λ n. Some n) is, bound)
lesser_some (Some v) u w (inr (is, bound)) = inr (ap (λ n. Some n) is, bound)

bounds_first : (least upper now : Option (List ℕ)) (u : List ℕ) → IsLesserOf least upper now → Bounds least u → Bounds now u
bounds_first least None now u is bound = subst (λ o. Bounds o u) (sym is) bound
bounds_first None (Some w) now u is bound = absurd bound
bounds_first (Some v) (Some w) now u (inl (is, kept)) bound = subst (λ o. Bounds o u) (sym is) bound
bounds_first (Some v) (Some w) now u (inr (is, lower)) bound = subst (λ o. Bounds o u) (sym is) (bounds_through w v u lower bound)

bounds_second : (least upper now : Option (List ℕ)) (u : List ℕ) → IsLesserOf least upper now → Bounds upper u → Bounds now u
bounds_second least None now u is bound = absurd bound
bounds_second None (Some w) now u is bound = subst (λ o. Bounds o u) (sym is) bound
bounds_second (Some v) (Some w) now u (inl (is, lower)) bound = subst (λ o. Bounds o u) (sym is) (bounds_through v w u lower bound)
bounds_second (Some v) (Some w) now u (inr (is, kept)) bound = subst (λ o. Bounds o u) (sym is) bound

found_either : (names : List (List ℕ)) (least upper now : Option (List ℕ)) (u : List ℕ) → IsLesserOf least upper now → ((v : List ℕ) → least ≡ Some v → IsUpper names v) → ((v : List ℕ) → upper ≡ Some v → IsUpper names v) → now ≡ Some u → IsUpper names u
found_either names least None now u is first second now_is = first u (sym is ∙ now_is)
found_either names None (Some w) now u is first second now_is = second u (sym is ∙ now_is)
found_either names (Some v) (Some w) now u (inl (is, bound)) first second now_is = first u (sym is ∙ now_is)
found_either names (Some v) (Some w) now u (inr (is, bound)) first second now_is = second u (sym is ∙ now_is)

-- near one name or another
pub near_either : (names : List (List ℕ)) (P Q R : List ℕ → Type 0) (least upper now : Option (List ℕ)) → ((u : List ℕ) → R u → P u ⊎ Q u) → IsLeastNear names P least → IsLeastNear names Q upper → IsLesserOf least upper now
    → IsLeastNear names R now
near_either names P Q R least upper now apart first second is = record {
  found = λ u now_is. found_either names least upper now u is first.found second.found now_is;
  bound = λ u l upper_in lower_in above near. ⊎_elim (λ r. ⊎_elim
      (λ p. bounds_first least upper now u is (first.bound u l upper_in lower_in above (inl p)))
      (λ q. bounds_second least upper now u is (second.bound u l upper_in lower_in above (inl q))) (apart u r)) (λ r. ⊎_elim
      (λ p. bounds_first least upper now u is (first.bound u l upper_in lower_in above (inr p)))
      (λ q. bounds_second least upper now u is (second.bound u l upper_in lower_in above (inr q))) (apart l r)) near;
}

-- what is above another is a name of the references
pub upper_named : (references : References) (u : List ℕ) → AreRefNames references → least_upper (map.keys references) ≡ Some u → IsRefName u
upper_named references u named is =
    let inside = find_inside (λ upper. list_any (stands_above upper) (map.keys references)) (map.keys references) u is in
    named u (map.contains_key-keys references u ∙ in_any (eq_by_cmp name_cmp u) (map.keys references) u inside ((eq_by_cmp_equiv name_total).refl u))
