-- Names in places: which stand there, which is next, and what the last name does that takes another's place.
use Rattle.std.proofs.Common.{◌≡◌, ℕ, zero, suc, ◌<◌, ◌≤◌, ◌+◌, ◌-◌, List, [], ◌∷◌, ◌++◌, ◌⊎◌, inl, inr, ◌||◌, ◌&&◌, not, length, get_or, take, set, slice_get, Bool, true, false, Option, Some, None, cond, is_some, Result, Ok, Err, refl, sym, ap, subst, ◌∙◌, arith, length-append, length-take, length-set}
use Rattle.std.specs.Prelude.{IsPermutation, swap_remove, nat_lt, if◌then◌else◌}
use Rattle.std.specs.Result.{OnOk, OnErr}
use Rattle.std.specs.Option.{option_map_or, unwrap_or}
use Rattle.std.specs.List.{IsDistinct}
use Rattle.std.specs.Map.{lookup, keys_of}
use Rattle.std.proofs.Math.Seq.{get_or-append_seam}
use Rattle.std.proofs.lemmas.Bool.{ltb-true}
use Rattle.std.proofs.lemmas.Bool.Decides.{Decides-eqb}
use Rattle.std.proofs.lemmas.Slice.Eq.{slice_eq-Decides}
use Rattle.std.proofs.lemmas.List.{map-append, length-map, get_or_default, take_more}
use Rattle.std.proofs.lemmas.List.Sorted.{IsPermutation-refl, IsPermutation-to_front}
use Rattle.std.proofs.lemmas.Map.Entries.{lookup_from_place}
use Rattle.std.proofs.lemmas.Cmp.{nat_list_eq_equiv}
use Rattle.git_name.specs.Same.{is_listed, same_name}
use Rattle.indexmap.proofs.SetLemmas.{map-swap_remove}
use Rattle.looks.specs.Places.{Places, looked_at}
use Rattle.object_table.specs.Rows.{LooksNextAt, TableState, count_in, places_of}
use Rattle.object_table.specs.declared.row.Row.{Row}

pub whichever : {T E P Q : Type 0} (G : Type 0) (r : Result T E) → OnOk r P → OnErr r Q → (P → G) → (Q → G) → G
whichever G (Ok x) p q f g = f p
whichever G (Err e) p q f g = g q

pub one_name : (x y : List ℕ) → same_name x y ≡ true → x ≡ y
one_name x y e = (slice_eq-Decides Decides-eqb x y (same_name x y) refl).0 e

pub own_name : (x : List ℕ) → same_name x x ≡ true
own_name x = nat_list_eq_equiv.refl x

none_is_some : {A : Type 0} (G : Type 0) (x : A) → None ≡ Some x → G
none_is_some G x e = let differs : ⊥ = cc in absurd differs

-- ---- names that stand there
pub listed_lookup : (es : List (List ℕ × Row)) (q : List ℕ) → is_listed (keys_of es) q ≡ is_some (lookup (same_name q) es)
listed_lookup [] q = refl
listed_lookup (e ∷ es) q = head (same_name q e.0) (listed_lookup es q)
  where
    head : (b : Bool) → is_listed (keys_of es) q ≡ is_some (lookup (same_name q) es) → b || is_listed (keys_of es) q ≡ is_some (cond b (Some e.1) (lookup (same_name q) es))
    head true h = refl
    head false h = h

or_later : (a b c : Bool) → a || (b || c) ≡ b || (a || c)
or_later true true c = refl
or_later true false c = refl
or_later false true c = refl
or_later false false c = refl

pub last_any : (names : List (List ℕ)) (name q : List ℕ) → is_listed (names ++ name ∷ []) q ≡ same_name q name || is_listed names q
last_any [] name q = refl
last_any (x ∷ xs) name q = ap (λ b. same_name q x || b) (last_any xs name q) ∙ or_later (same_name q x) (same_name q name) (is_listed xs q)

pub listed_last : (es fs : List (List ℕ × Row)) (name : List ℕ) (n : Row) (q : List ℕ) → fs ≡ es ++ (name, n) ∷ [] → is_listed (keys_of fs) q ≡ same_name name q || is_listed (keys_of es) q
listed_last es fs name n q e =
    ap (λ xs. is_listed (keys_of xs) q) e ∙ ap (λ xs. is_listed xs q) (map-append (λ p. p.0) es ((name, n) ∷ [])) ∙ last_any (keys_of es) name q
    ∙ ap (λ b. b || is_listed (keys_of es) q) (nat_list_eq_equiv.symm q name)

pub listed_there : (es : List (List ℕ × Row)) (name q : List ℕ) → is_some (lookup (same_name name) es) ≡ true → is_listed (keys_of es) q ≡ same_name name q || is_listed (keys_of es) q
listed_there es name q there = by (same_name name q) refl
  where
    by : (b : Bool) → same_name name q ≡ b → is_listed (keys_of es) q ≡ b || is_listed (keys_of es) q
    by true e = ap (is_listed (keys_of es)) (sym (one_name name q e)) ∙ listed_lookup es name ∙ there
    by false e = refl

pub none_of : {A : Type 0} (o : Option A) → is_some o ≡ false → o ≡ None
none_of None e = refl
none_of (Some x) e = let bad : ⊥ = cc in absurd bad

-- ---- the next place
parted : {X : Type 0} (xs : List X) (i : ℕ) (x : X) → slice_get xs i ≡ Some x → (front : List X) × (back : List X) × (xs ≡ front ++ x ∷ back) × (length front ≡ i)
parted [] i x e = none_is_some _ x e
parted (y ∷ ys) zero x e = ([], ys, ap (λ o. unwrap_or o y ∷ ys) e, refl)
parted (y ∷ ys) (suc i) x e = let p = parted ys i x e in (y ∷ p.0, p.1, ap (λ xs. y ∷ xs) p.2, ap suc p.3)

pub next_of : (c : TableState) (i : ℕ) (p : List ℕ × Row) → slice_get c.entries i ≡ Some p → i ≡ looked_at (places_of c) → LooksNextAt (places_of c) p.0
next_of c i p e at =
    let s = parted c.entries i p e in
    record { front = keys_of s.0; back = keys_of s.1; whole = ap keys_of s.2 ∙ map-append (λ p. p.0) s.0 (p ∷ s.1); at = length-map s.0 (λ p. p.0) ∙ s.3 ∙ at }

-- no two names are next
is_next : (places : Places) (name : List ℕ) → LooksNextAt places name → name ≡ get_or places.names (looked_at places) []
is_next places name next = sym (get_or-append_seam next.front name next.back []) ∙ ap (λ names. get_or names (length next.front) []) (sym next.whole) ∙ ap (λ i. get_or places.names i []) next.at

pub one_next : (places : Places) (one other : List ℕ) → LooksNextAt places one → LooksNextAt places other → one ≡ other
one_next places one other first second = is_next places one first ∙ sym (is_next places other second)

-- the next name is held, so no name may leave
pub none_free : (places : Places) (count : List ℕ → ℕ) (name : List ℕ) → (places.names ≡ []) ⊎ ((held : List ℕ) × LooksNextAt places held × (0 < count held)) → LooksNextAt places name → count name ≡ 0 → ⊥
none_free places count name (inl none) next free = (let empty = ap length (sym next.whole ∙ none) in omega (arith, empty, length-append next.front (name ∷ next.back)))
none_free places count name (inr held) next free = (let same = ap count (one_next places held.0 name held.1 next) in let some = held.2 in omega (arith, same, some, free))

pub count_at : (es : List (List ℕ × Row)) (i : ℕ) (p : List ℕ × Row) → IsDistinct same_name (keys_of es) → slice_get es i ≡ Some p → count_in es p.0 ≡ p.1.holders
count_at es i p distinct e = ap (λ o. option_map_or (λ row. row.holders) o 0) (lookup_from_place nat_list_eq_equiv es i p.0 p.1 distinct e)

pub looked_is : (c : TableState) (i : ℕ) → i ≡ (if nat_lt c.place (length c.entries) then c.place else 0) → i ≡ looked_at (places_of c)
looked_is c i e = e ∙ ap (λ n. if nat_lt c.place n then c.place else 0) (sym (length-map c.entries (λ p. p.0)))

past_end : {X : Type 0} (xs : List X) (i : ℕ) → slice_get xs i ≡ None → length xs ≤ i
past_end [] i e = omega arith
past_end (x ∷ xs) zero e = none_is_some _ x (sym e)
past_end (x ∷ xs) (suc i) e = let h = past_end xs i e in omega (arith, h)

empty_of : {X : Type 0} (xs : List X) → length xs ≤ 0 → xs ≡ []
empty_of [] h = refl
empty_of (x ∷ xs) h = absurd (omega (arith, h))

pub nothing_next : (c : TableState) (i : ℕ) → i ≡ (if nat_lt c.place (length c.entries) then c.place else 0) → slice_get c.entries i ≡ None → keys_of c.entries ≡ []
nothing_next c i at none = by (nat_lt c.place (length c.entries)) refl
  where
    past : length c.entries ≤ i
    past = past_end c.entries i none

    by : (b : Bool) → nat_lt c.place (length c.entries) ≡ b → keys_of c.entries ≡ []
    by true e = let here : i ≡ c.place = at ∙ ap (λ b. if b then c.place else 0) e in absurd (omega (arith, here, past, ltb-true c.place (length c.entries) e))
    by false e = let here : i ≡ 0 = at ∙ ap (λ b. if b then c.place else 0) e in ap keys_of (empty_of c.entries (omega (arith, here, past)))

-- ---- the last name in the place of another
abbrev pub moved : {X : Type 0} → List X → List X
moved [] = []
moved (x ∷ xs) = get_or (x ∷ xs) (length xs) x ∷ take (length xs) (x ∷ xs)

last_apart : {X : Type 0} (x : X) (xs : List X) (d : X) → x ∷ xs ≡ take (length xs) (x ∷ xs) ++ get_or (x ∷ xs) (length xs) d ∷ []
last_apart x [] d = refl
last_apart x (y ∷ ys) d = ap (λ l. x ∷ l) (last_apart y ys d)

moved_same : {X : Type 0} (xs : List X) → IsPermutation xs (moved xs)
moved_same [] = IsPermutation-refl []
moved_same (x ∷ xs) =
    subst (λ l. IsPermutation l (moved (x ∷ xs))) (sym (last_apart x xs x)) (IsPermutation-to_front (take (length xs) (x ∷ xs)) (get_or (x ∷ xs) (length xs) x))

first_out : {X : Type 0} (e d : X) (back : List X) → take (length back) (set (e ∷ back) 0 (get_or (e ∷ back) (length back) d)) ≡ moved back
first_out e d [] = refl
first_out {X = X} e d (x ∷ xs) = ap (λ y. y ∷ take (length xs) (x ∷ xs)) (default (x ∷ xs) (length xs) (omega arith))
  where
    default : (ys : List X) (i : ℕ) → i < length ys → get_or ys i d ≡ get_or ys i x
    default ys i h = get_or_default ys i d x h

swapped : {X : Type 0} (front back : List X) (e d : X) (n : ℕ) → n ≡ length front + length back
    → take n (set (front ++ e ∷ back) (length front) (get_or (front ++ e ∷ back) n d)) ≡ front ++ moved back
swapped [] back e d n is = let same : n ≡ length back = omega (arith, is) in ap (λ m. take m (set (e ∷ back) 0 (get_or (e ∷ back) m d))) same ∙ first_out e d back
swapped (f ∷ fs) back e d zero is = absurd (omega (arith, is))
swapped (f ∷ fs) back e d (suc n) is = ap (λ l. f ∷ l) (swapped fs back e d n (omega (arith, is)))

pub swap_out : (es fs : List (List ℕ × Row)) (p : List ℕ × Row) (i : ℕ) (front back : List (List ℕ)) → fs ≡ swap_remove es i p → keys_of es ≡ front ++ p.0 ∷ back → length front ≡ i
    → keys_of fs ≡ front ++ moved back
swap_out es fs p i front back is whole at =
    let some : 0 < length es = omega (arith, length-map es (λ p. p.0), ap length whole, length-append front (p.0 ∷ back)) in
    ap keys_of is ∙ map-swap_remove (λ p. p.0) es i p some ∙ ap (λ l. swap_remove l i p.0) whole ∙ ap (λ j. swap_remove (front ++ p.0 ∷ back) j p.0) (sym at)
    ∙ swapped front back p.0 p.0 (length (front ++ p.0 ∷ back) - 1) (omega (arith, length-append front (p.0 ∷ back)))

pub leaves : (es fs : List (List ℕ × Row)) (p : List ℕ × Row) (i : ℕ) (front back : List (List ℕ)) → fs ≡ swap_remove es i p → keys_of es ≡ front ++ p.0 ∷ back → length front ≡ i
    → (rest : List (List ℕ)) × (keys_of fs ≡ front ++ rest) × IsPermutation back rest
leaves es fs p i front back is whole at = (moved back, swap_out es fs p i front back is whole at, moved_same back)

pub entry_there : (es : List (List ℕ × Row)) (front back : List (List ℕ)) (name : List ℕ) → keys_of es ≡ front ++ name ∷ back → (row : Row) × (slice_get es (length front) ≡ Some (name, row))
entry_there [] [] back name e = let bad : 0 ≡ suc (length back) = ap length e in absurd (omega (arith, bad))
entry_there [] (f ∷ front) back name e = let bad : 0 ≡ suc (length (front ++ name ∷ back)) = ap length e in absurd (omega (arith, bad))
entry_there (x ∷ es) [] back name e = (x.1, ap (λ l. Some (first l, x.1)) e)
  where
    first : List (List ℕ) → List ℕ
    first [] = x.0
    first (a ∷ l) = a
entry_there (x ∷ es) (f ∷ front) back name e = entry_there es front back name (ap rest e)
  where
    rest : List (List ℕ) → List (List ℕ)
    rest [] = []
    rest (a ∷ l) = l

pub listed_left : (es fs : List (List ℕ × Row)) (name q : List ℕ) → lookup (same_name q) fs ≡ cond (same_name name q) None (lookup (same_name q) es)
    → is_listed (keys_of fs) q ≡ not (same_name name q) && is_listed (keys_of es) q
listed_left es fs name q left =
    listed_lookup fs q ∙ ap is_some left ∙ by (same_name name q) (lookup (same_name q) es) ∙ ap (λ b. not (same_name name q) && b) (sym (listed_lookup es q))
  where
    by : (b : Bool) (o : Option Row) → is_some (cond b None o) ≡ not b && is_some o
    by true o = refl
    by false o = refl

pub fewer : (es fs : List (List ℕ × Row)) (p : List ℕ × Row) (i : ℕ) → i < length es → fs ≡ swap_remove es i p → length fs + 1 ≡ length es
fewer es fs p i h is =
    let n = length-take (length es - 1) (set es i (get_or es (length es - 1) p)) in
    let s = length-set es i (get_or es (length es - 1) p) in
    omega (arith, h, ap length is, n, s)

pub stays_within : (es fs : List (List ℕ × Row)) (p : List ℕ × Row) (i : ℕ) (front back : List (List ℕ)) → fs ≡ swap_remove es i p → keys_of es ≡ front ++ p.0 ∷ back → length front ≡ i → i ≤ length fs
stays_within es fs p i front back is whole at =
    let l = leaves es fs p i front back is whole at in
    omega (arith, at, ap length l.1, length-append front l.0, length-map fs (λ p. p.0))

-- one name more
pub listed_next : (names : List (List ℕ)) (i : ℕ) (name q : List ℕ) (before after : Bool) → i < length names → name ≡ get_or names i name → before ≡ is_listed (take i names) q → after ≡ same_name name q || before
    → after ≡ is_listed (take (i + 1) names) q
listed_next names i name q before after within is so_far then_so =
    then_so ∙ ap (λ b. same_name name q || b) so_far ∙ ap (λ b. b || is_listed (take i names) q) (nat_list_eq_equiv.symm name q)
    ∙ sym (last_any (take i names) name q) ∙ ap (λ x. is_listed (take i names ++ x ∷ []) q) is ∙ sym (ap (λ l. is_listed l q) (take_more names i name within))
