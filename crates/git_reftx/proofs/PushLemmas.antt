-- References with one more appended.
use Rattle.std.proofs.Common.{◌≡◌, ◌≢◌, ℕ, ◌+◌, ◌<◌, Bool, true, false, All, List, [], ◌∷◌, ◌++◌, ◌⊎◌, inl, inr, ⊎_elim, Option, None, Some, refl, sym, ap, subst, ◌∙◌, length, take, get_or, map as mapped, length-append, take-append-drop, drop, arith}
use Rattle.std.specs.Prelude.{◌&&◌, ◌==◌, cond}
use Rattle.std.proofs.lemmas.Bool.{cases_lt}
use Rattle.std.proofs.lemmas.Bool.Decides.{nat_tests}
use Rattle.std.specs.List.{slice_get}
use Rattle.std.specs.List.{find, list_any}
use Rattle.std.specs.List.Sorted.{IsStrictlySortedBy}
use Rattle.std.specs.Ordering.{eq_by_cmp, is_lt, ordering_reverse}
use Rattle.std.specs.declared.cmp.Ordering.{Ordering}
use Rattle.std.specs.declared.cmp.Ordering.TheVariants.{Less, Equal, Greater}
use Rattle.std.specs.FinMap as map
use Rattle.std.specs.FinMap.{FinMap, contains_key}
use Rattle.std.specs.FinMap.Entries.{put}
use Rattle.std.proofs.lemmas.Cmp.{eq_by_cmp_equiv}
use Rattle.std.proofs.lemmas.Map.Views.{All-before_last}
use Rattle.std.proofs.lemmas.List.Elements.{All-head, All-nil, All-tail, All-weaker}
use Rattle.std.proofs.lemmas.List.{drop_more, get_or-map, length-map}
use Rattle.std.proofs.lemmas.Option.{get_or_from_slice_get, slice_get_within}
use Rattle.git_name.specs.Name.{name_cmp}
use Rattle.git_name.proofs.Names.{name_total, name_exact}
use Rattle.git_name.proofs.SortedNames.{sorted_entries}
use Rattle.git_refname.specs.Rule.{IsRefName}
use Rattle.git_reftx.specs.Fronts.{Before, In}
use Rattle.git_reftx.specs.Push.{TellsPush}
use Rattle.git_reftx.specs.Sound.{AreSound}
use Rattle.git_reftx.specs.Transaction.{References, least_upper, stands_above}
use Rattle.git_reftx.specs.declared.fault.PushRefError.{PushRefError}
use Rattle.git_reftx.specs.declared.fault.PushRefError.TheVariants.{OutOfOrder, RefConflict, TooMany, Memory}
use Rattle.git_reftx.specs.declared.transact.TheConstants.{MAX_REFERENCES}
use Rattle.git_reftx.proofs.AboveLemmas.{above_from}
use Rattle.git_reftx.proofs.FrontLemmas.{above_before, stands_at}
use Rattle.git_reftx.proofs.MapLemmas.{named_insert, same_name}
use Rattle.git_reftx.proofs.MemberLemmas.{any_in, in_any}
use Rattle.git_reftx.proofs.OrderLemmas.{never_before_itself, never_both}

-- the keys of a finite map ascend
pub keys_ascend : {X : Type 0} (values : FinMap name_cmp X) → IsStrictlySortedBy name_cmp (map.keys values)
keys_ascend values = sorted_entries values

-- one more name, after the others
in_cases : (names : List (List ℕ)) (name p : List ℕ) → In p (names ++ name ∷ []) → In p names ⊎ (p ≡ name)
in_cases [] name p (inl is) = inr is
in_cases [] name p (inr none) = absurd none
in_cases (x ∷ names) name p (inl is) = inl (inl is)
in_cases (x ∷ names) name p (inr later) = ⊎_elim (λ inside. inl (inr inside)) (λ is. inr is) (in_cases names name p later)

in_front : (names more : List (List ℕ)) (p : List ℕ) → In p names → In p (names ++ more)
in_front [] more p inside = absurd inside
in_front (x ∷ names) more p (inl is) = inl is
in_front (x ∷ names) more p (inr later) = inr (in_front names more p later)

in_back : (names : List (List ℕ)) (name : List ℕ) → In name (names ++ name ∷ [])
in_back [] name = inl refl
in_back (x ∷ names) name = inr (in_back names name)

all_in : (P : List ℕ → Type 0) (names : List (List ℕ)) (p : List ℕ) → All P names → In p names → P p
all_in P [] p all inside = absurd inside
all_in P (x ∷ xs) p all (inl is) = subst P (sym is) (All-head P x xs all)
all_in P (x ∷ xs) p all (inr later) = all_in P xs p (All-tail P x xs all) later

none_true : (b : Bool) → (b ≡ true → ⊥) → b ≡ false
none_true true never = absurd (never refl)
none_true false never = refl

-- a list in which no name passes
none_found : (test : List ℕ → Bool) (names : List (List ℕ)) → ((p : List ℕ) → In p names → test p ≡ false) → find test names ≡ None
none_found test [] fails = refl
none_found test (x ∷ xs) fails = ap (λ b. cond b (Some x) (find test xs)) (fails x (inl refl)) ∙ none_found test xs (λ p inside. fails p (inr inside))

some_found : (o : Option (List ℕ)) → o ≡ None → (b : Bool) (x : List ℕ) → cond b (Some x) o ≡ None → b ≡ false
some_found o none true x is = absurd (cc)
some_found o none false x is = refl

later_none : (b : Bool) (x : List ℕ) (o : Option (List ℕ)) → cond b (Some x) o ≡ None → (b ≡ false) × (o ≡ None)
later_none true x o is = absurd (cc)
later_none false x o is = (refl, is)

fails_there : (test : List ℕ → Bool) (names : List (List ℕ)) → find test names ≡ None → (p : List ℕ) → In p names → test p ≡ false
fails_there test [] none p inside = absurd inside
fails_there test (x ∷ xs) none p (inl is) = ap test is ∙ (later_none (test x) x (find test xs) none).0
fails_there test (x ∷ xs) none p (inr later) = fails_there test xs (later_none (test x) x (find test xs) none).1 p later

-- no name of a list is above another, for each two
pub apart : (names : List (List ℕ)) → least_upper names ≡ None → (u l : List ℕ) → In u names → In l names → stands_above u l ≡ true → ⊥
apart names free u l upper lower above =
    let both : true ≡ false = sym (in_any (stands_above u) names l lower above) ∙ fails_there (λ v. list_any (stands_above v) names) names free u upper in
    cc

pub free_from : (names : List (List ℕ)) → ((u l : List ℕ) → In u names → In l names → stands_above u l ≡ true → ⊥) → least_upper names ≡ None
free_from names never =
    none_found (λ v. list_any (stands_above v) names) names (λ u upper. none_true (list_any (stands_above u) names)
    (λ any. let found = any_in (stands_above u) names any in never u found.0 upper found.1 found.2))

-- nor with one more after them, if none is above it
pub free_behind : (names : List (List ℕ)) (name : List ℕ) → least_upper names ≡ None → All (λ other. Before other name) names → (list_any (λ upper. stands_above upper name) names ≡ true → ⊥) → least_upper (names ++ name ∷ []) ≡ None
free_behind names name free ahead none =
    free_from (names ++ name ∷ []) (λ u l upper lower above. by_cases u l above (in_cases names name u upper) (in_cases names name l lower))
  where
    by_cases : (u l : List ℕ) → stands_above u l ≡ true → In u names ⊎ (u ≡ name) → In l names ⊎ (l ≡ name) → ⊥
    by_cases u l above (inl upper) (inl lower) = apart names free u l upper lower above
    by_cases u l above (inl upper) (inr is) = none (in_any (λ v. stands_above v name) names u upper (ap (stands_above u) (sym is) ∙ above))
    by_cases u l above (inr is) (inl lower) = never_both u l (above_before u l above) (subst (Before l) (sym is) (all_in (λ other. Before other name) names l ahead lower))
    by_cases u l above (inr is) (inr same) = never_before_itself u (subst (Before u) (same ∙ sym is) (above_before u l above))

-- an entry whose key comes after the others is put after them
put_behind : {X : Type 0} (es : List (List ℕ × X)) (name : List ℕ) (x : X) → All (λ other. Before other name) (mapped (λ e. e.0) es) → put name_cmp name x es ≡ es ++ (name, x) ∷ []
put_behind [] name x ahead = refl
put_behind (e ∷ es) name x ahead =
    let above = name_total.antisymm name e.0 ∙ ap ordering_reverse (All-head (λ other. Before other name) e.0 (mapped (λ f. f.0) es) ahead) in
    rw above (ap (λ fs. e ∷ fs) (put_behind es name x (All-tail (λ other. Before other name) e.0 (mapped (λ f. f.0) es) ahead)))

pub entries_behind : {X : Type 0} (m : FinMap name_cmp X) (name : List ℕ) (x : X) → All (λ other. Before other name) (map.keys m) → map.entries (map.insert m name x) ≡ map.entries m ++ (name, x) ∷ []
entries_behind m name x ahead = map.entries-insert name_total m name x ∙ put_behind (map.entries m) name x ahead

keys_append : {X : Type 0} (es fs : List (List ℕ × X)) → mapped (λ e. e.0) (es ++ fs) ≡ mapped (λ e. e.0) es ++ mapped (λ e. e.0) fs
keys_append [] fs = refl
keys_append (e ∷ es) fs = ap (λ ks. e.0 ∷ ks) (keys_append es fs)

pub keys_behind : {X : Type 0} (m n : FinMap name_cmp X) (name : List ℕ) (x : X) → map.entries n ≡ map.entries m ++ (name, x) ∷ [] → map.keys n ≡ map.keys m ++ name ∷ []
keys_behind m n name x is = ap (mapped (λ e. e.0)) is ∙ keys_append (map.entries m) ((name, x) ∷ [])

pub len_behind : {X : Type 0} (m n : FinMap name_cmp X) (name : List ℕ) (x : X) → map.entries n ≡ map.entries m ++ (name, x) ∷ [] → map.len n ≡ map.len m + 1
len_behind m n name x is =
    let more = length-append (map.entries m) ((name, x) ∷ []) in
    let old = map.len-entries m in
    let new = map.len-entries n ∙ ap length is in
    omega (arith, old, new, more)

-- references with one more are sound
pub sound_behind : (old : References) (name target : List ℕ) → AreSound old → IsRefName name → All (λ other. Before other name) (map.keys old) → (list_any (λ upper. stands_above upper name) (map.keys old) ≡ true → ⊥) → map.len old < MAX_REFERENCES
    → AreSound (map.insert old name target)
sound_behind old name target sound right ahead none room =
    let is = entries_behind old name target ahead in
    record {
      named = named_insert old name target sound.named right;
      free = ap least_upper (keys_behind old (map.insert old name target) name target is) ∙ free_behind (map.keys old) name sound.free ahead none;
      few = (let more = len_behind old (map.insert old name target) name target is in omega (arith, more));
    }

-- what is refused cannot be appended: no sound references are the old ones and this one
pub never_pushed : (old new : References) (name target : List ℕ) (error : PushRefError) → TellsPush old name error → error ≢ Memory → AreSound new → map.entries new ≡ map.entries old ++ (name, target) ∷ [] → ⊥
never_pushed old new name target OutOfOrder told fault sound is =
    told (All-before_last name_cmp (map.keys old) name (subst (IsStrictlySortedBy name_cmp) (keys_behind old new name target is) (keys_ascend new)))
never_pushed old new name target RefConflict told fault sound is =
    let found = any_in (λ upper. stands_above upper name) (map.keys old) told in
    let all = keys_behind old new name target is in
    apart (map.keys new) sound.free found.0 name (subst (In found.0) (sym all) (in_front (map.keys old) (name ∷ []) found.0 found.1)) (subst (In name) (sym all) (in_back (map.keys old) name)) found.2
never_pushed old new name target TooMany told fault sound is =
    let more = len_behind old new name target is in
    let few = sound.few in
    absurd (omega (arith, more))
never_pushed old new name target Memory told fault sound is = fault refl

-- a name is a key if the map has it
pub has_key : {X : Type 0} (m : FinMap name_cmp X) (k : List ℕ) → contains_key m k ≡ true → In k (map.keys m)
has_key m k has =
    let found = any_in (eq_by_cmp name_cmp k) (map.keys m) (sym (map.contains_key-keys m k) ∙ has) in
    subst (λ p. In p (map.keys m)) (sym (same_name k found.0 found.2)) found.1

pub key_has : {X : Type 0} (m : FinMap name_cmp X) (k : List ℕ) → In k (map.keys m) → contains_key m k ≡ true
key_has m k inside = map.contains_key-keys m k ∙ in_any (eq_by_cmp name_cmp k) (map.keys m) k inside ((eq_by_cmp_equiv name_total).refl k)

-- what holds of each key holds of that of an entry
at_place : {X : Type 0} (P : List ℕ → Type 0) (es : List (List ℕ × X)) (i : ℕ) (k : List ℕ) (x : X) → slice_get es i ≡ Some (k, x) → All P (mapped (λ e. e.0) es) → P k
at_place P es i k x is all =
    let within = slice_get_within es i (k, x) is in
    let sized = length-map es (λ e. e.0) in
    subst P (get_or-map (λ e. e.0) es i (k, x) k within ∙ ap (λ e. e.0) (get_or_from_slice_get es i (k, x) (k, x) is)) (all i k (omega (arith, sized, within)))

-- only the last name is compared
ahead_of : (last name q : List ℕ) (order : Ordering) → name_cmp last q ≡ order → is_lt order ≡ false → Before last name → Before q name
ahead_of last name q Less order_is not_less first = absurd (cc)
ahead_of last name q Equal order_is not_less first = subst (λ n. Before n name) (name_exact last q order_is) first
ahead_of last name q Greater order_is not_less first = name_total.trans q last name (name_total.antisymm q last ∙ ap ordering_reverse order_is) first

pub all_ahead : (last name : List ℕ) (names : List (List ℕ)) → All (λ q. is_lt (name_cmp last q) ≡ false) names → Before last name → All (λ q. Before q name) names
all_ahead last name names up_to first = All-weaker (λ q. is_lt (name_cmp last q) ≡ false) (λ q. Before q name) (λ q not_less. ahead_of last name q (name_cmp last q) refl not_less first) names up_to

pub last_ahead : {X : Type 0} (es : List (List ℕ × X)) (i : ℕ) (last name : List ℕ) (x : X) → slice_get es i ≡ Some (last, x) → All (λ q. Before q name) (mapped (λ e. e.0) es) → Before last name
last_ahead es i last name x is all = at_place (λ q. Before q name) es i last x is all

pub none_ahead : {X : Type 0} (es : List (List ℕ × X)) (name : List ℕ) → (0 < length es → false ≡ true) → All (λ q. Before q name) (mapped (λ e. e.0) es)
none_ahead [] name none = All-nil (λ q. Before q name)
none_ahead (x ∷ xs) name none = (let bad = none (omega arith) in absurd (cc))

-- a name above another is met as a front before a `/`
pub above_at : (names : List (List ℕ)) (text : List ℕ) → ((j : ℕ) → j < length text → get_or text j 0 ≡ 47 → In (take j text) names → ⊥) → false ≡ list_any (λ upper. stands_above upper text) names
above_at names text none =
    sym (none_true (list_any (λ upper. stands_above upper text) names) (λ any.
    let found = any_in (λ upper. stands_above upper text) names any in
    let at = stands_at names text found.0 found.1 found.2 in
    none at.place at.short at.slash (subst (λ p. In p names) (sym at.is) at.inside)))

pub above_here : (names : List (List ℕ)) (text : List ℕ) (j : ℕ) → j < length text → get_or text j 0 ≡ 47 → In (take j text) names → true ≡ list_any (λ upper. stands_above upper text) names
above_here names text j short slash inside =
    let whole : text ≡ take j text ++ 47 ∷ drop (j + 1) text = sym (take-append-drop j text) ∙ ap (λ r. take j text ++ r) (drop_more text j 0 short ∙ ap (λ b. b ∷ drop (j + 1) text) slash) in
    sym (in_any (λ upper. stands_above upper text) names (take j text) inside (above_from (take j text) text (drop (j + 1) text) whole))

-- a `/` after a front that is a name, by the test of both
and_true : (b : Bool) → (b && true) ≡ b
and_true true = refl
and_true false = refl

and_false : (b : Bool) → (b && false) ≡ false
and_false true = refl
and_false false = refl

pub slash_true : (byte : ℕ) (has found : Bool) → found ≡ ((byte == 47) && has) → found ≡ true → (byte ≡ 47) × (has ≡ true)
slash_true byte true found is so = (let test : (byte == 47) ≡ true = sym (and_true (byte == 47)) ∙ sym is ∙ so in grind (arith, nat_tests), refl)
slash_true byte false found is so = (let bad : true ≡ false = sym so ∙ is ∙ and_false (byte == 47) in absurd (cc))

pub slash_false : (byte : ℕ) (has found : Bool) → found ≡ ((byte == 47) && has) → found ≡ false → byte ≡ 47 → has ≡ true → ⊥
slash_false byte has found is so slash there =
    let bad : false ≡ true = sym so ∙ is ∙ (λ i. (slash i == 47) && there i) in
    cc

-- what holds of each place before this one, and of this one
pub and_here : (P : ℕ → Type 0) (at : ℕ) → ((j : ℕ) → j < at → P j) → P at → (j : ℕ) → j < at + 1 → P j
and_here P at earlier here j less = ⊎_elim (λ before. earlier j before) (λ not. (let same : at ≡ j = omega arith in subst P same here)) (cases_lt j at)
