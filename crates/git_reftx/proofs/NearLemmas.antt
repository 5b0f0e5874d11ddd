-- Names near those of commands, and names below another.
use Rattle.std.proofs.Common.{◌≡◌, ℕ, ◌+◌, ◌<◌, Bool, true, false, not, cond, ◌||◌, List, [], ◌∷◌, ◌++◌, ◌⊎◌, inl, inr, ⊎_elim, Option, None, Some, refl, sym, ap, subst, ◌∙◌, length, take, drop, get_or, is_some, is_lt, All, append-nil, unwrap_or, Bor}
use Rattle.std.proofs.lemmas.Bool.Decides.{Decides-eqb}
use Rattle.std.proofs.lemmas.List.{take_more}
use Rattle.std.proofs.lemmas.List.Elements.{All-cons, All-head, All-nil, All-tail}
use Rattle.std.proofs.lemmas.Slice.Eq.{starts_is}
use Rattle.std.specs.Option.{IfSome, IfNone, option_copied}
use Rattle.std.specs.declared.cmp.Ordering.{Ordering}
use Rattle.std.specs.declared.cmp.Ordering.TheVariants.{Less, Equal, Greater}
use Rattle.std.specs.Ordering.{eq_by_cmp, ordering_reverse}
use Rattle.std.specs.FinMap as map
use Rattle.std.specs.List.{AllByRecursion, find, list_any}
use Rattle.std.specs.List.Sorted.{IsStrictlySortedBy}
use Rattle.std.proofs.lemmas.Cmp.{tied_itself}
use Rattle.std.proofs.lemmas.Map.Keys.{sorted_head, sorted_tail}
use Rattle.git_name.specs.Name.{name_cmp}
use Rattle.git_name.proofs.Names.{name_total, name_exact}
use Rattle.git_refname.specs.Rule.{begins}
use Rattle.git_reftx.specs.declared.command.Command.{Command}
use Rattle.git_reftx.specs.declared.command.Change.{Change}
use Rattle.git_reftx.specs.declared.command.Change.TheVariants.{Keep, Remove, Point}
use Rattle.git_reftx.specs.Fronts.{AreOf, Before, In, IsUpper, IsFrontAbove, IsLeastNear, IsLesserOf}
use Rattle.git_reftx.specs.Transaction.{References, changed, changed_by, least_upper, stands_above}
use Rattle.git_reftx.proofs.FrontLemmas.{above_before, least_of_all, near_either}
use Rattle.git_reftx.proofs.MapLemmas.{same_name}
use Rattle.git_reftx.proofs.MemberLemmas.{any_in, in_any}
use Rattle.git_reftx.proofs.OrderLemmas.{front_before, between}
use Rattle.shared_map.proofs.RiseLemmas.{less_of}
use Rattle.git_reftx.proofs.PushLemmas.{apart, has_key, key_has, keys_ascend}

-- one more command
of_more : (commands : List Command) (x : Command) (q : List ℕ) → AreOf (commands ++ x ∷ []) q → AreOf commands q ⊎ (x.reference ≡ q)
of_more [] x q (inl is) = inr is
of_more [] x q (inr none) = absurd none
of_more (c ∷ cs) x q (inl is) = inl (inl is)
of_more (c ∷ cs) x q (inr later) = ⊎_elim (λ so. inl (inr so)) (λ is. inr is) (of_more cs x q later)

pub near_more : (names : List (List ℕ)) (commands : List Command) (i : ℕ) (x : Command) (least upper now : Option (List ℕ)) → i < length commands → x ≡ get_or commands i x
    → IsLeastNear names (AreOf (take i commands)) least → IsLeastNear names (λ q. x.reference ≡ q) upper → IsLesserOf least upper now → IsLeastNear names (AreOf (take (i + 1) commands)) now
near_more names commands i x least upper now inside is so_far here lesser =
    near_either names (AreOf (take i commands)) (λ q. x.reference ≡ q) (AreOf (take (i + 1) commands)) least upper now
    (λ q of. of_more (take i commands) x q (subst (λ cs. AreOf cs q) (take_more commands i x inside ∙ ap (λ y. take i commands ++ y ∷ []) (sym is)) of)) so_far here lesser

pub near_none : (names : List (List ℕ)) (least : Option (List ℕ)) → least ≡ None → IsLeastNear names (AreOf []) least
near_none names least none = record { found = λ u is. absurd (cc (sym none ∙ is)); bound = λ u l upper lower above near. ⊎_elim (λ so. absurd so) (λ so. absurd so) near }

-- what exists after a command existed before, or is its own
has_tied : (q k : List ℕ) (tie : Bool) (old : Option (List ℕ)) (v : Option (List ℕ)) → eq_by_cmp name_cmp q k ≡ tie → is_some (cond tie v old) ≡ true → (is_some old ≡ true) ⊎ (k ≡ q)
has_tied q k true old v tied has = inr (sym (same_name q k tied))
has_tied q k false old v tied has = inl has

has_by : (old : References) (reference : List ℕ) (change : Change) (q : List ℕ) → map.contains_key (changed_by reference change old) q ≡ true → (map.contains_key old q ≡ true) ⊎ (reference ≡ q)
has_by old reference Keep q has = inl has
has_by old reference Remove q has = has_tied q reference (eq_by_cmp name_cmp q reference) (map.get old q) None refl (ap is_some (sym (map.get-remove name_total old reference q)) ∙ has)
has_by old reference (Point name) q has = has_tied q reference (eq_by_cmp name_cmp q reference) (map.get old q) (Some name) refl (ap is_some (sym (map.get-insert name_total old reference name q)) ∙ has)

has_after : (commands : List Command) (old : References) (q : List ℕ) → map.contains_key (changed commands old) q ≡ true → (map.contains_key old q ≡ true) ⊎ AreOf commands q
has_after [] old q has = inl has
has_after (c ∷ cs) old q has = ⊎_elim (λ before. ⊎_elim (λ so. inl so) (λ is. inr (inl is)) (has_by old c.reference c.change q before)) (λ later. inr (inr later)) (has_after cs (changed_by c.reference c.change old) q has)

-- names above others after the commands are near those of commands
pub least_after : (old new : References) (commands : List Command) (least : Option (List ℕ)) → least_upper (map.keys old) ≡ None → new ≡ changed commands old → IsLeastNear (map.keys new) (AreOf commands) least
    → least_upper (map.keys new) ≡ least
least_after old new commands least free is near =
    least_of_all (map.keys new) least (keys_ascend new) near.found (λ u l upper lower above. near.bound u l upper lower above (one_new u l above (before u upper) (before l lower)))
  where
    before : (q : List ℕ) → In q (map.keys new) → In q (map.keys old) ⊎ AreOf commands q
    before q inside = ⊎_elim (λ has. inl (has_key old q has)) (λ of. inr of) (has_after commands old q (subst (λ m. map.contains_key m q ≡ true) is (key_has new q inside)))

    one_new : (u l : List ℕ) → stands_above u l ≡ true → In u (map.keys old) ⊎ AreOf commands u → In l (map.keys old) ⊎ AreOf commands l → AreOf commands u ⊎ AreOf commands l
    one_new u l above (inl upper) (inl lower) = absurd (apart (map.keys old) free u l upper lower above)
    one_new u l above (inl upper) (inr of) = inr of
    one_new u l above (inr of) lower = inl of

never_any : (test : List ℕ → Bool) (names : List (List ℕ)) (p : List ℕ) → list_any test names ≡ false → In p names → test p ≡ true → ⊥
never_any test names p none inside passes = cc (sym none ∙ in_any test names p inside passes)

-- a name that does not exist, one that is below another, one that is above another, and one that is neither
pub near_absent : (m : References) (name : List ℕ) (least : Option (List ℕ)) → map.contains_key m name ≡ false → least ≡ None → IsLeastNear (map.keys m) (λ q. name ≡ q) least
near_absent m name least absent none = record {
  found = λ u is. absurd (cc (sym none ∙ is));
  bound = λ u l upper lower above near. absurd (⊎_elim (λ same. there u upper same) (λ same. there l lower same) near);
}
  where
    there : (q : List ℕ) → In q (map.keys m) → name ≡ q → ⊥
    there q inside same = cc (sym absent ∙ ap (λ k. map.contains_key m k) same ∙ key_has m q inside)

pub near_below : (m : References) (name upper : List ℕ) → map.contains_key m name ≡ true → IsFrontAbove (map.keys m) name upper → IsLeastNear (map.keys m) (λ q. name ≡ q) (Some upper)
near_below m name upper there is = record {
  found = λ u same. (let is_u : upper ≡ u = cc in subst (IsUpper (map.keys m)) is_u (record { inside = is.inside; lower = name; lower_inside = has_key m name there; above = is.above }));
  bound = λ u l upper_in lower_in above near. ⊎_elim (λ same. inr (subst (Before upper) same (above_before upper name is.above))) (λ same. is.first u upper_in (ap (stands_above u) same ∙ above)) near;
}

pub near_above : (m : References) (name : List ℕ) → map.contains_key m name ≡ true → list_any (λ upper. stands_above upper name) (map.keys m) ≡ false → list_any (λ lower. stands_above name lower) (map.keys m) ≡ true
    → IsLeastNear (map.keys m) (λ q. name ≡ q) (Some name)
near_above m name there none some =
    let below = any_in (λ lower. stands_above name lower) (map.keys m) some in
    record {
      found = λ u same. (let is_u : name ≡ u = cc in subst (IsUpper (map.keys m)) is_u (record { inside = has_key m name there; lower = below.0; lower_inside = below.1; above = below.2 }));
      bound = λ u l upper_in lower_in above near. ⊎_elim (λ same. inl same) (λ same. absurd (never_any (λ upper. stands_above upper name) (map.keys m) u none upper_in (ap (stands_above u) same ∙ above))) near;
    }

pub near_neither : (m : References) (name : List ℕ) (least : Option (List ℕ)) → list_any (λ upper. stands_above upper name) (map.keys m) ≡ false → list_any (λ lower. stands_above name lower) (map.keys m) ≡ false → least ≡ None
    → IsLeastNear (map.keys m) (λ q. name ≡ q) least
near_neither m name least none_above none_below none = record {
  found = λ u is. absurd (cc (sym none ∙ is));
  bound = λ u l upper_in lower_in above near. absurd (⊎_elim
      (λ same. never_any (λ lower. stands_above name lower) (map.keys m) l none_below lower_in (ap (λ n. stands_above n l) same ∙ above))
      (λ same. never_any (λ upper. stands_above upper name) (map.keys m) u none_above upper_in (ap (stands_above u) same ∙ above)) near);
}

-- a text that begins with another does not come before it
begins_by : (front text rest : List ℕ) → text ≡ front ++ rest → is_lt (name_cmp text front) ≡ false
begins_by front text [] is = ap (λ t. is_lt (name_cmp t front)) (is ∙ append-nil front) ∙ ap is_lt (tied_itself name_total front)
begins_by front text (x ∷ rest) is = ap (λ t. is_lt (name_cmp t front)) is ∙ ap is_lt (name_total.antisymm (front ++ x ∷ rest) front ∙ ap ordering_reverse (front_before front x rest))

begins_parts : (front text : List ℕ) → begins front text ≡ true → text ≡ front ++ drop (length front) text
begins_parts front text is = (starts_is Decides-eqb text front (begins front text) refl).0 is

begins_from : (front text rest : List ℕ) → text ≡ front ++ rest → begins front text ≡ true
begins_from front text rest is = (starts_is Decides-eqb text front (begins front text) refl).1 rest is

false_of : (b : Bool) → (b ≡ true → ⊥) → b ≡ false
false_of true never = absurd (never refl)
false_of false never = refl

-- a text from a front on, before a text that begins with the front, begins with it too
reaches : (front first text rest : List ℕ) (o : Ordering) → name_cmp first front ≡ o → is_lt o ≡ false → Before first text → text ≡ front ++ rest → begins front first ≡ true
reaches front first text rest Less is not_so before whole = absurd (cc)
reaches front first text rest Equal is not_so before whole = begins_from front first [] (name_exact first front is ∙ sym (append-nil front))
reaches front first text rest Greater is not_so before whole =
    let parts = between front first rest (name_total.antisymm front first ∙ ap ordering_reverse is) (subst (Before first) whole before) in
    begins_from front first parts.0 parts.1

none_later : (front first : List ℕ) (names : List (List ℕ)) → begins front first ≡ false → is_lt (name_cmp first front) ≡ false → AllByRecursion (λ q. name_cmp first q ≡ Less) names → list_any (begins front) names ≡ false
none_later front first [] fails not_so later = refl
none_later front first (x ∷ xs) fails not_so later =
    let here : begins front x ≡ false = false_of (begins front x) (λ so. cc (sym (reaches front first x (drop (length front) x) (name_cmp first front) refl not_so later.0 (begins_parts front x so)) ∙ fails)) in
    ap (λ b. b || list_any (begins front) xs) here ∙ none_later front first xs fails not_so later.1

-- whether one begins with these bytes, by the first that does not come before them
pub begins_first : (front : List ℕ) (names : List (List ℕ)) (first : Option (List ℕ)) → IsStrictlySortedBy name_cmp names → first ≡ find (λ other. not (is_lt (name_cmp other front))) names
    → list_any (begins front) names ≡ cond (is_some first) (begins front (unwrap_or first [])) false
begins_first front [] first sorted is = ap (λ o. cond (is_some o) (begins front (unwrap_or o [])) false) (sym is)
begins_first front (x ∷ xs) first sorted is = by_test (is_lt (name_cmp x front)) refl (begins_first front xs first (sorted_tail name_cmp x xs sorted))
  where
    before : is_lt (name_cmp x front) ≡ true → begins front x ≡ false
    before less = false_of (begins front x) (λ so. cc (sym less ∙ begins_by front x (drop (length front) x) (begins_parts front x so)))

    here : (b : Bool) → begins front x ≡ b → is_lt (name_cmp x front) ≡ false → list_any (begins front) (x ∷ xs) ≡ b
    here true is_b not_so = ap (λ b. b || list_any (begins front) xs) is_b
    here false is_b not_so = ap (λ b. b || list_any (begins front) xs) is_b ∙ none_later front x xs is_b not_so (sorted_head name_cmp x xs sorted)

    by_test : (b : Bool) → is_lt (name_cmp x front) ≡ b → (first ≡ find (λ other. not (is_lt (name_cmp other front))) xs → list_any (begins front) xs ≡ cond (is_some first) (begins front (unwrap_or first [])) false)
        → list_any (begins front) (x ∷ xs) ≡ cond (is_some first) (begins front (unwrap_or first [])) false
    by_test true less later =
        ap (λ b. b || list_any (begins front) xs) (before less) ∙ later (is ∙ ap (λ b. cond (not b) (Some x) (find (λ other. not (is_lt (name_cmp other front))) xs)) less)
    by_test false not_so later =
        here (begins front x) refl not_so
        ∙ ap (λ o. cond (is_some o) (begins front (unwrap_or o [])) false) (sym (is ∙ ap (λ b. cond (not b) (Some x) (find (λ other. not (is_lt (name_cmp other front))) xs)) not_so))

-- all names come before one exactly if none is found from it on
pub none_from : (name : List ℕ) (names : List (List ℕ)) → find (λ other. not (is_lt (name_cmp other name))) names ≡ None → All (λ other. Before other name) names
none_from name [] none = All-nil (λ other. Before other name)
none_from name (x ∷ xs) none = by_test (is_lt (name_cmp x name)) refl (none_from name xs)
  where
    rest : Option (List ℕ)
    rest = find (λ other. not (is_lt (name_cmp other name))) xs

    by_test : (b : Bool) → is_lt (name_cmp x name) ≡ b → (rest ≡ None → All (λ other. Before other name) xs) → All (λ other. Before other name) (x ∷ xs)
    by_test true less later = All-cons (λ other. Before other name) x xs (less_of (name_cmp x name) less) (later (sym (ap (λ b. cond (not b) (Some x) rest) less) ∙ none))
    by_test false not_so later = absurd (cc (sym (ap (λ b. cond (not b) (Some x) rest) not_so) ∙ none))

pub from_none : (name : List ℕ) (names : List (List ℕ)) → All (λ other. Before other name) names → find (λ other. not (is_lt (name_cmp other name))) names ≡ None
from_none name [] all = refl
from_none name (x ∷ xs) all =
    ap (λ o. cond (not (is_lt o)) (Some x) (find (λ other. not (is_lt (name_cmp other name))) xs)) (All-head (λ other. Before other name) x xs all) ∙ from_none name xs (All-tail (λ other. Before other name) x xs all)

-- what is reported of a prefix above a name
pub told_above : (o : Option (Bor (List ℕ))) (names : List (List ℕ)) (name : List ℕ) → IfSome o (λ upper. IsFrontAbove names name upper.now) → IfNone o (list_any (λ upper. stands_above upper name) names ≡ false)
    → is_some o ≡ list_any (λ upper. stands_above upper name) names
told_above None names name found none = sym none
told_above (Some upper) names name found none = sym (in_any (λ u. stands_above u name) names upper.now found.inside found.above)

-- and of the first name from one on
pub told_behind : (o : Option (Bor (List ℕ))) (names : List (List ℕ)) (name : List ℕ) (b : Bool) → option_copied o ≡ find (λ other. not (is_lt (name_cmp other name))) names → is_some o ≡ not b
    → (b ≡ true → All (λ other. Before other name) names) × (All (λ other. Before other name) names → b ≡ true)
told_behind None names name true is test = (λ so. none_from name names (sym is), λ all. refl)
told_behind None names name false is test = absurd (cc)
told_behind (Some u) names name true is test = absurd (cc)
told_behind (Some u) names name false is test = (λ so. absurd (cc), λ all. absurd (cc (is ∙ from_none name names all)))
