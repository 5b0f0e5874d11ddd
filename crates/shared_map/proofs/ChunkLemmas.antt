-- Chunks, one after another.
use Rattle.std.proofs.Common.{◌≡◌, ℕ, suc, zero, ◌<◌, ◌≤◌, ◌+◌, Bool, true, false, List, [], ◌∷◌, ◌++◌, refl, sym, ap, subst, ◌∙◌, length, get_or, take, drop, slice_set, arith, append-nil, append_assoc, Less}
use Rattle.git_name.specs.Name.{name_cmp}
use Rattle.shared_map.specs.Building.{appended}
use Rattle.shared_map.specs.Chunks.{Entry, Entries, Rises, is_before, AreBefore, AreBehind, Reaches, AreFull, IsReached, joined}
use Rattle.shared_map.proofs.AllLemmas.{all_first, all_second, all_both, all_more}
use Rattle.shared_map.proofs.RiseLemmas.{before_earlier, rises_first, rises_second, across}
use Rattle.shared_map.proofs.SearchLemmas.{behind_reached, never_reaches}

pub joined_append : (xs ys : List Entries) → joined (xs ++ ys) ≡ joined xs ++ joined ys
joined_append [] ys = refl
joined_append (x ∷ xs) ys = ap (λ es. x ++ es) (joined_append xs ys) ∙ sym (append_assoc x (joined xs) (joined ys))

-- the chunk at a place, between those before it and those after it
pub joined_at : (cs : List Entries) (at : ℕ) → joined cs ≡ joined (take at cs) ++ (get_or cs at [] ++ joined (drop (suc at) cs))
joined_at [] zero = refl
joined_at [] (suc at) = refl
joined_at (c ∷ cs) zero = refl
joined_at (c ∷ cs) (suc at) = ap (λ es. c ++ es) (joined_at cs at) ∙ sym (append_assoc c (joined (take at cs)) (get_or cs at [] ++ joined (drop (suc at) cs)))

pub rises_at : (cs : List Entries) (at : ℕ) → Rises (joined cs) → Rises (get_or cs at [])
rises_at cs at rises =
    rises_first (get_or cs at []) (joined (drop (suc at) cs)) (rises_second (joined (take at cs)) (get_or cs at [] ++ joined (drop (suc at) cs)) (subst Rises (joined_at cs at) rises))

earlier : (key : List ℕ) (y : Entry) (xs ys : Entries) → Rises (xs ++ y ∷ ys) → is_before key y ≡ true → AreBefore key xs
earlier key y xs ys rises so = all_more (λ e. name_cmp e.0 y.0 ≡ Less) (λ e. is_before key e ≡ true) (λ e less. before_earlier e.0 y.0 key less so) xs (across xs y ys rises)

-- up to a chunk that ends before the key, all do
pub chunks_before : (key : List ℕ) (cs : List Entries) (at : ℕ) → Rises (joined cs) → AreFull cs → at < length cs → AreBefore key (get_or cs at []) → AreBefore key (joined (take (suc at) cs))
chunks_before key [] at rises full within before = absurd (omega arith)
chunks_before key (c ∷ cs) zero rises full within before = all_both (λ e. is_before key e ≡ true) c [] before tt
chunks_before key (c ∷ []) (suc at) rises full within before = absurd (omega arith)
chunks_before key (c ∷ [] ∷ cs) (suc at) rises full within before = (let bad : 0 < 0 = full.1.0 in absurd (omega arith))
chunks_before key (c ∷ (y ∷ ys) ∷ cs) (suc at) rises full within before =
    let others = chunks_before key ((y ∷ ys) ∷ cs) at (rises_second c (joined ((y ∷ ys) ∷ cs)) rises) full.1 (omega arith) before in
    all_both (λ e. is_before key e ≡ true) c (joined (take (suc at) ((y ∷ ys) ∷ cs))) (earlier key y c (ys ++ joined cs) rises others.0) others

reached_at : (key : List ℕ) (cs : List Entries) (at : ℕ) → at < length cs → IsReached key (drop at cs) → Reaches key (get_or cs at [])
reached_at key [] at within reached = absurd (omega arith)
reached_at key (c ∷ cs) zero within reached = reached
reached_at key (c ∷ cs) (suc at) within reached = reached_at key cs at (omega arith) reached

-- what comes after a chunk that does not end before the key comes after the key
pub behind_chunk : (key : List ℕ) (cs : List Entries) (at : ℕ) → at < length cs → Rises (joined cs) → IsReached key (drop at cs) → AreBehind key (joined (drop (at + 1) cs))
behind_chunk key cs at within rises reached =
    subst (λ n. AreBehind key (joined (drop n cs))) {x = suc at} {y = at + 1} (omega arith)
    (behind_reached key (get_or cs at []) (joined (drop (suc at) cs)) (rises_second (joined (take at cs)) (get_or cs at [] ++ joined (drop (suc at) cs)) (subst Rises (joined_at cs at) rises)) (reached_at key cs at within reached))

-- such a chunk does not come before the key
pub ends_chunk : {P : Type 0} (key : List ℕ) (cs : List Entries) (at : ℕ) → at < length cs → IsReached key (drop at cs) → AreBefore key (get_or cs at []) → P
ends_chunk key cs at within reached before = absurd (never_reaches key (get_or cs at []) before (reached_at key cs at within reached))

-- what fewer chunks hold comes before the key too
pub before_fewer : (key : List ℕ) (cs : List Entries) (few many : ℕ) → few ≤ many → AreBefore key (joined (take many cs)) → AreBefore key (joined (take few cs))
before_fewer key cs zero many less before = tt
before_fewer key [] (suc few) many less before = tt
before_fewer key (c ∷ cs) (suc few) zero less before = absurd (omega arith)
before_fewer key (c ∷ cs) (suc few) (suc many) less before =
    all_both (λ e. is_before key e ≡ true) c (joined (take few cs)) (all_first (λ e. is_before key e ≡ true) c (joined (take many cs)) before)
    (before_fewer key cs few many (omega arith) (all_second (λ e. is_before key e ≡ true) c (joined (take many cs)) before))

appended_behind : (done : Bool) (c es : Entries) (e : Entry) → c ++ appended done es e ≡ appended done (c ++ es) e
appended_behind true c es e = sym (append_assoc c es (e ∷ []))
appended_behind false c es e = refl

-- the last chunk with one more entry
pub last_appended : (done : Bool) (cs : List Entries) (at : ℕ) (last new : Entries) (e : Entry) → length cs ≡ suc at → last ≡ get_or cs at last → new ≡ appended done last e
    → joined (slice_set cs at new) ≡ appended done (joined cs) e
last_appended done [] at last new e is found now = absurd (omega arith)
last_appended done (c ∷ []) zero last new e is found now = append-nil new ∙ now ∙ ap (λ es. appended done es e) (found ∙ sym (append-nil c))
last_appended done (c ∷ d ∷ cs) zero last new e is found now = absurd (omega arith)
last_appended done (c ∷ []) (suc at) last new e is found now = absurd (omega arith)
last_appended done (c ∷ d ∷ cs) (suc at) last new e is found now =
    ap (λ es. c ++ es) (last_appended done (d ∷ cs) at last new e (omega arith) found now) ∙ appended_behind done c (joined (d ∷ cs)) e
