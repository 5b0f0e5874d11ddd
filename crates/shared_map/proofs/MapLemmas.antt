-- The entries of a map, around a key.
use Rattle.std.proofs.Common.{◌≡◌, ℕ, suc, ◌+◌, ◌-◌, ◌<◌, ◌≤◌, min, true, false, not, cond, List, [], ◌∷◌, ◌++◌, Option, None, Some, refl, sym, ap, subst, ◌∙◌, length, get_or, take, drop, arith, append-nil, append_assoc, take-append-drop, take-add, drop-drop, drop_of_length-le, length-append, is_lt, map as mapped, ⊎_elim, take_all, length-drop}
use Rattle.std.proofs.lemmas.Bool.{cases_lt}
use Rattle.std.specs.List.{find}
use Rattle.std.specs.FinMap as finite
use Rattle.std.proofs.lemmas.List.{drop_more}
use Rattle.git_name.specs.Name.{name_cmp}
use Rattle.shared_map.specs.Building.{changed, set_in}
use Rattle.shared_map.specs.Chunks.{Entry, Entries, Rises, is_before, AreBefore, AreNotBefore, AreBehind, AreFull, AreChunks, kept, joined}
use Rattle.shared_map.specs.Spot.{IsSpot}
use Rattle.shared_map.specs.declared.spot.Spot.{Spot}
use Rattle.shared_map.proofs.AllLemmas.{all_both}
use Rattle.shared_map.proofs.ChangeLemmas.{entries_risen, rises_with, rises_without, get_around, set_around}
use Rattle.shared_map.proofs.ChunkLemmas.{joined_at, joined_append}

-- what comes before a key in all chunks, and what comes after it
abbrev pub front_of : List Entries → ℕ → Spot → Entries
front_of cs at spot = joined (take at cs) ++ take spot.at (get_or cs at [])

abbrev pub back_of : List Entries → ℕ → Spot → Entries
back_of cs at spot = drop spot.past (get_or cs at []) ++ joined (drop (at + 1) cs)

regroup : (a b c d e : Entries) → a ++ ((b ++ (c ++ d)) ++ e) ≡ (a ++ b) ++ (c ++ (d ++ e))
regroup a b c d e = simp append_assoc

-- the entries around a key
pub parted : (key : List ℕ) (cs : List Entries) (at : ℕ) (spot : Spot) → IsSpot key (get_or cs at []) spot → joined cs ≡ front_of cs at spot ++ (kept key spot.value ++ back_of cs at spot)
parted key cs at spot is =
    subst (λ n. joined cs ≡ joined (take at cs) ++ (get_or cs at [] ++ joined (drop n cs))) {x = suc at} {y = at + 1} (omega arith) (joined_at cs at)
    ∙ ap (λ es. joined (take at cs) ++ (es ++ joined (drop (at + 1) cs))) is.parts
    ∙ regroup (joined (take at cs)) (take spot.at (get_or cs at [])) (kept key spot.value) (drop spot.past (get_or cs at [])) (joined (drop (at + 1) cs))

-- the entries around a key, after a chunk is rebuilt
pub built : (key : List ℕ) (cs : List Entries) (at : ℕ) (spot : Spot) (value : Option (List ℕ)) (new : List Entries) → joined new ≡ joined (take at cs) ++ (changed (get_or cs at []) spot key value ++ joined (drop (at + 1) cs))
    → joined new ≡ front_of cs at spot ++ (kept key value ++ back_of cs at spot)
built key cs at spot value new is = is ∙ regroup (joined (take at cs)) (take spot.at (get_or cs at [])) (kept key value) (drop spot.past (get_or cs at [])) (joined (drop (at + 1) cs))

pub front_before : (key : List ℕ) (cs : List Entries) (at : ℕ) (spot : Spot) → AreBefore key (joined (take at cs)) → IsSpot key (get_or cs at []) spot → AreBefore key (front_of cs at spot)
front_before key cs at spot before is = all_both (λ e. is_before key e ≡ true) (joined (take at cs)) (take spot.at (get_or cs at [])) before is.before

pub back_behind : (key : List ℕ) (cs : List Entries) (at : ℕ) (spot : Spot) → AreBehind key (joined (drop (at + 1) cs)) → IsSpot key (get_or cs at []) spot → AreBehind key (back_of cs at spot)
back_behind key cs at spot behind is = all_both _ (drop spot.past (get_or cs at [])) (joined (drop (at + 1) cs)) is.behind behind

same_length : (key : List ℕ) (o : Option (List ℕ)) → length (kept key o) ≡ length (kept [] o)
same_length key None = refl
same_length key (Some v) = refl

pub length_around : (front : Entries) (key : List ℕ) (o : Option (List ℕ)) (back : Entries) → length (front ++ (kept key o ++ back)) ≡ length front + (length (kept [] o) + length back)
length_around front key o back =
    length-append front (kept key o ++ back) ∙ ap (λ n. length front + n) (length-append (kept key o) back ∙ ap (λ n. n + length back) (same_length key o))

-- the chunks after a change
pub chunks_changed : (key : List ℕ) (cs new : List Entries) (len others after : ℕ) (front back : Entries) (old value : Option (List ℕ)) → AreChunks cs len
    → joined cs ≡ front ++ (kept key old ++ back) → joined new ≡ front ++ (kept key value ++ back) → AreBefore key front → AreBehind key back
    → AreFull new → others + length (kept [] old) ≡ len → after ≡ others + length (kept [] value) → AreChunks new after
chunks_changed key cs new len others after front back old value are is now before behind full fewer more =
    let first : length (joined cs) ≡ length front + (length (kept [] old) + length back) = ap (λ (es : Entries). length es) is ∙ length_around front key old back in
    let second : length (joined new) ≡ length front + (length (kept [] value) + length back) = ap (λ (es : Entries). length es) now ∙ length_around front key value back in
    record {
      order = subst Rises (sym now) (rises_with front key value back (rises_without front key old back (subst Rises is are.order)) before behind);
      full = full;
      len = omega (arith, are.len, first, second, fewer, more);
    }

-- there is a text if one is found
pub some_there : (key : List ℕ) (cs : List Entries) (len : ℕ) (front back : Entries) (old : Option (List ℕ)) → AreChunks cs len → joined cs ≡ front ++ (kept key old ++ back) → length (kept [] old) ≤ len
some_there key cs len front back old are is =
    let first : length (joined cs) ≡ length front + (length (kept [] old) + length back) = ap (λ (es : Entries). length es) is ∙ length_around front key old back in
    omega (arith, are.len, first)

-- the first key that does not come before another
pub none_from : (key : List ℕ) (es : Entries) → AreBefore key es → find (λ other. not (is_lt (name_cmp other key))) (mapped (λ e. e.0) es) ≡ None
none_from key [] before = refl
none_from key (e ∷ es) before = ap (λ b. cond (not b) (Some e.0) (find (λ other. not (is_lt (name_cmp other key))) (mapped (λ f. f.0) es))) before.0 ∙ none_from key es before.1

pub some_from : (key : List ℕ) (xs : Entries) (x : Entry) (ys : Entries) → AreBefore key xs → is_before key x ≡ false → find (λ other. not (is_lt (name_cmp other key))) (mapped (λ e. e.0) (xs ++ x ∷ ys)) ≡ Some x.0
some_from key [] x ys before not_so = ap (λ b. cond (not b) (Some x.0) (find (λ other. not (is_lt (name_cmp other key))) (mapped (λ f. f.0) ys))) not_so
some_from key (e ∷ es) x ys before not_so =
    ap (λ b. cond (not b) (Some e.0) (find (λ other. not (is_lt (name_cmp other key))) (mapped (λ f. f.0) (es ++ x ∷ ys)))) before.0 ∙ some_from key es x ys before.1 not_so

-- chunks before a place, and after the next
take_two : (first at : ℕ) (cs : List Entries) → first ≤ at → joined (take at cs) ≡ joined (take first cs) ++ joined (take (at - first) (drop first cs))
take_two first at cs less =
    subst (λ n. joined (take n cs) ≡ joined (take first cs) ++ joined (take (at - first) (drop first cs))) {x = first + (at - first)} {y = at} (omega arith)
    (ap joined (take-add first (at - first) cs) ∙ joined_append (take first cs) (take (at - first) (drop first cs)))

drop_two : (next past : ℕ) (cs : List Entries) → next ≤ past → joined (drop next cs) ≡ joined (take (past - next) (drop next cs)) ++ joined (drop past cs)
drop_two next past cs less =
    ap joined (sym (take-append-drop (past - next) (drop next cs))) ∙ joined_append (take (past - next) (drop next cs)) (drop (past - next) (drop next cs))
    ∙ ap (λ ds. joined (take (past - next) (drop next cs)) ++ joined ds) (drop-drop (past - next) next cs ∙ ap (λ n. drop n cs) {x = next + (past - next)} {y = past} (omega arith))

drop_next : (at : ℕ) (cs : List Entries) → at ≤ length cs → drop (min (at + 1) (length cs)) cs ≡ drop (at + 1) cs
drop_next at cs within = ⊎_elim
    (λ less. ap (λ n. drop n cs) {x = min (at + 1) (length cs)} {y = at + 1} (omega arith))
    (λ past. drop_of_length-le cs (omega arith) ∙ sym (drop_of_length-le cs (omega arith)))
    (cases_lt at (length cs))

five : (a b c d e : Entries) → (a ++ ((b ++ c) ++ d)) ++ e ≡ (a ++ b) ++ (c ++ (d ++ e))
five a b c d e = simp append_assoc

pub rebuilt_is : (cs : List Entries) (first at next past : ℕ) (middle : Entries) (one two three : List Entries) (entries : Entries) → first ≤ at → at ≤ length cs → next ≡ min (at + 1) (length cs) → next ≤ past
    → one ≡ take first cs → entries ≡ (joined (take (at - first) (drop first cs)) ++ middle) ++ joined (take (past - next) (drop next cs)) → joined two ≡ joined one ++ entries → three ≡ two ++ drop past cs
    → joined three ≡ joined (take at cs) ++ (middle ++ joined (drop (at + 1) cs))
rebuilt_is cs first at next past middle one two three entries less within next_is later one_is entries_are two_are three_are =
    ap joined three_are ∙ joined_append two (drop past cs)
    ∙ ap (λ es. es ++ joined (drop past cs)) (two_are ∙ (λ i. joined (one_is i) ++ entries_are i))
    ∙ five (joined (take first cs)) (joined (take (at - first) (drop first cs))) middle (joined (take (past - next) (drop next cs))) (joined (drop past cs))
    ∙ (λ i. sym (take_two first at cs less) i ++ (middle ++ (sym (drop_two next past cs later) ∙ ap (λ n. joined (drop n cs)) next_is ∙ ap joined (drop_next at cs within)) i))

-- the value at a key's spot is that of the map
pub get_is : (key : List ℕ) (cs : List Entries) (at : ℕ) (spot : Spot) → AreBefore key (joined (take at cs)) → AreBehind key (joined (drop (at + 1) cs)) → IsSpot key (get_or cs at []) spot
    → spot.value ≡ finite.get (finite.from_entries {R = name_cmp} (joined cs)) key
get_is key cs at spot before behind is =
    sym (ap (λ es. finite.get (finite.from_entries {R = name_cmp} es) key) (parted key cs at spot is)
    ∙ get_around (front_of cs at spot) key spot.value (back_of cs at spot) (front_before key cs at spot before is) (back_behind key cs at spot behind is))

-- the map after a change is the one with the value set
pub set_is : (key : List ℕ) (cs new : List Entries) (at : ℕ) (spot : Spot) (value : Option (List ℕ)) → AreBefore key (joined (take at cs)) → AreBehind key (joined (drop (at + 1) cs)) → IsSpot key (get_or cs at []) spot
    → joined new ≡ joined (take at cs) ++ (changed (get_or cs at []) spot key value ++ joined (drop (at + 1) cs))
    → finite.from_entries {R = name_cmp} (joined new) ≡ set_in (finite.from_entries (joined cs)) key value
set_is key cs new at spot value before behind is now =
    ap (λ es. finite.from_entries {R = name_cmp} es) (built key cs at spot value new now)
    ∙ set_around (front_of cs at spot) key spot.value value (back_of cs at spot) (front_before key cs at spot before is) (back_behind key cs at spot behind is)
    ∙ ap (λ es. set_in (finite.from_entries {R = name_cmp} es) key value) (sym (parted key cs at spot is))

pub are_changed : (key : List ℕ) (cs new : List Entries) (len others after at : ℕ) (spot : Spot) (value : Option (List ℕ)) → AreChunks cs len → AreBefore key (joined (take at cs)) → AreBehind key (joined (drop (at + 1) cs))
    → IsSpot key (get_or cs at []) spot → joined new ≡ joined (take at cs) ++ (changed (get_or cs at []) spot key value ++ joined (drop (at + 1) cs))
    → AreFull new → others + length (kept [] spot.value) ≡ len → after ≡ others + length (kept [] value) → AreChunks new after
are_changed key cs new len others after at spot value are before behind is now full fewer more =
    chunks_changed key cs new len others after (front_of cs at spot) (back_of cs at spot) spot.value value are (parted key cs at spot is) (built key cs at spot value new now)
    (front_before key cs at spot before is) (back_behind key cs at spot behind is) full fewer more

pub is_there : (key : List ℕ) (cs : List Entries) (len at : ℕ) (spot : Spot) → AreChunks cs len → IsSpot key (get_or cs at []) spot → length (kept [] spot.value) ≤ len
is_there key cs len at spot are is = some_there key cs len (front_of cs at spot) (back_of cs at spot) spot.value are (parted key cs at spot is)

-- the first key from another one on, by binary search
pub first_none : (key : List ℕ) (cs : List Entries) (at k : ℕ) → AreBefore key (joined (take at cs)) → (AreBefore key (get_or cs at []) → joined (drop (at + 1) cs) ≡ []) → length (get_or cs at []) ≤ k → AreBefore key (take k (get_or cs at []))
    → find (λ other. not (is_lt (name_cmp other key))) (mapped (λ e. e.0) (joined cs)) ≡ None
first_none key cs at k before last past within =
    let all : AreBefore key (get_or cs at []) = subst (AreBefore key) (take_all k (get_or cs at []) past) within in
    let whole : joined cs ≡ joined (take at cs) ++ (get_or cs at [] ++ joined (drop (at + 1) cs)) = subst (λ n. joined cs ≡ joined (take at cs) ++ (get_or cs at [] ++ joined (drop n cs))) {x = suc at} {y = at + 1} (omega arith) (joined_at cs at) in
    none_from key (joined cs) (subst (AreBefore key) (sym (whole ∙ ap (λ ds. joined (take at cs) ++ (get_or cs at [] ++ ds)) (last all)))
    (all_both (λ e. is_before key e ≡ true) (joined (take at cs)) (get_or cs at [] ++ []) before (all_both (λ e. is_before key e ≡ true) (get_or cs at []) [] all tt)))

split_rest : (a b c d : Entries) (x : Entry) → a ++ ((b ++ x ∷ c) ++ d) ≡ (a ++ b) ++ x ∷ (c ++ d)
split_rest a b c d x = ap (λ es. a ++ es) (append_assoc b (x ∷ c) d) ∙ sym (append_assoc a b (x ∷ (c ++ d)))

pub first_some : (key : List ℕ) (cs : List Entries) (at k : ℕ) (x : Entry) → AreBefore key (joined (take at cs)) → k < length (get_or cs at []) → x ≡ get_or (get_or cs at []) k x
    → AreBefore key (take k (get_or cs at [])) → AreNotBefore key (drop k (get_or cs at []))
    → find (λ other. not (is_lt (name_cmp other key))) (mapped (λ e. e.0) (joined cs)) ≡ Some x.0
first_some key cs at k x before within is ahead behind =
    let es = get_or cs at [] in
    let rest : drop k es ≡ x ∷ drop (k + 1) es = drop_more es k x within ∙ ap (λ y. y ∷ drop (k + 1) es) (sym is) in
    let whole : joined cs ≡ (joined (take at cs) ++ take k es) ++ x ∷ (drop (k + 1) es ++ joined (drop (suc at) cs)) =
    joined_at cs at ∙ ap (λ l. joined (take at cs) ++ (l ++ joined (drop (suc at) cs))) (sym (take-append-drop k es) ∙ ap (λ ds. take k es ++ ds) rest)
    ∙ split_rest (joined (take at cs)) (take k es) (drop (k + 1) es) (joined (drop (suc at) cs)) x in
    ap (λ l. find (λ other. not (is_lt (name_cmp other key))) (mapped (λ e. e.0) l)) whole
    ∙ some_from key (joined (take at cs) ++ take k es) x (drop (k + 1) es ++ joined (drop (suc at) cs)) (all_both (λ e. is_before key e ≡ true) (joined (take at cs)) (take k es) before ahead) (subst (AreNotBefore key) rest behind).0

pub rest_of : (past : ℕ) (cs : List Entries) → take (length cs - past) (drop past cs) ≡ drop past cs
rest_of past cs = take_all (length cs - past) (drop past cs) (let size = length-drop past cs in omega (arith, size))

-- the number of entries is that of the map
pub count_is : (es : Entries) (count : ℕ) (m : finite.FinMap name_cmp (List ℕ)) → Rises es → count ≡ length es → finite.from_entries es ≡ m → count ≡ finite.len m
count_is es count m rises is shown = is ∙ ap (λ (l : Entries). length l) (sym (entries_risen es rises)) ∙ sym (finite.len-entries (finite.from_entries es)) ∙ ap finite.len shown

-- a key after all others
pub chunks_appended : (key value : List ℕ) (cs new : List Entries) (len after : ℕ) → AreChunks cs len → AreBefore key (joined cs) → joined new ≡ joined cs ++ (key, value) ∷ [] → AreFull new → after ≡ len + 1 → AreChunks new after
chunks_appended key value cs new len after are before now full more =
    chunks_changed key cs new len len after (joined cs) [] None (Some value) are (sym (append-nil (joined cs))) now before tt full (omega arith) more

pub appended_is : (key value : List ℕ) (cs new : List Entries) → AreBefore key (joined cs) → joined new ≡ joined cs ++ (key, value) ∷ []
    → finite.from_entries {R = name_cmp} (joined new) ≡ finite.insert (finite.from_entries (joined cs)) key value
appended_is key value cs new before now =
    ap (λ es. finite.from_entries {R = name_cmp} es) now ∙ set_around (joined cs) key None (Some value) [] before tt
    ∙ ap (λ es. finite.insert (finite.from_entries {R = name_cmp} es) key value) (append-nil (joined cs))
