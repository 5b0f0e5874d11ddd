-- How many entries come before a key, by binary search.
use Rattle.std.proofs.Common.{◌≡◌, ◌≢◌, ℕ, suc, zero, ◌<◌, true, false, List, [], ◌∷◌, ◌++◌, inl, inr, sym, subst, ◌∙◌, length, get_or, take, drop, arith, Less}
use Rattle.std.specs.List.{AllByRecursion}
use Rattle.git_name.specs.Name.{name_cmp}
use Rattle.shared_map.specs.Chunks.{Entry, Entries, Rises, is_before, AreBefore, AreNotBefore, AreBehind, Reaches}
use Rattle.shared_map.proofs.AllLemmas.{all_second, all_more, all_at}
use Rattle.shared_map.proofs.RiseLemmas.{before_earlier, not_before_later, behind_later, behind_apart}

-- up to an entry that comes before the key, all do
pub before_up_to : (key : List ℕ) (es : Entries) (at : ℕ) (x : Entry) → Rises es → at < length es → x ≡ get_or es at x → is_before key x ≡ true → AreBefore key (take (suc at) es)
before_up_to key [] at x rises within is so = absurd (omega arith)
before_up_to key (e ∷ es) zero x rises within is so = (subst (λ f. is_before key f ≡ true) is so, tt)
before_up_to key (e ∷ es) (suc at) x rises within is so =
    let less : name_cmp e.0 x.0 ≡ Less = subst (λ f. name_cmp e.0 f.0 ≡ Less) (sym is) (all_at (λ f. name_cmp e.0 f.0 ≡ Less) es at x (omega arith) rises.0) in
    (before_earlier e.0 x.0 key less so, before_up_to key es at x rises.1 (omega arith) is so)

not_before_tail : (key : List ℕ) (e : Entry) (es : Entries) → AllByRecursion (λ f. name_cmp e.0 f.0 ≡ Less) es → is_before key e ≡ false → AreNotBefore key es
not_before_tail key e es later not_so = all_more (λ f. name_cmp e.0 f.0 ≡ Less) (λ f. is_before key f ≡ false) (λ f less. not_before_later e.0 f.0 key less not_so) es later

-- from an entry on that does not come before the key, none does
pub not_before_from : (key : List ℕ) (es : Entries) (at : ℕ) (x : Entry) → Rises es → at < length es → x ≡ get_or es at x → is_before key x ≡ false → AreNotBefore key (drop at es)
not_before_from key [] at x rises within is not_so = absurd (omega arith)
not_before_from key (e ∷ es) zero x rises within is not_so =
    let first : is_before key e ≡ false = subst (λ f. is_before key f ≡ false) is not_so in
    (first, not_before_tail key e es rises.0 first)
not_before_from key (e ∷ es) (suc at) x rises within is not_so = not_before_from key es at x rises.1 (omega arith) is not_so

-- entries reach the key by any of them that does not come before it
pub reaches_at : (key : List ℕ) (es : Entries) (at : ℕ) (x : Entry) → at < length es → x ≡ get_or es at x → is_before key x ≡ false → Reaches key es
reaches_at key [] at x within is not_so = absurd (omega arith)
reaches_at key (e ∷ es) zero x within is not_so = inl (subst (λ f. is_before key f ≡ false) is not_so)
reaches_at key (e ∷ es) (suc at) x within is not_so = inr (reaches_at key es at x (omega arith) is not_so)

-- entries that all come before the key do not reach it
pub never_reaches : (key : List ℕ) (es : Entries) → AreBefore key es → Reaches key es → ⊥
never_reaches key [] before reached = reached
never_reaches key (e ∷ es) before (inl not_so) = cc (sym before.0 ∙ not_so)
never_reaches key (e ∷ es) before (inr later) = never_reaches key es before.1 later

-- what comes after entries that reach the key comes after the key
pub behind_reached : (key : List ℕ) (es rest : Entries) → Rises (es ++ rest) → Reaches key es → AreBehind key rest
behind_reached key [] rest rises reached = absurd reached
behind_reached key (e ∷ es) rest rises (inl not_so) =
    all_more (λ f. name_cmp e.0 f.0 ≡ Less) (λ f. name_cmp key f.0 ≡ Less) (λ f less. behind_later e.0 f.0 key less not_so) rest (all_second (λ f. name_cmp e.0 f.0 ≡ Less) es rest rises.0)
behind_reached key (e ∷ es) rest rises (inr later) = behind_reached key es rest rises.1 later

-- what comes after an entry that has the key comes after the key
pub behind_own : (key : List ℕ) (x : Entry) (xs : Entries) → Rises (x ∷ xs) → x.0 ≡ key → AreBehind key xs
behind_own key x xs rises is = all_more (λ f. name_cmp x.0 f.0 ≡ Less) (λ f. name_cmp key f.0 ≡ Less) (λ f less. subst (λ k. name_cmp k f.0 ≡ Less) is less) xs rises.0

-- if the first entry does not come before the key, and has another key, all entries come after the key
pub behind_other : (key : List ℕ) (x : Entry) (xs : Entries) → Rises (x ∷ xs) → is_before key x ≡ false → x.0 ≢ key → AreBehind key (x ∷ xs)
behind_other key x xs rises not_so apart =
    (behind_apart x.0 key not_so apart, all_more (λ f. name_cmp x.0 f.0 ≡ Less) (λ f. name_cmp key f.0 ≡ Less) (λ f less. behind_later x.0 f.0 key less not_so) xs rises.0)

pub rises_from : (at : ℕ) (es : Entries) → Rises es → Rises (drop at es)
rises_from zero es rises = rises
rises_from (suc at) [] rises = tt
rises_from (suc at) (e ∷ es) rises = rises_from at es rises.1
