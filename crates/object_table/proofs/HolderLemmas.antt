-- Who holds a name, as ledgers change.
use Rattle.std.proofs.Common.{◌≡◌, ℕ, ◌+◌, ◌<◌, ◌≤◌, List, Bool, true, false, Option, Some, None, cond, is_some, refl, sym, ap, ◌∙◌, arith}
use Rattle.std.specs.Prelude.{count_by, Result, Ok, Err, OnOk, OnErr}
use Rattle.std.specs.Option.{unwrap_or}
use Rattle.std.specs.Ordering.{eq_by_cmp}
use Rattle.std.specs.Cmp.{eq_by_cmp_equiv}
use Rattle.std.specs.FinMap.{contains_key, empty, entries, get, get-empty, get-insert, insert, len, len-entries, len-insert, values}
use Rattle.std.proofs.lemmas.Bool.{lt-ltb, ltb-true}
use Rattle.std.proofs.lemmas.List.Sums.{count_by-le-length}
use Rattle.std.proofs.lemmas.Map.Entries.{length-values_of}
use Rattle.git_name.specs.declared.kind.Kind.{Kind}
use Rattle.git_name.specs.declared.kind.Kind.TheVariants.{Blob}
use Rattle.git_name.specs.Name.{name_cmp}
use Rattle.git_name.proofs.Names.{name_total, name_exact}
use Rattle.git_name.specs.Same.{same_name}
use Rattle.object_table.specs.Rows.{one_if}
use Rattle.object_table.proofs.PlaceLemmas.{one_name, own_name}
use Rattle.object_table.specs.declared.word.Word.{Word}
use Rattle.object_table.specs.Holders.{holders_of, is_held_in}
use Rattle.object_table.specs.Ledgers.{AllWords, at_ledger, ledger_at, with_ledger}
use Rattle.object_table.specs.Words.{Words, staged_over, staged_words}
use Rattle.object_table.proofs.ChosenLemmas.{one_key}
use Rattle.object_table.proofs.SumLemmas.{counts_some, sum_empty, sum_insert, worth, worth_within}
use Rattle.object_table.proofs.TenantEntries.{changed_at}

-- one, if a ledger has a word of the name
abbrev pub has : List ℕ → Words → ℕ
has q words = cond (contains_key words q) 1 0

-- ---- one ledger is set
pub holders_set : (m : AllWords) (t : List ℕ) (own after : Words) (q : List ℕ) → get m t ≡ Some own → holders_of (insert m t after) q + has q own ≡ holders_of m q + has q after
unfolding holders_of
holders_set m t own after q here = ap (λ o. count_by (λ words. contains_key words q) (values (insert m t after)) + worth (has q) o) (sym here) ∙ sum_insert name_total (has q) m t after

holders_new : (m : AllWords) (t : List ℕ) (after : Words) (q : List ℕ) → get m t ≡ None → holders_of (insert m t after) q ≡ holders_of m q + has q after
unfolding holders_of
holders_new m t after q none =
    let set = sum_insert name_total (has q) m t after in
    let nothing = ap (worth (has q)) none in
    omega (arith, set, nothing)

pub by_ledger : (G : Type 0) (o : Option Words) → (o ≡ None → G) → ((words : Words) → o ≡ Some words → G) → G
by_ledger G None f g = f refl
by_ledger G (Some words) f g = g words refl

-- ---- stage
same_bool : (b c : Bool) → (b ≡ true → c ≡ true) → (c ≡ true → b ≡ true) → b ≡ c
same_bool true c f g = sym (f refl)
same_bool false true f g = g refl
same_bool false false f g = refl

-- the two tests of names are one
pub same_tests : (q name : List ℕ) → eq_by_cmp name_cmp q name ≡ same_name name q
same_tests q name = same_bool _ _
    (λ e. ap (same_name name) (one_key {R = name_cmp} name_exact q name e) ∙ own_name name)
    (λ e. ap (λ x. eq_by_cmp name_cmp q x) (one_name name q e) ∙ (eq_by_cmp_equiv name_total).refl q)

set_there : (words : Words) (name : List ℕ) (word : Word) (q : List ℕ) → contains_key (insert words name word) q ≡ cond (same_name name q) true (contains_key words q)
set_there words name word q = ap is_some (get-insert name_total words name word q) ∙ ap (λ b. is_some (cond b (Some word) (get words q))) (same_tests q name) ∙ by (same_name name q)
  where
    by : (b : Bool) → is_some (cond b (Some word) (get words q)) ≡ cond b true (is_some (get words q))
    by true = refl
    by false = refl

-- a word is set where there is one of its name
pub set_again : (words : Words) (name : List ℕ) (word : Word) (q : List ℕ) → contains_key words name ≡ true → contains_key (insert words name word) q ≡ contains_key words q
set_again words name word q there = set_there words name word q ∙ by (same_name name q) refl
  where
    by : (b : Bool) → same_name name q ≡ b → cond b true (contains_key words q) ≡ contains_key words q
    by true e = sym (ap (contains_key words) (sym (one_name name q e)) ∙ there)
    by false e = refl

-- and where there is none
pub set_fresh : (words : Words) (name : List ℕ) (word : Word) (q : List ℕ) → contains_key words name ≡ false → one_if (contains_key (insert words name word) q) ≡ one_if (contains_key words q) + one_if (same_name name q)
set_fresh words name word q lacks = ap one_if (set_there words name word q) ∙ by (same_name name q) refl
  where
    nothing_more : (i : ℕ) → i + 0 ≡ i
    nothing_more i = omega arith

    by : (b : Bool) → same_name name q ≡ b → one_if (cond b true (contains_key words q)) ≡ one_if (contains_key words q) + one_if b
    by true e = ap (λ c. one_if c + 1) (sym (ap (contains_key words) (sym (one_name name q e)) ∙ lacks))
    by false e = sym (nothing_more (one_if (contains_key words q)))

-- a new one
pub staged_fresh : (m : AllWords) (t : List ℕ) (own : Words) (name : List ℕ) (kind : Kind) (n : ℕ) (q : List ℕ) → get m t ≡ Some own → contains_key own name ≡ false
    → holders_of (at_ledger m t (staged_words name kind n)) q ≡ holders_of m q + one_if (same_name name q)
staged_fresh m t own name kind n q here lacks =
    let set = holders_set m t own (staged_words name kind n own) q here in
    let at = ap (λ x. holders_of x q) (changed_at m t own (staged_words name kind n) here) in
    let more = set_fresh own name (staged_over kind n (get own name)) q lacks in
    omega (arith, set, at, more)

-- there are no more holders than tenants
pub few_holders : (m : AllWords) (q : List ℕ) → holders_of m q ≤ len m
unfolding holders_of
few_holders m q =
    let few = count_by-le-length (λ words. contains_key words q) (values m) in
    let many = length-values_of (entries m) in
    let all = len-entries m in
    omega (arith, few, many, all)

pub raise_fits : (m after : AllWords) (t : List ℕ) (own : Words) (name : List ℕ) (kind : Kind) (n : ℕ) → get m t ≡ Some own → contains_key own name ≡ false → after ≡ at_ledger m t (staged_words name kind n)
    → holders_of m name + 1 ≤ len after
raise_fits m after t own name kind n here lacks is =
    let more = ap (λ x. holders_of x name) is ∙ staged_fresh m t own name kind n name here lacks ∙ ap (λ b. holders_of m name + one_if b) (own_name name) in
    let few = few_holders after name in
    omega (arith, more, few)

-- ---- add
no_words : (q : List ℕ) → has q empty ≡ 0
no_words q = ap (λ (o : Option Word). one_if (is_some o)) (get-empty name_cmp q)

pub no_holders : (q : List ℕ) → holders_of empty q ≡ 0
unfolding holders_of
no_holders q = sum_empty name_cmp (has q)

pub added_holders : (m : AllWords) (t q : List ℕ) → holders_of (with_ledger m t) q ≡ holders_of m q
added_holders m t q = by_ledger _ (get m t)
    (λ none. ap (λ o. holders_of (cond (is_some o) m (insert m t empty)) q) none ∙ fresh none)
    (λ own here. ap (λ o. holders_of (cond (is_some o) m (insert m t empty)) q) here)
  where
    fresh : get m t ≡ None → holders_of (insert m t empty) q ≡ holders_of m q
    fresh none =
        let set = holders_new m t empty q none in
        let nothing = no_words q in
        omega (arith, set, nothing)

-- ---- whether anyone holds a name
one_of : (b : Bool) → 0 < cond b 1 0 → b ≡ true
one_of true h = refl
one_of false h = absurd (omega (arith, h))

none_of_one : (b : Bool) → cond b 1 0 ≤ 0 → b ≡ false
none_of_one true h = absurd (omega (arith, h))
none_of_one false h = refl

pub nobody_has : (m : AllWords) (q : List ℕ) → holders_of m q ≡ 0 → (t : List ℕ) (own : Words) → get m t ≡ Some own → contains_key own q ≡ false
unfolding holders_of
nobody_has m q none t own here =
    let within = worth_within (has q) m t in
    let here_is = ap (worth (has q)) here in
    none_of_one (contains_key own q) (omega (arith, within, here_is, none))

pub someone_has : (m : AllWords) (q : List ℕ) → is_held_in m q ≡ true → (t : List ℕ) × (own : Words) × (get m t ≡ Some own) × (contains_key own q ≡ true)
unfolding holders_of
someone_has m q held = (let some = counts_some name_total (has q) m (ltb-true 0 (holders_of m q) held) in (some.0, some.1, some.2, one_of (contains_key some.1 q) some.3))

-- who has a word of the name holds it
pub held_by : (m : AllWords) (t : List ℕ) (own : Words) (q : List ℕ) → get m t ≡ Some own → contains_key own q ≡ true → is_held_in m q ≡ true
unfolding holders_of
held_by m t own q here there =
    let within = worth_within (has q) m t in
    let one = ap (worth (has q)) here ∙ ap (λ b. cond b 1 0) there in
    lt-ltb 0 (holders_of m q) (omega (arith, within, one))

-- a name of which some ledger has a word is held
pub held_at : (m : AllWords) (t q : List ℕ) → is_some (get (ledger_at m t) q) ≡ true → is_held_in m q ≡ true
held_at m t q there = by_ledger _ (get m t)
    (λ none. let bad : ⊥ = cc (sym (ap (λ o. is_some (get (unwrap_or o empty) q)) none ∙ ap is_some (get-empty {X = Word} name_cmp q)) ∙ there) in absurd bad)
    (λ own here. held_by m t own q here (sym (ap (λ o. is_some (get (unwrap_or o empty) q)) here) ∙ there))

-- ---- one ledger changes, or none does
-- a name that a tenant lacks has fewer holders than there are tenants
pub few_others : (m : AllWords) (t : List ℕ) (own : Words) (q : List ℕ) → get m t ≡ Some own → contains_key own q ≡ false → holders_of m q + 1 ≤ len m
few_others m t own q here lacks =
    let fits = raise_fits m (at_ledger m t (staged_words q Blob 0)) t own q Blob 0 here lacks refl in
    let size = ap len (changed_at m t own (staged_words q Blob 0) here) ∙ len-insert name_total m t (staged_words q Blob 0 own) ∙ ap (λ o. cond (is_some o) (len m) (len m + 1)) here in
    omega (arith, fits, size)

set_ledger : (m : AllWords) (t : List ℕ) (after : Words) → ledger_at (insert m t after) t ≡ after
set_ledger m t after = ap (λ o. unwrap_or o empty) (get-insert name_total m t after t ∙ ap (λ b. cond b (Some after) (get m t)) ((eq_by_cmp_equiv name_total).refl t))

pub counted_still : {A E : Type 0} (m new : AllWords) (t : List ℕ) (own : Words) (f : Words → Words) (q : List ℕ) (r : Result A E) → get m t ≡ Some own → OnOk r (new ≡ at_ledger m t f) → OnErr r (new ≡ m)
    → holders_of new q + one_if (contains_key (ledger_at m t) q) ≡ holders_of m q + one_if (contains_key (ledger_at new t) q)
counted_still m new t own f q (Ok a) here ok err =
    let is = ok ∙ changed_at m t own f here in
    let set = holders_set m t own (f own) q here in
    let now = ap (λ x. holders_of x q) is in
    let before = ap (λ o. one_if (contains_key (unwrap_or o empty) q)) here in
    let after = ap (λ x. one_if (contains_key (ledger_at x t) q)) is ∙ ap (λ words. one_if (contains_key words q)) (set_ledger m t (f own)) in
    omega (arith, set, now, before, after)
counted_still m new t own f q (Err e) here ok err =
    let now = ap (λ x. holders_of x q) err in
    let after = ap (λ x. one_if (contains_key (ledger_at x t) q)) err in
    omega (arith, now, after)
