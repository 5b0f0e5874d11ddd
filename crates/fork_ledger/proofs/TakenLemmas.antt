-- Names of which some tenant has an object are those of which some ledger has a word.
use Rattle.std.proofs.Common.{◌≡◌, ℕ, List, true, false, ◌||◌, Option, Some, None, cond, is_some, refl, sym, ap, ◌∙◌}
use Rattle.std.specs.Prelude.{nat_lt, if◌then◌else◌}
use Rattle.std.specs.Option.{option_map, unwrap_or}
use Rattle.std.specs.FinMap.{contains_key, empty, get, get-empty}
use Rattle.git_name.specs.Name.{name_cmp}
use Rattle.git_name.proofs.Names.{name_total, name_exact}
use Rattle.object_table.specs.Holders.{holders_of, is_held_in}
use Rattle.object_table.specs.Ledgers.{AllWords, ledger_at}
use Rattle.object_table.specs.Words.{Words, is_staged, is_visible, shows, waits}
use Rattle.object_table.specs.declared.word.Standing.{Standing}
use Rattle.object_table.specs.declared.word.Standing.TheVariants.{Visible, Staged, Both}
use Rattle.object_table.specs.declared.word.Word.{Word}
use Rattle.object_table.proofs.HolderLemmas.{held_by, someone_has}
use Rattle.object_table.proofs.SumLemmas.{same_sums, worth}
use Rattle.loose_store.specs.Files.{Files}
use Rattle.fork_ledger.specs.Private.{is_held_by}
use Rattle.fork_ledger.specs.Shown.{object_at, own_of, part, tenants_of}
use Rattle.fork_ledger.specs.Store.{IsHeldBySome}
use Rattle.fork_ledger.specs.Taken.{holders, is_taken}
use Rattle.fork_ledger.proofs.ShownLemmas.{get_part, get_tenant, private_shown, shown_at}

word_shown : (files : Files) (q : List ℕ) (word : Word) (s : Standing)
    → (is_some (if shows s then Some (object_at files q word) else None) || is_some (if waits s then Some (object_at files q word) else None)) ≡ true
word_shown files q word Visible = refl
word_shown files q word Staged = refl
word_shown files q word Both = refl

-- a tenant has an object just of the names that its ledger has a word of
pub held_shown : (files : Files) (words : Words) (q : List ℕ) → is_held_by (own_of files words) q ≡ contains_key words q
held_shown files words q =
    ap (λ o. is_some o || contains_key (part is_staged files words) q) (get_part is_visible files words q)
    ∙ ap (λ o. is_some (shown_at is_visible files q (get words q)) || is_some o) (get_part is_staged files words q) ∙ by (get words q)
  where
    by : (o : Option Word) → (is_some (shown_at is_visible files q o) || is_some (shown_at is_staged files q o)) ≡ is_some o
    by None = refl
    by (Some word) = word_shown files q word word.standing

holders_shown : (files : Files) (m : AllWords) (q : List ℕ) → holders (tenants_of files m) q ≡ holders_of m q
unfolding holders holders_of
holders_shown files m q = same_sums name_total name_exact (λ own. cond (is_held_by own q) 1 0) (λ words. cond (contains_key words q) 1 0) (tenants_of files m) m (λ t.
    ap (worth (λ own. cond (is_held_by own q) 1 0)) (get_tenant files m t) ∙ by (get m t))
  where
    by : (o : Option Words) → worth (λ own. cond (is_held_by own q) 1 0) (option_map (own_of files) o) ≡ worth (λ words. cond (contains_key words q) 1 0) o
    by None = refl
    by (Some words) = ap (λ b. cond b 1 0) (held_shown files words q)

pub taken_shown : (files : Files) (m : AllWords) (q : List ℕ) → is_taken (tenants_of files m) q ≡ is_held_in m q
taken_shown files m q = ap (nat_lt 0) (holders_shown files m q)

-- as one test
pub same_tests : (files : Files) (m : AllWords) → is_taken (tenants_of files m) ≡ is_held_in m
same_tests files m = λ i q. taken_shown files m q i

no_word : (q : List ℕ) → contains_key (empty {X = Word} {R = name_cmp}) q ≡ true → ⊥
no_word q is = (let differs : false ≡ true = sym (ap is_some (get-empty {X = Word} name_cmp q)) ∙ is in let bad : ⊥ = cc in bad)

-- a tenant that has an object of the name
pub taken_held : (files : Files) (m : AllWords) (name : List ℕ) → IsHeldBySome (tenants_of files m) name → is_held_in m name ≡ true
taken_held files m name taken = by (get m taken.0) refl (sym (held_shown files (ledger_at m taken.0) name) ∙ ap (λ own. is_held_by own name) (sym (private_shown files m taken.0)) ∙ taken.1)
  where
    by : (o : Option Words) → get m taken.0 ≡ o → contains_key (ledger_at m taken.0) name ≡ true → is_held_in m name ≡ true
    by None here has = absurd (no_word name (sym (ap (λ o. contains_key (unwrap_or o empty) name) here) ∙ has))
    by (Some words) here has = held_by m taken.0 words name here (sym (ap (λ o. contains_key (unwrap_or o empty) name) here) ∙ has)

pub held_taken : (files : Files) (m : AllWords) (name : List ℕ) → is_held_in m name ≡ true → IsHeldBySome (tenants_of files m) name
held_taken files m name held =
    let some = someone_has m name held in
    (some.0, ap (λ own. is_held_by own name) (private_shown files m some.0) ∙ held_shown files (ledger_at m some.0) name ∙ ap (λ o. contains_key (unwrap_or o empty) name) some.2 ∙ some.3)
