-- What a vault tells of a tenant's objects, by its ledger.
use Rattle.std.proofs.Common.{◌≡◌, ◌≢◌, ◌+◌, ℕ, List, [], ◌∷◌, Bool, true, false, Option, Some, None, Result, Ok, Err, is_some, length, refl, sym, ap, ◌∙◌}
use Rattle.std.specs.Prelude.{IfErr, if◌then◌else◌}
use Rattle.std.specs.List.{cons_option}
use Rattle.std.specs.Map.{keys_of}
use Rattle.std.specs.Option.{option_map, option_map_or}
use Rattle.std.specs.FinMap.{FinMap, contains_key, entries, get, keys, len, len-entries}
use Rattle.std.proofs.lemmas.List.{length-map}
use Rattle.git_name.specs.Name.{name_cmp}
use Rattle.git_name.specs.Object.{Object}
use Rattle.git_name.proofs.Names.{name_total, name_exact}
use Rattle.fork_reach.specs.Objects.{use_of, use_of_object}
use Rattle.fork_reach.specs.declared.usage.TheConstants.{OBJECT_USE}
use Rattle.object_table.specs.Chosen.{chosen_in}
use Rattle.object_table.specs.Ledgers.{AllWords, ledger_at, word_at}
use Rattle.object_table.specs.Totals.{seen_use, total_of, use_of_word, used_by}
use Rattle.object_table.specs.Words.{Words, is_staged, is_visible, kept_as, words_that}
use Rattle.object_table.specs.declared.word.Word.{Word}
use Rattle.object_table.proofs.ChosenLemmas.{entries_chosen}
use Rattle.object_table.proofs.SumLemmas.{same_sums, worth}
use Rattle.loose_store.specs.Files.{Files}
use Rattle.loose_store.specs.Stored.{Whole}
use Rattle.fork_ledger.specs.declared.fault.VaultFault.{VaultFault}
use Rattle.fork_ledger.specs.declared.fault.VaultFault.TheVariants.{Damaged}
use Rattle.fork_ledger.specs.Private.{Awaits, Sees, both_of, held_in, held_of}
use Rattle.fork_ledger.specs.Shown.{object_at, own_of, part, tenants_of}
use Rattle.fork_ledger.specs.Store.{IsStored}
use Rattle.fork_ledger.specs.Tenants.{private_of}
use Rattle.fork_ledger.specs.Words.{held_of_word}
use Rattle.fork_ledger.proofs.ShownLemmas.{both_shown, get_part, kind_at, length_at, private_shown, seen_at, shown_at, staged_at}
use Rattle.fork_ledger.proofs.StoreLemmas.{one_whole}

-- ---- get
pub shown_there : (p : Word → Bool) (files : Files) (q : List ℕ) (o : Option Word) → is_some (shown_at p files q o) ≡ option_map_or p o false
shown_there p files q None = refl
shown_there p files q (Some word) = by (p word)
  where
    by : (b : Bool) → is_some (if b then Some (object_at files q word) else None) ≡ b
    by true = refl
    by false = refl

none_shown : (o : Option Object) → is_some o ≡ false → None ≡ o
none_shown None is = refl
none_shown (Some object) is = (let differs : ⊥ = cc in absurd differs)

some_shown : (o : Option Object) → is_some o ≡ true → (object : Object) × (o ≡ Some object)
some_shown None is = (let differs : ⊥ = cc in absurd differs)
some_shown (Some object) is = (object, refl)

-- what no word shows is not seen
pub unseen : (files : Files) (m : AllWords) (t name : List ℕ) → option_map_or is_visible (word_at m t name) false ≡ false → None ≡ get (private_of (tenants_of files m) t).visible name
unseen files m t name hidden = none_shown (shown_at is_visible files name (word_at m t name)) (shown_there is_visible files name (word_at m t name) ∙ hidden) ∙ sym (seen_at files m t name)

pub unstaged : (files : Files) (m : AllWords) (t name : List ℕ) → option_map_or is_staged (word_at m t name) false ≡ false → None ≡ get (private_of (tenants_of files m) t).staged name
unstaged files m t name hidden = none_shown (shown_at is_staged files name (word_at m t name)) (shown_there is_staged files name (word_at m t name) ∙ hidden) ∙ sym (staged_at files m t name)

pub seen_there : (files : Files) (m : AllWords) (t name : List ℕ) → contains_key (private_of (tenants_of files m) t).visible name ≡ option_map_or is_visible (word_at m t name) false
seen_there files m t name = ap is_some (seen_at files m t name) ∙ shown_there is_visible files name (word_at m t name)

pub staged_there : (files : Files) (m : AllWords) (t name : List ℕ) → contains_key (private_of (tenants_of files m) t).staged name ≡ option_map_or is_staged (word_at m t name) false
staged_there files m t name = ap is_some (staged_at files m t name) ∙ shown_there is_staged files name (word_at m t name)

-- what is seen stands whole
pub seen_whole : (files : Files) (m : AllWords) (t name : List ℕ) → IsStored (tenants_of files m) files → option_map_or is_visible (word_at m t name) false ≡ true
    → (object : Object) × (get (private_of (tenants_of files m) t).visible name ≡ Some object) × Whole files name object
seen_whole files m t name stored shown = (let some = some_shown _ (seen_there files m t name ∙ shown) in (some.0, some.1, stored t name some.0 (Sees some.1)))

pub staged_whole : (files : Files) (m : AllWords) (t name : List ℕ) → IsStored (tenants_of files m) files → option_map_or is_staged (word_at m t name) false ≡ true
    → (object : Object) × (get (private_of (tenants_of files m) t).staged name ≡ Some object) × Whole files name object
staged_whole files m t name stored shown = (let some = some_shown _ (staged_there files m t name ∙ shown) in (some.0, some.1, stored t name some.0 (Awaits some.1)))

-- and is what a read finds
pub read_is : (files : Files) (name : List ℕ) (shown found : Option Object) → (object : Object) × (shown ≡ Some object) × Whole files name object → (object : Object) × (found ≡ Some object) × Whole files name object → found ≡ shown
read_is files name shown found stands read = read.1 ∙ ap Some (one_whole files name read.0 stands.0 read.2 stands.2) ∙ sym stands.1

-- where the file is whole no read finds it damaged
pub undamaged_whole : {A : Type 0} (r : Result A VaultFault) (files : Files) (name : List ℕ) (object : Object) → Whole files name object → IfErr r (λ fault. fault ≡ Damaged → (other : Object) → Whole files name other → ⊥)
    → IfErr r (λ fault. fault ≢ Damaged)
undamaged_whole (Ok a) files name object whole damaged = tt
undamaged_whole (Err fault) files name object whole damaged = λ is. damaged is object whole

-- ---- kind_of
word_known : (files : Files) (name : List ℕ) (word : Word) → held_of (object_at files name word) (is_visible word) (is_staged word) ≡ held_of_word word
word_known files name word = λ i. record { kind = kind_at files name word i; length = length_at files name word i; visible = is_visible word; staged = is_staged word }

pub known_shown : (files : Files) (m : AllWords) (t name : List ℕ) → held_in (private_of (tenants_of files m) t) name ≡ option_map held_of_word (word_at m t name)
known_shown files m t name =
    ap (λ own. held_in own name) (private_shown files m t)
    ∙ ap (option_map (λ object. held_of object (contains_key (own_of files (ledger_at m t)).visible name) (contains_key (own_of files (ledger_at m t)).staged name))) (both_shown files (ledger_at m t) name)
    ∙ ap (λ b. option_map (λ object. held_of object b (contains_key (own_of files (ledger_at m t)).staged name)) (option_map (object_at files name) (word_at m t name)))
    (ap is_some (get_part is_visible files (ledger_at m t) name) ∙ shown_there is_visible files name (word_at m t name))
    ∙ ap (λ b. option_map (λ object. held_of object (option_map_or is_visible (word_at m t name) false) b) (option_map (object_at files name) (word_at m t name)))
    (ap is_some (get_part is_staged files (ledger_at m t) name) ∙ shown_there is_staged files name (word_at m t name))
    ∙ by (word_at m t name)
  where
    by : (o : Option Word) → option_map (λ object. held_of object (option_map_or is_visible o false) (option_map_or is_staged o false)) (option_map (object_at files name) o) ≡ option_map held_of_word o
    by None = refl
    by (Some word) = ap Some (word_known files name word)

-- ---- names
same_keys : (f : List ℕ → Word → Option Word) (g : List ℕ → Word → Option Object) → ((k : List ℕ) (word : Word) → is_some (f k word) ≡ is_some (g k word)) → (es : List (List ℕ × Word)) → keys_of (chosen_in f es) ≡ keys_of (chosen_in g es)
same_keys f g same [] = refl
same_keys f g same (e ∷ es) = by (f e.0 e.1) (g e.0 e.1) (same e.0 e.1) (same_keys f g same es)
  where
    by : (o : Option Word) (p : Option Object) → is_some o ≡ is_some p → keys_of (chosen_in f es) ≡ keys_of (chosen_in g es)
        → keys_of (cons_option (option_map (λ y. (e.0, y)) o) (chosen_in f es)) ≡ keys_of (cons_option (option_map (λ y. (e.0, y)) p) (chosen_in g es))
    by None None is rest = rest
    by None (Some y) is rest = (let differs : ⊥ = cc in absurd differs)
    by (Some x) None is rest = (let differs : ⊥ = cc in absurd differs)
    by (Some x) (Some y) is rest = ap (λ ks. e.0 ∷ ks) rest

pub names_shown : (files : Files) (words : Words) → keys (words_that is_visible words) ≡ keys (part is_visible files words)
unfolding part
names_shown files words =
    ap keys_of (entries_chosen name_total (λ _ word. kept_as (is_visible word) word) words)
    ∙ same_keys (λ _ word. kept_as (is_visible word) word) (λ name word. if is_visible word then Some (object_at files name word) else None) (λ k word. by k word (is_visible word)) (entries words)
    ∙ sym (ap keys_of (entries_chosen name_total (λ name word. if is_visible word then Some (object_at files name word) else None) words))
  where
    by : (k : List ℕ) (word : Word) (b : Bool) → is_some (kept_as b word) ≡ is_some (if b then Some (object_at files k word) else None)
    by k word true = refl
    by k word false = refl

-- and as many objects as names
len_keys : {X : Type 0} (m : FinMap name_cmp X) → len m ≡ length (keys m)
len_keys m = len-entries m ∙ sym (length-map (entries m) (λ entry. entry.0))

pub count_shown : (files : Files) (words : Words) → len (words_that is_visible words) ≡ len (part is_visible files words)
count_shown files words = len_keys (words_that is_visible words) ∙ ap (λ (ks : List (List ℕ)). length ks) (names_shown files words) ∙ sym (len_keys (part is_visible files words))

-- ---- use
pub use_at : (files : Files) (name : List ℕ) (word : Word) → use_of_object (object_at files name word) ≡ use_of_word word
use_at files name word = ap (λ n. n + OBJECT_USE) (length_at files name word)

pub used_shown : (files : Files) (words : Words) → used_by words ≡ use_of (part is_visible files words)
unfolding used_by use_of
used_shown files words = same_sums name_total name_exact seen_use use_of_object words (part is_visible files words) (λ q. by q (get words q) ∙ ap (worth use_of_object) (sym (get_part is_visible files words q)))
  where
    by : (q : List ℕ) (o : Option Word) → worth seen_use o ≡ worth use_of_object (shown_at is_visible files q o)
    by q None = refl
    by q (Some word) = at (is_visible word)
      where
        at : (b : Bool) → (if b then use_of_word word else 0) ≡ worth use_of_object (if b then Some (object_at files q word) else None)
        at true = sym (use_at files q word)
        at false = refl

pub total_shown : (files : Files) (words : Words) → total_of words ≡ use_of (both_of (own_of files words))
unfolding total_of use_of
total_shown files words = same_sums name_total name_exact use_of_word use_of_object words (both_of (own_of files words)) (λ q. by q (get words q) ∙ ap (worth use_of_object) (sym (both_shown files words q)))
  where
    by : (q : List ℕ) (o : Option Word) → worth use_of_word o ≡ worth use_of_object (option_map (object_at files q) o)
    by q None = refl
    by q (Some word) = sym (use_at files q word)
