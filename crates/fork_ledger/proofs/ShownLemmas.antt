-- What ledgers show over files, tenant by tenant and name by name.
use Rattle.std.proofs.Common.{◌≡◌, ℕ, List, [], ◌∷◌, ◌++◌, Bool, true, false, Option, Some, None, cond, drop, is_some, length, refl, sym, ap, take, ◌∙◌, arith, length-append, length-take}
use Rattle.std.specs.Prelude.{replicate, if◌then◌else◌}
use Rattle.std.specs.Option.{option_and_then, option_map, option_or, unwrap_or}
use Rattle.std.specs.FinMap.{contains_key, empty, get, get-empty, insert, same_map}
use Rattle.std.proofs.lemmas.List.{length-replicate}
use Rattle.git_name.specs.declared.kind.Kind.{Kind}
use Rattle.git_name.specs.Name.{name_cmp}
use Rattle.git_name.specs.Object.{Object, header, typed_bytes}
use Rattle.git_name.proofs.MapLemmas.{get_joined, get_map_values, map_values_insert}
use Rattle.git_name.proofs.Names.{name_total, name_exact}
use Rattle.fork_reach.specs.Source.{Objects}
use Rattle.object_table.specs.Ledgers.{AllWords, at_ledger, ledger_at, with_ledger, word_at}
use Rattle.object_table.specs.Words.{Words, is_staged, is_visible, shows, waits, with_standing}
use Rattle.object_table.specs.declared.word.Standing.{Standing}
use Rattle.object_table.specs.declared.word.Standing.TheVariants.{Visible, Staged, Both}
use Rattle.object_table.specs.declared.word.Word.{Word}
use Rattle.object_table.proofs.ChosenLemmas.{get_chosen}
use Rattle.loose_store.specs.Files.{Files}
use Rattle.loose_store.specs.Stored.{Whole}
use Rattle.fork_ledger.specs.Private.{Private, both_of, nothing}
use Rattle.fork_ledger.specs.Shown.{object_at, own_of, part, resized, tenants_of}
use Rattle.fork_ledger.specs.Tenants.{at_tenant, private_of, with_tenant}

-- ---- one object
pub same_object : (o p : Object) → o.kind ≡ p.kind → o.bytes ≡ p.bytes → o ≡ p
same_object o p kind bytes = ap (λ (x : Kind). record { kind = x; bytes = o.bytes }) kind ∙ ap (λ (x : List ℕ). record { kind = p.kind; bytes = x }) bytes

taken : (xs ys : List ℕ) → take (length xs) (xs ++ ys) ≡ xs
taken [] ys = refl
taken (x ∷ xs) ys = ap (λ zs. x ∷ zs) (taken xs ys)

dropped : (xs ys : List ℕ) → drop (length xs) (xs ++ ys) ≡ ys
dropped [] ys = refl
dropped (x ∷ xs) ys = dropped xs ys

content_of : (object : Object) (kind : Kind) (len : ℕ) → object.kind ≡ kind → length object.bytes ≡ len → drop (length (header kind len)) (typed_bytes object) ≡ object.bytes
content_of object kind len is long =
    ap (λ k. drop (length (header k len)) (typed_bytes object)) (sym is) ∙ ap (λ n. drop (length (header object.kind n)) (typed_bytes object)) (sym long)
    ∙ dropped (header object.kind (length object.bytes)) object.bytes

-- the object that a whole file has
pub object_of_whole : (files : Files) (name : List ℕ) (word : Word) (object : Object) → Whole files name object → object.kind ≡ word.kind → length object.bytes ≡ word.length → object_at files name word ≡ object
unfolding object_at
object_of_whole files name word object whole kind long =
    same_object _ object (sym kind)
    (ap (λ o. resized word.length (drop (length (header word.kind word.length)) (unwrap_or o []))) whole.file
    ∙ ap (resized word.length) (content_of object word.kind word.length kind long) ∙ ap (λ n. resized n object.bytes) (sym long) ∙ taken object.bytes (replicate (length object.bytes) 0))

-- how an object stands makes no other of it
pub alike : (files : Files) (name : List ℕ) (word : Word) (standing : Standing) → object_at files name (with_standing word standing) ≡ object_at files name word
unfolding object_at
alike files name word standing = refl

-- files that agree under its name show the same object
pub same_at : (old new : Files) (name : List ℕ) (word : Word) → get new name ≡ get old name → object_at new name word ≡ object_at old name word
unfolding object_at
same_at old new name word same = same_object _ _ refl (ap (λ o. resized word.length (drop (length (header word.kind word.length)) (unwrap_or o []))) same)

-- its kind and its length are the word's, whatever the files are
pub kind_at : (files : Files) (name : List ℕ) (word : Word) → (object_at files name word).kind ≡ word.kind
unfolding object_at
kind_at files name word = refl

pub length_at : (files : Files) (name : List ℕ) (word : Word) → length (object_at files name word).bytes ≡ word.length
unfolding object_at
length_at files name word = resized_to word.length (drop (length (header word.kind word.length)) (unwrap_or (get files name) []))
  where
    resized_to : (n : ℕ) (bytes : List ℕ) → length (resized n bytes) ≡ n
    resized_to n bytes = omega (arith, length-take n (bytes ++ replicate n 0), length-append bytes (replicate n 0), length-replicate {A = ℕ} n 0)

-- ---- one tenant, at a name
-- the object of a word that passes
abbrev pub shown_at : (Word → Bool) → Files → List ℕ → Option Word → Option Object
shown_at p files name o = option_and_then (λ word. if p word then Some (object_at files name word) else None) o

pub get_part : (p : Word → Bool) (files : Files) (words : Words) (q : List ℕ) → get (part p files words) q ≡ shown_at p files q (get words q)
unfolding part
get_part p files words q = get_chosen name_total name_exact (λ name word. if p word then Some (object_at files name word) else None) words q

either_shown : (files : Files) (q : List ℕ) (word : Word) (s : Standing)
    → option_or (if shows s then Some (object_at files q word) else None) (if waits s then Some (object_at files q word) else None) ≡ Some (object_at files q word)
either_shown files q word Visible = refl
either_shown files q word Staged = refl
either_shown files q word Both = refl

-- both sides have the object of each word
pub both_shown : (files : Files) (words : Words) (q : List ℕ) → get (both_of (own_of files words)) q ≡ option_map (object_at files q) (get words q)
both_shown files words q =
    get_joined name_total (part is_visible files words) (part is_staged files words) q
    ∙ ap (λ o. option_or o (get (part is_staged files words) q)) (get_part is_visible files words q)
    ∙ ap (option_or (shown_at is_visible files q (get words q))) (get_part is_staged files words q) ∙ by (get words q)
  where
    by : (o : Option Word) → option_or (shown_at is_visible files q o) (shown_at is_staged files q o) ≡ option_map (object_at files q) o
    by None = refl
    by (Some word) = either_shown files q word word.standing

pub same_private : (a b : Private) → a.visible ≡ b.visible → a.staged ≡ b.staged → a ≡ b
same_private a b seen waits = ap (λ (x : Objects). record { visible = x; staged = a.staged }) seen ∙ ap (λ (x : Objects). record { visible = b.visible; staged = x }) waits

part_empty : (p : Word → Bool) (files : Files) → part p files empty ≡ empty
part_empty p files = same_map name_total name_exact _ _ (λ q.
    get_part p files empty q ∙ ap (shown_at p files q) (get-empty name_cmp q) ∙ sym (get-empty name_cmp q))

-- no words show nothing
pub own_empty : (files : Files) → own_of files empty ≡ nothing
own_empty files = same_private _ _ (part_empty is_visible files) (part_empty is_staged files)

-- ---- all tenants
pub get_tenant : (files : Files) (m : AllWords) (t : List ℕ) → get (tenants_of files m) t ≡ option_map (own_of files) (get m t)
get_tenant files m t = get_map_values name_total (own_of files) m t

pub private_shown : (files : Files) (m : AllWords) (t : List ℕ) → private_of (tenants_of files m) t ≡ own_of files (ledger_at m t)
private_shown files m t = ap (λ o. unwrap_or o nothing) (get_tenant files m t) ∙ by (get m t)
  where
    by : (o : Option Words) → unwrap_or (option_map (own_of files) o) nothing ≡ own_of files (unwrap_or o empty)
    by None = sym (own_empty files)
    by (Some words) = refl

pub there_shown : (files : Files) (m : AllWords) (t : List ℕ) → contains_key (tenants_of files m) t ≡ contains_key m t
there_shown files m t = ap is_some (get_tenant files m t) ∙ by (get m t)
  where
    by : (o : Option Words) → is_some (option_map (own_of files) o) ≡ is_some o
    by None = refl
    by (Some words) = refl

-- one tenant's ledger changes, and no file
pub changed_here : (files : Files) (m : AllWords) (t : List ℕ) (f : Words → Words) (change : Private → Private) → own_of files (f (ledger_at m t)) ≡ change (own_of files (ledger_at m t))
    → tenants_of files (at_ledger m t f) ≡ at_tenant (tenants_of files m) t change
changed_here files m t f change own =
    by (contains_key m t) ∙ ap (λ b. cond b (insert (tenants_of files m) t (change (private_of (tenants_of files m) t))) (tenants_of files m)) (sym (there_shown files m t))
  where
    by : (b : Bool) → tenants_of files (cond b (insert m t (f (ledger_at m t))) m) ≡ cond b (insert (tenants_of files m) t (change (private_of (tenants_of files m) t))) (tenants_of files m)
    by true =
        map_values_insert name_total name_exact (own_of files) m t (f (ledger_at m t))
        ∙ ap (insert (tenants_of files m) t) (own ∙ ap change (sym (private_shown files m t)))
    by false = refl

-- the same of a change that is known of any words
pub changed_shown : (files : Files) (m : AllWords) (t : List ℕ) (f : Words → Words) (change : Private → Private) → ((words : Words) → own_of files (f words) ≡ change (own_of files words))
    → tenants_of files (at_ledger m t f) ≡ at_tenant (tenants_of files m) t change
changed_shown files m t f change own = changed_here files m t f change (own (ledger_at m t))

-- a tenant is added
pub added_shown : (files : Files) (m : AllWords) (t : List ℕ) → tenants_of files (with_ledger m t) ≡ with_tenant (tenants_of files m) t
added_shown files m t = by (contains_key m t) ∙ ap (λ b. cond b (tenants_of files m) (insert (tenants_of files m) t nothing)) (sym (there_shown files m t))
  where
    by : (b : Bool) → tenants_of files (cond b m (insert m t empty)) ≡ cond b (tenants_of files m) (insert (tenants_of files m) t nothing)
    by true = refl
    by false = map_values_insert name_total name_exact (own_of files) m t empty ∙ ap (insert (tenants_of files m) t) (own_empty files)

-- ---- what callers ask for
pub seen_at : (files : Files) (m : AllWords) (t name : List ℕ) → get (private_of (tenants_of files m) t).visible name ≡ shown_at is_visible files name (word_at m t name)
seen_at files m t name = ap (λ own. get own.visible name) (private_shown files m t) ∙ get_part is_visible files (ledger_at m t) name

pub staged_at : (files : Files) (m : AllWords) (t name : List ℕ) → get (private_of (tenants_of files m) t).staged name ≡ shown_at is_staged files name (word_at m t name)
staged_at files m t name = ap (λ own. get own.staged name) (private_shown files m t) ∙ get_part is_staged files (ledger_at m t) name
