-- Objects of which ledgers say something else: over an honest store what a ledger says of a name is of the object that stands whole.
use Rattle.std.proofs.Common.{◌≡◌, ◌<◌, inl, inr, ℕ, zero, suc, Bool, true, false, List, [], ◌∷◌, ◌++◌, Option, None, Some, is_some, length, map, refl, sym, ap, subst, ◌∙◌, arith}
use Rattle.std.specs.Prelude.{Contains, if◌then◌else◌, slice_index_or}
use Rattle.std.specs.List.{All}
use Rattle.std.specs.Option.{option_map, unwrap_or}
use Rattle.std.specs.FinMap.{contains_key, empty, get}
use Rattle.std.proofs.lemmas.List.Elements.{All-contains, All-map}
use Rattle.git_name.specs.Object.{Object, object_name}
use Rattle.object_table.specs.Clashes.{AreApart, AreAs, Clash}
use Rattle.object_table.specs.declared.entry.Entry.{Entry}
use Rattle.object_table.specs.declared.word.Word.{Word}
use Rattle.object_table.specs.Holders.{HoldingsState, is_held_in}
use Rattle.object_table.specs.Ledgers.{AllWords, ledger_at, word_at}
use Rattle.object_table.specs.Rows.{places_of}
use Rattle.object_table.specs.Told.{entry_of}
use Rattle.object_table.specs.Words.{Words, is_staged, is_visible}
use Rattle.object_table.proofs.HolderLemmas.{held_at, someone_has}
use Rattle.read_cache.specs.Stores.{StoreState}
use Rattle.loose_store.specs.Files.{Files}
use Rattle.loose_store.specs.Stored.{Whole}
use Rattle.fork_ledger.specs.AllStaged.{AllWhole, IsAsTold, MeetsAmong}
use Rattle.fork_ledger.specs.Private.{Awaits, Holds, Private, Sees, both_of}
use Rattle.fork_ledger.specs.Shown.{object_at, tenants_of}
use Rattle.fork_ledger.specs.Store.{IsStored, Meets, MeetsHeld}
use Rattle.fork_ledger.specs.Tenants.{VaultState, private_of}
use Rattle.fork_ledger.proofs.AdoptedStore.{held_both}
use Rattle.fork_ledger.proofs.ShownLemmas.{both_shown, kind_at, length_at, private_shown, seen_at, shown_at, staged_at}
use Rattle.fork_ledger.proofs.StoreLemmas.{one_whole}

-- what is told of an object's entry is told of the object
pub as_told : (m : AllWords) (object : Object) (entry : Entry) → entry ≡ entry_of object → AreAs m entry.name entry.kind entry.length → IsAsTold m object
as_told m object entry is told = subst (λ (e : Entry). AreAs m e.name e.kind e.length) is told

pub not_told : (m : AllWords) (object : Object) (entry : Entry) → entry ≡ entry_of object → (AreAs m entry.name entry.kind entry.length → ⊥) → IsAsTold m object → ⊥
not_told m object entry is refuses told = refuses (subst (λ (e : Entry). AreAs m e.name e.kind e.length) (sym is) told)

-- ---- words, and what tenants have
-- the object of a word that some ledger has is held
word_held : (files : Files) (m : AllWords) (t name : List ℕ) (word : Word) → word_at m t name ≡ Some word → Holds (private_of (tenants_of files m) t) name (object_at files name word)
word_held files m t name word says = held_both (private_of (tenants_of files m) t) name (object_at files name word)
    (ap (λ (own : Private). get (both_of own) name) (private_shown files m t) ∙ both_shown files (ledger_at m t) name ∙ ap (option_map (object_at files name)) says)

shown_is : (p : Word → Bool) (files : Files) (name : List ℕ) (o : Option Word) (other : Object) → shown_at p files name o ≡ Some other → (word : Word) × (o ≡ Some word) × (object_at files name word ≡ other)
shown_is p files name None other is = (let bad : ⊥ = cc in absurd bad)
shown_is p files name (Some word) other is = by (p word) is
  where
    by : (b : Bool) → (if b then Some (object_at files name word) else None) ≡ Some other → (it : Word) × (Some word ≡ Some it) × (object_at files name it ≡ other)
    by true one = (word, refl, ap (λ o. unwrap_or o other) one)
    by false one = (let bad : ⊥ = cc in absurd bad)

-- and what is held is the object of a word
held_word : (files : Files) (m : AllWords) (t name : List ℕ) (other : Object) → Holds (private_of (tenants_of files m) t) name other → (word : Word) × (word_at m t name ≡ Some word) × (object_at files name word ≡ other)
held_word files m t name other (Sees is) = shown_is is_visible files name (word_at m t name) other (sym (seen_at files m t name) ∙ is)
held_word files m t name other (Awaits is) = shown_is is_staged files name (word_at m t name) other (sym (staged_at files m t name) ∙ is)

-- ---- over any store
-- where some tenant has another, the ledgers say something else
pub held_refuses : (files : Files) (m : AllWords) (object : Object) → MeetsHeld object (tenants_of files m) → IsAsTold m object → ⊥
held_refuses files m object met told =
    let said = held_word files m met.0 (object_name object) met.1 met.2 in
    let is = told met.0 said.0 said.1 in
    let kinds : met.1.kind ≡ object.kind = ap (λ (o : Object). o.kind) (sym said.2) ∙ kind_at files (object_name object) said.0 ∙ is.kinds in
    let sizes : length met.1.bytes ≡ length object.bytes = ap (λ (o : Object). length o.bytes) (sym said.2) ∙ length_at files (object_name object) said.0 ∙ is.lengths in
    met.3 (λ i. (kinds i, sizes i))

-- ---- over an honest store
-- of a name of which ledgers say something else another object stands whole
pub clash_meets : (files : Files) (m : AllWords) (object : Object) → IsStored (tenants_of files m) files → (IsAsTold m object → ⊥) → Meets object files
clash_meets files m object stored clash = by (is_held_in m (object_name object)) refl
  where
    name : List ℕ
    name = object_name object

    at : (who : (t : List ℕ) × (own : Words) × (get m t ≡ Some own) × (contains_key own name ≡ true)) (o : Option Word) → get who.1 name ≡ o → Meets object files
    at who None is = (let wrong : false ≡ true = sym (ap is_some is) ∙ who.3 in let bad : ⊥ = cc in absurd bad)
    at who (Some word) is =
        (let says : word_at m who.0 name ≡ Some word = ap (λ o. get (unwrap_or o empty) name) who.2 ∙ is in
        let whole = stored who.0 name (object_at files name word) (word_held files m who.0 name word says) in (
          object_at files name word,
          whole,
          λ same. clash (λ t it tells.
              let one = one_whole files name (object_at files name it) (object_at files name word) (stored t name (object_at files name it) (word_held files m t name it tells)) whole ∙ same in
              record {
                kinds = sym (kind_at files name it) ∙ ap (λ (o : Object). o.kind) one;
                lengths = sym (length_at files name it) ∙ ap (λ (o : Object). length o.bytes) one;
              }),
        ))

    by : (b : Bool) → is_held_in m name ≡ b → Meets object files
    by false free = absurd (clash (λ t word says. (let wrong : true ≡ false = sym (held_at m t name (ap is_some says)) ∙ free in let bad : ⊥ = cc in absurd bad)))
    by true held = (let who = someone_has m name held in at who (get who.1 name) refl)

split_in : (xs : List Object) (x : Object) (k : ℕ) → k < length xs → slice_index_or xs k x ≡ x → (front : List Object) × (back : List Object) × (xs ≡ front ++ x ∷ back)
split_in [] x k inside is = absurd (omega (arith, inside))
split_in (y ∷ ys) x zero inside is = ([], ys, ap (λ z. z ∷ ys) is)
split_in (y ∷ ys) x (suc k) inside is = (let rest = split_in ys x k (omega (arith, inside)) is in (y ∷ rest.0, rest.1, ap (λ zs. y ∷ zs) rest.2))

-- the same of one of some objects
pub clash_among : (files : Files) (m : AllWords) (objects : List Object) → IsStored (tenants_of files m) files → (object : Object) × Contains objects object × (IsAsTold m object → ⊥) → MeetsAmong objects files
clash_among files m objects stored clash =
    let meets = clash_meets files m clash.0 stored clash.2 in
    let parts = split_in objects clash.0 clash.1.0 clash.1.1 clash.1.2 in
    record {
      front = parts.0;
      object = clash.0;
      back = parts.1;
      order = parts.2;
      other = meets.0;
      met = inl meets.1;
      named = meets.1.named;
      differ = meets.2;
    }

-- ---- objects of which the ledgers say the same
-- an entry is of an object that stands whole
abbrev pub IsOfWhole : Files → Entry → Type 0
IsOfWhole files entry = (object : Object) × (entry_of object ≡ entry) × Whole files entry.name object

-- and that all stand whole: no two are apart
pub no_clash : (files : Files) (m n : AllWords) (objects : List Object) → n ≡ m → AllWhole files objects → All (IsAsTold m) objects → Clash n (map entry_of objects) → ⊥
no_clash files m n objects still whole told clash = elim clash.met [ inl refuses ↦ refuses (subst (λ x. AreAs x clash.entry.name clash.entry.kind clash.entry.length) (sym still) here) | inr other ↦ by other ]
  where
    here : AreAs m clash.entry.name clash.entry.kind clash.entry.length
    here = All-contains (λ (e : Entry). AreAs m e.name e.kind e.length) (map entry_of objects) clash.entry (All-map (λ (e : Entry). AreAs m e.name e.kind e.length) entry_of objects told) clash.among

    each : All (IsOfWhole files) (map entry_of objects)
    each = All-map (IsOfWhole files) entry_of objects (λ k d inside. (slice_index_or objects k d, refl, whole k d inside))

    by : (other : Entry) × Contains (map entry_of objects) other × AreApart other clash.entry → ⊥
    by other =
        (let mine = All-contains (IsOfWhole files) (map entry_of objects) clash.entry each clash.among in
        let its = All-contains (IsOfWhole files) (map entry_of objects) other.0 each other.1 in
        let one = one_whole files clash.entry.name mine.0 its.0 mine.2 (subst (λ n. Whole files n its.0) (sym other.2.named) its.2) in
        let same = sym mine.1 ∙ ap entry_of one ∙ its.1 in
        other.2.apart (ap (λ (e : Entry). e.kind) same) (ap (λ (e : Entry). e.length) same))

-- ---- a vault
-- what a vault shows over a store and holdings
abbrev pub shown_over : StoreState → HoldingsState → VaultState
shown_over store holdings = record {
  tenants = tenants_of store.contents holdings.ledgers;
  files = store.contents;
  honest = store.honest;
  failures = store.failures;
  durability = store.durability;
  places = places_of holdings.catalogue;
}

-- both as they were
pub vault_still : (store store_now : StoreState) (holdings holdings_now : HoldingsState) → store_now ≡ store → holdings_now ≡ holdings → shown_over store_now holdings_now ≡ shown_over store holdings
vault_still store store_now holdings holdings_now same still = λ i. shown_over (same i) (still i)
