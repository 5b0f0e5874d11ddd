-- Entries in the order of their keys, in chunks one after another.
use Rattle.std.specs.Prelude.{◌≡◌, ◌<◌, ℕ, length, Bool, true, false, List, [], ◌∷◌, ◌++◌, ◌⊎◌, Option, None, Some, ⊤}
use Rattle.std.specs.Borrow.{Bor}
use Rattle.std.specs.List.{AllByRecursion}
use Rattle.std.specs.Ordering.{is_lt}
use Rattle.std.specs.declared.cmp.Ordering.TheVariants.{Less}
use Rattle.git_name.specs.Name.{name_cmp}

-- a key, and the name of an object
abbrev pub Entry : Type 0
Entry = List ℕ × List ℕ

abbrev pub Entries : Type 0
Entries = List Entry

-- the entries of all chunks, in turn
abbrev pub joined : List Entries → Entries
joined [] = []
joined (chunk ∷ chunks) = chunk ++ joined chunks

-- each key comes before those after it
abbrev pub Rises : Entries → Type 0
Rises [] = ⊤
Rises (e ∷ es) = AllByRecursion (λ f. name_cmp e.0 f.0 ≡ Less) es × Rises es

-- the entry's key comes before this one
abbrev pub is_before : List ℕ → Entry → Bool
is_before key e = is_lt (name_cmp e.0 key)

-- all keys come before this one
abbrev pub AreBefore : List ℕ → Entries → Type 0
AreBefore key es = AllByRecursion (λ e. is_before key e ≡ true) es

-- no key comes before this one
abbrev pub AreNotBefore : List ℕ → Entries → Type 0
AreNotBefore key es = AllByRecursion (λ e. is_before key e ≡ false) es

-- all keys come after this one
abbrev pub AreBehind : List ℕ → Entries → Type 0
AreBehind key es = AllByRecursion (λ e. name_cmp key e.0 ≡ Less) es

-- some key does not come before this one
abbrev pub Reaches : List ℕ → Entries → Type 0
Reaches key [] = ⊥
Reaches key (e ∷ es) = (is_before key e ≡ false) ⊎ Reaches key es

-- the entry of a key, if it has a value
abbrev pub kept : List ℕ → Option (List ℕ) → Entries
kept key None = []
kept key (Some value) = (key, value) ∷ []

-- the first chunk, if there is one, does not end before the key
abbrev pub IsReached : List ℕ → List Entries → Type 0
IsReached key [] = ⊤
IsReached key (chunk ∷ chunks) = Reaches key chunk

-- no chunk is empty
abbrev pub AreFull : List Entries → Type 0
AreFull chunks = AllByRecursion (λ chunk. 0 < length chunk) chunks

-- chunks that are in order, none of them empty, with this many entries
pub record AreChunks (chunks : List Entries) (count : ℕ) : Type 0 where
  pub order : Rises (joined chunks)
  pub full : AreFull chunks
  pub len : count ≡ length (joined chunks)

-- what a lent entry points to
abbrev pub lent : Bor (List ℕ) × Bor (List ℕ) → Entry
lent e = (e.0.now, e.1.now)
