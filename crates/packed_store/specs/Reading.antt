-- A whole record at the front of bytes (own): what it is, and what reading it tells.
use Rattle.std.specs.Prelude.{◌≡◌, ◌≢◌, ◌+◌, ◌<◌, ◌≤◌, ℕ, List, ◌++◌, Option, Some, None, cond, drop, length, nat_eq, take}
use Rattle.sha2.specs.Sha256.{sha256}
use Rattle.git_name.specs.Name.{IsName}
use Rattle.packed_store.specs.declared.place.TheConstants.{MAX_FILE, SHORT}
use Rattle.packed_store.specs.Entry.{Entry, File, IsEntry, Object, Removal, Settled, Short, Undone, before_own, kind_and_length, spelled}
use Rattle.packed_store.specs.declared.reading.Word.{Word}
use Rattle.packed_store.specs.declared.reading.Word.TheVariants as word

-- the kind, the length and the name that begin a record
abbrev pub title_bytes : ℕ → ℕ → List ℕ → List ℕ
title_bytes kind len name = kind_and_length kind len ++ name

-- a kind and a length that a title can have: no file is longer, and two bytes hold no more than a short length
pub record CanSay (kind len : ℕ) : Type 0 where
  pub kinds : kind ≤ 128
  pub fits : len ≤ MAX_FILE
  pub few : kind ≡ 128 → len < SHORT

-- bytes begin with a title, and these come after it
pub record IsTitle (bytes : List ℕ) (kind len : ℕ) (name rest : List ℕ) : Type 0 where
  pub whole : bytes ≡ title_bytes kind len name ++ rest
  pub named : IsName name
  pub right : CanSay kind len

-- the sum of the bytes before a place comes at that place
pub record IsSummed (end : ℕ) (bytes : List ℕ) : Type 0 where
  pub long : end + 32 ≤ length bytes
  pub sum : take 32 (drop end bytes) ≡ sha256 (take end bytes)

-- the word, the name and the length of the bytes of a record
abbrev pub Tells : Entry → Word → List ℕ → ℕ → Type 0
Tells (Object name bytes) said named len = (said ≡ word.Object) × (named ≡ name) × (len ≡ length bytes)
Tells (Short name bytes) said named len = (said ≡ word.Object) × (named ≡ name) × (len ≡ length bytes)
Tells (File name bytes) said named len = (said ≡ word.File) × (named ≡ name) × (len ≡ length bytes)
Tells (Removal name) said named len = (said ≡ word.Removal) × (named ≡ name) × (len ≡ 0)
Tells Settled said named len = (said ≡ word.Settled) × (len ≡ 0)
Tells Undone said named len = (said ≡ word.Undone) × (len ≡ 0)

-- bytes begin with a record that tells this, and has so many bytes before its own and in all
pub record Begins (bytes : List ℕ) (said : Word) (named : List ℕ) (before len size : ℕ) : Type 0 where
  pub entry : Entry
  pub rest : List ℕ
  pub right : IsEntry entry
  pub whole : bytes ≡ spelled entry ++ rest
  pub tells : Tells entry said named len
  pub titled : before ≡ before_own entry
  pub counted : size ≡ length (spelled entry)

-- no record begins bytes
abbrev pub HasNoRecord : List ℕ → Type 0
HasNoRecord bytes = (entry : Entry) (rest : List ℕ) → IsEntry entry → bytes ≢ spelled entry ++ rest

-- how many bytes a record has whose title says this. A record is of no other kind
abbrev pub said_size : ℕ → ℕ → Option ℕ
said_size kind len =
    cond (nat_eq kind 128) (Some (34 + len)) (cond (nat_eq kind 111) (Some (37 + len)) (cond (nat_eq kind 102) (Some (69 + len))
    (cond (nat_eq kind 114) (Some 69) (cond (nat_eq kind 115) (Some 69) (cond (nat_eq kind 117) (Some 69) None)))))

-- the title that begins bytes is of a record of so many bytes, and all of them are there, right or wrong
pub record Claims (bytes : List ℕ) (size : ℕ) : Type 0 where
  pub kind : ℕ
  pub len : ℕ
  pub name : List ℕ
  pub rest : List ℕ
  pub title : IsTitle bytes kind len name rest
  pub said : said_size kind len ≡ Some size
  pub there : size ≤ length bytes

-- bytes do not begin so
abbrev pub ClaimsNone : List ℕ → Type 0
ClaimsNone bytes = (size : ℕ) → Claims bytes size → ⊥
