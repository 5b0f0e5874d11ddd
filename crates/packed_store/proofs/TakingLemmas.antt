-- What one reading takes in.
use Rattle.std.proofs.Common.{◌≡◌, ◌≢◌, ℕ, ◌+◌, ◌≤◌, Bool, true, false, List, ◌++◌, Option, Some, None, cond, drop, length, nat_eq, refl, sym, ◌∙◌, ap, subst, length-append, length-drop, arith}
use Rattle.packed_store.specs.declared.place.Place.{Place}
use Rattle.packed_store.specs.declared.reading.Word.{Word}
use Rattle.packed_store.specs.Entry.{kind_and_length}
use Rattle.packed_store.specs.Reading.{Begins, CanSay, Claims, HasNoRecord, title_bytes}
use Rattle.packed_store.specs.Survey.{Shown, noted, shown_in, undone}
use Rattle.packed_store.specs.Taking.{Damaged, Ended, Reads, Seen, Takes, Then, Whole, counts, seen_as, seen_in}
use Rattle.packed_store.proofs.ClaimLemmas.{no_title_claims, some_of}
use Rattle.packed_store.proofs.ReadingLemmas.{begins_within, before_least}
use Rattle.packed_store.proofs.RefusalLemmas.{no_title}

-- the same parts are the same whole
same_seen : (shown other : Shown) (damaged was : Bool) → shown ≡ other → damaged ≡ was → seen_as shown damaged ≡ seen_as other was
same_seen shown other damaged was first second = ap (λ (s : Shown). seen_as s damaged) first ∙ ap (seen_as other) second

module _ (bytes : List ℕ) (segment at : ℕ) (live pending lives pendings : List (List ℕ × Place)) (damaged was : Bool) where
  -- a whole record
  pub whole_takes : (said : Word) (name : List ℕ) (title len size : ℕ) → Begins bytes said name title len size
      → shown_in lives pendings ≡ cond (counts was said) (noted said name (record { segment = segment; at = at + title; len = len }) (shown_in live pending)) (shown_in live pending) → damaged ≡ was
      → Takes bytes segment at (seen_in live pending was) (seen_in lives pendings damaged) (Some size)
  whole_takes said name title len size begins shown same = Whole said name title len size begins refl (same_seen _ _ damaged was shown same)

  -- a damaged one
  pub damaged_takes : (size : ℕ) → HasNoRecord bytes → Claims bytes size → shown_in lives pendings ≡ undone (shown_in live pending) → damaged ≡ true
      → Takes bytes segment at (seen_in live pending was) (seen_in lives pendings damaged) (Some size)
  damaged_takes size none claims shown now = Damaged size none claims refl (same_seen _ _ damaged true shown now)

-- one more
pub reads_on : (bytes : List ℕ) (segment from : ℕ) (old mid new : Seen) (at size : ℕ) (o : Option ℕ) → Reads bytes segment from old mid at → Takes (drop at bytes) segment (from + at) mid new o → o ≡ Some size → Reads bytes segment from old new (at + size)
reads_on bytes segment from old mid new at size o reads takes is = Then mid new at size reads (subst (Takes (drop at bytes) segment (from + at) mid new) is takes)

-- and no more
pub reads_none : (bytes : List ℕ) (segment from : ℕ) (old mid new : Seen) (at : ℕ) (o : Option ℕ) → Reads bytes segment from old mid at → Takes (drop at bytes) segment (from + at) mid new o → o ≡ None → Reads bytes segment from old new at
reads_none bytes segment from old mid new at o reads (Whole said name title len size begins taken now) none = let never : ⊥ = cc in absurd never
reads_none bytes segment from old mid new at o reads (Damaged size bare claims taken now) none = let never : ⊥ = cc in absurd never
reads_none bytes segment from old mid new at o reads (Ended bare claims taken now) none = subst (λ (s : Seen). Reads bytes segment from old s at) (sym now) reads

-- where nothing is taken, nothing changes
pub takes_end : (bytes : List ℕ) (segment at : ℕ) (old new : Seen) (o : Option ℕ) → Takes bytes segment at old new o → o ≡ None → Takes bytes segment at new new None
takes_end bytes segment at old new o (Whole said name title len size begins taken now) none = let never : ⊥ = cc in absurd never
takes_end bytes segment at old new o (Damaged size bare claims taken now) none = let never : ⊥ = cc in absurd never
takes_end bytes segment at old new o (Ended bare claims taken now) none = Ended bare claims refl refl

least_said : (a b c d e f : Bool) (len size : ℕ)
    → cond a (Some (34 + len)) (cond b (Some (37 + len)) (cond c (Some (69 + len)) (cond d (Some 69) (cond e (Some 69) (cond f (Some 69) None))))) ≡ Some size → 1 ≤ size
least_said true b c d e f len size is = omega (arith, some_of (34 + len) size is)
least_said false true c d e f len size is = omega (arith, some_of (37 + len) size is)
least_said false false true d e f len size is = omega (arith, some_of (69 + len) size is)
least_said false false false true e f len size is = omega (arith, some_of 69 size is)
least_said false false false false true f len size is = omega (arith, some_of 69 size is)
least_said false false false false false true len size is = omega (arith, some_of 69 size is)
least_said false false false false false false len size is = let never : ⊥ = cc in absurd never

-- what is taken has a byte
pub takes_some : (bytes : List ℕ) (segment at : ℕ) (old new : Seen) (o : Option ℕ) (count : ℕ) → Takes bytes segment at old new o → o ≡ Some count → 1 ≤ count
takes_some bytes segment at old new o count (Whole said name title len size begins taken now) is =
    let same : size ≡ count = some_of size count (sym taken ∙ is) in
    omega (arith, same, (begins_within bytes name said title len size begins).0, begins.titled, before_least begins.entry)
takes_some bytes segment at old new o count (Damaged size bare claims taken now) is =
    let same : size ≡ count = some_of size count (sym taken ∙ is) in
    let k = claims.kind in
    let least : 1 ≤ size = least_said (nat_eq k 128) (nat_eq k 111) (nat_eq k 102) (nat_eq k 114) (nat_eq k 115) (nat_eq k 117) claims.len size claims.said in
    omega (arith, same, least)
takes_some bytes segment at old new o count (Ended bare claims taken now) is = let never : ⊥ = cc in absurd never

-- no title is in no bytes
empty_title : (bytes : List ℕ) → length bytes ≡ 0 → (kind len : ℕ) (name rest : List ℕ) → length name ≡ 32 → CanSay kind len → bytes ≢ title_bytes kind len name ++ rest
empty_title bytes none kind len name rest long can is =
    let never : ⊥ = omega (arith, none, long, ap length is, length-append (title_bytes kind len name) rest, length-append (kind_and_length kind len) name) in
    never

-- so nothing is taken behind the end
pub takes_nothing : (bytes : List ℕ) (segment from count : ℕ) (seen : Seen) → length bytes ≤ count → Takes (drop count bytes) segment from seen seen None
takes_nothing bytes segment from count seen all =
    let none : length (drop count bytes) ≡ 0 = omega (arith, all, length-drop count bytes) in
    Ended (no_title (drop count bytes) (empty_title (drop count bytes) none)) (no_title_claims (drop count bytes) (empty_title (drop count bytes) none)) refl refl
