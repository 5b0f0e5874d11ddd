-- What is at the end of a segment after an append.
use Rattle.std.proofs.Common.{◌≡◌, ◌∙◌, ap, refl, subst, sym, append-nil, append_assoc, length-append, arith, ℕ, ◌+◌, ◌<◌, ◌≤◌, Bool, true, false, cond, nat_lt, List, [], ◌++◌, length, IfOk, Result, Ok, Err}
use Rattle.std.proofs.lemmas.Bool.Decides.{nat_tests}
use Rattle.sha2.specs.Sha256.{sha256}
use Rattle.git_name.specs.Object.{object_name, typed_bytes}
use Rattle.git_name.specs.Object as git
use Rattle.devices.specs.Device.{Files}
use Rattle.packed_store.specs.declared.place.Place.{Place}
use Rattle.packed_store.specs.declared.place.TheConstants.{MAX_FILE, SHORT}
use Rattle.packed_store.specs.Appended.{HasRecord, IsAppended, IsPlaced}
use Rattle.packed_store.specs.Entry.{Entry, IsEntry, Object, Short, before_own, object_entry, object_kind, spelled, title_size, titled}
use Rattle.packed_store.specs.Place.{EndsAround, Grows, Holds, IsRecorded, segment_of, segment_path}
use Rattle.packed_store.specs.Stored.{HasFile, IsWritten}
use Rattle.packed_store.proofs.ReadingLemmas.{length_titled}
use Rattle.packed_store.proofs.StoredLemmas.{one_recorded, own_at}

-- bytes that spell a record were appended, so the record is there
pub placed : {E : Type 0} (files : Files) (name bytes room : List ℕ) (entry : Entry) (title : ℕ) (r : Result Place E) → room ≡ spelled entry → title ≡ before_own entry → IsEntry entry → HasFile entry name bytes
    → IfOk r (λ place. EndsAround files place title room) → IfOk r (IsPlaced files name bytes)
placed files name bytes room entry title (Ok place) is counted right file ends = record {
  entry = entry;
  right = right;
  file = file;
  ends = record { front = ends.front; whole = ends.whole ∙ ap (λ (bytes : List ℕ). ends.front ++ bytes) is; behind = ap (λ (n : ℕ). length ends.front + n) (sym counted) ∙ ends.behind };
}
placed files name bytes room entry title (Err fault) is counted right file ends = tt

-- the bytes of a record that ends a segment are behind its title
pub held : (files : Files) (place : Place) (title kind : ℕ) (name bytes rest room : List ℕ) → EndsAround files place title room → room ≡ titled kind name bytes ++ rest → length name ≡ 32 → title_size kind ≡ title
    → length bytes ≡ place.len → Holds files place bytes
held files place title kind name bytes rest room ends is long counted own =
    let behind : length ends.front + title_size kind ≡ place.at = omega (arith, counted, ends.behind) in
    let whole = ends.whole ∙ ap (λ (b : List ℕ). ends.front ++ b) is in
    record {
      there = subst (λ (b : List ℕ). place.at + place.len ≤ length b) (sym whole)
          (omega (arith, behind, own, length-append ends.front (titled kind name bytes ++ rest), length-append (titled kind name bytes) rest, length_titled kind name bytes long));
      same = own_at (segment_of files place.segment) ends.front rest name bytes kind place.at place.len whole behind long (sym own);
    }

-- the record of an object's file, in either form
spelled_by : (b : Bool) (name bytes : List ℕ) → spelled (cond b (Short name bytes) (Object name bytes)) ≡ titled (cond b 128 111) name bytes
spelled_by true name bytes = refl
spelled_by false name bytes = refl

pub object_spelled : (name bytes : List ℕ) → spelled (object_entry name bytes) ≡ titled (object_kind (length bytes)) name bytes
object_spelled name bytes = spelled_by (nat_lt (length bytes) SHORT) name bytes

before_by : (b : Bool) (name bytes : List ℕ) → title_size (cond b 128 111) ≡ before_own (cond b (Short name bytes) (Object name bytes))
before_by true name bytes = refl
before_by false name bytes = refl

pub object_before : (name bytes : List ℕ) → title_size (object_kind (length bytes)) ≡ before_own (object_entry name bytes)
object_before name bytes = before_by (nat_lt (length bytes) SHORT) name bytes

right_by : (b : Bool) (name bytes : List ℕ) → nat_lt (length bytes) SHORT ≡ b → length bytes ≤ MAX_FILE → name ≡ sha256 bytes → IsEntry (cond b (Short name bytes) (Object name bytes))
right_by true name bytes e fits named = let few : length bytes < SHORT = grind (arith, nat_tests) in (few, named)
right_by false name bytes e fits named = (fits, named)

pub object_right : (name bytes : List ℕ) → length bytes ≤ MAX_FILE → name ≡ sha256 bytes → IsEntry (object_entry name bytes)
object_right name bytes fits named = right_by (nat_lt (length bytes) SHORT) name bytes refl fits named

file_by : (b : Bool) (name bytes : List ℕ) → HasFile (cond b (Short name bytes) (Object name bytes)) name bytes
file_by true name bytes = (refl, refl)
file_by false name bytes = (refl, refl)

pub object_file : (name bytes : List ℕ) → HasFile (object_entry name bytes) name bytes
object_file name bytes = file_by (nat_lt (length bytes) SHORT) name bytes

-- a record that ends a segment is in it
pub placed_is_written : (files : Files) (name bytes : List ℕ) (place : Place) → IsPlaced files name bytes place → IsWritten files name bytes
placed_is_written files name bytes place one = record {
  segment = place.segment;
  front = one.ends.front;
  entry = one.entry;
  rest = [];
  whole = one.ends.whole ∙ ap (λ (bytes : List ℕ). one.ends.front ++ bytes) (sym (append-nil (spelled one.entry)));
  right = one.right;
  file = one.file;
}

-- and at its place
pub placed_at : (files : Files) (name bytes : List ℕ) (place : Place) → IsPlaced files name bytes place → Holds files place bytes → IsRecorded files name place
placed_at files name bytes place one holds = one_recorded files name place record {
  there = holds.there;
  front = one.ends.front;
  entry = one.entry;
  rest = [];
  whole = one.ends.whole ∙ ap (λ (bytes : List ℕ). one.ends.front ++ bytes) (sym (append-nil (spelled one.entry)));
  behind = one.ends.behind;
  right = one.right;
  file = subst (HasFile one.entry name) (sym holds.same) one.file;
}

-- a record that ended a segment stays
pub appended_stays : (old new : Files) (entry : Entry) → IsAppended old entry → Grows old new → HasRecord new entry
appended_stays old new entry last grows =
    let grown = grows (segment_path last.segment) in
    record {
      segment = last.segment;
      front = last.ends.front;
      rest = grown.0;
      whole = grown.1 ∙ ap (λ (bytes : List ℕ). bytes ++ grown.0) last.ends.whole ∙ append_assoc last.ends.front (spelled entry) grown.0;
    }

-- the name of an object is the hash of its file
pub name_is_hash : (object : git.Object) → object_name object ≡ sha256 (typed_bytes object)
unfolding object_name
name_is_hash object = refl
