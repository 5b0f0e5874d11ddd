-- What is taken of a window is taken of all bytes.
use Rattle.std.proofs.Common.{◌≡◌, ◌⊎◌, inl, inr, ℕ, ◌+◌, ◌<◌, ◌≤◌, Bool, true, false, cond, nat_eq, nat_le, nat_lt, List, [], ◌∷◌, ◌++◌, Option, Some, None, IfOk, Result, Ok, Err, length, take, drop, refl, sym, ◌∙◌, ap, subst, append_assoc, append-nil, length-append, length-drop, take-append-drop, arith}
use Rattle.std.proofs.lemmas.List.{drop-append-le, drop-drop, length-take-le, take-append-le}
use Rattle.std.proofs.Math.Seq.{drop-append_seam, take-append_seam}
use Rattle.sha2.specs.Sha256.{sha256}
use Rattle.sha2.proofs.Facts256.{length-sha256}
use Rattle.devices.specs.Device.{Files, part_of}
use Rattle.std.specs.Option.{option_and_then}
use Rattle.std.proofs.lemmas.Bool.Decides.{nat_tests}
use Rattle.packed_store.specs.Entry.{Entry, File, IsEntry, Object, Removal, Settled, Short, Undone, no_name, spelled, summed, titled}
use Rattle.packed_store.specs.Place.{segment_of}
use Rattle.packed_store.specs.declared.place.Place.{Place}
use Rattle.packed_store.specs.declared.place.TheConstants.{MAX_FILE}
use Rattle.packed_store.specs.Reading.{Claims, ClaimsNone, HasNoRecord, IsTitle, said_size, title_bytes}
use Rattle.packed_store.specs.Stored.{IsPart}
use Rattle.packed_store.specs.Taking.{Begun, Damaged, Ended, Reads, ReadsAll, Seen, Takes, Then, Whole, seen_in}
use Rattle.packed_store.proofs.ClaimLemmas.{some_of}
use Rattle.packed_store.proofs.LawLemmas.{title_in}
use Rattle.packed_store.proofs.ReadingLemmas.{begins_within, length_title, length_titled, size_most}
use Rattle.packed_store.proofs.RefusalLemmas.{agrees}
use Rattle.packed_store.proofs.TakingLemmas.{takes_nothing}

-- a title begins longer bytes, too
title_longer : (bytes more : List ℕ) (kind len : ℕ) (name rest : List ℕ) → IsTitle bytes kind len name rest → IsTitle (bytes ++ more) kind len name (rest ++ more)
title_longer bytes more kind len name rest title = record { whole = ap (λ (b : List ℕ). b ++ more) title.whole ∙ append_assoc (title_bytes kind len name) rest more; named = title.named; right = title.right }

claims_longer : (bytes more : List ℕ) (size : ℕ) → Claims bytes size → Claims (bytes ++ more) size
claims_longer bytes more size claims = record {
  kind = claims.kind;
  len = claims.len;
  name = claims.name;
  rest = claims.rest ++ more;
  title = title_longer bytes more claims.kind claims.len claims.name claims.rest claims.title;
  said = claims.said;
  there = omega (arith, claims.there, length-append bytes more);
}

length_summed : (kind : ℕ) (name own : List ℕ) → length name ≡ 32 → length (summed (titled kind name own)) ≡ length (titled kind name own) + 32
length_summed kind name own long = omega (arith, length-append (titled kind name own) (sha256 (titled kind name own)), length-sha256 (titled kind name own))

-- the title of a record says its size
record_said : (e : Entry) (right : IsEntry e) → said_size (title_in e right).kind (length (title_in e right).own) ≡ Some (length (spelled e))
unfolding title_in
record_said (Object name bytes) right = ap Some (sym (length_titled 111 name bytes (ap length right.1 ∙ length-sha256 bytes)))
record_said (Short name bytes) right = ap Some (sym (length_titled 128 name bytes (ap length right.1 ∙ length-sha256 bytes)))
record_said (File name bytes) right =
    let size : 69 + length bytes ≡ length (summed (titled 102 name bytes)) = omega (arith, length_summed 102 name bytes right.1.length, length_titled 102 name bytes right.1.length) in
    ap Some size
record_said (Removal name) right =
    let size : 69 ≡ length (summed (titled 114 name [])) = omega (arith, length_summed 114 name [] right.length, length_titled 114 name [] right.length) in
    ap Some size
record_said Settled right =
    let size : 69 ≡ length (summed (titled 115 no_name [])) = omega (arith, length_summed 115 no_name [] refl, length_titled 115 no_name [] refl) in
    ap Some size
record_said Undone right =
    let size : 69 ≡ length (summed (titled 117 no_name [])) = omega (arith, length_summed 117 no_name [] refl, length_titled 117 no_name [] refl) in
    ap Some size

-- what begins longer bytes begins these, if all of it is there
front_is : (bytes more one other : List ℕ) → bytes ++ more ≡ one ++ other → length one ≤ length bytes → bytes ≡ one ++ drop (length one) bytes
front_is bytes more one other is fits =
    sym (take-append-drop (length one) bytes)
    ∙ ap (λ (b : List ℕ). b ++ drop (length one) bytes) (sym (take-append-le (length one) bytes more fits) ∙ ap (take (length one)) is ∙ take-append_seam one other)

-- a damaged record stays one in longer bytes
none_longer : (bytes more : List ℕ) (size : ℕ) → HasNoRecord bytes → Claims bytes size → HasNoRecord (bytes ++ more)
none_longer bytes more size none claims e rest right is =
    let title = title_longer bytes more claims.kind claims.len claims.name claims.rest claims.title in
    let same = agrees (bytes ++ more) claims.kind claims.len claims.name (claims.rest ++ more) e rest right title is in
    let said : Some (length (spelled e)) ≡ Some size =
    sym (record_said e right) ∙ ap (λ (k : ℕ). said_size k (length (title_in e right).own)) same.kinds ∙ ap (said_size claims.kind) same.counts ∙ claims.said in
    let count : length (spelled e) ≡ size = some_of (length (spelled e)) size said in
    none e (drop (length (spelled e)) bytes) right (front_is bytes more (spelled e) rest is (omega (arith, count, claims.there)))

-- what is taken of bytes is taken of longer ones
takes_longer : (bytes more : List ℕ) (segment at : ℕ) (old new : Seen) (size : ℕ) → Takes bytes segment at old new (Some size) → Takes (bytes ++ more) segment at old new (Some size)
takes_longer bytes more segment at old new size (Whole said name title len count begins taken now) = Whole said name title len count record {
  entry = begins.entry;
  rest = begins.rest ++ more;
  right = begins.right;
  whole = ap (λ (b : List ℕ). b ++ more) begins.whole ∙ append_assoc (spelled begins.entry) begins.rest more;
  tells = begins.tells;
  titled = begins.titled;
  counted = begins.counted;
} taken now
takes_longer bytes more segment at old new size (Damaged count bare claims taken now) = Damaged count (none_longer bytes more count bare claims) (claims_longer bytes more count claims) taken now
takes_longer bytes more segment at old new size (Ended bare claims taken now) = let never : ⊥ = cc in absurd never

takes_within : (bytes : List ℕ) (segment at : ℕ) (old new : Seen) (size : ℕ) → Takes bytes segment at old new (Some size) → size ≤ length bytes
takes_within bytes segment at old new size (Whole said name title len count begins taken now) = omega (arith, some_of size count taken, (begins_within bytes name said title len count begins).1)
takes_within bytes segment at old new size (Damaged count bare claims taken now) = omega (arith, some_of size count taken, claims.there)
takes_within bytes segment at old new size (Ended bare claims taken now) = let never : ⊥ = cc in absurd never

reads_within : (bytes : List ℕ) (segment from : ℕ) (old new : Seen) (count : ℕ) → Reads bytes segment from old new count → count ≤ length bytes
reads_within bytes segment from old _ _ Begun = omega arith
reads_within bytes segment from old _ _ (Then mid new at size reads takes) =
    omega (arith, reads_within bytes segment from old mid at reads, takes_within (drop at bytes) segment (from + at) mid new size takes, length-drop at bytes)

pub reads_longer : (bytes more : List ℕ) (segment from : ℕ) (old new : Seen) (count : ℕ) → Reads bytes segment from old new count → Reads (bytes ++ more) segment from old new count
reads_longer bytes more segment from old _ _ Begun = Begun
reads_longer bytes more segment from old _ _ (Then mid new at size reads takes) =
    Then mid new at size (reads_longer bytes more segment from old mid at reads)
    (subst (λ (b : List ℕ). Takes b segment (from + at) mid new (Some size)) (sym (drop-append-le at bytes more (reads_within bytes segment from old mid at reads)))
    (takes_longer (drop at bytes) more segment (from + at) mid new size takes))

-- what is taken behind what was taken
pub reads_join : (whole : List ℕ) (segment from : ℕ) (old mid : Seen) (at : ℕ) → Reads whole segment from old mid at → (new : Seen) (count : ℕ) → Reads (drop at whole) segment (from + at) mid new count → Reads whole segment from old new (at + count)
reads_join whole segment from old mid at first _ _ Begun = let none : at ≡ at + 0 = omega arith in subst (Reads whole segment from old mid) none first
reads_join whole segment from old mid at first _ _ (Then seen new more size reads takes) =
    let sum : at + more + size ≡ at + (more + size) = omega arith in
    let place : from + at + more ≡ from + (at + more) = omega arith in
    subst (Reads whole segment from old new) sum
    (Then seen new (at + more) size (reads_join whole segment from old mid at first seen more reads)
    (subst (λ (b : List ℕ). Takes b segment (from + (at + more)) seen new (Some size)) (drop-drop more at whole)
    (subst (λ (n : ℕ). Takes (drop more (drop at whole)) segment n seen new (Some size)) place takes)))

-- what a part of a segment has at its front
pub part_rest : (files : Files) (segment at : ℕ) (bytes : List ℕ) (part : IsPart files segment at bytes) → drop at (segment_of files segment) ≡ bytes ++ part.rest
part_rest files segment at bytes part =
    ap (drop at) part.whole ∙ ap (λ (n : ℕ). drop n (part.front ++ (bytes ++ part.rest))) (sym part.behind) ∙ drop-append_seam part.front (bytes ++ part.rest)

-- and so of the segment
pub part_reads : {E : Type 0} (files : Files) (segment at : ℕ) (bytes : List ℕ) (part : IsPart files segment at bytes) (old new : Seen) (r : Result ℕ E) → IfOk r (λ taken. Reads bytes segment at old new taken)
    → IfOk r (λ taken. Reads (drop at (segment_of files segment)) segment at old new taken)
part_reads files segment at bytes part old new (Ok taken) reads =
    subst (λ (b : List ℕ). Reads b segment at old new taken) (sym (part_rest files segment at bytes part)) (reads_longer bytes part.rest segment at old new taken reads)
part_reads files segment at bytes part old new (Err fault) reads = tt

most_said : (a b c d e f : Bool) (len size : ℕ)
    → cond a (Some (34 + len)) (cond b (Some (37 + len)) (cond c (Some (69 + len)) (cond d (Some 69) (cond e (Some 69) (cond f (Some 69) None))))) ≡ Some size → size ≤ 69 + len
most_said true b c d e f len size is = omega (arith, some_of (34 + len) size is)
most_said false true c d e f len size is = omega (arith, some_of (37 + len) size is)
most_said false false true d e f len size is = omega (arith, some_of (69 + len) size is)
most_said false false false true e f len size is = omega (arith, some_of 69 size is)
most_said false false false false true f len size is = omega (arith, some_of 69 size is)
most_said false false false false false true len size is = omega (arith, some_of 69 size is)
most_said false false false false false false len size is = let never : ⊥ = cc in absurd never

-- no record is longer than this
most_of : (kind len size : ℕ) → said_size kind len ≡ Some size → size ≤ 69 + len
most_of kind len size is = most_said (nat_eq kind 128) (nat_eq kind 111) (nat_eq kind 102) (nat_eq kind 114) (nat_eq kind 115) (nat_eq kind 117) len size is

-- where so many bytes begin with no record, longer ones begin with none
no_record_longer : (bytes more : List ℕ) → MAX_FILE + 69 ≤ length bytes → HasNoRecord bytes → HasNoRecord (bytes ++ more)
no_record_longer bytes more long none e rest right is =
    let one = title_in e right in
    let most = most_of one.kind (length one.own) (length (spelled e)) (record_said e right) in
    none e (drop (length (spelled e)) bytes) right (front_is bytes more (spelled e) rest is (omega (arith, most, one.can.fits, long)))

no_claims_longer : (bytes more : List ℕ) → MAX_FILE + 69 ≤ length bytes → ClaimsNone bytes → ClaimsNone (bytes ++ more)
no_claims_longer bytes more long none size claims =
    let head = title_bytes claims.kind claims.len claims.name in
    let most = most_of claims.kind claims.len size claims.said in
    let count : length head ≤ 37 = omega (arith, length_title claims.kind claims.len claims.name claims.title.named.length, size_most claims.kind) in
    none size record {
      kind = claims.kind;
      len = claims.len;
      name = claims.name;
      rest = drop (length head) bytes;
      title = record { whole = front_is bytes more head claims.rest claims.title.whole (omega (arith, count, long)); named = claims.title.named; right = claims.title.right };
      said = claims.said;
      there = omega (arith, most, claims.title.right.fits, long);
    }

-- and nothing is taken of them
none_taken_longer : (bytes more : List ℕ) (segment at : ℕ) (seen : Seen) (o : Option ℕ) → MAX_FILE + 69 ≤ length bytes → Takes bytes segment at seen seen o → o ≡ None → Takes (bytes ++ more) segment at seen seen None
none_taken_longer bytes more segment at seen o long (Whole said name title len count begins taken now) none = let never : ⊥ = cc in absurd never
none_taken_longer bytes more segment at seen o long (Damaged count bare claims taken now) none = let never : ⊥ = cc in absurd never
none_taken_longer bytes more segment at seen o long (Ended bare claims taken now) none = Ended (no_record_longer bytes more long bare) (no_claims_longer bytes more long claims) refl refl

nothing_left : (xs ys : List ℕ) → length (xs ++ ys) ≤ length xs → xs ++ ys ≡ xs
nothing_left xs [] few = append-nil xs
nothing_left xs (y ∷ ys) few = let never : ⊥ = omega (arith, few, length-append xs (y ∷ ys)) in absurd never

-- a window of which nothing is taken, if it is long or goes to the end
pub window_ends : {E : Type 0} (files : Files) (segment at : ℕ) (bytes : List ℕ) (part : IsPart files segment at bytes) (seen : Seen) (r : Result ℕ E) → (MAX_FILE + 69 ≤ length bytes) ⊎ (length (segment_of files segment) ≤ at + length bytes)
    → IfOk r (λ taken. Takes (drop taken bytes) segment (at + taken) seen seen None) → IfOk r (λ taken. taken ≡ 0 → Takes (drop at (segment_of files segment)) segment at seen seen None)
window_ends files segment at bytes part seen (Ok taken) (inl long) ends = λ none.
    let first : Takes bytes segment (at + 0) seen seen None = subst (λ (n : ℕ). Takes (drop n bytes) segment (at + n) seen seen None) none ends in
    let same : at + 0 ≡ at = omega arith in
    subst (λ (b : List ℕ). Takes b segment at seen seen None) (sym (part_rest files segment at bytes part))
    (none_taken_longer bytes part.rest segment at seen None long (subst (λ (n : ℕ). Takes bytes segment n seen seen None) same first) refl)
window_ends files segment at bytes part seen (Ok taken) (inr last) ends = λ none.
    let first : Takes bytes segment (at + 0) seen seen None = subst (λ (n : ℕ). Takes (drop n bytes) segment (at + n) seen seen None) none ends in
    let same : at + 0 ≡ at = omega arith in
    let rest = part_rest files segment at bytes part in
    let few : length (bytes ++ part.rest) ≤ length bytes = omega (arith, last, ap length rest, length-drop at (segment_of files segment)) in
    subst (λ (b : List ℕ). Takes b segment at seen seen None) (sym (rest ∙ nothing_left bytes part.rest few))
    (subst (λ (n : ℕ). Takes bytes segment n seen seen None) same first)
window_ends files segment at bytes part seen (Err fault) size ends = tt

by_size : (b : Bool) (size end at count : ℕ) (whole : List ℕ) → nat_lt (at + size) end ≡ b → count ≡ size → (at + size < end → MAX_FILE + 69 ≤ size) → length whole ≡ end → (MAX_FILE + 69 ≤ count) ⊎ (length whole ≤ at + count)
by_size true size end at count whole e is long counted =
    let less : at + size < end = grind (arith, nat_tests) in
    inl (omega (arith, is, long less))
by_size false size end at count whole e is long counted =
    let least : end ≤ at + size = grind (arith, nat_tests) in
    inr (omega (arith, is, least, counted))

-- a window is long or goes to the end
pub window_size : (size end at count : ℕ) (whole : List ℕ) → count ≡ size → (at + size < end → MAX_FILE + 69 ≤ size) → length whole ≡ end → (MAX_FILE + 69 ≤ count) ⊎ (length whole ≤ at + count)
window_size size end at count whole is long counted = by_size (nat_lt (at + size) end) size end at count whole refl is long counted

-- one window behind those before it
pub reads_next : (whole : List ℕ) (segment : ℕ) (old mid new : Seen) (at taken : ℕ) → Reads whole segment 0 old mid at → Reads (drop at whole) segment at mid new taken → Reads whole segment 0 old new (at + taken)
reads_next whole segment old mid new at taken first then =
    let place : at ≡ 0 + at = omega arith in
    reads_join whole segment 0 old mid at first new taken (subst (λ (n : ℕ). Reads (drop at whole) segment n mid new taken) place then)

-- a reading that ends where nothing is taken
pub reads_all : (whole : List ℕ) (segment : ℕ) (old mid new : Seen) (at taken : ℕ) → Reads whole segment 0 old mid at → Reads (drop at whole) segment at mid new taken → taken ≡ 0 → Takes (drop at whole) segment at new new None → ReadsAll whole segment old new
reads_all whole segment old mid new at taken first then none ends =
    let sum : at + taken ≡ at = omega (arith, none) in
    record { count = at; reads = subst (Reads whole segment 0 old new) sum (reads_next whole segment old mid new at taken first then); ends = ends }

-- or at the end of all bytes
pub reads_to_end : (whole : List ℕ) (segment : ℕ) (old new : Seen) (at : ℕ) → Reads whole segment 0 old new at → length whole ≤ at → ReadsAll whole segment old new
reads_to_end whole segment old new at reads all = record { count = at; reads = reads; ends = takes_nothing whole segment at at new all }

-- the same parts at first
pub reads_from : (whole : List ℕ) (segment : ℕ) (live pending lives pendings : List (List ℕ × Place)) (damaged was : Bool) (new : Seen) → lives ≡ live → pendings ≡ pending → damaged ≡ was
    → ReadsAll whole segment (seen_in lives pendings damaged) new → ReadsAll whole segment (seen_in live pending was) new
reads_from whole segment live pending lives pendings damaged was new first second third all =
    subst (λ (es : List (List ℕ × Place)). ReadsAll whole segment (seen_in es pending was) new) first
    (subst (λ (es : List (List ℕ × Place)). ReadsAll whole segment (seen_in lives es was) new) second
    (subst (λ (b : Bool). ReadsAll whole segment (seen_in lives pendings b) new) third all))

-- what is read has as many bytes as were asked for
count_by : (b : Bool) (whole bytes : List ℕ) (at len : ℕ) → (b ≡ true → at + len ≤ length whole) → Some bytes ≡ cond b (Some (take len (drop at whole))) None → length bytes ≡ len
count_by true whole bytes at len fits is =
    let own : bytes ≡ take len (drop at whole) = cc in
    ap length own ∙ length-take-le len (drop at whole) (omega (arith, fits refl, length-drop at whole))
count_by false whole bytes at len fits is = let never : ⊥ = cc in absurd never

pub part_count : (o : Option (List ℕ)) (bytes : List ℕ) (at len : ℕ) → Some bytes ≡ option_and_then (part_of at len) o → length bytes ≡ len
part_count (Some whole) bytes at len is = count_by (nat_le (at + len) (length whole)) whole bytes at len (λ e. grind (arith, nat_tests)) is
part_count None bytes at len is = let never : ⊥ = cc in absurd never
