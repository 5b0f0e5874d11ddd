-- Bytes have one reading, and so an opening shows one thing.
use Rattle.std.proofs.Common.{◌≡◌, ℕ, ◌+◌, false, List, [], ◌∷◌, ◌++◌, Option, Some, None, drop, length, refl, sym, ◌∙◌, ap, subst, append_assoc, arith}
use Rattle.devices.specs.Device.{Files}
use Rattle.git_name.specs.Maps.{map_values}
use Rattle.loose_store.specs.Files as loose
use Rattle.packed_store.specs.declared.reading.Word.{Word}
use Rattle.packed_store.specs.Entry.{Entry, File, Object, Removal, Settled, Short, Undone, before_own, spelled}
use Rattle.packed_store.specs.Opening.{Adds, Nothing, Opens, Records, Surveys, listed}
use Rattle.packed_store.specs.Place.{bytes_at, segment_of}
use Rattle.packed_store.specs.Reading.{Claims, Tells, said_size}
use Rattle.packed_store.specs.Survey.{Shown, opened}
use Rattle.packed_store.specs.Taking.{Begun, Damaged, Ended, Reads, ReadsAll, Seen, Takes, Then, Whole, seen_as, with_record}
use Rattle.packed_store.proofs.ClaimLemmas.{some_of}
use Rattle.packed_store.proofs.LawLemmas.{one_record, same_front}

-- what a record leaves of which this is told
abbrev left_by : Seen → ℕ → ℕ → Word → List ℕ → ℕ → ℕ → Seen
left_by old segment at said name title len = with_record old said name (record { segment = segment; at = at + title; len = len })

module _ (old : Seen) (segment at : ℕ) (said other : Word) (name named : List ℕ) (title titled len count : ℕ) where
  all_told : said ≡ other → name ≡ named → title ≡ titled → len ≡ count → left_by old segment at said name title len ≡ left_by old segment at other named titled count
  all_told words names titles lens =
      ap (λ (w : Word). left_by old segment at w name title len) words ∙ ap (λ (n : List ℕ). left_by old segment at other n title len) names
      ∙ ap (λ (t : ℕ). left_by old segment at other named t len) titles ∙ ap (left_by old segment at other named titled) lens

  -- one record is told in one way
  told_once : (e : Entry) → Tells e said name len → Tells e other named count → title ≡ before_own e → titled ≡ before_own e → left_by old segment at said name title len ≡ left_by old segment at other named titled count
  told_once (Object n own) one two first second = all_told (one.0 ∙ sym two.0) (one.1 ∙ sym two.1) (first ∙ sym second) (one.2 ∙ sym two.2)
  told_once (Short n own) one two first second = all_told (one.0 ∙ sym two.0) (one.1 ∙ sym two.1) (first ∙ sym second) (one.2 ∙ sym two.2)
  told_once (File n own) one two first second = all_told (one.0 ∙ sym two.0) (one.1 ∙ sym two.1) (first ∙ sym second) (one.2 ∙ sym two.2)
  told_once (Removal n) one two first second = all_told (one.0 ∙ sym two.0) (one.1 ∙ sym two.1) (first ∙ sym second) (one.2 ∙ sym two.2)
  told_once Settled one two first second =
      ap (λ (w : Word). left_by old segment at w name title len) one.0 ∙ sym (ap (λ (w : Word). left_by old segment at w named titled count) two.0)
  told_once Undone one two first second =
      ap (λ (w : Word). left_by old segment at w name title len) one.0 ∙ sym (ap (λ (w : Word). left_by old segment at w named titled count) two.0)

-- a title says one size
one_claim : (bytes : List ℕ) (size other : ℕ) → Claims bytes size → Claims bytes other → size ≡ other
one_claim bytes size other one two =
    let first = one.title in
    let second = two.title in
    let same = same_front one.kind two.kind one.len two.len (one.name ++ one.rest) (two.name ++ two.rest) first.right second.right
    (sym (append_assoc _ one.name one.rest) ∙ sym first.whole ∙ second.whole ∙ append_assoc _ two.name two.rest) in
    some_of size other (sym one.said ∙ ap (λ (k : ℕ). said_size k one.len) same.kinds ∙ ap (said_size two.kind) same.counts ∙ two.said)

-- what is taken, and what it leaves
record Alike (o p : Option ℕ) (one other : Seen) : Type 0 where
  pub taken : o ≡ p
  pub now : one ≡ other

one_taking : (bytes : List ℕ) (segment at : ℕ) (old one other : Seen) (o p : Option ℕ) → Takes bytes segment at old one o → Takes bytes segment at old other p → Alike o p one other
one_taking bytes segment at old one other o p (Whole said name title len size begins taken now) (Whole word named titled count sized began took then) =
    let same : begins.entry ≡ began.entry = one_record begins.entry began.entry begins.rest began.rest begins.right began.right (sym begins.whole ∙ began.whole) in
    let sizes : size ≡ sized = begins.counted ∙ ap (λ (e : Entry). length (spelled e)) same ∙ sym began.counted in
    record {
      taken = taken ∙ ap Some sizes ∙ sym took;
      now =
          now
          ∙ told_once old segment at said word name named title titled len count began.entry (subst (λ (e : Entry). Tells e said name len) same begins.tells) began.tells (begins.titled ∙ ap before_own same) began.titled
          ∙ sym then;
    }
one_taking bytes segment at old one other o p (Whole said name title len size begins taken now) (Damaged sized none claims took then) = absurd (none begins.entry begins.rest begins.right begins.whole)
one_taking bytes segment at old one other o p (Whole said name title len size begins taken now) (Ended none nothing took then) = absurd (none begins.entry begins.rest begins.right begins.whole)
one_taking bytes segment at old one other o p (Damaged size none claims taken now) (Whole said name title len sized begins took then) = absurd (none begins.entry begins.rest begins.right begins.whole)
one_taking bytes segment at old one other o p (Damaged size none claims taken now) (Damaged sized bare claimed took then) =
    record { taken = taken ∙ ap Some (one_claim bytes size sized claims claimed) ∙ sym took; now = now ∙ sym then }
one_taking bytes segment at old one other o p (Damaged size none claims taken now) (Ended bare nothing took then) = absurd (nothing size claims)
one_taking bytes segment at old one other o p (Ended none nothing taken now) (Whole said name title len sized begins took then) = absurd (none begins.entry begins.rest begins.right begins.whole)
one_taking bytes segment at old one other o p (Ended none nothing taken now) (Damaged sized bare claims took then) = absurd (nothing sized claims)
one_taking bytes segment at old one other o p (Ended none nothing taken now) (Ended bare empty took then) = record { taken = taken ∙ sym took; now = now ∙ sym then }

-- a reading from its first step on
data Follows (bytes : List ℕ) (segment end : ℕ) (last : Seen) : ℕ → Seen → Type 0 where
  Here : (at : ℕ) (seen : Seen) → at ≡ end → seen ≡ last → Follows bytes segment end last at seen
  Next : (at size : ℕ) (seen mid : Seen) → Takes (drop at bytes) segment at seen mid (Some size) → Follows bytes segment end last (at + size) mid → Follows bytes segment end last at seen

from_none : (n : ℕ) → 0 + n ≡ n
from_none n = omega arith

turned : (bytes : List ℕ) (segment end : ℕ) (old last mid : Seen) (at : ℕ) → Reads bytes segment 0 old mid at → Follows bytes segment end last at mid → Follows bytes segment end last 0 old
turned bytes segment end old last mid at Begun follows = follows
turned bytes segment end old last mid at (Then seen _ before size reads takes) follows = turned bytes segment end old last seen before reads
    (Next before size seen mid (subst (λ (n : ℕ). Takes (drop before bytes) segment n seen mid (Some size)) (from_none before) takes) follows)

no_more : (size : ℕ) → None ≡ Some size → ⊥
no_more size is = cc

ends_here : (bytes : List ℕ) (segment end : ℕ) (last : Seen) (at : ℕ) (seen : Seen) → at ≡ end → seen ≡ last → Takes (drop end bytes) segment end last last None → Takes (drop at bytes) segment at seen seen None
ends_here bytes segment end last at seen here same ends =
    subst (λ (s : Seen). Takes (drop at bytes) segment at s s None) (sym same) (subst (λ (n : ℕ). Takes (drop n bytes) segment n last last None) (sym here) ends)

one_way : (bytes : List ℕ) (segment end stop : ℕ) (last final : Seen) (at : ℕ) (seen : Seen) → Takes (drop end bytes) segment end last last None → Takes (drop stop bytes) segment stop final final None
    → Follows bytes segment end last at seen → Follows bytes segment stop final at seen → last ≡ final
one_way bytes segment end stop last final at seen ends stops (Here _ _ here same) (Here _ _ there equal) = sym same ∙ equal
one_way bytes segment end stop last final at seen ends stops (Here _ _ here same) (Next _ size _ mid takes follows) =
    absurd (no_more size (one_taking (drop at bytes) segment at seen seen mid None (Some size) (ends_here bytes segment end last at seen here same ends) takes).taken)
one_way bytes segment end stop last final at seen ends stops (Next _ size _ mid takes follows) (Here _ _ there equal) =
    absurd (no_more size (one_taking (drop at bytes) segment at seen seen mid None (Some size) (ends_here bytes segment stop final at seen there equal stops) takes).taken)
one_way bytes segment end stop last final at seen ends stops (Next _ size _ mid takes follows) (Next _ sized _ other took followed) =
    let same = one_taking (drop at bytes) segment at seen mid other (Some size) (Some sized) takes took in
    one_way bytes segment end stop last final (at + size) mid ends stops follows
    (subst (λ (s : Seen). Follows bytes segment stop final (at + size) s) (sym same.now) (subst (λ (n : ℕ). Follows bytes segment stop final (at + n) other) (sym (some_of size sized same.taken)) followed))

-- bytes have one reading
pub one_reading : (bytes : List ℕ) (segment : ℕ) (old one other : Seen) → ReadsAll bytes segment old one → ReadsAll bytes segment old other → one ≡ other
one_reading bytes segment old one other first second =
    one_way bytes segment first.count second.count one other 0 old first.ends second.ends
    (turned bytes segment first.count old one one first.count first.reads (Here first.count one refl refl)) (turned bytes segment second.count old other other second.count second.reads (Here second.count other refl refl))

one_adding : (files : Files) (called : List ℕ) (old one other : Shown) → Adds files called old one → Adds files called old other → one ≡ other
one_adding files called old one other (Nothing none is) (Nothing bare now) = is ∙ sym now
one_adding files called old one other (Nothing none is) (Records segment seen numbered reads now) = absurd (none segment numbered)
one_adding files called old one other (Records segment seen numbered reads is) (Nothing none now) = absurd (none segment numbered)
one_adding files called old one other (Records segment seen numbered reads is) (Records number saw called_so read now) =
    let same : segment ≡ number = sym numbered.2 ∙ called_so.2 in
    is ∙ ap (λ (s : Seen). s.shown) (one_reading (segment_of files segment) segment (seen_as old false) seen saw reads
    (subst (λ (n : ℕ). ReadsAll (segment_of files n) n (seen_as old false) saw) (sym same) read)) ∙ sym now

one_survey : (files : Files) (names : List (List ℕ)) (old one other : Shown) → Surveys files names old one → Surveys files names old other → one ≡ other
one_survey files [] old one other is now = is ∙ sym now
one_survey files (called ∷ names) old one other first second =
    one_survey files names first.0 one other first.2 (subst (λ (mid : Shown). Surveys files names mid other) (sym (one_adding files called old first.0 second.0 first.1 second.1)) second.2)

-- an opening shows one thing
pub one_opening : (files : Files) (one other : loose.Files) → Opens files one → Opens files other → one ≡ other
one_opening files one other first second =
    first.shows ∙ ap (λ (s : Shown). map_values (bytes_at files) (opened s)) (one_survey files (listed files) _ first.shown second.shown first.surveys second.surveys) ∙ sym second.shows
