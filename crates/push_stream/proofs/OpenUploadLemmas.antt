-- The value of a draft while a piece is looked at, and what of it is kept.
use Rattle.std.proofs.Common.{◌≡◌, ℕ, ◌+◌, ◌<◌, ◌≤◌, Bool, true, false, List, [], ◌++◌, Option, None, Some, Result, Ok, Err, OnOk, refl, sym, ap, ap₂, subst, ◌∙◌, is_some, option_map, length, length-append, take, append_assoc, append-nil, arith}
use Rattle.std.proofs.Math.Seq.{take-length}
use Rattle.std.proofs.lemmas.List.{length-take-le, take-append-le}
use Rattle.git_name.specs.Object.{Object}
use Rattle.git_name.specs.Text.{Begins}
use Rattle.git_reftx.specs.declared.command.Command.{Command}
use Rattle.git_reftx.specs.declared.reading.TheConstants.{MAX_COMMANDS}
use Rattle.push_stream.specs.declared.draft.Draft.{Draft}
use Rattle.push_stream.specs.declared.draft.Mark.{Mark}
use Rattle.push_stream.specs.declared.fault.StreamFault.{StreamFault}
use Rattle.push_stream.specs.declared.gaining.Added.{Added}
use Rattle.push_stream.specs.declared.open_upload.Kept.{Kept}
use Rattle.push_stream.specs.declared.content_limit.TheConstants.{MAX_REST}
use Rattle.push_stream.specs.declared.sent.Sent.{Sent}
use Rattle.push_stream.specs.declared.upload_limit.TheConstants.{MAX_UPLOAD}
use Rattle.push_stream.specs.Again.{Opens}
use Rattle.push_stream.specs.Gaining.{Awaits}
use Rattle.push_stream.specs.OpenUpload.{Grows, HasKept, IsHeld, IsStanding, RollsBack, flow_from, opening_at, opening_kept, reading_at, reading_from, reading_kept, reading_with, rest_of}
use Rattle.push_stream.specs.Reading.{Flow, Going, Reading, added_in, flow_of, gained, noted, read_on}
use Rattle.push_stream.specs.Record.{Open, record_at}
use Rattle.push_stream.specs.Stream.{Stream, Flows, records_in, sent_in}
use Rattle.push_stream.proofs.GainingLemmas.{open_in}
use Rattle.push_stream.proofs.RestLemmas.{open_short}

-- a broken stream stays so
pub broken_read : (count : ℕ) (commands : List Command) (sent : List Sent) (headed : Bool) (rest piece : List ℕ) (fault : Option StreamFault) → is_some fault ≡ true
    → ◌≡◌ {A = Reading} (record { count = count + length piece; flow = flow_from commands sent headed rest fault }) (read_on (record { count = count; flow = flow_from commands sent headed rest fault }) piece)
unfolding read_on
broken_read count commands sent headed rest piece None is = (let differs : ⊥ = cc in absurd differs)
broken_read count commands sent headed rest piece (Some fault) is = refl

-- what a stream that is not broken gains
pub added_read : (count : ℕ) (commands : List Command) (sent : List Sent) (headed : Bool) (bytes piece new : List ℕ) (own : Option (List ℕ)) (fault : Option StreamFault) (more : Stream)
    → own ≡ None → is_some fault ≡ false → new ≡ bytes ++ piece → added_in headed (length commands) new ≡ more
    → ◌≡◌ {A = Reading} (record { count = count + length piece; flow = noted commands sent (flow_of more) }) (read_on (record { count = count; flow = flow_from commands sent headed (rest_of bytes own) fault }) piece)
unfolding read_on
added_read count commands sent headed bytes piece new (Some rest) fault more whole right is found = (let differs : ⊥ = cc in absurd differs)
added_read count commands sent headed bytes piece new None (Some fault) more whole right is found = (let differs : ⊥ = cc in absurd differs)
added_read count commands sent headed bytes piece new None None more whole right is found =
    ap (λ (s : Stream). record { count = count + length piece; flow = noted commands sent (flow_of s) }) (sym found ∙ ap (added_in headed (length commands)) is)

-- a record that is not finished yet
open_flow : (commands : List Command) (sent : List Sent) (text : List ℕ) → ◌≡◌ {A = Flow} (Going commands sent true text) (noted commands sent (flow_of (Flows [] [] true text)))
open_flow commands sent text = sym (ap₂ (λ (c : List Command) (s : List Sent). Going c s true text) (append-nil commands) (append-nil sent))

-- a record stays unfinished
pub waits_on : (bytes piece new : List ℕ) (wanted : ℕ) → new ≡ bytes ++ piece → Awaits bytes wanted → length new < wanted → record_at new ≡ Open
waits_on bytes piece new wanted is waits few = ap record_at is ∙ waits piece (subst (λ (l : List ℕ). length l < wanted) is few)

pub short_read : (count : ℕ) (commands : List Command) (sent : List Sent) (headed : Bool) (bytes piece new : List ℕ) (own : Option (List ℕ)) (fault : Option StreamFault) (wanted : ℕ)
    → own ≡ None → is_some fault ≡ false → headed ≡ true → new ≡ bytes ++ piece → IsStanding (record { count = count; flow = flow_from commands sent headed (rest_of bytes own) fault }) wanted → length new < wanted
    → ◌≡◌ {A = Reading} (record { count = count + length piece; flow = flow_from commands sent headed (rest_of new own) fault }) (read_on (record { count = count; flow = flow_from commands sent headed (rest_of bytes own) fault }) piece)
short_read count commands sent headed bytes piece new (Some rest) fault wanted whole right front is stands few = (let differs : ⊥ = cc in absurd differs)
short_read count commands sent headed bytes piece new None (Some fault) wanted whole right front is stands few = (let differs : ⊥ = cc in absurd differs)
short_read count commands sent false bytes piece new None None wanted whole right front is stands few = (let differs : ⊥ = cc in absurd differs)
short_read count commands sent true bytes piece new None None wanted whole right front is stands few =
    let found : records_in (length new) new ≡ Flows [] [] true new = open_in (length new) new (waits_on bytes piece new wanted is stands.waits few) in
    ap (λ (f : Flow). record { count = count + length piece; flow = f }) (open_flow commands sent new)
    ∙ added_read count commands sent true bytes piece new None None (Flows [] [] true new) refl refl is found

-- so it brings no object
pub short_gained : (count : ℕ) (commands : List Command) (sent : List Sent) (headed : Bool) (bytes piece new : List ℕ) (own : Option (List ℕ)) (fault : Option StreamFault) (wanted : ℕ) (none : List Object)
    → own ≡ None → is_some fault ≡ false → headed ≡ true → new ≡ bytes ++ piece → IsStanding (record { count = count; flow = flow_from commands sent headed (rest_of bytes own) fault }) wanted → length new < wanted → none ≡ []
    → none ≡ gained (flow_from commands sent headed (rest_of bytes own) fault) piece
short_gained count commands sent headed bytes piece new (Some rest) fault wanted none whole right front is stands few empty = (let differs : ⊥ = cc in absurd differs)
short_gained count commands sent headed bytes piece new None (Some fault) wanted none whole right front is stands few empty = (let differs : ⊥ = cc in absurd differs)
short_gained count commands sent false bytes piece new None None wanted none whole right front is stands few empty = (let differs : ⊥ = cc in absurd differs)
short_gained count commands sent true bytes piece new None None wanted none whole right front is stands few empty =
    empty ∙ ap sent_in (sym (open_in (length (bytes ++ piece)) (bytes ++ piece) (ap record_at (sym is) ∙ waits_on bytes piece new wanted is stands.waits few)))

pub short_stands : (count : ℕ) (commands : List Command) (sent : List Sent) (headed : Bool) (bytes piece new : List ℕ) (own : Option (List ℕ)) (fault : Option StreamFault) (wanted : ℕ)
    → own ≡ None → is_some fault ≡ false → new ≡ bytes ++ piece → IsStanding (record { count = count; flow = flow_from commands sent headed (rest_of bytes own) fault }) wanted → length new < wanted → count + length piece ≤ MAX_UPLOAD
    → IsStanding (record { count = count + length piece; flow = flow_from commands sent headed (rest_of new own) fault }) wanted
short_stands count commands sent headed bytes piece new (Some rest) fault wanted whole right is stands few fits = (let differs : ⊥ = cc in absurd differs)
short_stands count commands sent headed bytes piece new None (Some fault) wanted whole right is stands few fits = (let differs : ⊥ = cc in absurd differs)
short_stands count commands sent headed bytes piece new None None wanted whole right is stands few fits = record {
  few = fits;
  short = open_short new (waits_on bytes piece new wanted is stands.waits few);
  room = stands.room;
  waits = λ more low.
      let joined : new ++ more ≡ bytes ++ (piece ++ more) = ap (λ (l : List ℕ). l ++ more) is ∙ append_assoc bytes piece more in
      ap record_at joined ∙ stands.waits (piece ++ more) (subst (λ (l : List ℕ). length l < wanted) joined low);
}

-- two facts of what was done give a third
pub both_ok : {T E P Q R : Type 0} (r : Result T E) → (P → Q → R) → OnOk r P → OnOk r Q → OnOk r R
both_ok (Ok value) more first second = more first second
both_ok (Err error) more first second = tt

-- what was added leaves a stream within its limits
pub added_stands : (reading : Reading) (wanted count : ℕ) (commands : List Command) (sent : List Sent) (added : Added) → count ≤ MAX_UPLOAD → length commands + length added.commands.items ≤ MAX_COMMANDS → length added.rest.items ≤ MAX_REST → Awaits added.rest.items added.wanted
    → reading ≡ reading_with count commands sent added → wanted ≡ added.wanted → IsStanding reading wanted
added_stands reading wanted count commands sent added fits few short waits is same =
    let joined : length (commands ++ added.commands.items) ≡ length commands + length added.commands.items = length-append commands added.commands.items in
    let stands : IsStanding (reading_with count commands sent added) added.wanted = record {
      few = fits;
      short = short;
      room = omega arith;
      waits = waits;
    } in
    subst (λ n. IsStanding reading n) (sym same) (subst (λ r. IsStanding r added.wanted) (sym is) stands)

-- ---- what is kept
-- the front of a list that was cut to it and then grew
front_kept : {A : Type 0} (n : ℕ) (old mid new : List A) → n ≤ length old → mid ≡ take n old → Begins mid new → (n ≤ length new) × (take n new ≡ take n old)
front_kept n old mid new fits cut more =
    let sized : length mid ≡ n = ap (λ l. length l) cut ∙ length-take-le n old fits in
    let grown : length new ≡ length mid + length more.0 = ap (λ l. length l) more.1 ∙ length-append mid more.0 in
    (omega arith, ap (take n) more.1 ∙ take-append-le n mid more.0 (omega arith) ∙ ap (λ m. take m mid) (sym sized) ∙ take-length mid ∙ cut)

pub kept_within : (kept : Kept) (old mid new : Draft) → HasKept kept old → RollsBack kept old mid → Grows mid new → HasKept kept new
kept_within kept old mid new has back more = record {
  header = (front_kept kept.header old.header.items mid.header.items new.header.items has.header back.header more.header).0;
  commands = (front_kept kept.commands old.commands.items mid.commands.items new.commands.items has.commands back.commands more.commands).0;
  sent = (front_kept kept.sent old.sent.items mid.sent.items new.sent.items has.sent back.sent more.sent).0;
  bytes = (front_kept kept.bytes old.bytes.items mid.bytes.items new.bytes.items has.bytes back.bytes more.bytes).0;
}

pub kept_same : (kept : Kept) (old mid new : Draft) → HasKept kept old → RollsBack kept old mid → Grows mid new → reading_kept kept new ≡ reading_kept kept old
kept_same kept old mid new has back more =
    let commands = (front_kept kept.commands old.commands.items mid.commands.items new.commands.items has.commands back.commands more.commands).1 in
    let sent = (front_kept kept.sent old.sent.items mid.sent.items new.sent.items has.sent back.sent more.sent).1 in
    let bytes = (front_kept kept.bytes old.bytes.items mid.bytes.items new.bytes.items has.bytes back.bytes more.bytes).1 in
    λ i. reading_from kept.mark (commands i) (sent i) (bytes i)

-- and so are its header and its tail
opening_same : (kept : Kept) (old mid new : Draft) → HasKept kept old → RollsBack kept old mid → Grows mid new → opening_kept kept new ≡ opening_kept kept old
opening_same kept old mid new has back more =
    let header = (front_kept kept.header old.header.items mid.header.items new.header.items has.header back.header more.header).1 in
    let bytes = (front_kept kept.bytes old.bytes.items mid.bytes.items new.bytes.items has.bytes back.bytes more.bytes).1 in
    let reading = kept_same kept old mid new has back more in
    λ i. record { header = header i; tail = bytes i; reading = reading i }

-- a draft that is rolled back has the reading of what is kept of it
pub rolled_reading : (kept : Kept) (old mid : Draft) → RollsBack kept old mid → reading_at mid ≡ reading_kept kept old
rolled_reading kept old mid back =
    let rest = ap (λ o. rest_of mid.bytes.items (option_map (λ rest. rest.items) o)) back.rest ∙ back.bytes in
    λ i. reading_from (back.mark i) (back.commands i) (back.sent i) (rest i)

-- and can be opened again
pub rolled_opens : (kept : Kept) (old mid : Draft) → RollsBack kept old mid → Opens (opening_kept kept old) → Opens (opening_at mid)
rolled_opens kept old mid back opens =
    let rest = ap (λ o. rest_of mid.bytes.items (option_map (λ rest. rest.items) o)) back.rest ∙ back.bytes in
    let reading = rolled_reading kept old mid back in
    let same : opening_at mid ≡ opening_kept kept old = λ i. record { header = back.header i; tail = rest i; reading = reading i } in
    subst Opens (sym same) opens

pub rolled_stands : (kept : Kept) (old mid : Draft) → RollsBack kept old mid → IsStanding (reading_kept kept old) kept.mark.wanted → IsStanding (reading_at mid) mid.mark.wanted
rolled_stands kept old mid back stands =
    subst (λ n. IsStanding (reading_at mid) n) (sym (ap (λ (m : Mark). m.wanted) back.mark)) (subst (λ r. IsStanding r kept.mark.wanted) (sym (rolled_reading kept old mid back)) stands)

grows_still : (draft : Draft) → Grows draft draft
grows_still draft = record { header = ([], sym (append-nil draft.header.items)); commands = ([], sym (append-nil draft.commands.items)); sent = ([], sym (append-nil draft.sent.items)); bytes = ([], sym (append-nil draft.bytes.items)) }

abbrev pub has_of : (kept : Kept) (draft : Draft) → IsHeld kept draft → HasKept kept draft
has_of kept draft held = record { header = held.header; commands = held.commands; sent = held.sent; bytes = held.bytes }

-- a piece was looked at
pub held_on : (kept : Kept) (old mid new : Draft) → IsHeld kept old → RollsBack kept old mid → Grows mid new → IsStanding (reading_at new) new.mark.wanted → Opens (opening_at new) → IsHeld kept new
held_on kept old mid new held back more looked reopens =
    let within = kept_within kept old mid new (has_of kept old held) back more in
    record {
      header = within.header;
      commands = within.commands;
      sent = within.sent;
      bytes = within.bytes;
      stands = subst (λ r. IsStanding r kept.mark.wanted) (sym (kept_same kept old mid new (has_of kept old held) back more)) held.stands;
      looked = looked;
      opens = subst Opens (sym (opening_same kept old mid new (has_of kept old held) back more)) held.opens;
      reopens = reopens;
      lean = held.lean;
    }

-- or could not be, and is rolled back
pub held_back : (kept : Kept) (old mid new last : Draft) → IsHeld kept old → RollsBack kept old mid → Grows mid new → RollsBack kept new last → IsHeld kept last
held_back kept old mid new last held back more again =
    let has = kept_within kept old mid new (has_of kept old held) back more in
    let within = kept_within kept new last last has again (grows_still last) in
    let stands = subst (λ r. IsStanding r kept.mark.wanted) (sym (kept_same kept old mid new (has_of kept old held) back more)) held.stands in
    let opens = subst Opens (sym (opening_same kept old mid new (has_of kept old held) back more)) held.opens in
    record {
      header = within.header;
      commands = within.commands;
      sent = within.sent;
      bytes = within.bytes;
      stands = subst (λ r. IsStanding r kept.mark.wanted) (sym (kept_same kept new last last has again (grows_still last))) stands;
      looked = rolled_stands kept new last again stands;
      opens = subst Opens (sym (opening_same kept new last last has again (grows_still last))) opens;
      reopens = rolled_opens kept new last again opens;
      lean = held.lean;
    }

pub back_same : (kept : Kept) (old mid new last : Draft) → IsHeld kept old → RollsBack kept old mid → Grows mid new → RollsBack kept new last → reading_kept kept last ≡ reading_kept kept old
back_same kept old mid new last held back more again =
    let has = kept_within kept old mid new (has_of kept old held) back more in
    kept_same kept new last last has again (grows_still last) ∙ kept_same kept old mid new (has_of kept old held) back more
