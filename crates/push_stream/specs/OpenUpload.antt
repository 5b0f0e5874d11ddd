-- Uploads that are read as they are received (own): their value, and the value that they would have with the piece that was looked
-- at last.
use Rattle.std.specs.Prelude.{ℕ, ◌≡◌, ◌≤◌, ◌⊎◌, Bool, true, false, List, [], ◌++◌, Option, None, Some, is_some, option_map, length, map, take, refl, Err, ⊤}
use Rattle.std.proofs.Common.{inl, inr}
use Rattle.std.specs.Coded.{Coded, code_by, coded×, coded⊎, coded_ℕ, coded_bool, coded_list}
use Rattle.git_name.specs.Text.{Begins}
use Rattle.git_reftx.specs.declared.command.Command.{Command}
use Rattle.git_reftx.specs.declared.reading.TheConstants.{MAX_COMMANDS}
use Rattle.git_reftx.specs.contracts.command.Command as command
use Rattle.push_stream.specs.declared.draft.Draft.{Draft}
use Rattle.push_stream.specs.declared.draft.Mark.{Mark}
use Rattle.push_stream.specs.declared.fault.BodyError.{BodyError}
use Rattle.push_stream.specs.declared.fault.BodyError.TheVariants.{Fault, Memory}
use Rattle.push_stream.specs.declared.fault.StreamFault.{StreamFault}
use Rattle.push_stream.specs.declared.gaining.Added.{Added}
use Rattle.push_stream.specs.declared.open_upload.Kept.{Kept}
use Rattle.push_stream.specs.declared.content_limit.TheConstants.{MAX_REST}
use Rattle.push_stream.specs.declared.sent.Sent.{Sent}
use Rattle.push_stream.specs.declared.upload_limit.TheConstants.{MAX_UPLOAD}
use Rattle.push_stream.specs.contracts.fault.StreamFault as fault
use Rattle.push_stream.specs.contracts.sent.Sent as sent
use Rattle.push_stream.specs.Again.{Opening, Opens}
use Rattle.push_stream.specs.Gaining.{Awaits}
use Rattle.push_stream.specs.Reading.{Flow, Going, Broken, Reading, finished_flow, rest_in, sent_of}

-- its value, and the value that it would have with the piece that was looked at last
pub record OpenUploadValue : Type 0 where
  pub brief : Reading
  pub looked : Reading

-- whether a stream is broken
abbrev pub is_broken : Flow → Bool
is_broken (Going commands sent headed rest) = false
is_broken (Broken fault) = true

-- the error reports why a stream that ends here is not whole; running out of memory reports nothing
abbrev pub TellsEnd : Flow → BodyError → Type 0
TellsEnd flow (Fault fault) = finished_flow flow ≡ Err fault
TellsEnd flow Memory = ⊤

-- the commands of a stream
abbrev pub flow_commands : Flow → List Command
flow_commands (Going commands sent headed rest) = commands
flow_commands (Broken fault) = []

-- the state of a stream, unless it is broken
abbrev pub flow_from : List Command → List Sent → Bool → List ℕ → Option StreamFault → Flow
flow_from commands sent headed rest None = Going commands sent headed rest
flow_from commands sent headed rest (Some fault) = Broken fault

abbrev pub reading_from : Mark → List Command → List Sent → List ℕ → Reading
reading_from mark commands sent rest = record { count = mark.count; flow = flow_from commands sent mark.headed rest mark.fault }

-- the unfinished rest of a draft: one of its own, otherwise all bytes
abbrev pub rest_of : List ℕ → Option (List ℕ) → List ℕ
rest_of bytes None = bytes
rest_of bytes (Some rest) = rest

-- the reading of a draft
abbrev pub reading_at : Draft → Reading
reading_at draft = reading_from draft.mark draft.commands.items draft.sent.items (rest_of draft.bytes.items (option_map (λ rest. rest.items) draft.rest))

-- the header and the tail of a draft, and its reading
abbrev pub opening_at : Draft → Opening
opening_at draft = record { header = draft.header.items; tail = rest_of draft.bytes.items (option_map (λ rest. rest.items) draft.rest); reading = reading_at draft }

-- these commands and sent objects, with what was added appended
abbrev pub reading_with : ℕ → List Command → List Sent → Added → Reading
reading_with count commands sent added = record { count = count; flow = Going (commands ++ added.commands.items) (sent ++ map sent_of added.objects.items) added.headed added.rest.items }

-- the header with what was added appended, and the new rest
abbrev pub opening_with : ℕ → List ℕ → List Command → List Sent → Added → Opening
opening_with count header commands sent added = record { header = header ++ added.header.items; tail = added.rest.items; reading = reading_with count commands sent added }

-- the reading of what is kept of a draft
abbrev pub reading_kept : Kept → Draft → Reading
reading_kept kept draft = reading_from kept.mark (take kept.commands draft.commands.items) (take kept.sent draft.sent.items) (take kept.bytes draft.bytes.items)

-- the header, the tail and the reading of what is kept of a draft
abbrev pub opening_kept : Kept → Draft → Opening
opening_kept kept draft = record { header = take kept.header draft.header.items; tail = take kept.bytes draft.bytes.items; reading = reading_kept kept draft }

-- a reading within its limits; its record stays unfinished until there are this many bytes
pub record IsStanding (reading : Reading) (wanted : ℕ) : Type 0 where
  pub few : reading.count ≤ MAX_UPLOAD
  pub short : length (rest_in reading.flow) ≤ MAX_REST
  pub room : length (flow_commands reading.flow) ≤ MAX_COMMANDS
  pub waits : Awaits (rest_in reading.flow) wanted

-- nothing of a draft is lost
pub record Grows (old new : Draft) : Type 0 where
  pub header : Begins old.header.items new.header.items
  pub commands : Begins old.commands.items new.commands.items
  pub sent : Begins old.sent.items new.sent.items
  pub bytes : Begins old.bytes.items new.bytes.items

-- a draft has all that is kept of it
pub record HasKept (kept : Kept) (draft : Draft) : Type 0 where
  pub header : kept.header ≤ length draft.header.items
  pub commands : kept.commands ≤ length draft.commands.items
  pub sent : kept.sent ≤ length draft.sent.items
  pub bytes : kept.bytes ≤ length draft.bytes.items

-- the new draft is what was kept of the old one
pub record RollsBack (kept : Kept) (old new : Draft) : Type 0 where
  pub header : new.header.items ≡ take kept.header old.header.items
  pub commands : new.commands.items ≡ take kept.commands old.commands.items
  pub sent : new.sent.items ≡ take kept.sent old.sent.items
  pub bytes : new.bytes.items ≡ take kept.bytes old.bytes.items
  pub rest : new.rest ≡ None
  pub mark : new.mark ≡ kept.mark

-- of a broken stream no command and no name of an object is kept
abbrev pub KeepsFault : Kept → Type 0
KeepsFault kept = is_some kept.mark.fault ≡ true → (kept.commands ≡ 0) × (kept.sent ≡ 0)

-- what is kept of a draft exists, within the limits, and can be recovered, and so can what was looked at
pub record IsHeld (kept : Kept) (draft : Draft) : Type 0 where
  pub header : kept.header ≤ length draft.header.items
  pub commands : kept.commands ≤ length draft.commands.items
  pub sent : kept.sent ≤ length draft.sent.items
  pub bytes : kept.bytes ≤ length draft.bytes.items
  pub stands : IsStanding (reading_kept kept draft) kept.mark.wanted
  pub looked : IsStanding (reading_at draft) draft.mark.wanted
  pub opens : Opens (opening_kept kept draft)
  pub reopens : Opens (opening_at draft)
  pub lean : KeepsFault kept

-- an upload has a code, so that it can be a model's value
abbrev pub flow_parts : Flow → ((List Command × List Sent) × (Bool × List ℕ)) ⊎ StreamFault
flow_parts (Going commands sent headed rest) = inl ((commands, sent), (headed, rest))
flow_parts (Broken fault) = inr fault

abbrev pub flow : ((List Command × List Sent) × (Bool × List ℕ)) ⊎ StreamFault → Flow
flow (inl p) = Going p.0.0 p.0.1 p.1.0 p.1.1
flow (inr fault) = Broken fault

pub flow-parts : (f : Flow) → flow (flow_parts f) ≡ f
flow-parts (Going commands sent headed rest) = refl
flow-parts (Broken fault) = refl

abbrev flow_code : Coded Flow
flow_code = code_by (((List Command × List Sent) × (Bool × List ℕ)) ⊎ StreamFault) (coded⊎ (coded× (coded× (coded_list command.the_row.coded) (coded_list sent.the_row.coded)) (coded× coded_bool (coded_list coded_ℕ))) fault.the_row.coded) flow_parts flow flow-parts

abbrev pub reading_code : Coded Reading
reading_code = code_by (ℕ × Flow) (coded× coded_ℕ flow_code) (λ r. (r.count, r.flow)) (λ p. record { count = p.0; flow = p.1 }) (λ _. refl)

abbrev pub open_upload_code : Coded OpenUploadValue
open_upload_code = code_by (Reading × Reading) (coded× reading_code reading_code) (λ u. (u.brief, u.looked)) (λ p. record { brief = p.0; looked = p.1 }) (λ _. refl)
