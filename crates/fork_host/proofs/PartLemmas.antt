-- Rows of uploads: a piece is received, the upload ends, or it is discarded.
use Rattle.std.proofs.Common.{◌≡◌, ℕ, ◌+◌, ◌-◌, ◌≤◌, Bool, true, false, cond, IsTrue, List, [], ◌++◌, Option, None, Some, Result, Ok, Err, refl, sym, ap, subst, ◌∙◌, is_some, length, length-append, arith}
use Rattle.std.specs.Prelude.{Contains, IfErr, IfOk, nat_lt}
use Rattle.std.proofs.lemmas.Bool.Decides.{nat_tests}
use Rattle.std.specs.Option.{option_map}
use Rattle.std.specs.FinMap.{empty}
use Rattle.std.proofs.lemmas.List.{map-append}
use Rattle.std.proofs.lemmas.List.Elements.{Contains-append_right}
use Rattle.git_name.specs.Object.{Object, object_name}
use Rattle.git_reftx.specs.declared.command.Command.{Command}
use Rattle.git_reftx.specs.declared.reading.TheConstants.{MAX_COMMANDS}
use Rattle.looks.specs.Growth.{GrowsAmong}
use Rattle.looks.specs.Places.{Places}
use Rattle.looks.proofs.GrowthLemmas.{grows_more}
use Rattle.push_stream.specs.declared.brief.Brief.{Brief}
use Rattle.push_stream.specs.declared.fault.BodyError.{BodyError}
use Rattle.push_stream.specs.declared.fault.BodyError.TheVariants.{Fault, Memory}
use Rattle.push_stream.specs.declared.fault.StreamFault.{StreamFault}
use Rattle.push_stream.specs.declared.upload_limit.TheConstants.{MAX_UPLOAD}
use Rattle.push_stream.specs.Brief.{brief_of}
use Rattle.push_stream.specs.OpenUpload.{TellsEnd}
use Rattle.push_stream.specs.Reading.{Broken, Flow, Going, Reading, finished_flow, flow_of, gained, reading_of}
use Rattle.push_stream.specs.Stream.{Breaks, Flows, Stream, behind, finished, header_in, records_in, sent_in, stream_of}
use Rattle.push_stream.specs.Upload.{UploadValue, continued, stream_with, upload_of}
use Rattle.push_stream.proofs.PieceLemmas.{piece_joins}
use Rattle.push_stream.proofs.ReadingLemmas.{finished_is}
use Rattle.fork_request.specs.Told.{is_done, is_host_fault}
use Rattle.fork_request.specs.declared.refusal.Refusal.TheVariants.{NoUpload, StagedTooLong}
use Rattle.fork_request.specs.declared.reply.Reply.{Reply}
use Rattle.fork_request.specs.declared.reply.Reply.TheVariants.{Done, Unchanged, Failed, Refused}
use Rattle.fork_reach.specs.Source.{Objects}
use Rattle.fork_ledger.specs.Tenants.{VaultState}
use Rattle.fork_ledger.specs.AllStaged.{StoresAmong}
use Rattle.fork_model.specs.Answer.{Finished, upload_ended, open_upload, part_answer, part_drop_answer, without_upload}
use Rattle.fork_model.specs.Sound.{IsOrderly}
use Rattle.fork_model.specs.Uploads.{stream_among, upload_among}
use Rattle.fork_model.specs.View.{View}
use Rattle.fork_host.specs.Bounds.{IsBounded, IsCollision}
use Rattle.fork_host.specs.Fed.{IsFed, Fed, Full, Unfed}
use Rattle.fork_host.specs.Made.{Made}
use Rattle.fork_host.specs.Own.{KeepsSeen, KeepsStaged, staged_in, visible_in}
use Rattle.fork_host.specs.Pushed.{TellsBrief}
use Rattle.fork_host.specs.Rows.{plain, Gives, Given, Yields, Yielded, Lacking, Faulted}
use Rattle.fork_host.specs.Safe.{IsSafe}
use Rattle.fork_host.specs.Sent.{sent_names}
use Rattle.fork_host.specs.Shown.{Account, seen_by, shown}
use Rattle.fork_host.specs.Staged.{Came, IsStaged}
use Rattle.fork_host.proofs.SafeLemmas.{orderly_measured, shape_measured}
use Rattle.fork_host.proofs.MadeLemmas.{same_made}
use Rattle.fork_host.proofs.StagedLemmas.{came_none, came_upload, staged_kept_still}

-- an account with this upload
abbrev pub with_upload : Account → Option Reading → Account
with_upload account upload = record account { upload = upload }

-- an upload, open or empty, was continued by a piece, with this result
pub record IsPart (own : List ℕ) (waits now : Option Reading) (old new : Reading) (body : List ℕ) (before : VaultState) (reply : Reply) (after : VaultState) : Type 0 where
  pub bytes : List ℕ
  pub came : Came before.honest bytes old (staged_in before own)
  pub opened : IsTrue before.honest → open_upload (option_map (upload_among (staged_in before own)) waits) ≡ upload_of bytes
  pub fed : IsFed own old body before reply new after
  pub done : is_done reply ≡ true → now ≡ Some new
  pub still : is_done reply ≡ false → now ≡ waits

-- if the piece was not taken, the upload is as it was
unfed : (own : List ℕ) (old new : Reading) (body : List ℕ) (before after : VaultState) (reply : Reply) → is_done reply ≡ false → IsFed own old body before reply new after → new ≡ old
unfed own old new body before after reply not_done (Fed told room more) = (let differs : ⊥ = cc (sym not_done ∙ ap is_done told) in absurd differs)
unfed own old new body before after reply not_done (Full told room same kept) = same
unfed own old new body before after reply not_done (Unfed fault told same kept) = same

-- an upload that is open
pub part_more : (own : List ℕ) (waits : Option Reading) (old new : Reading) (body : List ℕ) (before after : VaultState) (reply : Reply) → waits ≡ Some old → IsStaged before.honest waits (staged_in before own) → IsFed own old body before reply new after
    → IsPart own waits (Some new) old new body before reply after
part_more own waits old new body before after reply is staged fed =
    let came = subst (λ upload. IsStaged before.honest upload (staged_in before own)) is staged in
    record {
      bytes = came.0;
      came = came.1;
      opened = λ honest. ap (λ upload. open_upload (option_map (upload_among (staged_in before own)) upload)) is ∙ came_upload came.0 old before.honest (staged_in before own) honest came.1;
      fed = fed;
      done = λ _. refl;
      still = λ not_done. ap Some (unfed own old new body before after reply not_done fed) ∙ sym is;
    }

-- an upload that begins
part_begun : (own : List ℕ) (waits now : Option Reading) (old new : Reading) (body : List ℕ) (before after : VaultState) (reply : Reply) → waits ≡ None → old ≡ reading_of [] → IsStaged before.honest waits (staged_in before own)
    → IsFed own old body before reply new after → (is_done reply ≡ true → now ≡ Some new) → (is_done reply ≡ false → now ≡ waits) → IsPart own waits now old new body before reply after
part_begun own waits now old new body before after reply is begins staged fed done still =
    let none : staged_in before own ≡ empty = subst (λ upload. IsStaged before.honest upload (staged_in before own)) is staged in
    record {
      bytes = [];
      came = subst (λ reading. Came before.honest [] reading (staged_in before own)) (sym begins) (came_none before.honest (staged_in before own) none);
      opened = λ honest. ap (λ upload. open_upload (option_map (upload_among (staged_in before own)) upload)) is;
      fed = fed;
      done = done;
      still = still;
    }

-- if the piece is not taken, none is open afterwards either
pub part_kept : (own : List ℕ) (waits : Option Reading) (old new : Reading) (body : List ℕ) (before after : VaultState) (reply : Reply) → waits ≡ None → old ≡ reading_of [] → IsStaged before.honest waits (staged_in before own)
    → IsFed own old body before reply new after → is_done reply ≡ false → IsPart own waits waits old new body before reply after
part_kept own waits old new body before after reply is begins staged fed not_done =
    part_begun own waits waits old new body before after reply is begins staged fed (λ done. (let differs : ⊥ = cc (sym done ∙ not_done) in absurd differs)) (λ _. refl)

-- and if it is taken, the upload is open
pub part_opened : (own : List ℕ) (waits : Option Reading) (old new : Reading) (body : List ℕ) (before after : VaultState) (reply : Reply) → waits ≡ None → old ≡ reading_of [] → IsStaged before.honest waits (staged_in before own)
    → IsFed own old body before reply new after → is_done reply ≡ true → IsPart own waits (Some new) old new body before reply after
part_opened own waits old new body before after reply is begins staged fed done =
    part_begun own waits (Some new) old new body before after reply is begins staged fed (λ _. refl) (λ not_done. (let differs : ⊥ = cc (sym not_done ∙ done) in absurd differs))

-- the views are the same if what is staged, what is seen and whether an upload is open stay
same_shown : (account : Account) (own : List ℕ) (waits now : Option Reading) (before after : VaultState) → now ≡ waits → staged_in after own ≡ staged_in before own → visible_in after own ≡ visible_in before own
    → shown (with_upload account now) after own ≡ shown (with_upload account waits) before own
same_shown account own waits now before after upload staged seen = λ i. seen_by (with_upload account (upload i)) (record { visible = seen i; staged = staged i })

-- the row of a piece
pub part_row : (account : Account) (own : List ℕ) (waits now : Option Reading) (old new : Reading) (body : List ℕ) (before after : VaultState) (reply : Reply) → IsTrue before.honest → KeepsSeen own before after → IsPart own waits now old new body before reply after
    → Yields (part_answer (shown (with_upload account waits) before own) body) (shown (with_upload account waits) before own) reply (shown (with_upload account now) after own)
unfolding part_answer
part_row account own waits now old new body before after reply honest seen part = by part.fed
  where
    view : View
    view = shown (with_upload account waits) before own

    counted : (open_upload view.upload).count ≡ old.count
    counted = ap (λ (upload : UploadValue). upload.count) (part.opened honest) ∙ ap (λ (reading : Reading). reading.count) part.came.read

    row : (b : Bool) → nat_lt MAX_UPLOAD (old.count + length body) ≡ b
        → part_answer view body ≡ cond b (Refused StagedTooLong, view) (Done [], record view { upload = Some (continued (open_upload view.upload) body) })
    row b is = ap (λ t. cond t (Refused StagedTooLong, view) (Done [], record view { upload = Some (continued (open_upload view.upload) body) }))
        (ap (λ n. nat_lt MAX_UPLOAD (n + length body)) counted ∙ is)

    grown : Came before.honest (part.bytes ++ body) new (staged_in after own) → upload_among (staged_in after own) new ≡ continued (open_upload view.upload) body
    grown came = came_upload (part.bytes ++ body) new before.honest (staged_in after own) honest came ∙ sym (piece_joins part.bytes body) ∙ ap (λ (upload : UploadValue). continued upload body) (sym (part.opened honest))

    by : IsFed own old body before reply new after → Yields (part_answer view body) view reply (shown (with_upload account now) after own)
    by (Fed told room more) =
        let is = row false room in
        let upload : option_map (upload_among (staged_in after own)) now ≡ Some (continued (open_upload view.upload) body) = ap (option_map (upload_among (staged_in after own))) (part.done (ap is_done told)) ∙ ap Some (grown (more part.bytes part.came)) in
        Yielded (told ∙ sym (ap (λ (r : Reply × View). r.0) is))
        (ap plain ((λ i. record (seen_by account (record { visible = seen.exact honest i; staged = empty })) { upload = upload i }) ∙ sym (ap (λ (r : Reply × View). r.1) is)))
    by (Full told room same kept) =
        let is = row true room in
        Yielded (told ∙ sym (ap (λ (r : Reply × View). r.0) is))
        (ap plain (same_shown account own waits now before after (part.still (ap is_done told)) (kept.exact honest) (seen.exact honest) ∙ sym (ap (λ (r : Reply × View). r.1) is)))
    by (Unfed fault told same kept) = Faulted fault told (ap plain (same_shown account own waits now before after (part.still (ap is_done told)) (kept.exact honest) (seen.exact honest)))

-- an upload within its limit
within : (count more : ℕ) → nat_lt MAX_UPLOAD (count + more) ≡ false → count + more ≤ MAX_UPLOAD
within count more is = grind (arith, nat_tests)

-- another upload, within its limit
orderly_opened : (view : View) (other : Option UploadValue) → ((waits : UploadValue) → other ≡ Some waits → waits.count ≤ MAX_UPLOAD) → IsOrderly view → IsOrderly (record view { upload = other })
orderly_opened view other few orderly = record {
  upload = few;
  within_limit = orderly.within_limit;
  limit = orderly.limit;
  few_repositories = orderly.few_repositories;
  repositories = orderly.repositories;
  heads = orderly.heads;
  references = orderly.references;
  few_offers = orderly.few_offers;
  offers = orderly.offers;
}

-- an open upload with its objects is within a limit if its reading is
counted_among : (staged : Objects) (waits : Option Reading) (n : ℕ) → ((reading : Reading) → waits ≡ Some reading → reading.count ≤ n) → (upload : UploadValue) → option_map (upload_among staged) waits ≡ Some upload → upload.count ≤ n
counted_among staged None n few upload is = absurd (cc)
counted_among staged (Some reading) n few upload is =
    let same : reading.count ≡ upload.count = cc in
    subst (λ m. m ≤ n) same (few reading refl)

-- and the reading is if the upload is
counts_among : (staged : Objects) (waits : Option Reading) (n : ℕ) → ((upload : UploadValue) → option_map (upload_among staged) waits ≡ Some upload → upload.count ≤ n) → (reading : Reading) → waits ≡ Some reading → reading.count ≤ n
counts_among staged None n few reading is = absurd (cc)
counts_among staged (Some waits) n few reading is =
    let same : waits.count ≡ reading.count = cc in
    subst (λ m. m ≤ n) same (few (upload_among staged waits) refl)

-- over any store a piece leaves a view in order
part_few : (own : List ℕ) (waits now : Option Reading) (old new : Reading) (body : List ℕ) (before after : VaultState) (reply : Reply) → IsPart own waits now old new body before reply after → ((reading : Reading) → waits ≡ Some reading → reading.count ≤ MAX_UPLOAD)
    → (reading : Reading) → now ≡ Some reading → reading.count ≤ MAX_UPLOAD
part_few own waits now old new body before after reply part few reading is = by part.fed
  where
    by : IsFed own old body before reply new after → reading.count ≤ MAX_UPLOAD
    by (Fed told room more) =
        let opened : Some new ≡ Some reading = sym (part.done (ap is_done told)) ∙ is in
        let same : new ≡ reading = cc in
        let all : length (part.bytes ++ body) ≡ reading.count = ap (λ (r : Reading). r.count) ((more part.bytes part.came).read ∙ same) in
        let first : length part.bytes ≡ old.count = ap (λ (r : Reading). r.count) part.came.read in
        let joined : length (part.bytes ++ body) ≡ length part.bytes + length body = length-append part.bytes body in
        let fits : old.count + length body ≤ MAX_UPLOAD = within old.count (length body) room in
        subst (λ n. n ≤ MAX_UPLOAD) (ap (λ n. n + length body) (sym first) ∙ sym joined ∙ all) fits
    by (Full told room same kept) = few reading (sym (part.still (ap is_done told)) ∙ is)
    by (Unfed fault told same kept) = few reading (sym (part.still (ap is_done told)) ∙ is)

pub part_safe : (Within : Reply → Type 0) (account : Account) (own : List ℕ) (waits now : Option Reading) (old new : Reading) (body : List ℕ) (before after : VaultState) (reply : Reply) → Within reply → KeepsSeen own before after → IsPart own waits now old new body before reply after
    → IsSafe Within (shown (with_upload account waits) before own) reply (shown (with_upload account now) after own)
part_safe Within account own waits now old new body before after reply within seen part =
    let first = shown (with_upload account waits) before own in
    let last = shown (with_upload account now) after own in
    let made = same_made account.made (visible_in before own) (visible_in after own) in
    record {
      orderly = λ orderly.
          orderly_opened (record last { upload = first.upload }) last.upload
          (counted_among (staged_in after own) now MAX_UPLOAD (part_few own waits now old new body before after reply part (counts_among (staged_in before own) waits MAX_UPLOAD orderly.upload)))
          (orderly_measured account.repositories (visible_in before own) (visible_in after own) first (record last { upload = first.upload }) account.limit seen.shape (record { counted = refl; made = made }) orderly);
      kept = λ _. shape_measured account.repositories (visible_in before own) (visible_in after own) first last account.limit seen.shape made;
      faults = within;
    }

-- the objects that the upload has with the piece, over an honest store
pub part_sent : (account : Account) (own : List ℕ) (waits now : Option Reading) (old new : Reading) (body : List ℕ) (before after : VaultState) (reply : Reply) → (part : IsPart own waits now old new body before reply after) → IsTrue before.honest
    → sent_in (stream_of (part.bytes ++ body)) ≡ sent_in (continued (open_upload (shown (with_upload account waits) before own).upload) body).stream
part_sent account own waits now old new body before after reply part honest =
    ap (λ (upload : UploadValue). sent_in upload.stream) (sym (piece_joins part.bytes body) ∙ ap (λ (upload : UploadValue). continued upload body) (sym (part.opened honest)))

-- what was received is staged
pub part_staged : (own : List ℕ) (waits now : Option Reading) (old new : Reading) (body : List ℕ) (before after : VaultState) (reply : Reply) → IsStaged before.honest waits (staged_in before own) → IsPart own waits now old new body before reply after
    → IsStaged before.honest now (staged_in after own)
part_staged own waits now old new body before after reply staged part = by part.fed
  where
    stays : KeepsStaged own before after → now ≡ waits → IsStaged before.honest now (staged_in after own)
    stays kept same = subst (λ upload. IsStaged before.honest upload (staged_in after own)) (sym same) (staged_kept_still before after own waits kept staged)

    by : IsFed own old body before reply new after → IsStaged before.honest now (staged_in after own)
    by (Fed told room more) = subst (λ upload. IsStaged before.honest upload (staged_in after own)) (sym (part.done (ap is_done told))) (part.bytes ++ body, more part.bytes part.came)
    by (Full told room same kept) = stays kept (part.still (ap is_done told))
    by (Unfed fault told same kept) = stays kept (part.still (ap is_done told))

-- ---- the end of an upload
-- a fault of the brief is a fault of the stream
same_end : (held : Finished) (fault : StreamFault) → brief_of held ≡ Err fault → held ≡ Err fault
same_end (Ok held) fault is = absurd (cc)
same_end (Err other) fault is =
    let same : other ≡ fault = cc in
    ap Err same

pub tells_brief : (bytes : List ℕ) (reading : Reading) (r : Result Brief BodyError) → reading_of bytes ≡ reading → IfOk r (λ brief. finished_flow reading.flow ≡ Ok (brief.commands.items, brief.names.items)) → IfErr r (TellsEnd reading.flow)
    → TellsBrief (finished (stream_of bytes)) r
tells_brief bytes reading (Ok brief) read found exact = sym (finished_is (stream_of bytes)) ∙ ap (λ (r : Reading). finished_flow r.flow) read ∙ found
tells_brief bytes reading (Err (Fault fault)) read found exact = same_end (finished (stream_of bytes)) fault (sym (finished_is (stream_of bytes)) ∙ ap (λ (r : Reading). finished_flow r.flow) read ∙ exact)
tells_brief bytes reading (Err Memory) read found exact = tt

-- a row that ends the upload
pub ended_told : (row : Reply × View) (old : View) (reply : Reply) (new : View) → is_host_fault reply ≡ false → Yields row old reply new → Yields (upload_ended row) old reply (without_upload new)
ended_told row old reply new told (Yielded is same) = Yielded is (ap (λ (p : View × Made). (without_upload p.0, p.1)) same)
ended_told row old reply new told (Lacking wanting stays) = (let differs : ⊥ = cc (sym told ∙ ap is_host_fault wanting) in absurd differs)
ended_told row old reply new told (Faulted fault is stays) = (let differs : ⊥ = cc (sym told ∙ ap is_host_fault is) in absurd differs)

-- ---- an upload is discarded
is_some_among : (staged : Objects) (waits : Option Reading) → is_some (option_map (upload_among staged) waits) ≡ is_some waits
is_some_among staged None = refl
is_some_among staged (Some reading) = refl

pub drop_row : (account : Account) (own : List ℕ) (waits : Option Reading) (before after : VaultState) (reply : Reply) → is_some waits ≡ true → reply ≡ Done [] → visible_in after own ≡ visible_in before own
    → Gives (part_drop_answer (shown (with_upload account waits) before own)) (shown (with_upload account waits) before own) reply (shown (with_upload account None) after own)
unfolding part_drop_answer
drop_row account own waits before after reply is told seen =
    let view = shown (with_upload account waits) before own in
    let row = ap (λ b. cond b (Done [], without_upload view) (Refused NoUpload, view)) (is_some_among (staged_in before own) waits ∙ is) in
    Given (told ∙ sym (ap (λ (r : Reply × View). r.0) row)) ((λ i. seen_by (with_upload account None) (record { visible = seen i; staged = empty })) ∙ sym (ap (λ (r : Reply × View). r.1) row))

pub drop_refused : (account : Account) (own : List ℕ) (vault : VaultState) → is_some account.upload ≡ false
    → Gives (part_drop_answer (shown account vault own)) (shown account vault own) (Refused NoUpload) (shown account vault own)
unfolding part_drop_answer
drop_refused account own vault none =
    let view = shown account vault own in
    let row = ap (λ b. cond b (Done [], without_upload view) (Refused NoUpload, view)) (is_some_among (staged_in vault own) account.upload ∙ none) in
    Given (sym (ap (λ (r : Reply × View). r.0) row)) (sym (ap (λ (r : Reply × View). r.1) row))

-- ---- bounds
-- over an honest store the bounds are about what was sent
pub bounded_among : (sent others : List Object) (a b : VaultState) (reply : Reply) → (IsTrue a.honest → sent ≡ others) → IsBounded sent a b reply → IsBounded others a b reply
bounded_among sent others a b reply same bounded = record {
  honest = bounded.honest;
  counted = bounded.counted;
  undamaged = bounded.undamaged;
  collided = λ honest is. subst (λ objects. IsCollision objects a.files) (same honest) (bounded.collided honest is);
  stored = λ honest store memory. subst (λ objects. StoresAmong objects a.files b.files) (same honest) (bounded.stored honest store memory);
}

-- ---- accounts and views
-- no upload is open
pub none_waits : {A B : Type 0} (f : A → B) (upload : Option A) → is_some upload ≡ false → option_map f upload ≡ None
none_waits f None is = refl
none_waits f (Some a) is = absurd (cc)

-- so nothing is staged
pub staged_none : (honest : Bool) (upload : Option Reading) (staged : Objects) → upload ≡ None → IsStaged honest upload staged → staged ≡ empty
staged_none honest upload staged none is = subst (λ u. IsStaged honest u staged) none is

-- if one is open, what was received is staged
pub staged_some : (honest : Bool) (upload : Option Reading) (reading : Reading) (staged : Objects) → upload ≡ Some reading → IsStaged honest upload staged → (bytes : List ℕ) × Came honest bytes reading staged
staged_some honest upload reading staged some is = subst (λ u. IsStaged honest u staged) some is

-- what holds of views holds of equal views
pub yields_as : (row : View → Reply × View) (old view now new : View) (reply : Reply) → old ≡ view → now ≡ new → Yields (row old) old reply now → Yields (row view) view reply new
yields_as row old view now new reply is same yields = subst (λ v. Yields (row v) v reply new) is (subst (λ v. Yields (row old) old reply v) same yields)

pub safe_as : (Within : Reply → Type 0) (old view now new : View) (reply : Reply) → old ≡ view → now ≡ new → IsSafe Within old reply now → IsSafe Within view reply new
safe_as Within old view now new reply is same safe = subst (λ v. IsSafe Within v reply new) is (subst (λ v. IsSafe Within old reply v) same safe)

-- whether one is open
pub some_told : {A B : Type 0} (f : A → B) (upload : Option A) (there : Bool) → is_some upload ≡ there → is_some (option_map f upload) ≡ there
some_told f None there is = is
some_told f (Some a) there is = is

-- if the view has none, the account has none
pub none_among : (staged : Objects) (upload : Option Reading) → option_map (upload_among staged) upload ≡ None → upload ≡ None
none_among staged None is = refl
none_among staged (Some reading) is = absurd (cc)

-- a host fault is not `ok`
pub failed_not_done : (reply : Reply) → is_host_fault reply ≡ true → is_done reply ≡ false
failed_not_done (Done text) is = absurd (cc)
failed_not_done Unchanged is = absurd (cc)
failed_not_done (Refused refusal) is = refl
failed_not_done (Failed fault) is = refl

-- a safe answer keeps wider bounds too
pub safe_within : (Within Over : Reply → Type 0) (old : View) (reply : Reply) (new : View) → (Within reply → Over reply) → IsSafe Within old reply new → IsSafe Over old reply new
safe_within Within Over old reply new over safe = record { orderly = safe.orderly; kept = safe.kept; faults = over safe.faults }

-- ---- the catalogue
-- what a piece adds comes after what was received, whichever objects these are
behind_front : (commands : List Command) (objects : List Object) (s : Stream) → (front : List Object) × (sent_in (behind commands objects s) ≡ front ++ sent_in s)
behind_front commands objects (Flows others more headed rest) = (objects, refl)
behind_front commands objects (Breaks fault) = ([], refl)

added_front : (s : Stream) (piece : List ℕ) → (front : List Object) × (sent_in (stream_with s piece) ≡ front ++ gained (flow_of s) piece)
added_front (Flows commands objects true rest) piece = behind_front commands objects (records_in (length (rest ++ piece)) (rest ++ piece))
added_front (Flows commands objects false rest) piece = behind_front commands objects (header_in (MAX_COMMANDS - length commands) (rest ++ piece))
added_front (Breaks fault) piece = ([], refl)

gained_alike : (objects : Objects) (flow : Flow) (piece : List ℕ) → gained (flow_of (stream_among objects flow)) piece ≡ gained flow piece
gained_alike objects (Going commands sent headed rest) piece = refl
gained_alike objects (Broken fault) piece = refl

-- so the names that it adds are among those of the upload afterwards
grown : (upload : UploadValue) (flow : Flow) (body : List ℕ) (a b : Places) → gained (flow_of upload.stream) body ≡ gained flow body → GrowsAmong (sent_names (gained flow body)) a b → GrowsAmong (sent_names (sent_in (continued upload body).stream)) a b
unfolding continued
grown upload flow body a b same grows =
    let parts = added_front upload.stream body in
    let names : sent_names (sent_in (stream_with upload.stream body)) ≡ sent_names parts.0 ++ sent_names (gained flow body) =
    ap sent_names (parts.1 ∙ ap (λ objects. parts.0 ++ objects) same) ∙ map-append object_name parts.0 (gained flow body) in
    grows_more (sent_names (gained flow body)) (sent_names (sent_in (stream_with upload.stream body))) a b
    (λ name is. subst (λ all. Contains all name) (sym names) (Contains-append_right (sent_names parts.0) (sent_names (gained flow body)) name is)) grows

-- for an upload that is open
pub part_grows : (staged : Objects) (waits : Option Reading) (old : Reading) (body : List ℕ) (a b : Places) → waits ≡ Some old → GrowsAmong (sent_names (gained old.flow body)) a b
    → GrowsAmong (sent_names (sent_in (continued (open_upload (option_map (upload_among staged) waits)) body).stream)) a b
part_grows staged waits old body a b is grows =
    subst (λ upload. GrowsAmong (sent_names (sent_in (continued (open_upload (option_map (upload_among staged) upload)) body).stream)) a b) (sym is)
    (grown (upload_among staged old) old.flow body a b (gained_alike staged old.flow body) grows)

-- and for one that begins
pub begun_grows : (staged : Objects) (waits : Option Reading) (old : Reading) (body : List ℕ) (a b : Places) → waits ≡ None → old ≡ reading_of [] → GrowsAmong (sent_names (gained old.flow body)) a b
    → GrowsAmong (sent_names (sent_in (continued (open_upload (option_map (upload_among staged) waits)) body).stream)) a b
begun_grows staged waits old body a b is begins grows =
    subst (λ upload. GrowsAmong (sent_names (sent_in (continued (open_upload (option_map (upload_among staged) upload)) body).stream)) a b) (sym is)
    (grown (upload_of []) old.flow body a b (ap (λ (reading : Reading). gained reading.flow body) (sym begins)) grows)
