-- Over an honest store, the bytes that open an upload again stand for what was received.
use Rattle.std.proofs.Common.{◌≡◌, inl, inr, Result, Ok, Err, ℕ, ◌+◌, ◌<◌, Bool, true, IsTrue, List, [], ◌∷◌, ◌++◌, refl, sym, ap, ap₂, append_assoc, subst, ◌∙◌, length, get_or, take, map}
use Rattle.std.specs.Prelude.{IfErr}
use Rattle.std.specs.FinMap.{contains_key}
use Rattle.std.specs.List.{AllByRecursion}
use Rattle.std.proofs.lemmas.List.{flat_map_more, map-append}
use Rattle.std.proofs.lemmas.List.Elements.{Contains-get_or}
use Rattle.git_name.specs.Object.{Object, object_name}
use Rattle.push_stream.specs.declared.sent.Sent.{Sent}
use Rattle.push_stream.specs.Again.{told_in}
use Rattle.push_stream.specs.Reading.{Reading, flow_of, reading_of, sent_of}
use Rattle.push_stream.specs.Record.{record_of}
use Rattle.push_stream.specs.Spelling.{records_of}
use Rattle.push_stream.specs.Stream.{Stream, Flows, Breaks, sent_in, stream_of}
use Rattle.push_stream.specs.Upload.{upload_of}
use Rattle.fork_reach.specs.Objects.{measures_of}
use Rattle.fork_reach.specs.Source.{Objects}
use Rattle.fork_reach.proofs.MeasureLemmas.{same_there}
use Rattle.fork_request.specs.declared.host_fault.HostFault.{HostFault}
use Rattle.fork_request.specs.declared.host_fault.HostFault.TheVariants.{Memory}
use Rattle.fork_request.specs.declared.reply.Reply.{Reply}
use Rattle.fork_request.specs.declared.reply.Reply.TheVariants.{Done, Failed}
use Rattle.fork_ledger.specs.Tenants.{private_of}
use Rattle.fork_ledger.proofs.BothLemmas.{same_measures}
use Rattle.fork_model.specs.Uploads.{AreSent, object_sent, upload_among}
use Rattle.fork_model.proofs.ClosedLemmas.{each_of}
use Rattle.fork_model.proofs.UploadLemmas.{found_again, upload_again}
use Rattle.fork_host.specs.declared.own.Own.{Own}
use Rattle.fork_host.specs.Handle.{staged_by}
use Rattle.fork_host.specs.Opening.{OnlyReads, reading_told}
use Rattle.fork_host.specs.Own.{staged_in}
use Rattle.fork_host.specs.Staged.{Came}
use Rattle.fork_host.proofs.BoundLemmas.{IsQuiet, bounded_after, bounded_gains, bounded_still, gains_done}
use Rattle.fork_host.proofs.GatherLemmas.{taken_more}
use Rattle.fork_host.proofs.HandleLemmas.{same_then}

-- ---- reads, call after call
pub reads_none : {S : Type 0} (own : Own S) → OnlyReads own own (Done [])
reads_none own = record { kept = λ honest. refl; shape = refl; bounded = bounded_still [] own.vault.now (Done []) (inl refl); same = record { vault = refl; tenant = refl } }

pub reads_then : {S : Type 0} (a b c : Own S) (reply : Reply) → OnlyReads a b (Done []) → OnlyReads b c reply → OnlyReads a c reply
reads_then a b c reply first then = record {
  kept = λ honest. then.kept (first.bounded.honest ∙ honest) ∙ first.kept honest;
  shape = then.shape ∙ first.shape;
  bounded = bounded_after [] a.vault.now b.vault.now c.vault.now reply (gains_done [] a.vault.now b.vault.now [] first.bounded) then.bounded;
  same = same_then a b c first.same then.same;
}

-- what was read is reported, or memory ran out after the reading
pub reads_quiet : {S : Type 0} (a b : Own S) (reply : Reply) → OnlyReads a b (Done []) → IsQuiet reply → OnlyReads a b reply
reads_quiet a b reply reads quiet = record {
  kept = reads.kept;
  shape = reads.shape;
  bounded = bounded_gains [] a.vault.now b.vault.now reply (gains_done [] a.vault.now b.vault.now [] reads.bounded) quiet;
  same = reads.same;
}

pub quiet_told : {A : Type 0} (r : Result A HostFault) → IfErr r (λ fault. fault ≡ Memory) → IsQuiet (reading_told r)
quiet_told (Ok read) is = inl refl
quiet_told (Err fault) is = inr (ap (λ f. Failed f) is)

-- what is staged stays: over an honest store the objects, over any the names
pub staged_still : {S : Type 0} (old new : Own S) (reply : Reply) → OnlyReads old new reply → IsTrue old.vault.now.honest → staged_by new ≡ staged_by old
staged_still old new reply reads honest =
    ap (λ r. staged_in new.vault.now r.now) reads.same.tenant ∙ ap (λ tenants. (private_of tenants old.tenant.now).staged) (reads.kept honest)

pub still_there : {S : Type 0} (old new : Own S) (name : List ℕ) → OnlyReads old new (Done []) → contains_key (staged_by old) name ≡ true → contains_key (staged_by new) name ≡ true
still_there old new name reads there =
    let same : measures_of (staged_in new.vault.now old.tenant.now) ≡ measures_of (staged_by old) =
    ap (λ p. p.1) (same_measures old.vault.now.tenants new.vault.now.tenants old.tenant.now reads.shape) in
    ap (λ r. contains_key (staged_in new.vault.now r.now) name) reads.same.tenant ∙ same_there _ _ name same ∙ there

-- ---- record after record
-- each object of the list is staged
pub there_at : (staged : Objects) (sent : List Sent) (at : ℕ) (one : Sent) → AllByRecursion (λ (s : Sent). contains_key staged s.name ≡ true) sent → at < length sent → one ≡ get_or sent at one → contains_key staged one.name ≡ true
there_at staged sent at one there inside is =
    ap (λ (s : Sent). contains_key staged s.name) is ∙ each_of (λ (s : Sent). contains_key staged s.name ≡ true) sent (get_or sent at one) there (Contains-get_or sent at one inside)

-- the records so far, and one more
pub records_more : (objects staged : Objects) (sent : List Sent) (at : ℕ) (one : Sent) (first old new : List ℕ) → at < length sent → one ≡ get_or sent at one → staged ≡ objects
    → old ≡ first ++ records_of (map (object_sent objects) (take at sent)) → new ≡ old ++ record_of (object_sent staged one) → new ≡ first ++ records_of (map (object_sent objects) (take (at + 1) sent))
records_more objects staged sent at one first old new inside is same before more =
    more
    ∙ ap₂ (λ (l : List ℕ) (os : Objects). l ++ record_of (object_sent os one)) before same
    ∙ flat_map_more record_of first (map (object_sent objects) (take at sent)) (object_sent objects one)
    ∙ ap (λ (os : List Object). first ++ records_of os) (sym (map-append (object_sent objects) (take at sent) (one ∷ [])) ∙ ap (map (object_sent objects)) (sym (taken_more sent at one inside is)))

-- a header, the records, and what comes after them
pub text_is : (front header records other end old new : List ℕ) → front ≡ header → records ≡ other → old ≡ front ++ records → new ≡ old ++ end → new ≡ header ++ (other ++ end)
text_is front header records other end old new starts same added ended =
    ended ∙ ap (λ (l : List ℕ). l ++ end) (added ∙ ap₂ (λ (l m : List ℕ). l ++ m) starts same) ∙ append_assoc header other end

-- ---- the whole
-- the list of a stream's objects is what is known of the stream
told_is : (s : Stream) → map sent_of (sent_in s) ≡ told_in (flow_of s)
told_is (Flows commands objects headed rest) = refl
told_is (Breaks fault) = refl

pub told_of : (bytes : List ℕ) (reading : Reading) → reading_of bytes ≡ reading → map sent_of (sent_in (stream_of bytes)) ≡ told_in reading.flow
told_of bytes reading read = told_is (stream_of bytes) ∙ ap (λ (r : Reading). told_in r.flow) read

-- the names in the list are staged
names_there : (staged : Objects) (objects : List Object) → AllByRecursion (λ object. contains_key staged (object_name object) ≡ true) objects → AllByRecursion (λ (one : Sent). contains_key staged one.name ≡ true) (map sent_of objects)
names_there staged [] there = tt
names_there staged (object ∷ objects) there = (there.0, names_there staged objects there.1)

pub told_there : (honest : Bool) (bytes : List ℕ) (reading : Reading) (staged : Objects) (sent : List Sent) → Came honest bytes reading staged → sent ≡ told_in reading.flow → AllByRecursion (λ (one : Sent). contains_key staged one.name ≡ true) sent
told_there honest bytes reading staged sent came is =
    subst (AllByRecursion (λ (one : Sent). contains_key staged one.name ≡ true)) (told_of bytes reading came.read ∙ sym is) (names_there staged (sent_in (stream_of bytes)) came.there)

-- the records of what is staged are those of what was received
pub told_records : (bytes : List ℕ) (reading : Reading) (staged : Objects) (sent : List Sent) → reading_of bytes ≡ reading → AreSent staged (sent_in (stream_of bytes)) → sent ≡ told_in reading.flow
    → records_of (map (object_sent staged) sent) ≡ records_of (sent_in (stream_of bytes))
told_records bytes reading staged sent read are is =
    ap (λ (ones : List Sent). records_of (map (object_sent staged) ones)) (is ∙ sym (told_of bytes reading read)) ∙ ap records_of (found_again staged (sent_in (stream_of bytes)) are.each)

-- bytes of the same reading with the same objects are the same upload
pub same_upload : (again bytes : List ℕ) (staged : Objects) → AreSent staged (sent_in (stream_of bytes)) → reading_of again ≡ reading_of bytes → sent_in (stream_of again) ≡ sent_in (stream_of bytes) → upload_of again ≡ upload_of bytes
same_upload again bytes staged are read sent =
    sym (upload_again again staged (subst (AreSent staged) (sym sent) are)) ∙ ap (upload_among staged) read ∙ upload_again bytes staged are
