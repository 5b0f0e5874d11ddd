-- Answer by answer: a tenant sees what it saw before, sent itself, or forked.
use Rattle.std.proofs.Common.{◌≡◌, ℕ, ◌+◌, Bool, true, false, cond, List, [], ◌∷◌, Option, Some, None, Result, Ok, Err, refl, sym, ap, ◌∙◌, arith, is_some, inl, inr, ◌⊎◌, length}
use Rattle.std.specs.Prelude.{nat_le, nat_lt, not}
use Rattle.std.specs.FinMap.{get, insert, remove, contains_key, len}
use Rattle.git_name.specs.Object.{Object, object_name}
use Rattle.git_reftx.specs.declared.command.Command.{Command}
use Rattle.git_reftx.specs.declared.fault.CommandFault.{CommandFault}
use Rattle.git_reftx.specs.declared.fault.TxRefusal.{TxRefusal}
use Rattle.git_reftx.specs.Reading.{commands_of}
use Rattle.git_reftx.specs.Repository.{Repository, branch_in, new_repository}
use Rattle.git_reftx.specs.Transaction.{References, transacted}
use Rattle.push_stream.specs.Brief.{brief_of}
use Rattle.push_stream.specs.Stream.{Stream, Flows, Breaks, finished, sent_in, stream_of}
use Rattle.push_stream.specs.Upload.{UploadValue}
use Rattle.fork_push.specs.declared.refusal.PushRefusal.{PushRefusal}
use Rattle.fork_push.specs.Push.{judged}
use Rattle.fork_reach.specs.Objects.{with_object, with_objects}
use Rattle.fork_reach.specs.Reach.{is_reached, linked_names}
use Rattle.fork_reach.specs.Source.{Objects, kind_in}
use Rattle.fork_request.specs.Asked.{Ask, Inits, Drops, Forks, Pushes, SendsPart, EndsParts, DropsParts, Updates, SetsHead, MakesOffer, Withdraws, ForksOffer, AsksObject, AsksTree, AsksRevisions, AsksBases, AsksReferences, AsksHead, AsksOffers, AsksRepositories, Fetches, AsksUse, Prunes, NoRequest}
use Rattle.fork_request.specs.Names.{is_plain_name}
use Rattle.fork_request.specs.Told.{is_host_fault}
use Rattle.fork_request.specs.declared.refusal.Refusal.TheVariants.{BadName, BadRef, NoRepository, NoUpload, RepositoryExists, StagedTooLong, TooMany, UploadOpen, OfferExists, NoOffer, OverQuota}
use Rattle.fork_request.specs.declared.reply.Reply.{Reply}
use Rattle.fork_request.specs.declared.reply.Reply.TheVariants.{Done, Refused}
use Rattle.std.specs.Option.{option_or}
use Rattle.git_name.specs.Maps.{joined}
use Rattle.git_name.proofs.MapLemmas.{get_joined}
use Rattle.git_name.proofs.Names.{name_total}
use Rattle.fork_reach.specs.Objects.{use_of}
use Rattle.fork_request.specs.declared.refusal.Refusal.{Refusal}
use Rattle.fork_model.specs.Answer.{answer, both, fork_offer_answer, fork_offered, offer_answer, offer_in, offers_answer, withdraw_answer, withdrawn, without_upload, init_answer, drop_answer, fork_answer, push_answer, part_answer, part_end_answer, part_drop_answer, update_answer, set_head_answer, cat_file_answer, ls_tree_answer, rev_list_answer, merge_base_answer, fetch_answer, references_answer, head_answer, quota_answer, repositories_answer, prune_answer, roots_of, named_repository, repository_added, dropped, copied, push_into, pushed, taken, open_upload, upload_into, end_in, upload_ended, update_in, carried_out, with_references, with_head, set_head_in, transaction_refusal, command_refusal, push_refusal}
use Rattle.fork_model.specs.Context.{Context}
use Rattle.fork_model.specs.Offer.{Offer, Pair}
use Rattle.fork_model.specs.Provenance.{IsAmong, IsFrom, Seen, Pushed, Uploaded, Taken, IsUploadFrom, Stays, Ends, GoesOn, part_in, ends_upload}
use Rattle.fork_model.specs.View.{View}
use Rattle.fork_model.proofs.ClosedLemmas.{of_one}
use Rattle.fork_model.proofs.KeptLemmas.{found_kept, there}
use Rattle.fork_model.proofs.StepLemmas.{answer_tells}

-- what is found once objects were added was there before, or is one of them
pub among_both : (objects : Objects) (sent : List Object) (name : List ℕ) (object : Object) → get (with_objects objects sent) name ≡ Some object
    → (get objects name ≡ Some object) ⊎ IsAmong sent name object
among_both objects [] name object is = inl is
among_both objects (more ∷ sent) name object is =
    elim (among_both (with_object objects more) sent name object is) [
      | inl before ↦ elim (of_one objects more name object before) [
        | inl was ↦ inl was
        | inr came ↦ inr (record { sent = (0, omega arith, came.1); named = ap object_name (sym came.1) ∙ came.0 })
      ]
      | inr later ↦ inr (record { sent = there more object sent later.sent; named = later.named })
    ]

-- also for the objects of a stream that is at its end
pub among_held : (view : View) (s : Stream) (name : List ℕ) (object : Object) → get (both view (finished s)) name ≡ Some object
    → (get view.objects name ≡ Some object) ⊎ IsAmong (sent_in s) name object
among_held view (Flows commands objects true []) name object is = among_both view.objects objects name object is
among_held view (Flows commands objects true (b ∷ rest)) name object is = inl is
among_held view (Flows commands objects false rest) name object is = inl is
among_held view (Breaks fault) name object is = inl is

-- a row that leaves the objects and the upload
record IsQuiet (view : View) (row : Reply × View) : Type 0 where
  objects : row.1.objects ≡ view.objects
  upload : row.1.upload ≡ view.upload

quiet : (view : View) (reply : Reply) → IsQuiet view (reply, view)
quiet view reply = record { objects = refl; upload = refl }

-- what holds of both branches holds of the test
either : (P : Reply × View → Type 0) (b : Bool) (x y : Reply × View) → P x → P y → P (cond b x y)
either P true x y left right = left
either P false x y left right = right

named_row : (P : Reply × View → Type 0) (view : View) (word : List ℕ) (row : Reply × View) → P (Refused (BadName word), view) → P row → P (named_repository view word row)
named_row P view word row refused done = either P (is_plain_name 64 word) row (Refused (BadName word), view) done refused

-- what is found among joined objects is found on either side
found_joined : (objects others : Objects) (name : List ℕ) (object : Object) → get (joined objects others) name ≡ Some object → (get objects name ≡ Some object) ⊎ (get others name ≡ Some object)
found_joined objects others name object is = by (get objects name) (sym (get_joined name_total objects others name) ∙ is)
  where
    by : (o : Option Object) → option_or o (get others name) ≡ Some object → (o ≡ Some object) ⊎ (get others name ≡ Some object)
    by None found = inr found
    by (Some first) found = inl found

-- an offer is made
offer_row : (view : View) (word receiver : List ℕ) (o : Option Repository) → IsQuiet view (offer_in view word receiver o)
offer_row view word receiver None = quiet view (Refused (NoRepository word))
offer_row view word receiver (Some repository) =
    either (IsQuiet view) (contains_key view.made (receiver, word)) (Refused (OfferExists receiver word), view) _ (quiet view (Refused (OfferExists receiver word)))
    (either (IsQuiet view) (nat_le 256 (len view.made)) (Refused TooMany, view) _ (quiet view (Refused TooMany)) (record { objects = refl; upload = refl }))

withdrawn_row : (view : View) (key : Pair) → IsQuiet view (withdrawn view key)
withdrawn_row view key = either (IsQuiet view) (contains_key view.made key) _ (Refused (NoOffer key.0 key.1), view) (record { objects = refl; upload = refl }) (quiet view (Refused (NoOffer key.0 key.1)))

module _ (context : Context) where
  -- a row for which all that is seen afterwards is known to come from somewhere, and which leaves the upload
  record IsKnown (view : View) (ask : Ask) (row : Reply × View) : Type 0 where
    objects : (name : List ℕ) (object : Object) → get row.1.objects name ≡ Some object → IsFrom context view (ask, row.0) name object
    upload : row.1.upload ≡ view.upload

  known : (view : View) (ask : Ask) (row : Reply × View) → IsQuiet view row → IsKnown view ask row
  known view ask row is = record {
    objects = λ name object found. Seen (ap (λ objects. get objects name) (sym is.objects) ∙ found);
    upload = is.upload;
  }

  -- a row for which the origin of the upload is known too
  record IsTold (view : View) (ask : Ask) (row : Reply × View) : Type 0 where
    objects : (name : List ℕ) (object : Object) → get row.1.objects name ≡ Some object → IsFrom context view (ask, row.0) name object
    upload : IsUploadFrom view (ask, row.0) row.1.upload

  -- a request that is neither a part nor an end leaves the upload
  plain : (view : View) (ask : Ask) (row : Reply × View) → part_in (ask, row.0) ≡ [] → ends_upload (ask, row.0) ≡ false → IsKnown view ask row → IsTold view ask row
  plain view ask row part end is = record { objects = is.objects; upload = Stays part end is.upload }

  added_row : (view : View) (word : List ℕ) (repository : Repository) → IsQuiet view (repository_added view word repository)
  added_row view word repository =
      either (IsQuiet view) (contains_key view.repositories word) (Refused (RepositoryExists word), view) _ (quiet view (Refused (RepositoryExists word)))
      (either (IsQuiet view) (nat_le 256 (len view.repositories)) (Refused TooMany, view) (Done [], record view { repositories = insert view.repositories word repository }) (quiet view (Refused TooMany)) (record { objects = refl; upload = refl }))

  dropped_row : (view : View) (word : List ℕ) → IsQuiet view (dropped view word)
  dropped_row view word =
      either (IsQuiet view) (contains_key view.repositories word) (Done [], record view { repositories = remove view.repositories word }) (Refused (NoRepository word), view)
      (record { objects = refl; upload = refl }) (quiet view (Refused (NoRepository word)))

  copied_row : (view : View) (source copy : List ℕ) (o : Option Repository) → IsQuiet view (copied view source copy o)
  copied_row view source copy None = quiet view (Refused (NoRepository source))
  copied_row view source copy (Some repository) = added_row view copy repository

  with_references_row : (view : View) (word : List ℕ) (old : Repository) (value : Result References TxRefusal) → IsQuiet view (with_references view word old value)
  with_references_row view word old (Ok new) = record { objects = refl; upload = refl }
  with_references_row view word old (Err refusal) = quiet view (Refused (transaction_refusal refusal))

  carried_row : (view : View) (word : List ℕ) (old : Repository) (value : Result (List Command) CommandFault) → IsQuiet view (carried_out view word old value)
  carried_row view word old (Ok commands) = with_references_row view word old (transacted old.references commands (kind_in view.objects))
  carried_row view word old (Err fault) = quiet view (Refused (command_refusal fault))

  update_row : (view : View) (word body : List ℕ) (o : Option Repository) → IsQuiet view (update_in view word body o)
  update_row view word body None = quiet view (Refused (NoRepository word))
  update_row view word body (Some old) = carried_row view word old (commands_of body)

  with_head_row : (view : View) (word : List ℕ) (old : Repository) (reference : List ℕ) (o : Option (List ℕ)) → IsQuiet view (with_head view word old reference o)
  with_head_row view word old reference None = quiet view (Refused (BadRef reference))
  with_head_row view word old reference (Some branch) = record { objects = refl; upload = refl }

  set_head_row : (view : View) (word reference : List ℕ) (o : Option Repository) → IsQuiet view (set_head_in view word reference o)
  set_head_row view word reference None = quiet view (Refused (NoRepository word))
  set_head_row view word reference (Some old) = with_head_row view word old reference (branch_in reference)

  -- a push of a stream: what is seen afterwards was seen before, or is in the stream
  taken_row : (view : View) (ask : Ask) (word : List ℕ) (old : Repository) (objects : Objects) (value : Result References PushRefusal)
      → ((name : List ℕ) (object : Object) → get objects name ≡ Some object → IsFrom context view (ask, Done []) name object) → IsKnown view ask (taken view word old objects value)
  taken_row view ask word old objects (Ok new) all = record { objects = all; upload = refl }
  taken_row view ask word old objects (Err refusal) all = known view ask _ (quiet view (Refused (push_refusal refusal)))

  pushed_row : (view : View) (ask : Ask) (word : List ℕ) (old : Repository) (s : Stream)
      → ((name : List ℕ) (object : Object) → IsAmong (sent_in s) name object → IsFrom context view (ask, Done []) name object) → IsKnown view ask (pushed view word old (finished s))
  pushed_row view ask word old s sent =
      taken_row view ask word old (both view (finished s)) (judged (both view (finished s)) old.references view.limit (brief_of (finished s))) (λ name object found.
      elim (among_held view s name object found) [
        | inl was ↦ Seen was
        | inr came ↦ sent name object came
      ])

  into_row : (view : View) (ask : Ask) (word body : List ℕ) (o : Option Repository)
      → ((name : List ℕ) (object : Object) → IsAmong (sent_in (stream_of body)) name object → IsFrom context view (ask, Done []) name object) → IsKnown view ask (push_into view word body o)
  into_row view ask word body None sent = known view ask _ (quiet view (Refused (NoRepository word)))
  into_row view ask word body (Some old) sent =
      either (IsKnown view ask) (is_some view.upload) (Refused UploadOpen, view) (pushed view word old (finished (stream_of body)))
      (known view ask _ (quiet view (Refused UploadOpen))) (pushed_row view ask word old (stream_of body) sent)

  upload_row : (view : View) (ask : Ask) (word : List ℕ) (old : Repository) (o : Option UploadValue) → view.upload ≡ o
      → ((upload : UploadValue) → view.upload ≡ Some upload → (name : List ℕ) (object : Object) → IsAmong (sent_in upload.stream) name object → IsFrom context view (ask, Done []) name object)
      → IsKnown view ask (upload_into view word old o)
  upload_row view ask word old None is sent = known view ask _ (quiet view (Refused NoUpload))
  upload_row view ask word old (Some upload) is sent = pushed_row view ask word old upload.stream (sent upload is)

  end_row : (view : View) (ask : Ask) (word : List ℕ) (o : Option Repository)
      → ((upload : UploadValue) → view.upload ≡ Some upload → (name : List ℕ) (object : Object) → IsAmong (sent_in upload.stream) name object → IsFrom context view (ask, Done []) name object)
      → IsKnown view ask (end_in view word o)
  end_row view ask word None sent = known view ask _ (quiet view (Refused (NoRepository word)))
  end_row view ask word (Some old) sent = upload_row view ask word old view.upload refl sent

  -- `part-end` ends the upload whatever it answers
  ended_row : (view : View) (word : List ℕ) (row : Reply × View) → is_host_fault row.0 ≡ false → IsKnown view (EndsParts word) row → IsTold view (EndsParts word) (upload_ended row)
  ended_row view word row fine is = record { objects = is.objects; upload = Ends (ap not fine) refl }

  -- what holds of each branch when it is taken holds of the test
  by_test : (P : Reply × View → Type 0) (b : Bool) (x y : Reply × View) → (b ≡ true → P x) → (b ≡ false → P y) → P (cond b x y)
  by_test P true x y left right = left refl
  by_test P false x y left right = right refl

  part_row : (view : View) (body : List ℕ) → IsTold view (SendsPart body) (part_answer view body)
  unfolding part_answer
  part_row view body =
      either (IsTold view (SendsPart body)) (nat_lt 33554432 ((open_upload view.upload).count + length body)) (Refused StagedTooLong, view) _
      (plain view (SendsPart body) _ refl refl (known view (SendsPart body) _ (quiet view (Refused StagedTooLong))))
      (record { objects = λ name object found. Seen found; upload = GoesOn body refl refl })

  none_there : {A : Type 0} (o : Option A) → is_some o ≡ false → o ≡ None
  none_there None is = refl
  none_there (Some x) is = absurd (cc)

  part_drop_row : (view : View) → IsTold view DropsParts (part_drop_answer view)
  unfolding part_drop_answer
  part_drop_row view =
      by_test (IsTold view DropsParts) (is_some view.upload) (Done [], without_upload view) (Refused NoUpload, view)
      (λ there. record { objects = λ name object found. Seen found; upload = Ends refl refl })
      (λ absent. record { objects = λ name object found. Seen found; upload = Ends refl (none_there view.upload absent) })

  -- a forked offer: what is seen afterwards was seen before, or is in the offer
  fork_offered_row : (view : View) (giver word copy : List ℕ) (o : Option Offer) → get context.offered (giver, word) ≡ o → IsKnown view (ForksOffer giver word copy) (fork_offered view (giver, word) copy o)
  fork_offered_row view giver word copy None stands = known view _ _ (quiet view (Refused (NoOffer giver word)))
  fork_offered_row view giver word copy (Some offer) stands =
      either (IsKnown view (ForksOffer giver word copy)) (contains_key view.repositories copy) (Refused (RepositoryExists copy), view) _ (known view _ _ (quiet view (Refused (RepositoryExists copy))))
      (either (IsKnown view (ForksOffer giver word copy)) (nat_le 256 (len view.repositories)) (Refused TooMany, view) _ (known view _ _ (quiet view (Refused TooMany)))
      (either (IsKnown view (ForksOffer giver word copy)) (nat_lt view.limit (use_of (joined view.objects offer.objects))) (Refused OverQuota, view) _ (known view _ _ (quiet view (Refused OverQuota)))
      (record {
        objects = λ name object found. from_joined view giver word copy offer stands name object (found_joined view.objects offer.objects name object found);
        upload = refl;
      })))
    where
      from_joined : (view : View) (giver word copy : List ℕ) (offer : Offer) → get context.offered (giver, word) ≡ Some offer → (name : List ℕ) (object : Object) → (get view.objects name ≡ Some object) ⊎ (get offer.objects name ≡ Some object)
          → IsFrom context view (ForksOffer giver word copy, Done []) name object
      from_joined view giver word copy offer stands name object (inl was) = Seen was
      from_joined view giver word copy offer stands name object (inr offered) = Taken giver word copy refl (record { offer = offer; stands = stands; holds = offered })

  -- each answer is such a row
  told_row : (view : View) (ask : Ask) → IsTold view ask (answer context view ask)
  unfolding answer offer_answer withdraw_answer fork_offer_answer offers_answer init_answer drop_answer fork_answer push_answer part_end_answer update_answer set_head_answer cat_file_answer ls_tree_answer rev_list_answer merge_base_answer fetch_answer references_answer head_answer quota_answer repositories_answer prune_answer
  told_row view (Inits word) = plain view (Inits word) _ refl refl (known view (Inits word) _ (named_row (IsQuiet view) view word _ (quiet view (Refused (BadName word))) (added_row view word new_repository)))
  told_row view (Drops word) = plain view (Drops word) _ refl refl (known view (Drops word) _ (named_row (IsQuiet view) view word _ (quiet view (Refused (BadName word))) (dropped_row view word)))
  told_row view (Forks source copy) =
      plain view (Forks source copy) _ refl refl
      (known view (Forks source copy) _ (named_row (IsQuiet view) view source _ (quiet view (Refused (BadName source)))
      (named_row (IsQuiet view) view copy _ (quiet view (Refused (BadName copy))) (copied_row view source copy (get view.repositories source)))))
  told_row view (Pushes word body) =
      plain view (Pushes word body) _ refl refl
      (named_row (IsKnown view (Pushes word body)) view word _ (known view (Pushes word body) _ (quiet view (Refused (BadName word))))
      (into_row view (Pushes word body) word body (get view.repositories word) (λ name object came. Pushed word body refl came)))
  told_row view (SendsPart body) = part_row view body
  told_row view (EndsParts word) =
      ended_row view word _ (answer_tells context view (EndsParts word)) (named_row (IsKnown view (EndsParts word)) view word _ (known view (EndsParts word) _ (quiet view (Refused (BadName word))))
      (end_row view (EndsParts word) word (get view.repositories word) (λ upload is name object came. Uploaded word upload refl is came)))
  told_row view DropsParts = part_drop_row view
  told_row view (Updates word body) =
      plain view (Updates word body) _ refl refl
      (known view (Updates word body) _ (named_row (IsQuiet view) view word _ (quiet view (Refused (BadName word))) (update_row view word body (get view.repositories word))))
  told_row view (SetsHead word reference) =
      plain view (SetsHead word reference) _ refl refl
      (known view (SetsHead word reference) _ (named_row (IsQuiet view) view word _ (quiet view (Refused (BadName word))) (set_head_row view word reference (get view.repositories word))))
  told_row view (MakesOffer word receiver) =
      plain view (MakesOffer word receiver) _ refl refl
      (known view (MakesOffer word receiver) _ (named_row (IsQuiet view) view word _ (quiet view (Refused (BadName word)))
      (either (IsQuiet view) _ _ (Refused (BadName receiver), view) (offer_row view word receiver (get view.repositories word)) (quiet view (Refused (BadName receiver))))))
  told_row view (Withdraws word receiver) =
      plain view (Withdraws word receiver) _ refl refl
      (known view (Withdraws word receiver) _ (named_row (IsQuiet view) view word _ (quiet view (Refused (BadName word)))
      (either (IsQuiet view) _ _ (Refused (BadName receiver), view) (withdrawn_row view (receiver, word)) (quiet view (Refused (BadName receiver))))))
  told_row view (ForksOffer giver word copy) =
      let refused = λ (refusal : Refusal). known view (ForksOffer giver word copy) (Refused refusal, view) (quiet view (Refused refusal)) in
      plain view (ForksOffer giver word copy) _ refl refl
      (either (IsKnown view (ForksOffer giver word copy)) _ _ (Refused (BadName giver), view)
      (named_row (IsKnown view (ForksOffer giver word copy)) view word _ (refused (BadName word))
      (named_row (IsKnown view (ForksOffer giver word copy)) view copy _ (refused (BadName copy)) (fork_offered_row view giver word copy (get context.offered (giver, word)) refl)))
      (refused (BadName giver)))
  told_row view (AsksObject name) = plain view (AsksObject name) _ refl refl (known view (AsksObject name) _ (quiet view _))
  told_row view (AsksTree name) = plain view (AsksTree name) _ refl refl (known view (AsksTree name) _ (quiet view _))
  told_row view (AsksRevisions word items) = plain view (AsksRevisions word items) _ refl refl (known view (AsksRevisions word items) _ (named_row (IsQuiet view) view word _ (quiet view (Refused (BadName word))) (quiet view _)))
  told_row view (AsksBases word first second) = plain view (AsksBases word first second) _ refl refl (known view (AsksBases word first second) _ (named_row (IsQuiet view) view word _ (quiet view (Refused (BadName word))) (quiet view _)))
  told_row view (Fetches word items) = plain view (Fetches word items) _ refl refl (known view (Fetches word items) _ (named_row (IsQuiet view) view word _ (quiet view (Refused (BadName word))) (quiet view _)))
  told_row view (AsksReferences word prefix) = plain view (AsksReferences word prefix) _ refl refl (known view (AsksReferences word prefix) _ (named_row (IsQuiet view) view word _ (quiet view (Refused (BadName word))) (quiet view _)))
  told_row view (AsksHead word) = plain view (AsksHead word) _ refl refl (known view (AsksHead word) _ (named_row (IsQuiet view) view word _ (quiet view (Refused (BadName word))) (quiet view _)))
  told_row view AsksOffers = plain view AsksOffers _ refl refl (known view AsksOffers _ (quiet view _))
  told_row view AsksUse = plain view AsksUse _ refl refl (known view AsksUse _ (quiet view _))
  told_row view AsksRepositories = plain view AsksRepositories _ refl refl (known view AsksRepositories _ (quiet view _))
  told_row view Prunes = record {
    objects = λ name object found. Seen (found_kept view.objects (is_reached (linked_names view.objects) view.objects (roots_of view)) name object found).1;
    upload = Stays refl refl refl;
  }
  told_row view NoRequest = plain view NoRequest _ refl refl (known view NoRequest _ (quiet view _))

  pub object_from : (view : View) (ask : Ask) (name : List ℕ) (object : Object) → get (answer context view ask).1.objects name ≡ Some object → IsFrom context view (ask, (answer context view ask).0) name object
  object_from view ask name object found = (told_row view ask).objects name object found

  pub upload_from : (view : View) (ask : Ask) → IsUploadFrom view (ask, (answer context view ask).0) (answer context view ask).1.upload
  upload_from view ask = (told_row view ask).upload
