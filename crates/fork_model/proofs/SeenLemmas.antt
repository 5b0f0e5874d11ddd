-- What was sent, or was in a forked offer, was seen after the answer that took it.
use Rattle.std.proofs.Common.{◌≡◌, ℕ, Bool, true, false, cond, zero, suc, List, [], ◌∷◌, ◌++◌, Option, Some, None, Result, Ok, Err, is_some, refl, sym, ap, subst, ◌∙◌, arith}
use Rattle.std.specs.Option.{option_or}
use Rattle.std.specs.Prelude.{nat_le, nat_lt}
use Rattle.std.specs.FinMap.{contains_key, get, insert, len}
use Rattle.std.specs.List.{AllByRecursion, concat}
use Rattle.git_name.specs.Maps.{joined}
use Rattle.git_name.specs.Object.{Object}
use Rattle.git_name.proofs.MapLemmas.{get_joined}
use Rattle.git_name.proofs.Names.{name_total}
use Rattle.git_reftx.specs.Repository.{Repository}
use Rattle.git_reftx.specs.Transaction.{References}
use Rattle.push_stream.specs.Brief.{brief_of}
use Rattle.push_stream.specs.Stream.{Stream, Flows, Breaks, finished, sent_in, stream_of}
use Rattle.push_stream.specs.Upload.{UploadValue, fed}
use Rattle.push_stream.proofs.PieceLemmas.{pieces_join}
use Rattle.fork_push.specs.declared.refusal.PushRefusal.{PushRefusal}
use Rattle.fork_push.specs.Push.{judged}
use Rattle.fork_reach.specs.Objects.{use_of, with_objects}
use Rattle.fork_reach.specs.Source.{Objects}
use Rattle.fork_request.specs.Asked.{Ask, ForksOffer, Pushes, EndsParts}
use Rattle.fork_request.specs.Names.{is_plain_name}
use Rattle.fork_request.specs.declared.refusal.Refusal.TheVariants.{BadName, OverQuota, RepositoryExists, TooMany, UploadOpen}
use Rattle.fork_request.specs.declared.reply.Reply.{Reply}
use Rattle.fork_request.specs.declared.reply.Reply.TheVariants.{Done, Refused}
use Rattle.fork_model.specs.Answer.{answer, end_in, fork_offer_answer, fork_offered, named_repository, open_upload, part_end_answer, push_answer, push_into, pushed, taken, upload_into}
use Rattle.fork_model.specs.Context.{Context}
use Rattle.fork_model.specs.Provenance.{AreParts, InParts, InPush, InUpload, IsAmong, IsAnsweredAmong, IsOffered, IsUploadFrom, Stays, Ends, GoesOn, WasOffered, WasSent, WasShown, ends_upload, part_in, parts_in}
use Rattle.fork_model.specs.Offer.{Offer, Pair}
use Rattle.fork_model.specs.View.{View}
use Rattle.fork_model.specs.World.{Exchange, Meeting, alone, exchanges_alone}
use Rattle.fork_model.proofs.PartLemmas.{head_is, part_or_end, tail_is}
use Rattle.fork_model.proofs.ProvenanceLemmas.{upload_from}
use Rattle.fork_model.proofs.TransferLemmas.{came}

-- if a row succeeds, this name is seen afterwards
abbrev Shows : List ℕ → Reply × View → Type 0
Shows name row = row.0 ≡ Done [] → contains_key row.1.objects name ≡ true

either : (name : List ℕ) (b : Bool) (x y : Reply × View) → Shows name x → Shows name y → Shows name (cond b x y)
either name true x y left right = left
either name false x y left right = right

named_shows : (view : View) (name word : List ℕ) (row : Reply × View) → Shows name row → Shows name (named_repository view word row)
named_shows view name word row done = either name (is_plain_name 64 word) row (Refused (BadName word), view) done (λ is. absurd (cc))

taken_shows : (view : View) (name word : List ℕ) (old : Repository) (objects : Objects) (verdict : Result References PushRefusal) → contains_key objects name ≡ true → Shows name (taken view word old objects verdict)
taken_shows view name word old objects (Ok new) there is = there
taken_shows view name word old objects (Err refusal) there is = absurd (cc)

-- the objects of a stream that is taken
pushed_shows : (view : View) (word : List ℕ) (old : Repository) (s : Stream) (name : List ℕ) (object : Object) → IsAmong (sent_in s) name object → Shows name (pushed view word old (finished s))
unfolding judged
pushed_shows view word old (Flows commands sent true []) name object among =
    taken_shows view name word old (with_objects view.objects sent) (judged (with_objects view.objects sent) old.references view.limit (brief_of (Ok (commands, sent))))
    (subst (λ n. contains_key (with_objects view.objects sent) n ≡ true) among.named (came view.objects sent object among.sent))
pushed_shows view word old (Flows commands sent true (b ∷ rest)) name object among = λ is. absurd (cc)
pushed_shows view word old (Flows commands sent false rest) name object among = λ is. absurd (cc)
pushed_shows view word old (Breaks fault) name object among = λ is. absurd (cc)

into_shows : (view : View) (word body : List ℕ) (o : Option Repository) (name : List ℕ) (object : Object) → IsAmong (sent_in (stream_of body)) name object → Shows name (push_into view word body o)
into_shows view word body None name object among = λ is. absurd (cc)
into_shows view word body (Some old) name object among =
    either name (is_some view.upload) (Refused UploadOpen, view) (pushed view word old (finished (stream_of body))) (λ is. absurd (cc)) (pushed_shows view word old (stream_of body) name object among)

upload_shows : (view : View) (word : List ℕ) (old : Repository) (o : Option UploadValue) (name : List ℕ) (object : Object) → IsAmong (sent_in (open_upload o).stream) name object → Shows name (upload_into view word old o)
upload_shows view word old None name object among = λ is. absurd (cc)
upload_shows view word old (Some upload) name object among = pushed_shows view word old upload.stream name object among

end_shows : (view : View) (word : List ℕ) (o : Option Repository) (name : List ℕ) (object : Object) → IsAmong (sent_in (open_upload view.upload).stream) name object → Shows name (end_in view word o)
end_shows view word None name object among = λ is. absurd (cc)
end_shows view word (Some old) name object among = upload_shows view word old view.upload name object among

push_shows : (context : Context) (view : View) (word body : List ℕ) (name : List ℕ) (object : Object) → IsAmong (sent_in (stream_of body)) name object → Shows name (answer context view (Pushes word body))
unfolding answer push_answer
push_shows context view word body name object among = named_shows view name word _ (into_shows view word body (get view.repositories word) name object among)

part_end_shows : (context : Context) (view : View) (word : List ℕ) (name : List ℕ) (object : Object) → IsAmong (sent_in (open_upload view.upload).stream) name object → Shows name (answer context view (EndsParts word))
unfolding answer part_end_answer
part_end_shows context view word name object among = named_shows view name word (end_in view word (get view.repositories word)) (end_shows view word (get view.repositories word) name object among)

further : (context : Context) (view : View) (ask : Ask) (asked : List Meeting) (name : List ℕ) → WasShown (answer context view ask).1 asked name → WasShown view ((context, ask) ∷ asked) name
further context view ask asked name shown = ((context, ask) ∷ shown.0, shown.1, ap (λ all. (context, ask) ∷ all) shown.2, shown.3)

-- the push that is answered here
pushed_here : (context : Context) (view : View) (ask : Ask) (asked : List Meeting) (repository body name : List ℕ) (object : Object) → ◌≡◌ {A = Exchange} (ask, (answer context view ask).0) (Pushes repository body, Done []) → IsAmong (sent_in (stream_of body)) name object → WasShown view ((context, ask) ∷ asked) name
pushed_here context view ask asked repository body name object is among = (
  (context, ask) ∷ [],
  asked,
  refl,
  subst (λ a. Shows name (answer context view a)) (ap (λ (x : Exchange). x.0) (sym is)) (push_shows context view repository body name object among) (ap (λ (x : Exchange). x.1) is),
)

-- the end of an upload that is answered here
ended_here : (context : Context) (view : View) (ask : Ask) (asked : List Meeting) (repository name : List ℕ) (object : Object) → ◌≡◌ {A = Exchange} (ask, (answer context view ask).0) (EndsParts repository, Done []) → IsAmong (sent_in (open_upload view.upload).stream) name object → WasShown view ((context, ask) ∷ asked) name
ended_here context view ask asked repository name object is among = (
  (context, ask) ∷ [],
  asked,
  refl,
  subst (λ a. Shows name (answer context view a)) (ap (λ (x : Exchange). x.0) (sym is)) (part_end_shows context view repository name object among) (ap (λ (x : Exchange). x.1) is),
)

-- what was sent into an upload that began after this end
begun_here : (view : View) (exchange : Exchange) (exchanges : List Exchange) (after : Option UploadValue) (bodies : List (List ℕ)) (name : List ℕ) (object : Object) → IsUploadFrom view exchange after → ends_upload exchange ≡ true
    → IsAmong (sent_in (stream_of (concat bodies))) name object → IsAmong (sent_in (fed (open_upload after) bodies).stream) name object
begun_here view exchange exchanges after bodies name object (Stays part no_end stays) ended among = (let both : true ≡ false = sym ended ∙ no_end in absurd (cc))
begun_here view exchange exchanges after bodies name object (Ends is none) ended among =
    subst (λ (u : UploadValue). IsAmong (sent_in u.stream) name object) (sym (ap (λ o. fed (open_upload o) bodies) none ∙ pieces_join [] bodies)) among
begun_here view exchange exchanges after bodies name object (GoesOn body part goes) ended among = (let both : true ≡ false = sym ended ∙ part_or_end exchange body part in absurd (cc))

-- what was sent into an upload that goes on after this exchange
gone_on_here : (view : View) (exchange : Exchange) (after : Option UploadValue) (bodies later : List (List ℕ)) (name : List ℕ) (object : Object) → IsUploadFrom view exchange after → ends_upload exchange ≡ false → bodies ≡ part_in exchange ++ later
    → IsAmong (sent_in (fed (open_upload view.upload) bodies).stream) name object → IsAmong (sent_in (fed (open_upload after) later).stream) name object
gone_on_here view exchange after bodies later name object (Stays part no_end stays) on whole among =
    subst (λ (u : UploadValue). IsAmong (sent_in u.stream) name object)
    (ap (fed (open_upload view.upload)) (whole ∙ ap (λ front. front ++ later) part) ∙ ap (λ o. fed (open_upload o) later) (sym stays)) among
gone_on_here view exchange after bodies later name object (Ends ended none) on whole among = (let both : true ≡ false = sym ended ∙ on in absurd (cc))
gone_on_here view exchange after bodies later name object (GoesOn body part goes) on whole among =
    subst (λ (u : UploadValue). IsAmong (sent_in u.stream) name object)
    (ap (fed (open_upload view.upload)) (whole ∙ ap (λ front. front ++ later) part) ∙ ap (λ o. fed (open_upload o) later) (sym goes)) among

-- after the first answer, or later
shown_next : (context : Context) (view : View) (ask : Ask) (asked : List Meeting) (exchanges : List Exchange) (name : List ℕ) (object : Object) → (WasSent (answer context view ask).1 exchanges name object → WasShown (answer context view ask).1 asked name)
    → WasSent view ((ask, (answer context view ask).0) ∷ exchanges) name object → WasShown view ((context, ask) ∷ asked) name
shown_next context view ask asked exchanges name object later (InPush repository body (zero, few, is) among) = pushed_here context view ask asked repository body name object is among
shown_next context view ask asked exchanges name object later (InPush repository body (suc k, few, is) among) = further context view ask asked name (later (InPush repository body (k, omega arith, is) among))
shown_next context view ask asked exchanges name object later (InParts [] behind end bodies is ended are among) =
    further context view ask asked name (later (InUpload bodies (subst (λ all. AreParts all bodies) (sym (tail_is (ask, (answer context view ask).0) end exchanges behind is)) are)
    (begun_here view (ask, (answer context view ask).0) exchanges (answer context view ask).1.upload bodies name object (upload_from context view ask) (ap ends_upload (head_is (ask, (answer context view ask).0) end exchanges behind is) ∙ ended) among)))
shown_next context view ask asked exchanges name object later (InParts (x ∷ front) behind end bodies is ended are among) =
    further context view ask asked name (later (InParts front behind end bodies (tail_is (ask, (answer context view ask).0) x exchanges (front ++ end ∷ behind) is) ended are among))
shown_next context view ask asked exchanges name object later (InUpload bodies are among) = by are.during are.no_end are.parts are.whole
  where
    by : (during : List Exchange) → AllByRecursion (λ exchange. ends_upload exchange ≡ false) during → (ask, (answer context view ask).0) ∷ exchanges ≡ during ++ (EndsParts are.repository, Done []) ∷ are.behind → bodies ≡ parts_in during → WasShown view ((context, ask) ∷ asked) name
    by [] no_end is whole =
        ended_here context view ask asked are.repository name object (head_is (ask, (answer context view ask).0) (EndsParts are.repository, Done []) exchanges are.behind is)
        (subst (λ all. IsAmong (sent_in (fed (open_upload view.upload) all).stream) name object) whole among)
    by (x ∷ during) no_end is whole =
        let same = head_is (ask, (answer context view ask).0) x exchanges (during ++ (EndsParts are.repository, Done []) ∷ are.behind) is in
        further context view ask asked name (later (InUpload (parts_in during) (record {
          during = during;
          behind = are.behind;
          repository = are.repository;
          parts = tail_is (ask, (answer context view ask).0) x exchanges (during ++ (EndsParts are.repository, Done []) ∷ are.behind) is;
          no_end = no_end.1;
          whole = refl;
        }) (gone_on_here view (ask, (answer context view ask).0) (answer context view ask).1.upload bodies (parts_in during) name object (upload_from context view ask) (ap ends_upload same ∙ no_end.0) (whole ∙ ap (λ y. part_in y ++ parts_in during) (sym same)) among)))

no_exchange : (front behind : List Exchange) (exchange : Exchange) → [] ≡ front ++ exchange ∷ behind → ⊥
no_exchange [] behind exchange is = cc
no_exchange (first ∷ front) behind exchange is = cc

-- a tenant that asks nothing sent nothing, whatever upload is open
pub silence_sends_nothing : (view : View) (name : List ℕ) (object : Object) → WasSent view [] name object → ⊥
silence_sends_nothing view name object (InPush repository body (k, few, is) among) = omega arith
silence_sends_nothing view name object (InParts front behind end bodies is ended are among) = no_exchange front behind end is
silence_sends_nothing view name object (InUpload bodies are among) = no_exchange are.during are.behind (EndsParts are.repository, Done []) are.parts

-- what was sent was seen at some moment
pub sent_shown : (view : View) (asked : List Meeting) (name : List ℕ) (object : Object) → WasSent view (exchanges_alone view asked) name object → WasShown view asked name
sent_shown view [] name object sent = absurd (silence_sends_nothing view name object sent)
sent_shown view (met ∷ asked) name object sent =
    shown_next met.0 view met.1 asked (exchanges_alone (answer met.0 view met.1).1 asked) name object (sent_shown (answer met.0 view met.1).1 asked name object) sent

-- ---- an offer that is forked
held_joined : (objects others : Objects) (name : List ℕ) (object : Object) → get others name ≡ Some object → contains_key (joined objects others) name ≡ true
held_joined objects others name object is = ap is_some (get_joined name_total objects others name) ∙ by (get objects name) (get others name) is
  where
    by : (o p : Option Object) → p ≡ Some object → is_some (option_or o p) ≡ true
    by None p held = ap is_some held
    by (Some first) p held = refl

offer_shows : (view : View) (key : Pair) (copy : List ℕ) (o : Option Offer) (offer : Offer) (name : List ℕ) (object : Object) → o ≡ Some offer → get offer.objects name ≡ Some object → Shows name (fork_offered view key copy o)
offer_shows view key copy None offer name object stands holds = λ is. absurd (cc)
offer_shows view key copy (Some one) offer name object stands holds =
    either name (contains_key view.repositories copy) (Refused (RepositoryExists copy), view) _ (λ is. absurd (cc))
    (either name (nat_le 256 (len view.repositories)) (Refused TooMany, view) _ (λ is. absurd (cc))
    (either name (nat_lt view.limit (use_of (joined view.objects one.objects))) (Refused OverQuota, view) (Done [], record view { repositories = insert view.repositories copy one.repository; objects = joined view.objects one.objects }) (λ is. absurd (cc))
    (λ is. held_joined view.objects one.objects name object (ap (λ (p : Offer). get p.objects name) (same stands) ∙ holds))))
  where
    same : Some one ≡ Some offer → one ≡ offer
    same is = cc

fork_shows : (context : Context) (view : View) (giver word copy name : List ℕ) (object : Object) → IsOffered context giver word name object → Shows name (answer context view (ForksOffer giver word copy))
unfolding answer fork_offer_answer
fork_shows context view giver word copy name object offered =
    either name (is_plain_name 32 giver) _ (Refused (BadName giver), view)
    (named_shows view name word _ (named_shows view name copy _ (offer_shows view (giver, word) copy (get context.offered (giver, word)) offered.offer name object offered.stands offered.holds)))
    (λ is. absurd (cc))

-- the fork that is answered here
forked_here : (met : Meeting) (view : View) (asked : List Meeting) (context : Context) (giver repository copy name : List ℕ) (object : Object)
    → ◌≡◌ {A = Meeting × Reply} (met, (answer met.0 view met.1).0) ((context, ForksOffer giver repository copy), Done []) → IsOffered context giver repository name object → WasShown view (met ∷ asked) name
forked_here met view asked context giver repository copy name object is offered = (
  met ∷ [],
  asked,
  refl,
  subst (λ (m : Meeting). Shows name (answer m.0 view m.1)) (ap (λ (x : Meeting × Reply). x.0) (sym is)) (fork_shows context view giver repository copy name object offered) (ap (λ (x : Meeting × Reply). x.1) is),
)

-- what was in a forked offer was seen at some moment
pub offered_shown : (view : View) (asked : List Meeting) (name : List ℕ) (object : Object) → WasOffered asked (alone view asked).0 name object → WasShown view asked name
offered_shown view [] name object was = absurd (by was.taken)
  where
    by : IsAnsweredAmong [] [] (was.context, ForksOffer was.giver was.repository was.copy) (Done []) → ⊥
    by (k, few, is) = omega arith
offered_shown view (met ∷ asked) name object was = by was.taken (offered_shown after asked name object)
  where
    after : View
    after = (answer met.0 view met.1).1

    by : IsAnsweredAmong (met ∷ asked) ((answer met.0 view met.1).0 ∷ (alone after asked).0) (was.context, ForksOffer was.giver was.repository was.copy) (Done []) → (WasOffered asked (alone after asked).0 name object → WasShown after asked name) → WasShown view (met ∷ asked) name
    by (zero, few, is) later = forked_here met view asked was.context was.giver was.repository was.copy name object is was.offered
    by (suc k, few, is) later = further met.0 view met.1 asked name (later (record {
      context = was.context;
      giver = was.giver;
      repository = was.repository;
      copy = was.copy;
      taken = (k, omega arith, is);
      offered = was.offered;
    }))
