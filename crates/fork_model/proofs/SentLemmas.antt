-- Over whole runs: a tenant sees what it saw before, sent itself, or forked.
use Rattle.std.proofs.Common.{◌≡◌, ℕ, Bool, true, false, cond, List, [], ◌∷◌, Option, Some, None, refl, sym, ap, subst, ◌∙◌, inl, inr, ◌⊎◌}
use Rattle.std.specs.Prelude.{◌++◌, Contains, not}
use Rattle.std.specs.List.{zip}
use Rattle.std.specs.Ordering.{eq_by_cmp}
use Rattle.std.specs.FinMap.{get, get-insert}
use Rattle.git_name.specs.Name.{name_cmp}
use Rattle.git_name.specs.Object.{Object}
use Rattle.git_name.proofs.Names.{name_total}
use Rattle.push_stream.specs.Stream.{sent_in}
use Rattle.push_stream.specs.Upload.{UploadValue, fed}
use Rattle.push_stream.proofs.PieceLemmas.{pieces_join}
use Rattle.fork_request.specs.Asked.{Ask, ForksOffer, Pushes, SendsPart, EndsParts, DropsParts}
use Rattle.fork_request.specs.Told.{is_host_fault}
use Rattle.fork_request.specs.declared.refusal.Refusal.TheVariants.{UnknownTenant}
use Rattle.fork_request.specs.declared.reply.Reply.{Reply}
use Rattle.fork_request.specs.declared.reply.Reply.TheVariants.{Done, Refused}
use Rattle.fork_model.specs.Answer.{answer, open_upload}
use Rattle.fork_model.specs.Context.{Context, met_by}
use Rattle.fork_model.specs.Provenance.{IsAmong, IsFrom, Seen, Pushed, Uploaded, Taken, IsUploadFrom, Stays, Ends, GoesOn, AreParts, WasOffered, WasSent, InPush, InParts, InUpload, part_in, parts_in, ends_upload}
use Rattle.fork_model.specs.Runs.{Asks, HostAsks, Answered, Unknown, Faulted}
use Rattle.fork_model.specs.View.{View}
use Rattle.fork_model.specs.World.{World, Event, Exchange, Steps, Explains, HostSays, alone, Meeting, exchanges, exchanges_alone, met, own, told}
use Rattle.fork_model.proofs.IsolationLemmas.{tied, other_step, own_request}
use Rattle.fork_model.proofs.KeptLemmas.{here, there}
use Rattle.fork_model.proofs.PartLemmas.{part_or_end}
use Rattle.fork_model.proofs.ProvenanceLemmas.{object_from, upload_from}

-- an object was seen, or was sent in these exchanges, or was in an offer that was met and forked
abbrev WasSeen : View → List Exchange → List Meeting → List Reply → List ℕ → Object → Type 0
WasSeen view exchanges asked replies name object = (get view.objects name ≡ Some object) ⊎ (WasSent view exchanges name object ⊎ WasOffered asked replies name object)

abbrev IsAt : List (Meeting × Reply) → Meeting × Reply → Type 0
IsAt all one = Contains all one

-- a request that a host fault answers is neither a part nor an end
fault_no_part : (ask : Ask) (reply : Reply) → is_host_fault reply ≡ true → part_in (ask, reply) ≡ []
fault_no_part (SendsPart body) (Done text) bad = absurd (cc)
fault_no_part ask reply bad = refl

fault_no_end : (ask : Ask) (reply : Reply) → is_host_fault reply ≡ true → ends_upload (ask, reply) ≡ false
fault_no_end (EndsParts repository) reply bad = ap not bad
fault_no_end DropsParts reply bad = ap not bad
fault_no_end ask reply bad = refl

-- an upload continues here, together with what came before, which is no end
more_parts : (exchange : Exchange) (exchanges : List Exchange) (front bodies : List (List ℕ)) → part_in exchange ≡ front → ends_upload exchange ≡ false → AreParts exchanges bodies → AreParts (exchange ∷ exchanges) (front ++ bodies)
more_parts exchange exchanges front bodies part no_end are = record {
  during = exchange ∷ are.during;
  behind = are.behind;
  repository = are.repository;
  parts = ap (λ all. exchange ∷ all) are.parts;
  no_end = (no_end, are.no_end);
  whole = ap (λ all. front ++ all) are.whole ∙ ap (λ all. all ++ parts_in are.during) (sym part);
}

-- what was sent into an upload that was open after an answer
upload_sent : (view : View) (exchange : Exchange) (exchanges : List Exchange) (after : Option UploadValue) (bodies : List (List ℕ)) (name : List ℕ) (object : Object)
    → IsUploadFrom view exchange after → AreParts exchanges bodies → IsAmong (sent_in (fed (open_upload after) bodies).stream) name object → WasSent view (exchange ∷ exchanges) name object
upload_sent view exchange exchanges after bodies name object (Stays part no_end stays) are among =
    InUpload bodies (more_parts exchange exchanges [] bodies part no_end are)
    (subst (λ o. IsAmong (sent_in (fed (open_upload o) bodies).stream) name object) stays among)
upload_sent view exchange exchanges after bodies name object (Ends ended none) are among =
    InParts [] exchanges exchange bodies refl ended are
    (subst (λ (u : UploadValue). IsAmong (sent_in u.stream) name object) (ap (λ o. fed (open_upload o) bodies) none ∙ pieces_join [] bodies) among)
upload_sent view exchange exchanges after bodies name object (GoesOn body part goes) are among =
    InUpload (body ∷ bodies) (more_parts exchange exchanges (body ∷ []) bodies part (part_or_end exchange body part) are)
    (subst (λ o. IsAmong (sent_in (fed (open_upload o) bodies).stream) name object) goes among)

-- what was sent after an answer was sent from the view before it
later_sent : (context : Context) (view : View) (ask : Ask) (exchanges : List Exchange) (name : List ℕ) (object : Object) → WasSent (answer context view ask).1 exchanges name object → WasSent view ((ask, (answer context view ask).0) ∷ exchanges) name object
later_sent context view ask exchanges name object (InPush repository body asked among) = InPush repository body (there (ask, (answer context view ask).0) (Pushes repository body, Done []) exchanges asked) among
later_sent context view ask exchanges name object (InParts front behind end bodies is ended are among) =
    InParts ((ask, (answer context view ask).0) ∷ front) behind end bodies (ap (λ all. (ask, (answer context view ask).0) ∷ all) is) ended are among
later_sent context view ask exchanges name object (InUpload bodies are among) =
    upload_sent view (ask, (answer context view ask).0) exchanges (answer context view ask).1.upload bodies name object (upload_from context view ask) are among

-- an offer that was met after a request was also met in the list that begins with it
later_offered : (met : Meeting) (reply : Reply) (asked : List Meeting) (replies : List Reply) (name : List ℕ) (object : Object) → WasOffered asked replies name object → WasOffered (met ∷ asked) (reply ∷ replies) name object
later_offered met reply asked replies name object was = record {
  context = was.context;
  giver = was.giver;
  repository = was.repository;
  copy = was.copy;
  taken = there {A = Meeting × Reply} (met, reply) ((was.context, ForksOffer was.giver was.repository was.copy), Done []) (zip asked replies) was.taken;
  offered = was.offered;
}

-- what is seen after the first answer
first_seen : (context : Context) (view : View) (ask : Ask) (reply : Reply) (exchanges : List Exchange) (asked : List Meeting) (replies : List Reply) (name : List ℕ) (object : Object) → IsFrom context view (ask, reply) name object
    → WasSeen view ((ask, reply) ∷ exchanges) ((context, ask) ∷ asked) (reply ∷ replies) name object
first_seen context view ask reply exchanges asked replies name object (Seen was) = inl was
first_seen context view ask reply exchanges asked replies name object (Pushed repository body is among) =
    inr (inl (InPush repository body (subst (λ e. Contains (e ∷ exchanges) (Pushes repository body, Done [])) (sym is) (here (Pushes repository body, Done []) exchanges)) among))
first_seen context view ask reply exchanges asked replies name object (Uploaded repository upload is open_is among) =
    inr (inl (InUpload [] (record { during = []; behind = exchanges; repository = repository; parts = ap (λ e. e ∷ exchanges) is; no_end = tt; whole = refl })
    (subst (λ o. IsAmong (sent_in (open_upload o).stream) name object) (sym open_is) among)))
first_seen context view ask reply exchanges asked replies name object (Taken giver repository copy is offered) =
    inr (inr (record {
      context = context;
      giver = giver;
      repository = repository;
      copy = copy;
      taken = subst (λ (e : Exchange). IsAt (((context, e.0), e.1) ∷ zip asked replies) ((context, ForksOffer giver repository copy), Done [])) (sym is)
          (here {A = Meeting × Reply} ((context, ForksOffer giver repository copy), Done []) (zip asked replies));
      offered = offered;
    }))

-- what is seen after an answer and further requests
still_seen : (context : Context) (view : View) (ask : Ask) (exchanges : List Exchange) (asked : List Meeting) (replies : List Reply) (name : List ℕ) (object : Object) → WasSeen (answer context view ask).1 exchanges asked replies name object
    → WasSeen view ((ask, (answer context view ask).0) ∷ exchanges) ((context, ask) ∷ asked) ((answer context view ask).0 ∷ replies) name object
still_seen context view ask exchanges asked replies name object (inl found) = first_seen context view ask (answer context view ask).0 exchanges asked replies name object (object_from context view ask name object found)
still_seen context view ask exchanges asked replies name object (inr (inl sent)) = inr (inl (later_sent context view ask exchanges name object sent))
still_seen context view ask exchanges asked replies name object (inr (inr offered)) = inr (inr (later_offered (context, ask) (answer context view ask).0 asked replies name object offered))

-- what is seen in the end was seen first, or was sent, or offered
pub seen_or_sent : (view : View) (asked : List Meeting) (name : List ℕ) (object : Object) → get (alone view asked).1.objects name ≡ Some object → WasSeen view (exchanges_alone view asked) asked (alone view asked).0 name object
seen_or_sent view [] name object found = inl found
seen_or_sent view (met ∷ asked) name object found =
    let after = (answer met.0 view met.1).1 in
    still_seen met.0 view met.1 (exchanges_alone after asked) asked (alone after asked).0 name object (seen_or_sent after asked name object found)

same_view : (a b : View) → Some a ≡ Some b → a ≡ b
same_view a b is = cc

no_view : (view : View) → None ≡ Some view → ⊥
no_view view is = cc

-- what was sent stays sent if a host fault comes first
more_sent : (view : View) (ask : Ask) (reply : Reply) (exchanges : List Exchange) (name : List ℕ) (object : Object) → is_host_fault reply ≡ true → WasSent view exchanges name object → WasSent view ((ask, reply) ∷ exchanges) name object
more_sent view ask reply exchanges name object bad (InPush repository body asked among) = InPush repository body (there (ask, reply) (Pushes repository body, Done []) exchanges asked) among
more_sent view ask reply exchanges name object bad (InParts front behind end bodies is ended are among) =
    InParts ((ask, reply) ∷ front) behind end bodies (ap (λ all. (ask, reply) ∷ all) is) ended are among
more_sent view ask reply exchanges name object bad (InUpload bodies are among) =
    InUpload bodies (more_parts (ask, reply) exchanges [] bodies (fault_no_part ask reply bad) (fault_no_end ask reply bad) are) among

more_asked : (met : Meeting) (view : View) (reply : Reply) (exchanges : List Exchange) (asked : List Meeting) (replies : List Reply) (name : List ℕ) (object : Object) → is_host_fault reply ≡ true → WasSeen view exchanges asked replies name object
    → WasSeen view ((met.1, reply) ∷ exchanges) (met ∷ asked) (reply ∷ replies) name object
more_asked met view reply exchanges asked replies name object bad (inl was) = inl was
more_asked met view reply exchanges asked replies name object bad (inr (inl sent)) = inr (inl (more_sent view met.1 reply exchanges name object bad sent))
more_asked met view reply exchanges asked replies name object bad (inr (inr offered)) = inr (inr (later_offered met reply asked replies name object offered))

-- a step of the tenant: it is answered, or a host fault leaves its view
own_asked : (old mid : World) (t u : List ℕ) (ask : Ask) (reply : Reply) (view : View) (exchanges : List Exchange) (asked : List Meeting) (replies : List Reply) (name : List ℕ) (object : Object) → eq_by_cmp name_cmp t u ≡ true → Steps old (Asks u ask) reply mid → get old t ≡ Some view
    → ((next : View) → get mid t ≡ Some next → WasSeen next exchanges asked replies name object) → WasSeen view ((ask, reply) ∷ exchanges) ((met_by old u, ask) ∷ asked) (reply ∷ replies) name object
own_asked old mid t u ask reply view exchanges asked replies name object same (Answered other here_is told set) was rest =
    let context = met_by old u in
    let is = same_view other view (sym here_is ∙ sym (tied name_cmp name_total met_by answer (Refused UnknownTenant) is_host_fault HostSays old t u same) ∙ was) in
    let next = ap (λ w. get w t) set ∙ get-insert name_total old u (answer context other ask).1 t ∙ ap (λ b. cond b (Some (answer context other ask).1) (get old t)) same in
    subst (λ (r : Reply). WasSeen view ((ask, r) ∷ exchanges) ((context, ask) ∷ asked) (r ∷ replies) name object) (sym (told ∙ ap (λ v. (answer context v ask).0) is))
    (still_seen context view ask exchanges asked replies name object (subst (λ v. WasSeen (answer context v ask).1 exchanges asked replies name object) is (rest (answer context other ask).1 next)))
own_asked old mid t u ask reply view exchanges asked replies name object same (Unknown none told stays) was rest =
    absurd (no_view view (sym none ∙ sym (tied name_cmp name_total met_by answer (Refused UnknownTenant) is_host_fault HostSays old t u same) ∙ was))
own_asked old mid t u ask reply view exchanges asked replies name object same (Faulted bad stays) was rest =
    more_asked (met_by old u, ask) view reply exchanges asked replies name object bad (rest view (ap (λ w. get w t) stays ∙ was))

-- over a run of a host of many tenants, whatever faults occur
pub run_seen_or_sent : (tenant : List ℕ) (old new : World) (steps : List Event) (replies : List Reply) (view last : View) (name : List ℕ) (object : Object)
    → (run : Explains old steps replies new) → get old tenant ≡ Some view → get new tenant ≡ Some last
    → get last.objects name ≡ Some object → WasSeen view (exchanges tenant steps replies) (met tenant old steps replies new run) (told tenant steps replies) name object
run_seen_or_sent t old new [] [] view last name object run was is found =
    inl (ap (λ (v : View). get v.objects name) (same_view view last (sym was ∙ ap (λ w. get w t) (sym run) ∙ is)) ∙ found)
run_seen_or_sent t old new [] (reply ∷ replies) view last name object run was is found = absurd run
run_seen_or_sent t old new (Asks u ask ∷ steps) [] view last name object run was is found = absurd run
run_seen_or_sent t old new (HostAsks ask ∷ steps) [] view last name object run was is found = absurd run
run_seen_or_sent t old new (HostAsks ask ∷ steps) (reply ∷ replies) view last name object run was is found =
    run_seen_or_sent t run.0 new steps replies view last name object run.2
    (ap (λ w. get w t) (own_request name_cmp name_total met_by answer (Refused UnknownTenant) is_host_fault HostSays old run.0 ask reply run.1) ∙ was) is found
run_seen_or_sent t old new (Asks u ask ∷ steps) (reply ∷ replies) view last name object run was is found =
    by (eq_by_cmp name_cmp t u) refl (λ next here_is. run_seen_or_sent t run.0 new steps replies next last name object run.2 here_is is found)
  where
    asked : List Meeting
    asked = met t run.0 steps replies new run.2

    by : (b : Bool) → eq_by_cmp name_cmp t u ≡ b → ((next : View) → get run.0 t ≡ Some next → WasSeen next (exchanges t steps replies) asked (told t steps replies) name object)
        → WasSeen view (zip (cond b (ask ∷ own t steps) (own t steps)) (cond b (reply ∷ told t steps replies) (told t steps replies))) (cond b ((met_by old u, ask) ∷ asked) asked) (cond b (reply ∷ told t steps replies) (told t steps replies)) name object
    by true same rest = own_asked old run.0 t u ask reply view (exchanges t steps replies) asked (told t steps replies) name object same run.1 was rest
    by false apart rest = rest view (other_step name_cmp name_total met_by answer (Refused UnknownTenant) is_host_fault HostSays old run.0 t u ask reply apart run.1 ∙ was)
