-- A push whose reply reports a missing name lacks the object of a link, or the target of a command.
use Rattle.std.proofs.Common.{◌≡◌, ℕ, Bool, true, false, cond, List, [], ◌∷◌, Option, None, Some, Result, Ok, Err, is_some, refl, sym, ap, ◌∙◌}
use Rattle.std.specs.Prelude.{nat_lt, map}
use Rattle.std.specs.List.{find}
use Rattle.std.specs.Option.{option_map, option_or}
use Rattle.std.specs.FinMap.{get, contains_key}
use Rattle.git_name.specs.Object.{Object, object_name}
use Rattle.git_object.specs.declared.link.Link.{Link}
use Rattle.git_reftx.specs.declared.command.Command.{Command}
use Rattle.git_reftx.specs.declared.fault.TxRefusal.{TxRefusal}
use Rattle.git_reftx.specs.Repository.{Repository}
use Rattle.git_reftx.specs.Transaction.{References, transacted}
use Rattle.push_stream.specs.declared.fault.StreamFault.{StreamFault}
use Rattle.push_stream.specs.declared.fault.StreamFault.TheVariants as stream
use Rattle.push_stream.specs.Stream.{Stream, finished, stream_of}
use Rattle.push_stream.specs.Upload.{UploadValue}
use Rattle.fork_push.specs.declared.refusal.PushRefusal.{PushRefusal}
use Rattle.fork_push.specs.declared.refusal.PushRefusal.TheVariants as push
use Rattle.fork_push.specs.Push.{is_missing, is_wrong, judged, within_limit, wrong_type, refusal_or as unless_push}
use Rattle.fork_reach.specs.Objects.{use_of, with_objects}
use Rattle.fork_reach.specs.Source.{Objects, kind_in}
use Rattle.fork_request.specs.declared.refusal.Refusal.TheVariants.{Missing, UploadOpen}
use Rattle.fork_request.specs.declared.reply.Reply.TheVariants.{Refused}
use Rattle.fork_model.specs.Answer.{Finished, push_into, push_refusal, pushed, stream_refusal, taken, transaction_refusal, upload_into}
use Rattle.fork_model.specs.Missing.{IsFirst, LacksInStream, LacksInUpload, LacksSent, Linked, Pointed, links_sent}
use Rattle.fork_model.specs.View.{View}
use Rattle.fork_model.proofs.ToldTargets.{an_object, both_lacking, no_object, transacted_of}

-- the link that decided
link_of : (objects : Objects) (sent : List Object) (name : List ℕ) (links : List Link) (link : Link) → find (is_missing (with_objects objects sent)) links ≡ Some link
    → IsFirst (λ other. contains_key (with_objects objects sent) other.name) links link × (get (with_objects objects sent) link.name ≡ None)
link_of objects sent name [] link is = absurd (cc)
link_of objects sent name (x ∷ links) link is = by (is_missing (with_objects objects sent) x) refl is (link_of objects sent name links link)
  where
    Found : List Link → Type 0
    Found all = IsFirst (λ other. contains_key (with_objects objects sent) other.name) all link × (get (with_objects objects sent) link.name ≡ None)

    by : (b : Bool) → is_missing (with_objects objects sent) x ≡ b → cond b (Some x) (find (is_missing (with_objects objects sent)) links) ≡ Some link → (find (is_missing (with_objects objects sent)) links ≡ Some link → Found links) → Found (x ∷ links)
    by true absent tells rest =
        let same : x ≡ link = cc in
        (record { before = []; behind = links; parts = ap (λ y. y ∷ links) same; passed = tt }, no_object (get (with_objects objects sent) link.name) (ap (is_missing (with_objects objects sent)) (sym same) ∙ absent))
    by false there tells rest =
        let later = rest tells in
        (record { before = x ∷ later.0.before; behind = later.0.behind; parts = ap (λ all. x ∷ all) later.0.parts; passed = (an_object (get (with_objects objects sent) x.name) there, later.0.passed) }, later.1)

stream_word : (fault : StreamFault) (name : List ℕ) → stream_refusal fault ≡ Missing name → ⊥
stream_word stream.Syntax name is = cc
stream_word stream.TooMany name is = cc
stream_word (stream.TooLarge n) name is = cc
stream_word (stream.WrongName n) name is = cc
stream_word (stream.BadObject n) name is = cc
stream_word stream.Truncated name is = cc

-- what a push lacks if its reply is `missing`
sent_of : (objects : Objects) (old : References) (limit : ℕ) (commands : List Command) (sent : List Object) (refusal : PushRefusal) (name : List ℕ) → judged (with_objects objects sent) old limit (Ok (commands, map object_name sent)) ≡ Err refusal
    → push_refusal refusal ≡ Missing name → LacksSent objects commands sent name
unfolding judged
sent_of objects old limit commands sent refusal name is word =
    by_links (find (is_missing both) links) (find (is_wrong both) links) refl refl is
  where
    both : Objects
    both = with_objects objects sent

    links : List Link
    links = links_sent objects sent

    missing_word : (n : List ℕ) → ◌≡◌ {A = Result References PushRefusal} (Err (push.Missing n)) (Err refusal) → n ≡ name
    missing_word n tells =
        let same : push.Missing n ≡ refusal = cc in
        let words : Missing n ≡ Missing name = ap push_refusal same ∙ word in
        cc

    within : (r : Result References TxRefusal) → within_limit both limit r ≡ Err refusal → (tx_refusal : TxRefusal) × (r ≡ Err tx_refusal) × (transaction_refusal tx_refusal ≡ Missing name)
    within (Ok new) tells = absurd (full (nat_lt limit (use_of both)) tells)
      where
        full : (b : Bool) → ◌≡◌ {A = Result References PushRefusal} (cond b (Err push.OverQuota) (Ok new)) (Err refusal) → ⊥
        full true is_full =
            let same : push.OverQuota ≡ refusal = cc in
            let words : push_refusal push.OverQuota ≡ Missing name = ap push_refusal same ∙ word in
            cc
        full false is_full = cc
    within (Err other) tells =
        let same : push.Transaction other ≡ refusal = cc in
        (other, refl, ap push_refusal same ∙ word)

    by_links : (o p : Option Link) → find (is_missing both) links ≡ o → find (is_wrong both) links ≡ p
        → unless_push (option_or (option_map (λ (link : Link). push.Missing link.name) o) (option_map (λ (link : Link). push.WrongType link.name) p)) (within_limit both limit (transacted old commands (kind_in both))) ≡ Err refusal → LacksSent objects commands sent name
    by_links (Some link) p missing_is wrong_is tells =
        let found = link_of objects sent name links link missing_is in
        let named = missing_word link.name tells in
        Linked (record { link = link; first = found.0; named = named; lacking = both_lacking objects sent name (ap (get both) (sym named) ∙ found.1) })
    by_links None (Some link) missing_is wrong_is tells =
        let same : push.WrongType link.name ≡ refusal = cc in
        let words : push_refusal (push.WrongType link.name) ≡ Missing name = ap push_refusal same ∙ word in
        absurd (cc)
    by_links None None missing_is wrong_is tells =
        let at = within (transacted old commands (kind_in both)) tells in
        Pointed (ap (λ o. option_or (option_map (λ (link : Link). push.Missing link.name) o) (wrong_type both links)) missing_is ∙ ap (option_map (λ (link : Link). push.WrongType link.name)) wrong_is)
        (transacted_of objects sent old commands at.0 name at.1 at.2)

pushed_of : (view : View) (repository : List ℕ) (old : Repository) (s : Stream) (name : List ℕ) → (pushed view repository old (finished s)).0 ≡ Refused (Missing name) → LacksInStream view.objects s name
unfolding judged
pushed_of view repository old s name is = by (finished s) refl is
  where
    by_verdict : (objects : Objects) (r : Result References PushRefusal) → (taken view repository old objects r).0 ≡ Refused (Missing name) → (refusal : PushRefusal) × (r ≡ Err refusal) × (push_refusal refusal ≡ Missing name)
    by_verdict objects (Ok new) tells = absurd (cc)
    by_verdict objects (Err refusal) tells = (refusal, refl, cc)

    by : (held : Finished) → finished s ≡ held → (pushed view repository old held).0 ≡ Refused (Missing name) → LacksInStream view.objects s name
    by (Ok held) whole tells =
        let verdict = by_verdict (with_objects view.objects held.1) (judged (with_objects view.objects held.1) old.references view.limit (Ok (held.0, map object_name held.1))) tells in
        record { commands = held.0; sent = held.1; whole = whole; lacks = sent_of view.objects old.references view.limit held.0 held.1 verdict.0 name verdict.1 verdict.2 }
    by (Err fault) whole tells =
        let words : stream_refusal fault ≡ Missing name = cc in
        absurd (stream_word fault name words)

pub push_of : (view : View) (repository : List ℕ) (old : Repository) (body name : List ℕ) → (push_into view repository body (Some old)).0 ≡ Refused (Missing name) → (view.upload ≡ None) × LacksInStream view.objects (stream_of body) name
push_of view repository old body name is = by view.upload refl is
  where
    by : (o : Option UploadValue) → view.upload ≡ o → (cond (is_some o) (Refused UploadOpen, view) (pushed view repository old (finished (stream_of body)))).0 ≡ Refused (Missing name) → (view.upload ≡ None) × LacksInStream view.objects (stream_of body) name
    by None closed tells = (closed, pushed_of view repository old (stream_of body) name tells)
    by (Some upload) opened tells = absurd (cc)

pub upload_of_end : (view : View) (repository : List ℕ) (old : Repository) (name : List ℕ) → (upload_into view repository old view.upload).0 ≡ Refused (Missing name) → LacksInUpload view.objects view.upload name
upload_of_end view repository old name is = by view.upload refl is
  where
    by : (o : Option UploadValue) → view.upload ≡ o → (upload_into view repository old o).0 ≡ Refused (Missing name) → LacksInUpload view.objects view.upload name
    by None closed tells = absurd (cc)
    by (Some upload) opened tells = record { upload = upload; opened = opened; lacks = pushed_of view repository old upload.stream name tells }
