-- What an open upload has staged, piece by piece.
use Rattle.std.proofs.Common.{◌≡◌, ◌⊎◌, inl, inr, ℕ, Bool, true, false, cond, IsTrue, List, [], ◌∷◌, ◌++◌, Option, None, Some, length, drop, take, arith, is_some, refl, sym, ap, subst, ◌∙◌}
use Rattle.std.specs.Prelude.{Contains}
use Rattle.std.specs.List.{AllByRecursion}
use Rattle.std.specs.Ordering.{eq_by_cmp, is_eq}
use Rattle.std.specs.FinMap.{contains_key, empty, get, get-empty, get-insert, insert}
use Rattle.std.proofs.lemmas.Cmp.{tied_itself}
use Rattle.std.proofs.lemmas.List.{take-append-drop}
use Rattle.std.proofs.lemmas.List.Elements.{Contains-append_left, Contains-append_right}
use Rattle.git_name.specs.Maps.{joined}
use Rattle.git_name.specs.Name.{name_cmp}
use Rattle.git_name.specs.Object.{Object, object_name}
use Rattle.git_name.proofs.Names.{name_total}
use Rattle.git_reftx.specs.declared.command.Command.{Command}
use Rattle.push_stream.specs.OpenUpload.{is_broken}
use Rattle.push_stream.specs.Reading.{Reading, flow_of, gained, gained_by, read_on, reading_of}
use Rattle.push_stream.specs.Stream.{Stream, Flows, Breaks, behind, sent_in, stream_of}
use Rattle.push_stream.specs.Upload.{UploadValue, continued, stream_with, upload_of}
use Rattle.push_stream.proofs.PieceLemmas.{piece_joins}
use Rattle.push_stream.proofs.ReadingLemmas.{gained_is, reading_joins}
use Rattle.fork_reach.specs.Objects.{Measures, measures_of, with_objects}
use Rattle.fork_reach.specs.Source.{Objects}
use Rattle.fork_reach.proofs.KeptObjects.{tied_names}
use Rattle.fork_reach.proofs.MeasureLemmas.{same_there}
use Rattle.fork_ledger.specs.AllStaged.{with_all_staged}
use Rattle.fork_ledger.specs.Private.{Private, standing, with_staged, with_under}
use Rattle.fork_ledger.specs.Tenants.{VaultState, private_of}
use Rattle.fork_ledger.proofs.BothLemmas.{none_of}
use Rattle.fork_model.specs.Provenance.{IsAmong}
use Rattle.fork_model.specs.Uploads.{AreSent, upload_among}
use Rattle.fork_model.proofs.ClosedLemmas.{each_of, each_weaker, joined as each_both}
use Rattle.fork_model.proofs.KeptLemmas.{there as found_behind}
use Rattle.fork_model.proofs.TransferLemmas.{none_there}
use Rattle.fork_model.proofs.UploadLemmas.{beside_sent, upload_again}
use Rattle.fork_host.specs.Own.{ChangesTenant, KeepsStaged, MadeBy, staged_in}
use Rattle.fork_host.specs.Staged.{Came, IsSentName, IsStaged}
use Rattle.fork_host.proofs.OwnLemmas.{own_made}

-- ---- objects that are staged, name by name
-- what was under a name still is
kept_under : (objects : Objects) (name : List ℕ) (x : Object) (q : List ℕ) → contains_key objects q ≡ true → get (with_under objects name x) q ≡ get objects q
kept_under objects name x q there = by (contains_key objects name) refl
  where
    apart : (b : Bool) → eq_by_cmp name_cmp q name ≡ b → contains_key objects name ≡ false → cond b (Some x) (get objects q) ≡ get objects q
    apart true same none = (let no : ⊥ = cc (ap (contains_key objects) (tied_names q name same)) in absurd no)
    apart false same none = refl

    by : (b : Bool) → contains_key objects name ≡ b → get (cond b objects (insert objects name x)) q ≡ get objects q
    by true is = refl
    by false is = get-insert name_total objects name x q ∙ apart (eq_by_cmp name_cmp q name) refl is

-- what is added under a name is found there
here_under : (objects : Objects) (name : List ℕ) (x : Object) → contains_key (with_under objects name x) name ≡ true
here_under objects name x = by (contains_key objects name) refl
  where
    by : (b : Bool) → contains_key objects name ≡ b → contains_key (cond b objects (insert objects name x)) name ≡ true
    by true there = there
    by false absent = ap is_some (get-insert name_total objects name x name) ∙ ap (λ order. is_some (cond (is_eq order) (Some x) (get objects name))) (tied_itself name_total name)

-- and nothing else is added
alone_under : (objects : Objects) (name : List ℕ) (x : Object) (q : List ℕ) → contains_key (with_under objects name x) q ≡ true → (contains_key objects q ≡ true) ⊎ (name ≡ q)
alone_under objects name x q = by (contains_key objects name)
  where
    at : (b : Bool) → eq_by_cmp name_cmp q name ≡ b → is_some (cond b (Some x) (get objects q)) ≡ true → (contains_key objects q ≡ true) ⊎ (name ≡ q)
    at true same is = inr (sym (tied_names q name same))
    at false same is = inl is

    by : (b : Bool) → contains_key (cond b objects (insert objects name x)) q ≡ true → (contains_key objects q ≡ true) ⊎ (name ≡ q)
    by true is = inl is
    by false is = at (eq_by_cmp name_cmp q name) refl (sym (ap is_some (get-insert name_total objects name x q)) ∙ is)

-- after several objects: what was staged stays, each of them is found, and no others
all_kept : (objects : List Object) (own : Private) (q : List ℕ) → contains_key own.staged q ≡ true → get (with_all_staged objects own).staged q ≡ get own.staged q
all_kept [] own q there = refl
all_kept (object ∷ objects) own q there =
    let first = kept_under own.staged (object_name object) (standing own object) q there in
    all_kept objects (with_staged object own) q (ap is_some first ∙ there) ∙ first

all_there : (objects : List Object) (own : Private) → AllByRecursion (λ object. contains_key (with_all_staged objects own).staged (object_name object) ≡ true) objects
all_there [] own = tt
all_there (object ∷ objects) own =
    let here = here_under own.staged (object_name object) (standing own object) in
    (ap is_some (all_kept objects (with_staged object own) (object_name object) here) ∙ here, all_there objects (with_staged object own))

all_alone : (objects : List Object) (own : Private) (q : List ℕ) → contains_key (with_all_staged objects own).staged q ≡ true → (contains_key own.staged q ≡ true) ⊎ IsSentName objects q
all_alone [] own q is = inl is
all_alone (object ∷ objects) own q is =
    elim (all_alone objects (with_staged object own) q is) [
      | inl before ↦ elim (alone_under own.staged (object_name object) (standing own object) q before) [
        | inl was ↦ inl was
        | inr named ↦ inr (object, (0, omega arith, refl), named)
      ]
      | inr later ↦ inr (later.0, found_behind object later.0 objects later.1, later.2)
    ]

-- ---- what was sent and what is added
-- over any store: the names are found
names_more : (sent objects : List Object) (own : Private) (new : Objects) → measures_of new ≡ measures_of (with_all_staged objects own).staged
    → AllByRecursion (λ object. contains_key own.staged (object_name object) ≡ true) sent → AllByRecursion (λ object. contains_key new (object_name object) ≡ true) (sent ++ objects)
names_more sent objects own new same there = each_both Is sent objects (each_weaker Was Is sent still there) (each_weaker Now Is objects came (all_there objects own))
  where
    Was : Object → Type 0
    Was object = contains_key own.staged (object_name object) ≡ true

    Now : Object → Type 0
    Now object = contains_key (with_all_staged objects own).staged (object_name object) ≡ true

    Is : Object → Type 0
    Is object = contains_key new (object_name object) ≡ true

    came : (object : Object) → Now object → Is object
    came object is = same_there new (with_all_staged objects own).staged (object_name object) same ∙ is

    still : (object : Object) → Was object → Is object
    still object was = came object (ap is_some (all_kept objects own (object_name object) was) ∙ was)

-- and no others are
alone_more : (sent objects : List Object) (own : Private) (new : Objects) → measures_of new ≡ measures_of (with_all_staged objects own).staged
    → ((name : List ℕ) → contains_key own.staged name ≡ true → IsSentName sent name) → (name : List ℕ) → contains_key new name ≡ true → IsSentName (sent ++ objects) name
alone_more sent objects own new same alone name is =
    elim (all_alone objects own name (sym (same_there new (with_all_staged objects own).staged name same) ∙ is)) [
      | inl was ↦ (let before = alone name was in (before.0, Contains-append_left sent objects before.0 before.1, before.2))
      | inr came ↦ (came.0, Contains-append_right sent objects came.0 came.1, came.2)
    ]

-- over an honest store: these very objects
exact_more : (sent objects : List Object) (own : Private) → AllByRecursion (λ object. get (with_all_staged objects own).staged (object_name object) ≡ Some object) objects
    → AreSent own.staged sent → AreSent (with_all_staged objects own).staged (sent ++ objects)
exact_more sent objects own each are = record {
  each = each_both Is sent objects (each_weaker Was Is sent still are.each) each;
  alone = λ name object is. by name object is (all_alone objects own name (ap is_some is));
}
  where
    Was : Object → Type 0
    Was object = get own.staged (object_name object) ≡ Some object

    Is : Object → Type 0
    Is object = get (with_all_staged objects own).staged (object_name object) ≡ Some object

    still : (object : Object) → Was object → Is object
    still object was = all_kept objects own (object_name object) (ap is_some was) ∙ was

    by : (name : List ℕ) (object : Object) → get (with_all_staged objects own).staged name ≡ Some object → (contains_key own.staged name ≡ true) ⊎ IsSentName objects name → IsAmong (sent ++ objects) name object
    by name object is (inl was) =
        let among = are.alone name object (sym (all_kept objects own name was) ∙ is) in
        record { sent = Contains-append_left sent objects object among.sent; named = among.named }
    by name object is (inr came) =
        let found : Some came.0 ≡ Some object = sym (each_of Is objects came.0 each came.1) ∙ ap (get (with_all_staged objects own).staged) came.2 ∙ is in
        let itself : came.0 ≡ object = cc found in
        record { sent = Contains-append_right sent objects object (subst (Contains objects) itself came.1); named = ap object_name (sym itself) ∙ came.2 }

-- ---- a stream with one more piece
-- a stream put after some objects has these and its own, unless it breaks
sent_behind : (commands : List Command) (objects : List Object) (s : Stream) → is_broken (flow_of (behind commands objects s)) ≡ false → sent_in (behind commands objects s) ≡ objects ++ sent_in s
sent_behind commands objects (Flows others more headed rest) whole = refl
sent_behind commands objects (Breaks fault) whole = absurd (cc)

sent_joins : (s : Stream) (piece : List ℕ) → is_broken (flow_of (stream_with s piece)) ≡ false → sent_in (stream_with s piece) ≡ sent_in s ++ gained (flow_of s) piece
sent_joins (Flows commands objects true rest) piece whole = sent_behind commands objects _ whole
sent_joins (Flows commands objects false rest) piece whole = sent_behind commands objects _ whole
sent_joins (Breaks fault) piece whole = absurd (cc)

sent_more : (bytes piece : List ℕ) → is_broken (reading_of (bytes ++ piece)).flow ≡ false → sent_in (stream_of (bytes ++ piece)) ≡ sent_in (stream_of bytes) ++ gained (reading_of bytes).flow piece
unfolding continued
sent_more bytes piece whole =
    let joins : stream_with (stream_of bytes) piece ≡ stream_of (bytes ++ piece) = ap (λ (upload : UploadValue). upload.stream) (piece_joins bytes piece) in
    ap sent_in (sym joins) ∙ sent_joins (stream_of bytes) piece (ap (λ s. is_broken (flow_of s)) joins ∙ whole)

-- a broken stream has no objects
broken_sent : (s : Stream) → is_broken (flow_of s) ≡ true → sent_in s ≡ []
broken_sent (Flows commands objects headed rest) broken = absurd (cc)
broken_sent (Breaks fault) broken = refl

-- an empty stream has no objects
none_sent : sent_in (stream_of []) ≡ []
unfolding stream_of
none_sent = refl

-- what is known of the bytes with one more piece
read_more : (bytes piece : List ℕ) (reading new : Reading) → new ≡ read_on reading piece → reading_of bytes ≡ reading → reading_of (bytes ++ piece) ≡ new
read_more bytes piece reading new is read = reading_joins bytes piece ∙ ap (λ r. read_on r piece) read ∙ sym is

-- ---- what was received, piece by piece
-- if the bytes hold no objects, none are staged
came_empty : (honest : Bool) (bytes : List ℕ) (reading : Reading) (staged : Objects) → reading_of bytes ≡ reading → sent_in (stream_of bytes) ≡ [] → staged ≡ empty → Came honest bytes reading staged
came_empty honest bytes reading staged read none is = record {
  read = read;
  there = subst (AllByRecursion (λ object. contains_key staged (object_name object) ≡ true)) (sym none) tt;
  alone = λ name there. absurd (none_there (get staged name) (nothing name) there);
  exact = λ _. record {
    each = subst (AllByRecursion (λ object. get staged (object_name object) ≡ Some object)) (sym none) tt;
    alone = λ name object found. absurd (none_there (get staged name) (nothing name) (ap is_some found));
  };
}
  where
    nothing : (name : List ℕ) → get staged name ≡ None
    nothing name = ap (λ objects. get objects name) is ∙ get-empty {X = Object} name_cmp name

-- nothing was received yet
pub came_none : (honest : Bool) (staged : Objects) → staged ≡ empty → Came honest [] (reading_of []) staged
came_none honest staged is = came_empty honest [] (reading_of []) staged refl none_sent is

-- the piece breaks the stream
pub came_broken : (honest : Bool) (bytes piece : List ℕ) (reading new : Reading) (staged now : Objects) → new ≡ read_on reading piece → is_broken new.flow ≡ true → now ≡ empty → Came honest bytes reading staged → Came honest (bytes ++ piece) new now
came_broken honest bytes piece reading new staged now is broken none came =
    let read = read_more bytes piece reading new is came.read in
    came_empty honest (bytes ++ piece) new now read (broken_sent (stream_of (bytes ++ piece)) (ap (λ (r : Reading). is_broken r.flow) read ∙ broken)) none

-- the piece is staged
pub came_more : (own : List ℕ) (bytes piece : List ℕ) (reading new : Reading) (objects : List Object) (a b : VaultState) → new ≡ read_on reading piece → is_broken new.flow ≡ false → objects ≡ gained reading.flow piece
    → ChangesTenant own (MadeBy (with_all_staged objects)) a b → (IsTrue a.honest → AllByRecursion (λ object. get (staged_in b own) (object_name object) ≡ Some object) objects) → Came a.honest bytes reading (staged_in a own)
    → Came a.honest (bytes ++ piece) new (staged_in b own)
came_more own bytes piece reading new objects a b is whole brings changes each came = record {
  read = read;
  there = subst (AllByRecursion (λ object. contains_key (staged_in b own) (object_name object) ≡ true)) (sym all) (names_more sent objects before (staged_in b own) measured came.there);
  alone = subst (λ objects. (name : List ℕ) → contains_key (staged_in b own) name ≡ true → IsSentName objects name) (sym all) (alone_more sent objects before (staged_in b own) measured came.alone);
  exact = λ honest. subst (AreSent (staged_in b own)) (sym all) (exact_at (came.exact honest) (each honest) (ap (λ (p : Private). p.staged) ((own_made a b own (with_all_staged objects) changes).exact honest)));
}
  where
    before : Private
    before = private_of a.tenants own

    sent : List Object
    sent = sent_in (stream_of bytes)

    read : reading_of (bytes ++ piece) ≡ new
    read = read_more bytes piece reading new is came.read

    all : sent_in (stream_of (bytes ++ piece)) ≡ sent ++ objects
    all = sent_more bytes piece (ap (λ (r : Reading). is_broken r.flow) read ∙ whole) ∙ ap (λ (r : Reading). sent ++ gained r.flow piece) came.read ∙ ap (λ more. sent ++ more) (sym brings)

    measured : measures_of (staged_in b own) ≡ measures_of (with_all_staged objects before).staged
    measured = ap (λ (p : Measures × Measures). p.1) (own_made a b own (with_all_staged objects) changes).shape

    exact_at : AreSent before.staged sent → AllByRecursion (λ object. get (staged_in b own) (object_name object) ≡ Some object) objects → staged_in b own ≡ (with_all_staged objects before).staged → AreSent (staged_in b own) (sent ++ objects)
    exact_at are found same =
        subst (λ now. AreSent now (sent ++ objects)) (sym same)
        (exact_more sent objects before (subst (λ now. AllByRecursion (λ object. get now (object_name object) ≡ Some object) objects) same found) are)

-- what is staged stays, over any store by its measures
pub came_still : (honest : Bool) (bytes : List ℕ) (reading : Reading) (staged now : Objects) → measures_of now ≡ measures_of staged → (IsTrue honest → now ≡ staged) → Came honest bytes reading staged → Came honest bytes reading now
came_still honest bytes reading staged now shape same came = record {
  read = came.read;
  there = each_weaker (λ object. contains_key staged (object_name object) ≡ true) (λ object. contains_key now (object_name object) ≡ true) (sent_in (stream_of bytes)) (λ object is. same_there now staged (object_name object) shape ∙ is) came.there;
  alone = λ name is. came.alone name (sym (same_there now staged name shape) ∙ is);
  exact = λ is. subst (λ objects. AreSent objects (sent_in (stream_of bytes))) (sym (same is)) (came.exact is);
}

pub staged_still : (honest : Bool) (upload : Option Reading) (staged now : Objects) → measures_of now ≡ measures_of staged → (IsTrue honest → now ≡ staged) → IsStaged honest upload staged → IsStaged honest upload now
staged_still honest None staged now shape same is = none_of now (shape ∙ ap measures_of is)
staged_still honest (Some reading) staged now shape same is = (is.0, came_still honest is.0 reading staged now shape same is.1)

pub staged_kept_still : (old new : VaultState) (own : List ℕ) (upload : Option Reading) → KeepsStaged own old new → IsStaged old.honest upload (staged_in old own) → IsStaged old.honest upload (staged_in new own)
staged_kept_still old new own upload keeps is = staged_still old.honest upload (staged_in old own) (staged_in new own) keeps.shape keeps.exact is

-- ---- what is known of the upload
-- the objects that a piece brings are among those of all bytes
dropped_among : {A : Type 0} (n : ℕ) (xs : List A) (x : A) → Contains (drop n xs) x → Contains xs x
dropped_among n xs x at = subst (λ ys. Contains ys x) (take-append-drop n xs) (Contains-append_right (take n xs) (drop n xs) x at)

pub gained_among : (bytes piece : List ℕ) (reading : Reading) (objects : List Object) → reading_of bytes ≡ reading → objects ≡ gained reading.flow piece → (object : Object) → Contains objects object → Contains (sent_in (stream_of (bytes ++ piece))) object
gained_among bytes piece reading objects read brings object among =
    let all : objects ≡ gained_by bytes piece = brings ∙ ap (λ (r : Reading). gained r.flow piece) (sym read) ∙ sym (gained_is bytes piece) in
    dropped_among (length (sent_in (stream_of bytes))) (sent_in (stream_of (bytes ++ piece))) object (subst (λ xs. Contains xs object) all among)

-- over an honest store it is the upload of the bytes that were received
pub came_upload : (bytes : List ℕ) (reading : Reading) (honest : Bool) (staged : Objects) → IsTrue honest → Came honest bytes reading staged → upload_among staged reading ≡ upload_of bytes
came_upload bytes reading honest staged is came = ap (upload_among staged) (sym came.read) ∙ upload_again bytes staged (came.exact is)

-- and together with what is seen it is what was sent
pub came_beside : (bytes : List ℕ) (reading : Reading) (honest : Bool) (seen staged : Objects) → IsTrue honest → Came honest bytes reading staged → joined seen staged ≡ with_objects seen (sent_in (stream_of bytes))
came_beside bytes reading honest seen staged is came = beside_sent seen staged (sent_in (stream_of bytes)) (came.exact is)
