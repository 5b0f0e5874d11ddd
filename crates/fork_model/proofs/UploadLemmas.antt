-- An open upload is determined by its reading and its objects.
use Rattle.std.proofs.Common.{◌≡◌, ℕ, List, [], ◌∷◌, Option, Some, None, refl, sym, ap, ◌∙◌, is_some, inl, inr, length, map}
use Rattle.std.specs.List.{AllByRecursion}
use Rattle.std.specs.Option.{option_or, unwrap_or}
use Rattle.std.specs.FinMap.{get, same_map}
use Rattle.git_name.specs.Maps.{joined}
use Rattle.git_name.specs.Object.{Object, object_name}
use Rattle.git_name.proofs.MapLemmas.{get_joined}
use Rattle.git_name.proofs.Names.{name_total, name_exact}
use Rattle.push_stream.specs.Reading.{flow_of, reading_of, sent_of}
use Rattle.push_stream.specs.Stream.{Stream, Flows, Breaks, sent_in, stream_of}
use Rattle.push_stream.specs.Upload.{upload_of}
use Rattle.fork_reach.specs.Objects.{with_objects}
use Rattle.fork_reach.specs.Source.{Objects}
use Rattle.fork_reach.proofs.KeptObjects.{kept_all}
use Rattle.fork_model.specs.Uploads.{AreSent, object_sent, stream_among, upload_among}
use Rattle.fork_model.proofs.ClosedLemmas.{each_of}
use Rattle.fork_model.proofs.ProvenanceLemmas.{among_both}
use Rattle.fork_model.proofs.TransferLemmas.{came, none_there}

-- each object is found by what is known of it
pub found_again : (objects : Objects) (sent : List Object) → AllByRecursion (λ object. get objects (object_name object) ≡ Some object) sent → map (object_sent objects) (map sent_of sent) ≡ sent
found_again objects [] each = refl
found_again objects (object ∷ sent) each =
    let here : object_sent objects (sent_of object) ≡ object = ap (λ found. unwrap_or found (record { kind = object.kind; bytes = [] })) each.0 in
    let later = found_again objects sent each.1 in
    λ i. here i ∷ later i

-- a stream is what is known of it, with its objects
stream_again : (objects : Objects) (s : Stream) → AllByRecursion (λ object. get objects (object_name object) ≡ Some object) (sent_in s) → stream_among objects (flow_of s) ≡ s
stream_again objects (Flows commands sent headed rest) each = ap (λ found. Flows commands found headed rest) (found_again objects sent each)
stream_again objects (Breaks fault) each = refl

pub upload_again : (bytes : List ℕ) (objects : Objects) → AreSent objects (sent_in (stream_of bytes)) → upload_among objects (reading_of bytes) ≡ upload_of bytes
upload_again bytes objects are = ap (λ stream. record { count = length bytes; stream = stream }) (stream_again objects (stream_of bytes) are.each)

-- beside what is seen, these are the objects that were added
beside_at : (seen objects : Objects) (sent : List Object) → AreSent objects sent → (name : List ℕ) → get (with_objects seen sent) name ≡ option_or (get seen name) (get objects name)
beside_at seen objects sent are name = by (get seen name) refl
  where
    none_sent : (there : Option Object) → get objects name ≡ there → get (with_objects seen sent) name ≡ None → None ≡ there
    none_sent None is none = refl
    none_sent (Some object) is none =
        let among = are.alone name object is in
        absurd (none_there (get (with_objects seen sent) (object_name object)) (ap (get (with_objects seen sent)) among.named ∙ none) (came seen sent object among.sent))

    unseen : (there : Option Object) → get (with_objects seen sent) name ≡ there → get seen name ≡ None → there ≡ get objects name
    unseen None is none = none_sent (get objects name) refl is
    unseen (Some object) is none =
        elim (among_both seen sent name object is) [
          | inl was ↦ absurd (none_there (get seen name) none (ap is_some was))
          | inr among ↦ sym (each_of (λ o. get objects (object_name o) ≡ Some o) sent object are.each among.sent) ∙ ap (get objects) among.named
        ]

    by : (there : Option Object) → get seen name ≡ there → get (with_objects seen sent) name ≡ option_or there (get objects name)
    by (Some object) is = kept_all seen sent name (ap is_some is) ∙ is
    by None is = unseen (get (with_objects seen sent) name) refl is

pub beside_sent : (seen objects : Objects) (sent : List Object) → AreSent objects sent → joined seen objects ≡ with_objects seen sent
beside_sent seen objects sent are = same_map name_total name_exact _ _ (λ name. get_joined name_total seen objects name ∙ sym (beside_at seen objects sent are name))
