-- What a fetch returns is a stream of the objects that are reached from one side and not from the other.
use Rattle.std.proofs.Common.{◌≡◌, ℕ, ◌++◌, Bool, true, List, [], ◌∷◌, Some, refl, ap, ap₂, ◌∙◌, map}
use Rattle.std.specs.List.{AllByRecursion, flat_map}
use Rattle.std.specs.FinMap.{entries, get, keys, retain_keys, values}
use Rattle.git_name.specs.Object.{Object}
use Rattle.git_name.proofs.Names.{name_exact, name_total}
use Rattle.push_stream.specs.Spelling.{records_of}
use Rattle.push_stream.specs.Stream.{Flows, stream_of}
use Rattle.push_stream.proofs.WrittenLemmas.{records_flow}
use Rattle.fork_query.specs.Fetch.{fetched, record_named, record_or_none}
use Rattle.fork_reach.specs.Source.{Objects}
use Rattle.fork_model.specs.Sound.{AreRight}
use Rattle.fork_model.specs.Transfer.{AreSendable, fetched_objects}
use Rattle.fork_model.proofs.ClosedLemmas.{each_weaker}
use Rattle.fork_model.proofs.EntryLemmas.{each_entry, each_made}
use Rattle.fork_model.proofs.KeptLemmas.{found_kept}

-- what holds of each object that is kept
pub each_value : (P : Object → Type 0) (objects : Objects) (kept : List ℕ → Bool) → ((name : List ℕ) (object : Object) → kept name ≡ true → get objects name ≡ Some object → P object)
    → AllByRecursion P (values (retain_keys objects kept))
each_value P objects kept holds =
    each_made name_total name_exact P (λ e. e.1) (retain_keys objects kept) (λ name object is.
    let found = found_kept objects kept name object is in
    holds name object found.0 found.1)

-- the records of names are those of the objects under them
records_found : (objects : Objects) (es : List (List ℕ × Object)) → AllByRecursion (λ e. get objects e.0 ≡ Some e.1) es
    → flat_map (record_named objects) (map (λ e. e.0) es) ≡ records_of (map (λ e. e.1) es)
records_found objects [] all = refl
records_found objects (e ∷ es) all = ap₂ (λ first rest. first ++ rest) (ap record_or_none all.0) (records_found objects es all.1)

records_kept : (objects : Objects) (kept : List ℕ → Bool) → flat_map (record_named objects) (keys (retain_keys objects kept)) ≡ records_of (values (retain_keys objects kept))
records_kept objects kept =
    let some = retain_keys objects kept in
    records_found objects (entries some) (each_weaker (λ e. get some e.0 ≡ Some e.1) (λ e. get objects e.0 ≡ Some e.1) (entries some) (λ e is. (found_kept objects kept e.0 e.1 is).1) (each_entry name_total name_exact some))

-- a fetch gives the records of its objects
pub fetched_records : (objects : Objects) (wanted excluded : List (List ℕ)) → fetched objects wanted excluded ≡ records_of (fetched_objects objects wanted excluded)
unfolding fetched
fetched_records objects wanted excluded = records_kept objects _

-- and after an empty line they are a stream
pub fetched_flow : (objects : Objects) (wanted excluded : List (List ℕ)) → AreRight objects → AreSendable objects
    → stream_of (10 ∷ fetched objects wanted excluded) ≡ Flows [] (fetched_objects objects wanted excluded) true []
fetched_flow objects wanted excluded right sendable =
    ap (λ records. stream_of (10 ∷ records)) (fetched_records objects wanted excluded)
    ∙ records_flow (fetched_objects objects wanted excluded)
    (each_value _ objects _ (λ name object kept is. right name object is))
    (each_value _ objects _ (λ name object kept is. sendable name object is))
