-- What is reached from one side and not from the other.
use Rattle.std.proofs.Common.{◌≡◌, ℕ, ◌&&◌, cond, Bool, true, false, List, [], ◌∷◌, None, length, map, refl, sym, ap, subst, ◌∙◌}
use Rattle.std.specs.FinMap.{FinMap, contains_key, entries, get, keys, retain_keys, same_map}
use Rattle.std.specs.List.{IsDistinct, zip}
use Rattle.std.specs.List.Sorted.{IsPermutation, IsSorted, IsStrictlySortedBy}
use Rattle.std.specs.Map.{keys_of}
use Rattle.std.proofs.lemmas.List.{length-map}
use Rattle.std.proofs.lemmas.List.Sorted.{IsPermutation-map}
use Rattle.git_name.specs.Same.{is_listed, same_name}
use Rattle.std.proofs.lemmas.Bool.{and_parts}
use Rattle.git_name.specs.Maps.{map_values, mapped}
use Rattle.git_name.specs.Name.{name_cmp}
use Rattle.git_name.specs.Object.{Object}
use Rattle.git_name.proofs.MapLemmas.{entries_map_values}
use Rattle.git_name.proofs.Names.{name_total, name_exact}
use Rattle.fork_reach.specs.Hidden.{without}
use Rattle.fork_reach.specs.History.{Notes, note_at, note_of, notes_under}
use Rattle.fork_reach.proofs.HistoryLemmas.{notes_end}
use Rattle.fork_reach.proofs.KeyLemmas.{entries_reordered}
use Rattle.fork_reach.proofs.NoteLemmas.{keys_noted}
use Rattle.fork_reach.specs.Reach.{is_among, is_between, is_reached}
use Rattle.fork_reach.specs.Source.{Objects}
use Rattle.fork_reach.proofs.HiddenLemmas.{get_kept, reached_beyond, there_kept}
use Rattle.fork_reach.proofs.ReachLemmas.{reached_there}
use Rattle.fork_query.specs.Dates.{by_date, date_at, dated, newest_first, noted_date}
use Rattle.fork_query.specs.declared.dated.Dated.{Dated}
use Rattle.fork_query.proofs.DateLemmas.{sorted_dates}
use Rattle.fork_query.specs.Reached.{beyond}
use Rattle.fork_query.proofs.KeyLemmas.{keys_of_names}

and_known : (there passes : Bool) → (passes ≡ true → there ≡ true) → (there && passes) ≡ passes
and_known true passes known = refl
and_known false true known = known refl
and_known false false known = refl

-- what passes a test is there, where the test passes only what is there
pub there_passes : {X : Type 0} (objects : FinMap name_cmp X) (passes : List ℕ → Bool) → ((name : List ℕ) → passes name ≡ true → contains_key objects name ≡ true) → (name : List ℕ) → contains_key (retain_keys objects passes) name ≡ passes name
there_passes objects passes known name = there_kept objects passes name ∙ and_known (contains_key objects name) (passes name) (known name)

there_beyond : {X : Type 0} (next : List ℕ → List (List ℕ)) (objects : FinMap name_cmp X) (wants haves : List (List ℕ)) (name : List ℕ) → contains_key (beyond next objects wants haves) name ≡ is_between next objects wants haves name
there_beyond next objects wants haves name =
    there_passes objects (is_between next objects wants haves) (λ n is. reached_there next objects wants n (and_parts (is_reached next objects wants n) _ is).0) name

-- names in order that are reached from the one side and not from the other
pub names_beyond : {X : Type 0} (next : List ℕ → List (List ℕ)) (objects : FinMap name_cmp X) (wants haves names : List (List ℕ)) → IsStrictlySortedBy name_cmp names → ((name : List ℕ) → is_among names name ≡ is_between next objects wants haves name)
    → names ≡ keys (beyond next objects wants haves)
names_beyond next objects wants haves names ordered found = keys_of_names names (beyond next objects wants haves) ordered (λ name. found name ∙ sym (there_beyond next objects wants haves name))

-- tests that pass the same keep the same
pub kept_alike : {X : Type 0} (objects : FinMap name_cmp X) (passes others : List ℕ → Bool) → ((name : List ℕ) → passes name ≡ others name) → retain_keys objects passes ≡ retain_keys objects others
kept_alike objects passes others alike = same_map name_total name_exact _ _ (λ name. get_kept objects passes name ∙ ap (λ b. cond b (get objects name) None) (alike name) ∙ sym (get_kept objects others name))

same_dates : (es : List (List ℕ × Object)) → map noted_date (mapped note_of es) ≡ map dated es
same_dates [] = refl
same_dates (e ∷ es) = ap (λ dates. dated e ∷ dates) (same_dates es)

-- the dates of a history that was read past what the other side reaches
pub dates_beyond : (next : List ℕ → List (List ℕ)) (objects : Objects) (hidden : List ℕ → Bool) (wants haves : List (List ℕ)) (history : Notes) → ((name : List ℕ) → hidden name ≡ is_reached next objects haves name)
    → history ≡ map_values note_of (retain_keys objects (is_reached next (without objects hidden) wants)) → map noted_date (entries history) ≡ map dated (entries (beyond next objects wants haves))
dates_beyond next objects hidden wants haves history hides read =
    let same = kept_alike objects (is_reached next (without objects hidden) wants) (is_between next objects wants haves) (reached_beyond next objects hidden wants haves hides) in
    ap (λ h. map noted_date (entries h)) (read ∙ ap (map_values note_of) same) ∙ ap (map noted_date) (entries_map_values note_of (beyond next objects wants haves)) ∙ same_dates (entries (beyond next objects wants haves))

-- the dates of names, as those of what is noted under them
dates_noted : (objects : Objects) (names : List (List ℕ)) → map (date_at objects) names ≡ map noted_date (zip names (map (note_at objects) names))
dates_noted objects [] = refl
dates_noted objects (name ∷ names) = ap (λ rest. date_at objects name ∷ rest) (dates_noted objects names)

-- the dates of names that are just those beyond, sorted
pub dates_named : (next : List ℕ → List (List ℕ)) (objects : Objects) (wants haves names : List (List ℕ)) (found dates : List Dated) → IsDistinct same_name names → ((name : List ℕ) → is_listed names name ≡ is_between next objects wants haves name)
    → found ≡ map (date_at objects) names → IsPermutation found dates → IsSorted by_date dates → dates ≡ newest_first (map dated (entries (beyond next objects wants haves)))
dates_named next objects wants haves names found dates distinct listed are moved sorted =
    let notes = map (note_at objects) names in
    let each : length notes ≡ length names = length-map names (note_at objects) in
    let history = notes_under names notes in
    let there = λ (name : List ℕ) (is : is_listed names name ≡ true). reached_there next objects wants name (and_parts (is_reached next objects wants name) _ (sym (listed name) ∙ is)).0 in
    let read = notes_end objects names notes (is_between next objects wants haves) refl listed there in
    let keys : IsDistinct same_name (keys_of (zip names notes)) = subst (IsDistinct same_name) (sym (keys_noted names notes each)) distinct in
    sorted_dates history found dates (subst (IsPermutation (map noted_date (entries history))) (sym (are ∙ dates_noted objects names)) (IsPermutation-map noted_date (entries history) (zip names notes) (entries_reordered (zip names notes) keys))) moved sorted
    ∙ ap newest_first (ap (λ h. map noted_date (entries h)) read ∙ ap (map noted_date) (entries_map_values note_of (beyond next objects wants haves)) ∙ same_dates (entries (beyond next objects wants haves)))
