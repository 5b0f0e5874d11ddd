-- Flags at the places of names: what a flag that is set tells, and what setting one does.
use Rattle.std.proofs.Common.{◌≡◌, ◌≢◌, ℕ, ◌+◌, ◌<◌, ◌&&◌, ◌||◌, not, cond, Bool, true, false, List, [], ◌∷◌, ◌++◌, Option, None, Some, is_some, map, length, take, filter, position, slice_get, slice_set, replicate, refl, sym, ap, subst, ◌∙◌, arith}
use Rattle.std.specs.List.{All, IsDistinct, list_any, slice_index_or, zip}
use Rattle.std.specs.FinMap.{contains_key}
use Rattle.std.proofs.Math.Seq.{take-append_seam}
use Rattle.std.proofs.lemmas.Cmp.{nat_list_eq_equiv}
use Rattle.std.proofs.lemmas.List.{get_or-replicate, get_or-set_other, get_or-set_same, get_or_default, length-set, map-append, take_more}
use Rattle.std.proofs.lemmas.List.Elements.{All-pop, All-push, filter-append}
use Rattle.std.proofs.lemmas.List.Folds.{list_any-append}
use Rattle.std.proofs.lemmas.List.Quantifiers.{position-Some}
use Rattle.std.proofs.lemmas.Map.Views.{any-filter_same}
use Rattle.std.proofs.lemmas.Option.{slice_get-get_or}
use Rattle.git_name.specs.Same.{same_name}
use Rattle.git_name.proofs.HashMaps.{get_of_hashed, one_name}
use Rattle.git_name.proofs.PlaceLemmas.{only_place, placed}
use Rattle.fork_reach.specs.History.{Note, noted_parents, notes_under, parents_of_noted}
use Rattle.fork_reach.specs.Marks.{Fits, SeesPlaces, flag_at, is_marked, listed_name}
use Rattle.fork_reach.proofs.NameLemmas.{same_tests}
use Rattle.fork_reach.proofs.NoteLemmas.{at_place, get_noted, noted_there}
use Rattle.fork_reach.proofs.SeeingLemmas.{inserts_hashed, sees_absent, sees_both, sees_known, sees_new}

abbrev Names : Type 0
Names = List (List ℕ)

-- a name that has a place stands there
pub stands_there : (names : Names) (name : List ℕ) (at : ℕ) → position (same_name name) names ≡ Some at → (at < length names) × (listed_name names at ≡ name)
stands_there names name at is = (let found = position-Some (same_name name) names at [] is in (found.0, sym (one_name name (listed_name names at) found.1)))

-- where no two names are equal, each has its own place
pub own_place : (names : Names) (at : ℕ) → IsDistinct same_name names → at < length names → position (same_name (listed_name names at)) names ≡ Some at
own_place names at distinct inside = only_place names at (listed_name names at) distinct (slice_get-get_or names at [] inside)

-- so its flag is the one there
pub marked_here : (names : Names) (marks : List Bool) (at : ℕ) → IsDistinct same_name names → at < length names → is_marked names marks (listed_name names at) ≡ slice_index_or marks at false
marked_here names marks at distinct inside = ap (flag_at marks) (own_place names at distinct inside)

-- and so are its parents
pub parents_here : (names : Names) (notes : List Note) (at : ℕ) → IsDistinct same_name names → length notes ≡ length names → at < length names → noted_parents (notes_under names notes) (listed_name names at) ≡ parents_of_noted (slice_get notes at)
parents_here names notes at distinct each inside = ap parents_of_noted (sym (get_noted names notes (listed_name names at) (notes_under names notes) each refl) ∙ ap (at_place notes) (own_place names at distinct inside))

-- what was read there is its name
pub read_here : (names : Names) (at : ℕ) (name : List ℕ) → at < length names → name ≡ slice_index_or names at name → name ≡ listed_name names at
read_here names at name inside is = is ∙ get_or_default names at name [] inside

-- the last of the places that wait is one of a name, and so are those before it
pub last_fits : (names : Names) (notes : List Note) (marks : List Bool) (waiting front : List ℕ) (last : ℕ) → waiting ≡ front ++ last ∷ [] → Fits names notes marks waiting → last < length names
last_fits names notes marks waiting front last is fits = (All-pop (λ at. at < length names) waiting front (Some last) is fits.placed).1

pub front_fits : (names : Names) (notes : List Note) (marks : List Bool) (waiting front : List ℕ) (last : ℕ) → waiting ≡ front ++ last ∷ [] → Fits names notes marks waiting → Fits names notes marks front
front_fits names notes marks waiting front last is fits = record {
  noted = fits.noted;
  flagged = fits.flagged;
  placed = (All-pop (λ at. at < length names) waiting front (Some last) is fits.placed).0;
}

-- under these names something is noted
pub there_under : (names : Names) (notes : List Note) → length notes ≡ length names → (name : List ℕ) → contains_key (notes_under names notes) name ≡ list_any (same_name name) names
there_under names notes each name = ap is_some (get_of_hashed (zip names notes) name) ∙ noted_there (same_name name) names notes each

-- a name with no place is none of them
pub unplaced : (names : Names) (name : List ℕ) → position (same_name name) names ≡ None → list_any (same_name name) names ≡ false
unplaced names name is = sym (placed (same_name name) names) ∙ ap is_some is

-- a name whose flag is set is one of them
pub marked_there : (names : Names) (marks : List Bool) (name : List ℕ) → is_marked names marks name ≡ true → list_any (same_name name) names ≡ true
marked_there names marks name is = sym (placed (same_name name) names) ∙ by (position (same_name name) names) is
  where
    by : (place : Option ℕ) → flag_at marks place ≡ true → is_some place ≡ true
    by None is = absurd (cc)
    by (Some at) is = refl

-- no flag is set yet
pub none_marked : (names : Names) (name : List ℕ) → is_marked names (replicate (length names) false) name ≡ false
none_marked names name = by (position (same_name name) names) refl
  where
    by : (place : Option ℕ) → position (same_name name) names ≡ place → flag_at (replicate (length names) false) place ≡ false
    by None is = refl
    by (Some at) is = get_or-replicate (length names) at false false (stands_there names name at is).0

-- what is said of the flags at each place is said of the flag of each name
pub marked_less : (names : Names) (old others now : List Bool) → ((at : ℕ) → slice_index_or now at false ≡ (not (slice_index_or others at false) && slice_index_or old at false)) → (name : List ℕ) → is_marked names now name ≡ (not (is_marked names others name) && is_marked names old name)
marked_less names old others now each name = by (position (same_name name) names)
  where
    by : (place : Option ℕ) → flag_at now place ≡ (not (flag_at others place) && flag_at old place)
    by None = refl
    by (Some at) = each at

other_place : (names : Names) (first name : List ℕ) (at k : ℕ) → position (same_name first) names ≡ Some at → position (same_name name) names ≡ Some k → same_name first name ≡ false → k ≢ at
other_place names first name at k here there other same =
    let equal : first ≡ name = sym (stands_there names first at here).1 ∙ ap (listed_name names) (sym same) ∙ (stands_there names name k there).1 in
    let no : false ≡ true = sym other ∙ ap (same_name first) (sym equal) ∙ nat_list_eq_equiv.refl first in
    cc

-- the flag of a name was set
pub set_marked : (names : Names) (marks : List Bool) (first : List ℕ) (at : ℕ) → length marks ≡ length names → position (same_name first) names ≡ Some at → (name : List ℕ) → is_marked names (slice_set marks at true) name ≡ cond (same_name first name) true (is_marked names marks name)
set_marked names marks first at each is name = by (same_name first name) refl
  where
    at_other : (place : Option ℕ) → position (same_name name) names ≡ place → same_name first name ≡ false → flag_at (slice_set marks at true) place ≡ flag_at marks place
    at_other None there other = refl
    at_other (Some k) there other = get_or-set_other marks at k true false (other_place names first name at k is there other)

    by : (b : Bool) → same_name first name ≡ b → is_marked names (slice_set marks at true) name ≡ cond b true (is_marked names marks name)
    by true same = ap (flag_at (slice_set marks at true)) (subst (λ n. position (same_name n) names ≡ Some at) (one_name first name same) is) ∙ get_or-set_same marks at true false (let inside = (stands_there names first at is).0 in omega arith)
    by false other = at_other (position (same_name name) names) refl other

-- the name has no place, so no flag was set
pub set_nowhere : (names : Names) (marks : List Bool) (first : List ℕ) → position (same_name first) names ≡ None → (name : List ℕ) → list_any (same_name name) names ≡ true → is_marked names marks name ≡ cond (same_name first name) true (is_marked names marks name)
set_nowhere names marks first is name among = by (same_name first name) refl
  where
    by : (b : Bool) → same_name first name ≡ b → is_marked names marks name ≡ cond b true (is_marked names marks name)
    by true same = (let no : false ≡ true = sym (unplaced names first is) ∙ ap (λ n. list_any (same_name n) names) (one_name first name same) ∙ among in absurd (cc))
    by false other = refl

-- a name with no place is passed over
pub sees_unplaced : (names : Names) (notes : List Note) (marks : List Bool) (waiting : List ℕ) (first : List ℕ) → Fits names notes marks waiting → position (same_name first) names ≡ None → SeesPlaces names notes (first ∷ []) marks waiting marks waiting
sees_unplaced names notes marks waiting first fits is = record {
  sees = sees_absent (notes_under names notes) (λ _. false) first (is_marked names marks) (map (listed_name names) waiting) (there_under names notes fits.noted first ∙ unplaced names first is);
  fits = fits;
}

-- and so is one whose flag is set
pub sees_marked : (names : Names) (notes : List Note) (marks : List Bool) (waiting : List ℕ) (first : List ℕ) (at : ℕ) → Fits names notes marks waiting → position (same_name first) names ≡ Some at → slice_index_or marks at false ≡ true → SeesPlaces names notes (first ∷ []) marks waiting marks waiting
sees_marked names notes marks waiting first at fits is set = record {
  sees = sees_known (notes_under names notes) (λ _. false) first (is_marked names marks) (map (listed_name names) waiting) (ap (flag_at marks) is ∙ set);
  fits = fits;
}

-- one whose flag is not set: it is now, and its place waits
pub sees_set : (names : Names) (notes : List Note) (marks : List Bool) (waiting now_waiting : List ℕ) (first : List ℕ) (at : ℕ) → Fits names notes marks waiting → position (same_name first) names ≡ Some at → slice_index_or marks at false ≡ false → now_waiting ≡ waiting ++ at ∷ []
    → SeesPlaces names notes (first ∷ []) marks waiting (slice_set marks at true) now_waiting
sees_set names notes marks waiting now_waiting first at fits is unset pushed =
    let seen = is_marked names marks in
    let now_seen = is_marked names (slice_set marks at true) in
    let stands = stands_there names first at is in
    let inside = stands.0 in
    let flagged = fits.flagged in
    record {
      sees = sees_new (notes_under names notes) (λ _. false) first seen (map (listed_name names) waiting) now_seen (map (listed_name names) now_waiting) (ap (flag_at marks) is ∙ unset) (inserts_hashed first seen now_seen (set_marked names marks first at flagged is))
          (ap (flag_at (slice_set marks at true)) is ∙ get_or-set_same marks at true false (omega arith))
          (there_under names notes fits.noted first ∙ sym (placed (same_name first) names) ∙ ap is_some is)
          (ap (map (listed_name names)) pushed ∙ map-append (listed_name names) waiting (at ∷ []) ∙ ap (λ n. map (listed_name names) waiting ++ n ∷ []) stands.1);
      fits = record {
        noted = fits.noted;
        flagged = length-set marks at true ∙ flagged;
        placed = subst (All (λ k. k < length names)) (sym pushed) (All-push (λ k. k < length names) waiting at fits.placed inside);
      };
    }

-- some names, and then others
pub places_both : (names : Names) (notes : List Note) (xs ys : Names) (marks : List Bool) (waiting : List ℕ) (mid_marks : List Bool) (mid_waiting : List ℕ) (now_marks : List Bool) (now_waiting : List ℕ)
    → SeesPlaces names notes xs marks waiting mid_marks mid_waiting → SeesPlaces names notes ys mid_marks mid_waiting now_marks now_waiting → SeesPlaces names notes (xs ++ ys) marks waiting now_marks now_waiting
places_both names notes xs ys marks waiting mid_marks mid_waiting now_marks now_waiting first second = record {
  sees = sees_both (notes_under names notes) (λ _. false) xs ys (is_marked names marks) (map (listed_name names) waiting) (is_marked names mid_marks) (map (listed_name names) mid_waiting) (is_marked names now_marks) (map (listed_name names) now_waiting) first.sees second.sees;
  fits = second.fits;
}

-- flags that were lent all together are what came back
pub lent_back : (now rest : List Bool) (count : ℕ) → length now ≡ count → take count (now ++ rest) ≡ now
lent_back now rest count is = ap (λ n. take n (now ++ rest)) (sym is) ∙ take-append_seam now rest

-- names that are listed by their flags, place by place
listed_more : (test : List ℕ → Bool) (names : Names) (at : ℕ) → at < length names → filter test (take (at + 1) names) ≡ filter test (take at names) ++ filter test (listed_name names at ∷ [])
listed_more test names at inside = ap (filter test) (take_more names at [] inside) ∙ filter-append test (take at names) (listed_name names at ∷ [])

pub listed_skip : (test : List ℕ → Bool) (names : Names) (at : ℕ) (found : List ℕ → Bool) → at < length names → test (listed_name names at) ≡ false → ((name : List ℕ) → found name ≡ list_any (same_name name) (filter test (take at names)))
    → (name : List ℕ) → found name ≡ list_any (same_name name) (filter test (take (at + 1) names))
listed_skip test names at found inside out before name =
    let last = listed_name names at in
    let none : filter test (last ∷ []) ≡ [] = ap (λ b. cond b (last ∷ []) []) out in
    before name ∙ sym (ap (list_any (same_name name)) (listed_more test names at inside) ∙ list_any-append (same_name name) (filter test (take at names)) (filter test (last ∷ []))
    ∙ ap (λ ns. list_any (same_name name) (filter test (take at names)) || list_any (same_name name) ns) none ∙ or_none (list_any (same_name name) (filter test (take at names))))
  where
    or_none : (b : Bool) → (b || false) ≡ b
    or_none true = refl
    or_none false = refl

pub listed_last : (test : List ℕ → Bool) (names : Names) (at : ℕ) (found now_found : List ℕ → Bool) → at < length names → test (listed_name names at) ≡ true → ((name : List ℕ) → found name ≡ list_any (same_name name) (filter test (take at names)))
    → ((name : List ℕ) → now_found name ≡ cond (same_name (listed_name names at) name) true (found name)) → (name : List ℕ) → now_found name ≡ list_any (same_name name) (filter test (take (at + 1) names))
listed_last test names at found now_found inside into before inserts name =
    let last = listed_name names at in
    let front = filter test (take at names) in
    let one : filter test (last ∷ []) ≡ last ∷ [] = ap (λ b. cond b (last ∷ []) []) into in
    inserts name ∙ ap (cond (same_name last name) true) (before name) ∙ put_last (same_name last name) (same_name name last) (list_any (same_name name) front) (turned last name)
    ∙ sym (ap (list_any (same_name name)) (listed_more test names at inside) ∙ list_any-append (same_name name) front (filter test (last ∷ [])) ∙ ap (λ ns. list_any (same_name name) front || list_any (same_name name) ns) one)
  where
    turned : (a b : List ℕ) → same_name a b ≡ same_name b a
    turned a b = same_tests (same_name a b) (same_name b a) (λ is. subst (λ n. same_name n a ≡ true) (one_name a b is) (nat_list_eq_equiv.refl a)) (λ is. subst (λ n. same_name n b ≡ true) (one_name b a is) (nat_list_eq_equiv.refl b))

    put_last : (here back among : Bool) → here ≡ back → cond here true among ≡ (among || (back || false))
    put_last true true true same = refl
    put_last true true false same = refl
    put_last false false true same = refl
    put_last false false false same = refl
    put_last true false among same = absurd (cc)
    put_last false true among same = absurd (cc)

-- all of them
pub listed_all : (names : Names) (marks : List Bool) (name : List ℕ) → list_any (same_name name) (filter (is_marked names marks) names) ≡ is_marked names marks name
listed_all names marks name =
    any-filter_same (same_name name) (is_marked names marks) (is_marked names marks name) (λ other tied. ap (is_marked names marks) (sym (one_name name other tied))) names
    ∙ both (is_marked names marks name) (list_any (same_name name) names) (marked_there names marks name)
  where
    both : (a b : Bool) → (a ≡ true → b ≡ true) → (a && b) ≡ a
    both true b there = there refl
    both false b there = refl
