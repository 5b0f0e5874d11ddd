use Rattle.std.proofs.Common.{◌≡◌, ◌+◌, ◌-◌, ◌<◌, ◌≤◌, ◌++◌, [], ◌∷◌, true, false, append-nil, drop, length, length-append, map, refl, replicate, rules, subst, sym, take, ◌∙◌, ap, arith}
use Rattle.std.proofs.lemmas.List.{length-map, map-append}
use Rattle.fork_reach.specs.History.{noted_parents, notes_under}
use Rattle.fork_reach.specs.Marks.{Fits, SeesPlaces, is_marked, listed_name}
use Rattle.fork_reach.specs.Seeing.{unseen}
use Rattle.fork_reach.proofs.MarkLemmas.{front_fits, last_fits, lent_back, none_marked, parents_here}
use Rattle.fork_reach.proofs.WalkLemmas.{Walks, walks_begin, walks_end, walks_on}
use Rattle.fork_reach.proofs.places.Places.ancestors.Goals as goal

pub waiting-init : goal.waiting-init
waiting-init c =
    let names = c.args.self.now.names.now.keys in
    let noted = c.args.self.now.notes.now in
    let notes = notes_under names noted in
    let first = c.in_ok-marks.marks in
    let now = c.mark.new.marks in
    let waits = c.mark.new.waiting.items in
    let unset : c.deref_mut.result.now ≡ replicate (length names) false = search rules in
    let fits = c.in-Ok.ensures.fits in
    let back : take first.len (now ++ drop (length now) first.items) ≡ now = lent_back now _ first.len (search rules) in
    record {
      walks = subst (λ ms. Walks (noted_parents notes) notes (c.args.commit ∷ []) true (is_marked names ms) (map (listed_name names) waits)) (sym back)
          (walks_begin (noted_parents notes) notes (λ _. false) (c.args.commit ∷ []) true (is_marked names c.deref_mut.result.now) (map (listed_name names) c.new-waiting.result.items) (is_marked names now) (map (listed_name names) waits)
          (λ honest from is. absurd (cc)) (λ name is. (let no : false ≡ true = sym (none_marked names name) ∙ ap (λ ms. is_marked names ms name) (sym unset) ∙ is in cc)) (ap (map (listed_name names)) c.new-waiting.ensures.items) c.in-Ok.ensures.sees);
      fits = subst (λ ms. Fits names noted ms waits) (sym back) fits;
    }

pub mark_all-requires : goal.mark_all-requires
mark_all-requires c =
    let names = c.args.self.now.names.now.keys in
    let noted = c.args.self.now.notes.now in
    let rest = c.pop.new.self.items in
    subst (λ ms. Fits names noted ms rest) (sym c.deref_mut-in-Some.ensures.value) (front_fits names noted c.waiting.marks.items c.waiting.waiting.items rest c.in-Some.at c.in-Some.ensures.items c.waiting.invariant.fits)

pub waiting-smaller : goal.waiting-smaller
waiting-smaller c =
    let names = c.args.self.now.names.now.keys in
    let notes = notes_under names c.args.self.now.notes.now in
    let first = c.waiting.marks in
    let now = c.mark_all.new.marks in
    let waits = c.waiting.waiting.items in
    let rest = c.pop.new.self.items in
    let now_waits = c.mark_all.new.waiting.items in
    let fits = c.in-Ok-mark_all.ensures.fits in
    let back : take first.len (now ++ drop (length now) first.items) ≡ now = lent_back now _ first.len (search rules) in
    let less = subst (λ ms. unseen notes (is_marked names now) + length (map (listed_name names) now_waits) ≤ unseen notes (is_marked names ms) + length (map (listed_name names) rest)) c.deref_mut-in-Some.ensures.value c.in-Ok-mark_all.ensures.sees.less in
    let longer : length waits ≡ length rest + 1 = ap length c.in-Some.ensures.items ∙ length-append rest (c.in-Some.at ∷ []) in
    subst (λ ms. unseen notes (is_marked names ms) + length now_waits < unseen notes (is_marked names first.items) + length waits) (sym back)
    (omega (arith, length-map now_waits (listed_name names), length-map rest (listed_name names)))

pub waiting-preserved : goal.waiting-preserved
waiting-preserved c =
    let names = c.args.self.now.names.now.keys in
    let noted = c.args.self.now.notes.now in
    let notes = notes_under names noted in
    let at = c.in-Some.at in
    let first = c.waiting.marks in
    let now = c.mark_all.new.marks in
    let rest = c.pop.new.self.items in
    let now_waits = c.mark_all.new.waiting.items in
    let before = c.waiting.invariant in
    let inside = last_fits names noted first.items c.waiting.waiting.items rest at c.in-Some.ensures.items before.fits in
    let told = subst (λ ms. SeesPlaces names noted c.parents.result.now ms rest now now_waits) c.deref_mut-in-Some.ensures.value c.in-Ok-mark_all.ensures in
    let fits = told.fits in
    let back : take first.len (now ++ drop (length now) first.items) ≡ now = lent_back now _ first.len (search rules) in
    record {
      walks = subst (λ ms. Walks (noted_parents notes) notes (c.args.commit ∷ []) true (is_marked names ms) (map (listed_name names) now_waits)) (sym back)
          (walks_on (noted_parents notes) notes (λ _. false) (c.args.commit ∷ []) true (is_marked names first.items) (map (listed_name names) c.waiting.waiting.items) (map (listed_name names) rest) (listed_name names at) c.parents.result.now (is_marked names now) (map (listed_name names) now_waits)
          (λ honest from is. absurd (cc)) (ap (map (listed_name names)) c.in-Some.ensures.items ∙ map-append (listed_name names) rest (at ∷ [])) before.walks
          (λ honest. c.parents.ensures ∙ sym (parents_here names noted at c.len.ensures.unique c.requires inside)) told.sees);
      fits = subst (λ ms. Fits names noted ms now_waits) (sym back) fits;
    }

pub returns-clause-marked : goal.returns-clause-marked
returns-clause-marked c = λ name.
    let names = c.args.self.now.names.now.keys in
    let notes = notes_under names c.args.self.now.notes.now in
    let waits = c.waiting.waiting.items in
    let told = c.in_default-pop.ensures in
    let none : waits ≡ [] = told.items ∙ append-nil c.pop.new.self.items ∙ told.rest ∙ ap (λ n. take (n - 1) waits) told.cases.0 in
    walks_end (noted_parents notes) notes (c.args.commit ∷ []) true (is_marked names c.waiting.marks.items) (map (listed_name names) waits) (ap (map (listed_name names)) none) c.waiting.invariant.walks refl name
