use Rattle.std.proofs.Common.{◌≡◌, ◌<◌, ◌&&◌, ◌||◌, ◌++◌, [], Bool, false, true, drop, length, take, refl, rules, sym, ◌∙◌, ap}
use Rattle.std.specs.List.{list_any}
use Rattle.std.proofs.lemmas.List.Folds.{list_any_more}
use Rattle.fork_reach.specs.History.{notes_under}
use Rattle.fork_reach.specs.Marks.{is_marked, listed_name}
use Rattle.fork_reach.specs.NotedBases.{is_other_parent}
use Rattle.fork_reach.proofs.MarkLemmas.{lent_back, marked_here}
use Rattle.fork_reach.proofs.places.Places.outdone.Goals as goal

or_none : (b : Bool) → b ≡ (b || false)
or_none true = refl
or_none false = refl

pub loop-at-preserved-then-not-marks-at : goal.loop-at-preserved-then-not-marks-at
loop-at-preserved-then-not-marks-at c =
    let names = c.args.self.now.names.now.keys in
    let notes = notes_under names c.args.self.now.notes.now in
    let marks = c.args.marks.now in
    let at = c.loop-at.at in
    let inside : at < length names = search rules in
    let here = marked_here names marks at c.len-count.ensures.unique inside ∙ c.if-not-marks-at.true in
    record {
      marked = λ name among.
          (let front = list_any (λ other. is_marked names marks other && is_other_parent notes name other) (take at names) in
          c.loop-at.invariant.marked name among ∙ or_none front ∙ ap (λ b. front || (b && is_other_parent notes name (listed_name names at))) (sym here)
          ∙ sym (list_any_more (λ other. is_marked names marks other && is_other_parent notes name other) names at [] inside));
      len = c.loop-at.invariant.len;
    }

pub loop-at-preserved : goal.loop-at-preserved
loop-at-preserved c =
    let names = c.args.self.now.names.now.keys in
    let notes = notes_under names c.args.self.now.notes.now in
    let marks = c.args.marks.now in
    let at = c.loop-at.at in
    let first = c.loop-at.outdone in
    let now = c.put_parents.new.marks in
    let inside : at < length names = search rules in
    let here = marked_here names marks at c.len-count.ensures.unique inside ∙ c.if-not-marks-at.false in
    let told = c.put_parents.ensures in
    let back : take first.len (now ++ drop (length now) first.items) ≡ now = lent_back now _ first.len (search rules) in
    record {
      marked = λ name among.
          (let front = list_any (λ other. is_marked names marks other && is_other_parent notes name other) (take at names) in
          let parent = is_other_parent notes name (listed_name names at) in
          ap (λ ms. is_marked names ms name) back ∙ told.marked name among ∙ ap (λ ms. is_marked names ms name || parent) c.deref_mut.ensures.value
          ∙ ap (λ b. b || parent) (c.loop-at.invariant.marked name among) ∙ ap (λ b. front || (b && parent)) (sym here)
          ∙ sym (list_any_more (λ other. is_marked names marks other && is_other_parent notes name other) names at [] inside));
      len = ap length back ∙ told.len;
    }
