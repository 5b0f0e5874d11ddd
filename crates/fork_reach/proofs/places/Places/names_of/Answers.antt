use Rattle.std.proofs.Common.{◌≡◌, ◌<◌, ◌≤◌, true, length, rules, ap, ◌∙◌, subst, cond, List, ℕ, filter}
use Rattle.std.specs.HashSet.{contains}
use Rattle.std.specs.List.{list_any, slice_index_or}
use Rattle.std.proofs.lemmas.List.{take_all}
use Rattle.git_name.specs.Same.{same_name}
use Rattle.fork_reach.specs.Marks.{is_marked}
use Rattle.fork_reach.proofs.MarkLemmas.{listed_all, listed_last, listed_skip, marked_here, read_here}
use Rattle.fork_reach.proofs.places.Places.names_of.Goals as goal

pub loop-at-preserved-then-not-marks-at : goal.loop-at-preserved-then-not-marks-at
loop-at-preserved-then-not-marks-at c =
    let names = c.args.self.now.names.now.keys in
    let marks = c.args.marks.now in
    let at = c.loop-at.at in
    let inside : at < length names = search rules in
    listed_skip (is_marked names marks) names at (contains same_name c.loop-at.names) inside (marked_here names marks at c.as_slice-all.ensures.unique inside ∙ c.if-not-marks-at.true) c.loop-at.invariant

pub loop-at-preserved : goal.loop-at-preserved
loop-at-preserved c =
    let names = c.args.self.now.names.now.keys in
    let marks = c.args.marks.now in
    let at = c.loop-at.at in
    let inside : at < length names = search rules in
    let whole = ap (λ ns. slice_index_or ns at c.index-all-at.result) c.as_slice-all.ensures.keys in
    let name = read_here names at c.index-all-at.result inside (c.index-all-at.is ∙ whole) in
    listed_last (is_marked names marks) names at (contains same_name c.loop-at.names) (contains same_name c.insert.new.self) inside (marked_here names marks at c.as_slice-all.ensures.unique inside ∙ c.if-not-marks-at.false) c.loop-at.invariant
    (subst (λ n. (other : List ℕ) → contains same_name c.insert.new.self other ≡ cond (same_name n other) true (contains same_name c.loop-at.names other)) name c.in-Ok.ensures.updates.0)

pub returns : goal.returns
returns c = λ name.
    let names = c.args.self.now.names.now.keys in
    let test = is_marked names c.args.marks.now in
    let past : length names ≤ c.loop-at.at = search rules in
    c.loop-at.invariant name ∙ ap (λ ns. list_any (same_name name) (filter test ns)) (take_all c.loop-at.at names past) ∙ listed_all names c.args.marks.now name
