use Rattle.std.proofs.Common.{◌≡◌, false, true, rules, sym, ◌∙◌}
use Rattle.std.specs.List.{slice_index_or}
use Rattle.fork_reach.proofs.MarkLemmas.{sees_marked, sees_set, sees_unplaced}
use Rattle.fork_reach.proofs.places.Places.mark.Goals as goal

pub returns-in_default : goal.returns-in_default
returns-in_default c = sees_unplaced c.args.self.now.names.now.keys c.args.self.now.notes.now c.args.marks.now c.args.waiting.now.items c.args.name c.requires (sym c.place.ensures ∙ c.in_default.is)

pub returns-then-marks-at : goal.returns-then-marks-at
returns-then-marks-at c =
    let set : slice_index_or c.args.marks.now c.in-Some.at false ≡ true = search rules in
    sees_marked c.args.self.now.names.now.keys c.args.self.now.notes.now c.args.marks.now c.args.waiting.now.items c.args.name c.in-Some.at c.requires (sym c.place.ensures ∙ c.in-Some.is) set

pub returns : goal.returns
returns c =
    let unset : slice_index_or c.args.marks.now c.in-Some.at false ≡ false = search rules in
    sees_set c.args.self.now.names.now.keys c.args.self.now.notes.now c.args.marks.now c.args.waiting.now.items c.push.new.self.items c.args.name c.in-Some.at c.requires (sym c.place.ensures ∙ c.in-Some.is) unset c.in_ok-push.ensures.items
