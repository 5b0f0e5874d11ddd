use Rattle.std.proofs.Common.{◌≡◌, ◌&&◌, ◌++◌, not, true, false, ℕ, List, IfOk, Result, Ok, Err, drop, length, take, rules, subst, ap, ◌∙◌}
use Rattle.std.specs.List.{list_any, slice_index_or}
use Rattle.git_name.specs.Same.{same_name}
use Rattle.fork_reach.specs.History.{notes_under}
use Rattle.fork_reach.specs.Marks.{is_marked}
use Rattle.fork_reach.specs.NotedBases.{is_other_parent}
use Rattle.fork_reach.proofs.MarkLemmas.{lent_back}
use Rattle.fork_reach.proofs.ParentLemmas.{best_told}
use Rattle.fork_reach.proofs.places.Places.best_common.Goals as goal

IfOk_after : {T E : Type 0} {P Q : T → Type 0} (r : Result T E) → ((x : T) → P x → Q x) → IfOk r P → IfOk r Q
IfOk_after (Ok x) then holds = then x holds
IfOk_after (Err e) then holds = holds

pub returns : goal.returns
returns c =
    let names = c.args.self.now.names.now.keys in
    let notes = c.args.self.now.notes.now in
    let common = c.in_ok-best.best in
    let outdone = c.in_ok-outdone.outdone.items in
    let now = c.take_out.new.marks in
    let back : take common.len (now ++ drop (length now) common.items) ≡ now = lent_back now _ common.len (search rules) in
    let outdoes = subst (λ ms. (name : List ℕ) → list_any (same_name name) names ≡ true → is_marked names outdone name ≡ list_any (λ other. is_marked names ms other && is_other_parent (notes_under names notes) name other) names) c.deref.ensures.value c.in_ok-outdone.ensures.marked in
    let less = (λ (at : ℕ). c.take_out.ensures.each at ∙ ap (λ ms. not (slice_index_or ms at false) && slice_index_or c.deref_mut.result.now at false) c.«deref-2».ensures.value ∙ ap (λ ms. not (slice_index_or outdone at false) && slice_index_or ms at false) c.deref_mut.ensures.value) in
    IfOk_after c.names_of.result (λ best found name.
    found name ∙ ap (λ ms. is_marked names ms name) (c.«deref-3».ensures.value ∙ back)
    ∙ best_told names notes c.args.a c.args.b common.items outdone now c.requires c.in_ok-best.ensures.marked outdoes less name)
    c.names_of.ensures
