use Rattle.std.proofs.Common.{◌≡◌, Bool, ◌∙◌, subst, sym}
use Rattle.std.specs.List.{AllByRecursion}
use Rattle.std.specs.declared.cmp.Ordering.TheVariants.{Less}
use Rattle.git_name.specs.Name.{name_cmp}
use Rattle.git_tree.specs.Entry.{plain_entry, entry_key, key}
use Rattle.git_tree.specs.Tree.{Differ}
use Rattle.git_tree.specs.Row.{entries_in}
use Rattle.git_tree.specs.Tracks.{FollowsLast, reached_by, last_key}
use Rattle.git_tree.proofs.PlaceLemmas.{past, above_all, differ_all, not_above}
use Rattle.git_tree.proofs.ListLemmas.{none_of_any, any_not_below}
use Rattle.git_tree.proofs.place.place.Given as given
use Rattle.git_tree.proofs.place.place.Goals as goal
use Rattle.git_tree.proofs.place.place.Goals.{else-may_repeat-via-then-may_repeat+else-stands_among-2, else-may_repeat-via-else-may_repeat}

-- in order, by as many bytes as both have in common
steps_of : (g : given.Over) (c : goal.Joined-else-may_repeat g) → FollowsLast (reached_by c.args.last c.args.fronts.now) (plain_entry c.args.entry) c.shared_len-shared.result
steps_of g c = record {
  is = c.requires.entry;
  order = subst (λ (t : Bool). name_cmp (last_key (reached_by c.args.last c.args.fronts.now)) (key t c.args.entry.file_name.now) ≡ Less) c.is_tree-is_tree.ensures (c.is_below-in_order.ensures.0 c.if-not-in_order.false);
  within = c.shared_len-shared.ensures.within_b;
  same = c.shared_len-shared.ensures.shared;
  apart = c.shared_len-shared.ensures.apart;
}

pub returns-clause-steps : goal.returns-clause-steps
returns-clause-steps g c = steps_of g c

pub returns-clause-follows : goal.returns-clause-follows
returns-clause-follows g c =
    let e = plain_entry c.args.entry in
    let old = reached_by c.args.last c.args.fronts.now in
    let front = entries_in c.args.before.now in
    let steps = steps_of g c in
    let are = past front old c.requires.row.each c.requires.tracks.low c.requires.tracks.known in
    record {
      above = above_all front old e c.shared_len-shared.result steps are;
      new = elim c.else-may_repeat.branch [
        | else-may_repeat-via-then-may_repeat+else-stands_among-2 w ↦ rw w.if-stands_among-2.false at w.stands_among-then-may_repeat.ensures
        | else-may_repeat-via-else-may_repeat w ↦ differ_all front old e c.shared_len-shared.result steps
            (λ tree all known. let told = c.may_hold-may_repeat.ensures (c.is_tree-is_tree.ensures ∙ tree) all known in let no : ⊥ = cc (told, w.if-may_repeat.false) in no) are
      ];
    }

pub returns-then-not-in_order-clause-fault : goal.returns-then-not-in_order-clause-fault
returns-then-not-in_order-clause-fault g c =
    let e = plain_entry c.args.entry in
    let old = reached_by c.args.last c.args.fronts.now in
    let front = entries_in c.args.before.now in
    let apart : AllByRecursion (λ a. Differ a e) front = rw c.if-stands_among.false at c.stands_among.ensures in
    let refused : name_cmp (last_key old) (entry_key e) ≡ Less → ⊥ =
    λ below. let told = c.is_below-in_order.ensures.1 (subst (λ (t : Bool). name_cmp (last_key old) (key t c.args.entry.file_name.now) ≡ Less) (sym c.is_tree-is_tree.ensures) below) in let no : ⊥ = cc (told, c.if-not-in_order.true) in no in
    (none_of_any (λ a. a.file_name ≡ e.file_name) front apart, any_not_below front e (not_above front old e c.requires.tracks c.requires.entry refused))
