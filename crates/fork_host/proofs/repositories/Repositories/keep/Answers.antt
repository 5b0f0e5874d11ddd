use Rattle.std.proofs.Common.{◌≤◌, ap, length, map, sym, subst, ◌≡◌, ◌∙◌, ◌∷◌, ◌++◌}
use Rattle.std.specs.FinMap.{entries, len-entries}
use Rattle.git_name.proofs.Names.{name_total}
use Rattle.git_name.proofs.TreeMaps.{entries_of_ordered}
use Rattle.git_reftx.proofs.PushLemmas.{keys_ascend}
use Rattle.fork_model.specs.declared.limits.TheConstants.{MAX_REPOSITORIES}
use Rattle.fork_host.specs.Keeping.{with_repositories}
use Rattle.state_text.specs.Adding.{AreBefore}
use Rattle.state_text.specs.States.{Ascend}
use Rattle.fork_host.proofs.KeepingLemmas.{before_next_by, room_for}
use Rattle.fork_host.proofs.repositories.Repositories.keep.Goals as goal

pub loop-name-init : goal.loop-name-init
loop-name-init c =
    ap (with_repositories c.args.state.now) (
    c.into_iter-name-iterator.ensures.into_iter_gives ∙ c.iter-name-items.ensures.rest
    ∙ sym (entries_of_ordered name_total c.self.inside.repositories.entries c.iter-name-items.ensures.ordered) ∙ ap entries c.self.view_is)

-- the repositories so far and those that are left are all
whole : (c : goal.After-copy-in-loop-name) → c.loop-name.state.repositories ++ (c.in-Some.name.now, c.in-Some.repository.now) ∷ c.next.new.self ≡ entries c.args.self.now
whole c =
    ap (λ rows. c.loop-name.state.repositories ++ rows) (sym c.in-Some.ensures.steps) ∙ ap (λ t. t.repositories) c.loop-name.invariant
    ∙ ap (λ rows. rows ++ entries c.args.self.now) c.requires.none

pub keep_repository-requires-clause-before : goal.keep_repository-requires-clause-before
keep_repository-requires-clause-before c =
    subst (AreBefore (map (λ row. row.0) c.loop-name.state.repositories)) (sym c.copy-in-loop-name.ensures)
    (before_next_by (λ row. row.0) c.loop-name.state.repositories (c.in-Some.name.now, c.in-Some.repository.now) c.next.new.self
    (subst (λ rows. Ascend (map (λ row. row.0) rows)) (sym (whole c)) (keys_ascend c.args.self.now)))

pub keep_repository-requires-clause-room : goal.keep_repository-requires-clause-room
keep_repository-requires-clause-room c =
    room_for c.loop-name.state.repositories (c.in-Some.name.now, c.in-Some.repository.now) c.next.new.self MAX_REPOSITORIES
    (subst (λ n. n ≤ MAX_REPOSITORIES) (len-entries c.args.self.now ∙ ap (λ rows. length rows) (sym (whole c))) c.requires.few)
