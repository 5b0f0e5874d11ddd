use Rattle.std.proofs.Common.{[], ◌∷◌, ◌++◌, List, ℕ, ap, sym, ◌∙◌}
use Rattle.std.specs.FinMap.{entries}
use Rattle.git_name.proofs.Names.{name_total}
use Rattle.git_name.proofs.TreeMaps.{entries_of_ordered}
use Rattle.fork_host.specs.Shown.{Account}
use Rattle.fork_host.proofs.KeepingLemmas.{moved, so_far}
use Rattle.fork_host.proofs.UploadLemmas.{more_uploading, still_uploading}
use Rattle.fork_host.proofs.accounts.Accounts.uploading.Goals as goal

pub loop-name-init : goal.loop-name-init
loop-name-init c = (
  [],
  c.into_iter-name-iterator.ensures.into_iter_gives ∙ c.iter-name-items.ensures.rest
      ∙ sym (entries_of_ordered name_total c.self.inside.tenants.entries c.iter-name-items.ensures.ordered) ∙ ap entries c.self.view_is,
  c.new-names.ensures.items,
)

pub loop-name-preserved-in-Continue-1 : goal.loop-name-preserved-in-Continue-1
loop-name-preserved-in-Continue-1 c =
    let before = c.loop-name.invariant.0 in
    let row : List ℕ × Account = (c.in-Some.name.now, c.in-Some.tenant.now) in (
      before ++ row ∷ [],
      moved before row c.next.new.self ∙ so_far before row c.next.new.self c.loop-name.name-iterator (entries c.args.self.now) c.in-Some.ensures.steps c.loop-name.invariant.1,
      more_uploading c.loop-name.names.items _ c.copy.result before row c.in_ok-push.ensures.items c.copy.ensures c.loop-name.invariant.2 (sym c.is_uploading.ensures ∙ c.if-is_uploading.true),
    )

pub loop-name-preserved : goal.loop-name-preserved
loop-name-preserved c =
    let before = c.loop-name.invariant.0 in
    let row : List ℕ × Account = (c.in-Some.name.now, c.in-Some.tenant.now) in (
      before ++ row ∷ [],
      moved before row c.next.new.self ∙ so_far before row c.next.new.self c.loop-name.name-iterator (entries c.args.self.now) c.in-Some.ensures.steps c.loop-name.invariant.1,
      still_uploading c.loop-name.names.items before row c.loop-name.invariant.2 (sym c.is_uploading.ensures ∙ c.if-is_uploading.false),
    )
