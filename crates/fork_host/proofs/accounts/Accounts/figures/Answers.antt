use Rattle.std.proofs.Common.{◌≡◌, [], ◌∷◌, ◌++◌, List, Some, ℕ, ap, sym, subst, ◌∙◌}
use Rattle.std.proofs.lemmas.List.{append-nil}
use Rattle.std.specs.Prelude.{All}
use Rattle.std.specs.BTreeMap as tree
use Rattle.std.specs.FinMap.{entries, get}
use Rattle.git_name.specs.Name.{name_cmp}
use Rattle.git_name.proofs.Names.{name_total}
use Rattle.git_name.proofs.TreeMaps.{entries_of_ordered, get_of_entries}
use Rattle.fork_model.specs.Figures.{figure_line}
use Rattle.fork_host.specs.Shown.{Account, shown, state_of}
use Rattle.fork_host.proofs.FigureLemmas.{all_lines, line_more, lines_by}
use Rattle.fork_host.proofs.KeepingLemmas.{all_at, moved, orderly_at, so_far}
use Rattle.fork_host.proofs.accounts.Accounts.figures.Goals as goal

pub loop-name-init : goal.loop-name-init
loop-name-init g c = (
  [],
  c.into_iter-name-iterator.ensures.into_iter_gives ∙ c.iter-name-items.ensures.rest
      ∙ sym (entries_of_ordered name_total c.self.inside.tenants.entries c.iter-name-items.ensures.ordered) ∙ ap entries c.self.view_is,
  c.new-text.ensures.items,
)

pub add_figures-requires : goal.add_figures-requires
add_figures-requires g c =
    let name = c.in-Some.name.now in
    let rows = c.self.inside.tenants.entries in
    let ordered = entries_of_ordered name_total rows c.iter-name-items.ensures.ordered in
    let all = subst (All (λ e. tree.get name_cmp c.self.inside.tenants e.0 ≡ Some e.1)) (sym (so_far c.loop-name.invariant.0 (name, c.in-Some.tenant.now) c.next.new.self c.loop-name.name-iterator (entries c.args.self.now) c.in-Some.ensures.steps c.loop-name.invariant.1 ∙ ap entries (sym c.self.view_is) ∙ ordered)) c.iter-name-items.ensures.found in
    let here = all_at (λ e. tree.get name_cmp c.self.inside.tenants e.0 ≡ Some e.1) c.loop-name.invariant.0 (name, c.in-Some.tenant.now) c.next.new.self all in
    let is = ap (λ m. get m name) (sym c.self.view_is) ∙ get_of_entries name_total rows name ∙ here in
    orderly_at (state_of c.args.self.now c.args.vault.now) name c.in-Some.tenant.now c.requires is

pub loop-name-preserved : goal.loop-name-preserved
loop-name-preserved g c =
    let before = c.loop-name.invariant.0 in
    let row : List ℕ × Account = (c.in-Some.name.now, c.in-Some.tenant.now) in (
      before ++ row ∷ [],
      moved before row c.next.new.self ∙ so_far before row c.next.new.self c.loop-name.name-iterator (entries c.args.self.now) c.in-Some.ensures.steps c.loop-name.invariant.1,
      c.in_ok-add_figures.ensures ∙ ap (λ text. text ++ figure_line row.0 (shown row.1 c.args.vault.now row.0)) c.loop-name.invariant.2 ∙ sym (line_more c.args.vault.now before row),
    )

pub returns : goal.returns
returns g c =
    c.loop-name.invariant.2 ∙ ap (lines_by c.args.vault.now) (sym (append-nil c.loop-name.invariant.0) ∙ ap (λ rows. c.loop-name.invariant.0 ++ rows) (sym c.in-None.ensures.steps.0) ∙ c.loop-name.invariant.1)
    ∙ all_lines (state_of c.args.self.now c.args.vault.now)
