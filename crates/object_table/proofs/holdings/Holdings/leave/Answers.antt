use Rattle.std.proofs.Common.{ap, not, sym, subst, ◌∙◌}
use Rattle.git_name.specs.Same.{same_name}
use Rattle.object_table.specs.Holders.{HoldingsState, holders_of}
use Rattle.object_table.specs.Links.{KnowsNoMore, named_links}
use Rattle.object_table.specs.Rows.{places_of}
use Rattle.object_table.proofs.PlaceLemmas.{none_free, one_next, own_name}
use Rattle.object_table.proofs.holdings.Holdings.leave.Goals as goal

pub returns-in_default-clause-can : goal.returns-in_default-clause-can
returns-in_default-clause-can c next free = absurd (none_free (places_of c.args.self.now.catalogue) (holders_of c.args.self.now.ledgers) c.args.name c.in_default.ensures.none next free)

pub returns-then-ne-clause-can : goal.returns-then-ne-clause-can
returns-then-ne-clause-can c next _ =
    let one = one_next (places_of c.args.self.now.catalogue) c.in-Some.next c.args.name c.in-Some.ensures.some.0 next in
    ap not (sym (ap (same_name c.in-Some.next) (sym one) ∙ own_name c.in-Some.next)) ∙ sym c.ne.ensures ∙ c.if-ne.true

pub returns-clause-links : goal.returns-clause-links
returns-clause-links c _ =
    subst (λ (s : HoldingsState). KnowsNoMore s.links (named_links c.leave_in.new.table.entries c.leave_in.new.links)) c.self.view_is c.leave_in.ensures.links
