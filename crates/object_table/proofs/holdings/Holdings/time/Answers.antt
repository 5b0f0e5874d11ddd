use Rattle.std.proofs.Common.{List, ℕ, ap, sym, ◌∙◌}
use Rattle.std.specs.FinMap.{get}
use Rattle.std.specs.Option.{option_map}
use Rattle.number_links.specs.Facts.{Learned}
use Rattle.object_table.specs.Holders.{HoldingsState}
use Rattle.object_table.proofs.LinkLemmas.{none_known, time_row}
use Rattle.object_table.proofs.holdings.Holdings.time.Goals as goal

pub returns-in_default : goal.returns-in_default
returns-in_default c =
    sym (ap (λ (s : HoldingsState). option_map (λ (one : Learned (List ℕ)). one.time) (get s.links c.args.name)) (sym c.self.view_is)
    ∙ ap (option_map (λ (one : Learned (List ℕ)). one.time)) (none_known c.self.inside.table.entries c.self.inside.links c.args.name c.invariant.ensures.rows (sym c.in_default.ensures)))

pub returns : goal.returns
returns c =
    c.time.ensures ∙ time_row c.self.inside.table.entries c.self.inside.links c.args.name c.in-Some.row c.invariant.ensures.rows.distinct (sym c.in-Some.ensures)
    ∙ ap (λ (s : HoldingsState). option_map (λ (one : Learned (List ℕ)). one.time) (get s.links c.args.name)) c.self.view_is
