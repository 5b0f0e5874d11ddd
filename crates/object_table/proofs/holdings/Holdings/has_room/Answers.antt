use Rattle.std.proofs.Common.{◌+◌, ap, nat_le, ◌∙◌, sym}
use Rattle.std.specs.Prelude.{sum_by}
use Rattle.std.specs.HashSet.{contains}
use Rattle.git_name.specs.Same.{same_name}
use Rattle.object_table.specs.Adopted.{offered_words, shown_beside}
use Rattle.object_table.specs.Coming.{coming_in, use_of_entry}
use Rattle.object_table.specs.Holders.{HoldingsState}
use Rattle.object_table.specs.Ledgers.{ledger_at}
use Rattle.object_table.specs.Totals.{capped, total_of, used_by}
use Rattle.object_table.specs.Views.{all_words, words_under}
use Rattle.object_table.proofs.CappedLemmas.{capped_within}
use Rattle.object_table.proofs.ChangeLemmas.{ledger_is}
use Rattle.object_table.proofs.RoomLemmas.{room_is}
use Rattle.object_table.proofs.holdings.Holdings.has_room.Goals as goal

pub returns : goal.returns
returns c =
    let rows = c.self.inside.table.entries in
    let tenants = c.self.inside.ledgers in
    let m = all_words rows tenants in
    let shown = ap (words_under rows) c.get-shown.ensures ∙ ledger_is rows tenants c.args.from.now in
    let own = ap (words_under rows) c.get-own.ensures ∙ ledger_is rows tenants c.args.to.now in
    let used = c.used-used.ensures ∙ ap (λ (s : HoldingsState). capped (used_by (ledger_at s.ledgers c.args.to.now))) (sym c.self.view_is) in
    ap (λ n. nat_le n c.args.limit) (c.use_with_coming.ensures (used_by (ledger_at m c.args.to.now)) used ∙ (λ i. capped (used_by (ledger_at m c.args.to.now) + sum_by use_of_entry (coming_in (shown i) (own i) c.args.names.now.keys)))
    ∙ ap capped (room_is (ledger_at m c.args.from.now) (ledger_at m c.args.to.now) c.args.names.now.keys c.as_slice-unique.ensures.unique))
    ∙ capped_within _ c.args.limit c.ranges.limit.fits
    ∙ ap (λ (s : HoldingsState). nat_le (total_of (shown_beside (offered_words (contains same_name c.args.names.now) (ledger_at s.ledgers c.args.from.now)) (ledger_at s.ledgers c.args.to.now))) c.args.limit) c.self.view_is
