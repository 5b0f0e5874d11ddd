use Rattle.std.proofs.Common.{◌≡◌, ap, sym, ◌∙◌, nat_le, true, arith}
use Rattle.object_table.specs.Totals.{total_of}
use Rattle.object_table.specs.Views.{words_under}
use Rattle.object_table.proofs.ChangeLemmas.{ledger_is}
use Rattle.object_table.proofs.PublishLemmas.{nothing_in_all}
use Rattle.object_table.proofs.holdings.is_within_in.Goals as goal

pub returns-in_default : goal.returns-in_default
returns-in_default c =
    sym (ap (λ w. nat_le (total_of w) c.args.limit) (sym (ledger_is c.args.table.now.entries c.args.ledgers.now c.args.tenant.now)) ∙ ap (λ o. nat_le (total_of (words_under c.args.table.now.entries o)) c.args.limit) (sym c.in_default.ensures) ∙ ap (λ n. nat_le n c.args.limit) nothing_in_all ∙ (let least : nat_le 0 c.args.limit ≡ true = search arith in least))

pub returns : goal.returns
returns c =
    let rows = c.args.table.now.entries in
    let own = c.in-Some.ledger.now in
    let is = c.requires.held.own c.args.tenant.now own (sym c.in-Some.ensures) in
    ap (λ n. nat_le n c.args.limit) (c.total.ensures ∙ is.both)
    ∙ ap (λ o. nat_le (total_of (words_under rows o)) c.args.limit) c.in-Some.ensures ∙ ap (λ w. nat_le (total_of w) c.args.limit) (ledger_is rows c.args.ledgers.now c.args.tenant.now)
