use Rattle.std.proofs.Common.{sym, subst, ◌∙◌, rules}
use Rattle.std.specs.Prelude.{Contains}
use Rattle.number_links.specs.Numbers.{has}
use Rattle.object_table.proofs.WalkedLemmas.{between_all, between_known, between_only}
use Rattle.number_links.specs.declared.along.Along.TheVariants.{Parents}
use Rattle.object_table.proofs.linking.names_in_history.Goals as goal

pub returns-clause-only : goal.returns-clause-only
returns-clause-only c name is =
    between_only c.args.table.now.entries c.args.own.now c.args.links.now c.invariant.ensures.rows c.requires.own c.requires.linked Parents c.args.wanted.now c.args.excluded.now c.as_slice-from.result.now c.as_slice-past.result.now
    (λ n among. c.in_ok-wants.ensures.only n (subst (λ ns. Contains ns n) c.as_slice-from.ensures.value among)) (λ q row among here. subst (λ ns. Contains ns row.number) (sym c.as_slice-from.ensures.value) (c.in_ok-wants.ensures.all q row among here))
    (λ n among. c.in_ok-haves.ensures.only n (subst (λ ns. Contains ns n) c.as_slice-past.ensures.value among)) (λ q row among here. subst (λ ns. Contains ns row.number) (sym c.as_slice-past.ensures.value) (c.in_ok-haves.ensures.all q row among here))
    (has c.in-Some.numbers) (search rules) name (sym (c.in_ok-names.ensures name) ∙ is)

pub returns-clause-all : goal.returns-clause-all
returns-clause-all c name between =
    c.in_ok-names.ensures name
    ∙ between_all c.args.table.now.entries c.args.own.now c.args.links.now c.invariant.ensures.rows c.requires.own c.requires.linked Parents c.args.wanted.now c.args.excluded.now c.as_slice-from.result.now c.as_slice-past.result.now
    (λ n among. c.in_ok-wants.ensures.only n (subst (λ ns. Contains ns n) c.as_slice-from.ensures.value among)) (λ q row among here. subst (λ ns. Contains ns row.number) (sym c.as_slice-from.ensures.value) (c.in_ok-wants.ensures.all q row among here))
    (λ n among. c.in_ok-haves.ensures.only n (subst (λ ns. Contains ns n) c.as_slice-past.ensures.value among)) (λ q row among here. subst (λ ns. Contains ns row.number) (sym c.as_slice-past.ensures.value) (c.in_ok-haves.ensures.all q row among here))
    (has c.in-Some.numbers) (search rules) name between

pub returns-clause-known : goal.returns-clause-known
returns-clause-known c name met =
    between_known c.args.table.now.entries c.args.own.now c.args.links.now c.invariant.ensures.rows c.requires.own c.requires.linked Parents c.args.wanted.now c.args.excluded.now c.as_slice-from.result.now c.as_slice-past.result.now
    (λ n among. c.in_ok-wants.ensures.only n (subst (λ ns. Contains ns n) c.as_slice-from.ensures.value among)) (λ q row among here. subst (λ ns. Contains ns row.number) (sym c.as_slice-from.ensures.value) (c.in_ok-wants.ensures.all q row among here))
    (λ n among. c.in_ok-haves.ensures.only n (subst (λ ns. Contains ns n) c.as_slice-past.ensures.value among)) (λ q row among here. subst (λ ns. Contains ns row.number) (sym c.as_slice-past.ensures.value) (c.in_ok-haves.ensures.all q row among here))
    (search rules) name met
