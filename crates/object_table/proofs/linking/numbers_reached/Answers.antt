use Rattle.std.proofs.Common.{◌≡◌, ◌⊎◌, ◌↔◌, ℕ, Some, true, sym, subst}
use Rattle.std.specs.Prelude.{Contains, IfOk, IfSome}
use Rattle.number_links.specs.Facts.{Learned, goes_on, learned, nothing}
use Rattle.number_links.specs.Reach.{IsReached}
use Rattle.number_links.proofs.OptionLemmas.{found_both}
use Rattle.number_links.specs.declared.along.Along.TheVariants.{Links}
use Rattle.number_links.specs.Numbers.{Pages, has}
use Rattle.object_table.specs.Links.{rests_in}
use Rattle.object_table.proofs.WalkedLemmas.{kept_links, kept_named, reached_all, reached_known, reached_only}
use Rattle.object_table.proofs.linking.numbers_reached.Goals as goal

pub returns-clause-linked : goal.returns-clause-linked
returns-clause-linked c =
    kept_links c.args.table.now.entries c.args.own.now c.args.links.now c.invariant.ensures.rows c.requires.own c.requires.linked Links c.reached.new.self
    (subst (λ (v : Pages). (n : ℕ) (ms : Learned ℕ) → learned c.reached.new.self n ≡ Some ms → (learned c.args.links.now n ≡ Some ms) ⊎ ((ms ≡ nothing) × (has v n ≡ true) × (rests_in c.args.table.now.entries n ≡ true))) c.visible.ensures c.reached.ensures.only)

pub returns-clause-links : goal.returns-clause-links
returns-clause-links c =
    kept_named c.args.table.now.entries c.args.own.now c.args.links.now c.invariant.ensures.rows c.requires.own c.requires.linked Links c.reached.new.self
    (subst (λ (v : Pages). (n : ℕ) (ms : Learned ℕ) → learned c.reached.new.self n ≡ Some ms → (learned c.args.links.now n ≡ Some ms) ⊎ ((ms ≡ nothing) × (has v n ≡ true) × (rests_in c.args.table.now.entries n ≡ true))) c.visible.ensures c.reached.ensures.only)

pub returns-clause-only : goal.returns-clause-only
returns-clause-only c =
    let rows = c.args.table.now.entries in
    let own = c.args.own.now in
    let links = c.args.links.now in
    let from = c.as_slice.result.now in
    let told = subst (λ (v : Pages). IfOk c.reached.result (λ r. IfSome r (λ found. (n : ℕ) → (has found n ≡ true) ↔ IsReached (goes_on Links links) (has v) from n))) c.visible.ensures c.reached.ensures.found in
    found_both c.reached.result _ _ _ (λ set is known. reached_only rows own links c.invariant.ensures.rows c.requires.own c.requires.linked Links c.args.roots.now from
    (λ n among. c.in_ok-from.ensures.only n (subst (λ ns. Contains ns n) c.as_slice.ensures.value among)) (λ q row among here. subst (λ ns. Contains ns row.number) (sym c.as_slice.ensures.value) (c.in_ok-from.ensures.all q row among here))
    (has set) (λ n there. (is n).0 there)) told c.reached.ensures.known

pub returns-clause-all : goal.returns-clause-all
returns-clause-all c =
    let rows = c.args.table.now.entries in
    let own = c.args.own.now in
    let links = c.args.links.now in
    let from = c.as_slice.result.now in
    let told = subst (λ (v : Pages). IfOk c.reached.result (λ r. IfSome r (λ found. (n : ℕ) → (has found n ≡ true) ↔ IsReached (goes_on Links links) (has v) from n))) c.visible.ensures c.reached.ensures.found in
    found_both c.reached.result _ _ _ (λ set is known. reached_all rows own links c.invariant.ensures.rows c.requires.own c.requires.linked Links c.args.roots.now from
    (λ n among. c.in_ok-from.ensures.only n (subst (λ ns. Contains ns n) c.as_slice.ensures.value among)) (λ q row among here. subst (λ ns. Contains ns row.number) (sym c.as_slice.ensures.value) (c.in_ok-from.ensures.all q row among here))
    (has set) (λ n there. (is n).1 there)) told c.reached.ensures.known

pub returns-clause-known : goal.returns-clause-known
returns-clause-known c =
    let rows = c.args.table.now.entries in
    let own = c.args.own.now in
    let links = c.args.links.now in
    let from = c.as_slice.result.now in
    let told = subst (λ (v : Pages). IfOk c.reached.result (λ r. IfSome r (λ found. (n : ℕ) → (has found n ≡ true) ↔ IsReached (goes_on Links links) (has v) from n))) c.visible.ensures c.reached.ensures.found in
    found_both c.reached.result _ _ _ (λ set is known. reached_known rows own links c.invariant.ensures.rows c.requires.own c.requires.linked Links c.args.roots.now from
    (λ n among. c.in_ok-from.ensures.only n (subst (λ ns. Contains ns n) c.as_slice.ensures.value among)) (λ q row among here. subst (λ ns. Contains ns row.number) (sym c.as_slice.ensures.value) (c.in_ok-from.ensures.all q row among here))
    (λ n there. known n ((is n).1 there))) told c.reached.ensures.known
