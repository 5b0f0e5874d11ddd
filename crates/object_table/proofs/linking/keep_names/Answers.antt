use Rattle.std.proofs.Common.{◌≡◌, ◌⊎◌, ℕ, Some, true, subst}
use Rattle.number_links.specs.Facts.{Learned, learned, nothing}
use Rattle.number_links.specs.declared.along.Along.TheVariants.{Links}
use Rattle.number_links.specs.Numbers.{Pages, has}
use Rattle.object_table.specs.Links.{rests_in}
use Rattle.object_table.proofs.WalkedLemmas.{kept_links, kept_named}
use Rattle.object_table.proofs.linking.keep_names.Goals as goal

pub returns-clause-linked : goal.returns-clause-linked
returns-clause-linked c =
    kept_links c.args.table.now.entries c.args.own.now c.args.links.now c.invariant.ensures.rows c.requires.own c.requires.linked Links c.keep.new.self
    (subst (λ (v : Pages). (n : ℕ) (ms : Learned ℕ) → learned c.keep.new.self n ≡ Some ms → (learned c.args.links.now n ≡ Some ms) ⊎ ((ms ≡ nothing) × (has v n ≡ true) × (rests_in c.args.table.now.entries n ≡ true))) c.visible.ensures c.keep.ensures.only)

pub returns-clause-links : goal.returns-clause-links
returns-clause-links c =
    kept_named c.args.table.now.entries c.args.own.now c.args.links.now c.invariant.ensures.rows c.requires.own c.requires.linked Links c.keep.new.self
    (subst (λ (v : Pages). (n : ℕ) (ms : Learned ℕ) → learned c.keep.new.self n ≡ Some ms → (learned c.args.links.now n ≡ Some ms) ⊎ ((ms ≡ nothing) × (has v n ≡ true) × (rests_in c.args.table.now.entries n ≡ true))) c.visible.ensures c.keep.ensures.only)
