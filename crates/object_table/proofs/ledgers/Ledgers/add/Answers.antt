use Rattle.std.proofs.Common.{◌≡◌, ◌∙◌, ap, subst, sym, is_some, false, refl}
use Rattle.std.specs.FinMap.{contains_key, from_entries, insert}
use Rattle.object_table.specs.Holders.{AreHeld}
use Rattle.object_table.specs.Views.{all_words}
use Rattle.object_table.proofs.PublishLemmas.{added_held, added_is, there_already}
use Rattle.object_table.proofs.UpdateLemmas.{found_in, written_back}
use Rattle.object_table.proofs.ledgers.Ledgers.add.Goals as goal

pub returns-then-contains_key-clause-ok : goal.returns-then-contains_key-clause-ok
returns-then-contains_key-clause-ok c =
    there_already c.args.table.now.entries c.args.self.now c.args.tenant (ap is_some (found_in c.args.self.now c.self.inside.tenants.entries c.args.tenant _ c.self.view_is refl) ∙ sym c.contains_key.ensures ∙ c.if-contains_key.true)

pub returns-in-Ok-clause-ok : goal.returns-in-Ok-clause-ok
returns-in-Ok-clause-ok c =
    let absent : contains_key c.args.self.now c.args.tenant ≡ false = ap is_some (found_in c.args.self.now c.self.inside.tenants.entries c.args.tenant _ c.self.view_is refl) ∙ sym c.contains_key.ensures ∙ c.if-contains_key.false in
    let back : from_entries c.insert.new.self.entries ≡ insert c.args.self.now c.args.tenant c.new.result = written_back c.args.self.now c.self.inside.tenants.entries c.insert.new.self.entries c.args.tenant c.new.result c.self.view_is c.in-Ok.ensures.updates.0 in
    ap (all_words c.args.table.now.entries) back
    ∙ added_is c.args.table.now.entries c.args.self.now c.args.tenant c.new.result c.invariant.ensures.rows c.requires.held c.new.ensures.visible c.new.ensures.staged c.new.ensures.used c.new.ensures.total absent

pub returns-in-Ok-clause-held : goal.returns-in-Ok-clause-held
returns-in-Ok-clause-held c =
    let absent : contains_key c.args.self.now c.args.tenant ≡ false = ap is_some (found_in c.args.self.now c.self.inside.tenants.entries c.args.tenant _ c.self.view_is refl) ∙ sym c.contains_key.ensures ∙ c.if-contains_key.false in
    let back : from_entries c.insert.new.self.entries ≡ insert c.args.self.now c.args.tenant c.new.result = written_back c.args.self.now c.self.inside.tenants.entries c.insert.new.self.entries c.args.tenant c.new.result c.self.view_is c.in-Ok.ensures.updates.0 in
    subst (λ m. AreHeld c.args.table.now.entries m) (sym back)
    (added_held c.args.table.now.entries c.args.self.now c.args.tenant c.new.result c.invariant.ensures.rows c.requires.held c.new.ensures.visible c.new.ensures.staged c.new.ensures.used c.new.ensures.total absent)
