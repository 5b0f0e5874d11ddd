use Rattle.std.proofs.Common.{◌≡◌, ◌∙◌, ap, rules, subst, sym, arith, None, Some}
use Rattle.std.specs.FinMap.{from_entries, get, insert}
use Rattle.object_table.specs.Words.{published_words}
use Rattle.object_table.specs.Holders.{AreHeld}
use Rattle.object_table.specs.Views.{all_words}
use Rattle.object_table.proofs.PublishLemmas.{published_is, published_moves, published_one}
use Rattle.object_table.proofs.TenantEntries.{unchanged_at}
use Rattle.object_table.proofs.TenantLemmas.{held_moved, ledger_moved, no_words_at, one_of}
use Rattle.object_table.proofs.UpdateLemmas.{found_in, written_back}
use Rattle.object_table.proofs.ledgers.Ledgers.publish.Goals as goal

pub returns-in_default-clause-words : goal.returns-in_default-clause-words
returns-in_default-clause-words c =
    let rows = c.args.table.now.entries in
    let t = c.args.tenant.now in
    rw c.get_mut.follows.holds-at-none (ap (all_words rows) c.self.view_is ∙ sym (unchanged_at (all_words rows c.args.self.now) t (published_words) (no_words_at rows c.args.self.now t (found_in c.args.self.now c.self.inside.tenants.entries t None c.self.view_is c.in_default.ensures.value))))

pub returns-clause-held : goal.returns-clause-held
returns-clause-held c =
    let here : get c.args.self.now c.args.tenant.now ≡ Some c.in-Some.own.now = found_in c.args.self.now c.self.inside.tenants.entries c.args.tenant.now (Some c.in-Some.own.now) c.self.view_is c.in-Some.ensures.value in
    let one = one_of c.args.table.now.entries c.args.self.now c.args.tenant.now c.in-Some.own.now c.requires.held here (let l = c.len-tenants.ensures in omega (arith, l, c.len-tenants.type_inv)) in
    let stays = (c.get_mut.follows.holds c.publish.new.self).3 (search rules) in
    let back : from_entries (c.get_mut.follows.lender c.publish.new.self).entries ≡ insert c.args.self.now c.args.tenant.now c.publish.new.self = written_back c.args.self.now c.self.inside.tenants.entries (c.get_mut.follows.lender c.publish.new.self).entries c.args.tenant.now c.publish.new.self c.self.view_is stays.0 in
    subst (λ m. AreHeld c.args.table.now.entries m) (sym back) (held_moved c.args.table.now c.args.table.now c.args.self.now c.args.tenant.now c.in-Some.own.now c.publish.new.self c.invariant.ensures.rows c.requires.held here (published_moves c.args.table.now c.in-Some.own.now c.publish.new.self c.invariant.ensures.rows c.publish.ensures.visible c.publish.ensures.staged c.publish.ensures.used c.publish.ensures.total) (published_one c.args.table.now c.in-Some.own.now c.publish.new.self c.invariant.ensures.rows c.publish.ensures.visible c.publish.ensures.staged c.publish.ensures.used c.publish.ensures.total one))

pub returns-clause-words : goal.returns-clause-words
returns-clause-words c =
    let here : get c.args.self.now c.args.tenant.now ≡ Some c.in-Some.own.now = found_in c.args.self.now c.self.inside.tenants.entries c.args.tenant.now (Some c.in-Some.own.now) c.self.view_is c.in-Some.ensures.value in
    let one = one_of c.args.table.now.entries c.args.self.now c.args.tenant.now c.in-Some.own.now c.requires.held here (let l = c.len-tenants.ensures in omega (arith, l, c.len-tenants.type_inv)) in
    let stays = (c.get_mut.follows.holds c.publish.new.self).3 (search rules) in
    let back : from_entries (c.get_mut.follows.lender c.publish.new.self).entries ≡ insert c.args.self.now c.args.tenant.now c.publish.new.self = written_back c.args.self.now c.self.inside.tenants.entries (c.get_mut.follows.lender c.publish.new.self).entries c.args.tenant.now c.publish.new.self c.self.view_is stays.0 in
    ap (all_words c.args.table.now.entries) back ∙ ledger_moved c.args.table.now c.args.table.now c.args.self.now c.args.tenant.now c.in-Some.own.now c.publish.new.self c.invariant.ensures.rows c.requires.held here (published_moves c.args.table.now c.in-Some.own.now c.publish.new.self c.invariant.ensures.rows c.publish.ensures.visible c.publish.ensures.staged c.publish.ensures.used c.publish.ensures.total) (published_one c.args.table.now c.in-Some.own.now c.publish.new.self c.invariant.ensures.rows c.publish.ensures.visible c.publish.ensures.staged c.publish.ensures.used c.publish.ensures.total one) published_words (published_is c.args.table.now c.in-Some.own.now c.publish.new.self c.invariant.ensures.rows c.publish.ensures.visible c.publish.ensures.staged c.publish.ensures.used c.publish.ensures.total)
