use Rattle.std.proofs.Common.{◌≡◌, ◌∙◌, ap, rules, subst, sym, arith, None, Some}
use Rattle.std.specs.FinMap.{from_entries, get, insert}
use Rattle.object_table.specs.AllStaged.{all_staged_words}
use Rattle.object_table.specs.Holders.{AreHeld}
use Rattle.object_table.specs.Views.{all_words}
use Rattle.object_table.proofs.TenantEntries.{unchanged_at}
use Rattle.object_table.proofs.TenantLemmas.{held_moved, ledger_moved, ledger_stays, no_words_at, one_of}
use Rattle.object_table.proofs.UpdateLemmas.{found_in, written_back}
use Rattle.object_table.proofs.ledgers.Ledgers.stage.Goals as goal

pub returns-in_default-clause-ok : goal.returns-in_default-clause-ok
returns-in_default-clause-ok c =
    let rows = c.args.table.now.entries in
    let t = c.args.tenant.now in
    rw c.get_mut.follows.holds-at-none (ap (all_words rows) c.self.view_is ∙ sym (unchanged_at (all_words rows c.args.self.now) t (all_staged_words c.args.entries.now) (no_words_at rows c.args.self.now t (found_in c.args.self.now c.self.inside.tenants.entries t None c.self.view_is c.in_default.ensures.value))))

pub stage_entries-requires-clause-one : goal.stage_entries-requires-clause-one
stage_entries-requires-clause-one c =
    let here : get c.args.self.now c.args.tenant.now ≡ Some c.in-Some.own.now = found_in c.args.self.now c.self.inside.tenants.entries c.args.tenant.now (Some c.in-Some.own.now) c.self.view_is c.in-Some.ensures.value in
    let one = one_of c.args.table.now.entries c.args.self.now c.args.tenant.now c.in-Some.own.now c.requires.held here (let l = c.len-tenants.ensures in omega (arith, l, c.len-tenants.type_inv)) in
    one

pub returns-in_default-stage_entries-clause-held : goal.returns-in_default-stage_entries-clause-held
returns-in_default-stage_entries-clause-held c =
    let here : get c.args.self.now c.args.tenant.now ≡ Some c.in-Some.own.now = found_in c.args.self.now c.self.inside.tenants.entries c.args.tenant.now (Some c.in-Some.own.now) c.self.view_is c.in-Some.ensures.value in
    let one = one_of c.args.table.now.entries c.args.self.now c.args.tenant.now c.in-Some.own.now c.requires.held here (let l = c.len-tenants.ensures in omega (arith, l, c.len-tenants.type_inv)) in
    let stays = (c.get_mut.follows.holds c.stage_entries.new.own).3 (search rules) in
    let back : from_entries (c.get_mut.follows.lender c.stage_entries.new.own).entries ≡ insert c.args.self.now c.args.tenant.now c.stage_entries.new.own = written_back c.args.self.now c.self.inside.tenants.entries (c.get_mut.follows.lender c.stage_entries.new.own).entries c.args.tenant.now c.stage_entries.new.own c.self.view_is stays.0 in
    subst (λ m. AreHeld c.stage_entries.new.table.entries m) (sym back) (held_moved c.args.table.now c.stage_entries.new.table c.args.self.now c.args.tenant.now c.in-Some.own.now c.stage_entries.new.own c.invariant.ensures.rows c.requires.held here c.stage_entries.ensures.moves c.stage_entries.ensures.one)

pub returns-clause-held : goal.returns-clause-held
returns-clause-held c =
    let here : get c.args.self.now c.args.tenant.now ≡ Some c.in-Some.own.now = found_in c.args.self.now c.self.inside.tenants.entries c.args.tenant.now (Some c.in-Some.own.now) c.self.view_is c.in-Some.ensures.value in
    let one = one_of c.args.table.now.entries c.args.self.now c.args.tenant.now c.in-Some.own.now c.requires.held here (let l = c.len-tenants.ensures in omega (arith, l, c.len-tenants.type_inv)) in
    let stays = (c.get_mut.follows.holds c.stage_entries.new.own).3 (search rules) in
    let back : from_entries (c.get_mut.follows.lender c.stage_entries.new.own).entries ≡ insert c.args.self.now c.args.tenant.now c.stage_entries.new.own = written_back c.args.self.now c.self.inside.tenants.entries (c.get_mut.follows.lender c.stage_entries.new.own).entries c.args.tenant.now c.stage_entries.new.own c.self.view_is stays.0 in
    subst (λ m. AreHeld c.stage_entries.new.table.entries m) (sym back) (held_moved c.args.table.now c.stage_entries.new.table c.args.self.now c.args.tenant.now c.in-Some.own.now c.stage_entries.new.own c.invariant.ensures.rows c.requires.held here c.stage_entries.ensures.moves c.stage_entries.ensures.one)

pub returns-in_default-stage_entries-clause-err : goal.returns-in_default-stage_entries-clause-err
returns-in_default-stage_entries-clause-err c =
    let here : get c.args.self.now c.args.tenant.now ≡ Some c.in-Some.own.now = found_in c.args.self.now c.self.inside.tenants.entries c.args.tenant.now (Some c.in-Some.own.now) c.self.view_is c.in-Some.ensures.value in
    let one = one_of c.args.table.now.entries c.args.self.now c.args.tenant.now c.in-Some.own.now c.requires.held here (let l = c.len-tenants.ensures in omega (arith, l, c.len-tenants.type_inv)) in
    let stays = (c.get_mut.follows.holds c.stage_entries.new.own).3 (search rules) in
    let back : from_entries (c.get_mut.follows.lender c.stage_entries.new.own).entries ≡ insert c.args.self.now c.args.tenant.now c.stage_entries.new.own = written_back c.args.self.now c.self.inside.tenants.entries (c.get_mut.follows.lender c.stage_entries.new.own).entries c.args.tenant.now c.stage_entries.new.own c.self.view_is stays.0 in
    ap (all_words c.stage_entries.new.table.entries) back ∙ ledger_stays c.args.table.now c.stage_entries.new.table c.args.self.now c.args.tenant.now c.in-Some.own.now c.stage_entries.new.own c.invariant.ensures.rows c.requires.held here c.stage_entries.ensures.moves c.stage_entries.ensures.one c.in_default-stage_entries.ensures.err

pub returns-clause-ok : goal.returns-clause-ok
returns-clause-ok c =
    let here : get c.args.self.now c.args.tenant.now ≡ Some c.in-Some.own.now = found_in c.args.self.now c.self.inside.tenants.entries c.args.tenant.now (Some c.in-Some.own.now) c.self.view_is c.in-Some.ensures.value in
    let one = one_of c.args.table.now.entries c.args.self.now c.args.tenant.now c.in-Some.own.now c.requires.held here (let l = c.len-tenants.ensures in omega (arith, l, c.len-tenants.type_inv)) in
    let stays = (c.get_mut.follows.holds c.stage_entries.new.own).3 (search rules) in
    let back : from_entries (c.get_mut.follows.lender c.stage_entries.new.own).entries ≡ insert c.args.self.now c.args.tenant.now c.stage_entries.new.own = written_back c.args.self.now c.self.inside.tenants.entries (c.get_mut.follows.lender c.stage_entries.new.own).entries c.args.tenant.now c.stage_entries.new.own c.self.view_is stays.0 in
    ap (all_words c.stage_entries.new.table.entries) back ∙ ledger_moved c.args.table.now c.stage_entries.new.table c.args.self.now c.args.tenant.now c.in-Some.own.now c.stage_entries.new.own c.invariant.ensures.rows c.requires.held here c.stage_entries.ensures.moves c.stage_entries.ensures.one (all_staged_words c.args.entries.now) c.in-Ok.ensures.ok
