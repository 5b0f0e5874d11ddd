use Rattle.std.proofs.Common.{◌≡◌, ◌∙◌, ap, rules, subst, sym, arith, None, Some}
use Rattle.std.specs.FinMap.{from_entries, get, insert}
use Rattle.object_table.specs.Links.{is_among}
use Rattle.object_table.specs.Words.{kept_words}
use Rattle.object_table.specs.Holders.{AreHeld}
use Rattle.object_table.specs.Views.{all_words}
use Rattle.object_table.proofs.TenantEntries.{unchanged_at}
use Rattle.object_table.proofs.TenantLemmas.{held_moved, ledger_moved, no_words_at, one_of}
use Rattle.object_table.proofs.UpdateLemmas.{found_in, written_back}
use Rattle.object_table.proofs.ledgers.Ledgers.keep_numbers.Goals as goal

pub returns-in_default-clause-words : goal.returns-in_default-clause-words
returns-in_default-clause-words c =
    let rows = c.args.table.now.entries in
    let t = c.args.tenant.now in
    rw c.get_mut.follows.holds-at-none (ap (all_words rows) c.self.view_is ∙ sym (unchanged_at (all_words rows c.args.self.now) t (kept_words (is_among c.args.table.now.entries c.args.numbers.now)) (no_words_at rows c.args.self.now t (found_in c.args.self.now c.self.inside.tenants.entries t None c.self.view_is c.in_default.ensures.value))))

pub keep_numbers-requires : goal.keep_numbers-requires
keep_numbers-requires c =
    let here : get c.args.self.now c.args.tenant.now ≡ Some c.in-Some.own.now = found_in c.args.self.now c.self.inside.tenants.entries c.args.tenant.now (Some c.in-Some.own.now) c.self.view_is c.in-Some.ensures.value in
    let one = one_of c.args.table.now.entries c.args.self.now c.args.tenant.now c.in-Some.own.now c.requires.held here (let l = c.len-tenants.ensures in omega (arith, l, c.len-tenants.type_inv)) in
    record { one = one }

pub returns-clause-held : goal.returns-clause-held
returns-clause-held c =
    let here : get c.args.self.now c.args.tenant.now ≡ Some c.in-Some.own.now = found_in c.args.self.now c.self.inside.tenants.entries c.args.tenant.now (Some c.in-Some.own.now) c.self.view_is c.in-Some.ensures.value in
    let one = one_of c.args.table.now.entries c.args.self.now c.args.tenant.now c.in-Some.own.now c.requires.held here (let l = c.len-tenants.ensures in omega (arith, l, c.len-tenants.type_inv)) in
    let stays = (c.get_mut.follows.holds c.keep_numbers.new.own).3 (search rules) in
    let back : from_entries (c.get_mut.follows.lender c.keep_numbers.new.own).entries ≡ insert c.args.self.now c.args.tenant.now c.keep_numbers.new.own = written_back c.args.self.now c.self.inside.tenants.entries (c.get_mut.follows.lender c.keep_numbers.new.own).entries c.args.tenant.now c.keep_numbers.new.own c.self.view_is stays.0 in
    subst (λ m. AreHeld c.keep_numbers.new.table.entries m) (sym back) (held_moved c.args.table.now c.keep_numbers.new.table c.args.self.now c.args.tenant.now c.in-Some.own.now c.keep_numbers.new.own c.invariant.ensures.rows c.requires.held here c.keep_numbers.ensures.moves c.keep_numbers.ensures.one)

pub returns-clause-words : goal.returns-clause-words
returns-clause-words c =
    let here : get c.args.self.now c.args.tenant.now ≡ Some c.in-Some.own.now = found_in c.args.self.now c.self.inside.tenants.entries c.args.tenant.now (Some c.in-Some.own.now) c.self.view_is c.in-Some.ensures.value in
    let one = one_of c.args.table.now.entries c.args.self.now c.args.tenant.now c.in-Some.own.now c.requires.held here (let l = c.len-tenants.ensures in omega (arith, l, c.len-tenants.type_inv)) in
    let stays = (c.get_mut.follows.holds c.keep_numbers.new.own).3 (search rules) in
    let back : from_entries (c.get_mut.follows.lender c.keep_numbers.new.own).entries ≡ insert c.args.self.now c.args.tenant.now c.keep_numbers.new.own = written_back c.args.self.now c.self.inside.tenants.entries (c.get_mut.follows.lender c.keep_numbers.new.own).entries c.args.tenant.now c.keep_numbers.new.own c.self.view_is stays.0 in
    ap (all_words c.keep_numbers.new.table.entries) back ∙ ledger_moved c.args.table.now c.keep_numbers.new.table c.args.self.now c.args.tenant.now c.in-Some.own.now c.keep_numbers.new.own c.invariant.ensures.rows c.requires.held here c.keep_numbers.ensures.moves c.keep_numbers.ensures.one (kept_words (is_among c.args.table.now.entries c.args.numbers.now)) c.keep_numbers.ensures.words
