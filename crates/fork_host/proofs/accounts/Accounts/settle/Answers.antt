use Rattle.std.proofs.Common.{◌≡◌, None, Some, rules, ap, sym, ◌∙◌}
use Rattle.std.specs.Option.{unwrap_or}
use Rattle.std.specs.FinMap as map
use Rattle.fork_ledger.proofs.UpdateLemmas.{found_in, written_back}
use Rattle.fork_host.specs.Shown.{Account}
use Rattle.fork_host.proofs.accounts.Accounts.settle.Goals as goal

pub returns-in_default : goal.returns-in_default
returns-in_default c account here =
    let none = found_in c.args.self.now c.self.inside.tenants.entries c.args.name.now None c.self.view_is c.in_default.ensures.value in
    absurd (cc (sym none ∙ here))

pub returns : goal.returns
returns c account here =
    let stays = (c.get_mut.follows.holds c.settle.new.self).3 (search rules) in
    let entries = c.self.inside.tenants.entries in
    let found = found_in c.args.self.now entries c.args.name.now (Some c.in-Some.tenant.now) c.self.view_is c.in-Some.ensures.value in
    let same : c.in-Some.tenant.now ≡ account = ap (λ o. unwrap_or o account) (sym found ∙ here) in
    written_back c.args.self.now entries (c.get_mut.follows.lender c.settle.new.self).entries c.args.name.now c.settle.new.self c.self.view_is stays.0
    ∙ ap (map.insert c.args.self.now c.args.name.now) (c.settle.ensures ∙ ap (λ (a : Account). record a { repositories = c.args.repositories; made = c.args.made }) same)
