use Rattle.std.proofs.Common.{Some, ap, is_some, sym, rules, ◌∙◌}
use Rattle.std.specs.FinMap as map
use Rattle.git_name.proofs.Names.{name_total}
use Rattle.git_name.proofs.TreeMaps.{get_of_entries}
use Rattle.git_reftx.specs.Repository.{Repository}
use Rattle.fork_ledger.proofs.UpdateLemmas.{found_in, written_back}
use Rattle.fork_host.proofs.UpdateLemmas.{same_value}
use Rattle.fork_host.proofs.repositories.Repositories.set_head.Goals as goal

pub unreachable-requires : goal.unreachable-requires
unreachable-requires c =
    let none = ap (λ m. map.get m c.args.name.now) (sym c.self.view_is) ∙ get_of_entries name_total c.self.inside.repositories.entries c.args.name.now ∙ sym c.in_default.ensures.value in
    let never : ⊥ = cc (sym (ap is_some none) ∙ c.requires) in
    never

pub returns : goal.returns
returns c old is =
    let stays = (c.get_mut.follows.holds c.set_head.new.self).3 (search rules) in
    let entries = c.self.inside.repositories.entries in
    let here = found_in c.args.self.now entries c.args.name.now (Some c.in-Some.repository.now) c.self.view_is c.in-Some.ensures.value in
    let new_is = written_back c.args.self.now entries (c.get_mut.follows.lender c.set_head.new.self).entries c.args.name.now c.set_head.new.self c.self.view_is stays.0 in
    new_is ∙ ap (map.insert c.args.self.now c.args.name.now) (c.set_head.ensures ∙ ap (λ (r : Repository). record r { head = c.args.head }) (same_value _ _ _ here is))
