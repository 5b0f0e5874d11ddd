use Rattle.std.proofs.Common.{◌≡◌, Ok, Some, ap, is_some, subst, sym, rules, ◌∙◌}
use Rattle.std.specs.FinMap as map
use Rattle.std.proofs.lemmas.Result.{on_ok_weaker, on_err_weaker}
use Rattle.git_name.proofs.Names.{name_total, name_exact}
use Rattle.git_name.proofs.TreeMaps.{get_of_entries}
use Rattle.git_reftx.specs.Repository.{Repository}
use Rattle.git_reftx.specs.Transaction.{transacted}
use Rattle.git_reftx.specs.Judging.{TellsTransacted}
use Rattle.fork_model.proofs.Worlds.{insert_same}
use Rattle.fork_ledger.proofs.UpdateLemmas.{found_in, written_back}
use Rattle.fork_host.proofs.UpdateLemmas.{same_value, if_err_weaker, same_head}
use Rattle.fork_host.proofs.repositories.Repositories.apply.Goals as goal

pub unreachable-requires : goal.unreachable-requires
unreachable-requires g c =
    let none = ap (λ m. map.get m c.args.name.now) (sym c.self.view_is) ∙ get_of_entries name_total c.self.inside.repositories.entries c.args.name.now ∙ sym c.in_default.ensures.value in
    let never : ⊥ = cc (sym (ap is_some none) ∙ c.requires) in
    never

pub returns-clause-ok : goal.returns-clause-ok
returns-clause-ok g c =
    let stays = (c.get_mut.follows.holds c.apply.new.self).3 (search rules) in
    let entries = c.self.inside.repositories.entries in
    let here = found_in c.args.self.now entries c.args.name.now (Some c.in-Some.repository.now) c.self.view_is c.in-Some.ensures.value in
    let new_is = written_back c.args.self.now entries (c.get_mut.follows.lender c.apply.new.self).entries c.args.name.now c.apply.new.self c.self.view_is stays.0 in
    on_ok_weaker c.apply.result (λ done old is. (
      c.apply.new.self.references,
      subst (λ (r : Repository). transacted r.references c.args.commands.now (g.K.Known.kinds c.args.known.now) ≡ Ok c.apply.new.self.references) (same_value _ _ _ here is) done,
      new_is ∙ ap (map.insert c.args.self.now c.args.name.now) (same_head old c.apply.new.self (c.apply.ensures.head ∙ ap (λ (r : Repository). r.head) (same_value _ _ _ here is))),
    )) c.apply.ensures.ok

pub returns-clause-err : goal.returns-clause-err
returns-clause-err g c =
    let stays = (c.get_mut.follows.holds c.apply.new.self).3 (search rules) in
    let entries = c.self.inside.repositories.entries in
    let here = found_in c.args.self.now entries c.args.name.now (Some c.in-Some.repository.now) c.self.view_is c.in-Some.ensures.value in
    let new_is = written_back c.args.self.now entries (c.get_mut.follows.lender c.apply.new.self).entries c.args.name.now c.apply.new.self c.self.view_is stays.0 in
    on_err_weaker c.apply.result (λ same. new_is ∙ ap (map.insert c.args.self.now c.args.name.now) same ∙ insert_same name_total name_exact c.args.self.now c.args.name.now c.in-Some.repository.now here) c.apply.ensures.err

pub returns-clause-cause : goal.returns-clause-cause
returns-clause-cause g c =
    let here = found_in c.args.self.now c.self.inside.repositories.entries c.args.name.now (Some c.in-Some.repository.now) c.self.view_is c.in-Some.ensures.value in
    if_err_weaker c.apply.result (λ error told old is. subst (λ (r : Repository). TellsTransacted (transacted r.references c.args.commands.now (g.K.Known.kinds c.args.known.now)) error) (same_value _ _ _ here is) told) c.apply.ensures.cause
