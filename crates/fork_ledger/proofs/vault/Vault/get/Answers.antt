use Rattle.std.proofs.Common.{ap, is_some, sym, subst, ◌∙◌}
use Rattle.std.specs.FinMap as map
use Rattle.std.proofs.lemmas.Result.{IfOk-weaker}
use Rattle.git_name.specs.Count.{fault_in}
use Rattle.fork_ledger.specs.Shown.{tenants_of}
use Rattle.fork_ledger.specs.Store.{CountsFault}
use Rattle.fork_ledger.specs.Tenants.{private_of, shape_of}
use Rattle.fork_ledger.proofs.ShownShapes.{shape_any}
use Rattle.fork_ledger.proofs.StoreLemmas.{undamaged_in}
use Rattle.fork_ledger.proofs.ToldLemmas.{read_is, seen_there, seen_whole, undamaged_whole, unseen}
use Rattle.fork_ledger.proofs.vault.Vault.get.Goals as goal

pub returns-then-not-sees-clause-found : goal.returns-then-not-sees-clause-found
returns-then-not-sees-clause-found g c = λ h.
    unseen c.self.inside.files.contents c.self.inside.holdings.ledgers c.args.tenant.now c.args.name (sym c.sees.ensures ∙ c.if-not-sees.true)
    ∙ ap (λ s. map.get (private_of s.tenants c.args.tenant.now).visible c.args.name) c.self.view_is

pub returns-then-not-sees-clause-there : goal.returns-then-not-sees-clause-there
returns-then-not-sees-clause-there g c =
    ap is_some (unseen c.self.inside.files.contents c.self.inside.holdings.ledgers c.args.tenant.now c.args.name (sym c.sees.ensures ∙ c.if-not-sees.true))
    ∙ ap (λ s. map.contains_key (private_of s.tenants c.args.tenant.now).visible c.args.name) c.self.view_is

pub returns-clause-found : goal.returns-clause-found
returns-clause-found g c = λ h.
    let was = ap (λ s. s.honest) c.self.view_is ∙ h in
    let files = c.self.inside.files.contents in
    let stands = seen_whole files c.self.inside.holdings.ledgers c.args.tenant.now c.args.name (c.self.invariant was).0.stored (sym c.sees.ensures ∙ c.if-not-sees.false) in
    IfOk-weaker c.read_and_learn.result _ _ (λ found read.
    read_is files c.args.name _ found stands read ∙ ap (λ s. map.get (private_of s.tenants c.args.tenant.now).visible c.args.name) c.self.view_is) (c.read_and_learn.ensures.whole was)

pub returns-clause-there : goal.returns-clause-there
returns-clause-there g c =
    let files = c.self.inside.files.contents in
    IfOk-weaker c.read_and_learn.result _ _ (λ found there.
    there ∙ sym (seen_there files c.self.inside.holdings.ledgers c.args.tenant.now c.args.name ∙ sym c.sees.ensures ∙ c.if-not-sees.false)
    ∙ ap (λ s. map.contains_key (private_of s.tenants c.args.tenant.now).visible c.args.name) c.self.view_is) c.read_and_learn.ensures.there

pub returns-clause-shape : goal.returns-clause-shape
returns-clause-shape g c =
    ap (λ m. shape_of (tenants_of c.read_and_learn.new.files.contents m)) c.read_and_learn.ensures.ledgers ∙ shape_any c.self.inside.files.contents c.read_and_learn.new.files.contents c.self.inside.holdings.ledgers ∙ ap (λ s. shape_of s.tenants) c.self.view_is

pub returns-clause-store : goal.returns-clause-store
returns-clause-store g c = record {
  honest = c.read_and_learn.ensures.honest ∙ ap (λ s. s.honest) c.self.view_is;
  counted = subst (λ n. CountsFault n c.read_and_learn.new.files.failures (fault_in c.read_and_learn.result)) (ap (λ s. s.failures) c.self.view_is) c.read_and_learn.ensures.cause;
  undamaged = λ h.
      let was = ap (λ s. s.honest) c.self.view_is ∙ h in
      let files = c.self.inside.files.contents in
      let stands = seen_whole files c.self.inside.holdings.ledgers c.args.tenant.now c.args.name (c.self.invariant was).0.stored (sym c.sees.ensures ∙ c.if-not-sees.false) in
      undamaged_in c.read_and_learn.result (undamaged_whole c.read_and_learn.result files c.args.name stands.0 stands.2 (c.read_and_learn.ensures.damaged was));
}
