use Rattle.fork_ledger.specs.AllStaged.{with_all_staged}
use Rattle.fork_host.specs.Own.{MadeBy}
use Rattle.fork_host.proofs.BoundLemmas.{bounded_result}
use Rattle.fork_host.proofs.OwnLemmas.{made_err, made_ok, own_either}
use Rattle.fork_host.proofs.staging.stage_all.Goals as goal

pub returns-clause-ok : goal.returns-clause-ok
returns-clause-ok g c =
    let told = c.stage_all.ensures in
    made_ok c.stage_all.result c.args.own.now.vault.now c.stage_all.new.self.vault.now c.args.own.now.tenant.now (with_all_staged c.args.sent.items) c.requires.there told.shape told.ok told.store.honest

pub returns-clause-err : goal.returns-clause-err
returns-clause-err g c =
    let told = c.stage_all.ensures in
    made_err c.stage_all.result c.args.own.now.vault.now c.stage_all.new.self.vault.now c.args.own.now.tenant.now told.kept told.err told.store.honest

pub returns-clause-own : goal.returns-clause-own
returns-clause-own g c =
    let old = c.args.own.now.vault.now in
    let tenant = c.args.own.now.tenant.now in
    let new = c.stage_all.new.self.vault.now in
    let told = c.stage_all.ensures in
    own_either (MadeBy (with_all_staged c.args.sent.items)) (MadeBy (λ p. p)) c.stage_all.result old new tenant
    (made_ok c.stage_all.result old new tenant (with_all_staged c.args.sent.items) c.requires.there told.shape told.ok told.store.honest)
    (made_err c.stage_all.result old new tenant told.kept told.err told.store.honest)

pub returns-clause-bounds : goal.returns-clause-bounds
returns-clause-bounds g c =
    let told = c.stage_all.ensures in
    bounded_result c.stage_all.result c.args.sent.items c.args.own.now.vault.now c.stage_all.new.self.vault.now told.store told.collision told.still
