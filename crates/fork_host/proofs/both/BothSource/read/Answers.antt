use Rattle.std.proofs.Common.{◌≡◌, ap, is_some, sym, ◌∙◌}
use Rattle.std.specs.FinMap as map
use Rattle.fork_ledger.specs.Private.{both_of}
use Rattle.fork_ledger.specs.Tenants.{private_of}
use Rattle.fork_ledger.proofs.BothLemmas.{same_both, same_measures}
use Rattle.fork_ledger.proofs.HeldLemmas.{both_seen, both_staged}
use Rattle.fork_host.proofs.ReadLemmas.{if_told, told_counts, told_undamaged}
use Rattle.fork_host.proofs.both.BothSource.read.Goals as goal

pub returns-then-held-clause-found : goal.returns-then-held-clause-found
returns-then-held-clause-found g c honest =
    let own = private_of c.args.self.now.vault.now.tenants c.args.self.now.tenant.now in
    let seen = both_seen own c.args.name c.in-Some.held (sym c.in-Some.ensures) c.if-held.true in
    if_told (λ found. found ≡ map.get own.visible c.args.name) (λ found. found ≡ map.get (both_of own) c.args.name) (λ found is. is ∙ sym seen) c.get.result c.told.result c.told.ensures (c.get.ensures.found honest)

pub returns-then-held-clause-there : goal.returns-then-held-clause-there
returns-then-held-clause-there g c =
    let own = private_of c.args.self.now.vault.now.tenants c.args.self.now.tenant.now in
    let seen = both_seen own c.args.name c.in-Some.held (sym c.in-Some.ensures) c.if-held.true in
    if_told (λ found. is_some found ≡ map.contains_key own.visible c.args.name) (λ found. is_some found ≡ map.contains_key (both_of own) c.args.name) (λ found is. is ∙ sym (ap is_some seen)) c.get.result c.told.result c.told.ensures c.get.ensures.there

pub returns-then-held-clause-asked : goal.returns-then-held-clause-asked
returns-then-held-clause-asked g c =
    let old = c.args.self.now in
    let told = c.get.ensures in
    record {
      measures = same_both _ _ (same_measures old.vault.now.tenants c.get.new.self.tenants old.tenant.now told.shape);
      honest = told.store.honest;
      base = λ i. ((old.vault.ghost_name, old.tenant), told.shape i, told.places i);
      counted = told_counts c.get.result c.told.result old.vault.now.failures c.get.new.self.failures c.told.ensures told.store.counted;
      objects = λ honest. ap (λ m. both_of (private_of m old.tenant.now)) (told.kept honest);
      rest = λ honest i. (told.kept honest i, told.files honest i);
      undamaged = λ honest. told_undamaged c.get.result c.told.result c.told.ensures told.apart (told.store.undamaged honest);
    }

pub returns-clause-found : goal.returns-clause-found
returns-clause-found g c honest =
    let own = private_of c.args.self.now.vault.now.tenants c.args.self.now.tenant.now in
    let waits = both_staged own c.args.name c.in-Some.held (sym c.in-Some.ensures) c.if-held.false in
    if_told (λ found. found ≡ map.get own.staged c.args.name) (λ found. found ≡ map.get (both_of own) c.args.name) (λ found is. is ∙ sym waits) c.get_staged.result c.told-2.result c.told-2.ensures (c.get_staged.ensures.found honest)

pub returns-clause-there : goal.returns-clause-there
returns-clause-there g c =
    let own = private_of c.args.self.now.vault.now.tenants c.args.self.now.tenant.now in
    let waits = both_staged own c.args.name c.in-Some.held (sym c.in-Some.ensures) c.if-held.false in
    if_told (λ found. is_some found ≡ map.contains_key own.staged c.args.name) (λ found. is_some found ≡ map.contains_key (both_of own) c.args.name) (λ found is. is ∙ sym (ap is_some waits)) c.get_staged.result c.told-2.result c.told-2.ensures c.get_staged.ensures.there

pub returns-clause-asked : goal.returns-clause-asked
returns-clause-asked g c =
    let old = c.args.self.now in
    let told = c.get_staged.ensures in
    record {
      measures = same_both _ _ (same_measures old.vault.now.tenants c.get_staged.new.self.tenants old.tenant.now told.shape);
      honest = told.store.honest;
      base = λ i. ((old.vault.ghost_name, old.tenant), told.shape i, told.places i);
      counted = told_counts c.get_staged.result c.told-2.result old.vault.now.failures c.get_staged.new.self.failures c.told-2.ensures told.store.counted;
      objects = λ honest. ap (λ m. both_of (private_of m old.tenant.now)) (told.kept honest);
      rest = λ honest i. (told.kept honest i, told.files honest i);
      undamaged = λ honest. told_undamaged c.get_staged.result c.told-2.result c.told-2.ensures told.apart (told.store.undamaged honest);
    }
