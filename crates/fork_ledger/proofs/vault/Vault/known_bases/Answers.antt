use Rattle.std.proofs.Common.{◌≡◌, List, ℕ, true, ap, subst, ◌∙◌}
use Rattle.std.specs.Prelude.{IfOk, IfSome}
use Rattle.std.specs.FinMap.{contains_key}
use Rattle.std.specs.HashSet.{contains}
use Rattle.git_name.specs.Same.{same_name}
use Rattle.fork_reach.specs.Bases.{is_best_of}
use Rattle.fork_ledger.specs.Tenants.{VaultState, private_of}
use Rattle.fork_ledger.proofs.BaseLemmas.{best_is, best_there}
use Rattle.fork_ledger.proofs.BetweenLemmas.{told_each}
use Rattle.fork_ledger.proofs.vault.Vault.known_bases.Goals as goal

pub returns-clause-best : goal.returns-clause-best
returns-clause-best g c = λ h.
    let was = ap (λ s. s.honest) c.self.view_is ∙ h in
    let files = c.self.inside.files.contents in
    let m = c.self.inside.holdings.ledgers in
    let t = c.args.tenant.now in
    let links = c.self.inside.holdings.links in
    let kept = c.self.invariant was in
    subst (λ (s : VaultState). IfOk c.bases.result (λ known. IfSome known (λ best. (name : List ℕ) → contains same_name best name ≡ is_best_of (private_of s.tenants t).visible c.args.a c.args.b name))) c.self.view_is
    (told_each _ _ _ _ c.bases.result (λ found only all known name. best_is files m t links kept.0.stored kept.1 c.args.a c.args.b known name (contains same_name found name) (only name) (all name)) c.bases.ensures.only c.bases.ensures.all c.bases.ensures.known)

pub returns-clause-seen : goal.returns-clause-seen
returns-clause-seen g c =
    let files = c.self.inside.files.contents in
    let m = c.self.inside.holdings.ledgers in
    let t = c.args.tenant.now in
    let links = c.self.inside.holdings.links in
    subst (λ (s : VaultState). IfOk c.bases.result (λ known. IfSome known (λ best. (name : List ℕ) → contains same_name best name ≡ true → contains_key (private_of s.tenants t).visible name ≡ true))) c.self.view_is
    (told_each _ _ _ _ c.bases.result (λ found only all known name is. best_there files m t links c.args.a c.args.b name (only name is)) c.bases.ensures.only c.bases.ensures.all c.bases.ensures.known)
