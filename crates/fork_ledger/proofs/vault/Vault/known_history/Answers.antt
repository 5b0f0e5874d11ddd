use Rattle.std.proofs.Common.{◌≡◌, ◌⊎◌, List, ℕ, Result, Option, true, false, sym, ap, subst, ◌∙◌}
use Rattle.std.specs.Prelude.{Contains, IfOk, IfSome}
use Rattle.std.specs.FinMap.{contains_key, get}
use Rattle.std.specs.HashSet.{contains}
use Rattle.std.specs.Option.{option_map_or}
use Rattle.git_name.specs.Same.{same_name}
use Rattle.fork_reach.specs.Reach.{is_between, parent_names}
use Rattle.number_links.specs.declared.along.Along.TheVariants.{Parents}
use Rattle.object_table.specs.declared.word.Word.{Word}
use Rattle.object_table.specs.Links.{leads_nowhere}
use Rattle.object_table.specs.Walked.{IsBetween, IsMet}
use Rattle.fork_ledger.specs.Tenants.{VaultState, private_of}
use Rattle.fork_ledger.proofs.BetweenLemmas.{Seen, Shown, between_is, between_there, told_each}
use Rattle.fork_ledger.proofs.vault.Vault.known_history.Goals as goal

pub returns-clause-found : goal.returns-clause-found
returns-clause-found g c = λ h.
    let was = ap (λ s. s.honest) c.self.view_is ∙ h in
    let files = c.self.inside.files.contents in
    let m = c.self.inside.holdings.ledgers in
    let t = c.args.tenant.now in
    let links = c.self.inside.holdings.links in
    let kept = c.self.invariant was in
    subst (λ (s : VaultState). IfOk c.history.result (λ known. IfSome known (λ found. (name : List ℕ) → contains same_name found name ≡ is_between (parent_names (private_of s.tenants t).visible) (private_of s.tenants t).visible c.args.wanted.now c.args.excluded.now name))) c.self.view_is
    (told_each _ _ _ _ c.history.result (λ found only all known name. between_is files m t links Parents kept.0.stored kept.1 c.args.wanted.now c.args.excluded.now known name (contains same_name found name) (only name) (all name)) c.history.ensures.only c.history.ensures.all c.history.ensures.known)

pub returns-clause-there : goal.returns-clause-there
returns-clause-there g c =
    let files = c.self.inside.files.contents in
    let m = c.self.inside.holdings.ledgers in
    let t = c.args.tenant.now in
    let links = c.self.inside.holdings.links in
    subst (λ (s : VaultState). IfOk c.history.result (λ known. IfSome known (λ found. (name : List ℕ) → contains same_name found name ≡ true → contains_key (private_of s.tenants t).visible name ≡ true))) c.self.view_is
    (told_each _ _ _ _ c.history.result (λ found only all known name is. between_there files m t links Parents c.args.wanted.now c.args.excluded.now name (only name is)) c.history.ensures.only c.history.ensures.all c.history.ensures.known)
