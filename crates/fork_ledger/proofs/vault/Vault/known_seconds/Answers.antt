use Rattle.std.proofs.Common.{◌≡◌, ◌∙◌, ◌-◌, true, ap, sym}
use Rattle.std.specs.FinMap.{contains_key, get}
use Rattle.fork_reach.specs.History.{note_at}
use Rattle.number_links.specs.declared.along.Along.TheVariants.{Links}
use Rattle.fork_ledger.specs.Tenants.{VaultState, private_of}
use Rattle.fork_ledger.proofs.BetweenLemmas.{Seen, same_keys, seconds_is, seen_word, timed}
use Rattle.fork_ledger.proofs.vault.Vault.known_seconds.Goals as goal

pub returns-clause-told : goal.returns-clause-told
returns-clause-told g c = λ h.
    let was = ap (λ s. s.honest) c.self.view_is ∙ h in
    let files = c.self.inside.files.contents in
    let m = c.self.inside.holdings.ledgers in
    let t = c.args.tenant.now in
    let links = c.self.inside.holdings.links in
    let kept = c.self.invariant was in
    let one = timed (get links c.args.name) c.in-Some.time (sym c.in-Some.is ∙ c.time.ensures) in
    let there : contains_key (Seen m t) c.args.name ≡ true = seen_word m t c.args.name ∙ sym c.sees-is_seen.ensures ∙ c.if-not-is_seen.false in
    c.saturating_sub.ensures ∙ ap (λ n. n - 1) (sym one.2) ∙ seconds_is files m t links Links kept.0.stored kept.1 c.args.name one.0 there one.1
    ∙ ap (λ (s : VaultState). (note_at (private_of s.tenants t).visible c.args.name).seconds) c.self.view_is

pub returns-clause-there : goal.returns-clause-there
returns-clause-there g c =
    let m = c.self.inside.holdings.ledgers in
    let t = c.args.tenant.now in
    ap (λ (s : VaultState). contains_key (private_of s.tenants t).visible c.args.name) (sym c.self.view_is)
    ∙ sym (same_keys c.self.inside.files.contents m t c.args.name) ∙ seen_word m t c.args.name ∙ sym c.sees-is_seen.ensures ∙ c.if-not-is_seen.false
