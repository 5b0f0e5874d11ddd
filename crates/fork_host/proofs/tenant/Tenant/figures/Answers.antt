use Rattle.std.proofs.Common.{◌≡◌, ◌∷◌, [], ap, sym, ◌∙◌, rules}
use Rattle.std.specs.FinMap.{len}
use Rattle.fork_model.specs.Figures.{references_in}
use Rattle.fork_reach.specs.Objects.{use_of}
use Rattle.fork_ledger.specs.Tenants.{private_of}
use Rattle.fork_host.specs.Own.{visible_in}
use Rattle.fork_host.specs.Shown.{Account, shown}
use Rattle.fork_host.proofs.MadeLemmas.{len_shown}
use Rattle.fork_host.proofs.tenant.Tenant.figures.Goals as goal

pub returns : goal.returns
returns g c =
    let view = shown c.args.self.now c.args.vault.now c.args.name.now in
    let used : c.used.result ≡ use_of view.objects = search rules in
    let limit : c.self.inside.limit ≡ view.limit = ap (λ (a : Account). a.limit) c.self.view_is in
    let repositories : c.len-repositories.result ≡ len view.repositories = c.len-repositories.ensures ∙ ap (λ (a : Account). len a.repositories) c.self.view_is in
    let references : c.reference_count.result ≡ references_in view.repositories = c.reference_count.ensures ∙ ap (λ (a : Account). references_in a.repositories) c.self.view_is in
    let offers : c.len-offers.result ≡ len view.made = c.len-offers.ensures ∙ ap (λ (a : Account). len a.made) c.self.view_is ∙ sym (len_shown (visible_in c.args.vault.now c.args.name.now) c.args.self.now.made) in
    λ i. used i ∷ limit i ∷ repositories i ∷ references i ∷ c.seen_count.ensures i ∷ c.uploaded.ensures (private_of c.args.vault.now.tenants c.args.name.now) i ∷ offers i ∷ []
