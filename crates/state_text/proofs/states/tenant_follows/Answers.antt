use Rattle.std.proofs.Common.{refl, sym, ◌∙◌, ap}
use Rattle.git_name.specs.Name.{name_cmp}
use Rattle.state_text.proofs.BehindLemmas.{follows_all}
use Rattle.state_text.proofs.states.tenant_follows.Goals as goal

pub returns : goal.returns
returns c =
    (λ so. follows_all (λ t. t.name) c.args.tenants.now c.in-Some.last.now c.args.name.now c.requires (sym c.in-Some.ensures.value) (ap (λ n. name_cmp n c.args.name.now) (sym c.name.ensures.name) ∙ sym c.cmp.ensures ∙ c.in-Less.is), λ all. refl)
