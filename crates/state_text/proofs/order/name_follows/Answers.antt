use Rattle.std.proofs.Common.{refl, sym, ◌∙◌, subst}
use Rattle.state_text.specs.Adding.{AreBefore}
use Rattle.state_text.specs.States.{Ascend}
use Rattle.state_text.proofs.BehindLemmas.{follows_all, map_same}
use Rattle.state_text.proofs.order.name_follows.Goals as goal

pub returns : goal.returns
returns c =
    let names = c.args.names.now in (
      λ so. subst (λ ns. AreBefore ns c.args.name.now) (map_same names)
          (follows_all (λ n. n) names c.in-Some.last.now c.args.name.now (subst Ascend (sym (map_same names)) c.requires) (sym c.in-Some.ensures.value) (sym c.cmp.ensures ∙ c.in-Less.is)),
      λ all. refl,
    )
