-- A source that is asked, and asked again.
use Rattle.std.proofs.Common.{◌≡◌, ℕ, IsTrue, Option, None, refl, sym, subst, ◌∙◌}
use Rattle.fork_reach.specs.declared.source.SourceFault.{SourceFault}
use Rattle.fork_reach.specs.Faults.{CountsFault, IsAsked}
use Rattle.fork_reach.specs.Source.{SourceState}

-- a source of which nothing was asked
pub not_asked : {Base Rest : Type 0} (state : SourceState Base Rest) → IsAsked state state None
not_asked state = record {
  measures = refl;
  honest = refl;
  base = refl;
  counted = refl;
  objects = λ honest. refl;
  rest = λ honest. refl;
  undamaged = λ honest is. absurd (cc);
}

counted_from : (old mid new : ℕ) (fault : Option SourceFault) → mid ≡ old → CountsFault mid new fault → CountsFault old new fault
counted_from old mid new fault same counted = subst (λ n. CountsFault n new fault) same counted

-- one that was asked without a fault, and then again
pub asked_again : {Base Rest : Type 0} (old mid new : SourceState Base Rest) (fault : Option SourceFault) → IsAsked old mid None → IsAsked mid new fault → IsAsked old new fault
asked_again old mid new fault first then = record {
  measures = then.measures ∙ first.measures;
  honest = then.honest ∙ first.honest;
  base = then.base ∙ first.base;
  counted = counted_from old.failures mid.failures new.failures fault first.counted then.counted;
  objects = λ honest. then.objects (subst IsTrue (sym first.honest) honest) ∙ first.objects honest;
  rest = λ honest. then.rest (subst IsTrue (sym first.honest) honest) ∙ first.rest honest;
  undamaged = λ honest. then.undamaged (subst IsTrue (sym first.honest) honest);
}
