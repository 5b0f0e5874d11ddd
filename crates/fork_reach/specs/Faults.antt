-- What a call leaves of a source, and which faults it may have (own).
use Rattle.std.specs.Prelude.{◌≡◌, ◌≢◌, ℕ, IsTrue, Option, None, Some}
use Rattle.git_name.specs.Count.{Rises}
use Rattle.fork_reach.specs.declared.source.SourceFault.{SourceFault}
use Rattle.fork_reach.specs.declared.source.SourceFault.TheVariants.{Store, Damaged, Memory}
use Rattle.fork_reach.specs.Objects.{measures_of}
use Rattle.fork_reach.specs.Source.{SourceState}

-- failures of the store are counted, and no other faults
abbrev pub CountsFault : ℕ → ℕ → Option SourceFault → Type 0
CountsFault before now None = now ≡ before
CountsFault before now (Some Store) = Rises before now
CountsFault before now (Some Damaged) = now ≡ before
CountsFault before now (Some Memory) = now ≡ before

-- what a call leaves of a source, and which faults it may have
pub record IsAsked {Base Rest : Type 0} (old new : SourceState Base Rest) (fault : Option SourceFault) : Type 0 where
  pub measures : measures_of new.objects ≡ measures_of old.objects
  pub honest : new.honest ≡ old.honest
  pub base : new.base ≡ old.base
  pub counted : CountsFault old.failures new.failures fault
  pub objects : IsTrue old.honest → new.objects ≡ old.objects
  pub rest : IsTrue old.honest → new.rest ≡ old.rest
  pub undamaged : IsTrue old.honest → fault ≢ Some Damaged
