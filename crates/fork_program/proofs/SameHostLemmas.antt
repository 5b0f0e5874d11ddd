-- A host of which nothing changed, but what may be undone of its store.
use Rattle.std.proofs.Common.{sym, subst}
use Rattle.fork_host.specs.Shape.{SameShape}
use Rattle.fork_host.specs.Shown.{HostState, IsSameHost, world_of}
use Rattle.fork_host.proofs.SameHostLemmas.{same_trust, same_world}
use Rattle.fork_program.specs.Keeping.{IsSaved}
use Rattle.fork_program.proofs.HostingLemmas.{unsaved}

-- it is saved as it was
pub same_saved : (old new : HostState) → IsSameHost old new → IsSaved old new
same_saved old new same = record {
  shape = λ tenant. subst (λ w. SameShape tenant (world_of old) w) (sym (same_world old new same)) ((unsaved old).shape tenant);
  trusted = same_trust old new same;
  shows = λ _. same_world old new same;
}
