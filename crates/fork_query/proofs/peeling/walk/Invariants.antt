use Rattle.std.proofs.Common.{◌≡◌, ℕ, List, None, true, IsTrue}
use Rattle.std.specs.BTreeSet.{contains}
use Rattle.git_name.specs.Name.{name_cmp}
use Rattle.fork_reach.specs.Faults.{IsAsked}
use Rattle.fork_reach.specs.Objects.{measures_of}
use Rattle.fork_reach.specs.Seeing.{unseen}
use Rattle.fork_query.specs.Peel.{peeled}
use Rattle.fork_query.proofs.PeelLemmas.{IsNearer}
use Rattle.fork_query.proofs.peeling.walk.Given as goal

-- the source was asked without a fault; the name so far stands for the same, and is nearer to its end than each
-- tag so far; these stand for the same too
abbrev pub invariant-tags : goal.invariant-tags
invariant-tags g l =
    let old = g.S.Source.state l.fn.source in
    record {
      asked : IsAsked old (g.S.Source.state l.source) None;
      same : IsTrue old.honest → peeled old.objects l.at ≡ peeled old.objects l.fn.name;
      nearer : IsTrue old.honest → (far : List ℕ) → contains name_cmp l.tags far ≡ true → IsNearer old.objects l.at far;
      alike : IsTrue old.honest → (far : List ℕ) → contains name_cmp l.tags far ≡ true → peeled old.objects far ≡ peeled old.objects l.fn.name;
    }

-- the objects that are not seen
abbrev pub decreases-tags : goal.decreases-tags
decreases-tags g l = unseen (measures_of (g.S.Source.state l.fn.source).objects) (contains name_cmp l.tags)
