-- What is known of tags that were followed, as one more is noted.
use Rattle.std.proofs.Common.{◌≡◌, ℕ, Bool, true, false, cond, List, Option, Some, refl, sym, ap, subst, ◌∙◌}
use Rattle.std.specs.Prelude.{IfSome}
use Rattle.std.specs.Ordering.{eq_by_cmp}
use Rattle.std.specs.FinMap.{empty, get, get-empty, get-insert, insert}
use Rattle.git_name.specs.Name.{name_cmp}
use Rattle.git_name.proofs.Names.{name_total}
use Rattle.fork_reach.specs.Source.{Objects}
use Rattle.fork_reach.proofs.KeptObjects.{tied_names}
use Rattle.fork_query.specs.Followed.{AreEnds, TagEnds}
use Rattle.fork_query.specs.Peel.{peeled}

-- nothing is known at first
pub none_followed : (objects : Objects) → AreEnds objects empty
none_followed objects tag = subst (λ found. IfSome found (λ end. end ≡ peeled objects tag)) (sym (get-empty name_cmp tag)) tt

-- one more tag, under which stands what it stands for
pub one_followed : (objects : Objects) (ends : TagEnds) (tag : List ℕ) (end : Option (List ℕ)) → AreEnds objects ends → end ≡ peeled objects tag → AreEnds objects (insert ends tag end)
one_followed objects ends tag end are is other =
    subst (λ found. IfSome found (λ e. e ≡ peeled objects other)) (sym (get-insert name_total ends tag end other)) (by (eq_by_cmp name_cmp other tag) refl)
  where
    by : (same : Bool) → eq_by_cmp name_cmp other tag ≡ same → IfSome (cond same (Some end) (get ends other)) (λ e. e ≡ peeled objects other)
    by true equal = is ∙ ap (peeled objects) (sym (tied_names other tag equal))
    by false differs = are other
