-- One tenant's part in a step of a world, and a run that continues by one step.
use Rattle.std.proofs.Common.{◌≡◌, Bool, true, false, cond, List, [], ◌∷◌, ◌++◌, Some, refl, sym, ap, subst, ◌∙◌}
use Rattle.std.specs.declared.cmp.Ordering.{Ordering}
use Rattle.std.specs.declared.cmp.Ordering.TheVariants.{Less, Equal, Greater}
use Rattle.std.specs.Ordering.{eq_by_cmp, is_eq}
use Rattle.std.specs.Cmp.{IsTotalOrder}
use Rattle.std.specs.FinMap.{FinMap, IsAntisymmetric, get, insert, get-insert, get_tied, same_map}
use Rattle.fork_model.specs.Runs.{Event, Answers, Told, Failed, TenantStep, Answered, Faulted, Steps, Explains}

is_equal : (r : Ordering) → is_eq r ≡ true → r ≡ Equal
is_equal Less h = cc
is_equal Equal h = refl
is_equal Greater h = cc

module _ {K X : Type 0} {R : K → K → Ordering} (total : IsTotalOrder R) (exact : IsAntisymmetric R) where
  -- setting the value that is already there changes nothing
  pub insert_same : (m : FinMap R X) (k : K) (v : X) → get m k ≡ Some v → insert m k v ≡ m
  insert_same m k v here = same_map total exact _ _ (λ q. get-insert total m k v q ∙ at q (eq_by_cmp R q k) refl)
    where
      at : (q : K) (b : Bool) → eq_by_cmp R q k ≡ b → cond b (Some v) (get m q) ≡ get m q
      at q true e = sym here ∙ get_tied total m q k (is_equal _ e)
      at q false e = refl

module _ {Tenant View Context Ask HostAsk Reply : Type 0} (cmp : Tenant → Tenant → Ordering) (total : IsTotalOrder cmp) (exact : IsAntisymmetric cmp) (meets : FinMap cmp View → Tenant → Context) (answer : Context → View → Ask → Reply × View) (unknown : Reply) (is_fault : Reply → Bool) (HostSays : FinMap cmp View → HostAsk → Reply → Type 0) where
  -- a tenant that is answered from its view, and whose view is the only one that is set, makes a step
  pub answered : (old new : FinMap cmp View) (t : Tenant) (ask : Ask) (view : View) (reply : Reply) (view' : View) → get old t ≡ Some view → Answers answer is_fault (meets old t) view ask reply view' → new ≡ insert old t view' → TenantStep cmp meets answer unknown is_fault old t ask reply new
  answered old new t ask view reply view' here (Told told is) set = Answered view here told (set ∙ ap (insert old t) is)
  answered old new t ask view reply view' here (Failed bad stays) set = Faulted bad (set ∙ (ap (insert old t) stays ∙ insert_same total exact old t view here))

  -- a run goes on by one step
  pub explains_more : (old mid new : FinMap cmp View) (steps : List (Event Tenant Ask HostAsk)) (replies : List Reply) (step : Event Tenant Ask HostAsk) (reply : Reply) → Explains cmp meets answer unknown is_fault HostSays old steps replies mid → Steps cmp meets answer unknown is_fault HostSays mid step reply new → Explains cmp meets answer unknown is_fault HostSays old (steps ++ step ∷ []) (replies ++ reply ∷ []) new
  explains_more old mid new [] [] step reply run more = (new, subst (λ w. Steps cmp meets answer unknown is_fault HostSays w step reply new) run more, refl)
  explains_more old mid new [] (r ∷ replies) step reply run more = absurd run
  explains_more old mid new (e ∷ steps) [] step reply run more = absurd run
  explains_more old mid new (e ∷ steps) (r ∷ replies) step reply run more = (run.0, run.1, explains_more run.0 mid new steps replies step reply run.2 more)
