-- Runs are private, whatever the answers are.
use Rattle.std.proofs.Common.{◌≡◌, Bool, true, false, cond, List, [], ◌∷◌, Option, Some, None, refl, sym, ap, subst, ◌∙◌}
use Rattle.std.specs.Prelude.{⊤}
use Rattle.std.specs.declared.cmp.Ordering.{Ordering}
use Rattle.std.specs.declared.cmp.Ordering.TheVariants.{Less, Equal, Greater}
use Rattle.std.specs.Ordering.{eq_by_cmp, is_eq}
use Rattle.std.specs.Cmp.{IsTotalOrder}
use Rattle.std.specs.FinMap.{FinMap, IsAntisymmetric, get, get-insert, get_tied, insert}
use Rattle.fork_model.specs.Runs.{Event, Asks, HostAsks, own, told, alone, TenantStep, Answered, Unknown, Faulted, OwnStep, HostAnswered, HostFaulted, Steps, Explains, AreFine, meeting, met}

one_value : {X : Type 0} (o : Option X) (x y : X) → o ≡ Some x → o ≡ Some y → x ≡ y
one_value o x y is other = cc

no_value : {X : Type 0} (o : Option X) (x : X) → o ≡ None → o ≡ Some x → ⊥
no_value o x none is = cc

both_ways : (b : Bool) → b ≡ true → b ≡ false → ⊥
both_ways b is other = cc

is_equal : (r : Ordering) → is_eq r ≡ true → r ≡ Equal
is_equal Less h = cc
is_equal Equal h = refl
is_equal Greater h = cc

module _ {View Context Ask Reply : Type 0} (answer : Context → View → Ask → Reply × View) (unknown : Reply) where
  -- one answer to a tenant that the world may lack
  abbrev pub seen_once : Option View → Context × Ask → Reply × Option View
  seen_once None met = (unknown, None)
  seen_once (Some view) met = ((answer met.0 view met.1).0, Some (answer met.0 view met.1).1)

  -- the replies to such a tenant, and its view in the end
  abbrev pub seen : Option View → List (Context × Ask) → List Reply × Option View
  seen o [] = ([], o)
  seen o (met ∷ more) =
      let rest = seen (seen_once o met).1 more in
      ((seen_once o met).0 ∷ rest.0, rest.1)

  pub seen-alone : (view : View) (asked : List (Context × Ask)) → seen (Some view) asked ≡ ((alone answer view asked).0, Some (alone answer view asked).1)
  seen-alone view [] = refl
  seen-alone view (met ∷ more) = ap (λ (p : List Reply × Option View). ((answer met.0 view met.1).0 ∷ p.0, p.1)) (seen-alone (answer met.0 view met.1).1 more)

-- the replies and the last view are those of a host of its own
abbrev pub IsPrivate : {View Context Ask Reply : Type 0} (answer : Context → View → Ask → Reply × View) (unknown : Reply) → Option View → List (Context × Ask) → List Reply → Option View → Type 0
IsPrivate answer unknown o asked replies last = (replies ≡ (seen answer unknown o asked).0) × (last ≡ (seen answer unknown o asked).1)

module _ {Tenant View Context Ask HostAsk Reply : Type 0} (cmp : Tenant → Tenant → Ordering) (total : IsTotalOrder cmp) (meets : FinMap cmp View → Tenant → Context) (answer : Context → View → Ask → Reply × View) (unknown : Reply) (is_fault : Reply → Bool) (HostSays : FinMap cmp View → HostAsk → Reply → Type 0) where
  pub tied : (w : FinMap cmp View) (t u : Tenant) → eq_by_cmp cmp t u ≡ true → get w t ≡ get w u
  tied w t u same = sym (get_tied total w t u (is_equal _ same))

  -- the reply of a step without a host fault to its own tenant, and the view that it leaves
  own_step : (old new : FinMap cmp View) (t u : Tenant) (ask : Ask) (reply : Reply) → eq_by_cmp cmp t u ≡ true → is_fault reply ≡ false → TenantStep cmp meets answer unknown is_fault old u ask reply new → (reply ≡ (seen_once answer unknown (get old t) (meets old u, ask)).0) × (get new t ≡ (seen_once answer unknown (get old t) (meets old u, ask)).1)
  own_step old new t u ask reply same fine (Answered view here told set) =
      rw (tied old t u same ∙ here) (told, ap (λ w. get w t) set ∙ (get-insert total old u _ t ∙ ap (λ b. cond b (Some (answer (meets old u) view ask).1) (get old t)) same))
  own_step old new t u ask reply same fine (Unknown none told stays) =
      rw (tied old t u same ∙ none) (told, ap (λ w. get w t) stays ∙ (tied old t u same ∙ none))
  own_step old new t u ask reply same fine (Faulted bad stays) = let no : ⊥ = cc in absurd no

  -- a step of another tenant leaves the view, also one with a host fault
  pub other_step : (old new : FinMap cmp View) (t u : Tenant) (ask : Ask) (reply : Reply) → eq_by_cmp cmp t u ≡ false → TenantStep cmp meets answer unknown is_fault old u ask reply new → get new t ≡ get old t
  other_step old new t u ask reply other (Answered view here told set) =
      ap (λ w. get w t) set ∙ (get-insert total old u _ t ∙ ap (λ b. cond b (Some (answer (meets old u) view ask).1) (get old t)) other)
  other_step old new t u ask reply other (Unknown none told stays) = ap (λ w. get w t) stays
  other_step old new t u ask reply other (Faulted bad stays) = ap (λ w. get w t) stays

  pub own_request : (old new : FinMap cmp View) (ask : HostAsk) (reply : Reply) → OwnStep is_fault HostSays old ask reply new → new ≡ old
  own_request old new ask reply (HostAnswered says stays) = stays
  own_request old new ask reply (HostFaulted bad stays) = stays

  -- a run gives each tenant the replies and the view that a host of its own would, if that meets the same
  pub run_seen : (t : Tenant) (old new : FinMap cmp View) (steps : List (Event Tenant Ask HostAsk)) (replies : List Reply) (run : Explains cmp meets answer unknown is_fault HostSays old steps replies new) → AreFine is_fault (told cmp t steps replies) → IsPrivate answer unknown (get old t) (met cmp meets answer unknown is_fault HostSays t old steps replies new run) (told cmp t steps replies) (get new t)
  run_seen t old new [] [] run fine = (refl, ap (λ w. get w t) run)
  run_seen t old new [] (reply ∷ replies) run fine = absurd run
  run_seen t old new (Asks u ask ∷ steps) [] run fine = absurd run
  run_seen t old new (HostAsks ask ∷ steps) [] run fine = absurd run
  run_seen t old new (HostAsks ask ∷ steps) (reply ∷ replies) run fine =
      let rest = run_seen t run.0 new steps replies run.2 fine in
      subst (λ o. IsPrivate answer unknown o (met cmp meets answer unknown is_fault HostSays t run.0 steps replies new run.2) (told cmp t steps replies) (get new t)) (ap (λ w. get w t) (own_request old run.0 ask reply run.1)) rest
  run_seen t old new (Asks u ask ∷ steps) (reply ∷ replies) run fine =
      by_tenant (eq_by_cmp cmp t u) refl fine (λ f. run_seen t run.0 new steps replies run.2 f)
    where
      behind : List (Context × Ask)
      behind = met cmp meets answer unknown is_fault HostSays t run.0 steps replies new run.2

      by_tenant : (b : Bool) → eq_by_cmp cmp t u ≡ b → AreFine is_fault (cond b (reply ∷ told cmp t steps replies) (told cmp t steps replies)) → (AreFine is_fault (told cmp t steps replies) → IsPrivate answer unknown (get run.0 t) behind (told cmp t steps replies) (get new t)) → IsPrivate answer unknown (get old t) (cond b ((meets old u, ask) ∷ behind) behind) (cond b (reply ∷ told cmp t steps replies) (told cmp t steps replies)) (get new t)
      by_tenant false e fine rest = subst (λ o. IsPrivate answer unknown o behind (told cmp t steps replies) (get new t)) (other_step old run.0 t u ask reply e run.1) (rest fine)
      by_tenant true e fine rest =
          let here = own_step old run.0 t u ask reply e fine.0 run.1 in
          let more = subst (λ o. IsPrivate answer unknown o behind (told cmp t steps replies) (get new t)) here.1 (rest fine.1) in
          (ap (λ s. s ∷ told cmp t steps replies) here.0 ∙ ap (λ ss. (seen_once answer unknown (get old t) (meets old u, ask)).0 ∷ ss) more.0, more.1)

  -- for a tenant that the world has
  pub run_met : (t : Tenant) (old new : FinMap cmp View) (steps : List (Event Tenant Ask HostAsk)) (replies : List Reply) (view : View) (run : Explains cmp meets answer unknown is_fault HostSays old steps replies new) → AreFine is_fault (told cmp t steps replies) → get old t ≡ Some view → (told cmp t steps replies ≡ (alone answer view (met cmp meets answer unknown is_fault HostSays t old steps replies new run)).0) × (get new t ≡ Some (alone answer view (met cmp meets answer unknown is_fault HostSays t old steps replies new run)).1)
  run_met t old new steps replies view run fine here =
      let all = run_seen t old new steps replies run fine in
      let asked = met cmp meets answer unknown is_fault HostSays t old steps replies new run in
      let same = ap (λ o. seen answer unknown o asked) here ∙ seen-alone answer unknown view asked in
      (all.0 ∙ ap (λ (p : List Reply × Option View). p.0) same, all.1 ∙ ap (λ (p : List Reply × Option View). p.1) same)

  -- two runs in which a tenant meets and asks the same
  pub runs_met_agree : (t : Tenant) (old new : FinMap cmp View) (steps : List (Event Tenant Ask HostAsk)) (replies : List Reply) (old2 new2 : FinMap cmp View) (steps2 : List (Event Tenant Ask HostAsk)) (replies2 : List Reply) (run : Explains cmp meets answer unknown is_fault HostSays old steps replies new) → AreFine is_fault (told cmp t steps replies) → (run2 : Explains cmp meets answer unknown is_fault HostSays old2 steps2 replies2 new2) → AreFine is_fault (told cmp t steps2 replies2) → get old t ≡ get old2 t
      → met cmp meets answer unknown is_fault HostSays t old steps replies new run ≡ met cmp meets answer unknown is_fault HostSays t old2 steps2 replies2 new2 run2 → (told cmp t steps replies ≡ told cmp t steps2 replies2) × (get new t ≡ get new2 t)
  runs_met_agree t old new steps replies old2 new2 steps2 replies2 run fine run2 fine2 agree same =
      let one = run_seen t old new steps replies run fine in
      let two = run_seen t old2 new2 steps2 replies2 run2 fine2 in
      let joined : seen answer unknown (get old t) (met cmp meets answer unknown is_fault HostSays t old steps replies new run) ≡ seen answer unknown (get old2 t) (met cmp meets answer unknown is_fault HostSays t old2 steps2 replies2 new2 run2) = λ i. seen answer unknown (agree i) (same i) in
      (one.0 ∙ (ap (λ (p : List Reply × Option View). p.0) joined ∙ sym two.0), one.1 ∙ (ap (λ (p : List Reply × Option View). p.1) joined ∙ sym two.1))

  -- what no step of a run changes for a tenant, the tenant meets with each request
  abbrev pub StaysFor : Tenant → (old : FinMap cmp View) (steps : List (Event Tenant Ask HostAsk)) (replies : List Reply) (new : FinMap cmp View) → Explains cmp meets answer unknown is_fault HostSays old steps replies new → Type 0
  StaysFor t old [] [] new run = ⊤
  StaysFor t old [] (reply ∷ replies) new run = ⊤
  StaysFor t old (step ∷ steps) [] new run = ⊤
  StaysFor t old (step ∷ steps) (reply ∷ replies) new run = (meets run.0 t ≡ meets old t) × StaysFor t run.0 steps replies new run.2

  pub steady : (exact : IsAntisymmetric cmp) (t : Tenant) (old new : FinMap cmp View) (steps : List (Event Tenant Ask HostAsk)) (replies : List Reply) (context : Context) (run : Explains cmp meets answer unknown is_fault HostSays old steps replies new) → meets old t ≡ context → StaysFor t old steps replies new run
      → met cmp meets answer unknown is_fault HostSays t old steps replies new run ≡ meeting context (own cmp t steps)
  steady exact t old new [] [] context run is stays = refl
  steady exact t old new [] (reply ∷ replies) context run is stays = absurd run
  steady exact t old new (Asks u ask ∷ steps) [] context run is stays = absurd run
  steady exact t old new (HostAsks ask ∷ steps) [] context run is stays = absurd run
  steady exact t old new (HostAsks ask ∷ steps) (reply ∷ replies) context run is stays = steady exact t run.0 new steps replies context run.2 (stays.0 ∙ is) stays.1
  steady exact t old new (Asks u ask ∷ steps) (reply ∷ replies) context run is stays = by (eq_by_cmp cmp t u) refl (steady exact t run.0 new steps replies context run.2 (stays.0 ∙ is) stays.1)
    where
      behind : List (Context × Ask)
      behind = met cmp meets answer unknown is_fault HostSays t run.0 steps replies new run.2

      by : (b : Bool) → eq_by_cmp cmp t u ≡ b → behind ≡ meeting context (own cmp t steps) → cond b ((meets old u, ask) ∷ behind) behind ≡ meeting context (cond b (ask ∷ own cmp t steps) (own cmp t steps))
      by false apart rest = rest
      by true tied rest =
          let here : meets old u ≡ context = ap (λ k. meets old k) (sym (exact t u (is_equal _ tied))) ∙ is in
          ap (λ c. (c, ask) ∷ behind) here ∙ ap (λ asked. (context, ask) ∷ asked) rest

  -- if no answer is a host fault, the reply to a step determines the world that it leaves
  one_left : ((context : Context) (view : View) (ask : Ask) → is_fault (answer context view ask).0 ≡ false) → is_fault unknown ≡ false
      → (old new new2 : FinMap cmp View) (step : Event Tenant Ask HostAsk) (reply : Reply) → Steps cmp meets answer unknown is_fault HostSays old step reply new → Steps cmp meets answer unknown is_fault HostSays old step reply new2 → new ≡ new2
  one_left fine known old new new2 (HostAsks ask) reply one two = own_request old new ask reply one ∙ sym (own_request old new2 ask reply two)
  one_left fine known old new new2 (Asks u ask) reply (Answered view here told set) (Answered other there told2 set2) =
      let same : view ≡ other = one_value (get old u) view other here there in
      set ∙ ap (λ v. insert old u (answer (meets old u) v ask).1) same ∙ sym set2
  one_left fine known old new new2 (Asks u ask) reply (Answered view here told set) (Unknown none told2 stays) = absurd (no_value (get old u) view none here)
  one_left fine known old new new2 (Asks u ask) reply (Unknown none told stays) (Answered view here told2 set) = absurd (no_value (get old u) view none here)
  one_left fine known old new new2 (Asks u ask) reply (Answered view here told set) (Faulted bad stays) = absurd (both_ways (is_fault reply) bad (ap is_fault told ∙ fine (meets old u) view ask))
  one_left fine known old new new2 (Asks u ask) reply (Faulted bad stays) (Answered view here told set) = absurd (both_ways (is_fault reply) bad (ap is_fault told ∙ fine (meets old u) view ask))
  one_left fine known old new new2 (Asks u ask) reply (Unknown none told stays) (Unknown none2 told2 stays2) = stays ∙ sym stays2
  one_left fine known old new new2 (Asks u ask) reply (Unknown none told stays) (Faulted bad stays2) = stays ∙ sym stays2
  one_left fine known old new new2 (Asks u ask) reply (Faulted bad stays) (Unknown none told stays2) = stays ∙ sym stays2
  one_left fine known old new new2 (Asks u ask) reply (Faulted bad stays) (Faulted bad2 stays2) = stays ∙ sym stays2

  -- also from two first worlds that are equal
  pub one_next : ((context : Context) (view : View) (ask : Ask) → is_fault (answer context view ask).0 ≡ false) → is_fault unknown ≡ false
      → (old old2 new new2 : FinMap cmp View) (step : Event Tenant Ask HostAsk) (reply : Reply) → old ≡ old2 → Steps cmp meets answer unknown is_fault HostSays old step reply new → Steps cmp meets answer unknown is_fault HostSays old2 step reply new2 → new ≡ new2
  one_next fine known old old2 new new2 step reply same one two =
      one_left fine known old new new2 step reply one (subst (λ w. Steps cmp meets answer unknown is_fault HostSays w step reply new2) (sym same) two)

  -- so the first world, the steps and the replies determine the last world
  pub one_last : ((context : Context) (view : View) (ask : Ask) → is_fault (answer context view ask).0 ≡ false) → is_fault unknown ≡ false
      → (old old2 new new2 : FinMap cmp View) (steps : List (Event Tenant Ask HostAsk)) (replies : List Reply) → old ≡ old2 → Explains cmp meets answer unknown is_fault HostSays old steps replies new → Explains cmp meets answer unknown is_fault HostSays old2 steps replies new2 → new ≡ new2
  one_last fine known old old2 new new2 [] [] same run run2 = run ∙ (same ∙ sym run2)
  one_last fine known old old2 new new2 [] (reply ∷ replies) same run run2 = absurd run
  one_last fine known old old2 new new2 (step ∷ steps) [] same run run2 = absurd run
  one_last fine known old old2 new new2 (step ∷ steps) (reply ∷ replies) same run run2 =
      one_last fine known run.0 run2.0 new new2 steps replies (one_next fine known old old2 run.0 run2.0 step reply same run.1 run2.1) run.2 run2.2

  -- and what a tenant meets along the run, whatever worlds are in between
  pub one_met : ((context : Context) (view : View) (ask : Ask) → is_fault (answer context view ask).0 ≡ false) → is_fault unknown ≡ false
      → (t : Tenant) (old old2 new new2 : FinMap cmp View) (steps : List (Event Tenant Ask HostAsk)) (replies : List Reply) → old ≡ old2 → (run : Explains cmp meets answer unknown is_fault HostSays old steps replies new) (run2 : Explains cmp meets answer unknown is_fault HostSays old2 steps replies new2) → met cmp meets answer unknown is_fault HostSays t old steps replies new run ≡ met cmp meets answer unknown is_fault HostSays t old2 steps replies new2 run2
  one_met fine known t old old2 new new2 [] [] same run run2 = refl
  one_met fine known t old old2 new new2 [] (reply ∷ replies) same run run2 = refl
  one_met fine known t old old2 new new2 (Asks u ask ∷ steps) [] same run run2 = refl
  one_met fine known t old old2 new new2 (HostAsks ask ∷ steps) [] same run run2 = refl
  one_met fine known t old old2 new new2 (HostAsks ask ∷ steps) (reply ∷ replies) same run run2 =
      one_met fine known t run.0 run2.0 new new2 steps replies (one_next fine known old old2 run.0 run2.0 (HostAsks ask) reply same run.1 run2.1) run.2 run2.2
  one_met fine known t old old2 new new2 (Asks u ask ∷ steps) (reply ∷ replies) same run run2 =
      let rest = one_met fine known t run.0 run2.0 new new2 steps replies (one_next fine known old old2 run.0 run2.0 (Asks u ask) reply same run.1 run2.1) run.2 run2.2 in
      λ i. cond (eq_by_cmp cmp t u) ((meets (same i) u, ask) ∷ rest i) (rest i)
