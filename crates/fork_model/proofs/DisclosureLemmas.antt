-- What happens to a tenant in a run determines what it meets.
use Rattle.std.proofs.Common.{◌≡◌, ◌≢◌, ℕ, ◌&&◌, Bool, true, false, cond, List, [], ◌∷◌, ◌++◌, Option, Some, None, refl, sym, ap, ◌∙◌}
use Rattle.std.specs.Ordering.{eq_by_cmp, is_eq}
use Rattle.std.proofs.lemmas.Cmp.{tied_itself}
use Rattle.std.specs.Option.{option_and_then}
use Rattle.std.specs.FinMap.{get, get-insert, get-remove, insert, same_map}
use Rattle.git_name.specs.Name.{name_cmp}
use Rattle.git_name.specs.Same.{same_name}
use Rattle.git_name.proofs.Names.{name_exact, name_total}
use Rattle.fork_request.specs.Asked.{Ask, MakesOffer, Withdraws, ForksOffer, AsksOffers}
use Rattle.fork_request.specs.Names.{is_plain_name}
use Rattle.fork_request.specs.Told.{is_done, is_host_fault}
use Rattle.fork_request.specs.declared.refusal.Refusal.TheVariants.{BadName, NoOffer, UnknownTenant}
use Rattle.fork_request.specs.declared.reply.Reply.{Reply}
use Rattle.fork_request.specs.declared.reply.Reply.TheVariants.{Done, Unchanged, Refused, Failed}
use Rattle.fork_model.specs.Answer.{answer, fork_offer_answer, fork_offered, named_repository, offer_answer, withdraw_answer}
use Rattle.fork_model.specs.Context.{Context, met_by, offered_to}
use Rattle.fork_model.specs.Disclosure.{Asked, Changes, Happening, change_in, changes_offers, happenings, looks_at_offers, met_along, with_change, word_of}
use Rattle.fork_model.specs.Offer.{Offer, Offers, Pair, pair_cmp}
use Rattle.fork_model.specs.Runs.{Asks, HostAsks, Answered, Unknown, Faulted}
use Rattle.fork_model.specs.View.{View}
use Rattle.fork_model.specs.World.{Agree, Event, Explains, HostSays, IsUnfaulted, Meeting, Steps, World, deals_with, met, told}
use Rattle.fork_model.proofs.EntryLemmas.{is_equal, pair_exact, pair_total}
use Rattle.fork_model.proofs.IsolationLemmas.{other_step}
use Rattle.fork_model.proofs.Meetings.{runs_agree_met}
use Rattle.fork_model.proofs.OfferLemmas.{apart_pairs, tied_pairs}
use Rattle.fork_model.proofs.OfferedLemmas.{get_offered, met_still}
use Rattle.fork_model.proofs.SoundLemmas.{made_answer}

-- what a tenant meets after what happened, if it met this before
abbrev pub met_behind : Context → List Happening → Context
met_behind context [] = context
met_behind context (Asked ask ∷ more) = met_behind context more
met_behind context (Changes key offer ∷ more) = met_behind (record context { offered = with_change context.offered key offer }) more

-- ---- a change under one key
by_key : (offers : Offers) (key other : Pair) (o : Option Offer) → get (with_change offers key o) other ≡ cond (eq_by_cmp pair_cmp other key) o (get offers other)
by_key offers key other (Some offer) = get-insert pair_total offers key offer other
by_key offers key other None = get-remove pair_total offers key other

pair_itself : (key : Pair) → eq_by_cmp pair_cmp key key ≡ true
pair_itself key = ap is_eq (tied_itself pair_total key)

-- offers that differ only under one key are those with the change there
changed_there : (old new : Offers) (key : Pair) → ((other : Pair) → other ≢ key → get new other ≡ get old other) → new ≡ with_change old key (get new key)
changed_there old new key same = same_map pair_total pair_exact new (with_change old key (get new key)) (λ other. by other (eq_by_cmp pair_cmp other key) refl ∙ sym (by_key old key other (get new key)))
  where
    untied : (other : Pair) → eq_by_cmp pair_cmp other key ≡ false → other ≢ key
    untied other apart is = (let tied = sym (ap (λ k. eq_by_cmp pair_cmp k key) is) ∙ apart in let itself = pair_itself key in let no : ⊥ = cc in no)

    by : (other : Pair) (b : Bool) → eq_by_cmp pair_cmp other key ≡ b → get new other ≡ cond b (get new key) (get old other)
    by other true tied = ap (get new) (tied_pairs other key tied)
    by other false apart = same other (untied other apart)

-- ---- what a step changes of what a tenant is offered
both_true : (a b : Bool) → (a && b) ≡ true → (a ≡ true) × (b ≡ true)
both_true true b is = (refl, is)
both_true false b is = absurd (let no : ⊥ = cc in no)

done_where_dealt : (tenant giver : List ℕ) (ask : Ask) (reply : Reply) → deals_with tenant (Asks giver ask) reply ≡ true → is_done reply ≡ true
done_where_dealt tenant giver (MakesOffer repository receiver) reply deals = (both_true (is_done reply) (same_name receiver tenant) deals).0
done_where_dealt tenant giver (Withdraws repository receiver) reply deals = (both_true (is_done reply) (same_name receiver tenant) deals).0
done_where_dealt tenant giver ask reply deals = absurd (let no : ⊥ = cc in no)

failed_undone : (reply : Reply) → is_host_fault reply ≡ true → is_done reply ≡ true → ⊥
failed_undone (Done text) bad done = cc
failed_undone Unchanged bad done = cc
failed_undone (Refused refusal) bad done = cc
failed_undone (Failed fault) bad done = cc

other_word : (receiver tenant word repository : List ℕ) → word ≢ repository → ◌≢◌ {A = Pair} (tenant, word) (receiver, repository)
other_word receiver tenant word repository apart is = apart (ap (λ (k : Pair). k.1) is)

-- a request that deals with a tenant leaves the offers of other repositories to it
others_stay : (context : Context) (view : View) (giver tenant word : List ℕ) (ask : Ask) (reply : Reply) → deals_with tenant (Asks giver ask) reply ≡ true → word ≢ word_of ask → get (answer context view ask).1.made (tenant, word) ≡ get view.made (tenant, word)
others_stay context view giver tenant word (MakesOffer repository receiver) reply deals apart = made_answer context view (MakesOffer repository receiver) (tenant, word) (other_word receiver tenant word repository apart)
others_stay context view giver tenant word (Withdraws repository receiver) reply deals apart = made_answer context view (Withdraws repository receiver) (tenant, word) (other_word receiver tenant word repository apart)
others_stay context view giver tenant word ask reply deals apart = absurd (let no : ⊥ = cc in no)

other_repository : (who giver word repository : List ℕ) → who ≡ giver → ◌≢◌ {A = Pair} (who, word) (giver, repository) → word ≢ repository
other_repository who giver word repository same apart is = apart (λ i. (same i, is i))

stays_elsewhere : (world : World) (giver tenant repository : List ℕ) (view after : View) → get world giver ≡ Some view → ((word : List ℕ) → word ≢ repository → get after.made (tenant, word) ≡ get view.made (tenant, word))
    → (other : Pair) → other ≢ (giver, repository) → get (offered_to (insert world giver after) tenant) other ≡ get (offered_to world tenant) other
stays_elsewhere world giver tenant repository view after here same other apart =
    get_offered (insert world giver after) tenant other.0 other.1
    ∙ (ap (option_and_then (λ (v : View). get v.made (tenant, other.1))) (get-insert name_total world giver after other.0)
    ∙ (by (eq_by_cmp name_cmp other.0 giver) refl ∙ sym (get_offered world tenant other.0 other.1)))
  where
    by : (b : Bool) → eq_by_cmp name_cmp other.0 giver ≡ b → option_and_then (λ (v : View). get v.made (tenant, other.1)) (cond b (Some after) (get world other.0)) ≡ option_and_then (λ (v : View). get v.made (tenant, other.1)) (get world other.0)
    by true tied =
        let who = name_exact other.0 giver (is_equal (name_cmp other.0 giver) tied) in
        same other.1 (other_repository other.0 giver other.1 repository who apart) ∙ sym (ap (option_and_then (λ (v : View). get v.made (tenant, other.1))) (ap (get world) who ∙ here))
    by false apart_names = refl

dealt_step : (tenant : List ℕ) (old new : World) (giver : List ℕ) (ask : Ask) (reply : Reply) → Steps old (Asks giver ask) reply new → deals_with tenant (Asks giver ask) reply ≡ true
    → offered_to new tenant ≡ with_change (offered_to old tenant) (giver, word_of ask) (get (offered_to new tenant) (giver, word_of ask))
dealt_step tenant old new giver ask reply (Answered view here told set) deals =
    changed_there (offered_to old tenant) (offered_to new tenant) (giver, word_of ask) (λ other apart.
    ap (λ world. get (offered_to world tenant) other) set
    ∙ stays_elsewhere old giver tenant (word_of ask) view (answer (met_by old giver) view ask).1 here (λ word. others_stay (met_by old giver) view giver tenant word ask reply deals) other apart)
dealt_step tenant old new giver ask reply (Unknown none told stays) deals = absurd (let done = done_where_dealt tenant giver ask reply deals in let no : ⊥ = cc (sym (ap is_done told) ∙ done) in no)
dealt_step tenant old new giver ask reply (Faulted bad stays) deals = absurd (failed_undone reply bad (done_where_dealt tenant giver ask reply deals))

-- a step leaves all that a tenant is offered, if it does not deal with the tenant
pub offered_still : (tenant : List ℕ) (old new : World) (event : Event) (reply : Reply) → Steps old event reply new → deals_with tenant event reply ≡ false → offered_to new tenant ≡ offered_to old tenant
offered_still tenant old new event reply step leaves = ap (λ (context : Context). context.offered) (met_still tenant old new event reply step leaves)

-- otherwise it leaves what is under other keys than the one that its request names
pub offered_elsewhere : (tenant giver : List ℕ) (old new : World) (ask : Ask) (reply : Reply) (key : Pair) → Steps old (Asks giver ask) reply new → key ≢ (giver, word_of ask) → get (offered_to new tenant) key ≡ get (offered_to old tenant) key
offered_elsewhere tenant giver old new ask reply key step apart = by (deals_with tenant (Asks giver ask) reply) refl
  where
    named : Pair
    named = (giver, word_of ask)

    by : (b : Bool) → deals_with tenant (Asks giver ask) reply ≡ b → get (offered_to new tenant) key ≡ get (offered_to old tenant) key
    by true deals =
        ap (λ (offers : Offers). get offers key) (dealt_step tenant old new giver ask reply step deals)
        ∙ (by_key (offered_to old tenant) named key (get (offered_to new tenant) named) ∙ ap (λ t. cond t (get (offered_to new tenant) named) (get (offered_to old tenant) key)) (apart_pairs key named apart))
    by false leaves = ap (λ (offers : Offers). get offers key) (offered_still tenant old new (Asks giver ask) reply step leaves)

-- and the views of others
other_name : (a b : List ℕ) → a ≢ b → eq_by_cmp name_cmp a b ≡ false
other_name a b apart = by (eq_by_cmp name_cmp a b) refl
  where
    by : (t : Bool) → eq_by_cmp name_cmp a b ≡ t → t ≡ false
    by true is = absurd (apart (name_exact a b (is_equal (name_cmp a b) is)))
    by false is = refl

pub other_view : (old new : World) (tenant other : List ℕ) (ask : Ask) (reply : Reply) → Steps old (Asks tenant ask) reply new → other ≢ tenant → get new other ≡ get old other
other_view old new tenant other ask reply step apart = other_step name_cmp name_total met_by answer (Refused UnknownTenant) is_host_fault HostSays old new other tenant ask reply (other_name other tenant apart) step

-- what is met after a step, by whether it deals with the tenant
changed_step : (A : Type 0) (go : Context → List Happening → A) → ((context : Context) (key : Pair) (o : Option Offer) (more : List Happening) → go context (Changes key o ∷ more) ≡ go (record context { offered = with_change context.offered key o }) more)
    → (tenant : List ℕ) (old mid : World) (giver : List ℕ) (ask : Ask) (reply : Reply) (more : List Happening) → Steps old (Asks giver ask) reply mid
    → go (met_by old tenant) (change_in tenant giver ask reply mid ++ more) ≡ go (met_by mid tenant) more
changed_step A go changes tenant old mid giver ask reply more step = by (deals_with tenant (Asks giver ask) reply) refl
  where
    key : Pair
    key = (giver, word_of ask)

    by : (b : Bool) → deals_with tenant (Asks giver ask) reply ≡ b → go (met_by old tenant) (cond b (Changes key (get (offered_to mid tenant) key) ∷ []) [] ++ more) ≡ go (met_by mid tenant) more
    by true deals = changes (met_by old tenant) key (get (offered_to mid tenant) key) more ∙ ap (λ offers. go (record { own = tenant; offered = offers }) more) (sym (dealt_step tenant old mid giver ask reply step deals))
    by false leaves = ap (λ context. go context more) (sym (met_still tenant old mid (Asks giver ask) reply step leaves))

asked_first : (t : List ℕ) (old : World) (u : List ℕ) (ask : Ask) (rest : List Meeting) (behind : List Happening) → rest ≡ met_along (met_by old t) behind
    → cond (eq_by_cmp name_cmp t u) ((met_by old u, ask) ∷ rest) rest ≡ met_along (met_by old t) (cond (eq_by_cmp name_cmp t u) (Asked ask ∷ []) [] ++ behind)
asked_first t old u ask rest behind same = by (eq_by_cmp name_cmp t u) refl
  where
    by : (b : Bool) → eq_by_cmp name_cmp t u ≡ b → cond b ((met_by old u, ask) ∷ rest) rest ≡ met_along (met_by old t) (cond b (Asked ask ∷ []) [] ++ behind)
    by false apart = same
    by true tied = λ i. (met_by old (sym (name_exact t u (is_equal (name_cmp t u) tied)) i), ask) ∷ same i

-- what happens determines what is met
pub met_by_happenings : (t : List ℕ) (old new : World) (steps : List Event) (replies : List Reply) (run : Explains old steps replies new) → met t old steps replies new run ≡ met_along (met_by old t) (happenings t old steps replies new run)
met_by_happenings t old new [] [] run = refl
met_by_happenings t old new [] (reply ∷ replies) run = absurd run
met_by_happenings t old new (Asks u ask ∷ steps) [] run = absurd run
met_by_happenings t old new (HostAsks ask ∷ steps) [] run = absurd run
met_by_happenings t old new (HostAsks ask ∷ steps) (reply ∷ replies) run =
    met_by_happenings t run.0 new steps replies run.2 ∙ ap (λ context. met_along context (happenings t run.0 steps replies new run.2)) (met_still t old run.0 (HostAsks ask) reply run.1 refl)
met_by_happenings t old new (Asks u ask ∷ steps) (reply ∷ replies) run =
    asked_first t old u ask (met t run.0 steps replies new run.2) (change_in t u ask reply run.0 ++ happenings t run.0 steps replies new run.2)
    (met_by_happenings t run.0 new steps replies run.2 ∙ sym (changed_step (List Meeting) met_along (λ context key o more. refl) t old run.0 u ask reply (happenings t run.0 steps replies new run.2) run.1))

-- and what is met in the end
pub last_by_happenings : (t : List ℕ) (old new : World) (steps : List Event) (replies : List Reply) (run : Explains old steps replies new) → met_by new t ≡ met_behind (met_by old t) (happenings t old steps replies new run)
last_by_happenings t old new [] [] run = ap (λ world. met_by world t) run
last_by_happenings t old new [] (reply ∷ replies) run = absurd run
last_by_happenings t old new (Asks u ask ∷ steps) [] run = absurd run
last_by_happenings t old new (HostAsks ask ∷ steps) [] run = absurd run
last_by_happenings t old new (HostAsks ask ∷ steps) (reply ∷ replies) run =
    last_by_happenings t run.0 new steps replies run.2 ∙ ap (λ context. met_behind context (happenings t run.0 steps replies new run.2)) (met_still t old run.0 (HostAsks ask) reply run.1 refl)
last_by_happenings t old new (Asks u ask ∷ steps) (reply ∷ replies) run =
    last_by_happenings t run.0 new steps replies run.2 ∙ (sym (changed_step Context met_behind (λ context key o more. refl) t old run.0 u ask reply more run.1) ∙ by (eq_by_cmp name_cmp t u))
  where
    more : List Happening
    more = happenings t run.0 steps replies new run.2

    by : (b : Bool) → met_behind (met_by old t) (change_in t u ask reply run.0 ++ more) ≡ met_behind (met_by old t) (cond b (Asked ask ∷ []) [] ++ (change_in t u ask reply run.0 ++ more))
    by false = refl
    by true = refl

-- two runs in which the same happens to a tenant agree
pub runs_agree_happened : (t : List ℕ) (old new : World) (steps : List Event) (replies : List Reply) (old2 new2 : World) (steps2 : List Event) (replies2 : List Reply) (run : Explains old steps replies new) → IsUnfaulted t steps replies → (run2 : Explains old2 steps2 replies2 new2) → IsUnfaulted t steps2 replies2
    → Agree t old old2 → happenings t old steps replies new run ≡ happenings t old2 steps2 replies2 new2 run2 → (told t steps replies ≡ told t steps2 replies2) × Agree t new new2
runs_agree_happened t old new steps replies old2 new2 steps2 replies2 run fine run2 fine2 agree same =
    let context : met_by old t ≡ met_by old2 t = ap (λ offers. record { own = t; offered = offers }) agree.offers in
    let asked = met_by_happenings t old new steps replies run ∙ ((λ i. met_along (context i) (same i)) ∙ sym (met_by_happenings t old2 new2 steps2 replies2 run2)) in
    let all = runs_agree_met t old new steps replies old2 new2 steps2 replies2 run fine run2 fine2 agree.views asked in
    let last = last_by_happenings t old new steps replies run ∙ ((λ i. met_behind (context i) (same i)) ∙ sym (last_by_happenings t old2 new2 steps2 replies2 run2)) in
    (all.0, record { views = all.1; offers = ap (λ (c : Context). c.offered) last })

-- ---- which requests meet an offer
pub unlooked : (context other : Context) (view : View) (ask : Ask) → context.own ≡ other.own → looks_at_offers ask ≡ false → answer context view ask ≡ answer other view ask
unfolding answer offer_answer withdraw_answer
unlooked context other view (MakesOffer repository receiver) same leaves = λ i. offer_answer (record { own = same i; offered = context.offered }) view repository receiver
unlooked context other view (Withdraws repository receiver) same leaves = λ i. withdraw_answer (record { own = same i; offered = context.offered }) view repository receiver
unlooked context other view (ForksOffer giver repository copy) same leaves = absurd (let no : ⊥ = cc in no)
unlooked context other view AsksOffers same leaves = absurd (let no : ⊥ = cc in no)
unlooked context other view ask same leaves = refl

-- ---- which requests change what a tenant has made
pub unmade : (context : Context) (view : View) (ask : Ask) → changes_offers ask ≡ false → (answer context view ask).1.made ≡ view.made
unmade context view (MakesOffer repository receiver) leaves = absurd (let no : ⊥ = cc in no)
unmade context view (Withdraws repository receiver) leaves = absurd (let no : ⊥ = cc in no)
unmade context view ask leaves = made_answer context view ask

-- ---- what is not offered
pub unmade_forked : (context : Context) (view : View) (giver repository copy : List ℕ) → is_plain_name 32 giver ≡ true → is_plain_name 64 repository ≡ true → is_plain_name 64 copy ≡ true → get context.offered (giver, repository) ≡ None
    → answer context view (ForksOffer giver repository copy) ≡ (Refused (NoOffer giver repository), view)
unfolding answer fork_offer_answer
unmade_forked context view giver repository copy giver_right repository_right copy_right none =
    ap (λ b. cond b (named_repository view repository (named_repository view copy (fork_offered view (giver, repository) copy (get context.offered (giver, repository))))) (Refused (BadName giver), view)) giver_right
    ∙ (ap (λ b. cond b (named_repository view copy (fork_offered view (giver, repository) copy (get context.offered (giver, repository)))) (Refused (BadName repository), view)) repository_right
    ∙ (ap (λ b. cond b (fork_offered view (giver, repository) copy (get context.offered (giver, repository))) (Refused (BadName copy), view)) copy_right
    ∙ ap (fork_offered view (giver, repository) copy) none))
