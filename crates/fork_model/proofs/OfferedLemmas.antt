-- What a tenant is offered in a world: what the views of others have made to it.
use Rattle.std.proofs.Common.{◌≡◌, ◌≢◌, ℕ, Bool, true, false, cond, List, [], ◌∷◌, ◌++◌, Option, Some, None, refl, sym, ap, subst, ◌∙◌, ◌&&◌}
use Rattle.std.specs.Prelude.{map}
use Rattle.std.specs.declared.cmp.Ordering.{Ordering}
use Rattle.std.specs.declared.cmp.Ordering.TheVariants.{Less, Equal, Greater}
use Rattle.std.specs.Ordering.{eq_by_cmp, is_eq, ordering_then}
use Rattle.std.specs.Option.{option_and_then, option_or}
use Rattle.std.specs.List.{AllByRecursion, flat_map}
use Rattle.std.specs.List.Sorted.{IsStrictlySortedBy}
use Rattle.std.specs.FinMap.{empty, entries, find, get, get-empty, get-entries, get-from_entries, get-insert, get-retain_keys, insert, keys, same_map}
use Rattle.std.proofs.lemmas.Cmp.{tied_itself}
use Rattle.git_name.specs.Name.{name_cmp}
use Rattle.git_name.specs.Same.{same_name}
use Rattle.git_name.proofs.HashMaps.{one_test}
use Rattle.git_name.proofs.Names.{name_exact, name_total}
use Rattle.git_name.proofs.SortedNames.{sorted_entries}
use Rattle.git_name.proofs.TreeMaps.{entries_of_ordered}
use Rattle.fork_request.specs.Asked.{Ask, Inits, Drops, Forks, Pushes, SendsPart, EndsParts, DropsParts, Updates, SetsHead, MakesOffer, Withdraws, ForksOffer, AsksObject, AsksTree, AsksRevisions, AsksBases, AsksReferences, AsksHead, AsksOffers, AsksRepositories, Fetches, AsksUse, Prunes, NoRequest}
use Rattle.fork_request.specs.declared.reply.Reply.{Reply}
use Rattle.fork_model.specs.Answer.{answer}
use Rattle.fork_model.specs.Context.{Context, given_by, made_to, met_by, offered_to}
use Rattle.fork_model.specs.Offer.{Offer, Offers, Pair, pair_cmp}
use Rattle.fork_model.specs.Runs.{Asks, HostAsks, Answered, Unknown, Faulted, HostAnswered, HostFaulted}
use Rattle.fork_model.specs.View.{View}
use Rattle.fork_model.specs.World.{Event, Steps, World, deals_with}
use Rattle.fork_model.proofs.EntryLemmas.{each_made, is_equal, pair_exact, pair_total}
use Rattle.fork_model.proofs.SoundLemmas.{made_answer}
use Rattle.fork_model.proofs.StepLemmas.{undone}

-- names that compare as the same are one
pub one_name : (a b : List ℕ) → same_name a b ≡ true → a ≡ b
one_name a b is = name_exact a b (is_equal (name_cmp a b) (sym (one_test a b) ∙ is))

pub same_itself : (a : List ℕ) → same_name a a ≡ true
same_itself a = one_test a a ∙ ap is_eq (tied_itself name_total a)

both_equal : (o p : Ordering) → is_eq (ordering_then o p) ≡ (is_eq o && is_eq p)
both_equal Less p = refl
both_equal Equal p = refl
both_equal Greater p = refl

-- ---- the offers of one tenant to another
to_receiver : (receiver : List ℕ) (view : View) (key : Pair) → get (made_to receiver view) key ≡ cond (same_name key.0 receiver) (get view.made key) None
to_receiver receiver view key = get-retain_keys view.made (λ k. same_name k.0 receiver) key (λ other tied. ap (λ (k : Pair). same_name k.0 receiver) (sym (pair_exact key other tied)))

made_here : (receiver word : List ℕ) (view : View) → get (made_to receiver view) (receiver, word) ≡ get view.made (receiver, word)
made_here receiver word view = to_receiver receiver view (receiver, word) ∙ ap (λ b. cond b (get view.made (receiver, word)) None) (same_itself receiver)

passed : {X : Type 0} (b : Bool) (o : Option X) (x : X) → cond b o None ≡ Some x → b ≡ true
passed true o x is = refl
passed false o x is = absurd (let no : ⊥ = cc in no)

all_to : (receiver : List ℕ) (view : View) → AllByRecursion (λ (key : Pair). key.0 ≡ receiver) (keys (made_to receiver view))
all_to receiver view =
    each_made pair_total pair_exact (λ (key : Pair). key.0 ≡ receiver) (λ e. e.0) (made_to receiver view)
    (λ key offer is. one_name key.0 receiver (passed (same_name key.0 receiver) (get view.made key) offer (sym (to_receiver receiver view key) ∙ is)))

-- under a giver's name are the offers that it has made
find_given : (receiver giver who word : List ℕ) (offers : List (Pair × Offer)) (b : Bool) → eq_by_cmp name_cmp who giver ≡ b → AllByRecursion (λ (key : Pair). key.0 ≡ receiver) (map (λ e. e.0) offers)
    → find pair_cmp (who, word) (map (λ offer. ((giver, offer.0.1), offer.1)) offers) ≡ cond b (find pair_cmp (receiver, word) offers) None
find_given receiver giver who word [] true tied all = refl
find_given receiver giver who word [] false tied all = refl
find_given receiver giver who word (offer ∷ offers) b tied all =
    let rest = find_given receiver giver who word offers b tied all.1 in
    let here : eq_by_cmp pair_cmp (who, word) (giver, offer.0.1) ≡ (b && eq_by_cmp name_cmp word offer.0.1) = both_equal (name_cmp who giver) (name_cmp word offer.0.1) ∙ ap (λ t. t && eq_by_cmp name_cmp word offer.0.1) tied in
    let there : eq_by_cmp pair_cmp (receiver, word) offer.0 ≡ eq_by_cmp name_cmp word offer.0.1 =
    both_equal (name_cmp receiver offer.0.0) (name_cmp word offer.0.1) ∙ ap (λ t. t && eq_by_cmp name_cmp word offer.0.1) (ap (λ n. is_eq (name_cmp receiver n)) all.0 ∙ ap is_eq (tied_itself name_total receiver)) in
    ap (λ t. cond t (Some offer.1) (find pair_cmp (who, word) (map (λ o. ((giver, o.0.1), o.1)) offers))) here
    ∙ (by b (eq_by_cmp name_cmp word offer.0.1) (find pair_cmp (who, word) (map (λ o. ((giver, o.0.1), o.1)) offers)) (find pair_cmp (receiver, word) offers) (Some offer.1) rest
    ∙ ap (λ t. cond b (cond t (Some offer.1) (find pair_cmp (receiver, word) offers)) None) (sym there))
  where
    by : {X : Type 0} (b t : Bool) (o p x : Option X) → o ≡ cond b p None → cond (b && t) x o ≡ cond b (cond t x p) None
    by true t o p x is = ap (cond t x) is
    by false t o p x is = is

given_found : (receiver who word : List ℕ) (e : List ℕ × View) → find pair_cmp (who, word) (given_by receiver e) ≡ cond (eq_by_cmp name_cmp who e.0) (get e.1.made (receiver, word)) None
given_found receiver who word e =
    find_given receiver e.0 who word (entries (made_to receiver e.1)) (eq_by_cmp name_cmp who e.0) refl (all_to receiver e.1)
    ∙ ap (λ o. cond (eq_by_cmp name_cmp who e.0) o None) (sym (get-entries (made_to receiver e.1) (receiver, word)) ∙ made_here receiver word e.1)

find_behind : {X : Type 0} (key : Pair) (front back : List (Pair × X)) → find pair_cmp key (front ++ back) ≡ option_or (find pair_cmp key front) (find pair_cmp key back)
find_behind key [] back = refl
find_behind key (e ∷ front) back = by (eq_by_cmp pair_cmp key e.0) (find_behind key front back)
  where
    by : (b : Bool) → find pair_cmp key (front ++ back) ≡ option_or (find pair_cmp key front) (find pair_cmp key back) → cond b (Some e.1) (find pair_cmp key (front ++ back)) ≡ option_or (cond b (Some e.1) (find pair_cmp key front)) (find pair_cmp key back)
    by true rest = refl
    by false rest = rest

-- no name is above itself
none_above : {X : Type 0} (name : List ℕ) (es : List (List ℕ × X)) → AllByRecursion (λ key. name_cmp name key ≡ Less) (map (λ e. e.0) es) → find name_cmp name es ≡ None
none_above name [] above = refl
none_above name (e ∷ es) above = ap (λ order. cond (is_eq order) (Some e.1) (find name_cmp name es)) above.0 ∙ none_above name es above.1

find_offered : (receiver who word : List ℕ) (es : List (List ℕ × View)) → IsStrictlySortedBy name_cmp (map (λ e. e.0) es)
    → find pair_cmp (who, word) (flat_map (given_by receiver) es) ≡ option_and_then (λ (view : View). get view.made (receiver, word)) (find name_cmp who es)
unfolding IsStrictlySortedBy
find_offered receiver who word [] sorted = refl
find_offered receiver who word (e ∷ es) sorted =
    find_behind (who, word) (given_by receiver e) (flat_map (given_by receiver) es)
    ∙ (ap (λ o. option_or o (find pair_cmp (who, word) (flat_map (given_by receiver) es))) (given_found receiver who word e)
    ∙ by (eq_by_cmp name_cmp who e.0) refl (find_offered receiver who word es sorted.1))
  where
    alone : (o : Option Offer) → option_or o None ≡ o
    alone None = refl
    alone (Some offer) = refl

    by : (b : Bool) → eq_by_cmp name_cmp who e.0 ≡ b → find pair_cmp (who, word) (flat_map (given_by receiver) es) ≡ option_and_then (λ (view : View). get view.made (receiver, word)) (find name_cmp who es)
        → option_or (cond b (get e.1.made (receiver, word)) None) (find pair_cmp (who, word) (flat_map (given_by receiver) es)) ≡ option_and_then (λ (view : View). get view.made (receiver, word)) (cond b (Some e.1) (find name_cmp who es))
    by true tied rest =
        let none = ap (λ n. find name_cmp n es) (name_exact who e.0 (is_equal (name_cmp who e.0) tied)) ∙ none_above e.0 es sorted.0 in
        ap (option_or (get e.1.made (receiver, word))) (rest ∙ ap (option_and_then (λ (view : View). get view.made (receiver, word))) none) ∙ alone (get e.1.made (receiver, word))
    by false tied rest = rest

-- ---- offers to a tenant are ordered by giver, then by repository
keys_behind : {X : Type 0} (front back : List (Pair × X)) → map (λ e. e.0) (front ++ back) ≡ map (λ e. e.0) front ++ map (λ e. e.0) back
keys_behind [] back = refl
keys_behind (e ∷ front) back = ap (λ keys. e.0 ∷ keys) (keys_behind front back)

all_behind : (P : Pair → Type 0) (front back : List Pair) → AllByRecursion P front → AllByRecursion P back → AllByRecursion P (front ++ back)
all_behind P [] back front_all back_all = back_all
all_behind P (key ∷ front) back front_all back_all = (front_all.0, all_behind P front back front_all.1 back_all)

-- two ordered lists, each element of the one below each of the other, are ordered together
sorted_behind : (front back : List Pair) → IsStrictlySortedBy pair_cmp front → IsStrictlySortedBy pair_cmp back → AllByRecursion (λ key. AllByRecursion (λ other. pair_cmp key other ≡ Less) back) front → IsStrictlySortedBy pair_cmp (front ++ back)
unfolding IsStrictlySortedBy
sorted_behind [] back front_sorted back_sorted below = back_sorted
sorted_behind (key ∷ front) back front_sorted back_sorted below =
    (all_behind (λ other. pair_cmp key other ≡ Less) front back front_sorted.0 below.0, sorted_behind front back front_sorted.1 back_sorted below.1)

same_first : (who one two : List ℕ) (a b : List ℕ) → pair_cmp (one, a) (two, b) ≡ Less → one ≡ two → pair_cmp (who, a) (who, b) ≡ Less
same_first who one two a b less same =
    ap (λ order. ordering_then order (name_cmp a b)) (tied_itself name_total who)
    ∙ (sym (ap (λ order. ordering_then order (name_cmp a b)) (ap (name_cmp one) (sym same) ∙ tied_itself name_total one)) ∙ less)

given_sorted : (receiver giver : List ℕ) (offers : List (Pair × Offer)) → AllByRecursion (λ (key : Pair). key.0 ≡ receiver) (map (λ e. e.0) offers) → IsStrictlySortedBy pair_cmp (map (λ e. e.0) offers)
    → IsStrictlySortedBy pair_cmp (map (λ (e : Pair × Offer). e.0) (map (λ offer. ((giver, offer.0.1), offer.1)) offers))
unfolding IsStrictlySortedBy
given_sorted receiver giver [] all sorted = tt
given_sorted receiver giver (offer ∷ offers) all sorted = (above offers all.1 sorted.0, given_sorted receiver giver offers all.1 sorted.1)
  where
    above : (others : List (Pair × Offer)) → AllByRecursion (λ (key : Pair). key.0 ≡ receiver) (map (λ e. e.0) others) → AllByRecursion (λ key. pair_cmp offer.0 key ≡ Less) (map (λ e. e.0) others)
        → AllByRecursion (λ key. pair_cmp (giver, offer.0.1) key ≡ Less) (map (λ (e : Pair × Offer). e.0) (map (λ o. ((giver, o.0.1), o.1)) others))
    above [] others_all less = tt
    above (other ∷ others) others_all less = (same_first giver offer.0.0 other.0.0 offer.0.1 other.0.1 less.0 (all.0 ∙ sym others_all.0), above others others_all.1 less.1)

-- all that one giver gives is under its name
all_given : (receiver giver : List ℕ) (offers : List (Pair × Offer)) → AllByRecursion (λ (key : Pair). key.0 ≡ giver) (map (λ (e : Pair × Offer). e.0) (map (λ offer. ((giver, offer.0.1), offer.1)) offers))
all_given receiver giver [] = tt
all_given receiver giver (offer ∷ offers) = (refl, all_given receiver giver offers)

-- and below all that the givers after it give
given_below : (receiver giver : List ℕ) (es : List (List ℕ × View)) → AllByRecursion (λ name. name_cmp giver name ≡ Less) (map (λ e. e.0) es) → (key : Pair) → key.0 ≡ giver → AllByRecursion (λ other. pair_cmp key other ≡ Less) (map (λ e. e.0) (flat_map (given_by receiver) es))
given_below receiver giver [] above key is = tt
given_below receiver giver (e ∷ es) above key is =
    subst (AllByRecursion (λ other. pair_cmp key other ≡ Less)) (sym (keys_behind (given_by receiver e) (flat_map (given_by receiver) es)))
    (all_behind (λ other. pair_cmp key other ≡ Less) (map (λ o. o.0) (given_by receiver e)) (map (λ o. o.0) (flat_map (given_by receiver) es)) (each (map (λ o. o.0) (given_by receiver e)) (all_given receiver e.0 (entries (made_to receiver e.1)))) (given_below receiver giver es above.1 key is))
  where
    each : (keys : List Pair) → AllByRecursion (λ (other : Pair). other.0 ≡ e.0) keys → AllByRecursion (λ other. pair_cmp key other ≡ Less) keys
    each [] all = tt
    each (other ∷ keys) all = ((λ i. ordering_then (name_cmp (is i) (all.0 i)) (name_cmp key.1 other.1)) ∙ ap (λ order. ordering_then order (name_cmp key.1 other.1)) above.0, each keys all.1)

offered_sorted : (receiver : List ℕ) (es : List (List ℕ × View)) → IsStrictlySortedBy name_cmp (map (λ e. e.0) es) → IsStrictlySortedBy pair_cmp (map (λ e. e.0) (flat_map (given_by receiver) es))
unfolding IsStrictlySortedBy
offered_sorted receiver [] sorted = tt
offered_sorted receiver (e ∷ es) sorted =
    subst (IsStrictlySortedBy pair_cmp) (sym (keys_behind (given_by receiver e) (flat_map (given_by receiver) es)))
    (sorted_behind (map (λ o. o.0) (given_by receiver e)) (map (λ o. o.0) (flat_map (given_by receiver) es)) (given_sorted receiver e.0 (entries (made_to receiver e.1)) (all_to receiver e.1) (sorted_entries (made_to receiver e.1))) (offered_sorted receiver es sorted.1)
    (each (map (λ o. o.0) (given_by receiver e)) (all_given receiver e.0 (entries (made_to receiver e.1)))))
  where
    each : (keys : List Pair) → AllByRecursion (λ (key : Pair). key.0 ≡ e.0) keys → AllByRecursion (λ key. AllByRecursion (λ other. pair_cmp key other ≡ Less) (map (λ o. o.0) (flat_map (given_by receiver) es))) keys
    each [] all = tt
    each (key ∷ keys) all = (given_below receiver e.0 es sorted.0 key all.0, each keys all.1)

-- so the entries are those of the givers, one giver after the other
pub offered_entries : (world : World) (receiver : List ℕ) → entries (offered_to world receiver) ≡ flat_map (given_by receiver) (entries world)
unfolding offered_to
offered_entries world receiver = entries_of_ordered pair_total (flat_map (given_by receiver) (entries world)) (offered_sorted receiver (entries world) (sorted_entries world))

-- what a tenant is offered by another one is what that one has made to it
pub get_offered : (world : World) (receiver giver word : List ℕ) → get (offered_to world receiver) (giver, word) ≡ option_and_then (λ (view : View). get view.made (receiver, word)) (get world giver)
unfolding offered_to
get_offered world receiver giver word =
    get-from_entries pair_total (flat_map (given_by receiver) (entries world)) (giver, word)
    ∙ (find_offered receiver giver word (entries world) (sorted_entries world) ∙ ap (option_and_then (λ (view : View). get view.made (receiver, word))) (sym (get-entries world giver)))

-- the giver of an offer exists, and has made the offer
pub record IsGiven (world : World) (receiver giver word : List ℕ) (offer : Offer) : Type 0 where
  pub view : View
  pub there : get world giver ≡ Some view
  pub made : get view.made (receiver, word) ≡ Some offer

pub given_by_one : (world : World) (receiver : List ℕ) (key : Pair) (offer : Offer) → get (offered_to world receiver) key ≡ Some offer → IsGiven world receiver key.0 key.1 offer
given_by_one world receiver key offer is = by (get world key.0) refl (sym (get_offered world receiver key.0 key.1) ∙ is)
  where
    by : (o : Option View) → get world key.0 ≡ o → option_and_then (λ (view : View). get view.made (receiver, key.1)) o ≡ Some offer → IsGiven world receiver key.0 key.1 offer
    by None there found = absurd (let no : ⊥ = cc in no)
    by (Some view) there found = record { view = view; there = there; made = found }

-- ---- what a step changes of it
other_pair : (receiver tenant word repository : List ℕ) → same_name receiver tenant ≡ false → ◌≢◌ {A = Pair} (tenant, word) (receiver, repository)
other_pair receiver tenant word repository apart is = (let same = ap (λ (k : Pair). same_name receiver k.0) is ∙ same_itself receiver in let no : ⊥ = cc in no)

not_both : (a b : Bool) → (a && b) ≡ false → (b ≡ true → a ≡ false)
not_both a b differ here = (let all : (a && true) ≡ false = subst (λ t. (a && t) ≡ false) here differ in by a all)
  where
    by : (a : Bool) → (a && true) ≡ false → a ≡ false
    by true is = is
    by false is = refl

-- an answer leaves what its tenant offers to another one, if it does not deal with that one
made_still : (context : Context) (view : View) (giver tenant word : List ℕ) (ask : Ask) → deals_with tenant (Asks giver ask) (answer context view ask).0 ≡ false → get (answer context view ask).1.made (tenant, word) ≡ get view.made (tenant, word)
made_still context view giver tenant word (MakesOffer repository receiver) apart = by (same_name receiver tenant) refl
  where
    by : (b : Bool) → same_name receiver tenant ≡ b → get (answer context view (MakesOffer repository receiver)).1.made (tenant, word) ≡ get view.made (tenant, word)
    by true same = ap (λ (v : View). get v.made (tenant, word)) (undone context view (MakesOffer repository receiver) (answer context view (MakesOffer repository receiver)).0 refl (not_both _ (same_name receiver tenant) apart same))
    by false other = made_answer context view (MakesOffer repository receiver) (tenant, word) (other_pair receiver tenant word repository other)
made_still context view giver tenant word (Withdraws repository receiver) apart = by (same_name receiver tenant) refl
  where
    by : (b : Bool) → same_name receiver tenant ≡ b → get (answer context view (Withdraws repository receiver)).1.made (tenant, word) ≡ get view.made (tenant, word)
    by true same = ap (λ (v : View). get v.made (tenant, word)) (undone context view (Withdraws repository receiver) (answer context view (Withdraws repository receiver)).0 refl (not_both _ (same_name receiver tenant) apart same))
    by false other = made_answer context view (Withdraws repository receiver) (tenant, word) (other_pair receiver tenant word repository other)
made_still context view giver tenant word (Inits repository) apart = ap (λ (made : Offers). get made (tenant, word)) (made_answer context view (Inits repository))
made_still context view giver tenant word (Drops repository) apart = ap (λ (made : Offers). get made (tenant, word)) (made_answer context view (Drops repository))
made_still context view giver tenant word (Forks source copy) apart = ap (λ (made : Offers). get made (tenant, word)) (made_answer context view (Forks source copy))
made_still context view giver tenant word (Pushes repository body) apart = ap (λ (made : Offers). get made (tenant, word)) (made_answer context view (Pushes repository body))
made_still context view giver tenant word (SendsPart body) apart = ap (λ (made : Offers). get made (tenant, word)) (made_answer context view (SendsPart body))
made_still context view giver tenant word (EndsParts repository) apart = ap (λ (made : Offers). get made (tenant, word)) (made_answer context view (EndsParts repository))
made_still context view giver tenant word DropsParts apart = ap (λ (made : Offers). get made (tenant, word)) (made_answer context view DropsParts)
made_still context view giver tenant word (Updates repository body) apart = ap (λ (made : Offers). get made (tenant, word)) (made_answer context view (Updates repository body))
made_still context view giver tenant word (SetsHead repository reference) apart = ap (λ (made : Offers). get made (tenant, word)) (made_answer context view (SetsHead repository reference))
made_still context view giver tenant word (ForksOffer from repository copy) apart = ap (λ (made : Offers). get made (tenant, word)) (made_answer context view (ForksOffer from repository copy))
made_still context view giver tenant word (AsksObject name) apart = ap (λ (made : Offers). get made (tenant, word)) (made_answer context view (AsksObject name))
made_still context view giver tenant word (AsksTree name) apart = ap (λ (made : Offers). get made (tenant, word)) (made_answer context view (AsksTree name))
made_still context view giver tenant word (AsksRevisions repository items) apart = ap (λ (made : Offers). get made (tenant, word)) (made_answer context view (AsksRevisions repository items))
made_still context view giver tenant word (AsksBases repository first second) apart = ap (λ (made : Offers). get made (tenant, word)) (made_answer context view (AsksBases repository first second))
made_still context view giver tenant word (AsksReferences repository prefix) apart = ap (λ (made : Offers). get made (tenant, word)) (made_answer context view (AsksReferences repository prefix))
made_still context view giver tenant word (AsksHead repository) apart = ap (λ (made : Offers). get made (tenant, word)) (made_answer context view (AsksHead repository))
made_still context view giver tenant word AsksOffers apart = ap (λ (made : Offers). get made (tenant, word)) (made_answer context view AsksOffers)
made_still context view giver tenant word (Fetches repository items) apart = ap (λ (made : Offers). get made (tenant, word)) (made_answer context view (Fetches repository items))
made_still context view giver tenant word AsksUse apart = ap (λ (made : Offers). get made (tenant, word)) (made_answer context view AsksUse)
made_still context view giver tenant word AsksRepositories apart = ap (λ (made : Offers). get made (tenant, word)) (made_answer context view AsksRepositories)
made_still context view giver tenant word Prunes apart = ap (λ (made : Offers). get made (tenant, word)) (made_answer context view Prunes)
made_still context view giver tenant word NoRequest apart = ap (λ (made : Offers). get made (tenant, word)) (made_answer context view NoRequest)

-- if a giver's new view offers a tenant what that giver offered it before, the tenant is offered the same
set_offered : (world : World) (giver tenant : List ℕ) (after : View) → ((word : List ℕ) → get after.made (tenant, word) ≡ option_and_then (λ (view : View). get view.made (tenant, word)) (get world giver)) → offered_to (insert world giver after) tenant ≡ offered_to world tenant
set_offered world giver tenant after same =
    same_map pair_total pair_exact (offered_to (insert world giver after) tenant) (offered_to world tenant) (λ key.
    get_offered (insert world giver after) tenant key.0 key.1
    ∙ (ap (option_and_then (λ (v : View). get v.made (tenant, key.1))) (get-insert name_total world giver after key.0)
    ∙ (by key.1 key.0 (eq_by_cmp name_cmp key.0 giver) refl ∙ sym (get_offered world tenant key.0 key.1))))
  where
    by : (word who : List ℕ) (b : Bool) → eq_by_cmp name_cmp who giver ≡ b → option_and_then (λ (v : View). get v.made (tenant, word)) (cond b (Some after) (get world who)) ≡ option_and_then (λ (v : View). get v.made (tenant, word)) (get world who)
    by word who true tied = same word ∙ sym (ap (option_and_then (λ (v : View). get v.made (tenant, word))) (ap (get world) (name_exact who giver (is_equal (name_cmp who giver) tied))))
    by word who false apart = refl

-- so it is if the old view offered the tenant the same
same_offered : (world : World) (giver tenant : List ℕ) (view after : View) → get world giver ≡ Some view → ((word : List ℕ) → get after.made (tenant, word) ≡ get view.made (tenant, word)) → offered_to (insert world giver after) tenant ≡ offered_to world tenant
same_offered world giver tenant view after here same = set_offered world giver tenant after (λ word. same word ∙ sym (ap (option_and_then (λ (v : View). get v.made (tenant, word))) here))

-- and if the giver did not exist, and the new view has made no offer
pub added_offered : (world : World) (name receiver : List ℕ) (view : View) → get world name ≡ None → view.made ≡ empty → offered_to (insert world name view) receiver ≡ offered_to world receiver
added_offered world name receiver view lacks none =
    set_offered world name receiver view (λ word.
    ap (λ (made : Offers). get made (receiver, word)) none ∙ (get-empty pair_cmp (receiver, word) ∙ sym (ap (option_and_then (λ (v : View). get v.made (receiver, word))) lacks)))

-- a step that does not deal with a tenant leaves what it meets
pub met_still : (tenant : List ℕ) (old new : World) (event : Event) (reply : Reply) → Steps old event reply new → deals_with tenant event reply ≡ false → met_by new tenant ≡ met_by old tenant
met_still tenant old new (Asks u ask) reply (Answered view here told set) apart =
    ap (λ world. met_by world tenant) set
    ∙ ap (λ offers. record { own = tenant; offered = offers }) (same_offered old u tenant view (answer (met_by old u) view ask).1 here (λ word. made_still (met_by old u) view u tenant word ask (ap (deals_with tenant (Asks u ask)) (sym told) ∙ apart)))
met_still tenant old new (Asks u ask) reply (Unknown none told stays) apart = ap (λ world. met_by world tenant) stays
met_still tenant old new (Asks u ask) reply (Faulted bad stays) apart = ap (λ world. met_by world tenant) stays
met_still tenant old new (HostAsks ask) reply (HostAnswered says stays) apart = ap (λ world. met_by world tenant) stays
met_still tenant old new (HostAsks ask) reply (HostFaulted bad stays) apart = ap (λ world. met_by world tenant) stays
