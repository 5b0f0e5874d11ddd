-- What outlives a host that shows an orderly world is right.
use Rattle.std.proofs.Common.{◌≡◌, ℕ, true, List, [], ◌∷◌, inl, inr, Option, None, Some, is_some, refl, sym, ap, subst, ◌∙◌, map, arith}
use Rattle.std.specs.declared.cmp.Ordering.TheVariants.{Less}
use Rattle.std.specs.List.{AllByRecursion}
use Rattle.std.specs.List.Sorted.{IsStrictlySortedBy}
use Rattle.std.specs.FinMap.{FinMap, contains_key, entries, get, keys, len-entries, values}
use Rattle.std.proofs.lemmas.List.{length-map}
use Rattle.git_name.specs.Name.{IsName, name_cmp}
use Rattle.git_name.proofs.Names.{name_exact, name_total}
use Rattle.git_name.proofs.SortedNames.{sorted_entries}
use Rattle.git_reftx.specs.Fronts.{In}
use Rattle.git_reftx.specs.Repository.{Repository}
use Rattle.git_reftx.specs.Sound.{AreSound}
use Rattle.git_reftx.specs.Transaction.{References}
use Rattle.git_reftx.proofs.PushLemmas.{has_key, keys_ascend}
use Rattle.fork_model.specs.Offer.{Offer as Made, Pair, pair_cmp}
use Rattle.fork_model.specs.Sound.{AreReferences, AreToOthers, IsOrderly, IsOrderlyWorld}
use Rattle.fork_model.specs.View.{View}
use Rattle.fork_model.specs.World.{World}
use Rattle.git_name.specs.Object.{Object}
use Rattle.fork_request.specs.Names.{IsRepositoryName, IsTenantName}
use Rattle.fork_model.proofs.EntryLemmas.{each_made, pair_exact, pair_total}
use Rattle.state_text.specs.Kept.{offer_kept, state_kept, states_of}
use Rattle.state_text.specs.Offer.{offer_words, words_of_offer}
use Rattle.state_text.specs.States.{Ascend, IsNamedRepository, IsOffer, IsStates, IsTenantState}
use Rattle.state_text.proofs.OrderLemmas.{words_cmp}

-- a tenant's name, and a repository's
abbrev AreNames : Pair → Type 0
AreNames pair = IsTenantName pair.0 × IsRepositoryName pair.1

abbrev words_of_pair : Pair → List ℕ
words_of_pair pair = offer_words pair.0 pair.1

map_same : {A : Type 0} (xs : List A) → map (λ x. x) xs ≡ xs
map_same [] = refl
map_same (x ∷ xs) = ap (λ l. x ∷ l) (map_same xs)

names_made : (es : List (List ℕ × View)) → map (λ t. t.name) (map state_kept es) ≡ map (λ e. e.0) es
names_made [] = refl
names_made (e ∷ es) = ap (λ l. e.0 ∷ l) (names_made es)

all_in : (P : List ℕ → Type 0) (names : List (List ℕ)) (name : List ℕ) → AllByRecursion P names → In name names → P name
all_in P [] name all inside = absurd inside
all_in P (x ∷ xs) name all inside = elim inside [ inl is ↦ subst P (sym is) all.0 | inr later ↦ all_in P xs name all.1 later ]

found_key : {X : Type 0} (m : FinMap name_cmp X) (k : List ℕ) → contains_key m k ≡ true → (x : X) × (get m k ≡ Some x)
found_key m k has = some (get m k) has
  where
    some : {A : Type 0} (o : Option A) → is_some o ≡ true → (x : A) × (o ≡ Some x)
    some None is = absurd (cc)
    some (Some x) is = (x, refl)

-- references of a view
references_right : (objects : FinMap name_cmp Object) (references : References) → AreReferences objects references → AllByRecursion IsName (keys objects) → AreSound references × AllByRecursion IsName (values references)
references_right objects references are named = (
  record { named = λ k has. (let found = found_key references k has in (are.each k found.0 found.1).named); free = are.apart; few = are.few },
  each_made name_total name_exact IsName (λ e. e.1) references (λ k target is. all_in IsName (keys objects) target named (has_key objects target (are.each k target is).there)),
)

-- a repository of a view
repository_right : (view : View) → IsOrderly view → AllByRecursion IsName (keys view.objects) → (name : List ℕ) (repository : Repository) → get view.repositories name ≡ Some repository → IsNamedRepository (name, repository)
repository_right view orderly names name repository is =
    let right = references_right view.objects repository.references (orderly.references name repository is) names in
    record { named = orderly.repositories name repository is; told = record { branch = orderly.heads name repository is; references = right.0; targets = right.1 } }

-- the words of the offers that are kept are those of their receivers and repositories
words_made : (es : List (Pair × Made)) → map words_of_offer (map offer_kept es) ≡ map words_of_pair (map (λ e. e.0) es)
words_made [] = refl
words_made (e ∷ es) = ap (λ l. words_of_pair e.0 ∷ l) (words_made es)

-- pairs of right names ascend as their words do
words_ascend : (pairs : List Pair) → AllByRecursion AreNames pairs → IsStrictlySortedBy pair_cmp pairs → Ascend (map words_of_pair pairs)
unfolding IsStrictlySortedBy
words_ascend [] named ascend = tt
words_ascend (pair ∷ pairs) named ascend = (above pairs named.1 ascend.0, words_ascend pairs named.1 ascend.1)
  where
    above : (others : List Pair) → AllByRecursion AreNames others → AllByRecursion (λ other. pair_cmp pair other ≡ Less) others → AllByRecursion (λ words. name_cmp (words_of_pair pair) words ≡ Less) (map words_of_pair others)
    above [] others_named less = tt
    above (other ∷ others) others_named less = (words_cmp _ _ pair.0 other.0 pair.1 other.1 named.0.0 others_named.0.0 ∙ less.0, above others others_named.1 less.1)

-- an offer of a view
offer_right : (tenant : List ℕ) (view : View) → IsOrderly view → AreToOthers tenant view → AllByRecursion IsName (keys view.objects) → (key : Pair) (offer : Made) → get view.made key ≡ Some offer → IsOffer tenant (offer_kept (key, offer))
offer_right tenant view orderly to_others names key offer is =
    let may = orderly.offers key offer is in
    let right = references_right view.objects offer.repository.references may.references names in
    record { receiver_named = may.receiver; to_another = to_others key offer is; named = may.named; told = record { branch = may.head; references = right.0; targets = right.1 } }

-- what is kept of an orderly view
view_right : (tenant : List ℕ) (view : View) → IsOrderly view → AreToOthers tenant view → IsTenantName tenant → AllByRecursion IsName (keys view.objects) → IsTenantState (state_kept (tenant, view))
view_right tenant view orderly to_others named names = record {
  named = named;
  limit = orderly.limit;
  few = (let count = len-entries view.repositories in let few = orderly.few_repositories in omega (arith, count, few));
  ordered = keys_ascend view.repositories;
  repositories = subst (AllByRecursion IsNamedRepository) (map_same (entries view.repositories)) (each_made name_total name_exact IsNamedRepository (λ e. e) view.repositories (repository_right view orderly names));
  seen_ordered = keys_ascend view.objects;
  seen = names;
  few_offers = (let count = len-entries view.made in let long = length-map (entries view.made) offer_kept in let few = orderly.few_offers in omega (arith, count, long, few));
  offers_ordered = subst Ascend (sym (words_made (entries view.made))) (words_ascend (keys view.made) (each_made pair_total pair_exact AreNames (λ e. e.0) view.made (λ key offer is. let may = orderly.offers key offer is in (may.receiver, may.named))) (sorted_entries view.made));
  offers = each_made pair_total pair_exact (IsOffer tenant) offer_kept view.made (offer_right tenant view orderly to_others names);
}

-- what is kept of an orderly world whose objects are under valid names
pub states_right : (world : World) → IsOrderlyWorld world → ((tenant : List ℕ) (view : View) → get world tenant ≡ Some view → AllByRecursion IsName (keys view.objects)) → IsStates (states_of world)
states_right world orderly names = record {
  few = (let count = len-entries world in let long = length-map (entries world) state_kept in let few = orderly.few in omega (arith, count, long, few));
  ordered = subst Ascend (sym (names_made (entries world))) (keys_ascend world);
  each = each_made name_total name_exact IsTenantState state_kept world (λ tenant view is. view_right tenant view (orderly.views tenant view is) (orderly.to_others tenant view is) (orderly.named tenant (ap is_some is)) (names tenant view is));
}
