-- Offers in order, by pairs of names and by words.
use Rattle.std.proofs.Common.{arith, Bool, true, false, cond, ◌≡◌, ℕ, ◌+◌, ◌<◌, List, [], ◌∷◌, ◌++◌, Some, refl, sym, ap, subst, ◌∙◌, get_or, length, take, drop, map}
use Rattle.std.specs.declared.cmp.Ordering.{Ordering}
use Rattle.std.specs.declared.cmp.Ordering.TheVariants.{Less, Equal, Greater}
use Rattle.std.specs.Ordering.{eq_by_cmp, is_eq, ordering_reverse}
use Rattle.std.specs.Cmp.{IsTotalOrder}
use Rattle.std.specs.Prelude.{Contains}
use Rattle.std.specs.List.{AllByRecursion}
use Rattle.std.specs.List.Sorted.{IsStrictlySortedBy}
use Rattle.std.specs.FinMap.{empty, entries, entries-insert, find, get, get-entries, insert, len-empty, len-entries}
use Rattle.std.specs.FinMap.Entries.{put}
use Rattle.std.proofs.lemmas.List.{append_assoc, map-append}
use Rattle.git_name.specs.Name.{name_cmp}
use Rattle.git_name.proofs.SortedNames.{sorted_entries}
use Rattle.git_reftx.specs.Repository.{Repository}
use Rattle.fork_request.specs.Names.{IsTenantName}
use Rattle.fork_model.specs.Offer.{Pair, pair_cmp}
use Rattle.fork_model.proofs.EntryLemmas.{each_made, pair_exact, pair_total}
use Rattle.fork_model.proofs.KeptLemmas.{found_value}
use Rattle.state_text.specs.Offer.{Offer, words_of_offer}
use Rattle.state_text.specs.Adding.{AreBefore, with_offer}
use Rattle.state_text.specs.States.{Ascend, IsOffer, TenantState}
use Rattle.state_text.proofs.BehindLemmas.{map_behind, nothing_in}
use Rattle.state_text.proofs.OrderLemmas.{words_cmp}
use Rattle.fork_host.specs.Keeping.{with_offers}
use Rattle.fork_host.specs.Made.{IsToAnother, Made, entry_of, offer_told, pair_of}
use Rattle.fork_host.proofs.GatherLemmas.{parts_at, taken_more}
use Rattle.fork_host.proofs.KeepingLemmas.{before_next_by}

-- an entry whose key comes after all others is inserted at the end
put_last : {K X : Type 0} {R : K → K → Ordering} → IsTotalOrder R → (es : List (K × X)) (key : K) (value : X) → AllByRecursion (λ other. R other key ≡ Less) (map (λ e. e.0) es) → put R key value es ≡ es ++ (key, value) ∷ []
put_last total [] key value ahead = refl
put_last {R = R} total (e ∷ es) key value ahead = (let above : R key e.0 ≡ _ = total.antisymm key e.0 ∙ ap ordering_reverse ahead.0 in rw above (ap (λ fs. e ∷ fs) (put_last total es key value ahead.1)))

-- of keys in order, those at the front come before the next
ahead : {K : Type 0} (R : K → K → Ordering) (xs : List K) (x : K) (ys : List K) → IsStrictlySortedBy R (xs ++ x ∷ ys) → AllByRecursion (λ other. R other x ≡ Less) xs
unfolding IsStrictlySortedBy
ahead R [] x ys sorted = tt
ahead R (k ∷ xs) x ys sorted = (at xs sorted.0, ahead R xs x ys sorted.1)
  where
    at : (zs : List _) → AllByRecursion (λ y. R k y ≡ Less) (zs ++ x ∷ ys) → R k x ≡ Less
    at [] all = all.0
    at (z ∷ zs) all = at zs all.1

keys_gathered : (offers : List Offer) → map (λ e. e.0) (map entry_of offers) ≡ map pair_of offers
keys_gathered [] = refl
keys_gathered (offer ∷ offers) = ap (λ ks. pair_of offer ∷ ks) (keys_gathered offers)

-- the offers of a list when the next one is added
pub offers_more : (list : List Offer) (old new : Made) (i : ℕ) (item : Offer) (receiver name : List ℕ) (repository : Repository) → IsStrictlySortedBy pair_cmp (map pair_of list) → i < length list → item ≡ get_or list i item
    → receiver ≡ item.receiver → name ≡ item.name → repository ≡ item.repository → new ≡ insert old (receiver, name) repository → entries old ≡ map entry_of (take i list) → entries new ≡ map entry_of (take (i + 1) list)
offers_more list old new i item receiver name repository ascend inside is to called of set so_far =
    let parts = ap (map pair_of) (parts_at list i item inside is) ∙ map-append pair_of (take i list) (item ∷ drop (i + 1) list) in
    let before = subst (AllByRecursion (λ other. pair_cmp other (pair_of item) ≡ Less)) (sym (ap (map (λ e. e.0)) so_far ∙ keys_gathered (take i list)))
    (ahead pair_cmp (map pair_of (take i list)) (pair_of item) (map pair_of (drop (i + 1) list)) (subst (IsStrictlySortedBy pair_cmp) parts ascend)) in
    let one : new ≡ insert old (pair_of item) item.repository = set ∙ (λ k. insert old (to k, called k) (of k)) in
    ap (λ (m : Made). entries m) one ∙ entries-insert pair_total old (pair_of item) item.repository ∙ put_last pair_total (entries old) (pair_of item) item.repository before
    ∙ ap (λ es. es ++ entry_of item ∷ []) so_far ∙ sym (map-append entry_of (take i list) (item ∷ [])) ∙ ap (map entry_of) (sym (taken_more list i item inside is))

pub no_offers : entries (empty {K = Pair} {X = Repository} {R = pair_cmp}) ≡ []
no_offers = nothing_in (entries (empty {K = Pair} {X = Repository} {R = pair_cmp})) (let counted = len-entries (empty {K = Pair} {X = Repository} {R = pair_cmp}) in let none = len-empty pair_cmp Repository in omega (arith, counted, none))

-- offers of a state whose words ascend do so by receiver, then by name
pub pairs_ascend : (giver : List ℕ) (offers : List Offer) → AllByRecursion (IsOffer giver) offers → Ascend (map words_of_offer offers) → IsStrictlySortedBy pair_cmp (map pair_of offers)
unfolding IsStrictlySortedBy
pairs_ascend giver [] right ascend = tt
pairs_ascend giver (offer ∷ offers) right ascend = (above offers right.1 ascend.0, pairs_ascend giver offers right.1 ascend.1)
  where
    above : (others : List Offer) → AllByRecursion (IsOffer giver) others → AllByRecursion (λ words. name_cmp (words_of_offer offer) words ≡ Less) (map words_of_offer others) → AllByRecursion (λ other. pair_cmp (pair_of offer) other ≡ Less) (map pair_of others)
    above [] named less = tt
    above (other ∷ others) named less = (sym (words_cmp _ _ offer.receiver other.receiver offer.name other.name right.0.receiver_named named.0.receiver_named) ∙ less.0, above others named.1 less.1)

-- and offers that are kept are listed in the order of their words
words_ascend : (es : List (Pair × Repository)) → AllByRecursion (λ e. IsTenantName e.0.0) es → IsStrictlySortedBy pair_cmp (map (λ e. e.0) es) → Ascend (map words_of_offer (map offer_told es))
unfolding IsStrictlySortedBy
words_ascend [] named ascend = tt
words_ascend (e ∷ es) named ascend = (above es named.1 ascend.0, words_ascend es named.1 ascend.1)
  where
    above : (fs : List (Pair × Repository)) → AllByRecursion (λ f. IsTenantName f.0.0) fs → AllByRecursion (λ other. pair_cmp e.0 other ≡ Less) (map (λ f. f.0) fs) → AllByRecursion (λ words. name_cmp (words_of_offer (offer_told e)) words ≡ Less) (map words_of_offer (map offer_told fs))
    above [] others less = tt
    above (f ∷ fs) others less = (words_cmp _ _ e.0.0 f.0.0 e.0.1 f.0.1 named.0 others.0 ∙ less.0, above fs others.1 less.1)

map_same : {A : Type 0} (xs : List A) → map (λ x. x) xs ≡ xs
map_same [] = refl
map_same (x ∷ xs) = ap (λ l. x ∷ l) (map_same xs)

pub told_ascend : (giver : List ℕ) (made : Made) → ((pair : Pair) (repository : Repository) → get made pair ≡ Some repository → IsToAnother giver pair) → Ascend (map words_of_offer (map offer_told (entries made)))
told_ascend giver made others =
    words_ascend (entries made)
    (subst (AllByRecursion (λ (e : Pair × Repository). IsTenantName e.0.0)) (map_same (entries made)) (each_made pair_total pair_exact (λ (e : Pair × Repository). IsTenantName e.0.0) (λ e. e) made (λ pair repository is. (others pair repository is).named)))
    (sorted_entries made)

at_place : {A : Type 0} (P : A → Type 0) (xs : List A) (x : A) (ys : List A) → AllByRecursion P (xs ++ x ∷ ys) → P x
at_place P [] x ys all = all.0
at_place P (z ∷ xs) x ys all = at_place P xs x ys all.1

-- the next offer that is kept is to another tenant, and is listed after those before it
module _ (giver : List ℕ) (made : Made) (others : (pair : Pair) (repository : Repository) → get made pair ≡ Some repository → IsToAnother giver pair) (front : List (Pair × Repository)) (e : Pair × Repository) (back : List (Pair × Repository))
    (are : front ++ e ∷ back ≡ entries made) where
  pub next_other : IsToAnother giver e.0
  next_other =
      at_place (λ (f : Pair × Repository). IsToAnother giver f.0) front e back
      (subst (AllByRecursion (λ (f : Pair × Repository). IsToAnother giver f.0)) (map_same (entries made) ∙ sym are) (each_made pair_total pair_exact (λ (f : Pair × Repository). IsToAnother giver f.0) (λ f. f) made others))

  pub next_words : AreBefore (map words_of_offer (map offer_told front)) (words_of_offer (offer_told e))
  next_words =
      before_next_by words_of_offer (map offer_told front) (offer_told e) (map offer_told back)
      (subst (λ offers. Ascend (map words_of_offer offers)) (ap (map offer_told) (sym are) ∙ map-append offer_told front (e ∷ back)) (told_ascend giver made others))

-- one more of them is listed
pub told_more : (state : TenantState) (front : List (Pair × Repository)) (e : Pair × Repository) → with_offer (with_offers state (map offer_told front)) (offer_told e) ≡ with_offers state (map offer_told (front ++ e ∷ []))
told_more state front e = λ i. record state { offers = (append_assoc state.offers (map offer_told front) (offer_told e ∷ []) ∙ ap (λ offers. state.offers ++ offers) (sym (map_behind offer_told front e))) i }

is_equal : (order : Ordering) → is_eq order ≡ true → order ≡ Equal
is_equal Less is = cc
is_equal Equal is = refl
is_equal Greater is = cc

-- what holds of each entry holds of one that is found
found_in : (P : Pair × Repository → Type 0) (es : List (Pair × Repository)) (pair : Pair) (repository : Repository) → AllByRecursion P es → find pair_cmp pair es ≡ Some repository → P (pair, repository)
found_in P [] pair repository all is = absurd (cc)
found_in P (e ∷ es) pair repository all is = by (eq_by_cmp pair_cmp pair e.0) refl is (found_in P es pair repository all.1)
  where
    by : (b : Bool) → eq_by_cmp pair_cmp pair e.0 ≡ b → cond b (Some e.1) (find pair_cmp pair es) ≡ Some repository → (find pair_cmp pair es ≡ Some repository → P (pair, repository)) → P (pair, repository)
    by true tied same rest =
        let one : e.1 ≡ repository = cc in
        subst P (λ i. (sym (pair_exact pair e.0 (is_equal _ tied)) i, one i)) all.0
    by false apart same rest = rest same

told_right : (giver : List ℕ) (offers : List Offer) → AllByRecursion (IsOffer giver) offers → AllByRecursion (λ e. IsOffer giver (offer_told e)) (map entry_of offers)
told_right giver [] right = tt
told_right giver (offer ∷ offers) right = (right.0, told_right giver offers right.1)

-- an offer that was gathered is one of the state's
pub offer_gathered : (giver : List ℕ) (offers : List Offer) (made : Made) → AllByRecursion (IsOffer giver) offers → entries made ≡ map entry_of offers → (pair : Pair) (repository : Repository) → get made pair ≡ Some repository
    → IsOffer giver (offer_told (pair, repository))
offer_gathered giver offers made right are pair repository is =
    found_in (λ e. IsOffer giver (offer_told e)) (entries made) pair repository (subst (AllByRecursion (λ e. IsOffer giver (offer_told e))) (sym are) (told_right giver offers right)) (sym (get-entries made pair) ∙ is)

repositories_told : (offers : List Offer) → map (λ e. e.1) (map entry_of offers) ≡ map (λ (offer : Offer). offer.repository) offers
repositories_told [] = refl
repositories_told (offer ∷ offers) = ap (λ rs. offer.repository ∷ rs) (repositories_told offers)

-- and so is its repository
pub repository_gathered : (offers : List Offer) (made : Made) → entries made ≡ map entry_of offers → (pair : Pair) (repository : Repository) → get made pair ≡ Some repository → Contains (map (λ (offer : Offer). offer.repository) offers) repository
repository_gathered offers made are pair repository is =
    subst (λ rs. Contains rs repository) (ap (map (λ e. e.1)) are ∙ repositories_told offers) (found_value pair_cmp pair repository (entries made) (sym (get-entries made pair) ∙ is))
