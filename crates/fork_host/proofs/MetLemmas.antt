-- What a request meets of what others have offered, in the world that accounts show over a vault.
use Rattle.std.proofs.Common.{◌≡◌, ℕ, Bool, true, false, cond, List, [], ◌∷◌, ◌++◌, Option, None, Some, refl, sym, ap, subst, ◌∙◌, is_some, map}
use Rattle.std.specs.Prelude.{T, codes, filter}
use Rattle.std.specs.declared.cmp.Ordering.{Ordering}
use Rattle.std.specs.declared.cmp.Ordering.TheVariants.{Equal}
use Rattle.std.specs.Cmp.{IsTotalOrder}
use Rattle.std.specs.Option.{option_and_then, option_map}
use Rattle.std.specs.List.{flat_map}
use Rattle.std.specs.FinMap.{FinMap, IsAntisymmetric, entries, entries_sorted, entries-from_sorted, from_sorted, get, get-entries, get-from_sorted, get-retain_keys, retain_keys, same_map}
use Rattle.std.specs.FinMap.Entries.{find-where_key, is_sorted-where_key}
use Rattle.std.proofs.lemmas.List.{append_assoc, map-append}
use Rattle.git_name.specs.Maps.{mapped}
use Rattle.git_name.specs.Name.{name_cmp}
use Rattle.git_name.specs.Same.{same_name}
use Rattle.git_name.proofs.MapLemmas.{entries_map_values}
use Rattle.git_reftx.specs.Repository.{Repository}
use Rattle.fork_request.specs.Names.{IsRepositoryName, IsTenantName}
use Rattle.fork_ledger.specs.Tenants.{VaultState}
use Rattle.fork_model.specs.Answer.{offer_row, offer_rows}
use Rattle.fork_model.specs.Context.{given_by, met_by, offered_to}
use Rattle.fork_model.specs.Offer.{Offer, Pair, offered}
use Rattle.fork_model.specs.Sound.{IsOffer, IsOrderlyWorld}
use Rattle.fork_model.specs.View.{View}
use Rattle.fork_model.proofs.EntryLemmas.{pair_exact, pair_total}
use Rattle.fork_model.proofs.OfferedLemmas.{get_offered, given_by_one, offered_entries}
use Rattle.fork_host.specs.Made.{made_shown, rows_from}
use Rattle.fork_host.specs.Meeting.{MeetsOffer}
use Rattle.fork_host.specs.Own.{visible_in}
use Rattle.fork_host.specs.Shown.{Account, HostState, entry_shown, shown, world_of}
use Rattle.fork_host.proofs.MadeLemmas.{get_shown}
use Rattle.fork_host.proofs.WorldLemmas.{get_world, same_sorted}

abbrev Rows : Type 0
Rows = List (List ℕ × Account)

-- the entries whose keys pass a test, in their order
entries_retained : {K X : Type 0} {R : K → K → Ordering} → IsTotalOrder R → IsAntisymmetric R → (m : FinMap R X) (kept : K → Bool) → entries (retain_keys m kept) ≡ filter (λ e. kept e.0) (entries m)
entries_retained {K} {R = R} total exact m kept =
    let left = filter (λ e. kept e.0) (entries m) in
    let alike : (q x : K) → R q x ≡ Equal → kept x ≡ kept q = λ q x same. ap kept (sym (exact q x same)) in
    let sorted = is_sorted-where_key R kept (entries m) (entries_sorted m) in
    ap entries (same_map total exact (retain_keys m kept) (from_sorted left) (λ q.
    get-retain_keys m kept q (alike q) ∙ ap (λ o. cond (kept q) o None) (get-entries m q) ∙ sym (find-where_key R kept q (alike q) (entries m)) ∙ sym (get-from_sorted R left q sorted)))
    ∙ entries-from_sorted R left sorted

-- the entries of the world are those of the accounts, each shown
entries_world : (state : HostState) → entries (world_of state) ≡ map (entry_shown state.vault) (entries state.accounts)
unfolding world_of
entries_world state = entries-from_sorted name_cmp (map (entry_shown state.vault) (entries state.accounts)) (subst T (sym (same_sorted state.vault (entries state.accounts))) (entries_sorted state.accounts))

-- ---- rows
flat_behind : {A B : Type 0} (f : A → List B) (xs ys : List A) → flat_map f (xs ++ ys) ≡ flat_map f xs ++ flat_map f ys
flat_behind f [] ys = refl
flat_behind f (x ∷ xs) ys = ap (λ zs. f x ++ zs) (flat_behind f xs ys) ∙ sym (append_assoc (f x) (flat_map f xs) (flat_map f ys))

abbrev row : Pair → List ℕ
row = offer_row (codes "from ")

-- the rows of these offers of a giver
abbrev rows_given : List ℕ → List (Pair × Offer) → List ℕ
rows_given giver offers = flat_map row (map (λ (e : Pair × Offer). e.0) (map (λ (offer : Pair × Offer). ((giver, offer.0.1), offer.1)) offers))

-- the offers to this receiver give the rows that the repositories give
rows_kept : (giver receiver : List ℕ) (show : Repository → Offer) (es : List (Pair × Repository))
    → rows_given giver (filter (λ (e : Pair × Offer). same_name e.0.0 receiver) (mapped show es)) ≡ flat_map (λ (key : Pair). cond (same_name key.0 receiver) (row (giver, key.1)) []) (map (λ e. e.0) es)
rows_kept giver receiver show [] = refl
rows_kept giver receiver show (e ∷ es) = by (same_name e.0.0 receiver) _ (rows_kept giver receiver show es)
  where
    left : List (Pair × Offer)
    left = filter (λ (f : Pair × Offer). same_name f.0.0 receiver) (mapped show es)

    by : (b : Bool) (rest : List ℕ) → rows_given giver left ≡ rest → rows_given giver (cond b ((e.0, show e.1) ∷ left) left) ≡ cond b (row (giver, e.0.1)) [] ++ rest
    by true rest is = ap (λ text. row (giver, e.0.1) ++ text) is
    by false rest is = is

-- the rows of what one account gives
rows_of_one : (vault : VaultState) (receiver : List ℕ) (e : List ℕ × Account) → flat_map row (map (λ (o : Pair × Offer). o.0) (given_by receiver (entry_shown vault e))) ≡ rows_from e.0 receiver e.1.made
rows_of_one vault receiver e =
    let seen = visible_in vault e.0 in
    ap (rows_given e.0) (entries_retained pair_total pair_exact (made_shown seen e.1.made) (λ key. same_name key.0 receiver)
    ∙ ap (filter (λ (o : Pair × Offer). same_name o.0.0 receiver)) (entries_map_values (offered seen) e.1.made))
    ∙ rows_kept e.0 receiver (offered seen) (entries e.1.made)

-- and of what all accounts give
rows_of_all : (vault : VaultState) (receiver : List ℕ) (es : Rows)
    → flat_map row (map (λ (o : Pair × Offer). o.0) (flat_map (given_by receiver) (map (entry_shown vault) es))) ≡ flat_map (λ (e : List ℕ × Account). rows_from e.0 receiver e.1.made) es
rows_of_all vault receiver [] = refl
rows_of_all vault receiver (e ∷ es) =
    let first = given_by receiver (entry_shown vault e) in
    let others = flat_map (given_by receiver) (map (entry_shown vault) es) in
    ap (flat_map row) (map-append (λ (o : Pair × Offer). o.0) first others)
    ∙ flat_behind row (map (λ (o : Pair × Offer). o.0) first) (map (λ (o : Pair × Offer). o.0) others)
    ∙ (λ i. rows_of_one vault receiver e i ++ rows_of_all vault receiver es i)

-- the rows that the accounts give are those of what is offered
pub rows_met : (state : HostState) (receiver : List ℕ) → flat_map (λ (e : List ℕ × Account). rows_from e.0 receiver e.1.made) (entries state.accounts) ≡ offer_rows (codes "from ") (offered_to (world_of state) receiver)
rows_met state receiver =
    sym (ap (λ (es : List (Pair × Offer)). flat_map row (map (λ (o : Pair × Offer). o.0) es)) (offered_entries (world_of state) receiver ∙ ap (flat_map (given_by receiver)) (entries_world state))
    ∙ rows_of_all state.vault receiver (entries state.accounts))

-- ---- one offer
-- what an account offers to a receiver under a word, if these objects are seen
abbrev offered_by : VaultState → List ℕ → List ℕ → List ℕ → Option Account → Option Offer
offered_by vault giver receiver word = option_and_then (λ (account : Account). option_map (offered (visible_in vault giver)) (get account.made (receiver, word)))

offer_at : (state : HostState) (receiver giver word : List ℕ) → get (offered_to (world_of state) receiver) (giver, word) ≡ offered_by state.vault giver receiver word (get state.accounts giver)
offer_at state receiver giver word =
    get_offered (world_of state) receiver giver word ∙ ap (option_and_then (λ (view : View). get view.made (receiver, word))) (get_world state giver) ∙ by (get state.accounts giver)
  where
    by : (o : Option Account) → option_and_then (λ (view : View). get view.made (receiver, word)) (option_map (λ account. shown account state.vault giver) o) ≡ offered_by state.vault giver receiver word o
    by None = refl
    by (Some account) = get_shown (visible_in state.vault giver) account.made (receiver, word)

-- if no tenant has the giver's name, nothing is offered
pub no_giver : (state : HostState) (receiver giver word : List ℕ) → get state.accounts giver ≡ None → get (offered_to (world_of state) receiver) (giver, word) ≡ None
no_giver state receiver giver word none = offer_at state receiver giver word ∙ ap (offered_by state.vault giver receiver word) none

-- the giver has made no such offer
pub no_offer : (state : HostState) (receiver giver word : List ℕ) (account : Account) → get state.accounts giver ≡ Some account → get account.made (receiver, word) ≡ None → get (offered_to (world_of state) receiver) (giver, word) ≡ None
no_offer state receiver giver word account here none =
    offer_at state receiver giver word ∙ ap (offered_by state.vault giver receiver word) here ∙ ap (option_map (offered (visible_in state.vault giver))) none

absent : {A : Type 0} (o : Option A) → ((x : A) → o ≡ Some x → ⊥) → o ≡ None
absent None not_some = refl
absent (Some x) not_some = absurd (not_some x refl)

-- the names of offers in an orderly world are valid, so nothing is offered under other words
pub no_tenant_name : (state : HostState) (receiver giver word : List ℕ) → IsOrderlyWorld (world_of state) → ¬ IsTenantName giver → get (offered_to (world_of state) receiver) (giver, word) ≡ None
no_tenant_name state receiver giver word orderly wrong = absent (get (offered_to (world_of state) receiver) (giver, word)) (λ offer is.
    wrong (orderly.named giver (ap is_some (given_by_one (world_of state) receiver (giver, word) offer is).there)))

pub no_repository_name : (state : HostState) (receiver giver word : List ℕ) → IsOrderlyWorld (world_of state) → ¬ IsRepositoryName word → get (offered_to (world_of state) receiver) (giver, word) ≡ None
no_repository_name state receiver giver word orderly wrong = absent (get (offered_to (world_of state) receiver) (giver, word)) (λ offer is.
    let given = given_by_one (world_of state) receiver (giver, word) offer is in
    wrong (((orderly.views giver given.view given.there).offers (receiver, word) offer given.made).named))

-- an existing offer is met as it is kept
pub offer_met : (state : HostState) (receiver giver word who : List ℕ) (account : Account) (repository : Repository) → IsOrderlyWorld (world_of state) → who ≡ giver → get state.accounts giver ≡ Some account → get account.made (receiver, word) ≡ Some repository
    → MeetsOffer state.vault (met_by (world_of state) receiver) giver word who repository
offer_met state receiver giver word who account repository orderly same here made =
    let seen = visible_in state.vault giver in
    let view = shown account state.vault giver in
    let there = get_shown seen account.made (receiver, word) ∙ ap (option_map (offered seen)) made in
    let right : IsOffer seen (receiver, word) (offered seen repository) =
    (orderly.views giver view (get_world state giver ∙ ap (option_map (λ a. shown a state.vault giver)) here)).offers (receiver, word) (offered seen repository) there in
    record {
      named = same;
      stands = offer_at state receiver giver word ∙ ap (offered_by state.vault giver receiver word) here ∙ ap (option_map (offered seen)) made;
      head = right.head;
      references = right.references;
    }
