-- What is appended to a state, in order.
use Rattle.std.proofs.Common.{◌≡◌, ℕ, ◌<◌, ◌≤◌, List, [], ◌∷◌, ◌++◌, Some, refl, sym, ap, subst, ◌∙◌, get_or, length, map, length-append, arith}
use Rattle.std.specs.Prelude.{All, T}
use Rattle.std.proofs.lemmas.List.{append_assoc, length-map, map-append}
use Rattle.std.specs.Option.{option_map}
use Rattle.std.specs.FinMap.{entries, entries_sorted, entries-from_sorted, get, len-entries}
use Rattle.std.specs.List.{AllByRecursion}
use Rattle.std.specs.List.Sorted.{IsStrictlySortedBy}
use Rattle.git_name.specs.Name.{name_cmp}
use Rattle.git_reftx.proofs.PushLemmas.{keys_ascend}
use Rattle.fork_model.specs.Sound.{AreToOthers, IsOrderly, IsOrderlyWorld}
use Rattle.fork_model.specs.declared.limits.TheConstants.{MAX_TENANTS}
use Rattle.state_text.specs.Adding.{AreBefore}
use Rattle.state_text.specs.Kept.{state_kept, states_of}
use Rattle.state_text.specs.States.{Ascend, States}
use Rattle.state_text.proofs.BehindLemmas.{before_last, map_behind}
use Rattle.fork_ledger.specs.Tenants.{VaultState}
use Rattle.fork_host.specs.Shown.{Account, HostState, entry_shown, shown, world_of}
use Rattle.fork_host.proofs.WorldLemmas.{get_world, len_world, same_sorted}

each_before : {A : Type 0} (P : A → Type 0) (xs ys : List A) → AllByRecursion P (xs ++ ys) → AllByRecursion P xs
each_before P [] ys each = tt
each_before P (x ∷ xs) ys each = (each.0, each_before P xs ys each.1)

-- the first of names in order are in order
ascend_first : (xs ys : List (List ℕ)) → Ascend (xs ++ ys) → Ascend xs
unfolding IsStrictlySortedBy
ascend_first [] ys sorted = tt
ascend_first (x ∷ xs) ys sorted = (each_before _ xs ys sorted.0, ascend_first xs ys sorted.1)

-- of names in order, those at the front come before the next one
pub before_next : (xs : List (List ℕ)) (x : List ℕ) (ys : List (List ℕ)) → Ascend (xs ++ x ∷ ys) → AreBefore xs x
before_next xs x ys sorted = before_last xs x (ascend_first (xs ++ x ∷ []) ys (subst Ascend (sym (append_assoc xs (x ∷ []) ys)) sorted))

-- of elements in order by their names
pub before_next_by : {A : Type 0} (name : A → List ℕ) (xs : List A) (x : A) (ys : List A) → Ascend (map name (xs ++ x ∷ ys)) → AreBefore (map name xs) (name x)
before_next_by name xs x ys sorted = before_next (map name xs) (name x) (map name ys) (subst Ascend (map-append name xs (x ∷ ys)) sorted)

-- one element moves from those that are left to those so far
pub moved : {A : Type 0} (xs : List A) (x : A) (ys : List A) → (xs ++ x ∷ []) ++ ys ≡ xs ++ x ∷ ys
moved xs x ys = append_assoc xs (x ∷ []) ys

-- those so far and those that are left are all, if one of these comes next
pub so_far : {A : Type 0} (xs : List A) (x : A) (ys left all : List A) → left ≡ x ∷ ys → xs ++ left ≡ all → xs ++ x ∷ ys ≡ all
so_far xs x ys left all next are = ap (λ rows. xs ++ rows) (sym next) ∙ are

-- there is room for one that is still left
pub room_for : {A : Type 0} (xs : List A) (x : A) (ys : List A) (most : ℕ) → length (xs ++ x ∷ ys) ≤ most → length xs < most
room_for xs x ys most few = (let long = length-append xs (x ∷ ys) in omega (arith, long, few))

-- what holds of all holds of one of them
pub all_at : {A : Type 0} (P : A → Type 0) (xs : List A) (x : A) (ys : List A) → All P (xs ++ x ∷ ys) → P x
all_at {A = A} P xs x ys all = subst P (here xs) (all (length xs) x (let long = length-append xs (x ∷ ys) in omega (arith, long)))
  where
    here : (zs : List A) → get_or (zs ++ x ∷ ys) (length zs) x ≡ x
    here [] = refl
    here (z ∷ zs) = here zs

abbrev Rows : Type 0
Rows = List (List ℕ × Account)

-- the states of these accounts
abbrev pub states_by : VaultState → Rows → States
states_by vault es = map state_kept (map (entry_shown vault) es)

-- the world's states are those of its accounts
pub all_states : (state : HostState) → states_by state.vault (entries state.accounts) ≡ states_of (world_of state)
unfolding world_of
all_states state = ap (map state_kept) (sym (entries-from_sorted name_cmp (map (entry_shown state.vault) (entries state.accounts)) (subst T (sym (same_sorted state.vault (entries state.accounts))) (entries_sorted state.accounts))))

-- one more account
pub state_more : (vault : VaultState) (es : Rows) (e : List ℕ × Account) → states_by vault (es ++ e ∷ []) ≡ states_by vault es ++ state_kept (e.0, shown e.1 vault e.0) ∷ []
state_more vault es e = ap (map state_kept) (map_behind (entry_shown vault) es e) ∙ map_behind state_kept (map (entry_shown vault) es) (entry_shown vault e)

names_of_states : (vault : VaultState) (es : Rows) → map (λ t. t.name) (states_by vault es) ≡ map (λ e. e.0) es
names_of_states vault [] = refl
names_of_states vault (e ∷ es) = ap (λ l. e.0 ∷ l) (names_of_states vault es)

as_many : (vault : VaultState) (es : Rows) → length (states_by vault es) ≡ length es
as_many vault es = length-map (map (entry_shown vault) es) state_kept ∙ length-map es (entry_shown vault)

-- the states so far come before the next account's
pub states_before : (state : HostState) (es : Rows) (e : List ℕ × Account) (rest : Rows) → es ++ e ∷ rest ≡ entries state.accounts → AreBefore (map (λ t. t.name) (states_by state.vault es)) e.0
states_before state es e rest are =
    subst (λ names. AreBefore names e.0) (sym (names_of_states state.vault es)) (before_next_by (λ row. row.0) es e rest (subst (λ rows. Ascend (map (λ row. row.0) rows)) (sym are) (keys_ascend state.accounts)))

-- and leave room for it
pub states_room : (state : HostState) (es : Rows) (e : List ℕ × Account) (rest : Rows) → es ++ e ∷ rest ≡ entries state.accounts → IsOrderlyWorld (world_of state) → length (states_by state.vault es) < MAX_TENANTS
states_room state es e rest are orderly =
    let many = as_many state.vault es in
    let room = room_for es e rest MAX_TENANTS (let few = orderly.few in let long = len_world state in let count = len-entries state.accounts in let same = ap (λ (rows : Rows). length rows) are in omega (arith, few, long, count, same)) in
    omega (arith, many, room)

-- an account that is found has an orderly view
pub orderly_at : (state : HostState) (tenant : List ℕ) (account : Account) → IsOrderlyWorld (world_of state) → get state.accounts tenant ≡ Some account → IsOrderly (shown account state.vault tenant)
orderly_at state tenant account orderly is =
    orderly.views tenant (shown account state.vault tenant) (get_world state tenant ∙ ap (option_map (λ (a : Account). shown a state.vault tenant)) is)

-- and its offers are to others
pub others_at : (state : HostState) (tenant : List ℕ) (account : Account) → IsOrderlyWorld (world_of state) → get state.accounts tenant ≡ Some account → AreToOthers tenant (shown account state.vault tenant)
others_at state tenant account orderly is =
    orderly.to_others tenant (shown account state.vault tenant) (get_world state tenant ∙ ap (option_map (λ (a : Account). shown a state.vault tenant)) is)
