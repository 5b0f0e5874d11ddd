-- The world that accounts show over a vault.
use Rattle.std.proofs.Common.{◌≡◌, ◌≢◌, ℕ, ◌&&◌, Bool, true, false, cond, List, [], ◌∷◌, Option, None, Some, refl, sym, ap, subst, ◌∙◌, is_some, length, suc}
use Rattle.std.specs.Prelude.{map, T}
use Rattle.std.specs.Cmp.{eq_by_cmp_equiv}
use Rattle.std.specs.Option.{option_map}
use Rattle.std.specs.Ordering.{eq_by_cmp, is_lt}
use Rattle.std.specs.FinMap.{find, is_sorted, get, get-entries, get-from_sorted, get-insert, entries, entries_sorted, entries-from_sorted, from_sorted, insert, len, len-entries, contains_key, same_map}
use Rattle.std.specs.FinMap.Entries.{below_all}
use Rattle.git_name.specs.Name.{name_cmp}
use Rattle.git_name.proofs.Names.{name_total, name_exact}
use Rattle.fork_ledger.specs.Private.{Private}
use Rattle.fork_reach.proofs.KeptObjects.{tied_names}
use Rattle.fork_ledger.specs.Tenants.{VaultState, private_of}
use Rattle.fork_host.specs.Shown.{Account, HostState, entry_shown, seen_by, shown, world_of}

abbrev Rows : Type 0
Rows = List (List ℕ × Account)

-- views are under the names of their accounts, in the same order
same_below : (vault : VaultState) (k : List ℕ) (es : Rows) → below_all name_cmp k (map (entry_shown vault) es) ≡ below_all name_cmp k es
same_below vault k [] = refl
same_below vault k (e ∷ es) = ap (λ b. is_lt (name_cmp k e.0) && b) (same_below vault k es)

pub same_sorted : (vault : VaultState) (es : Rows) → is_sorted name_cmp (map (entry_shown vault) es) ≡ is_sorted name_cmp es
same_sorted vault [] = refl
same_sorted vault (e ∷ es) = ap (λ b. b && is_sorted name_cmp (map (entry_shown vault) es)) (same_below vault e.0 es) ∙ ap (λ b. below_all name_cmp e.0 es && b) (same_sorted vault es)

find_shown : (vault : VaultState) (t : List ℕ) (es : Rows) → find name_cmp t (map (entry_shown vault) es) ≡ option_map (λ account. shown account vault t) (find name_cmp t es)
find_shown vault t [] = refl
find_shown vault t (e ∷ es) = by (eq_by_cmp name_cmp t e.0) refl (find_shown vault t es)
  where
    by : (b : Bool) → eq_by_cmp name_cmp t e.0 ≡ b → find name_cmp t (map (entry_shown vault) es) ≡ option_map (λ account. shown account vault t) (find name_cmp t es)
        → cond b (Some (shown e.1 vault e.0)) (find name_cmp t (map (entry_shown vault) es)) ≡ option_map (λ account. shown account vault t) (cond b (Some e.1) (find name_cmp t es))
    by true same rest = ap (λ q. Some (shown e.1 vault q)) (sym (tied_names t e.0 same))
    by false apart rest = rest

-- a look-up in the world
pub get_world : (state : HostState) (t : List ℕ) → get (world_of state) t ≡ option_map (λ account. shown account state.vault t) (get state.accounts t)
unfolding world_of
get_world state t =
    get-from_sorted name_cmp (map (entry_shown state.vault) (entries state.accounts)) t (subst T (sym (same_sorted state.vault (entries state.accounts))) (entries_sorted state.accounts))
    ∙ find_shown state.vault t (entries state.accounts)
    ∙ ap (option_map (λ account. shown account state.vault t)) (sym (get-entries state.accounts t))

as_long : {A B : Type 0} (f : A → B) (xs : List A) → length (map f xs) ≡ length xs
as_long f [] = refl
as_long f (x ∷ xs) = ap (λ n. suc n) (as_long f xs)

-- its entries
pub entries_world : (state : HostState) → entries (world_of state) ≡ map (entry_shown state.vault) (entries state.accounts)
unfolding world_of
entries_world state = entries-from_sorted name_cmp (map (entry_shown state.vault) (entries state.accounts)) (subst T (sym (same_sorted state.vault (entries state.accounts))) (entries_sorted state.accounts))

-- as many tenants as accounts
pub len_world : (state : HostState) → len (world_of state) ≡ len state.accounts
unfolding world_of
len_world state =
    len-entries (from_sorted {R = name_cmp} (map (entry_shown state.vault) (entries state.accounts)))
    ∙ ap length (entries_world state) ∙ as_long (entry_shown state.vault) (entries state.accounts) ∙ sym (len-entries state.accounts)

pub known_world : (state : HostState) (t : List ℕ) → contains_key (world_of state) t ≡ contains_key state.accounts t
known_world state t = ap is_some (get_world state t) ∙ by (get state.accounts t)
  where
    by : (o : Option Account) → is_some (option_map (λ account. shown account state.vault t) o) ≡ is_some o
    by None = refl
    by (Some account) = refl

pub distinct : (t q : List ℕ) → q ≡ t → eq_by_cmp name_cmp q t ≡ false → ⊥
distinct t q same apart = cc (sym apart ∙ (ap (λ n. eq_by_cmp name_cmp n t) same ∙ (eq_by_cmp_equiv name_total).refl t))

-- one account is set, and only one tenant's part of the vault changes
pub world_set : (old new : HostState) (t : List ℕ) (account : Account) → new.accounts ≡ insert old.accounts t account
    → ((q : List ℕ) → q ≢ t → private_of new.vault.tenants q ≡ private_of old.vault.tenants q) → world_of new ≡ insert (world_of old) t (shown account new.vault t)
world_set old new t account set others =
    same_map name_total name_exact (world_of new) (insert (world_of old) t (shown account new.vault t)) (λ q.
    get_world new q ∙ ap (λ m. option_map (λ a. shown a new.vault q) (get m q)) set ∙ ap (option_map (λ a. shown a new.vault q)) (get-insert name_total old.accounts t account q)
    ∙ at q (eq_by_cmp name_cmp q t) refl
    ∙ sym (get-insert name_total (world_of old) t (shown account new.vault t) q))
  where
    at : (q : List ℕ) (b : Bool) → eq_by_cmp name_cmp q t ≡ b → option_map (λ a. shown a new.vault q) (cond b (Some account) (get old.accounts q)) ≡ cond b (Some (shown account new.vault t)) (get (world_of old) q)
    at q true same = ap (λ k. Some (shown account new.vault k)) (tied_names q t same)
    at q false apart =
        let differs : q ≢ t = λ same. distinct t q same apart in
        ap (λ (own : Private). option_map (λ (a : Account). seen_by a own) (get old.accounts q)) (others q differs) ∙ sym (get_world old q)
