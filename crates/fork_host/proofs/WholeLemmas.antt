-- States stay whole when tenants are added, and when one is answered.
use Rattle.std.proofs.Common.{◌≡◌, ◌≢◌, inl, inr, ℕ, ◌+◌, ◌<◌, ◌≤◌, Bool, true, false, cond, List, Option, None, Some, refl, sym, ap, subst, ◌∙◌, is_some}
use Rattle.std.specs.Option.{option_map, unwrap_or}
use Rattle.std.specs.Cmp.{eq_by_cmp_equiv}
use Rattle.std.specs.Ordering.{eq_by_cmp}
use Rattle.std.specs.FinMap.{contains_key, empty, get, get-empty, get-insert, insert, len, len-insert, same_map}
use Rattle.git_name.specs.Object.{Object}
use Rattle.git_name.specs.Name.{name_cmp}
use Rattle.git_name.proofs.Names.{name_total, name_exact}
use Rattle.fork_reach.proofs.KeptObjects.{at_key, tied_names}
use Rattle.fork_request.specs.Asked.{Ask}
use Rattle.fork_request.specs.Told.{is_host_fault}
use Rattle.fork_request.specs.declared.refusal.Refusal.TheVariants.{UnknownTenant}
use Rattle.fork_request.specs.declared.reply.Reply.{Reply}
use Rattle.fork_request.specs.declared.reply.Reply.TheVariants.{Refused}
use Rattle.fork_ledger.specs.Private.{Private, nothing}
use Rattle.fork_ledger.specs.Store.{LeavesStore}
use Rattle.fork_ledger.specs.Private.{Sees}
use Rattle.fork_ledger.specs.Store.{HoldOne}
use Rattle.fork_ledger.specs.Tenants.{VaultState, private_of, with_tenant}
use Rattle.fork_reach.specs.Objects.{Measures, measures_of}
use Rattle.fork_ledger.proofs.TenantLemmas.{private_new, there_new, there_others}
use Rattle.fork_model.specs.Answer.{answer}
use Rattle.fork_model.specs.Runs.{Asks, Unknown}
use Rattle.fork_request.specs.Names.{IsTenantName}
use Rattle.fork_model.specs.Offer.{Pair}
use Rattle.fork_model.specs.Context.{met_by, nothing_offered}
use Rattle.fork_model.specs.Sound.{AreToOthers, IsAlike, IsOrderly, IsOrderlyWorld, IsRightWorld, IsSoundWorld}
use Rattle.fork_model.specs.View.{View}
use Rattle.fork_model.specs.World.{HostSays, Steps}
use Rattle.fork_model.proofs.AlikeLemmas.{sound_beside}
use Rattle.fork_model.proofs.MadeLemmas.{to_others_answer}
use Rattle.fork_model.proofs.SoundWorlds.{right_step}
use Rattle.fork_model.proofs.Worlds.{answered}
use Rattle.fork_host.specs.Adding.{new_account, new_view}
use Rattle.fork_host.specs.Forked.{ForksOffered, HasForked}
use Rattle.fork_host.specs.Own.{IsOwn, IsReady, staged_in, visible_in}
use Rattle.fork_host.specs.Made.{made_shown}
use Rattle.fork_host.specs.Rows.{Gives, Given, Wanting, Yields}
use Rattle.fork_host.specs.Safe.{IsSafe}
use Rattle.fork_host.specs.Sent.{seen_in_world, seen_of, sent_by, sent_in_world, brought_by}
use Rattle.fork_host.specs.Shape.{SameOffers, SameShape, repositories_offered, view_shape}
use Rattle.fork_host.proofs.ShapeLemmas.{same_offers}
use Rattle.fork_host.specs.Shown.{Account, Accounts, HostState, IsWhole, Trusted, seen_by, shown, state_of, world_of}
use Rattle.fork_host.specs.Staged.{IsStaged}
use Rattle.fork_host.proofs.AddingLemmas.{orderly_more, orderly_none, right_more, right_none}
use Rattle.fork_host.proofs.RowLemmas.{answers_of}
use Rattle.fork_host.proofs.WorldLemmas.{distinct, get_world, known_world, len_world, world_set}
use Rattle.fork_host.proofs.SafeLemmas.{alike_shown, orderly_measured, shape_measured}
use Rattle.fork_host.proofs.MadeLemmas.{made_again, none_shown, same_made, shown_itself, still_made}
use Rattle.fork_host.proofs.UpdateLemmas.{found}
use Rattle.fork_host.proofs.StagedLemmas.{staged_still}

some_same : {X : Type 0} (x y : X) → Some x ≡ Some y → x ≡ y
some_same x y is = cc

-- without accounts the world has no tenants
pub world_none : (accounts : Accounts) (vault : VaultState) → accounts ≡ empty → world_of (state_of accounts vault) ≡ empty
world_none accounts vault none =
    same_map name_total name_exact _ _ (λ q. get_world (state_of accounts vault) q
    ∙ ap (option_map (λ account. shown account vault q)) (ap (λ m. get m q) none ∙ get-empty {X = Account} name_cmp q) ∙ sym (get-empty {X = View} name_cmp q))

no_account : (t : List ℕ) (account : Account) → get (empty {X = Account} {R = name_cmp}) t ≡ Some account → ⊥
no_account t account is = (let differs : ⊥ = cc (sym (get-empty {X = Account} name_cmp t) ∙ is) in differs)

pub whole_none : (accounts : Accounts) (vault : VaultState) → accounts ≡ empty → vault.tenants ≡ empty → IsWhole (state_of accounts vault)
whole_none accounts vault none empty_vault = record {
  orderly = subst IsOrderlyWorld (sym (world_none accounts vault none)) orderly_none;
  right = λ trusted. subst IsRightWorld (sym (world_none accounts vault none)) right_none;
  there = λ q. ap (λ m. contains_key m q) empty_vault ∙ ap is_some (get-empty {X = Private} name_cmp q ∙ none_twice) ∙ sym (ap (λ m. contains_key m q) none ∙ ap is_some (get-empty {X = Account} name_cmp q));
  staged = λ q account is. absurd (no_account q account (sym (ap (λ m. get m q) none) ∙ is));
}
  where
    none_twice : ◌≡◌ {A = Option Private} None None
    none_twice = refl

absent_nothing : (vault : VaultState) (t : List ℕ) → contains_key vault.tenants t ≡ false → private_of vault.tenants t ≡ nothing
absent_nothing vault t absent = by (get vault.tenants t) absent
  where
    by : (o : Option Private) → is_some o ≡ false → unwrap_or o nothing ≡ nothing
    by None is = refl
    by (Some own) is = absurd (cc)

-- a world with one more tenant
pub world_more : (old new : HostState) (t : List ℕ) (limit : ℕ) → IsWhole old → contains_key old.accounts t ≡ false → new.accounts ≡ insert old.accounts t (new_account limit)
    → new.vault.tenants ≡ with_tenant old.vault.tenants t → world_of new ≡ insert (world_of old) t (new_view limit)
world_more old new t limit whole absent added placed =
    let own : private_of new.vault.tenants t ≡ nothing = ap (λ m. private_of m t) placed ∙ private_new old.vault.tenants t t ∙ absent_nothing old.vault t (whole.there t ∙ absent) in
    world_set old new t (new_account limit) added (λ q differs. ap (λ m. private_of m q) placed ∙ private_new old.vault.tenants t q)
    ∙ ap (λ (p : Private). insert (world_of old) t (seen_by (new_account limit) p)) own ∙ ap (insert (world_of old) t) (λ i. record (new_view limit) { made = none_shown empty i })

pub whole_more : (old new : HostState) (t : List ℕ) (limit : ℕ) → IsTenantName t → IsWhole old → contains_key old.accounts t ≡ false → len old.accounts < 64 → limit ≤ 1099511627776
    → new.accounts ≡ insert old.accounts t (new_account limit) → new.vault.tenants ≡ with_tenant old.vault.tenants t → new.vault.honest ≡ old.vault.honest → IsWhole new
whole_more old new t limit of_tenant whole absent few low added placed honest = record {
  orderly = subst IsOrderlyWorld (sym (world_more old new t limit whole absent added placed))
      (orderly_more (world_of old) t limit of_tenant (known_world old t ∙ absent) (subst (λ n. n < 64) (sym (len_world old)) few) low whole.orderly);
  right = λ trusted. subst IsRightWorld (sym (world_more old new t limit whole absent added placed)) (right_more (world_of old) t limit (whole.right (sym honest ∙ trusted)));
  there = λ q. at q (eq_by_cmp name_cmp q t) refl;
  staged = λ q account is. elim (at_key (eq_by_cmp name_cmp q t) (new_account limit) account (get old.accounts q) (sym (get-insert name_total old.accounts t (new_account limit) q) ∙ sym (ap (λ m. get m q) added) ∙ is)) [
    | inl set ↦ subst (λ (a : Account). IsStaged new.vault.honest a.upload (staged_in new.vault q)) set.1 (stays q ∙ ap (λ k. staged_in old.vault k) (tied_names q t set.0) ∙ ap (λ p. p.staged) (absent_nothing old.vault t (whole.there t ∙ absent)))
    | inr before ↦ subst (λ h. IsStaged h account.upload (staged_in new.vault q)) (sym honest) (subst (IsStaged old.vault.honest account.upload) (sym (stays q)) (whole.staged q account before))
  ];
}
  where
    stays : (q : List ℕ) → staged_in new.vault q ≡ staged_in old.vault q
    stays q = ap (λ m. (private_of m q).staged) placed ∙ ap (λ p. p.staged) (private_new old.vault.tenants t q)

    differs : (q : List ℕ) → eq_by_cmp name_cmp q t ≡ false → q ≢ t
    differs q apart same = distinct t q same apart

    at : (q : List ℕ) (b : Bool) → eq_by_cmp name_cmp q t ≡ b → contains_key new.vault.tenants q ≡ contains_key new.accounts q
    at q true same =
        ap (λ m. contains_key m q) placed ∙ ap (contains_key (with_tenant old.vault.tenants t)) (tied_names q t same) ∙ there_new old.vault.tenants t
        ∙ sym (ap (λ m. contains_key m q) added ∙ ap is_some (get-insert name_total old.accounts t (new_account limit) q) ∙ ap (λ b. is_some (cond b (Some (new_account limit)) (get old.accounts q))) same)
    at q false apart =
        ap (λ m. contains_key m q) placed ∙ there_others old.vault.tenants t q (differs q apart) ∙ whole.there q
        ∙ sym (ap (λ m. contains_key m q) added ∙ ap is_some (get-insert name_total old.accounts t (new_account limit) q) ∙ ap (λ b. is_some (cond b (Some (new_account limit)) (get old.accounts q))) apart)

-- if neither the accounts nor the vault change, the state is the same
pub same_state : (accounts after : Accounts) (old new : VaultState) → after ≡ accounts → new.tenants ≡ old.tenants → LeavesStore old new → state_of after new ≡ state_of accounts old
same_state accounts after old new same placed leaves = λ i. state_of (same i) (record { tenants = placed i; files = leaves.files i; honest = leaves.honest i; failures = leaves.failures i; durability = leaves.durability i; places = leaves.places i })

-- an existing tenant is ready
pub ready : (state : HostState) (t : List ℕ) (account : Account) → IsWhole state → get state.accounts t ≡ Some account → IsReady state.vault t account.limit
ready state t account whole here =
    let view_is = get_world state t ∙ ap (option_map (λ a. shown a state.vault t)) here in
    record {
      there = whole.there t ∙ ap is_some here;
      within = (whole.orderly.views t (shown account state.vault t) view_is).within_limit;
    }

-- it is answered from its account, its own part of the vault, and what is offered to it; only the first two change
pub answered_step : (old new : HostState) (t : List ℕ) (ask : Ask) (account after : Account) (reply : Reply) → IsSoundWorld (world_of old) → IsAlike (world_of old) → get old.accounts t ≡ Some account → new.accounts ≡ insert old.accounts t after
    → Yields (answer (met_by (world_of old) t) (shown account old.vault t) ask) (shown account old.vault t) reply (shown after new.vault t) → IsOwn t old.vault new.vault → Trusted old → Steps (world_of old) (Asks t ask) reply (world_of new)
answered_step old new t ask account after reply sound alike here set gives own trusted =
    let view = shown account old.vault t in
    let view_is = get_world old t ∙ ap (option_map (λ a. shown a old.vault t)) here in
    answered name_cmp name_total name_exact met_by answer (Refused UnknownTenant) is_host_fault HostSays (world_of old) (world_of new) t ask view reply (shown after new.vault t)
    view_is (answers_of (met_by (world_of old) t) view (shown after new.vault t) ask reply (sound_beside (world_of old) t view sound alike view_is) (record { orderly = sound.orderly.views t view view_is; right = sound.right t view view_is })
    (shown_itself after (private_of new.vault.tenants t)) gives)
    (world_set old new t after set (own.others trusted))

pub unknown_step : (state : HostState) (t : List ℕ) (ask : Ask) → get state.accounts t ≡ None → Steps (world_of state) (Asks t ask) (Refused UnknownTenant) (world_of state)
unknown_step state t ask none = Unknown (get_world state t ∙ ap (option_map (λ a. shown a state.vault t)) none) refl refl

-- one account is set
account_set : (old new : HostState) (t q : List ℕ) (after : Account) → new.accounts ≡ insert old.accounts t after → get new.accounts q ≡ cond (eq_by_cmp name_cmp q t) (Some after) (get old.accounts q)
account_set old new t q after set = ap (λ m. get m q) set ∙ get-insert name_total old.accounts t after q

at_own : (old new : HostState) (t q : List ℕ) (after : Account) → new.accounts ≡ insert old.accounts t after → eq_by_cmp name_cmp q t ≡ true → get (world_of new) q ≡ Some (shown after new.vault t)
at_own old new t q after set tied =
    get_world new q ∙ ap (λ k. option_map (λ a. shown a new.vault k) (get new.accounts k)) (tied_names q t tied)
    ∙ ap (option_map (λ a. shown a new.vault t)) (account_set old new t t after set ∙ ap (λ b. cond b (Some after) (get old.accounts t)) ((eq_by_cmp_equiv name_total).refl t))

pub at_other : (old new : HostState) (t q : List ℕ) (after : Account) → new.accounts ≡ insert old.accounts t after → eq_by_cmp name_cmp q t ≡ false → get new.accounts q ≡ get old.accounts q
at_other old new t q after set apart = account_set old new t q after set ∙ ap (λ b. cond b (Some after) (get old.accounts q)) apart

-- the tenants are those that existed before
pub known_still : (old new : HostState) (t q : List ℕ) (account after : Account) → get old.accounts t ≡ Some account → new.accounts ≡ insert old.accounts t after → contains_key new.accounts q ≡ contains_key old.accounts q
known_still old new t q account after here set = ap is_some (account_set old new t q after set) ∙ by (eq_by_cmp name_cmp q t) refl
  where
    by : (b : Bool) → eq_by_cmp name_cmp q t ≡ b → is_some (cond b (Some after) (get old.accounts q)) ≡ contains_key old.accounts q
    by true same = sym (ap (contains_key old.accounts) (tied_names q t same) ∙ ap is_some here)
    by false apart = refl

as_many : (old new : HostState) (t : List ℕ) (account after : Account) → get old.accounts t ≡ Some account → new.accounts ≡ insert old.accounts t after → len (world_of new) ≡ len (world_of old)
as_many old new t account after here set =
    len_world new ∙ ap len set ∙ len-insert name_total old.accounts t after ∙ ap (λ b. cond b (len old.accounts) (len old.accounts + 1)) (ap is_some here) ∙ sym (len_world old)

-- what another tenant sees keeps its measures
seen_still : (old new : HostState) (t q : List ℕ) → IsOwn t old.vault new.vault → eq_by_cmp name_cmp q t ≡ false → measures_of (visible_in new.vault q) ≡ measures_of (visible_in old.vault q)
seen_still old new t q own apart = ap (λ (p : Measures × Measures). p.0) (own.shape q (λ same. distinct t q same apart))

pub orderly_still : (old new : HostState) (t q : List ℕ) (o : Option Account) (view : View) → measures_of (visible_in new.vault q) ≡ measures_of (visible_in old.vault q) → option_map (λ a. shown a new.vault q) o ≡ Some view
    → ((other : View) → option_map (λ a. shown a old.vault q) o ≡ Some other → IsOrderly other) → IsOrderly view
orderly_still old new t q None view same is each = absurd (cc)
orderly_still old new t q (Some a) view same is each =
    subst IsOrderly (some_same (shown a new.vault q) view is)
    (orderly_measured a.repositories (visible_in old.vault q) (visible_in new.vault q) (shown a old.vault q) (shown a new.vault q) a.limit same (alike_shown a (private_of old.vault.tenants q) (private_of new.vault.tenants q))
    (each (shown a old.vault q) refl))

-- no offer is to the giver itself, if that was so and the offers stay
others_alike : (t : List ℕ) (old new : View) → ((pair : Pair) → contains_key new.made pair ≡ true → contains_key old.made pair ≡ true) → AreToOthers t old → AreToOthers t new
others_alike t old new made others pair offer is = (let was = found (get old.made pair) (made pair (ap is_some is)) in others pair was.0 was.1)

-- for an account that has made the same offers
pub others_made : (t : List ℕ) (account after : Account) (own now : Private) → after.made ≡ account.made → AreToOthers t (seen_by account own) → AreToOthers t (seen_by after now)
others_made t account after own now same others =
    let before = made_shown own.visible account.made in
    let behind = made_shown now.visible after.made in
    others_alike t (seen_by account own) (seen_by after now)
    (λ pair there. sym (still_made before behind pair (made_again now.visible after.made ∙ same ∙ sym (made_again own.visible account.made))) ∙ there) others

-- and for the offers that an answer of the model makes
pub others_gives : (t : List ℕ) (view new : View) (ask : Ask) (reply : Reply) → Gives (answer (nothing_offered t) view ask) view reply new → AreToOthers t view → AreToOthers t new
others_gives t view new ask reply (Given told is) others = subst (AreToOthers t) (sym is) (to_others_answer (nothing_offered t) view others ask)
others_gives t view new ask reply (Wanting wanting stays) others = subst (AreToOthers t) (sym stays) others

pub others_still : (old new : HostState) (t q : List ℕ) (o : Option Account) (view : View) → option_map (λ a. shown a new.vault q) o ≡ Some view → ((other : View) → option_map (λ a. shown a old.vault q) o ≡ Some other → AreToOthers t other) → AreToOthers t view
others_still old new t q None view is each = absurd (cc)
others_still old new t q (Some a) view is each =
    let before = shown a old.vault q in
    let after = shown a new.vault q in
    subst (AreToOthers t) (some_same after view is)
    (others_alike t before after (λ pair there. sym (still_made before.made after.made pair (same_made a.made (visible_in old.vault q) (visible_in new.vault q))) ∙ there) (each before refl))

-- the world stays in order if the tenant's view does
pub orderly_after : (old new : HostState) (t : List ℕ) (account after : Account) → IsOrderlyWorld (world_of old) → get old.accounts t ≡ Some account → new.accounts ≡ insert old.accounts t after → IsOwn t old.vault new.vault
    → (IsOrderly (shown account old.vault t) → IsOrderly (shown after new.vault t)) → (AreToOthers t (shown account old.vault t) → AreToOthers t (shown after new.vault t)) → IsOrderlyWorld (world_of new)
orderly_after old new t account after orderly here set own still others = record {
  few = subst (λ n. n ≤ 64) (sym (as_many old new t account after here set)) orderly.few;
  named = λ q is. orderly.named q (known_world old q ∙ sym (known_still old new t q account after here set) ∙ sym (known_world new q) ∙ is);
  views = λ q view is. at q view (eq_by_cmp name_cmp q t) refl is;
  to_others = λ q view is. of q view (eq_by_cmp name_cmp q t) refl is;
}
  where
    view_is : get (world_of old) t ≡ Some (shown account old.vault t)
    view_is = get_world old t ∙ ap (option_map (λ a. shown a old.vault t)) here

    of : (q : List ℕ) (view : View) (b : Bool) → eq_by_cmp name_cmp q t ≡ b → get (world_of new) q ≡ Some view → AreToOthers q view
    of q view true tied is =
        subst (λ k. AreToOthers k view) (sym (tied_names q t tied))
        (subst (AreToOthers t) (some_same (shown after new.vault t) view (sym (at_own old new t q after set tied) ∙ is)) (others (orderly.to_others t (shown account old.vault t) view_is)))
    of q view false apart is =
        others_still old new q q (get old.accounts q) view (sym (ap (option_map (λ a. shown a new.vault q)) (at_other old new t q after set apart)) ∙ sym (get_world new q) ∙ is)
        (λ other found. orderly.to_others q other (get_world old q ∙ found))

    at : (q : List ℕ) (view : View) (b : Bool) → eq_by_cmp name_cmp q t ≡ b → get (world_of new) q ≡ Some view → IsOrderly view
    at q view true tied is =
        subst IsOrderly (some_same (shown after new.vault t) view (sym (at_own old new t q after set tied) ∙ is))
        (still (orderly.views t (shown account old.vault t) view_is))
    at q view false apart is =
        orderly_still old new t q (get old.accounts q) view (seen_still old new t q own apart)
        (sym (ap (option_map (λ a. shown a new.vault q)) (at_other old new t q after set apart)) ∙ sym (get_world new q) ∙ is)
        (λ other found. orderly.views q other (get_world old q ∙ found))

-- each other tenant's shape stays
pub shape_still : (old new : HostState) (q : List ℕ) (o : Option Account) → measures_of (visible_in new.vault q) ≡ measures_of (visible_in old.vault q)
    → option_map view_shape (option_map (λ a. shown a new.vault q) o) ≡ option_map view_shape (option_map (λ a. shown a old.vault q) o)
shape_still old new q None same = refl
shape_still old new q (Some a) same =
    ap Some (shape_measured a.repositories (visible_in old.vault q) (visible_in new.vault q) (shown a old.vault q) (shown a new.vault q) a.limit same (same_made a.made (visible_in old.vault q) (visible_in new.vault q)))

others_shape : (old new : HostState) (t q : List ℕ) (after : Account) → new.accounts ≡ insert old.accounts t after → IsOwn t old.vault new.vault → eq_by_cmp name_cmp q t ≡ false → SameShape q (world_of old) (world_of new)
others_shape old new t q after set own apart =
    ap (option_map view_shape) (get_world new q ∙ ap (option_map (λ a. shown a new.vault q)) (at_other old new t q after set apart))
    ∙ shape_still old new q (get old.accounts q) (seen_still old new t q own apart) ∙ ap (option_map view_shape) (sym (get_world old q))

pub others_stay : (old new : HostState) (t : List ℕ) (after : Account) → new.accounts ≡ insert old.accounts t after → IsOwn t old.vault new.vault → (q : List ℕ) → q ≢ t → SameShape q (world_of old) (world_of new)
others_stay old new t after set own q differs = by (eq_by_cmp name_cmp q t) refl
  where
    by : (b : Bool) → eq_by_cmp name_cmp q t ≡ b → SameShape q (world_of old) (world_of new)
    by true tied = absurd (differs (tied_names q t tied))
    by false apart = others_shape old new t q after set own apart

-- and so does the tenant's, if its view's shape does
pub all_stay : (old new : HostState) (t : List ℕ) (account after : Account) → get old.accounts t ≡ Some account → new.accounts ≡ insert old.accounts t after → IsOwn t old.vault new.vault
    → view_shape (shown after new.vault t) ≡ view_shape (shown account old.vault t) → (q : List ℕ) → SameShape q (world_of old) (world_of new)
all_stay old new t account after here set own same q = by (eq_by_cmp name_cmp q t) refl
  where
    by : (b : Bool) → eq_by_cmp name_cmp q t ≡ b → SameShape q (world_of old) (world_of new)
    by true tied =
        ap (option_map view_shape) (at_own old new t q after set tied) ∙ ap Some same
        ∙ ap (option_map view_shape) (sym (ap (get (world_of old)) (tied_names q t tied) ∙ get_world old t ∙ ap (option_map (λ a. shown a old.vault t)) here))
    by false apart = others_shape old new t q after set own apart

-- and so do its offers, if its account's do
pub offers_stay : (old new : HostState) (t : List ℕ) (account after : Account) → get old.accounts t ≡ Some account → new.accounts ≡ insert old.accounts t after → IsOwn t old.vault new.vault
    → after.made ≡ account.made → (q : List ℕ) → SameOffers q (world_of old) (world_of new)
offers_stay old new t account after here set own same q = by (eq_by_cmp name_cmp q t) refl
  where
    by : (b : Bool) → eq_by_cmp name_cmp q t ≡ b → SameOffers q (world_of old) (world_of new)
    by true tied =
        ap (option_map repositories_offered) (at_own old new t q after set tied) ∙ ap Some (made_again (visible_in new.vault t) after.made ∙ same ∙ sym (made_again (visible_in old.vault t) account.made))
        ∙ ap (option_map repositories_offered) (sym (ap (get (world_of old)) (tied_names q t tied) ∙ get_world old t ∙ ap (option_map (λ a. shown a old.vault t)) here))
    by false apart = same_offers (get (world_of new) q) (get (world_of old) q) (others_shape old new t q after set own apart)

-- a repository is added to the tenant's view if it is added to its account
pub forked_shown : (old new : HostState) (t giver word copy : List ℕ) (account after : Account) → get old.accounts t ≡ Some account → new.accounts ≡ insert old.accounts t after
    → HasForked (met_by (world_of old) t) giver word copy account after → ForksOffered (world_of old) (world_of new) t giver word copy
forked_shown old new t giver word copy account after here set forked = record {
  offer = forked.offer;
  stands = forked.stands;
  repositories =
      ap (option_map (λ (view : View). view.repositories)) (at_own old new t t after set ((eq_by_cmp_equiv name_total).refl t)) ∙ ap Some forked.repositories
      ∙ ap (option_map (λ (view : View). insert view.repositories copy forked.offer.repository)) (sym (get_world old t ∙ ap (option_map (λ a. shown a old.vault t)) here));
}

-- each tenant has staged what was received of its upload, if this one has
pub staged_after : (old new : HostState) (t : List ℕ) (after : Account) → new.accounts ≡ insert old.accounts t after → IsOwn t old.vault new.vault
    → ((q : List ℕ) (other : Account) → get old.accounts q ≡ Some other → IsStaged old.vault.honest other.upload (staged_in old.vault q)) → IsStaged old.vault.honest after.upload (staged_in new.vault t)
    → (q : List ℕ) (other : Account) → get new.accounts q ≡ Some other → IsStaged new.vault.honest other.upload (staged_in new.vault q)
staged_after old new t after set own before came q other is = subst (λ h. IsStaged h other.upload (staged_in new.vault q)) (sym own.honest) (by (eq_by_cmp name_cmp q t) refl)
  where
    by : (b : Bool) → eq_by_cmp name_cmp q t ≡ b → IsStaged old.vault.honest other.upload (staged_in new.vault q)
    by true same =
        let itself : Some after ≡ Some other = sym (account_set old new t q after set ∙ ap (λ b. cond b (Some after) (get old.accounts q)) same) ∙ is in
        subst (λ k. IsStaged old.vault.honest other.upload (staged_in new.vault k)) (sym (tied_names q t same)) (subst (λ (a : Account). IsStaged old.vault.honest a.upload (staged_in new.vault t)) (some_same after other itself) came)
    by false apart =
        let differs : q ≢ t = λ same. distinct t q same apart in
        staged_still old.vault.honest other.upload (staged_in old.vault q) (staged_in new.vault q) (ap (λ (p : Measures × Measures). p.1) (own.shape q differs)) (λ honest. ap (λ p. p.staged) (own.others honest q differs))
        (before q other (sym (at_other old new t q after set apart) ∙ is))

-- and the state stays whole
pub whole_after : (Within : Reply → Type 0) (old new : HostState) (t : List ℕ) (ask : Ask) (account after : Account) (reply : Reply) → IsWhole old → get old.accounts t ≡ Some account → new.accounts ≡ insert old.accounts t after
    → (Trusted old → IsAlike (world_of old)) → (Trusted old → Steps (world_of old) (Asks t ask) reply (world_of new)) → IsSafe Within (shown account old.vault t) reply (shown after new.vault t) → (AreToOthers t (shown account old.vault t) → AreToOthers t (shown after new.vault t)) → IsOwn t old.vault new.vault → IsStaged old.vault.honest after.upload (staged_in new.vault t) → IsWhole new
whole_after Within old new t ask account after reply whole here set alike step safe others own came = record {
  orderly = orderly_after old new t account after whole.orderly here set own safe.orderly others;
  right = λ trusted. (let before = sym own.honest ∙ trusted in right_step (world_of old) (world_of new) (Asks t ask) reply (λ _. alike before) (record { orderly = whole.orderly; right = whole.right before }) (step before));
  there = λ q. own.there q ∙ whole.there q ∙ sym (known_still old new t q account after here set);
  staged = staged_after old new t after set own (λ q other is. whole.staged q other is) came;
}

-- what an existing tenant sees
pub seen_here : (state : HostState) (t : List ℕ) (account : Account) → get state.accounts t ≡ Some account → seen_in_world (world_of state) t ≡ visible_in state.vault t
seen_here state t account here = ap seen_of (get_world state t ∙ ap (option_map (λ a. shown a state.vault t)) here)

pub sent_here : (state : HostState) (t : List ℕ) (ask : Ask) (account : Account) → get state.accounts t ≡ Some account → sent_in_world (world_of state) t ask ≡ sent_by (shown account state.vault t) ask
sent_here state t ask account here = ap (λ o. brought_by o ask) (get_world state t ∙ ap (option_map (λ a. shown a state.vault t)) here)

-- tenants hold one object under one name, so each name has only one object in the world
pub alike_of : (state : HostState) → HoldOne state.vault.tenants → IsAlike (world_of state)
alike_of state one tenant other name view another object same here there is held =
    let seen = seen_in_vault state tenant view here name object is in
    let seen_too = seen_in_vault state other another there name same held in
    sym (one tenant other name object same (Sees seen) (Sees seen_too))
  where
    seen_in_vault : (state : HostState) (t : List ℕ) (view : View) → get (world_of state) t ≡ Some view → (name : List ℕ) (object : Object) → get view.objects name ≡ Some object → get (private_of state.vault.tenants t).visible name ≡ Some object
    seen_in_vault state t view here name object is = by (get state.accounts t) (sym (get_world state t) ∙ here)
      where
        by : (o : Option Account) → option_map (λ a. shown a state.vault t) o ≡ Some view → get (private_of state.vault.tenants t).visible name ≡ Some object
        by None found = absurd (cc)
        by (Some a) found = subst (λ (v : View). get v.objects name ≡ Some object) (sym (some_same (shown a state.vault t) view found)) is
