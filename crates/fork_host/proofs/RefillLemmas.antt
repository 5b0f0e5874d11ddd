-- A tenant that is filled again: its view is in order and right, and the state stays whole.
use Rattle.std.proofs.Common.{◌≡◌, ℕ, arith, Bool, true, false, cond, not, IsTrue, List, [], ◌∷◌, Option, None, Some, refl, sym, ap, subst, ◌∙◌, length, is_some, map}
use Rattle.std.specs.Prelude.{Contains, ◌&&◌, ◌||◌, is_none}
use Rattle.std.proofs.lemmas.List.{length-map}
use Rattle.std.proofs.lemmas.List.Folds.{find-append}
use Rattle.std.proofs.lemmas.Map.Views.{Contains-from_lookup}
use Rattle.std.specs.List.{AllByRecursion, find, flat_map}
use Rattle.std.specs.Option.{option_map, option_or, unwrap_or}
use Rattle.std.specs.Ordering.{eq_by_cmp}
use Rattle.std.specs.Cmp.{eq_by_cmp_equiv}
use Rattle.std.specs.FinMap.{FinMap, contains_key, empty, entries, get, get-entries, get-insert, insert, keys, len-entries, values}
use Rattle.git_name.specs.Name.{name_cmp}
use Rattle.git_name.specs.Object.{Object}
use Rattle.git_name.specs.declared.kind.Kind.{Kind}
use Rattle.git_name.proofs.Names.{name_total}
use Rattle.git_name.proofs.TreeMaps.{find_is_lookup}
use Rattle.git_reftx.specs.Repository.{IsBranch, Repository}
use Rattle.git_reftx.specs.Transaction.{is_branch, is_commit}
use Rattle.push_stream.specs.Upload.{UploadValue}
use Rattle.fork_reach.specs.Objects.{IsNamed}
use Rattle.fork_reach.specs.Reach.{is_reached, linked_names}
use Rattle.fork_reach.specs.Source.{Objects, kind_in}
use Rattle.fork_reach.proofs.ReachLemmas.{root_reached}
use Rattle.fork_reach.proofs.KeptObjects.{tied_names}
use Rattle.fork_ledger.specs.Tenants.{VaultState}
use Rattle.fork_model.specs.Offer.{Offer as Shown, Pair, offered}
use Rattle.fork_model.specs.Sound.{AreReferences, AreRight, AreToOthers, IsClosed, IsOrderly, IsReach, IsRight, IsRightWorld}
use Rattle.fork_model.specs.View.{View, Repositories}
use Rattle.fork_model.specs.World.{World}
use Rattle.fork_model.proofs.ClosedLemmas.{each_of}
use Rattle.fork_model.proofs.KeptLemmas.{behind, found_value, in_front, stays_at}
use Rattle.state_text.specs.Offer.{Offer}
use Rattle.state_text.specs.States.{IsNamedRepository, IsOffer, IsTenantState, MayBeTold, TenantState}
use Rattle.fork_host.specs.Adding.{new_account}
use Rattle.fork_host.specs.Made.{Made, entry_of, offer_told}
use Rattle.fork_host.specs.Own.{IsOwn, staged_in, visible_in}
use Rattle.fork_host.specs.Refilled.{IsRefilled, IsRefilledIn}
use Rattle.fork_host.specs.Restored.{is_bad_target, references_in, repositories_in}
use Rattle.fork_host.specs.Shown.{Account, HostState, IsWhole, shown, world_of}
use Rattle.fork_host.specs.Staged.{IsStaged}
use Rattle.fork_host.proofs.AddingLemmas.{each_more}
use Rattle.fork_host.proofs.MadeLemmas.{len_shown, shown_kept, told_again, told_shown}
use Rattle.fork_host.proofs.NamesLemmas.{same_keys}
use Rattle.fork_host.proofs.OwnLemmas.{own_of, seen_itself}
use Rattle.fork_host.proofs.PairLemmas.{offer_gathered, repository_gathered}
use Rattle.fork_host.proofs.WholeLemmas.{known_still, orderly_after, staged_after}
use Rattle.fork_host.proofs.WorldLemmas.{get_world, world_set}

abbrev Reference : Type 0
Reference = List ℕ × List ℕ

head_none : (bad : Reference → Bool) (x : Reference) (o : Option Reference) → cond (bad x) (Some x) o ≡ None → bad x ≡ false
head_none bad x o none = by (bad x) none
  where
    by : (b : Bool) → cond b (Some x) o ≡ None → b ≡ false
    by true found = absurd (cc)
    by false found = refl

tail_none : (b : Bool) (x : Reference) (o : Option Reference) → cond b (Some x) o ≡ None → o ≡ None
tail_none true x o found = absurd (cc)
tail_none false x o found = found

-- if none is found, none passes
none_passes : (bad : Reference → Bool) (xs : List Reference) → find bad xs ≡ None → AllByRecursion (λ x. bad x ≡ false) xs
none_passes bad [] none = tt
none_passes bad (x ∷ xs) none = (head_none bad x (find bad xs) none, none_passes bad xs (tail_none (bad x) x (find bad xs) none))

first_of : (o p : Option Reference) → option_or o p ≡ None → o ≡ None
first_of None p is = refl
first_of (Some x) p is = absurd (cc)

second_of : (o p : Option Reference) → option_or o p ≡ None → p ≡ None
second_of None p is = is
second_of (Some x) p is = absurd (cc)

none_in_each : (bad : Reference → Bool) (list : List Repository) → find bad (flat_map references_in list) ≡ None → AllByRecursion (λ r. find bad (references_in r) ≡ None) list
none_in_each bad [] none = tt
none_in_each bad (r ∷ list) none =
    let parted = sym (find-append bad (references_in r) (flat_map references_in list)) ∙ none in
    (first_of (find bad (references_in r)) (find bad (flat_map references_in list)) parted, none_in_each bad list (second_of (find bad (references_in r)) (find bad (flat_map references_in list)) parted))

good_reference : (bad : Reference → Bool) (list : List Repository) (repository : Repository) (reference target : List ℕ) → find bad (flat_map references_in list) ≡ None → Contains list repository
    → get repository.references reference ≡ Some target → bad (reference, target) ≡ false
good_reference bad list repository reference target none among points =
    let references = repository.references in
    let here = each_of (λ (r : Repository). find bad (references_in r) ≡ None) list repository (none_in_each bad list none) among in
    let entry = Contains-from_lookup {eq = eq_by_cmp name_cmp} tied_names reference target (entries references) (sym (get-entries references reference ∙ find_is_lookup name_cmp (entries references) reference) ∙ points) in
    each_of (λ (x : Reference). bad x ≡ false) (entries references) (reference, target) (none_passes bad (entries references) here) entry

either_false : (a b : Bool) → (a || b) ≡ false → (a ≡ false) × (b ≡ false)
either_false true b is = absurd (cc)
either_false false b is = (refl, is)

known : (o : Option Kind) → is_none o ≡ false → is_some o ≡ true
known None is = absurd (cc)
known (Some kind) is = refl

there_by_kind : (objects : Objects) (name : List ℕ) → is_some (kind_in objects name) ≡ true → contains_key objects name ≡ true
there_by_kind objects name there = by (get objects name) there
  where
    by : (o : Option Object) → is_some (option_map (λ object. object.kind) o) ≡ true → is_some o ≡ true
    by None is = absurd (cc)
    by (Some object) is = refl

commit_of_branch : (branch commit : Bool) → (branch && not commit) ≡ false → branch ≡ true → commit ≡ true
commit_of_branch true true is on = refl
commit_of_branch true false is on = absurd (cc)
commit_of_branch false commit is on = absurd (cc)

-- references that were judged are valid in a repository
references_restored : (objects : Objects) (list : List Repository) (repository : Repository) → MayBeTold repository → find (is_bad_target (kind_in objects)) (flat_map references_in list) ≡ None → Contains list repository
    → AreReferences objects repository.references
references_restored objects list repository told none among = record {
  each = λ reference target points.
      let parts = either_false (is_none (kind_in objects target)) (is_branch reference && not (is_commit (kind_in objects target))) (good_reference (is_bad_target (kind_in objects)) list repository reference target none among points) in
      record {
        named = told.references.named reference (ap is_some points);
        there = there_by_kind objects target (known (kind_in objects target) parts.0);
        commit = commit_of_branch (is_branch reference) (is_commit (kind_in objects target)) parts.1;
      };
  apart = told.references.free;
  few = told.references.few;
}

-- the account of a tenant that is filled again
abbrev pub refilled : Repositories → Made → ℕ → Account
refilled repositories made limit = record (new_account limit) { repositories = repositories; made = made }

none_open : (upload : UploadValue) (G : Type 0) → ◌≡◌ {A = Option UploadValue} None (Some upload) → G
none_open upload G is = absurd (cc)

-- a repository that was gathered is in the list
gathered_among : (repositories : Repositories) (list : List (List ℕ × Repository)) (name : List ℕ) (repository : Repository) → entries repositories ≡ list → get repositories name ≡ Some repository → Contains list (name, repository)
gathered_among repositories list name repository are here =
    subst (λ es. Contains es (name, repository)) are
    (Contains-from_lookup {eq = eq_by_cmp name_cmp} tied_names name repository (entries repositories) (sym (get-entries repositories name ∙ find_is_lookup name_cmp (entries repositories) name) ∙ here))

repository_among : (repositories : Repositories) (list : List (List ℕ × Repository)) (name : List ℕ) (repository : Repository) → entries repositories ≡ list → get repositories name ≡ Some repository → Contains (map (λ row. row.1) list) repository
repository_among repositories list name repository are here =
    subst (λ es. Contains (map (λ row. row.1) es) repository) are (found_value name_cmp name repository (entries repositories) (sym (get-entries repositories name) ∙ here))

-- what was gathered of a state, over what is seen again
module _ (own : List ℕ) (state : TenantState) (repositories : Repositories) (made : Made) (old new : VaultState) (sound : IsTenantState state) (are : entries repositories ≡ state.repositories) (offers : entries made ≡ map entry_of state.offers)
    (restored : IsRefilled own state old new) where
  here : (repository : Repository) → MayBeTold repository → Contains (repositories_in state) repository → AreReferences (visible_in new own) repository.references
  here repository told among = references_restored (visible_in new own) (repositories_in state) repository told restored.targets among

  named : (name : List ℕ) (repository : Repository) → get repositories name ≡ Some repository → IsNamedRepository (name, repository)
  named name repository is = each_of IsNamedRepository state.repositories (name, repository) sound.repositories (gathered_among repositories state.repositories name repository are is)

  made_right : (pair : Pair) (repository : Repository) → get made pair ≡ Some repository → IsOffer state.name (offer_told (pair, repository))
  made_right pair repository is = offer_gathered state.name state.offers made sound.offers offers pair repository is

  pub orderly_refilled : IsOrderly (shown (refilled repositories made state.limit) new own)
  orderly_refilled = record {
    upload = λ upload is. none_open upload _ is;
    within_limit = restored.within;
    limit = sound.limit;
    few_repositories = (let counted = len-entries repositories in let same = ap (λ (es : List (List ℕ × Repository)). length es) are in let few = sound.few in omega (arith, counted, same, few));
    repositories = λ name repository is. (named name repository is).named;
    heads = λ name repository is. (named name repository is).told.branch;
    references = λ name repository is.
        here repository (named name repository is).told
        (in_front repository (map (λ row. row.1) state.repositories) (map (λ (offer : Offer). offer.repository) state.offers) (repository_among repositories state.repositories name repository are is));
    few_offers = (let counted = len_shown (visible_in new own) made in let kept = len-entries made in let same = ap (λ (es : List (Pair × Repository)). length es) offers in let long = length-map state.offers entry_of in let few = sound.few_offers in omega (arith, counted, kept, same, long, few));
    offers = λ pair offer is.
        let kept = shown_kept (visible_in new own) made pair offer is in
        let right = made_right pair kept.0 kept.1 in
        let one = ap (λ (o : Shown). o.repository) kept.2 in
        record {
          receiver = right.receiver_named;
          named = right.named;
          head = subst (λ (r : Repository). IsBranch r.head) one right.told.branch;
          references = subst (λ (r : Repository). AreReferences (visible_in new own) r.references) one
              (here kept.0 right.told (behind kept.0 (map (λ row. row.1) state.repositories) (map (λ (o : Offer). o.repository) state.offers) (repository_gathered state.offers made offers pair kept.0 kept.1)));
        };
  }

  -- no offer is to the tenant itself
  pub others_refilled : AreToOthers state.name (shown (refilled repositories made state.limit) new own)
  others_refilled pair offer is = (let kept = shown_kept (visible_in new own) made pair offer is in (made_right pair kept.0 kept.1).to_another)

-- an offer with valid references, as it is shown, holds what they reach
reach_offered : (objects : Objects) (repository : Repository) → AreReferences objects repository.references → IsReach objects (offered objects repository)
reach_offered objects repository right = record {
  targets = λ reference target points.
      let roots = values repository.references in
      let there = (right.each reference target points).there in
      let at = found_value name_cmp reference target (entries repository.references) (sym (get-entries repository.references reference) ∙ points) in
      ap is_some (stays_at objects (is_reached (linked_names objects) objects roots) target (root_reached (linked_names objects) objects roots target at there)) ∙ there;
  objects = refl;
}

pub right_refilled : (own : List ℕ) (state : TenantState) (repositories : Repositories) (made : Made) (old new : VaultState) → IsTrue old.honest → IsOrderly (shown (refilled repositories made state.limit) new own) → IsRefilled own state old new
    → IsRight (shown (refilled repositories made state.limit) new own)
right_refilled own state repositories made old new honest orderly restored =
    let seen = sym (seen_itself old new own restored.objects restored.changes honest) in
    record {
      named = subst IsNamed seen (restored.named honest);
      right = subst AreRight seen (restored.right honest);
      closed = subst IsClosed seen (restored.closed honest);
      offered = λ pair offer is.
          let kept = shown_kept (visible_in new own) made pair offer is in
          subst (IsReach (visible_in new own)) kept.2
          (reach_offered (visible_in new own) kept.0 (subst (λ (o : Shown). AreReferences (visible_in new own) o.repository.references) (sym kept.2) (orderly.offers pair offer is).references));
      upload = λ upload is. none_open upload _ is;
    }

-- a tenant that saw nothing sees again what it saw
pub refilled_in : (old new : HostState) (tenant : TenantState) (repositories : Repositories) (made : Made) → new.accounts ≡ insert old.accounts tenant.name (refilled repositories made tenant.limit) → entries repositories ≡ tenant.repositories
    → entries made ≡ map entry_of tenant.offers → IsTrue old.vault.honest → IsRight (shown (refilled repositories made tenant.limit) new.vault tenant.name) → IsRefilled tenant.name tenant old.vault new.vault
    → IsRefilledIn old.vault.files tenant (world_of old) (world_of new)
refilled_in old new tenant repositories made set are offers honest right restored =
    let own = own_of old.vault new.vault tenant.name restored.changes in
    let stored = restored.stored honest in
    record {
      view = shown (refilled repositories made tenant.limit) new.vault tenant.name;
      world = world_set old new tenant.name (refilled repositories made tenant.limit) set (own.others honest);
      repositories = are;
      offers = told_shown (visible_in new.vault tenant.name) made ∙ ap (map offer_told) offers ∙ told_again tenant.offers;
      limit = refl;
      upload = refl;
      stored = record { objects = stored.objects; stored = stored.stored; is = (stored.is.0 ∙ sym (seen_itself old.vault new.vault tenant.name restored.objects restored.changes honest), stored.is.1) };
      targets = restored.targets;
      reach = right.offered;
      within = restored.within;
    }

-- setting the account of an existing tenant leaves the names
pub keys_set : (accounts : FinMap name_cmp Account) (t : List ℕ) (account after : Account) → get accounts t ≡ Some account → keys (insert accounts t after) ≡ keys accounts
keys_set accounts t account after here = same_keys (insert accounts t after) accounts (λ q. ap is_some (get-insert name_total accounts t after q) ∙ by q (eq_by_cmp name_cmp q t) refl)
  where
    by : (q : List ℕ) (b : Bool) → eq_by_cmp name_cmp q t ≡ b → is_some (cond b (Some after) (get accounts q)) ≡ contains_key accounts q
    by q true same = sym (ap (contains_key accounts) (tied_names q t same) ∙ ap is_some here)
    by q false apart = refl

-- the state stays whole if one tenant's account and part of the vault change this way
pub whole_set : (old new : HostState) (t : List ℕ) (account after : Account) → IsWhole old → get old.accounts t ≡ Some account → new.accounts ≡ insert old.accounts t after → IsOwn t old.vault new.vault → staged_in new.vault t ≡ empty → after.upload ≡ None
    → IsOrderly (shown after new.vault t) → AreToOthers t (shown after new.vault t) → (IsTrue new.vault.honest → IsRight (shown after new.vault t)) → IsWhole new
whole_set old new t account after whole here set own none quiet orderly others right = record {
  orderly = orderly_after old new t account after whole.orderly here set own (λ _. orderly) (λ _. others);
  right = λ trusted.
      let before = sym own.honest ∙ trusted in
      subst IsRightWorld (sym (world_set old new t after set (own.others before))) (each_more IsRight (world_of old) t (shown after new.vault t) (right trusted) (whole.right before));
  there = λ q. own.there q ∙ whole.there q ∙ sym (known_still old new t q account after here set);
  staged = staged_after old new t after set own (λ q other is. whole.staged q other is) (subst (λ upload. IsStaged old.vault.honest upload (staged_in new.vault t)) (sym quiet) none);
}

-- the account of a tenant that has a view
pub account_shown : (state : HostState) (t : List ℕ) (view : View) → get (world_of state) t ≡ Some view → (account : Account) × (get state.accounts t ≡ Some account) × (shown account state.vault t ≡ view)
account_shown state t view is = by (get state.accounts t) (sym (get_world state t) ∙ is)
  where
    by : (o : Option Account) → option_map (λ a. shown a state.vault t) o ≡ Some view → (account : Account) × (o ≡ Some account) × (shown account state.vault t ≡ view)
    by None none = absurd (cc)
    by (Some account) same = (account, refl, ap (λ v. unwrap_or v (shown account state.vault t)) same)

-- a tenant that was added exists
pub added_there : (world after : World) (t name : List ℕ) (view : View) → name ≡ t → after ≡ insert world name view → get after t ≡ Some view
added_there world after t name view same added =
    ap (λ (w : World). get w t) (added ∙ ap (λ n. insert world n view) same) ∙ get-insert name_total world t view t ∙ ap (λ b. cond b (Some view) (get world t)) ((eq_by_cmp_equiv name_total).refl t)
