-- The effect of forking an offer: on the vault, on what is staged, on the view, and which faults may occur.
use Rattle.std.proofs.Common.{◌≡◌, ◌⊎◌, inl, inr, ℕ, ◌+◌, ◌≤◌, ◌<◌, Bool, true, false, cond, IsTrue, List, [], Option, Some, None, refl, sym, ap, subst, ◌∙◌, is_some, arith}
use Rattle.std.specs.Prelude.{Contains, nat_le, nat_lt}
use Rattle.std.specs.Option.{option_map}
use Rattle.std.specs.Ordering.{eq_by_cmp}
use Rattle.std.specs.FinMap.{contains_key, entries, get, get-entries, get-insert, get-remove, insert, len, len-insert, remove, retain_keys, same_map, values}
use Rattle.std.proofs.lemmas.Bool.Decides.{nat_tests}
use Rattle.git_name.specs.Maps.{joined}
use Rattle.git_name.specs.Name.{name_cmp}
use Rattle.git_name.specs.Object.{Object}
use Rattle.git_name.proofs.Names.{name_exact, name_total}
use Rattle.git_reftx.specs.Repository.{IsBranch, Repository}
use Rattle.git_reftx.specs.Transaction.{References, is_commit}
use Rattle.fork_reach.specs.Objects.{Measures, measures_of, use_of}
use Rattle.fork_reach.specs.Reach.{is_reached, linked_names}
use Rattle.fork_reach.specs.Source.{Objects, kind_in}
use Rattle.fork_reach.proofs.KeptObjects.{at_key, tied_names}
use Rattle.fork_reach.proofs.MeasureLemmas.{same_kinds, same_there}
use Rattle.fork_ledger.specs.Private.{AreAmong, Private, with_adopted}
use Rattle.fork_ledger.specs.Store.{LeavesStore}
use Rattle.fork_ledger.specs.Tenants.{VaultState, at_tenant, private_of, shape_of}
use Rattle.fork_ledger.specs.declared.fault.VaultFault.{VaultFault}
use Rattle.fork_ledger.specs.declared.fault.VaultFault.TheVariants as ledger
use Rattle.fork_ledger.proofs.BothLemmas.{same_measures, same_tenants_there}
use Rattle.fork_request.specs.Names.{IsRepositoryName, is_plain_name}
use Rattle.fork_request.specs.declared.name.TheConstants.{MAX_REPOSITORY_NAME, MAX_TENANT_NAME}
use Rattle.fork_request.specs.Told.{is_done, is_host_fault}
use Rattle.fork_request.specs.declared.host_fault.HostFault.{HostFault}
use Rattle.fork_request.specs.declared.host_fault.HostFault.TheVariants.{Damaged, Memory}
use Rattle.fork_request.specs.declared.refusal.Refusal.{Refusal}
use Rattle.fork_request.specs.declared.refusal.Refusal.TheVariants.{BadName, OverQuota, RepositoryExists, TooMany}
use Rattle.fork_request.specs.declared.reply.Reply.{Reply}
use Rattle.fork_request.specs.declared.reply.Reply.TheVariants.{Done, Failed, Refused}
use Rattle.fork_model.specs.Answer.{fork_offer_answer, fork_offered, offer_taken}
use Rattle.fork_model.specs.Context.{Context}
use Rattle.fork_model.specs.Offer.{Offer, offered, reached_by}
use Rattle.fork_model.specs.Sound.{AreReferences, IsOrderly}
use Rattle.fork_model.specs.Uploads.{upload_among}
use Rattle.fork_model.specs.View.{Repositories, View}
use Rattle.fork_model.specs.declared.limits.TheConstants.{MAX_REPOSITORIES}
use Rattle.fork_model.proofs.KeptLemmas.{found_value, stays_at}
use Rattle.fork_model.proofs.OfferLemmas.{among_joined}
use Rattle.fork_host.specs.Bounds.{IsBounded, Gains, ReadsStore}
use Rattle.fork_host.specs.Forked.{Forked, Full, IsForked, Unforked}
use Rattle.fork_host.specs.Own.{IsOwn, staged_in, visible_in}
use Rattle.fork_host.specs.Pushed.{view_of}
use Rattle.fork_host.specs.Rows.{Faulted, Lacking, Yielded, Yields, plain, vault_told}
use Rattle.fork_host.specs.Safe.{IsSafe, IsTakenFrom}
use Rattle.fork_host.specs.Shown.{Account, seen_by, shown}
use Rattle.fork_host.specs.Staged.{IsStaged}
use Rattle.fork_host.proofs.BoundLemmas.{IsQuiet, bounded_gains, bounded_still, gains_left, gains_read, gains_then}
use Rattle.fork_host.proofs.MadeLemmas.{plain_as, same_made}
use Rattle.fork_host.proofs.OwnLemmas.{changed_at, made_just, own_of, own_read, own_then, staged_read}
use Rattle.fork_host.proofs.SafeLemmas.{alike_shown, orderly_measured, safe_left}
use Rattle.fork_host.proofs.StagedLemmas.{staged_kept_still}
use Rattle.fork_host.proofs.TakenFromLemmas.{taken_alike, taken_beside, taken_none}

-- ---- repositories
-- what holds of a new repository and of each existing one holds of all
each_repository : (P : List ℕ → Repository → Type 0) (repositories : Repositories) (word : List ℕ) (new : Repository) → P word new → ((name : List ℕ) (repository : Repository) → get repositories name ≡ Some repository → P name repository)
    → (name : List ℕ) (repository : Repository) → get (insert repositories word new) name ≡ Some repository → P name repository
each_repository P repositories word new one others name repository is =
    elim (at_key (eq_by_cmp name_cmp name word) new repository (get repositories name) (sym (get-insert name_total repositories word new name) ∙ is)) [
      | inl here ↦ subst (λ n. P n repository) (sym (tied_names name word here.0)) (subst (P word) here.1 one)
      | inr there ↦ others name repository there
    ]

-- adding a repository under an unused name and removing it leaves the map
pub taken_out : (repositories : Repositories) (word : List ℕ) (new : Repository) → contains_key repositories word ≡ false → remove (insert repositories word new) word ≡ repositories
taken_out repositories word new absent = same_map name_total name_exact _ _ (λ q.
    get-remove name_total (insert repositories word new) word q ∙ ap (cond (eq_by_cmp name_cmp q word) None) (get-insert name_total repositories word new q) ∙ by q (eq_by_cmp name_cmp q word) refl)
  where
    none : (o : Option Repository) → is_some o ≡ false → None ≡ o
    none None is = refl
    none (Some repository) is = absurd (cc)

    by : (q : List ℕ) (b : Bool) → eq_by_cmp name_cmp q word ≡ b → cond b None (cond b (Some new) (get repositories q)) ≡ get repositories q
    by q true tied = none (get repositories q) (ap (contains_key repositories) (tied_names q word tied) ∙ absent)
    by q false apart = refl

-- so a tenant's account is as it was
pub given_back : (account mid now : Account) (copy key : List ℕ) (repository : Repository) → contains_key account.repositories copy ≡ false → key ≡ copy → mid ≡ record account { repositories = insert account.repositories copy repository }
    → now ≡ record mid { repositories = remove mid.repositories key } → now ≡ account
given_back account mid now copy key repository absent same put taken =
    taken ∙ (λ i. record (put i) { repositories = remove (put i).repositories (same i) }) ∙ ap (λ r. record account { repositories = r }) (taken_out account.repositories copy repository absent)

-- the fault that a reply reports for one of the vault
pub fault_of_adopting : (fault : VaultFault) → (fault ≡ ledger.Memory) ⊎ (fault ≡ ledger.Damaged) → (vault_told fault ≡ Memory) ⊎ (vault_told fault ≡ Damaged)
fault_of_adopting fault (inl memory) = inl (ap vault_told memory)
fault_of_adopting fault (inr damaged) = inr (ap vault_told damaged)

-- ---- references over more objects
some_kind : (o : Option Object) → is_some (option_map (λ object. object.kind) o) ≡ is_some o
some_kind None = refl
some_kind (Some object) = refl

-- references are valid over other objects if their targets have the same kinds there
references_alike : (objects others : Objects) (references : References) → ((reference target : List ℕ) → get references reference ≡ Some target → contains_key objects target ≡ true → kind_in others target ≡ kind_in objects target)
    → AreReferences objects references → AreReferences others references
references_alike objects others references kinds right = record {
  each = λ reference target is.
      let at = right.each reference target is in
      let same = kinds reference target is at.there in
      record {
        named = at.named;
        there = sym (some_kind (get others target)) ∙ ap is_some same ∙ some_kind (get objects target) ∙ at.there;
        commit = λ branch. ap is_commit same ∙ at.commit branch;
      };
  apart = right.apart;
  few = right.few;
}

-- they are valid over more objects
references_more : (objects others : Objects) (references : References) → ((name : List ℕ) → contains_key objects name ≡ true → get others name ≡ get objects name) → AreReferences objects references → AreReferences others references
references_more objects others references grown = references_alike objects others references (λ reference target is there. ap (option_map (λ object. object.kind)) (grown target there))

-- the target of a reference is one of the values
target_among : (references : References) (reference target : List ℕ) → get references reference ≡ Some target → Contains (values references) target
target_among references reference target is = found_value name_cmp reference target (entries references) (sym (get-entries references reference) ∙ is)

-- an object found under its name among more objects has the same kind there
found_among : (some all : Objects) (name : List ℕ) → AreAmong some all → contains_key some name ≡ true → get all name ≡ get some name
found_among some all name among there = by (get some name) refl there
  where
    by : (o : Option Object) → get some name ≡ o → is_some o ≡ true → get all name ≡ o
    by None is here = absurd (cc)
    by (Some object) is here = among name object is

-- ---- a view that gets a repository and sees more
few_more : (here : Bool) (n : ℕ) → nat_le MAX_REPOSITORIES n ≡ false → n ≤ MAX_REPOSITORIES → cond here n (n + 1) ≤ MAX_REPOSITORIES
few_more true n room few = few
few_more false n room few = grind (arith, nat_tests)

pub orderly_taken : (view : View) (copy : List ℕ) (repository : Repository) (all : Objects) → ((name : List ℕ) → contains_key view.objects name ≡ true → get all name ≡ get view.objects name)
    → nat_le MAX_REPOSITORIES (len view.repositories) ≡ false → IsRepositoryName copy → IsBranch repository.head → AreReferences all repository.references → use_of all ≤ view.limit
    → IsOrderly view → IsOrderly (record view { repositories = insert view.repositories copy repository; objects = all })
orderly_taken view copy repository all grown room named head holds within orderly = record {
  upload = orderly.upload;
  within_limit = within;
  limit = orderly.limit;
  few_repositories = subst (λ n. n ≤ MAX_REPOSITORIES) (sym (len-insert name_total view.repositories copy repository)) (few_more (contains_key view.repositories copy) (len view.repositories) room orderly.few_repositories);
  repositories = each_repository (λ name _. IsRepositoryName name) view.repositories copy repository named orderly.repositories;
  heads = each_repository (λ _ old. IsBranch old.head) view.repositories copy repository head orderly.heads;
  references = each_repository (λ _ old. AreReferences all old.references) view.repositories copy repository holds (λ name old is. references_more view.objects all old.references grown (orderly.references name old is));
  few_offers = orderly.few_offers;
  offers = λ key offer is.
      let was = orderly.offers key offer is in
      record { receiver = was.receiver; named = was.named; head = was.head; references = references_more view.objects all offer.repository.references grown was.references };
}

-- ---- the row
third : {A : Type 0} (exists many full : Bool) (x y z w : A) → exists ≡ false → many ≡ false → cond exists x (cond many y (cond full z w)) ≡ cond full z w
third false false full x y z w none few = refl
third true many full x y z w none few = absurd (cc)
third false true full x y z w none few = absurd (cc)

fits_in : (limit n : ℕ) → n ≤ limit → nat_lt limit n ≡ false
fits_in limit n is = grind (arith, nat_tests)

exceeds : (limit n : ℕ) → limit < n → nat_lt limit n ≡ true
exceeds limit n is = grind (arith, nat_tests)

pub not_within : (limit n : ℕ) → nat_le n limit ≡ false → limit < n
not_within limit n is = grind (arith, nat_tests)

pub within_it : (limit n : ℕ) → nat_le n limit ≡ true → n ≤ limit
within_it limit n is = grind (arith, nat_tests)

-- if a repository can be added, what is offered fits or does not fit
taken_row : (view : View) (copy : List ℕ) (offer : Offer) → contains_key view.repositories copy ≡ false → nat_le MAX_REPOSITORIES (len view.repositories) ≡ false → use_of (joined view.objects offer.objects) ≤ view.limit
    → offer_taken view copy offer ≡ (Done [], record view { repositories = insert view.repositories copy offer.repository; objects = joined view.objects offer.objects })
taken_row view copy offer absent room fits =
    third (contains_key view.repositories copy) (nat_le MAX_REPOSITORIES (len view.repositories)) (nat_lt view.limit (use_of (joined view.objects offer.objects)))
    (Refused (RepositoryExists copy), view) (Refused TooMany, view) (Refused OverQuota, view) (Done [], record view { repositories = insert view.repositories copy offer.repository; objects = joined view.objects offer.objects }) absent room
    ∙ ap (λ full. cond {A = Reply × View} full (Refused OverQuota, view) (Done [], record view { repositories = insert view.repositories copy offer.repository; objects = joined view.objects offer.objects })) (fits_in view.limit (use_of (joined view.objects offer.objects)) fits)

full_row : (view : View) (copy : List ℕ) (offer : Offer) → contains_key view.repositories copy ≡ false → nat_le MAX_REPOSITORIES (len view.repositories) ≡ false → view.limit < use_of (joined view.objects offer.objects)
    → offer_taken view copy offer ≡ (Refused OverQuota, view)
full_row view copy offer absent room above =
    third (contains_key view.repositories copy) (nat_le MAX_REPOSITORIES (len view.repositories)) (nat_lt view.limit (use_of (joined view.objects offer.objects)))
    (Refused (RepositoryExists copy), view) (Refused TooMany, view) (Refused OverQuota, view) (Done [], record view { repositories = insert view.repositories copy offer.repository; objects = joined view.objects offer.objects }) absent room
    ∙ ap (λ full. cond {A = Reply × View} full (Refused OverQuota, view) (Done [], record view { repositories = insert view.repositories copy offer.repository; objects = joined view.objects offer.objects })) (exceeds view.limit (use_of (joined view.objects offer.objects)) above)

-- why a new repository is refused, if it is
abbrev refusal_of : Bool → Bool → List ℕ → Option Refusal
refusal_of exists many copy = cond exists (Some (RepositoryExists copy)) (cond many (Some TooMany) None)

pub refused_row : (view : View) (copy : List ℕ) (offer : Offer) (refusal : Refusal) → refusal_of (contains_key view.repositories copy) (nat_le MAX_REPOSITORIES (len view.repositories)) copy ≡ Some refusal → offer_taken view copy offer ≡ (Refused refusal, view)
refused_row view copy offer refusal is =
    by (contains_key view.repositories copy) (nat_le MAX_REPOSITORIES (len view.repositories)) _ is
  where
    same : (a b : Refusal) → ◌≡◌ {A = Option Refusal} (Some a) (Some b) → ◌≡◌ {A = Reply × View} (Refused a, view) (Refused b, view)
    same a b is = (let one : a ≡ b = cc in ap (λ r. (Refused r, view)) one)

    by : (exists many : Bool) (w : Reply × View) → refusal_of exists many copy ≡ Some refusal → cond exists (Refused (RepositoryExists copy), view) (cond many (Refused TooMany, view) w) ≡ (Refused refusal, view)
    by true many w is = same (RepositoryExists copy) refusal is
    by false true w is = same TooMany refusal is
    by false false w is = absurd (cc)

-- and if it is not refused
pub none_stands : (exists many : Bool) (copy : List ℕ) → refusal_of exists many copy ≡ None → (exists ≡ false) × (many ≡ false)
none_stands true many copy is = absurd (cc)
none_stands false true copy is = absurd (cc)
none_stands false false copy is = (refl, refl)

-- ---- a vault that was only read
-- the view has the measures that it had, and over an honest store it is unchanged
pub read_safe_in : (tenant : List ℕ) (account : Account) (old new : VaultState) (reply : Reply) → shape_of new.tenants ≡ shape_of old.tenants → IsBounded [] old new reply → IsSafe (IsBounded [] old new) (shown account old tenant) reply (shown account new tenant)
read_safe_in tenant account old new reply shape bounded =
    safe_left (IsBounded [] old new) account.repositories account.repositories (visible_in old tenant) (visible_in new tenant) (shown account old tenant) (shown account new tenant) account.limit reply refl
    (ap (λ (p : Measures × Measures). p.0) (same_measures old.tenants new.tenants tenant shape)) (alike_shown account (private_of old.tenants tenant) (private_of new.tenants tenant)) bounded

pub read_yields : (row : Reply × View) (tenant : List ℕ) (account : Account) (old new : VaultState) (fault : HostFault) (reply : Reply) → (IsTrue old.honest → new.tenants ≡ old.tenants) → reply ≡ Failed fault → IsTrue old.honest
    → Yields row (shown account old tenant) reply (shown account new tenant)
read_yields row tenant account old new fault reply kept told honest = Faulted fault told (ap (λ tenants. plain (seen_by account (private_of tenants tenant))) (kept honest))

-- ---- the walk, and what happens to the offer after it
-- a vault was read for what references reach of what a giver sees, and these names were found
pub record Walked (old mid : VaultState) (giver : List ℕ) (references : References) (names : List ℕ → Bool) : Type 0 where
  pub shape : shape_of mid.tenants ≡ shape_of old.tenants
  pub kept : IsTrue old.honest → mid.tenants ≡ old.tenants
  pub read : ReadsStore old mid None
  pub rooted : (name : List ℕ) → Contains (values references) name → contains_key (visible_in old giver) name ≡ true → names name ≡ true
  pub found : IsTrue old.honest → (name : List ℕ) → names name ≡ is_reached (linked_names (visible_in old giver)) (visible_in old giver) (values references) name

-- over an honest store these are the objects that the offer holds
walked_objects : (old mid : VaultState) (giver : List ℕ) (references : References) (names : List ℕ → Bool) → Walked old mid giver references names → IsTrue old.honest
    → retain_keys (visible_in mid giver) names ≡ reached_by (visible_in old giver) references
walked_objects old mid giver references names walked honest =
    ap (λ tenants. retain_keys (private_of tenants giver).visible names) (walked.kept honest) ∙ ap (retain_keys (visible_in old giver)) (λ i name. walked.found honest name i)

-- over any store, references that are valid over what the giver sees are valid over any objects that include those of these names
walked_references : (old mid : VaultState) (giver : List ℕ) (references : References) (names : List ℕ → Bool) (all : Objects) → Walked old mid giver references names → AreAmong (retain_keys (visible_in mid giver) names) all
    → AreReferences (visible_in old giver) references → AreReferences all references
walked_references old mid giver references names all walked among =
    references_alike (visible_in old giver) all references (λ reference target points there.
    let seen = visible_in mid giver in
    let same = ap (λ (p : Measures × Measures). p.0) (same_measures old.tenants mid.tenants giver walked.shape) in
    let kept = stays_at seen names target (walked.rooted target (target_among references reference target points) there) in
    let here = same_there seen (visible_in old giver) target same ∙ there in
    ap (option_map (λ object. object.kind)) (found_among (retain_keys seen names) all target among (ap is_some kept ∙ here) ∙ kept) ∙ same_kinds seen (visible_in old giver) target same)

-- a fault that an honest store does not have
bounded_damaged : (old new : VaultState) → Gains [] old new → (IsTrue old.honest → ⊥) → IsBounded [] old new (Failed Damaged)
bounded_damaged old new gains never = record {
  honest = gains.honest;
  counted = gains.failures;
  undamaged = λ honest. absurd (never honest);
  collided = λ honest. absurd (never honest);
  stored = λ honest. absurd (never honest);
}

memory_apart : Damaged ≡ Memory → ⊥
memory_apart is = cc

module _ (tenant giver copy : List ℕ) (repository : Repository) (names : List ℕ → Bool) (account now : Account) (old mid new : VaultState) (reply : Reply) (there : contains_key old.tenants tenant ≡ true)
    (walked : Walked old mid giver repository.references names) (left : LeavesStore mid new) where
  abbrev IsDone : Type 0
  IsDone = IsForked tenant copy repository (retain_keys (visible_in mid giver) names) account now mid new reply

  here : contains_key mid.tenants tenant ≡ true
  here = same_tenants_there old.tenants mid.tenants tenant walked.shape ∙ there

  -- only the tenant's part was used
  pub forked_own : IsDone → IsOwn tenant old new
  forked_own forked = own_then tenant old mid new (own_read old mid tenant walked.shape walked.kept walked.read.honest) (by forked)
    where
      by : IsDone → IsOwn tenant mid new
      by (Forked told fits has set among) = own_of mid new tenant (made_just mid new tenant (with_adopted (retain_keys (visible_in mid giver) names)) here set left.honest)
      by (Full told above has same) = own_read mid new tenant (ap shape_of same) (λ _. same) left.honest
      by (Unforked fault told is lacks has same) = own_read mid new tenant (ap shape_of same) (λ _. same) left.honest

  -- its offers and its upload stay
  pub forked_made : IsDone → now.made ≡ account.made
  forked_made (Forked told fits has set among) = ap (λ (a : Account). a.made) has
  forked_made (Full told above has same) = ap (λ (a : Account). a.made) has
  forked_made (Unforked fault told is lacks has same) = ap (λ (a : Account). a.made) has

  forked_upload : IsDone → now.upload ≡ account.upload
  forked_upload (Forked told fits has set among) = ap (λ (a : Account). a.upload) has
  forked_upload (Full told above has same) = ap (λ (a : Account). a.upload) has
  forked_upload (Unforked fault told is lacks has same) = ap (λ (a : Account). a.upload) has

  -- and the repository was added
  pub forked_repositories : IsDone → is_done reply ≡ true → now.repositories ≡ insert account.repositories copy repository
  forked_repositories (Forked told fits has set among) done = ap (λ (a : Account). a.repositories) has
  forked_repositories (Full told above has same) done = (let no : false ≡ true = sym (ap is_done told) ∙ done in absurd (cc))
  forked_repositories (Unforked fault told is lacks has same) done = (let no : false ≡ true = sym (ap is_done told) ∙ done in absurd (cc))

  still_staged : IsDone → staged_in new tenant ≡ staged_in mid tenant
  still_staged (Forked told fits has set among) = ap (λ (p : Private). p.staged) (changed_at mid.tenants new.tenants tenant (with_adopted (retain_keys (visible_in mid giver) names)) here set)
  still_staged (Full told above has same) = ap (λ tenants. (private_of tenants tenant).staged) same
  still_staged (Unforked fault told is lacks has same) = ap (λ tenants. (private_of tenants tenant).staged) same

  pub forked_staged : IsDone → IsStaged old.honest account.upload (staged_in old tenant) → IsStaged old.honest now.upload (staged_in new tenant)
  forked_staged forked staged =
      subst (λ upload. IsStaged old.honest upload (staged_in new tenant)) (sym (forked_upload forked))
      (subst (IsStaged old.honest account.upload) (sym (still_staged forked)) (staged_kept_still old mid tenant account.upload (staged_read old mid tenant walked.shape walked.kept) staged))

  -- what is added is what the giver sees
  same_seen : (t : List ℕ) → measures_of (visible_in mid t) ≡ measures_of (visible_in old t)
  same_seen t = ap (λ (p : Measures × Measures). p.0) (same_measures old.tenants mid.tenants t walked.shape)

  none_taken : new.tenants ≡ mid.tenants → IsTakenFrom (visible_in old giver) (visible_in old tenant) (visible_in new tenant)
  none_taken same = taken_none (visible_in old giver) (visible_in old tenant) (visible_in new tenant) (ap (λ tenants. measures_of (private_of tenants tenant).visible) same ∙ same_seen tenant)

  pub forked_takes : IsDone → IsTakenFrom (visible_in old giver) (visible_in old tenant) (visible_in new tenant)
  forked_takes (Forked told fits has set among) =
      taken_alike (visible_in mid giver) (visible_in mid tenant) (visible_in old giver) (visible_in old tenant) (visible_in new tenant) (same_seen giver) (same_seen tenant)
      (subst (IsTakenFrom (visible_in mid giver) (visible_in mid tenant)) (sym (ap (λ (p : Private). p.visible) (changed_at mid.tenants new.tenants tenant (with_adopted (retain_keys (visible_in mid giver) names)) here set)))
      (taken_beside (visible_in mid giver) (visible_in mid tenant) names))
  forked_takes (Full told above has same) = none_taken same
  forked_takes (Unforked fault told is lacks has same) = none_taken same

  -- the store was read, and only a damaged one gives a fault
  gains : Gains [] old new
  gains = gains_then [] old mid new (gains_read [] old mid walked.read) (gains_left [] mid new left)

  pub forked_bounded : IsDone → IsBounded [] old new reply
  forked_bounded (Forked told fits has set among) = bounded_gains [] old new reply gains (inl (ap is_host_fault told))
  forked_bounded (Full told above has same) = bounded_gains [] old new reply gains (inl (ap is_host_fault told))
  forked_bounded (Unforked fault told (inl memory) lacks has same) = bounded_gains [] old new reply gains (inr (told ∙ ap (λ f. Failed f) memory))
  forked_bounded (Unforked fault told (inr damaged) lacks has same) =
      subst (IsBounded [] old new) (sym (told ∙ ap (λ f. Failed f) damaged))
      (bounded_damaged old new gains (λ honest. memory_apart (sym damaged ∙ lacks (walked.read.honest ∙ honest))))

  -- the view if nothing changes
  safe_same : new.tenants ≡ mid.tenants → now ≡ account → IsBounded [] old new reply → IsSafe (IsBounded [] old new) (shown account old tenant) reply (shown now new tenant)
  safe_same same has bounded = subst (λ a. IsSafe (IsBounded [] old new) (shown account old tenant) reply (shown a new tenant)) (sym has) (read_safe_in tenant account old new reply (ap shape_of same ∙ walked.shape) bounded)

  -- and if the repository and what it holds were added
  orderly_forked : nat_le MAX_REPOSITORIES (len account.repositories) ≡ false → IsRepositoryName copy → IsBranch repository.head → AreReferences (visible_in old giver) repository.references
      → use_of (joined (visible_in mid tenant) (retain_keys (visible_in mid giver) names)) ≤ account.limit → new.tenants ≡ at_tenant mid.tenants tenant (with_adopted (retain_keys (visible_in mid giver) names))
      → AreAmong (retain_keys (visible_in mid giver) names) (visible_in new tenant) → IsOrderly (shown account old tenant) → IsOrderly (shown (record account { repositories = insert account.repositories copy repository }) new tenant)
  orderly_forked room named head holds fits set among before =
      let seen = visible_in mid tenant in
      let sees : visible_in new tenant ≡ joined seen (retain_keys (visible_in mid giver) names) = ap (λ (p : Private). p.visible) (changed_at mid.tenants new.tenants tenant (with_adopted (retain_keys (visible_in mid giver) names)) here set) in
      let first = orderly_measured account.repositories (visible_in old tenant) seen (shown account old tenant) (shown account new tenant) account.limit
      (ap (λ (p : Measures × Measures). p.0) (same_measures old.tenants mid.tenants tenant walked.shape)) (alike_shown account (private_of old.tenants tenant) (private_of new.tenants tenant)) before in
      orderly_taken (view_of (shown account new tenant) account.repositories seen account.limit) copy repository (visible_in new tenant)
      (λ name is. ap (λ (all : Objects). get all name) sees ∙ among_joined seen (retain_keys (visible_in mid giver) names) name is) room named head
      (walked_references old mid giver repository.references names (visible_in new tenant) walked among holds) (subst (λ (all : Objects). use_of all ≤ account.limit) (sym sees) fits) first

  pub forked_safe : nat_le MAX_REPOSITORIES (len account.repositories) ≡ false → IsRepositoryName copy → IsBranch repository.head → AreReferences (visible_in old giver) repository.references → IsDone
      → IsSafe (IsBounded [] old new) (shown account old tenant) reply (shown now new tenant)
  forked_safe room named head holds (Forked told fits has set among) = record {
    orderly = λ before. subst (λ a. IsOrderly (shown a new tenant)) (sym has) (orderly_forked room named head holds fits set among before);
    kept = λ not_done. (let differs : ⊥ = cc (ap is_done told) in absurd differs);
    faults = forked_bounded (Forked told fits has set among);
  }
  forked_safe room named head holds (Full told above has same) = safe_same same has (forked_bounded (Full told above has same))
  forked_safe room named head holds (Unforked fault told is lacks has same) = safe_same same has (forked_bounded (Unforked fault told is lacks has same))

  -- over an honest store, the reply and the plain part of the view are those of the row
  all_same : new.tenants ≡ mid.tenants → now ≡ account → IsTrue old.honest → plain (shown now new tenant) ≡ plain (shown account old tenant)
  all_same same has honest = ap (λ a. plain (shown a new tenant)) has ∙ ap (λ tenants. plain (seen_by account (private_of tenants tenant))) (same ∙ walked.kept honest)

  pub forked_yields : contains_key account.repositories copy ≡ false → nat_le MAX_REPOSITORIES (len account.repositories) ≡ false → IsDone → IsTrue old.honest
      → Yields (offer_taken (shown account old tenant) copy (offered (visible_in old giver) repository)) (shown account old tenant) reply (shown now new tenant)
  forked_yields absent room (Forked told fits has set among) honest =
      let view = shown account old tenant in
      let offer = offered (visible_in old giver) repository in
      let after = record account { repositories = insert account.repositories copy repository } in
      let brings : joined (visible_in mid tenant) (retain_keys (visible_in mid giver) names) ≡ joined view.objects offer.objects =
      ap (λ tenants. joined (private_of tenants tenant).visible (retain_keys (visible_in mid giver) names)) (walked.kept honest)
      ∙ ap (joined view.objects) (walked_objects old mid giver repository.references names walked honest) in
      let now_is = changed_at mid.tenants new.tenants tenant (with_adopted (retain_keys (visible_in mid giver) names)) here set in
      let row = taken_row view copy offer absent room (subst (λ (all : Objects). use_of all ≤ account.limit) brings fits) in
      let stays : staged_in new tenant ≡ staged_in old tenant = ap (λ (p : Private). p.staged) now_is ∙ ap (λ tenants. (private_of tenants tenant).staged) (walked.kept honest) in
      Yielded (told ∙ sym (ap (λ (r : Reply × View). r.0) row))
      (ap (λ a. plain (shown a new tenant)) has
      ∙ plain_as view (shown after new tenant) (ap (λ staged. option_map (upload_among staged) account.upload) stays) (same_made account.made (visible_in old tenant) (visible_in new tenant))
      ∙ ap (λ all. plain (record view { repositories = insert account.repositories copy repository; objects = all })) (ap (λ (p : Private). p.visible) now_is ∙ brings)
      ∙ sym (ap (λ (r : Reply × View). plain r.1) row))
  forked_yields absent room (Full told above has same) honest =
      let view = shown account old tenant in
      let offer = offered (visible_in old giver) repository in
      let brings : joined (visible_in mid tenant) (retain_keys (visible_in mid giver) names) ≡ joined view.objects offer.objects =
      ap (λ tenants. joined (private_of tenants tenant).visible (retain_keys (visible_in mid giver) names)) (walked.kept honest)
      ∙ ap (joined view.objects) (walked_objects old mid giver repository.references names walked honest) in
      let row = full_row view copy offer absent room (subst (λ (all : Objects). account.limit < use_of all) brings above) in
      Yielded (told ∙ sym (ap (λ (r : Reply × View). r.0) row)) (all_same same has honest ∙ sym (ap (λ (r : Reply × View). plain r.1) row))
  forked_yields absent room (Unforked fault told is lacks has same) honest = Faulted fault told (all_same same has honest)

-- ---- the words
-- a reply that is no host fault except lack of memory, and leaves everything
pub safe_quiet : (vault : VaultState) (view : View) (reply : Reply) → IsQuiet reply → IsSafe (IsBounded [] vault vault) view reply view
safe_quiet vault view reply quiet = record { orderly = λ before. before; kept = λ _. refl; faults = bounded_still [] vault reply quiet }

pub bad_quiet : (reply : Reply) (word : List ℕ) → (reply ≡ Refused (BadName word)) ⊎ (reply ≡ Failed Memory) → IsQuiet reply
bad_quiet reply word (inl told) = inl (ap is_host_fault told)
bad_quiet reply word (inr wanting) = inr wanting

pub bad_undone : (reply : Reply) (word : List ℕ) → (reply ≡ Refused (BadName word)) ⊎ (reply ≡ Failed Memory) → is_done reply ≡ true → ⊥
bad_undone reply word (inl told) done = (let no : false ≡ true = sym (ap is_done told) ∙ done in cc)
bad_undone reply word (inr wanting) done = (let no : false ≡ true = sym (ap is_done wanting) ∙ done in cc)

-- a word that is no name: the reply says so, or reports lack of memory
pub yields_bad : (row : Reply × View) (view : View) (word : List ℕ) (reply : Reply) → row ≡ (Refused (BadName word), view) → (reply ≡ Refused (BadName word)) ⊎ (reply ≡ Failed Memory) → Yields row view reply view
yields_bad row view word reply is (inl told) = Yielded (told ∙ sym (ap (λ (r : Reply × View). r.0) is)) (sym (ap (λ (r : Reply × View). plain r.1) is))
yields_bad row view word reply is (inr wanting) = Lacking wanting refl

pub yields_refused : (row : Reply × View) (view : View) (refusal : Refusal) (reply : Reply) → row ≡ (Refused refusal, view) → reply ≡ Refused refusal → Yields row view reply view
yields_refused row view refusal reply is told = Yielded (told ∙ sym (ap (λ (r : Reply × View). r.0) is)) (sym (ap (λ (r : Reply × View). plain r.1) is))

module _ (context : Context) (view : View) (giver word copy : List ℕ) where
  abbrev after_names : Reply × View
  after_names = fork_offered view (giver, word) copy (get context.offered (giver, word))

  abbrev words_row : Bool → Bool → Bool → Reply × View
  words_row one two three = cond one (cond two (cond three after_names (Refused (BadName copy), view)) (Refused (BadName word), view)) (Refused (BadName giver), view)

  by_words : fork_offer_answer context view giver word copy ≡ words_row (is_plain_name MAX_TENANT_NAME giver) (is_plain_name MAX_REPOSITORY_NAME word) (is_plain_name MAX_REPOSITORY_NAME copy)
  unfolding fork_offer_answer
  by_words = refl

  pub giver_unnamed : is_plain_name MAX_TENANT_NAME giver ≡ false → fork_offer_answer context view giver word copy ≡ (Refused (BadName giver), view)
  giver_unnamed one = by_words ∙ ap (λ b. words_row b (is_plain_name MAX_REPOSITORY_NAME word) (is_plain_name MAX_REPOSITORY_NAME copy)) one

  pub word_unnamed : is_plain_name MAX_TENANT_NAME giver ≡ true → is_plain_name MAX_REPOSITORY_NAME word ≡ false → fork_offer_answer context view giver word copy ≡ (Refused (BadName word), view)
  word_unnamed one two = by_words ∙ (λ i. words_row (one i) (two i) (is_plain_name MAX_REPOSITORY_NAME copy))

  pub copy_unnamed : is_plain_name MAX_TENANT_NAME giver ≡ true → is_plain_name MAX_REPOSITORY_NAME word ≡ true → is_plain_name MAX_REPOSITORY_NAME copy ≡ false → fork_offer_answer context view giver word copy ≡ (Refused (BadName copy), view)
  copy_unnamed one two three = by_words ∙ (λ i. words_row (one i) (two i) (three i))

  pub all_named : is_plain_name MAX_TENANT_NAME giver ≡ true → is_plain_name MAX_REPOSITORY_NAME word ≡ true → is_plain_name MAX_REPOSITORY_NAME copy ≡ true → (o : Option Offer) → get context.offered (giver, word) ≡ o
      → fork_offer_answer context view giver word copy ≡ fork_offered view (giver, word) copy o
  all_named one two three o is = by_words ∙ (λ i. words_row (one i) (two i) (three i)) ∙ ap (fork_offered view (giver, word) copy) is
