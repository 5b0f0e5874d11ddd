-- What was taken, without what its last line says.
use Rattle.std.proofs.Common.{◌≡◌, ℕ, Bool, true, false, List, [], ◌∷◌, ◌++◌, ◌⊎◌, inl, inr, ⊎_elim, codes, decimal, refl, sym, ap, subst, ◌∙◌}
use Rattle.std.specs.FinMap as finite
use Rattle.std.specs.FinMap.{entries, from_sorted}
use Rattle.std.specs.List.{AllByRecursion}
use Rattle.hex.specs.Hex.{encode_lower}
use Rattle.git_name.specs.Name.{IsName}
use Rattle.git_refname.specs.Namespace.{expanded}
use Rattle.git_reftx.specs.Repository as git
use Rattle.git_reftx.specs.Repository.{main_branch, new_repository}
use Rattle.state_text.specs.declared.place.Place.{Place}
use Rattle.state_text.specs.declared.place.Place.TheVariants.{Own, Offered}
use Rattle.state_text.specs.declared.version.Version.{Version}
use Rattle.state_text.specs.declared.version.Version.TheVariants.{One, Two}
use Rattle.state_text.specs.Place.{IsLast, place_name, with_at}
use Rattle.state_text.specs.States.{Ascend, IsStates, IsTenantState, MayBeTold, States, TenantState}
use Rattle.state_text.specs.Taking.{Adds, HasReferenceMore, IsRightSoFar, Taken, Head, Tenant, Repository, Reference, Seen, Offer, awaits_head}
use Rattle.state_text.specs.Text.{VersionTells}
use Rattle.state_text.proofs.BehindLemmas.{ascend_front, each_front, from_back}
use Rattle.state_text.proofs.LastLemmas.{fewer_entries, less_told}
use Rattle.state_text.proofs.LineLemmas.{no_entries}
use Rattle.state_text.proofs.PlaceLemmas.{place_changed, place_less, same_name_at, told_at}
use Rattle.state_text.proofs.StateLemmas.{last_right, tenant_changed, tenant_less}
use Rattle.state_text.specs.Offer.{offer_words}
use Rattle.state_text.proofs.TellingLemmas.{TellsOne, main_head, offered_plain, tells_all, tells_before, tells_behind, tells_changed, tells_last, tells_less, unseen_told}
use Rattle.state_text.proofs.NewLemmas.{new_told}

-- only the first line was read
abbrev pub nothing_taken : Taken
nothing_taken = record { states = []; awaits = false }

-- what was taken, and what it was before its last line
pub record HasBefore (version : Version) (taken : Taken) : Type 0 where
  pub old : Taken
  pub line : List ℕ
  pub right : IsRightSoFar version old
  pub adds : Adds version old line taken

-- a HEAD is awaited only in version 2
new_place : (version : Version) (old new : Taken) (before : States) (tenant : TenantState) (place : Place) → IsLast tenant place → old.states ≡ before ++ tenant ∷ [] → new.states ≡ before ++ with_at tenant place new_repository ∷ [] → old.awaits ≡ false
    → new.awaits ≡ awaits_head version → TellsOne version (with_at tenant place new_repository) → (line : List ℕ) × Adds version old line new
new_place version old new before tenant (Own name) last was is old_is new_is tells =
    (codes "repo " ++ name, Repository name refl (record { was = old_is; is = new_is }) (record { before = before; tenant = tenant; last = last; was = was; added = is }))
new_place One old new before tenant (Offered receiver name) last was is old_is new_is tells = absurd (offered_plain tenant receiver name new_repository tells)
new_place Two old new before tenant (Offered receiver name) last was is old_is new_is tells = (
  codes "offer " ++ offer_words receiver name,
  Offer (offer_words receiver name) refl (record { was = old_is; is = new_is })
      (record { receiver = receiver; name = name; told = refl; spelled = refl; begins = record { before = before; tenant = tenant; last = last; was = was; added = is } }),
)

module _ (version : Version) (taken : Taken) (before : States) (tenant : TenantState) (right : IsRightSoFar version taken) (is : taken.states ≡ before ++ tenant ∷ []) where
  whole : IsStates (before ++ tenant ∷ [])
  whole = subst IsStates is right.right

  tenant_right : IsTenantState tenant
  tenant_right = last_right before tenant whole

  told_of : TellsOne version tenant
  told_of = tells_last version before tenant (subst (VersionTells version) is right.tells)

  told_before : VersionTells version before
  told_before = tells_less version before tenant (subst (VersionTells version) is right.tells)

  -- the same tenants with another last one
  old_taken : (old : TenantState) → IsTenantState old → old.name ≡ tenant.name → TellsOne version old → IsRightSoFar version (record { states = before ++ old ∷ []; awaits = false })
  old_taken old old_right same tells = record { right = tenant_changed before tenant old whole old_right (sym same); tells = tells_behind version before old told_before tells; begun = λ is. absurd (cc) }

  -- something has just begun
  back_begun : (place : Place) (less : TenantState) → IsLast less place → tenant ≡ with_at less place new_repository → taken.awaits ≡ awaits_head version → HasBefore version taken
  back_begun place less last at awaits =
      let here : IsTenantState (with_at less place new_repository) = subst IsTenantState at tenant_right in
      let tells : TellsOne version (with_at less place new_repository) = subst (TellsOne version) at told_of in
      let old : Taken = record { states = before ++ less ∷ []; awaits = false } in
      let line = new_place version old taken before less place last refl (is ∙ ap (λ t. before ++ t ∷ []) at) refl awaits tells in
      record {
        old = old;
        line = line.0;
        right = old_taken less (place_less less place new_repository here) (sym (ap (λ t. t.name) at ∙ same_name_at less place new_repository)) (tells_before version less place new_repository tells);
        adds = line.1;
      }

  module _ (known : taken.awaits ≡ false) where
    -- a seen object came last
    back_seen : (seen : List (List ℕ)) (name : List ℕ) → tenant.offers ≡ [] → tenant.seen ≡ seen ++ name ∷ [] → HasBefore version taken
    back_seen seen name none more =
        let old : TenantState = record { name = tenant.name; limit = tenant.limit; repositories = tenant.repositories; seen = seen; offers = tenant.offers } in
        let old_right : IsTenantState old = record {
          named = tenant_right.named;
          limit = tenant_right.limit;
          few = tenant_right.few;
          ordered = tenant_right.ordered;
          repositories = tenant_right.repositories;
          seen_ordered = ascend_front seen name (subst Ascend more tenant_right.seen_ordered);
          seen = each_front IsName seen name (subst (AllByRecursion IsName) more tenant_right.seen);
          few_offers = tenant_right.few_offers;
          offers_ordered = tenant_right.offers_ordered;
          offers = tenant_right.offers;
        } in
        record {
          old = record { states = before ++ old ∷ []; awaits = false };
          line = codes "see " ++ encode_lower name;
          right = old_taken old old_right refl (unseen_told version tenant seen told_of);
          adds = Seen (encode_lower name) refl (record { was = refl; is = known })
              (record {
                before = before;
                tenant = old;
                name = name;
                unoffered = none;
                spelled = refl;
                was = refl;
                added = is ∙ (λ i. before ++ record { name = tenant.name; limit = tenant.limit; repositories = tenant.repositories; seen = more i; offers = tenant.offers } ∷ []);
              });
        }

    -- a reference came last
    back_reference : (place : Place) (less : TenantState) (repository : git.Repository) (es : List (List ℕ × List ℕ)) (name target : List ℕ) → IsLast less place → tenant ≡ with_at less place repository
        → entries repository.references ≡ es ++ (name, target) ∷ [] → HasBefore version taken
    back_reference place less repository es name target last at more =
        let fewer : git.Repository = record { head = repository.head; references = from_sorted es } in
        let here : IsTenantState (with_at less place repository) = subst IsTenantState at tenant_right in
        let pushed : HasReferenceMore fewer name target repository = record { head = refl; pushed = more ∙ ap (λ l. l ++ (name, target) ∷ []) (sym (fewer_entries repository.references es (name, target) more)) } in
        let told : MayBeTold fewer = less_told fewer repository name target pushed (told_at less place repository here) in
        let same : (with_at less place fewer).name ≡ tenant.name = same_name_at less place fewer ∙ sym (ap (λ t. t.name) at ∙ same_name_at less place repository) in
        let words = encode_lower target ++ codes " " ++ expanded (less.name ∷ place_name place ∷ []) ++ name in
        record {
          old = record { states = before ++ with_at less place fewer ∷ []; awaits = false };
          line = codes "ref " ++ words;
          right = old_taken (with_at less place fewer) (place_changed less place repository fewer here told) same (tells_changed version less place repository fewer refl (subst (TellsOne version) at told_of));
          adds = Reference words refl (record { was = refl; is = known })
              (record { before = before; tenant = less; place = place; repository = fewer; next = repository; name = name; target = target; last = last; was = refl; more = pushed; spelled = refl; added = is ∙ ap (λ t. before ++ t ∷ []) at });
        }

    -- a HEAD came last
    back_head : (place : Place) (less : TenantState) (repository : git.Repository) → IsLast less place → tenant ≡ with_at less place repository → repository.references ≡ finite.empty → awaits_head version ≡ true → HasBefore version taken
    back_head place less repository last at none heads =
        let here : IsTenantState (with_at less place repository) = subst IsTenantState at tenant_right in
        let same : (with_at less place new_repository).name ≡ tenant.name = same_name_at less place new_repository ∙ sym (ap (λ t. t.name) at ∙ same_name_at less place repository) in
        let states : IsStates (before ++ with_at less place new_repository ∷ []) = tenant_changed before tenant (with_at less place new_repository) whole (place_changed less place repository new_repository here new_told) (sym same) in
        let words = expanded (less.name ∷ place_name place ∷ []) ++ repository.head in
        record {
          old = record { states = before ++ with_at less place new_repository ∷ []; awaits = true };
          line = codes "head " ++ words;
          right = record { right = states; tells = tells_all version (before ++ with_at less place new_repository ∷ []) heads; begun = λ awaited. (heads, record { before = before; tenant = less; place = place; last = last; is = refl }) };
          adds = Head heads (record { was = refl; is = known }) (record {
            rest = words;
            is = refl;
            adds = record {
              before = before;
              tenant = less;
              place = place;
              head = repository.head;
              last = last;
              was = refl;
              spelled = refl;
              added = is ∙ ap (λ t. before ++ t ∷ []) at ∙ (λ i. before ++ with_at less place (record { head = repository.head; references = none i }) ∷ []);
            };
          });
        }

    -- the last item has no references
    back_bare : (place : Place) (less : TenantState) (repository : git.Repository) → IsLast less place → tenant ≡ with_at less place repository → repository.references ≡ finite.empty → HasBefore version taken
    back_bare place less repository last at none = either (awaits_head version) refl
      where
        either : (b : Bool) → awaits_head version ≡ b → HasBefore version taken
        either true heads = back_head place less repository last at none heads
        either false plain =
            let main : repository.head ≡ main_branch = main_head version less place repository plain (subst (TellsOne version) at told_of) in
            back_begun place less last (at ∙ (λ i. with_at less place (record { head = main i; references = none i }))) (known ∙ sym plain)

    -- the last item, with or without references
    back_at : (place : Place) (less : TenantState) (repository : git.Repository) → IsLast less place → tenant ≡ with_at less place repository → HasBefore version taken
    back_at place less repository last at =
        ⊎_elim
        (λ none. back_bare place less repository last at (finite.same_entries_map repository.references finite.empty (none ∙ sym no_entries)))
        (λ reference. back_reference place less repository reference.front reference.last.0 reference.last.1 last at reference.is)
        (from_back (entries repository.references))

    -- a tenant came last, and has nothing yet
    back_tenant : tenant.offers ≡ [] → tenant.seen ≡ [] → tenant.repositories ≡ [] → HasBefore version taken
    back_tenant no_offers none nothing = record {
      old = record { states = before; awaits = false };
      line = codes "tenant " ++ (tenant.name ++ codes " " ++ decimal tenant.limit);
      right = record { right = tenant_less before tenant whole; tells = told_before; begun = λ is. absurd (cc) };
      adds = Tenant (tenant.name ++ codes " " ++ decimal tenant.limit) refl (record { was = refl; is = known })
          (record {
            name = tenant.name;
            limit = tenant.limit;
            spelled = refl;
            added = is ∙ (λ i. before ++ record { name = tenant.name; limit = tenant.limit; repositories = nothing i; seen = none i; offers = no_offers i } ∷ []);
          });
    }

    back_own : tenant.offers ≡ [] → tenant.seen ≡ [] → HasBefore version taken
    back_own no_offers none =
        ⊎_elim
        (λ nothing. back_tenant no_offers none nothing)
        (λ last. back_at (Own last.last.0) (record { name = tenant.name; limit = tenant.limit; repositories = last.front; seen = tenant.seen; offers = tenant.offers }) last.last.1 (none, no_offers)
        (λ i. record { name = tenant.name; limit = tenant.limit; repositories = last.is i; seen = tenant.seen; offers = tenant.offers }))
        (from_back tenant.repositories)

    back_unoffered : tenant.offers ≡ [] → HasBefore version taken
    back_unoffered no_offers = ⊎_elim (λ none. back_own no_offers none) (λ last. back_seen last.front last.last no_offers last.is) (from_back tenant.seen)

    back_last : HasBefore version taken
    back_last =
        ⊎_elim
        (λ none. back_unoffered none)
        (λ last. back_at (Offered last.last.receiver last.last.name) (record { name = tenant.name; limit = tenant.limit; repositories = tenant.repositories; seen = tenant.seen; offers = last.front }) last.last.repository tt
        (λ i. record { name = tenant.name; limit = tenant.limit; repositories = tenant.repositories; seen = tenant.seen; offers = last.is i }))
        (from_back tenant.offers)

-- if a HEAD is awaited, something has just begun
back_awaited : (version : Version) (taken : Taken) → IsRightSoFar version taken → taken.awaits ≡ true → HasBefore version taken
back_awaited version taken right is =
    let begun = right.begun is in
    back_begun version taken begun.1.before (with_at begun.1.tenant begun.1.place new_repository) right begun.1.is begun.1.place begun.1.tenant begun.1.last refl (is ∙ sym begun.0)

back_told : (version : Version) (taken : Taken) → IsRightSoFar version taken → taken.awaits ≡ false → (taken ≡ nothing_taken) ⊎ HasBefore version taken
back_told version taken right is =
    ⊎_elim (λ none. inl (λ i. record { states = none i; awaits = is i })) (λ last. inr (back_last version taken last.front last.last right last.is is)) (from_back taken.states)

-- either nothing was taken, or there was a last line
pub back : (version : Version) (taken : Taken) → IsRightSoFar version taken → (taken ≡ nothing_taken) ⊎ HasBefore version taken
back version taken right = by taken.awaits refl
  where
    by : (b : Bool) → taken.awaits ≡ b → (taken ≡ nothing_taken) ⊎ HasBefore version taken
    by true is = inr (back_awaited version taken right is)
    by false is = back_told version taken right is
