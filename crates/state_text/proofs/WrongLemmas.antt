-- No valid states continue with the line of an item that cannot be appended.
use Rattle.std.proofs.Common.{◌≡◌, ◌≢◌, ℕ, ◌+◌, ◌<◌, ◌≤◌, List, [], ◌∷◌, ◌++◌, codes, decimal, refl, sym, ap, subst, ◌∙◌, length, map, append_assoc, arith}
use Rattle.std.specs.FinMap as finite
use Rattle.hex.specs.Hex.{encode_lower}
use Rattle.std.proofs.lemmas.List.{append_cancel_left}
use Rattle.git_name.specs.Name.{IsName}
use Rattle.git_refname.specs.Namespace.{expanded}
use Rattle.git_reftx.specs.Push.{TellsPush}
use Rattle.git_reftx.specs.Repository as git
use Rattle.git_reftx.specs.Repository.{IsBranch, new_repository}
use Rattle.git_reftx.specs.Sound.{AreSound}
use Rattle.git_reftx.specs.declared.fault.PushRefError.{PushRefError}
use Rattle.git_reftx.specs.declared.fault.PushRefError.TheVariants as push
use Rattle.git_reftx.proofs.PushLemmas.{never_pushed}
use Rattle.fork_request.specs.Names.{IsTenantName}
use Rattle.fork_model.specs.declared.limits.TheConstants.{MAX_REPOSITORIES, MAX_TENANTS}
use Rattle.state_text.specs.declared.fault.AddError.{AddError}
use Rattle.state_text.specs.declared.fault.AddError.TheVariants.{OutOfOrder, TooMany, Memory}
use Rattle.state_text.specs.declared.fault.OfferError.{OfferError}
use Rattle.state_text.specs.declared.fault.OfferError.TheVariants as offering
use Rattle.fork_model.specs.declared.limits.TheConstants.{MAX_OFFERS}
use Rattle.state_text.specs.declared.place.Place.{Place}
use Rattle.state_text.specs.declared.place.Place.TheVariants.{Own, Offered}
use Rattle.state_text.specs.declared.version.Version.{Version}
use Rattle.state_text.specs.Adding.{AreBefore, TellsAdd, TellsOffer, fresh, with_seen}
use Rattle.state_text.specs.Offer.{offer_words, words_of_offer}
use Rattle.state_text.specs.Place.{IsLast, place_name, with_at}
use Rattle.state_text.specs.States.{Ascend, IsOffer, IsStates, IsTenantState, States, TenantState}
use Rattle.state_text.specs.Taking.{AddsHead, AddsOffer, AddsReference, AddsRepository, AddsSeen, AddsTenant, HasReferenceMore, Refuses, fault_of, fault_of_offer, fault_of_push}
use Rattle.state_text.proofs.BehindLemmas.{before_last, each_last, length_behind, map_behind, same_behind}
use Rattle.state_text.proofs.LastLemmas.{IsLastReference, last_reference}
use Rattle.state_text.proofs.PartLemmas.{digits_unique, digits_without, plain_without, reference_parts, same_parts}
use Rattle.state_text.proofs.PlaceLemmas.{IsSamePlace, offer_at, receiver_at, same_place, told_at}
use Rattle.state_text.proofs.StateLemmas.{last_right, tenants_before}

-- a tenant's line gives one name
named_so : (rest name : List ℕ) (limit : ℕ) (old new : States) → IsTenantName name → rest ≡ name ++ codes " " ++ decimal limit → IsStates new → (adds : AddsTenant old rest new) → name ≡ adds.name
named_so rest name limit old new named is right adds =
    let other : IsTenantState (fresh adds.name adds.limit) = last_right old (fresh adds.name adds.limit) (subst IsStates adds.added right) in
    (same_parts rest name (decimal limit) adds.name (decimal adds.limit) (is ∙ append_assoc name (codes " ") (decimal limit)) (plain_without _ 32 name refl named) (plain_without _ 32 adds.name refl other.named) adds.spelled).0

pub tenant_wrong : (old : States) (tenant : TenantState) (rest : List ℕ) (error : AddError) → IsTenantState tenant → rest ≡ tenant.name ++ codes " " ++ decimal tenant.limit → TellsAdd (MAX_TENANTS ≤ length old) (map (λ t. t.name) old) tenant.name error
    → Refuses AddsTenant old rest (fault_of error)
tenant_wrong old tenant rest OutOfOrder tenant_right is told = λ new right adds.
    told (subst (AreBefore (map (λ t. t.name) old)) (sym (named_so rest tenant.name tenant.limit old new tenant_right.named is right adds)) (tenants_before old (fresh adds.name adds.limit) (subst IsStates adds.added right)))
tenant_wrong old tenant rest TooMany tenant_right is told = λ new right adds.
    let few = right.few in
    let long : length new ≡ length old + 1 = ap (λ (ts : States). length ts) adds.added ∙ length_behind old (fresh adds.name adds.limit) in
    absurd (omega (arith, few, long, told))
tenant_wrong old tenant rest Memory tenant_right is told = tt

pub repository_wrong : (old before : States) (tenant : TenantState) (rest name : List ℕ) (error : AddError) → old ≡ before ++ tenant ∷ [] → name ≡ rest
    → TellsAdd (MAX_REPOSITORIES ≤ length tenant.repositories) (map (λ r. r.0) tenant.repositories) name error → Refuses AddsRepository old rest (fault_of error)
repository_wrong old before tenant rest name OutOfOrder was is told = λ new right adds.
    let same = (same_behind adds.before before adds.tenant tenant (sym adds.was ∙ was)).1 in
    let last : IsTenantState (with_at adds.tenant (Own rest) new_repository) = last_right adds.before (with_at adds.tenant (Own rest) new_repository) (subst IsStates adds.added right) in
    let ahead = before_last (map (λ r. r.0) adds.tenant.repositories) rest (subst Ascend (map_behind (λ r. r.0) adds.tenant.repositories (rest, new_repository)) last.ordered) in
    told (subst (λ t. AreBefore (map (λ r. r.0) t.repositories) name) same (subst (AreBefore (map (λ r. r.0) adds.tenant.repositories)) (sym is) ahead))
repository_wrong old before tenant rest name TooMany was is told = λ new right adds.
    let same = (same_behind adds.before before adds.tenant tenant (sym adds.was ∙ was)).1 in
    let last : IsTenantState (with_at adds.tenant (Own rest) new_repository) = last_right adds.before (with_at adds.tenant (Own rest) new_repository) (subst IsStates adds.added right) in
    let few = last.few in
    let long = length_behind adds.tenant.repositories (rest, new_repository) in
    let so_many : length adds.tenant.repositories ≡ length tenant.repositories = ap (λ t. length t.repositories) same in
    absurd (omega (arith, few, long, so_many, told))
repository_wrong old before tenant rest name Memory was is told = tt

pub seen_wrong : (old before : States) (tenant : TenantState) (rest name : List ℕ) (error : AddError) → old ≡ before ++ tenant ∷ [] → IsName name → rest ≡ encode_lower name → TellsAdd ⊥ tenant.seen name error → Refuses AddsSeen old rest (fault_of error)
seen_wrong old before tenant rest name OutOfOrder was named is told = λ new right adds.
    let same = (same_behind adds.before before adds.tenant tenant (sym adds.was ∙ was)).1 in
    let last : IsTenantState (with_seen adds.tenant adds.name) = last_right adds.before (with_seen adds.tenant adds.name) (subst IsStates adds.added right) in
    let names = digits_unique adds.name name (each_last IsName adds.tenant.seen adds.name last.seen) named (sym adds.spelled ∙ is) in
    told (subst (λ t. AreBefore t.seen name) same (subst (AreBefore adds.tenant.seen) names (before_last adds.tenant.seen adds.name last.seen_ordered)))
seen_wrong old before tenant rest name TooMany was named is told = λ new right adds. told
seen_wrong old before tenant rest name Memory was named is told = tt

-- the offer that a line gives
module _ (version : Version) (old before new : States) (tenant : TenantState) (rest receiver name : List ℕ) (was : old ≡ before ++ tenant ∷ []) (receiver_named : IsTenantName receiver) (is : rest ≡ offer_words receiver name) (right : IsStates new) (adds : AddsOffer version old rest new) where
  giver_same : adds.begins.tenant ≡ tenant
  giver_same = (same_behind adds.begins.before before adds.begins.tenant tenant (sym adds.begins.was ∙ was)).1

  offered_right : IsTenantState (with_at adds.begins.tenant (Offered adds.receiver adds.name) new_repository)
  offered_right = last_right adds.begins.before (with_at adds.begins.tenant (Offered adds.receiver adds.name) new_repository) (subst IsStates adds.begins.added right)

  offer_right : IsOffer adds.begins.tenant.name (offer_at adds.receiver adds.name new_repository)
  offer_right = receiver_at adds.begins.tenant adds.receiver adds.name new_repository offered_right

  words_same : (receiver ≡ adds.receiver) × (name ≡ adds.name)
  words_same = same_parts rest receiver name adds.receiver adds.name (is ∙ append_assoc receiver (codes " ") name) (plain_without _ 32 receiver refl receiver_named) (plain_without _ 32 adds.receiver refl offer_right.receiver_named) adds.spelled

  to_another_one : receiver ≢ tenant.name
  to_another_one same = offer_right.to_another (sym words_same.0 ∙ same ∙ sym (ap (λ t. t.name) giver_same))

  stands_behind : AreBefore (map words_of_offer tenant.offers) (offer_words receiver name)
  stands_behind =
      let ahead = before_last (map words_of_offer adds.begins.tenant.offers) (offer_words adds.receiver adds.name) (subst Ascend (map_behind words_of_offer adds.begins.tenant.offers (offer_at adds.receiver adds.name new_repository)) offered_right.offers_ordered) in
      subst (λ t. AreBefore (map words_of_offer t.offers) (offer_words receiver name)) giver_same (subst (AreBefore (map words_of_offer adds.begins.tenant.offers)) (λ i. offer_words (sym words_same.0 i) (sym words_same.1 i)) ahead)

  has_room : length tenant.offers < MAX_OFFERS
  has_room =
      let few = offered_right.few_offers in
      let long = length_behind adds.begins.tenant.offers (offer_at adds.receiver adds.name new_repository) in
      let so_many : length adds.begins.tenant.offers ≡ length tenant.offers = ap (λ t. length t.offers) giver_same in
      omega (arith, few, long, so_many)

pub offer_wrong : (version : Version) (old before : States) (tenant : TenantState) (rest receiver name : List ℕ) (error : OfferError) → old ≡ before ++ tenant ∷ [] → IsTenantName receiver → rest ≡ offer_words receiver name
    → TellsOffer tenant (offer_at receiver name new_repository) error → Refuses (AddsOffer version) old rest (fault_of_offer error)
offer_wrong version old before tenant rest receiver name offering.ToGiver was named is told = λ new right adds. to_another_one version old before new tenant rest receiver name was named is right adds told
offer_wrong version old before tenant rest receiver name offering.OutOfOrder was named is told = λ new right adds. told (stands_behind version old before new tenant rest receiver name was named is right adds)
offer_wrong version old before tenant rest receiver name offering.TooMany was named is told = λ new right adds. (let room = has_room version old before new tenant rest receiver name was named is right adds in absurd (omega (arith, room, told)))
offer_wrong version old before tenant rest receiver name offering.Memory was named is told = tt

-- no repository has one more reference if that reference cannot be appended
pub never_more : (old new : git.Repository) (name target : List ℕ) (error : PushRefError) → TellsPush old.references name error → error ≢ push.Memory → AreSound new.references → HasReferenceMore old name target new → ⊥
never_more old new name target error told fault sound more = never_pushed old.references new.references name target error told fault sound more.pushed

-- what is known if a line adds to the last item
module _ (old before new : States) (tenant : TenantState) (place : Place) (repository : git.Repository) (rest prefix : List ℕ) (was : old ≡ before ++ with_at tenant place repository ∷ []) (last : IsLast tenant place)
    (prefix_is : prefix ≡ expanded (tenant.name ∷ place_name place ∷ [])) (right : IsStates new) where
  module _ (adds : AddsReference old rest new) where
    place_same : IsSamePlace adds.tenant tenant adds.place place adds.repository repository
    place_same = same_place adds.tenant tenant adds.place place adds.repository repository adds.last last (same_behind adds.before before (with_at adds.tenant adds.place adds.repository) (with_at tenant place repository) (sym adds.was ∙ was)).1

    next_right : IsTenantState (with_at adds.tenant adds.place adds.next)
    next_right = last_right adds.before (with_at adds.tenant adds.place adds.next) (subst IsStates adds.added right)

    pub reference_right : IsLastReference adds.name adds.target
    reference_right = last_reference adds.repository adds.next adds.name adds.target adds.more (told_at adds.tenant adds.place adds.next next_right)

    pub reference_spelled_so : rest ≡ encode_lower adds.target ++ codes " " ++ prefix ++ adds.name
    reference_spelled_so =
        adds.spelled ∙ ap (λ p. encode_lower adds.target ++ codes " " ++ p ++ adds.name) ((λ i. expanded ((place_same.tenants i).name ∷ place_name (place_same.places i) ∷ [])) ∙ sym prefix_is)

    pub reference_wrong : (name target : List ℕ) (error : PushRefError) → IsName target → rest ≡ encode_lower target ++ codes " " ++ prefix ++ name → TellsPush repository.references name error → error ≢ push.Memory → ⊥
    reference_wrong name target error named is told fault =
        let spelled = is ∙ append_assoc (encode_lower target ++ codes " ") prefix name ∙ append_assoc (encode_lower target) (codes " ") (prefix ++ name) in
        let words = reference_parts rest (encode_lower target) (prefix ++ name) adds.target prefix adds.name spelled (digits_without target named) reference_right.target_named reference_spelled_so in
        let names : adds.name ≡ name = append_cancel_left prefix adds.name name (sym words.1) in
        let tells : TellsPush adds.repository.references adds.name error = subst (λ n. TellsPush adds.repository.references n error) (sym names) (subst (λ r. TellsPush r.references name error) (sym place_same.repositories) told) in
        never_more adds.repository adds.next adds.name adds.target error tells fault (told_at adds.tenant adds.place adds.next next_right).references adds.more

  module _ (adds : AddsHead old rest new) where
    head_place : IsSamePlace adds.tenant tenant adds.place place new_repository repository
    head_place = same_place adds.tenant tenant adds.place place new_repository repository adds.last last (same_behind adds.before before (with_at adds.tenant adds.place new_repository) (with_at tenant place repository) (sym adds.was ∙ was)).1

    pub head_right : IsBranch adds.head
    head_right = (told_at adds.tenant adds.place (record { head = adds.head; references = finite.empty }) (last_right adds.before (with_at adds.tenant adds.place (record { head = adds.head; references = finite.empty })) (subst IsStates adds.added right))).branch

    pub head_spelled_so : rest ≡ prefix ++ adds.head
    head_spelled_so = adds.spelled ∙ ap (λ p. p ++ adds.head) ((λ i. expanded ((head_place.tenants i).name ∷ place_name (head_place.places i) ∷ [])) ∙ sym prefix_is)

pub reference_refused : (old before : States) (tenant : TenantState) (place : Place) (repository : git.Repository) (rest prefix : List ℕ) → old ≡ before ++ with_at tenant place repository ∷ [] → IsLast tenant place → prefix ≡ expanded (tenant.name ∷ place_name place ∷ [])
    → (name target : List ℕ) (error : PushRefError) → IsName target → rest ≡ encode_lower target ++ codes " " ++ prefix ++ name → TellsPush repository.references name error → Refuses AddsReference old rest (fault_of_push error)
reference_refused old before tenant place repository rest prefix was last prefix_is name target push.OutOfOrder named is told = λ new right adds.
    reference_wrong old before new tenant place repository rest prefix was last prefix_is right adds name target push.OutOfOrder named is told (λ is. cc)
reference_refused old before tenant place repository rest prefix was last prefix_is name target push.RefConflict named is told = λ new right adds.
    reference_wrong old before new tenant place repository rest prefix was last prefix_is right adds name target push.RefConflict named is told (λ is. cc)
reference_refused old before tenant place repository rest prefix was last prefix_is name target push.TooMany named is told = λ new right adds.
    reference_wrong old before new tenant place repository rest prefix was last prefix_is right adds name target push.TooMany named is told (λ is. cc)
reference_refused old before tenant place repository rest prefix was last prefix_is name target push.Memory named is told = tt
