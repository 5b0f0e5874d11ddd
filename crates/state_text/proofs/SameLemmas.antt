-- A line says only one thing.
use Rattle.std.proofs.Common.{◌≡◌, ℕ, ◌+◌, List, [], ◌∷◌, ◌++◌, codes, decimal, refl, sym, ap, subst, ◌∙◌, slice_index, append_assoc, arith}
use Rattle.std.specs.FinMap as finite
use Rattle.std.specs.FinMap.{entries}
use Rattle.std.proofs.lemmas.List.{append_cancel_left}
use Rattle.hex.specs.Hex.{encode_lower}
use Rattle.git_name.specs.Name.{IsName}
use Rattle.git_refname.specs.Namespace.{expanded}
use Rattle.git_reftx.specs.Repository as git
use Rattle.git_reftx.specs.Repository.{new_repository}
use Rattle.state_text.specs.declared.place.Place.{Place}
use Rattle.state_text.specs.declared.place.Place.TheVariants.{Own, Offered}
use Rattle.state_text.specs.declared.version.Version.{Version}
use Rattle.state_text.specs.Adding.{fresh, with_seen}
use Rattle.state_text.specs.Place.{place_name, with_at}
use Rattle.state_text.specs.States.{IsOffer, IsStates, IsTenantState, States, TenantState}
use Rattle.state_text.specs.Taking.{Adds, AddsHead, AddsOffer, AddsPlace, AddsReference, AddsSeen, AddsTenant, HasReferenceMore, Taken, Head, Tenant, Repository, Reference, Seen, Offer}
use Rattle.state_text.proofs.BehindLemmas.{each_last, same_behind}
use Rattle.state_text.proofs.LastLemmas.{IsLastReference, last_reference}
use Rattle.state_text.proofs.PartLemmas.{decimal_unique, digits_unique, digits_without, plain_without, reference_parts, same_parts}
use Rattle.state_text.proofs.PlaceLemmas.{offer_at, receiver_at, same_place, told_at}
use Rattle.state_text.proofs.StateLemmas.{last_right}

-- the first byte and the third show what a line says
abbrev pub mark : List ℕ → ℕ
mark line = slice_index line 0 + slice_index line 0 + slice_index line 2

same_taken : (q r : Taken) → q.states ≡ r.states → q.awaits ≡ r.awaits → q ≡ r
same_taken q r states awaits = λ i. record { states = states i; awaits = awaits i }

tenant_same : (old q r : States) (rest : List ℕ) → (a : AddsTenant old rest q) → (b : AddsTenant old rest r) → IsStates q → IsStates r → q ≡ r
tenant_same old q r rest a b right other =
    let one : IsTenantState (fresh a.name a.limit) = last_right old (fresh a.name a.limit) (subst IsStates a.added right) in
    let two : IsTenantState (fresh b.name b.limit) = last_right old (fresh b.name b.limit) (subst IsStates b.added other) in
    let parts = same_parts rest a.name (decimal a.limit) b.name (decimal b.limit) (a.spelled ∙ append_assoc a.name (codes " ") (decimal a.limit)) (plain_without _ 32 a.name refl one.named) (plain_without _ 32 b.name refl two.named) b.spelled in
    let limit : a.limit ≡ b.limit = decimal_unique a.limit b.limit (let l = one.limit in omega (arith, l)) (let l = two.limit in omega (arith, l)) parts.1 in
    a.added ∙ (λ i. old ++ fresh (parts.0 i) (limit i) ∷ []) ∙ sym b.added

place_same : (old q r : States) (place place_too : Place) → place ≡ place_too → AddsPlace old place q → AddsPlace old place_too r → q ≡ r
place_same old q r place place_too same a b =
    let parts = same_behind a.before b.before a.tenant b.tenant (sym a.was ∙ b.was) in
    a.added ∙ (λ i. parts.0 i ++ with_at (parts.1 i) (same i) new_repository ∷ []) ∙ sym b.added

offer_same : (version : Version) (old q r : States) (rest : List ℕ) → AddsOffer version old rest q → AddsOffer version old rest r → IsStates q → IsStates r → q ≡ r
offer_same version old q r rest a b right other =
    let one : IsOffer a.begins.tenant.name (offer_at a.receiver a.name new_repository) =
    receiver_at a.begins.tenant a.receiver a.name new_repository (last_right a.begins.before (with_at a.begins.tenant (Offered a.receiver a.name) new_repository) (subst IsStates a.begins.added right)) in
    let two : IsOffer b.begins.tenant.name (offer_at b.receiver b.name new_repository) =
    receiver_at b.begins.tenant b.receiver b.name new_repository (last_right b.begins.before (with_at b.begins.tenant (Offered b.receiver b.name) new_repository) (subst IsStates b.begins.added other)) in
    let parts = same_parts rest a.receiver a.name b.receiver b.name (a.spelled ∙ append_assoc a.receiver (codes " ") a.name) (plain_without _ 32 a.receiver refl one.receiver_named) (plain_without _ 32 b.receiver refl two.receiver_named) b.spelled in
    place_same old q r (Offered a.receiver a.name) (Offered b.receiver b.name) (λ i. Offered (parts.0 i) (parts.1 i)) a.begins b.begins

head_same : (old q r : States) (rest : List ℕ) → AddsHead old rest q → AddsHead old rest r → q ≡ r
head_same old q r rest a b =
    let parts = same_behind a.before b.before (with_at a.tenant a.place new_repository) (with_at b.tenant b.place new_repository) (sym a.was ∙ b.was) in
    let same = same_place a.tenant b.tenant a.place b.place new_repository new_repository a.last b.last parts.1 in
    let prefix = λ (t : TenantState) (p : Place). expanded (t.name ∷ place_name p ∷ []) in
    let heads : a.head ≡ b.head = append_cancel_left (prefix b.tenant b.place) a.head b.head ((λ i. prefix (sym same.tenants i) (sym same.places i) ++ a.head) ∙ sym a.spelled ∙ b.spelled) in
    a.added ∙ (λ i. parts.0 i ++ with_at (same.tenants i) (same.places i) (record { head = heads i; references = finite.empty }) ∷ []) ∙ sym b.added

-- adding one reference gives only one repository
next_same : (old other new new_too : git.Repository) (name name_too target target_too : List ℕ) → HasReferenceMore old name target new → HasReferenceMore other name_too target_too new_too → old ≡ other → name ≡ name_too → target ≡ target_too → new ≡ new_too
next_same old other new new_too name name_too target target_too a b same names targets =
    let references : new.references ≡ new_too.references = finite.same_entries_map new.references new_too.references (a.pushed ∙ (λ i. entries (same i).references ++ (names i, targets i) ∷ []) ∙ sym b.pushed) in
    let heads : new.head ≡ new_too.head = a.head ∙ ap (λ r. r.head) same ∙ sym b.head in
    λ i. record { head = heads i; references = references i }

known_reference : (old q : States) (rest : List ℕ) → (a : AddsReference old rest q) → IsStates q → IsLastReference a.name a.target
known_reference old q rest a right = last_reference a.repository a.next a.name a.target a.more (told_at a.tenant a.place a.next (last_right a.before (with_at a.tenant a.place a.next) (subst IsStates a.added right)))

reference_same : (old q r : States) (rest : List ℕ) → AddsReference old rest q → AddsReference old rest r → IsStates q → IsStates r → q ≡ r
reference_same old q r rest a b right other =
    let one = known_reference old q rest a right in
    let two = known_reference old r rest b other in
    let parts = same_behind a.before b.before (with_at a.tenant a.place a.repository) (with_at b.tenant b.place b.repository) (sym a.was ∙ b.was) in
    let same = same_place a.tenant b.tenant a.place b.place a.repository b.repository a.last b.last parts.1 in
    let prefix = λ (t : TenantState) (p : Place). expanded (t.name ∷ place_name p ∷ []) in
    let spelled = a.spelled ∙ append_assoc (encode_lower a.target ++ codes " ") (prefix a.tenant a.place) a.name ∙ append_assoc (encode_lower a.target) (codes " ") (prefix a.tenant a.place ++ a.name) in
    let words = reference_parts rest (encode_lower a.target) (prefix a.tenant a.place ++ a.name) b.target (prefix b.tenant b.place) b.name spelled (digits_without a.target one.target_named) two.target_named b.spelled in
    let targets : a.target ≡ b.target = digits_unique a.target b.target one.target_named two.target_named words.0 in
    let names : a.name ≡ b.name = append_cancel_left (prefix b.tenant b.place) a.name b.name ((λ i. prefix (sym same.tenants i) (sym same.places i) ++ a.name) ∙ words.1) in
    let next = next_same a.repository b.repository a.next b.next a.name b.name a.target b.target a.more b.more same.repositories names targets in
    a.added ∙ (λ i. parts.0 i ++ with_at (same.tenants i) (same.places i) (next i) ∷ []) ∙ sym b.added

seen_same : (old q r : States) (rest : List ℕ) → AddsSeen old rest q → AddsSeen old rest r → IsStates q → IsStates r → q ≡ r
seen_same old q r rest a b right other =
    let one : IsName a.name = each_last IsName a.tenant.seen a.name (last_right a.before (with_seen a.tenant a.name) (subst IsStates a.added right)).seen in
    let two : IsName b.name = each_last IsName b.tenant.seen b.name (last_right b.before (with_seen b.tenant b.name) (subst IsStates b.added other)).seen in
    let parts = same_behind a.before b.before a.tenant b.tenant (sym a.was ∙ b.was) in
    let names = digits_unique a.name b.name one two (sym a.spelled ∙ b.spelled) in
    a.added ∙ (λ i. parts.0 i ++ with_seen (parts.1 i) (names i) ∷ []) ∙ sym b.added

-- a line and what was taken before it decide what is taken with it
pub adds_same : (version : Version) (old q r : Taken) (line : List ℕ) → Adds version old line q → Adds version old line r → IsStates q.states → IsStates r.states → q ≡ r
adds_same version old q r line (Tenant rest is goes adds) (Tenant rest_too is_too goes_too adds_too) right other = same_taken q r (tenant_same old.states q.states r.states rest adds (subst (λ t. AddsTenant old.states t r.states) (sym (append_cancel_left (codes "tenant ") rest rest_too (sym is ∙ is_too))) adds_too) right other) (goes.is ∙ sym goes_too.is)
adds_same version old q r line (Repository rest is goes adds) (Repository rest_too is_too goes_too adds_too) right other = same_taken q r (place_same old.states q.states r.states (Own rest) (Own rest_too) (ap Own (sym (sym (append_cancel_left (codes "repo ") rest rest_too (sym is ∙ is_too))))) adds adds_too) (goes.is ∙ sym goes_too.is)
adds_same version old q r line (Reference rest is goes adds) (Reference rest_too is_too goes_too adds_too) right other = same_taken q r (reference_same old.states q.states r.states rest adds (subst (λ t. AddsReference old.states t r.states) (sym (append_cancel_left (codes "ref ") rest rest_too (sym is ∙ is_too))) adds_too) right other) (goes.is ∙ sym goes_too.is)
adds_same version old q r line (Seen rest is goes adds) (Seen rest_too is_too goes_too adds_too) right other = same_taken q r (seen_same old.states q.states r.states rest adds (subst (λ t. AddsSeen old.states t r.states) (sym (append_cancel_left (codes "see ") rest rest_too (sym is ∙ is_too))) adds_too) right other) (goes.is ∙ sym goes_too.is)
adds_same version old q r line (Head told goes says) (Head told_too goes_too says_too) right other = same_taken q r (head_same old.states q.states r.states says.rest says.adds (subst (λ t. AddsHead old.states t r.states) (sym (append_cancel_left (codes "head ") says.rest says_too.rest (sym says.is ∙ says_too.is))) says_too.adds)) (goes.is ∙ sym goes_too.is)
adds_same version old q r line (Offer rest is goes adds) (Offer rest_too is_too goes_too adds_too) right other = same_taken q r (offer_same version old.states q.states r.states rest adds (subst (λ t. AddsOffer version old.states t r.states) (sym (append_cancel_left (codes "offer ") rest rest_too (sym is ∙ is_too))) adds_too) right other) (goes.is ∙ sym goes_too.is)
adds_same version old q r line (Tenant rest is goes adds) (Repository rest_too is_too goes_too adds_too) right other = absurd (let bad : 342 ≡ 340 = ap mark (sym is ∙ is_too) in omega arith)
adds_same version old q r line (Tenant rest is goes adds) (Reference rest_too is_too goes_too adds_too) right other = absurd (let bad : 342 ≡ 330 = ap mark (sym is ∙ is_too) in omega arith)
adds_same version old q r line (Tenant rest is goes adds) (Seen rest_too is_too goes_too adds_too) right other = absurd (let bad : 342 ≡ 331 = ap mark (sym is ∙ is_too) in omega arith)
adds_same version old q r line (Tenant rest is goes adds) (Head told_too goes_too says_too) right other = absurd (let bad : 342 ≡ 305 = ap mark (sym is ∙ says_too.is) in omega arith)
adds_same version old q r line (Tenant rest is goes adds) (Offer rest_too is_too goes_too adds_too) right other = absurd (let bad : 342 ≡ 324 = ap mark (sym is ∙ is_too) in omega arith)
adds_same version old q r line (Repository rest is goes adds) (Tenant rest_too is_too goes_too adds_too) right other = absurd (let bad : 340 ≡ 342 = ap mark (sym is ∙ is_too) in omega arith)
adds_same version old q r line (Repository rest is goes adds) (Reference rest_too is_too goes_too adds_too) right other = absurd (let bad : 340 ≡ 330 = ap mark (sym is ∙ is_too) in omega arith)
adds_same version old q r line (Repository rest is goes adds) (Seen rest_too is_too goes_too adds_too) right other = absurd (let bad : 340 ≡ 331 = ap mark (sym is ∙ is_too) in omega arith)
adds_same version old q r line (Repository rest is goes adds) (Head told_too goes_too says_too) right other = absurd (let bad : 340 ≡ 305 = ap mark (sym is ∙ says_too.is) in omega arith)
adds_same version old q r line (Repository rest is goes adds) (Offer rest_too is_too goes_too adds_too) right other = absurd (let bad : 340 ≡ 324 = ap mark (sym is ∙ is_too) in omega arith)
adds_same version old q r line (Reference rest is goes adds) (Tenant rest_too is_too goes_too adds_too) right other = absurd (let bad : 330 ≡ 342 = ap mark (sym is ∙ is_too) in omega arith)
adds_same version old q r line (Reference rest is goes adds) (Repository rest_too is_too goes_too adds_too) right other = absurd (let bad : 330 ≡ 340 = ap mark (sym is ∙ is_too) in omega arith)
adds_same version old q r line (Reference rest is goes adds) (Seen rest_too is_too goes_too adds_too) right other = absurd (let bad : 330 ≡ 331 = ap mark (sym is ∙ is_too) in omega arith)
adds_same version old q r line (Reference rest is goes adds) (Head told_too goes_too says_too) right other = absurd (let bad : 330 ≡ 305 = ap mark (sym is ∙ says_too.is) in omega arith)
adds_same version old q r line (Reference rest is goes adds) (Offer rest_too is_too goes_too adds_too) right other = absurd (let bad : 330 ≡ 324 = ap mark (sym is ∙ is_too) in omega arith)
adds_same version old q r line (Seen rest is goes adds) (Tenant rest_too is_too goes_too adds_too) right other = absurd (let bad : 331 ≡ 342 = ap mark (sym is ∙ is_too) in omega arith)
adds_same version old q r line (Seen rest is goes adds) (Repository rest_too is_too goes_too adds_too) right other = absurd (let bad : 331 ≡ 340 = ap mark (sym is ∙ is_too) in omega arith)
adds_same version old q r line (Seen rest is goes adds) (Reference rest_too is_too goes_too adds_too) right other = absurd (let bad : 331 ≡ 330 = ap mark (sym is ∙ is_too) in omega arith)
adds_same version old q r line (Seen rest is goes adds) (Head told_too goes_too says_too) right other = absurd (let bad : 331 ≡ 305 = ap mark (sym is ∙ says_too.is) in omega arith)
adds_same version old q r line (Seen rest is goes adds) (Offer rest_too is_too goes_too adds_too) right other = absurd (let bad : 331 ≡ 324 = ap mark (sym is ∙ is_too) in omega arith)
adds_same version old q r line (Head told goes says) (Tenant rest_too is_too goes_too adds_too) right other = absurd (let bad : 305 ≡ 342 = ap mark (sym says.is ∙ is_too) in omega arith)
adds_same version old q r line (Head told goes says) (Repository rest_too is_too goes_too adds_too) right other = absurd (let bad : 305 ≡ 340 = ap mark (sym says.is ∙ is_too) in omega arith)
adds_same version old q r line (Head told goes says) (Reference rest_too is_too goes_too adds_too) right other = absurd (let bad : 305 ≡ 330 = ap mark (sym says.is ∙ is_too) in omega arith)
adds_same version old q r line (Head told goes says) (Seen rest_too is_too goes_too adds_too) right other = absurd (let bad : 305 ≡ 331 = ap mark (sym says.is ∙ is_too) in omega arith)
adds_same version old q r line (Head told goes says) (Offer rest_too is_too goes_too adds_too) right other = absurd (let bad : 305 ≡ 324 = ap mark (sym says.is ∙ is_too) in omega arith)
adds_same version old q r line (Offer rest is goes adds) (Tenant rest_too is_too goes_too adds_too) right other = absurd (let bad : 324 ≡ 342 = ap mark (sym is ∙ is_too) in omega arith)
adds_same version old q r line (Offer rest is goes adds) (Repository rest_too is_too goes_too adds_too) right other = absurd (let bad : 324 ≡ 340 = ap mark (sym is ∙ is_too) in omega arith)
adds_same version old q r line (Offer rest is goes adds) (Reference rest_too is_too goes_too adds_too) right other = absurd (let bad : 324 ≡ 330 = ap mark (sym is ∙ is_too) in omega arith)
adds_same version old q r line (Offer rest is goes adds) (Seen rest_too is_too goes_too adds_too) right other = absurd (let bad : 324 ≡ 331 = ap mark (sym is ∙ is_too) in omega arith)
adds_same version old q r line (Offer rest is goes adds) (Head told_too goes_too says_too) right other = absurd (let bad : 324 ≡ 305 = ap mark (sym is ∙ says_too.is) in omega arith)

-- no line that says something is the last one
pub never_end : (version : Version) (old new : Taken) (line : List ℕ) → Adds version old line new → line ≡ codes "end" → ⊥
never_end version old new line (Tenant rest is goes adds) is_end = absurd (let bad : 342 ≡ 302 = ap mark (sym is ∙ is_end) in omega (arith, bad))
never_end version old new line (Repository rest is goes adds) is_end = absurd (let bad : 340 ≡ 302 = ap mark (sym is ∙ is_end) in omega (arith, bad))
never_end version old new line (Reference rest is goes adds) is_end = absurd (let bad : 330 ≡ 302 = ap mark (sym is ∙ is_end) in omega (arith, bad))
never_end version old new line (Seen rest is goes adds) is_end = absurd (let bad : 331 ≡ 302 = ap mark (sym is ∙ is_end) in omega (arith, bad))
never_end version old new line (Head told goes says) is_end = absurd (let bad : 305 ≡ 302 = ap mark (sym says.is ∙ is_end) in omega (arith, bad))
never_end version old new line (Offer rest is goes adds) is_end = absurd (let bad : 324 ≡ 302 = ap mark (sym is ∙ is_end) in omega (arith, bad))
