-- No line of a state text has more than 1,024 bytes.
use Rattle.std.proofs.Common.{◌≡◌, ℕ, ◌+◌, ◌*◌, ◌≤◌, ◌^◌, ◌<◌, List, [], ◌∷◌, ◌++◌, codes, decimal, refl, sym, ap, subst, ◌∙◌, length, length-append, arith}
use Rattle.std.specs.FinMap.{empty}
use Rattle.std.proofs.lemmas.Fmt.{length-decimal-le}
use Rattle.hex.specs.Hex.{encode_lower, lower_digits}
use Rattle.hex.proofs.HexLemmas.{length-encode_with}
use Rattle.git_name.specs.Name.{IsName}
use Rattle.git_refname.specs.Namespace.{expanded, namespace}
use Rattle.git_refname.specs.Rule.{IsRefName}
use Rattle.git_refname.proofs.Finding.{name_short}
use Rattle.git_reftx.specs.Repository as git
use Rattle.git_reftx.specs.Repository.{new_repository}
use Rattle.fork_request.specs.Names.{IsRepositoryName, IsTenantName}
use Rattle.state_text.specs.declared.lines.TheConstants.{LONGEST_LINE}
use Rattle.state_text.specs.declared.place.Place.{Place}
use Rattle.state_text.specs.declared.place.Place.TheVariants.{Own, Offered}
use Rattle.state_text.specs.declared.version.Version.{Version}
use Rattle.state_text.specs.Adding.{fresh, with_seen}
use Rattle.state_text.specs.Offer.{offer_words}
use Rattle.state_text.specs.Place.{place_name, with_at}
use Rattle.state_text.specs.States.{IsStates, IsTenantState, States, TenantState}
use Rattle.state_text.specs.Taking.{Adds, Head, Tenant, Repository, Reference, Seen, Offer, AddsHead, AddsOffer, AddsReference, AddsRepository, AddsSeen, AddsTenant, IsRightSoFar, Taken}
use Rattle.state_text.proofs.BehindLemmas.{each_last}
use Rattle.state_text.proofs.LastLemmas.{last_reference}
use Rattle.state_text.proofs.PlaceLemmas.{named_at, receiver_at, same_name_at, told_at}
use Rattle.state_text.proofs.StateLemmas.{last_right}

-- a text of a word and a rest
long_as : (text word rest : List ℕ) → text ≡ word ++ rest → length text ≡ length word + length rest
long_as text word rest is = ap (λ (l : List ℕ). length l) is ∙ length-append word rest

one_namespace : (name : List ℕ) → length (namespace name) ≡ length name + 17
one_namespace name = (let parts = length-append (codes "refs/namespaces/") (name ++ codes "/") in let end = length-append name (codes "/") in omega (arith, parts, end))

two_namespaces : (tenant name : List ℕ) → length (expanded (tenant ∷ name ∷ [])) ≡ length tenant + length name + 34
two_namespaces tenant name =
    let outer = one_namespace tenant in
    let inner = one_namespace name in
    let rest = length-append (namespace name) [] in
    let all = length-append (namespace tenant) (namespace name ++ []) in
    omega (arith, outer, inner, rest, all)

tenant_named : (tenant : TenantState) (place : Place) (repository : git.Repository) → IsTenantState (with_at tenant place repository) → IsTenantName tenant.name
tenant_named tenant place repository right = subst IsTenantName (same_name_at tenant place repository) right.named

tenant_short : (old : States) (rest : List ℕ) (new : States) → AddsTenant old rest new → IsStates new → length rest ≤ 46
tenant_short old rest new adds right =
    let last : IsTenantState (fresh adds.name adds.limit) = last_right old (fresh adds.name adds.limit) (subst IsStates adds.added right) in
    let name = last.named.few in
    let most = last.limit in
    let digits = length-decimal-le 13 adds.limit (omega arith) (omega (arith, most)) (omega (arith, most)) in
    let one : length (codes " ") ≡ 1 = refl in
    subst (λ t. length t ≤ 46) (sym adds.spelled) (simp (length-append) (omega (arith, name, digits, one)))

repository_short : (old : States) (rest : List ℕ) (new : States) → AddsRepository old rest new → IsStates new → length rest ≤ 64
repository_short old rest new adds right =
    (named_at adds.tenant (Own rest) new_repository (last_right adds.before (with_at adds.tenant (Own rest) new_repository) (subst IsStates adds.added right))).few

head_short : (old : States) (rest : List ℕ) (new : States) → AddsHead old rest new → IsStates new → length rest ≤ 385
head_short old rest new adds right =
    let repository : git.Repository = record { head = adds.head; references = empty } in
    let last = last_right adds.before (with_at adds.tenant adds.place repository) (subst IsStates adds.added right) in
    let tenant = (tenant_named adds.tenant adds.place repository last).few in
    let name = (named_at adds.tenant adds.place repository last).few in
    let head = name_short adds.head (told_at adds.tenant adds.place repository last).branch.name in
    let prefix = two_namespaces adds.tenant.name (place_name adds.place) in
    let long = long_as rest (expanded (adds.tenant.name ∷ place_name adds.place ∷ [])) adds.head adds.spelled in
    omega (arith, tenant, name, head, prefix, long)

digits_long : (name : List ℕ) → IsName name → length (encode_lower name) ≡ 64
digits_long name named = (let digits = length-encode_with lower_digits name in let long = named.length in omega (arith, digits, long))

reference_short : (old : States) (rest : List ℕ) (new : States) → AddsReference old rest new → IsStates new → length rest ≤ 450
reference_short old rest new adds right =
    let last = last_right adds.before (with_at adds.tenant adds.place adds.next) (subst IsStates adds.added right) in
    let tenant = (tenant_named adds.tenant adds.place adds.next last).few in
    let name = (named_at adds.tenant adds.place adds.next last).few in
    let reference = last_reference adds.repository adds.next adds.name adds.target adds.more (told_at adds.tenant adds.place adds.next last) in
    let called = name_short adds.name reference.named in
    let digits = digits_long adds.target reference.target_named in
    let prefix = two_namespaces adds.tenant.name (place_name adds.place) in
    let one : length (codes " ") ≡ 1 = refl in
    subst (λ t. length t ≤ 450) (sym adds.spelled) (simp (length-append) (omega (arith, tenant, name, called, digits, prefix, one)))

seen_short : (old : States) (rest : List ℕ) (new : States) → AddsSeen old rest new → IsStates new → length rest ≤ 64
seen_short old rest new adds right =
    let last : IsTenantState (with_seen adds.tenant adds.name) = last_right adds.before (with_seen adds.tenant adds.name) (subst IsStates adds.added right) in
    let digits = digits_long adds.name (each_last IsName adds.tenant.seen adds.name last.seen) in
    subst (λ t. length t ≤ 64) (sym adds.spelled) (omega (arith, digits))

offer_short : (version : Version) (old : States) (rest : List ℕ) (new : States) → AddsOffer version old rest new → IsStates new → length rest ≤ 97
offer_short version old rest new adds right =
    let begins = adds.begins in
    let place = Offered adds.receiver adds.name in
    let last = last_right begins.before (with_at begins.tenant place new_repository) (subst IsStates begins.added right) in
    let offer = receiver_at begins.tenant adds.receiver adds.name new_repository last in
    let receiver = offer.receiver_named.few in
    let name = offer.named.few in
    let one : length (codes " ") ≡ 1 = refl in
    subst (λ t. length t ≤ 97) (sym adds.spelled) (simp (length-append) (omega (arith, receiver, name, one)))

-- a line of a right text is short
pub line_short : (version : Version) (old new : Taken) (line : List ℕ) → IsRightSoFar version new → Adds version old line new → length line ≤ LONGEST_LINE
line_short version old new line right (Head told goes says) = (let short = head_short old.states says.rest new.states says.adds right.right in let long = long_as line (codes "head ") says.rest says.is in omega (arith, short, long))
line_short version old new line right (Tenant rest is goes adds) = (let short = tenant_short old.states rest new.states adds right.right in let long = long_as line (codes "tenant ") rest is in omega (arith, short, long))
line_short version old new line right (Repository rest is goes adds) = (let short = repository_short old.states rest new.states adds right.right in let long = long_as line (codes "repo ") rest is in omega (arith, short, long))
line_short version old new line right (Reference rest is goes adds) = (let short = reference_short old.states rest new.states adds right.right in let long = long_as line (codes "ref ") rest is in omega (arith, short, long))
line_short version old new line right (Seen rest is goes adds) = (let short = seen_short old.states rest new.states adds right.right in let long = long_as line (codes "see ") rest is in omega (arith, short, long))
line_short version old new line right (Offer rest is goes adds) = (let short = offer_short version old.states rest new.states adds right.right in let long = long_as line (codes "offer ") rest is in omega (arith, short, long))
