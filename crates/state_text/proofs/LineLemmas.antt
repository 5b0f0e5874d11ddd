-- One more line, and the lines of what was read with it.
use Rattle.std.proofs.Common.{◌≡◌, ℕ, ◌+◌, true, false, cond, List, [], ◌∷◌, ◌++◌, codes, refl, sym, ap, ◌∙◌, length, length-append, map, append_assoc, arith}
use Rattle.std.specs.FinMap as finite
use Rattle.std.specs.FinMap.{entries}
use Rattle.std.specs.List.{flat_map}
use Rattle.std.proofs.lemmas.List.{append-nil}
use Rattle.std.proofs.lemmas.List.Concat.{flat_map-append}
use Rattle.git_name.specs.Name.{name_cmp}
use Rattle.git_name.specs.Text.{ended}
use Rattle.git_reftx.specs.Repository as git
use Rattle.git_reftx.specs.Repository.{main_branch, new_repository}
use Rattle.state_text.specs.declared.place.Place.{Place}
use Rattle.state_text.specs.declared.place.Place.TheVariants.{Own, Offered}
use Rattle.state_text.specs.declared.version.Version.{Version}
use Rattle.state_text.specs.declared.version.Version.TheVariants.{One, Two}
use Rattle.state_text.specs.Adding.{fresh, with_seen}
use Rattle.state_text.specs.Offer as value
use Rattle.state_text.specs.Place.{IsLast, first_line, place_name, with_at}
use Rattle.state_text.specs.States.{IsStates, States, TenantState}
use Rattle.state_text.specs.Taking.{Adds, AddsPlace, HasReferenceMore, IsReadSoFar, Taken, Head, Tenant, Repository, Reference, Seen, Offer, awaits_head, but_last, open_lines, told_lines}
use Rattle.state_text.specs.Text.{line_of_head, head_lines, inner_lines, offer_lines, reference_line, repository_lines, seen_line, state_text, tenant_line, tenant_lines, version_line}
use Rattle.state_text.proofs.BehindLemmas.{length_behind, map_behind, nothing_in}
use Rattle.state_text.proofs.TellingLemmas.{taken_more}

pub but_behind : (lines : List (List ℕ)) (line : List ℕ) → but_last (lines ++ line ∷ []) ≡ lines
but_behind [] line = refl
but_behind (x ∷ []) line = refl
but_behind (x ∷ y ∷ lines) line = ap (λ ls. x ∷ ls) (but_behind (y ∷ lines) line)

-- if no HEAD is awaited, the lines are those of the states
pub open_told : (version : Version) (taken : Taken) → taken.awaits ≡ false → open_lines version taken ≡ told_lines version taken.states
open_told version taken is = ap (λ b. cond b (but_last (told_lines version taken.states)) (told_lines version taken.states)) is

-- otherwise they are those but the last
pub open_awaited : (version : Version) (taken : Taken) (lines : List (List ℕ)) (line : List ℕ) → taken.awaits ≡ true → told_lines version taken.states ≡ lines ++ line ∷ [] → open_lines version taken ≡ lines
open_awaited version taken lines line is told =
    ap (λ b. cond b (but_last (told_lines version taken.states)) (told_lines version taken.states)) is ∙ ap but_last told ∙ but_behind lines line

pub told_behind : (version : Version) (before : States) (tenant : TenantState) → told_lines version (before ++ tenant ∷ []) ≡ told_lines version before ++ tenant_lines version tenant
told_behind version before tenant =
    ap (λ ls. version_line version ∷ ls) (flat_map-append (tenant_lines version) before (tenant ∷ []) ∙ ap (λ ls. flat_map (tenant_lines version) before ++ ls) (append-nil (tenant_lines version tenant)))

-- lines added to the last tenant are the last lines
pub lines_more : (version : Version) (before : States) (old new : TenantState) (lines : List (List ℕ)) → tenant_lines version new ≡ tenant_lines version old ++ lines → told_lines version (before ++ new ∷ []) ≡ told_lines version (before ++ old ∷ []) ++ lines
lines_more version before old new lines is =
    told_behind version before new ∙ ap (λ ls. told_lines version before ++ ls) is ∙ sym (append_assoc (told_lines version before) (tenant_lines version old) lines) ∙ ap (λ ls. ls ++ lines) (sym (told_behind version before old))

pub no_entries : entries (finite.empty {K = List ℕ} {X = List ℕ} {R = name_cmp}) ≡ []
no_entries = nothing_in _ (let none = finite.len-entries (finite.empty {X = List ℕ} {R = name_cmp}) in let zero_is = finite.len-empty name_cmp (List ℕ) in omega (arith, none, zero_is))

-- if nothing follows the repositories, their last lines are the tenant's last lines
own_more : (version : Version) (tenant : List ℕ) (a b lines : List (List ℕ)) (seen : List (List ℕ)) (offers : List value.Offer) → seen ≡ [] → offers ≡ [] → b ≡ a ++ lines
    → b ++ (map seen_line seen ++ flat_map (offer_lines version tenant) offers) ≡ (a ++ (map seen_line seen ++ flat_map (offer_lines version tenant) offers)) ++ lines
own_more version tenant a b lines seen offers none none_too is =
    let behind = λ (s : List (List ℕ)) (o : List value.Offer). map seen_line s ++ flat_map (offer_lines version tenant) o in
    (λ i. b ++ behind (none i) (none_too i)) ∙ append-nil b ∙ is ∙ ap (λ ls. ls ++ lines) (sym (append-nil a) ∙ (λ i. a ++ behind (sym none i) (sym none_too i)))

last_lines : {A : Type 0} (f : A → List (List ℕ)) (front : List A) (last : A) → flat_map f (front ++ last ∷ []) ≡ flat_map f front ++ f last
last_lines f front last = flat_map-append f front (last ∷ []) ∙ ap (λ ls. flat_map f front ++ ls) (append-nil (f last))

three : (a b c d : List (List ℕ)) → a ++ (b ++ (c ++ d)) ≡ (a ++ (b ++ c)) ++ d
three a b c d = sym (append_assoc a (b ++ c) d ∙ ap (λ l. a ++ l) (append_assoc b c d))

-- the lines of the last item are the last lines
pub at_lines : (version : Version) (tenant : TenantState) (place : Place) (repository : git.Repository) → IsLast tenant place
    → tenant_lines version (with_at tenant place repository) ≡ tenant_lines version tenant ++ first_line place ∷ inner_lines version tenant.name (place_name place) repository
at_lines version tenant (Own name) repository last =
    let lines = first_line (Own name) ∷ inner_lines version tenant.name name repository in
    let front = flat_map (repository_lines version tenant.name) tenant.repositories in
    ap (λ ls. tenant_line tenant.name tenant.limit ∷ ls)
    (own_more version tenant.name front (flat_map (repository_lines version tenant.name) (tenant.repositories ++ (name, repository) ∷ [])) lines tenant.seen tenant.offers last.0 last.1
    (last_lines (repository_lines version tenant.name) tenant.repositories (name, repository)))
at_lines version tenant (Offered receiver name) repository last =
    let offer : value.Offer = record { receiver = receiver; name = name; repository = repository } in
    let repositories = flat_map (repository_lines version tenant.name) tenant.repositories in
    let seen = map seen_line tenant.seen in
    ap (λ ls. tenant_line tenant.name tenant.limit ∷ ls)
    (ap (λ ls. repositories ++ (seen ++ ls)) (last_lines (offer_lines version tenant.name) tenant.offers offer)
    ∙ three repositories seen (flat_map (offer_lines version tenant.name) tenant.offers) (offer_lines version tenant.name offer))

-- a new repository has only the line of its HEAD, if any
pub new_lines : (version : Version) (tenant name head : List ℕ) → inner_lines version tenant name (record { head = head; references = finite.empty }) ≡ head_lines version tenant name head
new_lines version tenant name head = ap (λ es. head_lines version tenant name head ++ map (reference_line tenant name) es) no_entries ∙ append-nil (head_lines version tenant name head)

-- the lines after a HEAD was given
pub headed_lines : (version : Version) (before : States) (tenant : TenantState) (place : Place) (head : List ℕ) → awaits_head version ≡ true → IsLast tenant place
    → told_lines version (before ++ with_at tenant place (record { head = head; references = finite.empty }) ∷ []) ≡ (told_lines version (before ++ tenant ∷ []) ++ first_line place ∷ []) ++ line_of_head tenant.name (place_name place) head ∷ []
headed_lines One before tenant place head is last = absurd (cc)
headed_lines Two before tenant place head is last =
    let new : git.Repository = record { head = head; references = finite.empty } in
    lines_more Two before tenant (with_at tenant place new) (first_line place ∷ inner_lines Two tenant.name (place_name place) new) (at_lines Two tenant place new last)
    ∙ ap (λ ls. told_lines Two (before ++ tenant ∷ []) ++ first_line place ∷ ls) (new_lines Two tenant.name (place_name place) head)
    ∙ sym (append_assoc (told_lines Two (before ++ tenant ∷ [])) (first_line place ∷ []) (line_of_head tenant.name (place_name place) head ∷ []))

-- the lines after something has just begun
pub begun_lines : (version : Version) (before : States) (tenant : TenantState) (place : Place) (taken : Taken) → IsLast tenant place → taken.awaits ≡ awaits_head version → taken.states ≡ before ++ with_at tenant place new_repository ∷ []
    → open_lines version taken ≡ told_lines version (before ++ tenant ∷ []) ++ first_line place ∷ []
begun_lines One before tenant place taken last awaits is =
    open_told One taken awaits ∙ ap (told_lines One) is
    ∙ lines_more One before tenant (with_at tenant place new_repository) (first_line place ∷ inner_lines One tenant.name (place_name place) new_repository) (at_lines One tenant place new_repository last)
    ∙ ap (λ ls. told_lines One (before ++ tenant ∷ []) ++ first_line place ∷ ls) (new_lines One tenant.name (place_name place) main_branch)
begun_lines Two before tenant place taken last awaits is =
    open_awaited Two taken (told_lines Two (before ++ tenant ∷ []) ++ first_line place ∷ []) (line_of_head tenant.name (place_name place) main_branch) awaits
    (ap (told_lines Two) is ∙ headed_lines Two before tenant place main_branch refl last)

-- a repository's lines with one more reference
reference_more : (version : Version) (tenant name : List ℕ) (old new : git.Repository) (reference target : List ℕ) → HasReferenceMore old reference target new
    → inner_lines version tenant name new ≡ inner_lines version tenant name old ++ reference_line tenant name (reference, target) ∷ []
reference_more version tenant name old new reference target more =
    (λ i. head_lines version tenant name (more.head i) ++ map (reference_line tenant name) (more.pushed i))
    ∙ ap (λ ls. head_lines version tenant name old.head ++ ls) (map_behind (reference_line tenant name) (entries old.references) (reference, target))
    ∙ sym (append_assoc (head_lines version tenant name old.head) (map (reference_line tenant name) (entries old.references)) (reference_line tenant name (reference, target) ∷ []))

referenced_lines : (version : Version) (tenant : TenantState) (place : Place) (old new : git.Repository) (name target : List ℕ) → IsLast tenant place → HasReferenceMore old name target new
    → tenant_lines version (with_at tenant place new) ≡ tenant_lines version (with_at tenant place old) ++ reference_line tenant.name (place_name place) (name, target) ∷ []
referenced_lines version tenant place old new name target last more =
    at_lines version tenant place new last ∙ ap (λ ls. tenant_lines version tenant ++ first_line place ∷ ls) (reference_more version tenant.name (place_name place) old new name target more)
    ∙ sym (append_assoc (tenant_lines version tenant) (first_line place ∷ inner_lines version tenant.name (place_name place) old) (reference_line tenant.name (place_name place) (name, target) ∷ []))
    ∙ ap (λ ls. ls ++ reference_line tenant.name (place_name place) (name, target) ∷ []) (sym (at_lines version tenant place old last))

seen_more : (version : Version) (tenant : TenantState) (name : List ℕ) → tenant.offers ≡ [] → tenant_lines version (with_seen tenant name) ≡ tenant_lines version tenant ++ seen_line name ∷ []
seen_more version tenant name none =
    let front = flat_map (repository_lines version tenant.name) tenant.repositories in
    let lines = λ (s : List (List ℕ)) (o : List value.Offer). tenant_line tenant.name tenant.limit ∷ (front ++ (map seen_line s ++ flat_map (offer_lines version tenant.name) o)) in
    ap (lines (tenant.seen ++ name ∷ [])) none
    ∙ ap (λ ls. tenant_line tenant.name tenant.limit ∷ (front ++ ls)) (append-nil (map seen_line (tenant.seen ++ name ∷ [])) ∙ map_behind seen_line tenant.seen name)
    ∙ ap (λ ls. tenant_line tenant.name tenant.limit ∷ ls) (sym (append_assoc front (map seen_line tenant.seen) (seen_line name ∷ [])))
    ∙ ap (λ ls. (tenant_line tenant.name tenant.limit ∷ (front ++ ls)) ++ seen_line name ∷ []) (sym (append-nil (map seen_line tenant.seen)))
    ∙ ap (λ o. lines tenant.seen o ++ seen_line name ∷ []) (sym none)

-- if no HEAD is awaited before or after, a line added to the last tenant is the last line
plain_more : (version : Version) (old new : Taken) (before : States) (tenant next : TenantState) (line : List ℕ) → old.awaits ≡ false → new.awaits ≡ false → old.states ≡ before ++ tenant ∷ [] → new.states ≡ before ++ next ∷ []
    → tenant_lines version next ≡ tenant_lines version tenant ++ line ∷ [] → open_lines version new ≡ open_lines version old ++ line ∷ []
plain_more version old new before tenant next line was is old_is new_is lines =
    open_told version new is ∙ ap (told_lines version) new_is ∙ lines_more version before tenant next (line ∷ []) lines
    ∙ ap (λ ls. ls ++ line ∷ []) (ap (told_lines version) (sym old_is) ∙ sym (open_told version old was))

place_line : (version : Version) (old new : Taken) (place : Place) → old.awaits ≡ false → new.awaits ≡ awaits_head version → AddsPlace old.states place new.states → open_lines version new ≡ open_lines version old ++ first_line place ∷ []
place_line version old new place was is adds =
    begun_lines version adds.before adds.tenant place new adds.last is adds.added ∙ ap (λ ls. ls ++ first_line place ∷ []) (ap (told_lines version) (sym adds.was) ∙ sym (open_told version old was))

-- a line that was taken comes after the others
pub adds_line : (version : Version) (old new : Taken) (line : List ℕ) → Adds version old line new → open_lines version new ≡ open_lines version old ++ line ∷ []
adds_line version old new line (Head told goes says) =
    let adds = says.adds in
    open_told version new goes.is ∙ ap (told_lines version) adds.added ∙ headed_lines version adds.before adds.tenant adds.place adds.head told adds.last
    ∙ (λ i. sym (begun_lines version adds.before adds.tenant adds.place old adds.last (goes.was ∙ sym told) adds.was) i ++ sym (says.is ∙ ap (λ r. codes "head " ++ r) adds.spelled) i ∷ [])
adds_line version old new line (Tenant rest is goes adds) =
    open_told version new goes.is ∙ ap (told_lines version) adds.added ∙ told_behind version old.states (fresh adds.name adds.limit)
    ∙ (λ i. sym (open_told version old goes.was) i ++ sym (is ∙ ap (λ r. codes "tenant " ++ r) adds.spelled) i ∷ [])
adds_line version old new line (Repository rest is goes adds) = place_line version old new (Own rest) goes.was goes.is adds ∙ ap (λ l. open_lines version old ++ l ∷ []) (sym is)
adds_line version old new line (Reference rest is goes adds) =
    plain_more version old new adds.before (with_at adds.tenant adds.place adds.repository) (with_at adds.tenant adds.place adds.next) (reference_line adds.tenant.name (place_name adds.place) (adds.name, adds.target)) goes.was goes.is adds.was adds.added
    (referenced_lines version adds.tenant adds.place adds.repository adds.next adds.name adds.target adds.last adds.more)
    ∙ ap (λ l. open_lines version old ++ l ∷ []) (sym (is ∙ ap (λ r. codes "ref " ++ r) adds.spelled))
adds_line version old new line (Seen rest is goes adds) =
    plain_more version old new adds.before adds.tenant (with_seen adds.tenant adds.name) (seen_line adds.name) goes.was goes.is adds.was adds.added (seen_more version adds.tenant adds.name adds.unoffered)
    ∙ ap (λ l. open_lines version old ++ l ∷ []) (sym (is ∙ ap (λ r. codes "see " ++ r) adds.spelled))
adds_line version old new line (Offer rest is goes adds) =
    place_line version old new (Offered adds.receiver adds.name) goes.was (goes.is ∙ sym adds.told) adds.begins ∙ ap (λ l. open_lines version old ++ l ∷ []) (sym (is ∙ ap (λ r. codes "offer " ++ r) adds.spelled))

-- the text at its end
pub text_ends : (version : Version) (states : States) → flat_map ended (told_lines version states) ++ codes "end\n" ≡ state_text version states
unfolding state_text
text_ends version states = sym (flat_map-append ended (told_lines version states) (codes "end" ∷ []))
