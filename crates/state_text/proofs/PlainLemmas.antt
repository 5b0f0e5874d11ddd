-- The lines of states contain no LF.
use Rattle.std.proofs.Common.{◌≡◌, ◌≢◌, ℕ, ◌<◌, ◌^◌, Bool, true, false, cond, ◌||◌, List, [], ◌∷◌, ◌++◌, codes, decimal, Option, None, Some, refl, sym, ap, subst, ◌∙◌, rules, arith}
use Rattle.std.specs.List.{AllByRecursion, find, list_any}
use Rattle.std.proofs.lemmas.List.Elements.{All-append, All-from_recursion, All-same}
use Rattle.hex.specs.Hex.{encode_lower}
use Rattle.git_name.specs.Name.{IsName}
use Rattle.git_name.proofs.PlainLemmas.{decimal-plain, encode_lower-plain}
use Rattle.git_refname.specs.Namespace.{expanded, namespace}
use Rattle.git_refname.specs.Rule.{IsRefName, breaks, is_unprintable, least_broken_rule}
use Rattle.git_refname.specs.declared.rule.Rule.{Rule}
use Rattle.git_refname.specs.declared.rule.Rule.TheVariants.{Component, OneLevel, TwoDots, Unprintable, Pattern, Slashes, LastDot, AtBrace, LoneAt, Backslash, OutsideRefs, TooLong}
use Rattle.std.specs.FinMap.{empty}
use Rattle.fork_request.specs.Names.{IsPlainName}
use Rattle.git_reftx.specs.Repository as git
use Rattle.git_reftx.specs.Repository.{new_repository}
use Rattle.state_text.specs.declared.place.Place.TheVariants.{Own, Offered}
use Rattle.state_text.specs.declared.version.Version.{Version}
use Rattle.state_text.specs.Adding.{fresh, with_seen}
use Rattle.state_text.specs.Fault.{IsOneLine}
use Rattle.state_text.specs.Place.{place_name, with_at}
use Rattle.state_text.specs.States.{IsStates, IsTenantState, States}
use Rattle.state_text.specs.Taking.{Adds, AddsHead, AddsOffer, AddsReference, AddsRepository, AddsSeen, AddsTenant, Taken, Head, Tenant, Repository, Reference, Seen, Offer}
use Rattle.state_text.proofs.BehindLemmas.{each_last}
use Rattle.state_text.proofs.LastLemmas.{IsLastReference, last_reference}
use Rattle.state_text.proofs.PartLemmas.{plain_without}
use Rattle.state_text.proofs.PlaceLemmas.{named_at, place_less, receiver_at, told_at}
use Rattle.state_text.proofs.StateLemmas.{last_right}

or_false : (a b : Bool) → (a || b) ≡ false → (a ≡ false) × (b ≡ false)
or_false true b is = absurd (cc)
or_false false b is = (refl, is)

printable : (name : List ℕ) → list_any is_unprintable name ≡ false → AllByRecursion (λ b. b ≢ 10) name
printable [] is = tt
printable (b ∷ bs) is =
    let parts = or_false (is_unprintable b) (list_any is_unprintable bs) is in
    ((λ lf. let bad : true ≡ false = ap is_unprintable (sym lf) ∙ parts.0 in absurd (cc)), printable bs parts.1)

not_first : {A : Type 0} (b : Bool) (x : A) (o : Option A) → cond b (Some x) o ≡ None → (b ≡ false) × (o ≡ None)
not_first true x o is = absurd (cc)
not_first false x o is = (refl, is)

later_rules : List Rule
later_rules = Pattern ∷ Slashes ∷ LastDot ∷ AtBrace ∷ LoneAt ∷ Backslash ∷ OutsideRefs ∷ TooLong ∷ []

-- a reference's name has no LF
pub reference_plain : (name : List ℕ) → IsRefName name → IsOneLine name
unfolding least_broken_rule later_rules
reference_plain name right =
    let component = not_first (breaks name Component) Component (find (breaks name) (OneLevel ∷ TwoDots ∷ Unprintable ∷ later_rules)) right in
    let one_level = not_first (breaks name OneLevel) OneLevel (find (breaks name) (TwoDots ∷ Unprintable ∷ later_rules)) component.1 in
    let two_dots = not_first (breaks name TwoDots) TwoDots (find (breaks name) (Unprintable ∷ later_rules)) one_level.1 in
    let unprintable = not_first (breaks name Unprintable) Unprintable (find (breaks name) later_rules) two_dots.1 in
    All-from_recursion (λ b. b ≢ 10) name (printable name unprintable.0)

name_plain : (most : ℕ) (name : List ℕ) → IsPlainName most name → IsOneLine name
name_plain most name named = plain_without most 10 name refl named

pub both_plain : (a b : List ℕ) → IsOneLine a → IsOneLine b → IsOneLine (a ++ b)
both_plain a b p q = All-append (λ x. x ≢ 10) a b p q

space_plain : IsOneLine (codes " ")
space_plain = All-from_recursion (λ b. b ≢ 10) (codes " ") (search (rules, arith))

prefix_plain : IsOneLine (codes "refs/namespaces/")
prefix_plain = All-from_recursion (λ b. b ≢ 10) (codes "refs/namespaces/") (search (rules, arith))

slash_plain : IsOneLine (codes "/")
slash_plain = All-from_recursion (λ b. b ≢ 10) (codes "/") (search (rules, arith))

nothing_plain : IsOneLine []
nothing_plain = All-from_recursion (λ b. b ≢ 10) [] tt

namespace_plain : (most : ℕ) (name : List ℕ) → IsPlainName most name → IsOneLine (namespace name)
namespace_plain most name named = both_plain (codes "refs/namespaces/" ++ name) (codes "/") (both_plain (codes "refs/namespaces/") name prefix_plain (name_plain most name named)) slash_plain

-- the prefix of the names of a repository's references
prefix_at : (most most_too : ℕ) (tenant repository : List ℕ) → IsPlainName most tenant → IsPlainName most_too repository → IsOneLine (expanded (tenant ∷ repository ∷ []))
prefix_at most most_too tenant repository tenant_named named =
    both_plain (namespace tenant) (namespace repository ++ []) (namespace_plain most tenant tenant_named) (both_plain (namespace repository) [] (namespace_plain most_too repository named) nothing_plain)

front_plain : (front : List ℕ) (rest line : List ℕ) → line ≡ front ++ rest → IsOneLine front → IsOneLine rest → IsOneLine line
front_plain front rest line is plain others = All-same (λ b. b ≢ 10) _ _ is (both_plain front rest plain others)

head_plain : (old : States) (rest : List ℕ) (new : States) → AddsHead old rest new → IsStates new → IsOneLine rest
head_plain old rest new adds right =
    let next : git.Repository = record { head = adds.head; references = empty } in
    let tenant = last_right adds.before (with_at adds.tenant adds.place next) (subst IsStates adds.added right) in
    let named = named_at adds.tenant adds.place next tenant in
    let tenant_named = (place_less adds.tenant adds.place next tenant).named in
    All-same (λ b. b ≢ 10) _ _ adds.spelled
    (both_plain (expanded (adds.tenant.name ∷ place_name adds.place ∷ [])) adds.head (prefix_at _ _ adds.tenant.name (place_name adds.place) tenant_named named) (reference_plain adds.head (told_at adds.tenant adds.place next tenant).branch.name))

-- a reference's line
line_of_reference : (old : States) (rest : List ℕ) (new : States) → AddsReference old rest new → IsStates new → IsOneLine rest
line_of_reference old rest new adds right =
    let tenant = last_right adds.before (with_at adds.tenant adds.place adds.next) (subst IsStates adds.added right) in
    let last : IsLastReference adds.name adds.target = last_reference adds.repository adds.next adds.name adds.target adds.more (told_at adds.tenant adds.place adds.next tenant) in
    let prefix = prefix_at _ _ adds.tenant.name (place_name adds.place) (place_less adds.tenant adds.place adds.next tenant).named (named_at adds.tenant adds.place adds.next tenant) in
    let space = both_plain (encode_lower adds.target) (codes " ") (encode_lower-plain 10 (omega arith) adds.target last.target_named.bytes) space_plain in
    All-same (λ b. b ≢ 10) _ _ adds.spelled
    (both_plain (encode_lower adds.target ++ codes " " ++ expanded (adds.tenant.name ∷ place_name adds.place ∷ [])) adds.name
    (both_plain (encode_lower adds.target ++ codes " ") (expanded (adds.tenant.name ∷ place_name adds.place ∷ [])) space prefix) (reference_plain adds.name last.named))

tenant_plain : (old : States) (rest : List ℕ) (new : States) → AddsTenant old rest new → IsStates new → IsOneLine rest
tenant_plain old rest new adds right =
    let tenant : IsTenantState (fresh adds.name adds.limit) = last_right old (fresh adds.name adds.limit) (subst IsStates adds.added right) in
    let small : adds.limit < 2 ^ 64 = (let limit = tenant.limit in omega (arith, limit)) in
    All-same (λ b. b ≢ 10) _ _ adds.spelled
    (both_plain (adds.name ++ codes " ") (decimal adds.limit) (both_plain adds.name (codes " ") (name_plain _ adds.name tenant.named) space_plain) (decimal-plain 10 (omega arith) adds.limit small))

seen_plain : (old : States) (rest : List ℕ) (new : States) → AddsSeen old rest new → IsStates new → IsOneLine rest
seen_plain old rest new adds right =
    let tenant = last_right adds.before (with_seen adds.tenant adds.name) (subst IsStates adds.added right) in
    let named : IsName adds.name = each_last IsName adds.tenant.seen adds.name tenant.seen in
    All-same (λ b. b ≢ 10) _ _ adds.spelled (encode_lower-plain 10 (omega arith) adds.name named.bytes)

repository_plain : (old : States) (rest : List ℕ) (new : States) → AddsRepository old rest new → IsStates new → IsOneLine rest
repository_plain old rest new adds right =
    name_plain _ rest (named_at adds.tenant (Own rest) new_repository (last_right adds.before (with_at adds.tenant (Own rest) new_repository) (subst IsStates adds.added right)))

offer_plain : (version : Version) (old : States) (rest : List ℕ) (new : States) → AddsOffer version old rest new → IsStates new → IsOneLine rest
offer_plain version old rest new adds right =
    let at = Offered adds.receiver adds.name in
    let tenant = last_right adds.begins.before (with_at adds.begins.tenant at new_repository) (subst IsStates adds.begins.added right) in
    let receiver = receiver_at adds.begins.tenant adds.receiver adds.name new_repository tenant in
    All-same (λ b. b ≢ 10) _ _ adds.spelled
    (both_plain (adds.receiver ++ codes " ") adds.name (both_plain adds.receiver (codes " ") (name_plain _ adds.receiver receiver.receiver_named) space_plain) (name_plain _ adds.name receiver.named))

-- a line that was taken has no LF
pub adds_plain : (version : Version) (old new : Taken) (line : List ℕ) → Adds version old line new → IsStates new.states → IsOneLine line
adds_plain version old new line (Head told goes says) right = front_plain (codes "head ") says.rest line says.is (All-from_recursion (λ b. b ≢ 10) (codes "head ") (search (rules, arith))) (head_plain old.states says.rest new.states says.adds right)
adds_plain version old new line (Tenant rest is goes adds) right = front_plain (codes "tenant ") rest line is (All-from_recursion (λ b. b ≢ 10) (codes "tenant ") (search (rules, arith))) (tenant_plain old.states rest new.states adds right)
adds_plain version old new line (Repository rest is goes adds) right = front_plain (codes "repo ") rest line is (All-from_recursion (λ b. b ≢ 10) (codes "repo ") (search (rules, arith))) (repository_plain old.states rest new.states adds right)
adds_plain version old new line (Reference rest is goes adds) right = front_plain (codes "ref ") rest line is (All-from_recursion (λ b. b ≢ 10) (codes "ref ") (search (rules, arith))) (line_of_reference old.states rest new.states adds right)
adds_plain version old new line (Seen rest is goes adds) right = front_plain (codes "see ") rest line is (All-from_recursion (λ b. b ≢ 10) (codes "see ") (search (rules, arith))) (seen_plain old.states rest new.states adds right)
adds_plain version old new line (Offer rest is goes adds) right = front_plain (codes "offer ") rest line is (All-from_recursion (λ b. b ≢ 10) (codes "offer ") (search (rules, arith))) (offer_plain version old.states rest new.states adds right)
