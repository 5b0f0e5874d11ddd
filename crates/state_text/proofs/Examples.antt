-- Example texts that the definitions give.
use Rattle.std.proofs.Common.{◌≡◌, ◌≢◌, ℕ, ◌+◌, true, false, List, [], ◌∷◌, ◌++◌, codes, refl, sym, ap, subst, ◌∙◌, length, slice_index, append_assoc, rules, arith}
use Rattle.std.specs.Fmt.{digits}
use Rattle.std.specs.List.{flat_map}
use Rattle.std.specs.List.Sorted.{IsStrictlySortedBy}
use Rattle.std.proofs.lemmas.List.{append_cancel_left}
use Rattle.std.proofs.lemmas.List.Elements.{All-from_recursion, All-nil}
use Rattle.std.specs.declared.cmp.Ordering.TheVariants.{Less, Equal, Greater}
use Rattle.hex.specs.Hex.{encode_lower}
use Rattle.git_name.specs.Name.{IsName, name_cmp}
use Rattle.git_name.specs.Text.{ended}
use Rattle.git_name.proofs.PlainLemmas.{encode_lower-plain}
use Rattle.git_reftx.specs.Repository.{main_branch, new_repository}
use Rattle.git_reftx.specs.Transaction.{is_branch}
use Rattle.fork_request.specs.Names.{IsPlainName, is_plain_name}
use Rattle.fork_request.proofs.NameLemmas.{plain_name}
use Rattle.fork_model.specs.declared.limits.TheConstants.{MAX_OFFERS}
use Rattle.state_text.specs.declared.fault.OfferError.TheVariants as offering
use Rattle.state_text.specs.declared.place.Place.TheVariants.{Own, Offered}
use Rattle.state_text.specs.declared.version.Version.{Version}
use Rattle.state_text.specs.declared.version.Version.TheVariants.{One, Two}
use Rattle.state_text.specs.Adding.{AreBefore, fresh}
use Rattle.state_text.specs.Fault.{IsOneLine, IsWrongLine}
use Rattle.state_text.specs.Offer.{offer_words}
use Rattle.state_text.specs.Place.{with_at}
use Rattle.state_text.specs.States.{IsStates, IsTenantState, States, TenantState}
use Rattle.state_text.specs.Taking.{Adds, AddsOffer, IsRightSoFar, SaysHead, Taken, Head, Tenant, Repository, Reference, Seen, Offer, open_lines, told_lines}
use Rattle.state_text.specs.Text.{IsStateText1, IsStateText2, inner_lines, repository_line, seen_line, state_text, tenant_line, version_line}
use Rattle.state_text.proofs.FaultLemmas.{wrong_at, wrong_header}
use Rattle.state_text.proofs.LineLemmas.{begun_lines, headed_lines, new_lines}
use Rattle.state_text.proofs.NewLemmas.{new_told}
use Rattle.state_text.proofs.PlainLemmas.{both_plain}
use Rattle.state_text.proofs.PlaceLemmas.{offer_at}
use Rattle.state_text.proofs.SameLemmas.{mark}
use Rattle.state_text.proofs.StateLemmas.{fresh_right, offer_more, repository_more, seen_more}
use Rattle.state_text.proofs.TellingLemmas.{tells_behind, tells_fresh, tells_nothing}
use Rattle.state_text.proofs.WrongLemmas.{head_right, head_spelled_so, offer_wrong}

plain_alice : IsPlainName 32 (codes "alice")
unfolding is_plain_name
plain_alice = plain_name 32 (codes "alice") refl

plain_bob : IsPlainName 32 (codes "bob")
unfolding is_plain_name
plain_bob = plain_name 32 (codes "bob") refl

plain_r : IsPlainName 64 (codes "r")
unfolding is_plain_name
plain_r = plain_name 64 (codes "r") refl

-- alice and bob, who have nothing yet
abbrev alice : TenantState
alice = fresh (codes "alice") 1000

abbrev bob : TenantState
bob = fresh (codes "bob") 1000

alice_right : IsTenantState alice
alice_right = fresh_right (codes "alice") 1000 plain_alice (omega arith)

-- alice has a new repository r
abbrev alice_with_r : TenantState
alice_with_r = with_at alice (Own (codes "r")) new_repository

with_r_right : IsTenantState alice_with_r
with_r_right = repository_more alice (codes "r") new_repository alice_right (record { named = plain_r; told = new_told }) (All-nil (λ other. name_cmp other (codes "r") ≡ Less)) (omega arith)

-- and sees this object, while bob has nothing
abbrev two_tenants : List ℕ → States
two_tenants e = record { name = codes "alice"; limit = 1000; repositories = (codes "r", new_repository) ∷ []; seen = e ∷ []; offers = [] } ∷ bob ∷ []

two_right : (e : List ℕ) → IsName e → IsStates (two_tenants e)
unfolding IsStrictlySortedBy
two_right e named = record {
  few = omega arith;
  ordered = ((refl, tt), (tt, tt));
  each = (seen_more alice_with_r e with_r_right named (All-nil (λ other. name_cmp other e ≡ Less)), (fresh_right (codes "bob") 1000 plain_bob (omega arith), tt));
}

-- their lines, given those within the repository
abbrev lines_with : Version → List ℕ → List (List ℕ) → List ℕ
lines_with version e inner =
    flat_map ended (version_line version ∷ (((tenant_line (codes "alice") 1000 ∷ (((repository_line (codes "r") ∷ inner) ++ []) ++ (seen_line e ∷ []))) ++ (tenant_line (codes "bob") 1000 ∷ [])) ++ (codes "end" ∷ [])))

lines_are : (version : Version) (e : List ℕ) → state_text version (two_tenants e) ≡ lines_with version e (inner_lines version (codes "alice") (codes "r") new_repository)
unfolding state_text
lines_are version e = refl

pub the_text_of_two_tenants : (e : List ℕ)
    → state_text Two (two_tenants e) ≡ codes "forkhost state 2\ntenant alice 1000\nrepo r\nhead refs/namespaces/alice/refs/namespaces/r/refs/heads/main\nsee " ++ encode_lower e ++ codes "\ntenant bob 1000\nend\n"
unfolding digits
the_text_of_two_tenants e = lines_are Two e ∙ ap (lines_with Two e) (new_lines Two (codes "alice") (codes "r") main_branch) ∙ ap (λ t. codes "forkhost state 2\ntenant alice 1000\nrepo r\nhead refs/namespaces/alice/refs/namespaces/r/refs/heads/main\nsee " ++ t) (append_assoc (encode_lower e) (codes "\n") (codes "tenant bob 1000\nend\n"))

pub the_text_before_heads : (e : List ℕ) → state_text One (two_tenants e) ≡ codes "forkhost state 1\ntenant alice 1000\nrepo r\nsee " ++ encode_lower e ++ codes "\ntenant bob 1000\nend\n"
unfolding digits
the_text_before_heads e = lines_are One e ∙ ap (lines_with One e) (new_lines One (codes "alice") (codes "r") main_branch) ∙ ap (λ t. codes "forkhost state 1\ntenant alice 1000\nrepo r\nsee " ++ t) (append_assoc (encode_lower e) (codes "\n") (codes "tenant bob 1000\nend\n"))

-- both texts give the same states
pub both_texts_tell_them : (e : List ℕ) → IsName e → IsStateText1 (two_tenants e) (state_text One (two_tenants e)) × IsStateText2 (two_tenants e) (state_text Two (two_tenants e))
both_texts_tell_them e named = (
  record { right = two_right e named; tells = (record { heads = (refl, tt); no_offers = refl }, (record { heads = tt; no_offers = refl }, tt)); spelled = refl },
  record { right = two_right e named; tells = tt; spelled = refl },
)

-- `repo r` was read, and its HEAD is awaited
abbrev begun : Taken
begun = record { states = alice_with_r ∷ []; awaits = true }

begun_right : IsRightSoFar Two begun
unfolding IsStrictlySortedBy
begun_right = record {
  right = record { few = omega arith; ordered = (tt, tt); each = (with_r_right, tt) };
  tells = tt;
  begun = λ is. (refl, record { before = []; tenant = alice; place = Own (codes "r"); last = (refl, refl); is = refl });
}

begun_are : open_lines Two begun ≡ told_lines Two (alice ∷ []) ++ repository_line (codes "r") ∷ []
begun_are = begun_lines Two [] alice (Own (codes "r")) begun (refl, refl) refl refl

head_awaited : (new : Taken) (line : List ℕ) → Adds Two begun line new → SaysHead begun.states line new.states
head_awaited new line (Head told goes says) = says
head_awaited new line (Tenant rest is goes adds) = absurd (let was = goes.was in cc)
head_awaited new line (Repository rest is goes adds) = absurd (let was = goes.was in cc)
head_awaited new line (Reference rest is goes adds) = absurd (let was = goes.was in cc)
head_awaited new line (Seen rest is goes adds) = absurd (let was = goes.was in cc)
head_awaited new line (Offer rest is goes adds) = absurd (let was = goes.was in cc)

-- a fourth line that gives no HEAD is wrong
fourth : (line behind : List ℕ) → IsOneLine line → ((new : Taken) → IsRightSoFar Two new → SaysHead begun.states line new.states → ⊥) → IsWrongLine (codes "forkhost state 2\ntenant alice 1000\nrepo r\n" ++ (line ++ 10 ∷ behind)) 4
unfolding digits
fourth line behind plain none =
    subst (λ ls. IsWrongLine (flat_map ended ls ++ (line ++ 10 ∷ behind)) (length ls + 1)) begun_are
    (wrong_at Two line behind begun begun_right plain (λ is known. absurd (cc)) (λ new right adds. none new right (head_awaited new line adds)))

seen_plain : (e : List ℕ) → IsName e → IsOneLine (seen_line e)
seen_plain e named = both_plain (codes "see ") (encode_lower e) (All-from_recursion (λ b. b ≢ 10) (codes "see ") (search (rules, arith))) (encode_lower-plain 10 (omega arith) e named.bytes)

pub without_a_head : (e : List ℕ) → IsName e → IsWrongLine (codes "forkhost state 2\ntenant alice 1000\nrepo r\nsee " ++ encode_lower e ++ codes "\ntenant bob 1000\nend\n") 4
without_a_head e named = fourth (seen_line e) (codes "tenant bob 1000\nend\n") (seen_plain e named) (λ new right says. absurd (let bad : 115 ≡ 104 = ap (λ l. slice_index l 0) says.is in omega (arith, bad)))

-- a HEAD that names a tag
pub a_head_of_a_tag : (behind : List ℕ) → IsWrongLine (codes "forkhost state 2\ntenant alice 1000\nrepo r\n" ++ (codes "head refs/namespaces/alice/refs/namespaces/r/refs/tags/v" ++ 10 ∷ behind)) 4
a_head_of_a_tag behind = fourth (codes "head refs/namespaces/alice/refs/namespaces/r/refs/tags/v") behind (All-from_recursion (λ b. b ≢ 10) (codes "head refs/namespaces/alice/refs/namespaces/r/refs/tags/v") (search (rules, arith))) (λ new right says.
    let prefix = codes "refs/namespaces/alice/refs/namespaces/r/" in
    let branch = head_right begun.states [] new.states alice (Own (codes "r")) new_repository says.rest prefix refl (refl, refl) refl right.right says.adds in
    let rest : says.rest ≡ prefix ++ says.adds.head = head_spelled_so begun.states [] new.states alice (Own (codes "r")) new_repository says.rest prefix refl (refl, refl) refl right.right says.adds in
    let all : prefix ++ codes "refs/tags/v" ≡ prefix ++ says.adds.head = append_cancel_left (codes "head ") (prefix ++ codes "refs/tags/v") says.rest says.is ∙ rest in
    let same : codes "refs/tags/v" ≡ says.adds.head = append_cancel_left prefix (codes "refs/tags/v") says.adds.head all in
    absurd (let bad : true ≡ false = sym branch.branch ∙ ap is_branch (sym same) in cc bad))

no_third : (version : Version) → codes "forkhost state 3" ≢ version_line version
no_third One is = absurd (let bad : 51 ≡ 49 = ap (λ l. slice_index l 15) is in omega (arith, bad))
no_third Two is = absurd (let bad : 51 ≡ 50 = ap (λ l. slice_index l 15) is in omega (arith, bad))

-- there are two versions
pub a_third_version : (behind : List ℕ) → IsWrongLine (codes "forkhost state 3\n" ++ behind) 1
a_third_version behind = wrong_header (codes "forkhost state 3\n" ++ behind) (codes "forkhost state 3") behind refl (All-from_recursion (λ b. b ≢ 10) (codes "forkhost state 3") (search (rules, arith))) no_third

-- what an offer's line says
says_offer : (version : Version) (old new : Taken) (rest : List ℕ) → Adds version old (codes "offer " ++ rest) new → old.awaits ≡ false → AddsOffer version old.states rest new.states
says_offer version old new rest (Head told goes says) known = absurd (let bad : true ≡ false = sym goes.was ∙ known in cc bad)
says_offer version old new rest (Tenant rest_too is goes adds) known = absurd (let bad : 324 ≡ 342 = ap mark is in omega arith)
says_offer version old new rest (Repository rest_too is goes adds) known = absurd (let bad : 324 ≡ 340 = ap mark is in omega arith)
says_offer version old new rest (Reference rest_too is goes adds) known = absurd (let bad : 324 ≡ 330 = ap mark is in omega arith)
says_offer version old new rest (Seen rest_too is goes adds) known = absurd (let bad : 324 ≡ 331 = ap mark is in omega arith)
says_offer version old new rest (Offer rest_too is goes adds) known = subst (λ t. AddsOffer version old.states t new.states) (sym (append_cancel_left (codes "offer ") rest rest_too is)) adds

-- an offer that is refused after what was taken
refused_offer : (version : Version) (taken : Taken) (rest behind : List ℕ) → IsRightSoFar version taken → taken.awaits ≡ false → IsOneLine (codes "offer " ++ rest) → ((new : States) → IsStates new → AddsOffer version taken.states rest new → ⊥)
    → IsWrongLine (flat_map ended (open_lines version taken) ++ ((codes "offer " ++ rest) ++ 10 ∷ behind)) (length (open_lines version taken) + 1)
refused_offer version taken rest behind right known plain none =
    wrong_at version (codes "offer " ++ rest) behind taken right plain (λ is _. absurd (let bad : 324 ≡ 302 = ap mark is in omega arith)) (λ new new_right adds. none new.states new_right.right (says_offer version taken new rest adds known))

-- alice has made no offer yet
abbrev alice_alone : Taken
alice_alone = record { states = alice ∷ []; awaits = false }

alone_right : (version : Version) → IsRightSoFar version alice_alone
unfolding IsStrictlySortedBy
alone_right version = record { right = record { few = omega arith; ordered = (tt, tt); each = (alice_right, tt) }; tells = tells_behind version [] alice (tells_nothing version) (tells_fresh version (codes "alice") 1000); begun = λ is. absurd (cc) }

pub an_offer_to_oneself : (behind : List ℕ) → IsWrongLine (codes "forkhost state 2\ntenant alice 1000\noffer alice r\n" ++ behind) 3
unfolding digits
an_offer_to_oneself behind =
    refused_offer Two alice_alone (codes "alice r") behind (alone_right Two) refl (All-from_recursion (λ b. b ≢ 10) (codes "offer alice r") (search (rules, arith)))
    (offer_wrong Two (alice ∷ []) [] alice (codes "alice r") (codes "alice") (codes "r") offering.ToGiver refl plain_alice refl refl)

-- version 1 has no offers
pub an_offer_in_version_1 : (behind : List ℕ) → IsWrongLine (codes "forkhost state 1\ntenant alice 1000\noffer bob r\n" ++ behind) 3
unfolding digits
an_offer_in_version_1 behind =
    refused_offer One alice_alone (codes "bob r") behind (alone_right One) refl (All-from_recursion (λ b. b ≢ 10) (codes "offer bob r") (search (rules, arith))) (λ new right adds. absurd (let told = adds.told in cc told))

-- she has offered r to bob
abbrev offering_r : Taken
offering_r = record { states = with_at alice (Offered (codes "bob") (codes "r")) new_repository ∷ []; awaits = false }

apart : codes "bob" ≢ codes "alice"
apart is = absurd (let bad : 98 ≡ 97 = ap (λ l. slice_index l 0) is in omega (arith, bad))

offering_right : IsRightSoFar Two offering_r
unfolding IsStrictlySortedBy
offering_right = record {
  right = record {
    few = omega arith;
    ordered = (tt, tt);
    each = (offer_more alice (offer_at (codes "bob") (codes "r") new_repository) alice_right (record { receiver_named = plain_bob; to_another = apart; named = plain_r; told = new_told }) (All-nil (λ other. name_cmp other (codes "bob r") ≡ Less)) (omega arith), tt);
  };
  tells = tt;
  begun = λ is. absurd (cc);
}

-- a fifth line is wrong if its offer does not come after that one
fifth : (name behind : List ℕ) → IsOneLine (codes "offer " ++ (codes "bob " ++ name)) → (AreBefore (codes "bob r" ∷ []) (codes "bob " ++ name) → ⊥)
    → IsWrongLine (codes "forkhost state 2\ntenant alice 1000\noffer bob r\nhead refs/namespaces/alice/refs/namespaces/r/refs/heads/main\n" ++ ((codes "offer " ++ (codes "bob " ++ name)) ++ 10 ∷ behind)) 5
unfolding digits
fifth name behind plain not_behind =
    subst (λ ls. IsWrongLine (flat_map ended ls ++ ((codes "offer " ++ (codes "bob " ++ name)) ++ 10 ∷ behind)) (length ls + 1)) (headed_lines Two [] alice (Offered (codes "bob") (codes "r")) main_branch refl tt)
    (refused_offer Two offering_r (codes "bob " ++ name) behind offering_right refl plain
    (offer_wrong Two offering_r.states [] (with_at alice (Offered (codes "bob") (codes "r")) new_repository) (codes "bob " ++ name) (codes "bob") name offering.OutOfOrder refl plain_bob refl not_behind))

pub offers_out_of_order : (behind : List ℕ) → IsWrongLine (codes "forkhost state 2\ntenant alice 1000\noffer bob r\nhead refs/namespaces/alice/refs/namespaces/r/refs/heads/main\noffer bob a\n" ++ behind) 5
offers_out_of_order behind = fifth (codes "a") behind (All-from_recursion (λ b. b ≢ 10) (codes "offer bob a") (search (rules, arith))) (λ all. let bad : Greater ≡ Less = all 0 [] (omega arith) in absurd (cc bad))

pub the_same_offer_again : (behind : List ℕ) → IsWrongLine (codes "forkhost state 2\ntenant alice 1000\noffer bob r\nhead refs/namespaces/alice/refs/namespaces/r/refs/heads/main\noffer bob r\n" ++ behind) 5
the_same_offer_again behind = fifth (codes "r") behind (All-from_recursion (λ b. b ≢ 10) (codes "offer bob r") (search (rules, arith))) (λ all. let bad : Equal ≡ Less = all 0 [] (omega arith) in absurd (cc bad))

-- 256 offers are read, and no 257th one
pub so_many_offers : MAX_OFFERS ≡ 256
so_many_offers = refl

pub a_257th_offer : (version : Version) (before new : States) (tenant : TenantState) (receiver name : List ℕ) → length tenant.offers ≡ 256 → IsPlainName 32 receiver → IsStates new → AddsOffer version (before ++ tenant ∷ []) (offer_words receiver name) new → ⊥
a_257th_offer version before new tenant receiver name full named right adds =
    offer_wrong version (before ++ tenant ∷ []) before tenant (offer_words receiver name) receiver name offering.TooMany refl named refl (omega (arith, full)) new right adds
