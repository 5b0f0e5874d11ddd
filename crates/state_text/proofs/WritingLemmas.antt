-- Texts written piece by piece.
use Rattle.std.proofs.Common.{◌≡◌, ℕ, zero, suc, ◌+◌, ◌<◌, List, [], ◌∷◌, ◌++◌, codes, refl, sym, ap, subst, ◌∙◌, length, get_or, map, take, append_assoc, arith}
use Rattle.std.specs.Prelude.{Option, Result, Ok, Err, IfOk, OnOk}
use Rattle.std.specs.Io.KnownBytes.{Appends}
use Rattle.std.specs.List.{flat_map}
use Rattle.std.proofs.KnownBytes.{Appends-nil, Appends-trans}
use Rattle.std.proofs.lemmas.List.{append-nil}
use Rattle.std.proofs.lemmas.List.Concat.{flat_map-append}
use Rattle.git_name.specs.Text.{ended}
use Rattle.sha2.specs.Hashers.{Holds256}
use Rattle.state_text.specs.declared.version.Version.TheVariants.{Two}
use Rattle.state_text.specs.declared.waiting.Waiting.{Waiting}
use Rattle.state_text.specs.States.{States, TenantState}
use Rattle.state_text.specs.Text.{offer_lines, repository_lines, seen_line, state_text, tenant_line, tenant_lines}
use Rattle.state_text.specs.Writing.{IsUnderWay, Puts}
use Rattle.state_text.proofs.BehindLemmas.{map_behind}

take_next : {A : Type 0} (xs : List A) (i : ℕ) (x : A) → i < length xs → x ≡ get_or xs i x → take (suc i) xs ≡ take i xs ++ x ∷ []
take_next [] i x within is = absurd (omega (arith, within))
take_next (y ∷ xs) zero x within is = ap (λ z. z ∷ []) (sym is)
take_next (y ∷ xs) (suc i) x within is = ap (λ l. y ∷ l) (take_next xs i x (omega (arith, within)) is)

next_taken : {A : Type 0} (xs : List A) (i : ℕ) (x : A) → i < length xs → x ≡ get_or xs i x → take (i + 1) xs ≡ take i xs ++ x ∷ []
next_taken xs i x within is = (let next : i + 1 ≡ suc i = omega arith in ap (λ n. take n xs) next ∙ take_next xs i x within is)

pub none_put : (before : Option (List ℕ)) (old : Waiting) → Puts before before old old []
none_put before old = record { goes_on = λ first text under. subst (IsUnderWay first before old) (sym (append-nil text)) under }

-- two pieces, one after the other
pub both_put : (before mid after : Option (List ℕ)) (old half new : Waiting) (one two all : List ℕ) → Puts before mid old half one → Puts mid after half new two → one ++ two ≡ all → Puts before after old new all
both_put before mid after old half new one two all first behind is =
    record { goes_on = λ begun text under. subst (IsUnderWay begun after new) (append_assoc text one two ∙ ap (λ t. text ++ t) is) (behind.goes_on begun (text ++ one) (first.goes_on begun text under)) }

-- a line that waits
pub line_waits : (before : Option (List ℕ)) (old new : Waiting) (line : List ℕ) → new.hasher ≡ old.hasher → new.lines.items ≡ old.lines.items ++ line → Puts before before old new line
line_waits before old new line same grown =
    record {
      goes_on = λ first text under. record {
        front = under.front;
        written = under.written;
        hashed = subst (λ hasher. Holds256 hasher under.front) (sym same) under.hashed;
        parts = ap (λ t. t ++ line) under.parts ∙ append_assoc under.front old.lines.items line ∙ ap (λ t. under.front ++ t) (sym grown);
      };
    }

-- a line that waits, and more behind it
pub line_then : (before after : Option (List ℕ)) (old grown new : Waiting) (line rest all : List ℕ) → grown.hasher ≡ old.hasher → grown.lines.items ≡ old.lines.items ++ line → Puts before after grown new rest → line ++ rest ≡ all → Puts before after old new all
line_then before after old grown new line rest all same grows put is = both_put before before after old grown new line rest all (line_waits before old grown line same grows) put is

-- a line that is settled
pub line_settled : (before after : Option (List ℕ)) (old grown new : Waiting) (line : List ℕ) → grown.hasher ≡ old.hasher → grown.lines.items ≡ old.lines.items ++ line → Puts before after grown new [] → Puts before after old new line
line_settled before after old grown new line same grows put = line_then before after old grown new line [] line same grows put (append-nil line)

-- all that waits is written and hashed
pub all_put : (before after : Option (List ℕ)) (old new : Waiting) → Appends before after old.lines.items → ((m : List ℕ) → Holds256 old.hasher m → Holds256 new.hasher (m ++ old.lines.items)) → new.lines.items ≡ [] → Puts before after old new []
all_put before after old new written hashed none =
    record {
      goes_on = λ first text under. record {
        front = under.front ++ old.lines.items;
        written = Appends-trans first before after under.front old.lines.items under.written written;
        hashed = hashed under.front under.hashed;
        parts = ap (λ t. t ++ []) under.parts ∙ ap (λ t. (under.front ++ old.lines.items) ++ t) (sym none);
      };
    }

-- the lines of one more element
pub row_put : {A : Type 0} (f : A → List (List ℕ)) (xs : List A) (x : A) (i : ℕ) (before mid after : Option (List ℕ)) (old half new : Waiting) → i < length xs → x ≡ get_or xs i x
    → Puts before mid old half (flat_map ended (flat_map f (take i xs))) → Puts mid after half new (flat_map ended (f x)) → Puts before after old new (flat_map ended (flat_map f (take (i + 1) xs)))
row_put f xs x i before mid after old half new within is so_far put =
    let front = take i xs in
    let more : flat_map f (take (i + 1) xs) ≡ flat_map f front ++ f x = ap (flat_map f) (next_taken xs i x within is) ∙ flat_map-append f front (x ∷ []) ∙ ap (λ l. flat_map f front ++ l) (append-nil (f x)) in
    both_put before mid after old half new (flat_map ended (flat_map f front)) (flat_map ended (f x)) (flat_map ended (flat_map f (take (i + 1) xs))) so_far put
    (sym (flat_map-append ended (flat_map f front) (f x)) ∙ ap (flat_map ended) (sym more))

-- the line of one more element
pub line_put : {A : Type 0} (f : A → List ℕ) (xs : List A) (x : A) (i : ℕ) (before mid after : Option (List ℕ)) (old half new : Waiting) → i < length xs → x ≡ get_or xs i x
    → Puts before mid old half (flat_map ended (map f (take i xs))) → Puts mid after half new (ended (f x)) → Puts before after old new (flat_map ended (map f (take (i + 1) xs)))
line_put f xs x i before mid after old half new within is so_far put =
    let front = take i xs in
    let more : map f (take (i + 1) xs) ≡ map f front ++ f x ∷ [] = ap (map f) (next_taken xs i x within is) ∙ map_behind f front x in
    both_put before mid after old half new (flat_map ended (map f front)) (ended (f x)) (flat_map ended (map f (take (i + 1) xs))) so_far put
    (ap (λ l. flat_map ended (map f front) ++ l) (sym (append-nil (ended (f x)))) ∙ sym (flat_map-append ended (map f front) (f x ∷ [])) ∙ ap (flat_map ended) (sym more))

-- a front of all was written, and this is left
pub record PutsSoFar (before now : Option (List ℕ)) (old new : Waiting) (left all : List ℕ) : Type 0 where
  pub front : List ℕ
  pub put : Puts before now old new front
  pub parts : all ≡ front ++ left

pub nothing_put : (before : Option (List ℕ)) (old : Waiting) (all : List ℕ) → PutsSoFar before before old old all all
nothing_put before old all = record { front = []; put = none_put before old; parts = refl }

pub put_more : (before mid after : Option (List ℕ)) (old half new : Waiting) (piece left all : List ℕ) → PutsSoFar before mid old half (piece ++ left) all → Puts mid after half new piece → PutsSoFar before after old new left all
put_more before mid after old half new piece left all so_far put =
    record { front = so_far.front ++ piece; put = both_put before mid after old half new so_far.front piece (so_far.front ++ piece) so_far.put put refl; parts = so_far.parts ∙ sym (append_assoc so_far.front piece left) }

pub all_put_so_far : (before now : Option (List ℕ)) (old new : Waiting) (all : List ℕ) → PutsSoFar before now old new [] all → Puts before now old new all
all_put_so_far before now old new all so_far = subst (Puts before now old new) (sym (so_far.parts ∙ append-nil so_far.front)) so_far.put

-- the lines of a tenant, by their parts
pub tenant_put : (before first mid after : Option (List ℕ)) (old grown one two new : Waiting) (tenant : TenantState) → grown.hasher ≡ old.hasher → grown.lines.items ≡ old.lines.items ++ ended (tenant_line tenant.name tenant.limit)
    → Puts before first grown one (flat_map ended (flat_map (repository_lines Two tenant.name) tenant.repositories)) → Puts first mid one two (flat_map ended (map seen_line tenant.seen)) → Puts mid after two new (flat_map ended (flat_map (offer_lines Two tenant.name) tenant.offers))
    → Puts before after old new (flat_map ended (tenant_lines Two tenant))
tenant_put before first mid after old grown one two new tenant same grows repositories seen offers =
    let held = flat_map (repository_lines Two tenant.name) tenant.repositories in
    let names = map seen_line tenant.seen in
    let made = flat_map (offer_lines Two tenant.name) tenant.offers in
    let behind : Puts first after one new (flat_map ended (names ++ made)) = both_put first mid after one two new (flat_map ended names) (flat_map ended made) (flat_map ended (names ++ made)) seen offers (sym (flat_map-append ended names made)) in
    let all : Puts before after grown new (flat_map ended (held ++ (names ++ made))) = both_put before first after grown one new (flat_map ended held) (flat_map ended (names ++ made)) (flat_map ended (held ++ (names ++ made))) repositories behind (sym (flat_map-append ended held (names ++ made))) in
    line_then before after old grown new (ended (tenant_line tenant.name tenant.limit)) (flat_map ended (held ++ (names ++ made))) (flat_map ended (tenant_lines Two tenant)) same grows all refl

-- a text, by its parts
pub text_put : (states : States) → (codes "forkhost state 2\n" ++ flat_map ended (flat_map (tenant_lines Two) states)) ++ codes "end\n" ≡ state_text Two states
unfolding state_text
text_put states = append_assoc (codes "forkhost state 2\n") (flat_map ended (flat_map (tenant_lines Two) states)) (codes "end\n") ∙ ap (λ t. codes "forkhost state 2\n" ++ t) (sym (flat_map-append ended (flat_map (tenant_lines Two) states) (codes "end" ∷ [])))

-- what is under way before the end of a text
pub text_under : (before after : Option (List ℕ)) (none begun told all : Waiting) (states : States) → IsUnderWay before before none [] → begun.hasher ≡ none.hasher → begun.lines.items ≡ none.lines.items ++ codes "forkhost state 2\n"
    → Puts before after begun told (flat_map ended (flat_map (tenant_lines Two) states)) → all.hasher ≡ told.hasher → all.lines.items ≡ told.lines.items ++ codes "end\n" → IsUnderWay before after all (state_text Two states)
text_under before after none begun told all states nothing first begins tenants last ends =
    let front = codes "forkhost state 2\n" in
    let lines = flat_map ended (flat_map (tenant_lines Two) states) in
    let most : Puts before after none told (front ++ lines) = line_then before after none begun told front lines (front ++ lines) first begins tenants refl in
    let whole : Puts before after none all (state_text Two states) = both_put before after after none told all (front ++ lines) (codes "end\n") (state_text Two states) most (line_waits after told all (codes "end\n") last ends) (text_put states) in
    whole.goes_on before [] nothing

-- nothing waits, so all was written and hashed
pub record IsPut (first now : Option (List ℕ)) (new : Waiting) (text : List ℕ) : Type 0 where
  pub written : Appends first now text
  pub hashed : Holds256 new.hasher text

pub put_whole : (first before after : Option (List ℕ)) (old new : Waiting) (text : List ℕ) → IsUnderWay first before old text → Puts before after old new [] → new.lines.items ≡ [] → IsPut first after new text
put_whole first before after old new text under puts none =
    let end = puts.goes_on first text under in
    let same : end.front ≡ text = sym (append-nil end.front) ∙ ap (λ l. end.front ++ l) (sym none) ∙ sym end.parts ∙ append-nil text in
    record { written = subst (Appends first after) same end.written; hashed = subst (Holds256 new.hasher) same end.hashed }

pub if_ok_on : {T E Q : Type 0} {P : T → Type 0} (r : Result T E) → ((x : T) → P x → Q) → IfOk r P → OnOk r Q
if_ok_on (Ok x) f p = f x p
if_ok_on (Err e) f p = tt
