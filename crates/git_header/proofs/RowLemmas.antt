-- Lines are read back from their spelling.
use Rattle.std.proofs.Common.{suc, ◌-◌, take, ◌≡◌, ◌≢◌, ℕ, ◌<◌, ◌≤◌, ◌/◌, ◌%◌, cond, eqb, All, List, [], ◌∷◌, ◌++◌, map, drop, length, get_or, refl, sym, ap, subst, ◌∙◌, arith, rules, length-append}
use Rattle.std.specs.List.{AllByRecursion, flat_map}
use Rattle.std.proofs.lemmas.Bool.Decides.{nat_tests}
use Rattle.std.proofs.lemmas.List.{append-nil, take_at}
use Rattle.std.proofs.lemmas.List.Elements.{All-from_recursion, recursion_from_All, All-cons, All-append}
use Rattle.hex.specs.Hex.{encode_lower, encode_with, lower_digits, IsBytes}
use Rattle.git_name.specs.declared.kind.Kind.{Kind}
use Rattle.git_name.specs.Name.{IsName}
use Rattle.git_name.specs.Text.{Lacks, ended, onto_first}
use Rattle.git_header.specs.Header.{HeaderValue, IsPlain, IsHeader, continuing, header_lines}
use Rattle.git_header.specs.Row.{lines_in, more_in, IsMore, before_space, behind_space, Gathered, one_more, gather, headers_in, AreHeaders}
use Rattle.git_header.proofs.JudgingLemmas.{lines_then}

tested_false : {A : Type 0} (b c : ℕ) (x y : A) → b ≢ c → cond (eqb b c) x y ≡ y
tested_false b c x y h = grind (arith, nat_tests)

tested_true : {A : Type 0} (c : ℕ) (x y : A) → cond (eqb c c) x y ≡ x
tested_true c x y = grind (arith, nat_tests)

-- the first line of bytes
pub line_first : (line rest : List ℕ) → AllByRecursion (λ b. b ≢ 10) line → lines_in (line ++ 10 ∷ rest) ≡ line ∷ lines_in rest
unfolding lines_in
line_first [] rest lacks = tested_true 10 ([] ∷ lines_in rest) (onto_first 10 (lines_in rest))
line_first (b ∷ line) rest lacks =
    tested_false b 10 ([] ∷ lines_in (line ++ 10 ∷ rest)) (onto_first b (lines_in (line ++ 10 ∷ rest))) lacks.0 ∙ ap (onto_first b) (line_first line rest lacks.1)

pub no_lines : lines_in [] ≡ []
unfolding lines_in
no_lines = refl

-- lines put one after another
pub lines_of : (lines : List (List ℕ)) → AllByRecursion (Lacks 10) lines → lines_in (flat_map ended lines) ≡ lines
lines_of [] lack = no_lines
lines_of (line ∷ lines) lack =
    ap lines_in (sym (append-nil (flat_map ended (line ∷ lines))) ∙ lines_then line lines [] ∙ ap (λ (t : List ℕ). line ++ 10 ∷ t) (append-nil (flat_map ended lines)))
    ∙ line_first line (flat_map ended lines) (recursion_from_All (λ b. b ≢ 10) line lack.0) ∙ ap (λ (t : List (List ℕ)). line ∷ t) (lines_of lines lack.1)

pub continued_lacks : (values : List (List ℕ)) → AllByRecursion IsPlain values → AllByRecursion (Lacks 10) (map continuing values)
continued_lacks [] plain = tt
continued_lacks (v ∷ values) plain = (All-cons (λ b. b ≢ 10) 32 v (λ (e : 32 ≡ 10). absurd (omega arith)) plain.0.no_end, continued_lacks values plain.1)

dropped : (values : List (List ℕ)) → map (λ line. drop 1 line) (map continuing values) ≡ values
dropped [] = refl
dropped (v ∷ values) = ap (λ (t : List (List ℕ)). v ∷ t) (dropped values)

more_are : (values : List (List ℕ)) → AllByRecursion IsPlain values → more_in (flat_map ended (map continuing values)) ≡ values
unfolding more_in
more_are values plain = ap (map (λ line. drop 1 line)) (lines_of (map continuing values) (continued_lacks values plain)) ∙ dropped values

-- the bytes of valid continuation lines contain just these
pub more_of_values : (values : List (List ℕ)) (bytes : List ℕ) → AllByRecursion IsPlain values → bytes ≡ flat_map ended (map continuing values) → (more_in bytes ≡ values) × IsMore bytes
more_of_values values bytes plain is =
    let are : more_in bytes ≡ values = ap more_in is ∙ more_are values plain in
    (are, record { each = subst (AllByRecursion IsPlain) (sym are) plain; spelling = is ∙ ap (λ (v : List (List ℕ)). flat_map ended (map continuing v)) (sym are) })

key_line_lacks : (kind : Kind) (h : HeaderValue) → IsHeader kind h → Lacks 10 (h.key ++ 32 ∷ h.value)
key_line_lacks kind h is =
    All-append (λ b. b ≢ 10) h.key (32 ∷ h.value) is.key.plain.no_end (All-cons (λ b. b ≢ 10) 32 h.value (λ (e : 32 ≡ 10). absurd (omega arith)) is.value.no_end)

all_append : {X : Type 0} (P : X → Type 0) (xs ys : List X) → AllByRecursion P xs → AllByRecursion P ys → AllByRecursion P (xs ++ ys)
all_append P [] ys one two = two
all_append P (x ∷ xs) ys one two = (one.0, all_append P xs ys one.1 two)

pub headers_lack : (kind : Kind) (hs : List HeaderValue) → AllByRecursion (IsHeader kind) hs → AllByRecursion (Lacks 10) (flat_map header_lines hs)
headers_lack kind [] are = tt
headers_lack kind (h ∷ hs) are = all_append (Lacks 10) (header_lines h) (flat_map header_lines hs) (key_line_lacks kind h are.0, continued_lacks h.more are.0.more) (headers_lack kind hs are.1)

before_at : (key value : List ℕ) → AllByRecursion (λ b. b ≢ 32) key → before_space (key ++ 32 ∷ value) ≡ key
before_at [] value lacks = tested_true 32 [] (32 ∷ before_space value)
before_at (b ∷ key) value lacks = tested_false b 32 [] (b ∷ before_space (key ++ 32 ∷ value)) lacks.0 ∙ ap (λ (t : List ℕ). b ∷ t) (before_at key value lacks.1)

behind_at : (key value : List ℕ) → AllByRecursion (λ b. b ≢ 32) key → behind_space (key ++ 32 ∷ value) ≡ value
behind_at [] value lacks = tested_true 32 value (behind_space value)
behind_at (b ∷ key) value lacks = tested_false b 32 (key ++ 32 ∷ value) (behind_space (key ++ 32 ∷ value)) lacks.0 ∙ behind_at key value lacks.1

abbrev gathered : List (List ℕ) → List HeaderValue → Gathered
gathered more headers = record { more = more; headers = headers }

abbrev made : List ℕ → List ℕ → List (List ℕ) → HeaderValue
made key value more = record { key = key; value = value; more = more }

gather_continued : (values : List (List ℕ)) (lines : List (List ℕ)) → gather (map continuing values ++ lines) ≡ gathered (values ++ (gather lines).more) (gather lines).headers
unfolding gather
gather_continued [] lines = refl
gather_continued (v ∷ values) lines =
    let g = gather (map continuing values ++ lines) in
    tested_true 32 (gathered (v ∷ g.more) g.headers) (gathered [] (made (before_space (32 ∷ v)) (behind_space (32 ∷ v)) g.more ∷ g.headers))
    ∙ ap (λ (g : Gathered). gathered (v ∷ g.more) g.headers) (gather_continued values lines)

gather_key : (key value : List ℕ) (g : Gathered) → key ≢ [] → AllByRecursion (λ b. b ≢ 32) key → one_more (key ++ 32 ∷ value) g ≡ gathered [] (made key value g.more ∷ g.headers)
gather_key [] value g some lacks = absurd (some refl)
gather_key (b ∷ key) value g some lacks =
    tested_false b 32 (gathered ((key ++ 32 ∷ value) ∷ g.more) g.headers) _ lacks.0
    ∙ ap (λ (k : List ℕ). gathered [] (made k (behind_space (b ∷ key ++ 32 ∷ value)) g.more ∷ g.headers)) (before_at (b ∷ key) value lacks)
    ∙ ap (λ (v : List ℕ). gathered [] (made (b ∷ key) v g.more ∷ g.headers)) (behind_at (b ∷ key) value lacks)

gather_header : (kind : Kind) (h : HeaderValue) (lines : List (List ℕ)) → IsHeader kind h → (gather lines).more ≡ [] → gather (header_lines h ++ lines) ≡ gathered [] (h ∷ (gather lines).headers)
unfolding gather
gather_header kind h lines is none =
    gather_key h.key h.value (gather (map continuing h.more ++ lines)) is.key.some (recursion_from_All (λ b. b ≢ 32) h.key is.key.no_space)
    ∙ ap (λ (g : Gathered). gathered [] (made h.key h.value g.more ∷ g.headers)) (gather_continued h.more lines)
    ∙ ap (λ (m : List (List ℕ)). gathered [] (made h.key h.value m ∷ (gather lines).headers)) (ap (λ (m : List (List ℕ)). h.more ++ m) none ∙ append-nil h.more)

pub gather_headers : (kind : Kind) (hs : List HeaderValue) → AllByRecursion (IsHeader kind) hs → gather (flat_map header_lines hs) ≡ gathered [] hs
unfolding gather
gather_headers kind [] are = refl
gather_headers kind (h ∷ hs) are =
    let later = gather_headers kind hs are.1 in
    gather_header kind h (flat_map header_lines hs) are.0 (ap (λ (g : Gathered). g.more) later) ∙ ap (λ (g : Gathered). gathered [] (h ∷ g.headers)) later

headers_are : (kind : Kind) (hs : List HeaderValue) → AllByRecursion (IsHeader kind) hs → headers_in (flat_map ended (flat_map header_lines hs)) ≡ hs
unfolding headers_in
headers_are kind hs are =
    ap (λ (ls : List (List ℕ)). (gather ls).headers) (lines_of (flat_map header_lines hs) (headers_lack kind hs are)) ∙ ap (λ (g : Gathered). g.headers) (gather_headers kind hs are)

-- the bytes of valid further headers contain just these
pub headers_of : (kind : Kind) (hs : List HeaderValue) (bytes : List ℕ) → AllByRecursion (IsHeader kind) hs → bytes ≡ flat_map ended (flat_map header_lines hs) → (headers_in bytes ≡ hs) × AreHeaders kind bytes
headers_of kind hs bytes are is =
    let same : headers_in bytes ≡ hs = ap headers_in is ∙ headers_are kind hs are in
    (same, record { each = subst (AllByRecursion (IsHeader kind)) (sym same) are; spelling = is ∙ ap (λ (h : List HeaderValue). flat_map ended (flat_map header_lines h)) (sym same) })

-- equal lines are equal headers
pub headers_unique : (kind : Kind) (hs ks : List HeaderValue) → AllByRecursion (IsHeader kind) hs → AllByRecursion (IsHeader kind) ks → flat_map header_lines hs ≡ flat_map header_lines ks → hs ≡ ks
headers_unique kind hs ks are are_2 same =
    ap (λ (g : Gathered). g.headers) (sym (gather_headers kind hs are) ∙ ap gather same ∙ gather_headers kind ks are_2)

digits_high : All (λ b. 48 ≤ b) lower_digits
digits_high = All-from_recursion (λ b. 48 ≤ b) lower_digits (search (rules, arith))

high_digit : (k : ℕ) → k < 16 → 48 ≤ get_or lower_digits k 0
high_digit k small = digits_high k 0 small

pub hex_high : (bytes : List ℕ) → IsBytes bytes → AllByRecursion (λ b. 48 ≤ b) (encode_lower bytes)
unfolding encode_with
hex_high [] is = tt
hex_high (b ∷ bytes) is =
    let below : b < 256 = is 0 in
    (high_digit (b / 16) (omega arith), (high_digit (b % 16) (omega arith), hex_high bytes (λ i. is (suc i))))

high_not : (byte : ℕ) → byte < 48 → (bytes : List ℕ) → AllByRecursion (λ b. 48 ≤ b) bytes → AllByRecursion (λ b. b ≢ byte) bytes
high_not byte low [] high = tt
high_not byte low (b ∷ bytes) high = (λ (e : b ≡ byte). absurd (let h = high.0 in omega arith), high_not byte low bytes high.1)

-- no byte below the digits occurs in the digits of a name
pub hex_lacks : (byte : ℕ) → byte < 48 → (name : List ℕ) → IsName name → Lacks byte (encode_lower name)
hex_lacks byte low name is = All-from_recursion (λ b. b ≢ byte) (encode_lower name) (high_not byte low (encode_lower name) (hex_high name is.bytes))

-- what precedes the rest
pub front_of : (text front rest : List ℕ) → text ≡ front ++ rest → take (length text - length rest) text ≡ front
front_of text front rest parts =
    let len : length front ≡ length text - length rest = omega (arith, ap length parts, length-append front rest) in
    ap (take (length text - length rest)) parts ∙ take_at front rest (length text - length rest) len
