-- Further headers, read one after another.
use Rattle.std.proofs.Common.{◌≡◌, ◌≢◌, ◌⊎◌, inl, inr, ℕ, ◌<◌, List, [], ◌∷◌, ◌++◌, map, length, refl, sym, ap, subst, ◌∙◌, arith, rules, codes, append_assoc, Some, None}
use Rattle.std.specs.List.{AllByRecursion, flat_map}
use Rattle.std.proofs.lemmas.List.{append-nil}
use Rattle.std.proofs.lemmas.List.Concat.{flat_map-append}
use Rattle.std.proofs.lemmas.List.Elements.{All-from_recursion, All-nil, All-cons, All-head, All-tail, All-same}
use Rattle.git_name.specs.declared.kind.Kind.{Kind}
use Rattle.git_name.specs.declared.kind.Kind.TheVariants.{Blob, Tree, Commit, Tag}
use Rattle.git_header.specs.declared.fault.HeaderFault.{HeaderFault}
use Rattle.git_header.specs.declared.fault.HeaderFault.TheVariants as fault
use Rattle.git_name.specs.Text.{Lacks, ended}
use Rattle.git_header.specs.Line.{IsEnding, IsLine, IsNoLine}
use Rattle.git_header.specs.Header.{HeaderValue, IsPlain, IsKey, IsOwnWord, HasOwnWord, IsHeader, IsHeaderLine, IsContinuation, HeaderPlace, NoHeader, SomeHeader, header_grammar, header_lines, continuing}
use Rattle.git_header.specs.Row.{IsMore, more_in}
use Rattle.git_header.specs.Judging.{AreRightLines, HoldsZero, Misplaced, Malformed, IsBroken, Early, Unended, Bad, IsFirstFault}
use Rattle.git_header.proofs.Splits.{split_unique, split_none, heads}
use Rattle.git_header.proofs.JudgingLemmas.{itself, IsUsual, lines_then, no_line_broken, fault_here, fault_behind, right_lines}

pub usual : (kind : Kind) → IsUsual itself (header_grammar kind)
usual kind = record { order = refl; unended = refl; zero_byte = refl }

pub all_left : (byte : ℕ) (a b : List ℕ) → Lacks byte (a ++ b) → Lacks byte a
all_left byte [] b lacks = All-nil (λ x. x ≢ byte)
all_left byte (x ∷ a) b lacks = All-cons (λ x. x ≢ byte) x a (All-head (λ x. x ≢ byte) x (a ++ b) lacks) (all_left byte a b (All-tail (λ x. x ≢ byte) x (a ++ b) lacks))

pub all_right : (byte : ℕ) (a b : List ℕ) → Lacks byte (a ++ b) → Lacks byte b
all_right byte [] b lacks = lacks
all_right byte (x ∷ a) b lacks = all_right byte a b (All-tail (λ x. x ≢ byte) x (a ++ b) lacks)

pub differ : (a b : ℕ) → a ≡ b → b < a → ⊥
differ a b same below = omega arith

-- what begins with a space does not end a header
pub space_goes_on : (text x : List ℕ) → text ≡ 32 ∷ x → IsEnding text → ⊥
space_goes_on text x is (None, ends) = let no_such : ⊥ = cc in no_such
space_goes_on text x is (Some m, ends) = differ 32 10 (heads 32 10 x m (sym is ∙ ends)) (omega arith)

pub continued_right : (kind : Kind) (values : List (List ℕ)) → AllByRecursion IsPlain values → AreRightLines (header_grammar kind) SomeHeader (map continuing values) SomeHeader
continued_right kind [] plain = refl
continued_right kind (v ∷ values) plain = (inr (record { value = v; value_is = plain.0; spelling = refl }), continued_right kind values plain.1)

-- a fault after continuation lines
pub more_fault : (kind : Kind) (values : List (List ℕ)) (why : HeaderFault) (text rest x : List ℕ) → AllByRecursion IsPlain values → text ≡ flat_map ended (map continuing values) ++ rest → rest ≡ 32 ∷ x → IsNoLine why rest
    → IsFirstFault (header_grammar kind) SomeHeader why text
more_fault kind values why text rest x plain parts space wrong =
    fault_behind (header_grammar kind) SomeHeader SomeHeader why (map continuing values) rest text (continued_right kind values plain) parts
    (fault_here (header_grammar kind) SomeHeader why rest (no_line_broken itself (header_grammar kind) (usual kind) why SomeHeader rest wrong (λ ends _. space_goes_on rest x space ends)))

line_of_space : (line after rest x : List ℕ) → IsLine line after rest → rest ≡ 32 ∷ x → (value : List ℕ) × (line ≡ 32 ∷ value)
line_of_space line after rest x is space = from line is.some (sym is.parts ∙ space)
  where
    from : (l : List ℕ) → l ≢ [] → l ++ 10 ∷ after ≡ 32 ∷ x → (value : List ℕ) × (l ≡ 32 ∷ value)
    from [] some e = absurd (some refl)
    from (b ∷ l) some e = (l, ap (λ h. h ∷ l) (heads b 32 (l ++ 10 ∷ after) x e))

all_push : {X : Type 0} (P : X → Type 0) (xs : List X) (x : X) → AllByRecursion P xs → P x → AllByRecursion P (xs ++ x ∷ [])
all_push P [] x all one = (one, tt)
all_push P (y ∷ ys) x all one = (all.0, all_push P ys x all.1 one)

map_push : (values : List (List ℕ)) (v : List ℕ) → map continuing (values ++ v ∷ []) ≡ map continuing values ++ continuing v ∷ []
map_push [] v = refl
map_push (w ∷ values) v = ap (λ (t : List (List ℕ)). continuing w ∷ t) (map_push values v)

pub lines_push : (lines more : List (List ℕ)) (text rest after : List ℕ) → text ≡ flat_map ended lines ++ rest → rest ≡ flat_map ended more ++ after → text ≡ flat_map ended (lines ++ more) ++ after
lines_push lines more text rest after parts parts_2 =
    parts ∙ ap (λ (t : List ℕ). flat_map ended lines ++ t) parts_2 ∙ sym (append_assoc (flat_map ended lines) (flat_map ended more) after) ∙ ap (λ (t : List ℕ). t ++ after) (sym (flat_map-append ended lines more))

pub one_line : (line after rest : List ℕ) → rest ≡ line ++ 10 ∷ after → rest ≡ flat_map ended (line ∷ []) ++ after
one_line line after rest parts = parts ∙ sym (lines_then line [] after)

abbrev pub MoreSoFar : List ℕ → List ℕ → Type 0
MoreSoFar text rest = (values : List (List ℕ)) × AllByRecursion IsPlain values × (text ≡ flat_map ended (map continuing values) ++ rest)

-- one more continuation line
pub more_step : (values : List (List ℕ)) (text rest x line after : List ℕ) → AllByRecursion IsPlain values → text ≡ flat_map ended (map continuing values) ++ rest → rest ≡ 32 ∷ x → IsLine line after rest → Lacks 0 line → MoreSoFar text after
more_step values text rest x line after plain parts space is no_zero =
    let value = line_of_space line after rest x is space in
    let plain_value : IsPlain value.0 = record { no_end = all_right 10 (32 ∷ []) value.0 (All-same (λ x. x ≢ 10) _ _ (sym value.1) is.no_end); no_zero = all_right 0 (32 ∷ []) value.0 (All-same (λ x. x ≢ 0) _ _ (sym value.1) no_zero) } in
    let one : rest ≡ flat_map ended (continuing value.0 ∷ []) ++ after = one_line (continuing value.0) after rest (is.parts ∙ ap (λ (l : List ℕ). l ++ 10 ∷ after) value.1) in (
      values ++ value.0 ∷ [],
      all_push IsPlain values value.0 plain plain_value,
      lines_push (map continuing values) (continuing value.0 ∷ []) text rest after parts one ∙ ap (λ (ls : List (List ℕ)). flat_map ended ls ++ after) (sym (map_push values value.0)),
    )

-- ---- one further header

pub own_lacks : (kind : Kind) (word : List ℕ) → IsOwnWord kind word → Lacks 32 word
own_lacks Blob word own = absurd own
own_lacks Tree word own = absurd own
own_lacks Commit word (inl is) = All-same (λ x. x ≢ 32) _ _ is (All-from_recursion (λ x. x ≢ 32) (codes "tree") (search (rules, arith)))
own_lacks Commit word (inr (inl is)) = All-same (λ x. x ≢ 32) _ _ is (All-from_recursion (λ x. x ≢ 32) (codes "parent") (search (rules, arith)))
own_lacks Commit word (inr (inr (inl is))) = All-same (λ x. x ≢ 32) _ _ is (All-from_recursion (λ x. x ≢ 32) (codes "author") (search (rules, arith)))
own_lacks Commit word (inr (inr (inr is))) = All-same (λ x. x ≢ 32) _ _ is (All-from_recursion (λ x. x ≢ 32) (codes "committer") (search (rules, arith)))
own_lacks Tag word (inl is) = All-same (λ x. x ≢ 32) _ _ is (All-from_recursion (λ x. x ≢ 32) (codes "object") (search (rules, arith)))
own_lacks Tag word (inr (inl is)) = All-same (λ x. x ≢ 32) _ _ is (All-from_recursion (λ x. x ≢ 32) (codes "type") (search (rules, arith)))
own_lacks Tag word (inr (inr (inl is))) = All-same (λ x. x ≢ 32) _ _ is (All-from_recursion (λ x. x ≢ 32) (codes "tag") (search (rules, arith)))
own_lacks Tag word (inr (inr (inr is))) = All-same (λ x. x ≢ 32) _ _ is (All-from_recursion (λ x. x ≢ 32) (codes "tagger") (search (rules, arith)))

-- the word before the first space is the key
pub own_is_key : (kind : Kind) (line key value : List ℕ) → line ≡ key ++ 32 ∷ value → Lacks 32 key → HasOwnWord kind line → IsOwnWord kind key
own_is_key kind line key value parts lacks has =
    subst (IsOwnWord kind) (sym (split_unique 32 key value has.word has.rest lacks (own_lacks kind has.word has.own) (sym parts ∙ has.begins)).0) has.own

-- a line without a space is no further header
pub no_space_fault : (kind : Kind) (text line after : List ℕ) → IsLine line after text → Lacks 0 line → Lacks 32 line → IsFirstFault (header_grammar kind) NoHeader fault.HeaderLine text
no_space_fault kind text line after is plain lacks =
    fault_here (header_grammar kind) NoHeader fault.HeaderLine text (Bad line after is (Malformed plain
    (λ has. split_none 32 has.word has.rest line lacks has.begins)
    (λ right. split_none 32 right.key right.value line lacks right.spelling) refl))

-- nor is a line with an empty key
pub no_key_fault : (kind : Kind) (text line after key value : List ℕ) → IsLine line after text → Lacks 0 line → line ≡ key ++ 32 ∷ value → Lacks 32 key → (IsOwnWord kind key → ⊥) → length key ≡ 0 → IsFirstFault (header_grammar kind) NoHeader fault.HeaderLine text
no_key_fault kind text line after key value is plain parts lacks other none =
    fault_here (header_grammar kind) NoHeader fault.HeaderLine text (Bad line after is (Malformed plain
    (λ has. other (own_is_key kind line key value parts lacks has))
    (λ right. right.key_is.some (nothing right.key (ap length (sym (split_unique 32 key value right.key right.value lacks right.key_is.no_space (sym parts ∙ right.spelling)).0) ∙ none))) refl))
  where
    nothing : (k : List ℕ) → length k ≡ 0 → k ≡ []
    nothing [] none = refl
    nothing (b ∷ k) none = absurd (omega arith)

-- one of the four words is out of order
pub own_fault : (kind : Kind) (text line after key value : List ℕ) → IsLine line after text → Lacks 0 line → line ≡ key ++ 32 ∷ value → IsOwnWord kind key → IsFirstFault (header_grammar kind) NoHeader fault.HeaderOrder text
own_fault kind text line after key value is plain parts own =
    fault_here (header_grammar kind) NoHeader fault.HeaderOrder text (Bad line after is (Misplaced plain (λ stands. stands (record { word = key; rest = value; own = own; begins = parts })) refl))

-- a key, a value and the continuation lines after them are a further header
pub header_of_lines : (kind : Kind) (key value lines : List ℕ) (more : List (List ℕ)) → IsKey kind key → IsPlain value → IsMore lines → more ≡ more_in lines → IsHeader kind (record { key = key; value = value; more = more })
header_of_lines kind key value lines more key_is value_is lines_are same = record { key = key_is; value = value_is; more = subst (AllByRecursion IsPlain) (sym same) lines_are.each }

pub key_right : (kind : Kind) (line after text key value : List ℕ) → IsLine line after text → Lacks 0 line → line ≡ key ++ 32 ∷ value → Lacks 32 key → (IsOwnWord kind key → ⊥) → key ≢ [] → IsKey kind key × IsPlain value
key_right kind line after text key value is plain parts lacks other some =
    let no_end : Lacks 10 (key ++ 32 ∷ value) = All-same (λ x. x ≢ 10) _ _ (sym parts) is.no_end in
    let no_zero : Lacks 0 (key ++ 32 ∷ value) = All-same (λ x. x ≢ 0) _ _ (sym parts) plain in (
      record { some = some; no_space = lacks; plain = record { no_end = all_left 10 key (32 ∷ value) no_end; no_zero = all_left 0 key (32 ∷ value) no_zero }; other = other },
      record { no_end = all_right 10 (32 ∷ []) value (all_right 10 key (32 ∷ value) no_end); no_zero = all_right 0 (32 ∷ []) value (all_right 0 key (32 ∷ value) no_zero) },
    )

-- a fault in the continuation lines
pub behind_key_fault : (kind : Kind) (why : HeaderFault) (line after text key value : List ℕ) → IsLine line after text → line ≡ key ++ 32 ∷ value → IsKey kind key × IsPlain value → IsFirstFault (header_grammar kind) SomeHeader why after
    → IsFirstFault (header_grammar kind) NoHeader why text
behind_key_fault kind why line after text key value is parts right wrong =
    fault_behind (header_grammar kind) NoHeader SomeHeader why (line ∷ []) after text (record { key = key; value = value; key_is = right.0; value_is = right.1; spelling = parts }, refl) (one_line line after text is.parts) wrong

-- ---- further headers one after another

pub header_right : (kind : Kind) (p : HeaderPlace) (h : HeaderValue) → IsHeader kind h → AreRightLines (header_grammar kind) p (header_lines h) SomeHeader
header_right kind NoHeader h is = (record { key = h.key; value = h.value; key_is = is.key; value_is = is.value; spelling = refl }, continued_right kind h.more is.more)
header_right kind SomeHeader h is = (inl (record { key = h.key; value = h.value; key_is = is.key; value_is = is.value; spelling = refl }), continued_right kind h.more is.more)

abbrev pub place_behind : List HeaderValue → HeaderPlace
place_behind [] = NoHeader
place_behind (h ∷ hs) = SomeHeader

more_right : (kind : Kind) (hs : List HeaderValue) → AllByRecursion (IsHeader kind) hs → AreRightLines (header_grammar kind) SomeHeader (flat_map header_lines hs) SomeHeader
more_right kind [] are = refl
more_right kind (h ∷ hs) are = right_lines (header_grammar kind) SomeHeader SomeHeader SomeHeader (header_lines h) (flat_map header_lines hs) (header_right kind SomeHeader h are.0) (more_right kind hs are.1)

pub headers_right : (kind : Kind) (hs : List HeaderValue) → AllByRecursion (IsHeader kind) hs → AreRightLines (header_grammar kind) NoHeader (flat_map header_lines hs) (place_behind hs)
headers_right kind [] are = refl
headers_right kind (h ∷ hs) are = right_lines (header_grammar kind) NoHeader SomeHeader SomeHeader (header_lines h) (flat_map header_lines hs) (header_right kind NoHeader h are.0) (more_right kind hs are.1)

-- if no continuation line follows, a fault at the start is one after a header too
fault_as_next : (kind : Kind) (why : HeaderFault) (text : List ℕ) → ((line : List ℕ) → text ≢ 32 ∷ line) → IsFirstFault (header_grammar kind) NoHeader why text → IsFirstFault (header_grammar kind) SomeHeader why text
fault_as_next kind why text fresh wrong = from wrong.lines wrong.place wrong.rest wrong.right wrong.parts wrong.broken
  where
    here : (f : HeaderFault) → IsBroken (header_grammar kind) f NoHeader text → IsBroken (header_grammar kind) f SomeHeader text
    here f (Early ends n e) = Early ends n e
    here f (Unended some lacks e) = Unended some lacks e
    here f (Bad l a is (HoldsZero z e)) = Bad l a is (HoldsZero z e)
    here f (Bad l a is (Misplaced plain s e)) = Bad l a is (Misplaced plain s e)
    here f (Bad l a is (Malformed plain s r e)) = Bad l a is (Malformed plain s (λ right. not_right l a is r right) e)
      where
        not_right : (l a : List ℕ) → IsLine l a text → (IsHeaderLine kind l → ⊥) → IsHeaderLine kind l ⊎ IsContinuation l → ⊥
        not_right l a is r (inl right) = r right
        not_right l a is r (inr goes) = fresh (goes.value ++ 10 ∷ a) (is.parts ∙ ap (λ (x : List ℕ). x ++ 10 ∷ a) goes.spelling)

    from : (ls : List (List ℕ)) (p : HeaderPlace) (rest : List ℕ) → AreRightLines (header_grammar kind) NoHeader ls p → text ≡ flat_map ended ls ++ rest → IsBroken (header_grammar kind) why p rest → IsFirstFault (header_grammar kind) SomeHeader why text
    from [] p rest right parts broken = fault_here (header_grammar kind) SomeHeader why text (here why (subst (λ q. IsBroken (header_grammar kind) why q text) (sym right) (subst (IsBroken (header_grammar kind) why p) (sym parts) broken)))
    from (l ∷ ls) p rest right parts broken = record { lines = l ∷ ls; place = p; rest = rest; right = (inl right.0, right.1); parts = parts; broken = broken }

abbrev pub IsFresh : List HeaderValue → List ℕ → Type 0
IsFresh hs rest = hs ≢ [] → (line : List ℕ) → rest ≢ 32 ∷ line

-- a fault after further headers
pub fields_fault : (kind : Kind) (hs : List HeaderValue) (why : HeaderFault) (text rest : List ℕ) → AllByRecursion (IsHeader kind) hs → text ≡ flat_map ended (flat_map header_lines hs) ++ rest → IsFresh hs rest → IsFirstFault (header_grammar kind) NoHeader why rest
    → IsFirstFault (header_grammar kind) NoHeader why text
fields_fault kind [] why text rest are parts fresh wrong = subst (IsFirstFault (header_grammar kind) NoHeader why) (sym parts) wrong
fields_fault kind (h ∷ hs) why text rest are parts fresh wrong =
    fault_behind (header_grammar kind) NoHeader SomeHeader why (flat_map header_lines (h ∷ hs)) rest text (headers_right kind (h ∷ hs) are) parts (fault_as_next kind why rest (fresh (λ e. let no_such : ⊥ = cc in no_such)) wrong)

abbrev pub FieldsSoFar : Kind → List ℕ → List ℕ → Type 0
FieldsSoFar kind text rest = (hs : List HeaderValue) × AllByRecursion (IsHeader kind) hs × (text ≡ flat_map ended (flat_map header_lines hs) ++ rest) × IsFresh hs rest

headers_push : (hs : List HeaderValue) (h : HeaderValue) → flat_map header_lines (hs ++ h ∷ []) ≡ flat_map header_lines hs ++ header_lines h
headers_push hs h = flat_map-append header_lines hs (h ∷ []) ∙ ap (λ (t : List (List ℕ)). flat_map header_lines hs ++ t) (append-nil (header_lines h))

-- one more further header
pub fields_step : (kind : Kind) (hs : List HeaderValue) (h : HeaderValue) (text rest after : List ℕ) → AllByRecursion (IsHeader kind) hs → text ≡ flat_map ended (flat_map header_lines hs) ++ rest → IsHeader kind h → rest ≡ flat_map ended (header_lines h) ++ after
    → ((line : List ℕ) → after ≢ 32 ∷ line) → FieldsSoFar kind text after
fields_step kind hs h text rest after are parts is one fresh = (
  hs ++ h ∷ [],
  all_push (IsHeader kind) hs h are is,
  lines_push (flat_map header_lines hs) (header_lines h) text rest after parts one ∙ ap (λ (ls : List (List ℕ)). flat_map ended ls ++ after) (sym (headers_push hs h)),
  λ _. fresh,
)
