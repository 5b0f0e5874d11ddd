-- Further headers are borrowed one after another.
use Rattle.std.proofs.Common.{zero, suc, ◌+◌, get_or, inr, drop, ◌≡◌, ◌≢◌, ℕ, ◌<◌, All, List, [], ◌∷◌, ◌++◌, map, length, refl, sym, ap, subst, ◌∙◌, arith, append_assoc, Some, None}
use Rattle.std.specs.List.{AllByRecursion, AllWithin, flat_map}
use Rattle.std.proofs.lemmas.List.Concat.{flat_map-append}
use Rattle.std.proofs.lemmas.List.{append-nil}
use Rattle.std.proofs.lemmas.List.Elements.{AllWithin-more, All-head, All-from_recursion, recursion_from_All}
use Rattle.std.specs.Borrow.{Bor}
use Rattle.git_name.specs.declared.kind.Kind.{Kind}
use Rattle.git_name.specs.declared.kind.Kind.TheVariants.{Commit}
use Rattle.git_header.specs.declared.fault.HeaderFault.{HeaderFault}
use Rattle.git_name.specs.Text.{Lacks, ended}
use Rattle.git_header.specs.Line.{IsEnding, IsLine, IsNoLine}
use Rattle.git_header.specs.Header.{HeaderValue, IsHeader, IsPlain, NoHeader, SomeHeader, header_grammar, header_lines, continuing}
use Rattle.git_header.specs.Judging.{IsFirstFault}
use Rattle.git_header.specs.Row.{AreHeaders, headers_in, IsMore, more_in}
use Rattle.git_header.proofs.Splits.{split_unique, heads, tails}
use Rattle.git_header.proofs.RowLemmas.{headers_of, more_of_values}
use Rattle.git_header.proofs.JudgingLemmas.{IsSound, lines_then, no_line_ends, no_fault, right_not_broken, itself, no_line_broken}
use Rattle.git_header.proofs.FieldLemmas.{usual, space_goes_on, headers_right, place_behind}
use Rattle.git_header.proofs.FurtherLemmas.{further_no_zero, further_no_end, further_some, further_stands, line_no_end}

sound_headers : (kind : Kind) → IsSound (header_grammar kind)
sound_headers kind = record { no_zero = further_no_zero kind; no_end = further_no_end kind; some = further_some kind; stands = further_stands kind }

abbrev made : List ℕ → List ℕ → List (List ℕ) → HeaderValue
made key value more = record { key = key; value = value; more = more }

abbrev Fresh : List ℕ → Type 0
Fresh text = (line : List ℕ) → text ≢ 32 ∷ line

-- continuation lines end where no further one begins
more_agree : (vs ws : List (List ℕ)) (a b : List ℕ) → AllByRecursion IsPlain vs → AllByRecursion IsPlain ws → Fresh a → Fresh b → flat_map ended (map continuing vs) ++ a ≡ flat_map ended (map continuing ws) ++ b → (vs ≡ ws) × (a ≡ b)
more_agree [] [] a b p q fresh_a fresh_b same = (refl, same)
more_agree [] (w ∷ ws) a b p q fresh_a fresh_b same = absurd (fresh_a _ (same ∙ lines_then (continuing w) (map continuing ws) b))
more_agree (v ∷ vs) [] a b p q fresh_a fresh_b same = absurd (fresh_b _ (sym same ∙ lines_then (continuing v) (map continuing vs) a))
more_agree (v ∷ vs) (w ∷ ws) a b p q fresh_a fresh_b same =
    let one = split_unique 10 v (flat_map ended (map continuing vs) ++ a) w (flat_map ended (map continuing ws) ++ b) p.0.no_end q.0.no_end
    (tails 32 32 _ _ (sym (lines_then (continuing v) (map continuing vs) a) ∙ same ∙ lines_then (continuing w) (map continuing ws) b)) in
    let later = more_agree vs ws a b p.1 q.1 fresh_a fresh_b one.1 in
    (ap (λ (h : List ℕ). h ∷ vs) one.0 ∙ ap (λ (t : List (List ℕ)). w ∷ t) later.0, later.1)

key_line_end : (kind : Kind) (h : HeaderValue) → IsHeader kind h → Lacks 10 (h.key ++ 32 ∷ h.value)
key_line_end kind h is = line_no_end kind (h.key ++ 32 ∷ h.value) (record { key = h.key; value = h.value; key_is = is.key; value_is = is.value; spelling = refl })

-- a row of further headers begins with no space
fresh_row : (kind : Kind) (hs : List HeaderValue) → AllByRecursion (IsHeader kind) hs → Fresh (flat_map ended (flat_map header_lines hs))
fresh_row kind [] are line e = let no_such : ⊥ = cc in no_such
fresh_row kind (h ∷ hs) are line e = from h.key _ are.0.key.some are.0.key.no_space (sym (lines_first h hs) ∙ e)
  where
    lines_first : (h : HeaderValue) (hs : List HeaderValue) → flat_map ended (flat_map header_lines (h ∷ hs)) ≡ (h.key ++ 32 ∷ h.value) ++ 10 ∷ flat_map ended (map continuing h.more ++ flat_map header_lines hs)
    lines_first h hs = append_assoc (h.key ++ 32 ∷ h.value) (10 ∷ []) (flat_map ended (map continuing h.more ++ flat_map header_lines hs))

    from : (key rest : List ℕ) → key ≢ [] → Lacks 32 key → (key ++ 32 ∷ h.value) ++ 10 ∷ rest ≡ 32 ∷ line → ⊥
    from [] rest some lacks same = some refl
    from (b ∷ key) rest some lacks same = All-head (λ x. x ≢ 32) b key lacks (heads b 32 _ _ same)

same_header : (kind : Kind) (h k : HeaderValue) (a b : List ℕ) → IsHeader kind h → IsHeader kind k → Fresh a → Fresh b → flat_map ended (header_lines h) ++ a ≡ flat_map ended (header_lines k) ++ b → (h ≡ k) × (a ≡ b)
same_header kind h k a b is is_k fresh_a fresh_b same =
    let first = split_unique 10 (h.key ++ 32 ∷ h.value) (flat_map ended (map continuing h.more) ++ a) (k.key ++ 32 ∷ k.value) (flat_map ended (map continuing k.more) ++ b) (key_line_end kind h is) (key_line_end kind k is_k)
    (sym (lines_then (h.key ++ 32 ∷ h.value) (map continuing h.more) a) ∙ same ∙ lines_then (k.key ++ 32 ∷ k.value) (map continuing k.more) b) in
    let sides = split_unique 32 h.key h.value k.key k.value is.key.no_space is_k.key.no_space first.0 in
    let more = more_agree h.more k.more a b is.more is_k.more fresh_a fresh_b first.1 in
    (ap (λ x. made x h.value h.more) sides.0 ∙ ap (λ x. made k.key x h.more) sides.1 ∙ ap (λ x. made k.key k.value x) more.0, more.1)

first_header : (kind : Kind) (hs : List HeaderValue) (h : HeaderValue) (bytes after : List ℕ) → AllByRecursion (IsHeader kind) hs → IsHeader kind h → bytes ≡ flat_map ended (flat_map header_lines hs) → bytes ≡ flat_map ended (header_lines h) ++ after → Fresh after
    → (others : List HeaderValue) × (hs ≡ h ∷ others) × (after ≡ flat_map ended (flat_map header_lines others)) × AllByRecursion (IsHeader kind) others
first_header kind [] h bytes after are is spelled begins fresh = absurd (none (h.key ++ 32 ∷ h.value) _ (sym (sym spelled ∙ begins ∙ lines_then (h.key ++ 32 ∷ h.value) (map continuing h.more) after)))
  where
    none : (l rest : List ℕ) → l ++ 10 ∷ rest ≡ [] → ⊥
    none [] rest e = let no_such : ⊥ = cc in no_such
    none (b ∷ l) rest e = let no_such : ⊥ = cc in no_such
first_header kind (k ∷ hs) h bytes after are is spelled begins fresh =
    let whole : bytes ≡ flat_map ended (header_lines k) ++ flat_map ended (flat_map header_lines hs) = spelled ∙ flat_map-append ended (header_lines k) (flat_map header_lines hs) in
    let same = same_header kind k h (flat_map ended (flat_map header_lines hs)) after are.0 is (fresh_row kind hs are.1) fresh (sym whole ∙ begins) in
    (hs, ap (λ (x : HeaderValue). x ∷ hs) same.0, sym same.1, are.1)

-- what follows the first further header
pub headers_step : (kind : Kind) (h : HeaderValue) (bytes after : List ℕ) → AreHeaders kind bytes → IsHeader kind h → bytes ≡ flat_map ended (header_lines h) ++ after → Fresh after → (headers_in bytes ≡ h ∷ headers_in after) × AreHeaders kind after
headers_step kind h bytes after row is begins fresh =
    let cut = first_header kind (headers_in bytes) h bytes after row.each is row.spelling begins fresh in
    let rest = headers_of kind cut.0 after cut.3 cut.2 in
    (cut.1 ∙ ap (λ (t : List HeaderValue). h ∷ t) (sym rest.0), rest.1)

pub headers_no_fault : (kind : Kind) (why : HeaderFault) (bytes : List ℕ) → AreHeaders kind bytes → IsFirstFault (header_grammar kind) NoHeader why bytes → ⊥
headers_no_fault kind why bytes row wrong =
    no_fault (header_grammar kind) (sound_headers kind) NoHeader (place_behind (headers_in bytes)) why (flat_map header_lines (headers_in bytes)) [] bytes (headers_right kind (headers_in bytes) row.each) tt (None, refl)
    (row.spelling ∙ sym (append-nil (flat_map ended (flat_map header_lines (headers_in bytes))))) wrong

headers_go_on : (kind : Kind) (hs : List HeaderValue) (bytes : List ℕ) → AllByRecursion (IsHeader kind) hs → bytes ≡ flat_map ended (flat_map header_lines hs) → 0 < length bytes → IsEnding bytes → ⊥
headers_go_on kind [] bytes are spelled some ends = let len : length bytes ≡ 0 = ap length spelled in absurd (omega arith)
headers_go_on kind (h ∷ hs) bytes are spelled some ends =
    no_line_ends (h.key ++ 32 ∷ h.value) (flat_map ended (map continuing h.more ++ flat_map header_lines hs)) bytes
    (record {
      parts = spelled ∙ append_assoc (h.key ++ 32 ∷ h.value) (10 ∷ []) (flat_map ended (map continuing h.more ++ flat_map header_lines hs));
      no_end = key_line_end kind h are.0;
      some = further_some kind NoHeader (h.key ++ 32 ∷ h.value) (record { key = h.key; value = h.value; key_is = are.0.key; value_is = are.0.value; spelling = refl });
    }) ends

pub row_goes_on : (kind : Kind) (bytes : List ℕ) → AreHeaders kind bytes → 0 < length bytes → IsEnding bytes → ⊥
row_goes_on kind bytes row some ends = headers_go_on kind (headers_in bytes) bytes row.each row.spelling some ends

pub no_headers : (kind : Kind) (bytes : List ℕ) → length bytes ≡ 0 → headers_in bytes ≡ []
no_headers kind [] none = (headers_of kind [] [] tt refl).0
no_headers kind (b ∷ bytes) none = absurd (omega arith)

-- ---- continuation lines

more_first : (vs : List (List ℕ)) (text line after : List ℕ) → AllByRecursion IsPlain vs → text ≡ flat_map ended (map continuing vs) → IsLine line after text
    → (others : List (List ℕ)) × (vs ≡ drop 1 line ∷ others) × (after ≡ flat_map ended (map continuing others)) × AllByRecursion IsPlain others
more_first [] text line after plain spelled is = absurd (none line after (sym is.parts ∙ spelled))
  where
    none : (l rest : List ℕ) → l ++ 10 ∷ rest ≡ [] → ⊥
    none [] rest e = let no_such : ⊥ = cc in no_such
    none (b ∷ l) rest e = let no_such : ⊥ = cc in no_such
more_first (v ∷ vs) text line after plain spelled is =
    let whole : text ≡ continuing v ++ 10 ∷ flat_map ended (map continuing vs) = spelled ∙ append_assoc (continuing v) (10 ∷ []) (flat_map ended (map continuing vs)) in
    let parts = split_unique 10 line after (continuing v) (flat_map ended (map continuing vs)) is.no_end (further_no_end Commit SomeHeader (continuing v) (inr (record { value = v; value_is = plain.0; spelling = refl }))) (sym is.parts ∙ whole) in
    (vs, ap (λ (l : List ℕ). drop 1 l ∷ vs) (sym parts.0), parts.1, plain.1)

-- what follows the first continuation line
pub first_more : (text line after : List ℕ) → IsMore text → IsLine line after text → (more_in text ≡ drop 1 line ∷ more_in after) × IsMore after
first_more text line after row is =
    let cut = more_first (more_in text) text line after row.each row.spelling is in
    let rest = more_of_values cut.0 after cut.3 cut.2 in
    (cut.1 ∙ ap (λ (t : List (List ℕ)). drop 1 line ∷ t) (sym rest.0), rest.1)

more_is_line : (vs : List (List ℕ)) (why : HeaderFault) (text : List ℕ) → AllByRecursion IsPlain vs → text ≡ flat_map ended (map continuing vs) → 0 < length text → IsNoLine why text → ⊥
more_is_line [] why text plain spelled some wrong = let len : length text ≡ 0 = ap length spelled in absurd (omega arith)
more_is_line (v ∷ vs) why text plain spelled some wrong =
    let rest = flat_map ended (map continuing vs) in
    let whole : text ≡ continuing v ++ 10 ∷ rest = spelled ∙ append_assoc (continuing v) (10 ∷ []) rest in
    right_not_broken (header_grammar Commit) (sound_headers Commit) why SomeHeader (continuing v) rest text (inr (record { value = v; value_is = plain.0; spelling = refl })) whole
    (no_line_broken itself (header_grammar Commit) (usual Commit) why SomeHeader text wrong (λ ends _. space_goes_on text (v ++ 10 ∷ rest) whole ends))

pub more_no_fault : (why : HeaderFault) (text : List ℕ) → IsMore text → 0 < length text → IsNoLine why text → ⊥
more_no_fault why text row some wrong = more_is_line (more_in text) why text row.each row.spelling some wrong

pub no_more : (text : List ℕ) → length text ≡ 0 → more_in text ≡ []
no_more [] none = (more_of_values [] [] tt refl).0
no_more (b ∷ text) none = absurd (omega arith)

pub more_from_text : (t : List ℕ) → IsMore t → (text : List ℕ) → Some t ≡ Some text → IsMore text
more_from_text t is text same = let e : t ≡ text = cc in subst IsMore e is

-- all values are plain, one by one
pub plain_values : (vs : List (Bor (List ℕ))) → All (λ v. IsPlain v.now) vs → AllByRecursion IsPlain (map (λ v. v.now) vs)
plain_values vs all = from vs (recursion_from_All (λ v. IsPlain v.now) vs all)
  where
    from : (vs : List (Bor (List ℕ))) → AllByRecursion (λ v. IsPlain v.now) vs → AllByRecursion IsPlain (map (λ v. v.now) vs)
    from [] all = tt
    from (v ∷ vs) all = (all.0, from vs all.1)

pub values_plain : (vs : List (Bor (List ℕ))) → AllByRecursion IsPlain (map (λ v. v.now) vs) → All (λ v. IsPlain v.now) vs
values_plain vs all = All-from_recursion (λ v. IsPlain v.now) vs (from vs all)
  where
    from : (vs : List (Bor (List ℕ))) → AllByRecursion IsPlain (map (λ v. v.now) vs) → AllByRecursion (λ v. IsPlain v.now) vs
    from [] all = tt
    from (v ∷ vs) all = (all.0, from vs all.1)

-- the default does not matter for an index inside the list
any_default : {X : Type 0} (xs : List X) (i : ℕ) (d e : X) → i < length xs → get_or xs i d ≡ get_or xs i e
any_default [] i d e within = absurd (omega arith)
any_default (x ∷ xs) zero d e within = refl
any_default (x ∷ xs) (suc i) d e within = any_default xs i d e (omega arith)

abbrev IsPlainAt : Bor (List ℕ) → Type 0
IsPlainAt v = IsPlain v.now

pub not_all_plain : (vs : List (Bor (List ℕ))) (i : ℕ) (z : Bor (List ℕ)) → i < length vs → (IsPlain (get_or vs i z).now → ⊥) → All (λ v. IsPlain v.now) vs → ⊥
not_all_plain vs i z within bad all = bad (all i z within)

pub plain_so_far : (vs : List (Bor (List ℕ))) (i : ℕ) (z : Bor (List ℕ)) → i < length vs → AllWithin (λ v. IsPlain v.now) vs 0 i → IsPlain (get_or vs i z).now → AllWithin (λ v. IsPlain v.now) vs 0 (i + 1)
plain_so_far vs i z within so_far here = AllWithin-more (λ v. IsPlain v.now) vs 0 i so_far (λ d. subst IsPlainAt (any_default vs i z d within) here)
