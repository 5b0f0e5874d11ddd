-- Rows of entries are read back as they were spelled.
use Rattle.std.proofs.Common.{◌≡◌, ◌≢◌, ℕ, zero, suc, ◌<◌, ◌≤◌, cond, eqb, List, [], ◌∷◌, ◌++◌, length, refl, sym, ap, subst, ◌∙◌, arith, append_assoc, length-append, rules, take, drop}
use Rattle.std.specs.List.{AllByRecursion, flat_map}
use Rattle.std.proofs.lemmas.Bool.Decides.{nat_tests}
use Rattle.std.proofs.lemmas.List.{take_at, drop_at, nil_from_length, append-nil}
use Rattle.std.proofs.lemmas.List.Elements.{recursion_from_All}
use Rattle.git_tree.specs.declared.mode.Mode.{Mode}
use Rattle.git_tree.specs.declared.mode.Mode.TheVariants.{Tree, File, Executable, Link, Gitlink}
use Rattle.git_tree.specs.Mode.{digits}
use Rattle.git_name.specs.Text.{Lacks}
use Rattle.git_tree.specs.Entry.{Entry, IsEntry, spelled}
use Rattle.git_tree.specs.Row.{IsRow, before_byte, behind_byte, mode_of, first_entry, after_first, first_entries, entries_in}
use Rattle.git_tree.proofs.ListLemmas.{all_push}

abbrev pub LacksIt : ℕ → List ℕ → Type 0
LacksIt c xs = AllByRecursion (λ b. b ≢ c) xs

tested_false : {A : Type 0} (b c : ℕ) (x y : A) → b ≢ c → cond (eqb b c) x y ≡ y
tested_false b c x y h = grind (arith, nat_tests)

tested_true : {A : Type 0} (c : ℕ) (x y : A) → cond (eqb c c) x y ≡ x
tested_true c x y = grind (arith, nat_tests)

pub before_at : (c : ℕ) (xs ys : List ℕ) → LacksIt c xs → before_byte c (xs ++ c ∷ ys) ≡ xs
before_at c [] ys lacks = tested_true c [] (c ∷ before_byte c ys)
before_at c (x ∷ xs) ys lacks = tested_false x c [] (x ∷ before_byte c (xs ++ c ∷ ys)) lacks.0 ∙ ap (λ (r : List ℕ). x ∷ r) (before_at c xs ys lacks.1)

pub behind_at : (c : ℕ) (xs ys : List ℕ) → LacksIt c xs → behind_byte c (xs ++ c ∷ ys) ≡ ys
behind_at c [] ys lacks = tested_true c ys (behind_byte c ys)
behind_at c (x ∷ xs) ys lacks = tested_false x c (xs ++ c ∷ ys) (behind_byte c (xs ++ c ∷ ys)) lacks.0 ∙ behind_at c xs ys lacks.1

pub stands : (c : ℕ) (xs ys : List ℕ) → LacksIt c (xs ++ c ∷ ys) → ⊥
stands c [] ys lacks = lacks.0 refl
stands c (x ∷ xs) ys lacks = stands c xs ys lacks.1

pub digits_lack : (m : Mode) → LacksIt 32 (digits m)
digits_lack Tree = search (rules, arith)
digits_lack File = search (rules, arith)
digits_lack Executable = search (rules, arith)
digits_lack Link = search (rules, arith)
digits_lack Gitlink = search (rules, arith)

mode_is : (m : Mode) → mode_of (digits m) ≡ m
mode_is Tree = refl
mode_is File = refl
mode_is Executable = refl
mode_is Link = refl
mode_is Gitlink = refl

pub lacking : (c : ℕ) (xs : List ℕ) → Lacks c xs → LacksIt c xs
lacking c xs h = recursion_from_All (λ b. b ≢ c) xs h

pub regrouped : (e : Entry) (r : List ℕ) → spelled e ++ r ≡ digits e.mode ++ 32 ∷ (e.file_name ++ 0 ∷ (e.name ++ r))
regrouped e r = append_assoc (digits e.mode) (32 ∷ (e.file_name ++ 0 ∷ e.name)) r ∙ ap (λ (x : List ℕ). digits e.mode ++ 32 ∷ x) (append_assoc e.file_name (0 ∷ e.name) r)

abbrev made : Mode → List ℕ → List ℕ → Entry
made m f n = record { mode = m; file_name = f; name = n }

same_entry : {m m' : Mode} {f f' n n' : List ℕ} → m ≡ m' → f ≡ f' → n ≡ n' → made m f n ≡ made m' f' n'
same_entry {m'} {f} {f'} {n} p q r = ap (λ x. made x f n) p ∙ ap (λ x. made m' x n) q ∙ ap (λ x. made m' f' x) r

-- an entry that was spelled is read first, and what was put after it follows
pub first_is : (e : Entry) (r : List ℕ) → IsEntry e → (first_entry (spelled e ++ r) ≡ e) × (after_first (spelled e ++ r) ≡ r)
first_is e r is =
    let head : before_byte 32 (spelled e ++ r) ≡ digits e.mode = ap (before_byte 32) (regrouped e r) ∙ before_at 32 (digits e.mode) (e.file_name ++ 0 ∷ (e.name ++ r)) (digits_lack e.mode) in
    let tail : behind_byte 32 (spelled e ++ r) ≡ e.file_name ++ 0 ∷ (e.name ++ r) = ap (behind_byte 32) (regrouped e r) ∙ behind_at 32 (digits e.mode) (e.file_name ++ 0 ∷ (e.name ++ r)) (digits_lack e.mode) in
    let lacks = lacking 0 e.file_name is.file_name.no_zero in
    let file : before_byte 0 (behind_byte 32 (spelled e ++ r)) ≡ e.file_name = ap (before_byte 0) tail ∙ before_at 0 e.file_name (e.name ++ r) lacks in
    let last : behind_byte 0 (behind_byte 32 (spelled e ++ r)) ≡ e.name ++ r = ap (behind_byte 0) tail ∙ behind_at 0 e.file_name (e.name ++ r) lacks in
    let m : mode_of (before_byte 32 (spelled e ++ r)) ≡ e.mode = ap mode_of head ∙ mode_is e.mode in
    let n : take 32 (behind_byte 0 (behind_byte 32 (spelled e ++ r))) ≡ e.name = ap (take 32) last ∙ take_at e.name r 32 is.name.length in
    (same_entry m file n, ap (drop 32) last ∙ drop_at e.name r 32 is.name.length)

first_more : (n : ℕ) (bs : List ℕ) → 0 < length bs → first_entries (suc n) bs ≡ first_entry bs ∷ first_entries n (after_first bs)
unfolding first_entries
first_more n [] some = absurd (omega arith)
first_more n (b ∷ bs) some = refl

none_first : (n : ℕ) → first_entries n [] ≡ []
unfolding first_entries
none_first zero = refl
none_first (suc n) = refl

spelled_some : (e : Entry) (r : List ℕ) → 0 < length (spelled e ++ r)
spelled_some e r = omega (arith, length-append (digits e.mode) (32 ∷ (e.file_name ++ 0 ∷ e.name)), length-append (spelled e) r)

pub row_is : (n : ℕ) (es : List Entry) → AllByRecursion IsEntry es → length es ≤ n → first_entries n (flat_map spelled es) ≡ es
row_is n [] are le = none_first n
row_is zero (e ∷ es) are le = absurd (omega arith)
row_is (suc n) (e ∷ es) are le =
    let first = first_is e (flat_map spelled es) are.0 in
    let more : first_entries n (after_first (spelled e ++ flat_map spelled es)) ≡ es = ap (first_entries n) first.1 ∙ row_is n es are.1 (omega arith) in
    first_more n (spelled e ++ flat_map spelled es) (spelled_some e (flat_map spelled es)) ∙ cc (first.0, more)

row_length : (es : List Entry) → length es ≤ length (flat_map spelled es)
row_length [] = omega arith
row_length (e ∷ es) = omega (arith, row_length es, length-append (digits e.mode) (32 ∷ (e.file_name ++ 0 ∷ e.name)), length-append (spelled e) (flat_map spelled es))

-- the entries in a row are those that were spelled
pub entries_are : (es : List Entry) → AllByRecursion IsEntry es → entries_in (flat_map spelled es) ≡ es
unfolding entries_in
entries_are es are = row_is (length (flat_map spelled es)) es are (row_length es)

pub no_entry : (e : Entry) (r : List ℕ) → spelled e ++ r ≡ [] → ⊥
no_entry e r h = omega (arith, spelled_some e r, ap length h)

-- a row that begins with an entry has it first, and the others after it
pub row_cut : (e : Entry) (r : List ℕ) (es : List Entry) → IsEntry e → AllByRecursion IsEntry es → spelled e ++ r ≡ flat_map spelled es → (others : List Entry) × (es ≡ e ∷ others) × (r ≡ flat_map spelled others) × AllByRecursion IsEntry others
row_cut e r [] is are h = absurd (no_entry e r h)
row_cut e r (f ∷ fs) is are h =
    let a = first_is e r is in
    let b = first_is f (flat_map spelled fs) are.0 in
    let same : f ≡ e = sym b.0 ∙ ap first_entry (sym h) ∙ a.0 in
    let rest : r ≡ flat_map spelled fs = sym a.1 ∙ ap after_first h ∙ b.1 in
    (fs, ap (λ (x : Entry). x ∷ fs) same, rest, are.1)

-- valid entries, when spelled, make a row
pub row_of : (es : List Entry) → AllByRecursion IsEntry es → IsRow (flat_map spelled es)
row_of es are = record { each = subst (AllByRecursion IsEntry) (sym (entries_are es are)) are; spelling = ap (flat_map spelled) (sym (entries_are es are)) }

pub row_is_of : (bytes : List ℕ) (es : List Entry) → AllByRecursion IsEntry es → bytes ≡ flat_map spelled es → (entries_in bytes ≡ es) × IsRow bytes
row_is_of bytes es are h = (ap entries_in h ∙ entries_are es are, subst IsRow (sym h) (row_of es are))

-- what follows the first entry of a row is a row
pub row_step : (bytes : List ℕ) (e : Entry) (r : List ℕ) → IsEntry e → bytes ≡ spelled e ++ r → IsRow bytes → (entries_in bytes ≡ e ∷ entries_in r) × IsRow r
row_step bytes e r is parts row =
    let cut = row_cut e r (entries_in bytes) is row.each (sym parts ∙ row.spelling) in
    let rest = row_is_of r cut.0 cut.3 cut.2 in
    (cut.1 ∙ ap (λ (x : List Entry). e ∷ x) (sym rest.0), rest.1)

pub row_none : (bytes : List ℕ) → length bytes ≡ 0 → entries_in bytes ≡ []
row_none bytes h = ap entries_in (nil_from_length bytes h) ∙ entries_are [] tt

pub flat_push : (es : List Entry) (e : Entry) → flat_map spelled (es ++ e ∷ []) ≡ flat_map spelled es ++ spelled e
flat_push [] e = append-nil (spelled e)
flat_push (f ∷ fs) e = ap (λ (x : List ℕ). spelled f ++ x) (flat_push fs e) ∙ sym (append_assoc (spelled f) (flat_map spelled fs) (spelled e))

-- a row with one more entry
pub row_push : (bytes : List ℕ) (e : Entry) → IsEntry e → IsRow bytes → (entries_in (bytes ++ spelled e) ≡ entries_in bytes ++ e ∷ []) × IsRow (bytes ++ spelled e)
row_push bytes e is row =
    row_is_of (bytes ++ spelled e) (entries_in bytes ++ e ∷ []) (all_push IsEntry (entries_in bytes) e row.each is) (ap (λ (x : List ℕ). x ++ spelled e) row.spelling ∙ sym (flat_push (entries_in bytes) e))
