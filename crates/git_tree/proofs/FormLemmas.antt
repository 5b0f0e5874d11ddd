-- Bytes have at most one fault of form, and what begins with a valid entry has none.
use Rattle.std.proofs.Common.{◌≡◌, ℕ, ◌<◌, List, [], ◌∷◌, ◌++◌, length, refl, sym, ap, subst, ◌∙◌, arith, length-append}
use Rattle.std.specs.List.{AllByRecursion, flat_map}
use Rattle.git_tree.specs.declared.mode.Mode.{Mode}
use Rattle.git_tree.specs.declared.fault.TreeFault.{TreeFault}
use Rattle.git_tree.specs.declared.fault.TreeFault.TheVariants as fault
use Rattle.git_tree.specs.Mode.{digits}
use Rattle.git_name.specs.Text.{Lacks}
use Rattle.git_tree.specs.Entry.{Entry, IsFileName, IsEntry, spelled}
use Rattle.git_tree.specs.Fault.{HasBadMode, HasBadName, IsCutShort, IsFormFault}
use Rattle.git_tree.specs.Fault.IsCutShort.{NoSpace, NoZero, ShortName}
use Rattle.git_tree.specs.Row.{IsRow, before_byte, behind_byte, entries_in}
use Rattle.git_tree.proofs.RowLemmas.{LacksIt, before_at, behind_at, stands, digits_lack, lacking, regrouped}

-- what follows the mode
ends_with : (e : Entry) (r bytes : List ℕ) → bytes ≡ spelled e ++ r → (m : Mode) (after : List ℕ) → bytes ≡ digits m ++ 32 ∷ after → after ≡ e.file_name ++ 0 ∷ (e.name ++ r)
ends_with e r bytes parts m after other =
    sym (behind_at 32 (digits m) after (digits_lack m)) ∙ ap (behind_byte 32) (sym other ∙ parts ∙ regrouped e r) ∙ behind_at 32 (digits e.mode) (e.file_name ++ 0 ∷ (e.name ++ r)) (digits_lack e.mode)

-- what begins with an entry has no fault of form
pub no_form_fault : (f : TreeFault) (bytes : List ℕ) (e : Entry) (r : List ℕ) → IsEntry e → bytes ≡ spelled e ++ r → IsFormFault f bytes → ⊥
no_form_fault fault.Mode bytes e r is parts wrong =
    let a : before_byte 32 bytes ≡ wrong.word = ap (before_byte 32) wrong.parts ∙ before_at 32 wrong.word wrong.after (lacking 32 wrong.word wrong.first) in
    let b : before_byte 32 bytes ≡ digits e.mode = ap (before_byte 32) (parts ∙ regrouped e r) ∙ before_at 32 (digits e.mode) (e.file_name ++ 0 ∷ (e.name ++ r)) (digits_lack e.mode) in
    wrong.bad e.mode (sym a ∙ b)
no_form_fault fault.Name bytes e r is parts wrong =
    let a = ends_with e r bytes parts wrong.mode (wrong.file_name ++ 0 ∷ wrong.after) wrong.parts in
    let b : wrong.file_name ≡ e.file_name = sym (before_at 0 wrong.file_name wrong.after (lacking 0 wrong.file_name wrong.first)) ∙ ap (before_byte 0) a ∙ before_at 0 e.file_name (e.name ++ r) (lacking 0 e.file_name is.file_name.no_zero) in
    wrong.bad (subst IsFileName (sym b) is.file_name)
no_form_fault fault.Truncated bytes e r is parts (NoSpace lacks) =
    stands 32 (digits e.mode) (e.file_name ++ 0 ∷ (e.name ++ r)) (subst (LacksIt 32) (parts ∙ regrouped e r) (lacking 32 bytes lacks))
no_form_fault fault.Truncated bytes e r is parts (NoZero wrong) =
    let a = ends_with e r bytes parts wrong.mode wrong.after wrong.parts in
    stands 0 e.file_name (e.name ++ r) (subst (LacksIt 0) a (lacking 0 wrong.after wrong.lacks))
no_form_fault fault.Truncated bytes e r is parts (ShortName wrong) =
    let a = ends_with e r bytes parts wrong.mode (wrong.file_name ++ 0 ∷ wrong.after) wrong.parts in
    let b : wrong.after ≡ e.name ++ r = sym (behind_at 0 wrong.file_name wrong.after (lacking 0 wrong.file_name wrong.file_name_is.no_zero)) ∙ ap (behind_byte 0) a ∙ behind_at 0 e.file_name (e.name ++ r) (lacking 0 e.file_name is.file_name.no_zero) in
    omega (arith, ap length b, length-append e.name r, is.name.length, wrong.short)
no_form_fault fault.Order bytes e r is parts wrong = wrong
no_form_fault fault.Repeated bytes e r is parts wrong = wrong

no_fault_in : (f : TreeFault) (bytes : List ℕ) (es : List Entry) → AllByRecursion IsEntry es → bytes ≡ flat_map spelled es → 0 < length bytes → IsFormFault f bytes → ⊥
no_fault_in f bytes [] are h some wrong = omega (arith, ap length h)
no_fault_in f bytes (e ∷ es) are h some wrong = no_form_fault f bytes e (flat_map spelled es) are.0 h wrong

pub row_no_fault : (f : TreeFault) (bytes : List ℕ) → IsRow bytes → 0 < length bytes → IsFormFault f bytes → ⊥
row_no_fault f bytes row some wrong = no_fault_in f bytes (entries_in bytes) row.each row.spelling some wrong

-- bytes that begin with a mode and a space begin with no other word and a space
mode_is_no_word : (bytes : List ℕ) (m : Mode) (after : List ℕ) → bytes ≡ digits m ++ 32 ∷ after → HasBadMode bytes → ⊥
mode_is_no_word bytes m after parts wrong =
    wrong.bad m (sym (before_at 32 wrong.word wrong.after (lacking 32 wrong.word wrong.first)) ∙ ap (before_byte 32) (sym wrong.parts ∙ parts) ∙ before_at 32 (digits m) after (digits_lack m))

space_stands : (bytes word after : List ℕ) → bytes ≡ word ++ 32 ∷ after → Lacks 32 bytes → ⊥
space_stands bytes word after parts lacks = stands 32 word after (subst (LacksIt 32) parts (lacking 32 bytes lacks))

-- what follows the mode is unique
behind_mode : (bytes : List ℕ) (m n : Mode) (after other : List ℕ) → bytes ≡ digits m ++ 32 ∷ after → bytes ≡ digits n ++ 32 ∷ other → after ≡ other
behind_mode bytes m n after other p q = sym (behind_at 32 (digits m) after (digits_lack m)) ∙ ap (behind_byte 32) (sym p ∙ q) ∙ behind_at 32 (digits n) other (digits_lack n)

-- what precedes the first zero is unique
before_zero : (a b after other : List ℕ) → Lacks 0 a → Lacks 0 b → a ++ 0 ∷ after ≡ b ++ 0 ∷ other → a ≡ b
before_zero a b after other p q same = sym (before_at 0 a after (lacking 0 a p)) ∙ ap (before_byte 0) same ∙ before_at 0 b other (lacking 0 b q)

cut_or_mode : (bytes : List ℕ) → IsCutShort bytes → HasBadMode bytes → ⊥
cut_or_mode bytes (NoSpace lacks) wrong = space_stands bytes wrong.word wrong.after wrong.parts lacks
cut_or_mode bytes (NoZero cut) wrong = mode_is_no_word bytes cut.mode cut.after cut.parts wrong
cut_or_mode bytes (ShortName cut) wrong = mode_is_no_word bytes cut.mode (cut.file_name ++ 0 ∷ cut.after) cut.parts wrong

name_or_mode : (bytes : List ℕ) → HasBadName bytes → HasBadMode bytes → ⊥
name_or_mode bytes bad wrong = mode_is_no_word bytes bad.mode (bad.file_name ++ 0 ∷ bad.after) bad.parts wrong

cut_or_name : (bytes : List ℕ) → IsCutShort bytes → HasBadName bytes → ⊥
cut_or_name bytes (NoSpace lacks) wrong = space_stands bytes (digits wrong.mode) (wrong.file_name ++ 0 ∷ wrong.after) wrong.parts lacks
cut_or_name bytes (NoZero cut) wrong =
    let same = behind_mode bytes cut.mode wrong.mode cut.after (wrong.file_name ++ 0 ∷ wrong.after) cut.parts wrong.parts in
    stands 0 wrong.file_name wrong.after (subst (LacksIt 0) same (lacking 0 cut.after cut.lacks))
cut_or_name bytes (ShortName cut) wrong =
    let same = behind_mode bytes cut.mode wrong.mode (cut.file_name ++ 0 ∷ cut.after) (wrong.file_name ++ 0 ∷ wrong.after) cut.parts wrong.parts in
    wrong.bad (subst IsFileName (before_zero cut.file_name wrong.file_name cut.after wrong.after cut.file_name_is.no_zero wrong.first same) cut.file_name_is)

-- bytes have at most one fault of form
pub one_form_fault : (f g : TreeFault) (bytes : List ℕ) → IsFormFault f bytes → IsFormFault g bytes → f ≡ g
one_form_fault fault.Mode fault.Mode bytes a b = refl
one_form_fault fault.Mode fault.Name bytes a b = absurd (name_or_mode bytes b a)
one_form_fault fault.Mode fault.Truncated bytes a b = absurd (cut_or_mode bytes b a)
one_form_fault fault.Mode fault.Repeated bytes a b = absurd b
one_form_fault fault.Mode fault.Order bytes a b = absurd b
one_form_fault fault.Name fault.Mode bytes a b = absurd (name_or_mode bytes a b)
one_form_fault fault.Name fault.Name bytes a b = refl
one_form_fault fault.Name fault.Truncated bytes a b = absurd (cut_or_name bytes b a)
one_form_fault fault.Name fault.Repeated bytes a b = absurd b
one_form_fault fault.Name fault.Order bytes a b = absurd b
one_form_fault fault.Truncated fault.Mode bytes a b = absurd (cut_or_mode bytes a b)
one_form_fault fault.Truncated fault.Name bytes a b = absurd (cut_or_name bytes a b)
one_form_fault fault.Truncated fault.Truncated bytes a b = refl
one_form_fault fault.Truncated fault.Repeated bytes a b = absurd b
one_form_fault fault.Truncated fault.Order bytes a b = absurd b
one_form_fault fault.Repeated g bytes a b = absurd a
one_form_fault fault.Order g bytes a b = absurd a
