-- A state text has one version, which its first line gives.
use Rattle.std.proofs.Common.{◌≡◌, ℕ, List, [], ◌∷◌, ◌++◌, inl, inr, codes, refl, sym, ap, subst, ◌∙◌, slice_index, arith}
use Rattle.std.specs.List.{flat_map}
use Rattle.std.proofs.lemmas.List.{append-nil}
use Rattle.git_name.specs.Text.{ended}
use Rattle.state_text.specs.declared.version.Version.{Version}
use Rattle.state_text.specs.declared.version.Version.TheVariants.{One, Two}
use Rattle.state_text.specs.Fault.{IsOneLine}
use Rattle.state_text.specs.States.{States}
use Rattle.state_text.specs.Taking.{IsRightSoFar, Taken, open_lines}
use Rattle.state_text.specs.Text.{IsStateText, IsTextIn, state_text, version_line}
use Rattle.state_text.proofs.ContinuingLemmas.{all_of, has_first, text_same, version_plain}
use Rattle.state_text.proofs.LineLemmas.{text_ends}
use Rattle.state_text.proofs.PartLemmas.{split_unique}
use Rattle.state_text.proofs.TellingLemmas.{all_taken}
use Rattle.state_text.proofs.TextLemmas.{first_line}

-- a state text, with its version
pub record HasVersion (states : States) (text : List ℕ) : Type 0 where
  pub version : Version
  pub is : IsTextIn version states text

pub in_version : (states : States) (text : List ℕ) → IsStateText states text → HasVersion states text
in_version states text (inl one) = record { version = One; is = one }
in_version states text (inr two) = record { version = Two; is = two }

pub of_version : (version : Version) (states : States) (text : List ℕ) → IsTextIn version states text → IsStateText states text
of_version One states text is = inl is
of_version Two states text is = inr is

pub taken_of : (version : Version) (states : States) (text : List ℕ) → IsTextIn version states text → IsRightSoFar version (all_of states)
taken_of version states text is = all_taken version states is.right is.tells

same_line : (v w : Version) → version_line v ≡ version_line w → v ≡ w
same_line One One is = refl
same_line Two Two is = refl
same_line One Two is = absurd (let bad : 49 ≡ 50 = ap (λ l. slice_index l 15) is in omega arith)
same_line Two One is = absurd (let bad : 50 ≡ 49 = ap (λ l. slice_index l 15) is in omega arith)

-- the first line of a state text is that of its version
pub first_is : (version : Version) (states : States) (line rest : List ℕ) → IsOneLine line → state_text version states ≡ line ++ 10 ∷ rest → line ≡ version_line version
unfolding state_text
first_is version states line rest plain is =
    (split_unique 10 line rest (version_line version) _ plain (version_plain version) (sym is ∙ sym (append-nil (state_text version states)) ∙ first_line (version_line version) _ [])).0

-- a state text that begins with lines of a version has that version
pub same_version : (v w : Version) (taken : Taken) (states : States) (rest : List ℕ) → IsRightSoFar v taken → state_text w states ≡ flat_map ended (open_lines v taken) ++ rest → w ≡ v
same_version v w taken states rest right is =
    let first = has_first v taken right in
    same_line w v (sym (first_is w states (version_line v) (flat_map ended first.others ++ rest) (version_plain v) (is ∙ ap (λ ls. flat_map ended ls ++ rest) first.first ∙ first_line (version_line v) first.others rest)))

-- a text has one value
pub one_value : (states others : States) (text : List ℕ) → IsStateText states text → IsStateText others text → states ≡ others
one_value states others text is is_too =
    let one = in_version states text is in
    let two = in_version others text is_too in
    let right = taken_of one.version states text one.is in
    let all : state_text two.version others ≡ flat_map ended (open_lines one.version (all_of states)) ++ codes "end\n" = sym two.is.spelled ∙ one.is.spelled ∙ sym (text_ends one.version states) in
    let same = same_version one.version two.version (all_of states) others (codes "end\n") right all in
    let other : IsTextIn one.version others text = subst (λ v. IsTextIn v others text) same two.is in
    text_same one.version states others right (taken_of one.version others text other) (sym one.is.spelled ∙ other.spelled)
