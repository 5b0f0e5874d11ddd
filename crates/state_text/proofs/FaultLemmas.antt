-- The first wrong line of a text: where it is, that there is at most one, and none in a state text.
use Rattle.std.proofs.Common.{◌≡◌, ◌≢◌, ℕ, ◌+◌, ◌<◌, Bool, true, false, eqb, List, [], ◌∷◌, ◌++◌, ◌⊎◌, inl, inr, ⊎_elim, codes, refl, sym, ap, subst, ◌∙◌, length, length-append, append_assoc, arith}
use Rattle.std.specs.Prelude.{Result, Ok, Err, IfOk, IfErr}
use Rattle.std.specs.List.{AllByRecursion, flat_map}
use Rattle.std.proofs.lemmas.Bool.Decides.{nat_tests}
use Rattle.std.proofs.lemmas.List.{append-nil}
use Rattle.std.proofs.lemmas.List.Concat.{flat_map-append}
use Rattle.std.proofs.lemmas.List.Elements.{All-cons, All-nil}
use Rattle.git_name.specs.Text.{ended}
use Rattle.state_text.specs.declared.fault.StateFault.{StateFault}
use Rattle.state_text.specs.declared.fault.StateFault.TheVariants.{Line, Memory}
use Rattle.state_text.specs.declared.version.Version.{Version}
use Rattle.state_text.specs.declared.version.Version.TheVariants.{Two}
use Rattle.state_text.specs.Fault.{BeginsStateText, IsCut, IsOneLine, HasWrongNext, IsWrongLine, NoneInStateText, OneWrongLine, TellsLine}
use Rattle.state_text.specs.States.{States}
use Rattle.state_text.specs.Taking.{Adds, IsReadSoFar, IsRightSoFar, Taken, open_lines, told_lines}
use Rattle.state_text.specs.Text.{IsStateText, IsTextIn, state_text, version_line}
use Rattle.state_text.proofs.BehindLemmas.{each_behind, length_behind}
use Rattle.state_text.proofs.ContinuingLemmas.{all_of, continues, end_plain, ended_text, has_first, not_whole, plain_lines}
use Rattle.state_text.proofs.LineLemmas.{text_ends}
use Rattle.state_text.proofs.StateLemmas.{no_states}
use Rattle.state_text.proofs.TextLemmas.{Stops, Refused, Cut, one_stop, same_lines}
use Rattle.state_text.proofs.VersionLemmas.{first_is, in_version, of_version, one_value, same_version, taken_of}

begins_less : (a b : List ℕ) → BeginsStateText (a ++ b) → BeginsStateText a
begins_less a b begins = record { states = begins.states; whole = begins.whole; rest = b ++ begins.rest; right = begins.right; parts = begins.parts ∙ append_assoc a b begins.rest }

-- a line moves from the rest to the front
one_more : (front line more : List ℕ) → (front ++ ended line) ++ more ≡ front ++ (line ++ 10 ∷ more)
one_more front line more = append_assoc front (ended line) more ∙ ap (λ t. front ++ t) (append_assoc line (10 ∷ []) more)

-- bytes without LF, or a line and more
pub data Parts (text : List ℕ) : Type 0 where
  Plain : IsOneLine text → Parts text
  Lined : (line more : List ℕ) → IsOneLine line → text ≡ line ++ 10 ∷ more → Parts text

parts_more : (b : ℕ) (text : List ℕ) (is_lf : Bool) → eqb b 10 ≡ is_lf → Parts text → Parts (b ∷ text)
parts_more b text true is parts = (let same : b ≡ 10 = grind (arith, nat_tests) in Lined [] text (All-nil (λ x. x ≢ 10)) (ap (λ x. x ∷ text) same))
parts_more b text false is (Plain plain) = (let apart : b ≢ 10 = grind (arith, nat_tests) in Plain (All-cons (λ x. x ≢ 10) b text apart plain))
parts_more b text false is (Lined line more plain parts) = (let apart : b ≢ 10 = grind (arith, nat_tests) in Lined (b ∷ line) more (All-cons (λ x. x ≢ 10) b line apart plain) (ap (λ t. b ∷ t) parts))

pub parts_of : (text : List ℕ) → Parts text
parts_of [] = Plain (All-nil (λ x. x ≢ 10))
parts_of (b ∷ text) = parts_more b text (eqb b 10) refl (parts_of text)

-- a text of one version is a state text
text_in : (version : Version) (taken : Taken) → IsRightSoFar version taken → IsStateText taken.states (state_text version taken.states)
text_in version taken right = of_version version taken.states (state_text version taken.states) (record { right = right.right; tells = right.tells; spelled = refl })

-- a state text begins with the lines of what was taken
begins_open : (version : Version) (taken : Taken) → IsRightSoFar version taken → BeginsStateText (flat_map ended (open_lines version taken))
begins_open version taken right =
    let first = has_first version taken right in
    record {
      states = taken.states;
      whole = state_text version taken.states;
      rest = flat_map ended first.more ++ codes "end\n";
      right = text_in version taken right;
      parts = sym (text_ends version taken.states) ∙ ap (λ t. t ++ codes "end\n") (ap (flat_map ended) first.told ∙ flat_map-append ended (open_lines version taken) first.more)
          ∙ append_assoc (flat_map ended (open_lines version taken)) (flat_map ended first.more) (codes "end\n");
    }

-- a state text that begins with the lines of what was taken is of the same version
record IsOfVersion (version : Version) (states : States) (text : List ℕ) : Type 0 where
  right : IsRightSoFar version (all_of states)
  spelled : text ≡ state_text version states

of_lines : (version : Version) (taken : Taken) (states : States) (text rest : List ℕ) → IsRightSoFar version taken → IsStateText states text → text ≡ flat_map ended (open_lines version taken) ++ rest → IsOfVersion version states text
of_lines version taken states text rest right is parts =
    let other = in_version states text is in
    let same = same_version version other.version taken states rest right (sym other.is.spelled ∙ parts) in
    let here : IsTextIn version states text = subst (λ v. IsTextIn v states text) same other.is in
    record { right = taken_of version states text here; spelled = here.spelled }

-- a line that is not the end, and with which nothing valid continues
pub wrong_at : (version : Version) (line behind : List ℕ) (taken : Taken) → IsRightSoFar version taken → IsOneLine line → (line ≡ codes "end" → taken.awaits ≡ false → ⊥) → ((new : Taken) → IsRightSoFar version new → Adds version taken line new → ⊥)
    → IsWrongLine (flat_map ended (open_lines version taken) ++ (line ++ 10 ∷ behind)) (length (open_lines version taken) + 1)
wrong_at version line behind taken right plain not_end none = record {
  before = open_lines version taken;
  rest = line ++ 10 ∷ behind;
  are_lines = plain_lines version taken right;
  parts = refl;
  number_is = refl;
  begins = begins_open version taken right;
  wrong = inl (record {
    line = line;
    behind = behind;
    is_line = plain;
    parts = refl;
    begins = λ begins.
        let all : begins.whole ≡ flat_map ended (open_lines version taken) ++ (line ++ 10 ∷ begins.rest) = begins.parts ∙ one_more (flat_map ended (open_lines version taken)) line begins.rest in
        let here = of_lines version taken begins.states begins.whole (line ++ 10 ∷ begins.rest) right begins.right all in
        ⊎_elim (λ ends. not_end ends.0 ends.1) (λ next. none next.new next.right next.adds)
        (continues version taken begins.states line begins.rest right here.right plain (sym here.spelled ∙ all));
  });
}

pub wrong_line : (version : Version) (text rest line behind : List ℕ) (taken : Taken) (lines : ℕ) → IsReadSoFar version text taken lines rest → rest ≡ line ++ 10 ∷ behind → IsOneLine line → (line ≡ codes "end" → taken.awaits ≡ false → ⊥)
    → ((new : Taken) → IsRightSoFar version new → Adds version taken line new → ⊥) → IsWrongLine text (lines + 1)
wrong_line version text rest line behind taken lines so_far is plain not_end none =
    subst (λ n. IsWrongLine text (n + 1)) (sym so_far.count)
    (subst (λ t. IsWrongLine t (length (open_lines version taken) + 1)) (sym (so_far.parts ∙ ap (λ r. flat_map ended (open_lines version taken) ++ r) is))
    (wrong_at version line behind taken so_far.right plain not_end none))

-- no whole line comes next
pub cut_line : (version : Version) (text rest : List ℕ) (taken : Taken) (lines : ℕ) → IsReadSoFar version text taken lines rest → IsOneLine rest → IsWrongLine text (lines + 1)
cut_line version text rest taken lines so_far plain = record {
  before = open_lines version taken;
  rest = rest;
  are_lines = plain_lines version taken so_far.right;
  parts = so_far.parts;
  number_is = (let count = so_far.count in omega (arith, count));
  begins = begins_open version taken so_far.right;
  wrong = inr (record {
    is_line = plain;
    more = λ s is none.
        let here = of_lines version taken s (flat_map ended (open_lines version taken)) [] so_far.right is (sym (append-nil (flat_map ended (open_lines version taken)))) in
        not_whole version taken s so_far.right here.right (sym here.spelled);
  });
}

some_bytes : (line more : List ℕ) → ended line ++ more ≡ [] → ⊥
some_bytes line more none =
    let long : length (ended line ++ more) ≡ 0 = ap (λ (l : List ℕ). length l) none in
    let parts = length-append (ended line) more in
    let first = length_behind line 10 in
    absurd (omega (arith, long, parts, first))

-- bytes follow the end
wrong_behind : (version : Version) (states : States) (behind : List ℕ) → IsRightSoFar version (all_of states) → 0 < length behind → Parts behind → HasWrongNext (state_text version states) behind ⊎ IsCut (state_text version states) behind
wrong_behind version states behind right some (Plain plain) = inr (record { is_line = plain; more = λ s is none. absurd (let long : length behind ≡ 0 = ap (λ (l : List ℕ). length l) none in omega (arith, long, some)) })
wrong_behind version states behind right some (Lined line more plain parts) = inl (record {
  line = line;
  behind = more;
  is_line = plain;
  parts = parts;
  begins = λ begins.
      let all = begins.parts ∙ append_assoc (state_text version states) (ended line) begins.rest ∙ ap (λ t. t ++ (ended line ++ begins.rest)) (sym (text_ends version states))
      ∙ one_more (flat_map ended (told_lines version states)) (codes "end") (ended line ++ begins.rest) in
      let here = of_lines version (all_of states) begins.states begins.whole (codes "end" ++ 10 ∷ (ended line ++ begins.rest)) right begins.right all in
      some_bytes line begins.rest (ended_text version (all_of states) begins.states (ended line ++ begins.rest) right here.right (sym here.spelled ∙ all));
})

pub behind_end : (version : Version) (text rest line behind : List ℕ) (states : States) (lines : ℕ) → IsReadSoFar version text (all_of states) lines rest → rest ≡ line ++ 10 ∷ behind → line ≡ codes "end" → 0 < length behind → IsWrongLine text (lines + 1 + 1)
behind_end version text rest line behind states lines so_far is is_end some =
    let told = told_lines version states in
    let whole : flat_map ended (told ++ codes "end" ∷ []) ≡ state_text version states = flat_map-append ended told (codes "end" ∷ []) ∙ text_ends version states in
    record {
      before = told ++ codes "end" ∷ [];
      rest = behind;
      are_lines = each_behind IsOneLine told (codes "end") (plain_lines version (all_of states) so_far.right) end_plain;
      parts = so_far.parts ∙ ap (λ r. flat_map ended told ++ r) (is ∙ ap (λ l. l ++ 10 ∷ behind) is_end) ∙ sym (one_more (flat_map ended told) (codes "end") behind) ∙ ap (λ t. t ++ behind) (text_ends version states ∙ sym whole);
      number_is = (let count = so_far.count in let long = length_behind told (codes "end") in omega (arith, count, long));
      begins = subst BeginsStateText (sym whole) (record { states = states; whole = state_text version states; rest = []; right = text_in version (all_of states) so_far.right; parts = sym (append-nil (state_text version states)) });
      wrong = subst (λ f. HasWrongNext f behind ⊎ IsCut f behind) (sym whole) (wrong_behind version states behind so_far.right some (parts_of behind));
    }

begins_nothing : BeginsStateText []
begins_nothing = record { states = []; whole = state_text Two []; rest = state_text Two []; right = inr (record { right = no_states; tells = tt; spelled = refl }); parts = refl }

-- the first line is that of no version
pub wrong_header : (text line behind : List ℕ) → text ≡ line ++ 10 ∷ behind → IsOneLine line → ((version : Version) → line ≢ version_line version) → IsWrongLine text 1
wrong_header text line behind is plain other = record {
  before = [];
  rest = text;
  are_lines = tt;
  parts = refl;
  number_is = omega arith;
  begins = begins_nothing;
  wrong = inl (record {
    line = line;
    behind = behind;
    is_line = plain;
    parts = is;
    begins = λ begins.
        let here = in_version begins.states begins.whole begins.right in
        other here.version (first_is here.version begins.states line begins.rest plain (sym here.is.spelled ∙ begins.parts ∙ append_assoc line (10 ∷ []) begins.rest));
  });
}

never_nothing : (version : Version) (s : States) → [] ≡ state_text version s → ⊥
unfolding state_text
never_nothing version s is = (let long = ap (λ (t : List ℕ). length t) (is ∙ sym (text_ends version s)) in let parts = length-append (flat_map ended (told_lines version s)) (codes "end\n") in absurd (omega (arith, long, parts)))

pub no_header : (text : List ℕ) → IsOneLine text → IsWrongLine text 1
no_header text plain = record {
  before = [];
  rest = text;
  are_lines = tt;
  parts = refl;
  number_is = omega arith;
  begins = begins_nothing;
  wrong = inr (record { is_line = plain; more = λ s is none. (let here = in_version s [] is in never_nothing here.version s here.is.spelled) });
}

stops_of : (front rest : List ℕ) → HasWrongNext front rest ⊎ IsCut front rest → Stops BeginsStateText front rest
stops_of front rest (inl refused) = Refused refused.line refused.behind refused.is_line refused.parts refused.begins
stops_of front rest (inr cut) = Cut cut.is_line

-- a text has at most one first wrong line
pub one_wrong_line : OneWrongLine
one_wrong_line text m n one two =
    let same = one_stop BeginsStateText begins_less one.before two.before one.rest two.rest one.are_lines two.are_lines (sym one.parts ∙ two.parts) one.begins two.begins
    (stops_of (flat_map ended one.before) one.rest one.wrong) (stops_of (flat_map ended two.before) two.rest two.wrong) in
    let first = one.number_is in
    let second = two.number_is in
    omega (arith, same, first, second)

none_at : (version : Version) (states : States) (text : List ℕ) (before : List (List ℕ)) (rest : List ℕ) → IsTextIn version states text → AllByRecursion IsOneLine before → text ≡ flat_map ended before ++ rest
    → HasWrongNext (flat_map ended before) rest ⊎ IsCut (flat_map ended before) rest → ⊥
unfolding state_text
none_at version states text before rest is lines parts (inl refused) =
    refused.begins (record { states = states; whole = text; rest = refused.behind; right = of_version version states text is; parts = parts ∙ ap (λ r. flat_map ended before ++ r) refused.parts ∙ sym (one_more (flat_map ended before) refused.line refused.behind) })
none_at version states text before rest is lines parts (inr cut) =
    let all = each_behind IsOneLine (told_lines version states) (codes "end") (plain_lines version (all_of states) (taken_of version states text is)) end_plain in
    let same = same_lines before (told_lines version states ++ codes "end" ∷ []) rest [] lines all cut.is_line (All-nil (λ x. x ≢ 10)) (sym parts ∙ is.spelled ∙ sym (append-nil (state_text version states))) in
    cut.more states (of_version version states (flat_map ended before) (record { right = is.right; tells = is.tells; spelled = ap (flat_map ended) same.0 })) same.1

-- a state text has none
pub none_wrong : NoneInStateText
none_wrong states text n is wrong = (let here = in_version states text is in none_at here.version states text wrong.before wrong.rest here.is wrong.are_lines wrong.parts wrong.wrong)
