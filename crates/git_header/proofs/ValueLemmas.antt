-- Names and idents after the word of a line, and lines without them.
use Rattle.std.proofs.Common.{◌≡◌, ◌≢◌, inl, inr, ℕ, ◌<◌, ◌≤◌, ◌^◌, All, List, [], ◌∷◌, ◌++◌, refl, sym, ap, subst, ◌∙◌, arith}
use Rattle.std.specs.Fmt.{decimal}
use Rattle.std.proofs.lemmas.List.Elements.{All-cons, All-append, All-same, All-weaker, All-head, All-tail}
use Rattle.hex.specs.Hex.{encode_lower}
use Rattle.git_name.specs.Name.{IsName, name_in}
use Rattle.git_name.proofs.ReadingLemmas.{name_in-encode_lower}
use Rattle.git_header.specs.declared.fault.HeaderFault.{HeaderFault}
use Rattle.git_header.specs.declared.fault.HeaderFault.TheVariants as fault
use Rattle.git_header.specs.declared.ident.Sign.{Sign}
use Rattle.git_header.specs.declared.ident.Sign.TheVariants.{Plus, Minus}
use Rattle.git_name.specs.Text.{Begins, Lacks}
use Rattle.git_header.specs.Line.{IsEnding, IsNoWord, IsOther}
use Rattle.git_header.specs.Ident.{IdentValue, IsIdentValue, spelled_ident, spelled_time, sign_byte}
use Rattle.git_header.specs.Judging.{Grammar, Malformed, IsBroken, Bad}
use Rattle.git_header.specs.Value.{IsNameText, IsIdentLine, HoldsValue, IsNoValue}
use Rattle.git_header.specs.Row.{name_or_none}
use Rattle.git_header.proofs.Splits.{same_rest, heads, tails, decimal_without}
use Rattle.git_header.proofs.RowLemmas.{hex_lacks}
use Rattle.git_header.proofs.JudgingLemmas.{IsUsual, no_line_broken}

pub digits_lack : (byte : ℕ) → byte < 48 → (zone : List ℕ) → All (λ b. 48 ≤ b) zone → Lacks byte zone
digits_lack byte low zone high = All-weaker (λ b. 48 ≤ b) (λ b. b ≢ byte) (λ b h e. absurd (omega arith)) zone high

sign_lacks : (byte : ℕ) → byte < 32 → (s : Sign) → sign_byte s ≢ byte
sign_lacks byte low Plus e = absurd (omega arith)
sign_lacks byte low Minus e = absurd (omega arith)

time_lacks : (byte : ℕ) → byte < 32 → (n : ℕ) (s : Sign) (zone : List ℕ) → n < 2 ^ 63 → All (λ b. 48 ≤ b) zone → Lacks byte (spelled_time n s zone)
time_lacks byte low n s zone small high =
    let not_space : 32 ≢ byte = λ e. absurd (omega arith) in
    let wide : n < 2 ^ 64 = omega arith in
    All-cons (λ b. b ≢ byte) 32 (decimal n ++ 32 ∷ sign_byte s ∷ zone) not_space (All-append (λ b. b ≢ byte) (decimal n) (32 ∷ sign_byte s ∷ zone) (decimal_without byte (omega arith) n wide)
    (All-cons (λ b. b ≢ byte) 32 (sign_byte s ∷ zone) not_space (All-cons (λ b. b ≢ byte) (sign_byte s) zone (sign_lacks byte low s) (digits_lack byte (omega arith) zone high))))

pub ident_lacks : (byte : ℕ) → byte < 32 → (v : IdentValue) → IsIdentValue v → Lacks byte v.name → Lacks byte v.email → Lacks byte (spelled_ident v)
ident_lacks byte low v is name email =
    All-append (λ b. b ≢ byte) v.name (60 ∷ (v.email ++ 62 ∷ spelled_time v.seconds v.sign v.zone)) name (All-cons (λ b. b ≢ byte) 60 (v.email ++ 62 ∷ spelled_time v.seconds v.sign v.zone) (λ (e : 60 ≡ byte). absurd (omega arith))
    (All-append (λ b. b ≢ byte) v.email (62 ∷ spelled_time v.seconds v.sign v.zone) email (All-cons (λ b. b ≢ byte) 62 (spelled_time v.seconds v.sign v.zone) (λ (e : 62 ≡ byte). absurd (omega arith)) (time_lacks byte low v.seconds v.sign v.zone is.seconds is.zone.low))))

pub name_value_lacks : (byte : ℕ) → byte < 48 → (value : List ℕ) → IsNameText value → Lacks byte value
name_value_lacks byte low value (name, is, spelled) = All-same (λ b. b ≢ byte) _ _ spelled (hex_lacks byte low name is)

pub ident_value_no_zero : (value : List ℕ) → IsIdentLine value → Lacks 0 value
ident_value_no_zero value (v, is) = All-same (λ b. b ≢ 0) _ _ is.spelling (ident_lacks 0 (omega arith) v is.right is.right.name.no_zero is.right.email.no_zero)

pub ident_value_no_end : (value : List ℕ) → IsIdentLine value → Lacks 10 value
ident_value_no_end value (v, is) = All-same (λ b. b ≢ 10) _ _ is.spelling (ident_lacks 10 (omega arith) v is.right is.right.name.no_end is.right.email.no_end)

-- equal digits write equal names
pub name_same : (a b : List ℕ) → IsName a → IsName b → encode_lower a ≡ encode_lower b → a ≡ b
name_same a b is_a is_b same = ap name_or_none (sym (name_in-encode_lower a is_a) ∙ ap name_in same ∙ name_in-encode_lower b is_b)

pub word_broken : {P F : Type 0} (named : HeaderFault → F) (g : Grammar P F) → IsUsual named g → (why : HeaderFault) (p : P) (word text : List ℕ) → IsNoWord word why text
    → (IsEnding text → g.MayEnd p → ⊥) → (IsOther word text → IsBroken g (named fault.HeaderOrder) p text) → IsBroken g (named why) p text
word_broken named g usual why p word text (inl none) never other = no_line_broken named g usual why p text none never
word_broken named g usual why p word text (inr (is, another)) never other = subst (λ f. IsBroken g (named f) p text) (sym is) (other another)

pub value_broken : {P F : Type 0} (named : HeaderFault → F) (g : Grammar P F) → IsUsual named g → (why form : HeaderFault) (p : P) (word text : List ℕ) (IsValue : List ℕ → Type 0) → IsNoValue word IsValue form why text
    → (IsEnding text → g.MayEnd p → ⊥) → (IsOther word text → IsBroken g (named fault.HeaderOrder) p text) → ((value : List ℕ) → g.Stands p (word ++ value)) → ((value : List ℕ) → g.Right p (word ++ value) → IsValue value) → ((value : List ℕ) → named form ≡ g.form p (word ++ value)) → IsBroken g (named why) p text
value_broken named g usual why form p word text IsValue (inl none) never other stands right form_is = word_broken named g usual why p word text none never other
value_broken named g usual why form p word text IsValue (inr (is, wrong)) never other stands right form_is =
    Bad (word ++ wrong.value) wrong.after wrong.is (Malformed wrong.plain (stands wrong.value) (λ r. wrong.wrong (right wrong.value r)) (ap named is ∙ form_is wrong.value))

pub held_value : (word value : List ℕ) (IsValue : List ℕ → Type 0) → HoldsValue word IsValue (word ++ value) → IsValue value
held_value word value IsValue h = subst IsValue (sym (same_rest word value h.value h.spelling)) h.is

-- the first line of a text begins with the word that the text begins with
pub drop_front : (word line after x : List ℕ) → Lacks 10 word → line ++ 10 ∷ after ≡ word ++ x → Begins word line
drop_front [] line after x lacks e = (line, refl)
drop_front (w ∷ word) [] after x lacks e = absurd (All-head (λ b. b ≢ 10) w word lacks (sym (heads 10 w after (word ++ x) e)))
drop_front (w ∷ word) (b ∷ line) after x lacks e =
    let more = drop_front word line after x (All-tail (λ b. b ≢ 10) w word lacks) (tails b w _ _ e) in
    (more.0, ap (λ h. h ∷ line) (heads b w _ _ e) ∙ ap (λ (t : List ℕ). w ∷ t) more.1)
