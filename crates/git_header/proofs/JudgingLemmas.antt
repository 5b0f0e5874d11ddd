-- There is only one first faulty line, and it has only one fault.
use Rattle.std.proofs.Common.{◌≡◌, ◌≢◌, ℕ, List, [], ◌∷◌, ◌++◌, refl, sym, ap, subst, ◌∙◌, append_assoc, Option, Some, None}
use Rattle.std.specs.List.{flat_map}
use Rattle.std.proofs.lemmas.List.Concat.{flat_map-append}
use Rattle.std.proofs.lemmas.List.Elements.{All-head}
use Rattle.git_header.specs.declared.fault.HeaderFault.{HeaderFault}
use Rattle.git_header.specs.declared.fault.HeaderFault.TheVariants as fault
use Rattle.git_name.specs.Text.{Lacks, ended}
use Rattle.git_header.specs.Line.{IsEnding, IsLine, IsNoLine, ending}
use Rattle.git_header.specs.Judging.{Grammar, AreRightLines, IsBadLine, HoldsZero, Misplaced, Malformed, IsBroken, Early, Unended, Bad, IsFirstFault}
use Rattle.git_header.proofs.Splits.{split_unique, split_none, heads}

-- a line of a valid form is a line, and is allowed at its place
pub record IsSound {P F : Type 0} (g : Grammar P F) : Type 0 where
  pub no_zero : (p : P) (line : List ℕ) → g.Right p line → Lacks 0 line
  pub no_end : (p : P) (line : List ℕ) → g.Right p line → Lacks 10 line
  pub some : (p : P) (line : List ℕ) → g.Right p line → line ≢ []
  pub stands : (p : P) (line : List ℕ) → g.Right p line → g.Stands p line

pub ended_then : (line rest : List ℕ) → ended line ++ rest ≡ line ++ 10 ∷ rest
ended_then line rest = append_assoc line (10 ∷ []) rest

pub lines_then : (line : List ℕ) (lines : List (List ℕ)) (rest : List ℕ) → flat_map ended (line ∷ lines) ++ rest ≡ line ++ 10 ∷ (flat_map ended lines ++ rest)
lines_then line lines rest = append_assoc (ended line) (flat_map ended lines) rest ∙ ended_then line (flat_map ended lines ++ rest)

bad_unique : {P F : Type 0} (g : Grammar P F) (f h : F) (p : P) (line : List ℕ) → IsBadLine g f p line → IsBadLine g h p line → f ≡ h
bad_unique g f h p line (HoldsZero z e) (HoldsZero y d) = e ∙ sym d
bad_unique g f h p line (HoldsZero z e) (Misplaced plain s d) = absurd (z plain)
bad_unique g f h p line (HoldsZero z e) (Malformed plain s r d) = absurd (z plain)
bad_unique g f h p line (Misplaced plain s e) (HoldsZero y d) = absurd (y plain)
bad_unique g f h p line (Misplaced plain s e) (Misplaced plain_2 t d) = e ∙ sym d
bad_unique g f h p line (Misplaced plain s e) (Malformed plain_2 t r d) = absurd (s t)
bad_unique g f h p line (Malformed plain s r e) (HoldsZero y d) = absurd (y plain)
bad_unique g f h p line (Malformed plain s r e) (Misplaced plain_2 t d) = absurd (t s)
bad_unique g f h p line (Malformed plain s r e) (Malformed plain_2 t q d) = e ∙ sym d

-- an ending contains no line, and is not cut off
pub no_line_ends : (line after rest : List ℕ) → IsLine line after rest → IsEnding rest → ⊥
no_line_ends line after rest is (m, ends) = from line m is.some is.no_end (sym is.parts ∙ ends)
  where
    from : (l : List ℕ) (m : Option (List ℕ)) → l ≢ [] → Lacks 10 l → l ++ 10 ∷ after ≡ ending m → ⊥
    from [] m some lacks e = some refl
    from (b ∷ l) None some lacks e = let no_such : ⊥ = cc in no_such
    from (b ∷ l) (Some x) some lacks e = All-head (λ b. b ≢ 10) b l lacks (heads b 10 (l ++ 10 ∷ after) x e)

pub no_cut_ends : (rest : List ℕ) → rest ≢ [] → Lacks 10 rest → IsEnding rest → ⊥
no_cut_ends rest some lacks (None, ends) = some ends
no_cut_ends rest some lacks (Some m, ends) = split_none 10 [] m rest lacks ends

no_cut_line : (line after rest : List ℕ) → IsLine line after rest → Lacks 10 rest → ⊥
no_cut_line line after rest is lacks = split_none 10 line after rest lacks is.parts

pub line_unique : (l m a b rest : List ℕ) → IsLine l a rest → IsLine m b rest → (l ≡ m) × (a ≡ b)
line_unique l m a b rest one two = split_unique 10 l a m b one.no_end two.no_end (sym one.parts ∙ two.parts)

broken_unique : {P F : Type 0} (g : Grammar P F) (f h : F) (p : P) (rest : List ℕ) → IsBroken g f p rest → IsBroken g h p rest → f ≡ h
broken_unique g f h p rest (Early ends n e) (Early ends_2 m d) = e ∙ sym d
broken_unique g f h p rest (Early ends n e) (Unended some lacks d) = absurd (no_cut_ends rest some lacks ends)
broken_unique g f h p rest (Early ends n e) (Bad l a is bad) = absurd (no_line_ends l a rest is ends)
broken_unique g f h p rest (Unended some lacks e) (Early ends n d) = absurd (no_cut_ends rest some lacks ends)
broken_unique g f h p rest (Unended some lacks e) (Unended some_2 lacks_2 d) = e ∙ sym d
broken_unique g f h p rest (Unended some lacks e) (Bad l a is bad) = absurd (no_cut_line l a rest is lacks)
broken_unique g f h p rest (Bad l a is bad) (Early ends n d) = absurd (no_line_ends l a rest is ends)
broken_unique g f h p rest (Bad l a is bad) (Unended some lacks d) = absurd (no_cut_line l a rest is lacks)
broken_unique g f h p rest (Bad l a is bad) (Bad m b is_2 bad_2) =
    bad_unique g f h p l bad (subst (IsBadLine g h p) (sym (line_unique l m a b rest is is_2).0) bad_2)

pub right_is_line : {P F : Type 0} (g : Grammar P F) → IsSound g → (p : P) (line after rest : List ℕ) → g.Right p line → rest ≡ line ++ 10 ∷ after → IsLine line after rest
right_is_line g sound p line after rest right parts = record { parts = parts; no_end = sound.no_end p line right; some = sound.some p line right }

right_not_bad : {P F : Type 0} (g : Grammar P F) → IsSound g → (f : F) (p : P) (line : List ℕ) → g.Right p line → IsBadLine g f p line → ⊥
right_not_bad g sound f p line right (HoldsZero z e) = z (sound.no_zero p line right)
right_not_bad g sound f p line right (Misplaced plain s e) = s (sound.stands p line right)
right_not_bad g sound f p line right (Malformed plain s r e) = r right

-- what begins with a valid line breaks no rule
pub right_not_broken : {P F : Type 0} (g : Grammar P F) → IsSound g → (f : F) (p : P) (line after rest : List ℕ) → g.Right p line → rest ≡ line ++ 10 ∷ after → IsBroken g f p rest → ⊥
right_not_broken g sound f p line after rest right parts (Early ends n e) = no_line_ends line after rest (right_is_line g sound p line after rest right parts) ends
right_not_broken g sound f p line after rest right parts (Unended some lacks e) = no_cut_line line after rest (right_is_line g sound p line after rest right parts) lacks
right_not_broken g sound f p line after rest right parts (Bad m b is bad) =
    right_not_bad g sound f p m (subst (g.Right p) (line_unique line m after b rest (right_is_line g sound p line after rest right parts) is).0 right) bad

agree : {P F : Type 0} (g : Grammar P F) → IsSound g → (f h : F) (p q r : P) (ls ms : List (List ℕ)) (x y : List ℕ) → AreRightLines g p ls q → AreRightLines g p ms r → flat_map ended ls ++ x ≡ flat_map ended ms ++ y → IsBroken g f q x → IsBroken g h r y → f ≡ h
agree g sound f h p q r [] [] x y right right_2 same broken broken_2 =
    broken_unique g f h p x (subst (λ t. IsBroken g f t x) (sym right) broken) (subst (λ t. IsBroken g h t x) (sym right_2) (subst (IsBroken g h r) (sym same) broken_2))
agree g sound f h p q r [] (m ∷ ms) x y right right_2 same broken broken_2 =
    absurd (right_not_broken g sound f p m (flat_map ended ms ++ y) x right_2.0 (same ∙ lines_then m ms y) (subst (λ t. IsBroken g f t x) (sym right) broken))
agree g sound f h p q r (l ∷ ls) [] x y right right_2 same broken broken_2 =
    absurd (right_not_broken g sound h p l (flat_map ended ls ++ x) y right.0 (sym same ∙ lines_then l ls x) (subst (λ t. IsBroken g h t y) (sym right_2) broken_2))
agree g sound f h p q r (l ∷ ls) (m ∷ ms) x y right right_2 same broken broken_2 =
    let parts = split_unique 10 l (flat_map ended ls ++ x) m (flat_map ended ms ++ y) (sound.no_end p l right.0) (sound.no_end p m right_2.0) (sym (lines_then l ls x) ∙ same ∙ lines_then m ms y) in
    agree g sound f h (g.next p l) q r ls ms x y right.1 (subst (λ t. AreRightLines g (g.next p t) ms r) (sym parts.0) right_2.1) parts.1 broken broken_2

-- a text has at most one first fault
pub one_fault : {P F : Type 0} (g : Grammar P F) → IsSound g → (p : P) (f h : F) (text : List ℕ) → IsFirstFault g p f text → IsFirstFault g p h text → f ≡ h
one_fault g sound p f h text one two = agree g sound f h p one.place two.place one.lines two.lines one.rest two.rest one.right two.right (sym one.parts ∙ two.parts) one.broken two.broken

right_end_not_broken : {P F : Type 0} (g : Grammar P F) (f : F) (p : P) (rest : List ℕ) → g.MayEnd p → IsEnding rest → IsBroken g f p rest → ⊥
right_end_not_broken g f p rest may ends (Early ends_2 n e) = n may
right_end_not_broken g f p rest may ends (Unended some lacks e) = no_cut_ends rest some lacks ends
right_end_not_broken g f p rest may ends (Bad l a is bad) = no_line_ends l a rest is ends

whole : {P F : Type 0} (g : Grammar P F) → IsSound g → (f : F) (p q r : P) (ls ms : List (List ℕ)) (x y : List ℕ) → AreRightLines g p ls q → AreRightLines g p ms r → flat_map ended ls ++ x ≡ flat_map ended ms ++ y → g.MayEnd q → IsEnding x → IsBroken g f r y → ⊥
whole g sound f p q r [] [] x y right right_2 same may ends broken =
    right_end_not_broken g f q x may ends (subst (λ t. IsBroken g f t x) (sym right_2 ∙ right) (subst (IsBroken g f r) (sym same) broken))
whole g sound f p q r [] (m ∷ ms) x y right right_2 same may ends broken =
    no_line_ends m (flat_map ended ms ++ y) x (right_is_line g sound p m (flat_map ended ms ++ y) x right_2.0 (same ∙ lines_then m ms y)) ends
whole g sound f p q r (l ∷ ls) [] x y right right_2 same may ends broken =
    right_not_broken g sound f p l (flat_map ended ls ++ x) y right.0 (sym same ∙ lines_then l ls x) (subst (λ t. IsBroken g f t y) (sym right_2) broken)
whole g sound f p q r (l ∷ ls) (m ∷ ms) x y right right_2 same may ends broken =
    let parts = split_unique 10 l (flat_map ended ls ++ x) m (flat_map ended ms ++ y) (sound.no_end p l right.0) (sound.no_end p m right_2.0) (sym (lines_then l ls x) ∙ same ∙ lines_then m ms y) in
    whole g sound f (g.next p l) q r ls ms x y right.1 (subst (λ t. AreRightLines g (g.next p t) ms r) (sym parts.0) right_2.1) parts.1 may ends broken

-- a text of valid lines and a valid end has no fault
pub no_fault : {P F : Type 0} (g : Grammar P F) → IsSound g → (p q : P) (f : F) (ls : List (List ℕ)) (x text : List ℕ) → AreRightLines g p ls q → g.MayEnd q → IsEnding x → text ≡ flat_map ended ls ++ x → IsFirstFault g p f text → ⊥
no_fault g sound p q f ls x text right may ends parts wrong =
    whole g sound f p q wrong.place ls wrong.lines x wrong.rest right wrong.right (sym parts ∙ wrong.parts) may ends wrong.broken

right_append : {P F : Type 0} (g : Grammar P F) (p q r : P) (ls ms : List (List ℕ)) → AreRightLines g p ls q → AreRightLines g q ms r → AreRightLines g p (ls ++ ms) r
right_append g p q r [] ms one two = subst (λ t. AreRightLines g t ms r) (sym one) two
right_append g p q r (l ∷ ls) ms one two = (one.0, right_append g (g.next p l) q r ls ms one.1 two)

-- valid lines before a fault
pub fault_behind : {P F : Type 0} (g : Grammar P F) (p q : P) (f : F) (ls : List (List ℕ)) (rest text : List ℕ) → AreRightLines g p ls q → text ≡ flat_map ended ls ++ rest → IsFirstFault g q f rest → IsFirstFault g p f text
fault_behind g p q f ls rest text right parts wrong = record {
  lines = ls ++ wrong.lines;
  place = wrong.place;
  rest = wrong.rest;
  right = right_append g p q wrong.place ls wrong.lines right wrong.right;
  parts = parts ∙ ap (λ (t : List ℕ). flat_map ended ls ++ t) wrong.parts ∙ sym (append_assoc (flat_map ended ls) (flat_map ended wrong.lines) wrong.rest)
      ∙ ap (λ (t : List ℕ). t ++ wrong.rest) (sym (flat_map-append ended ls wrong.lines));
  broken = wrong.broken;
}

pub right_lines : {P F : Type 0} (g : Grammar P F) (p q r : P) (ls ms : List (List ℕ)) → AreRightLines g p ls q → AreRightLines g q ms r → AreRightLines g p (ls ++ ms) r
right_lines g p q r ls ms one two = right_append g p q r ls ms one two

-- a fault of the next line is the first one
pub fault_here : {P F : Type 0} (g : Grammar P F) (p : P) (f : F) (text : List ℕ) → IsBroken g f p text → IsFirstFault g p f text
fault_here g p f text broken = record { lines = []; place = p; rest = text; right = refl; parts = refl; broken = broken }

-- a fault of a header line, as it is
abbrev pub itself : HeaderFault → HeaderFault
itself why = why

-- the grammar gives the faults of lines these names
pub record IsUsual {P F : Type 0} (named : HeaderFault → F) (g : Grammar P F) : Type 0 where
  pub order : named fault.HeaderOrder ≡ g.order
  pub unended : named fault.HeaderLine ≡ g.unended
  pub zero_byte : named fault.ZeroByte ≡ g.zero_byte

-- if no line could be taken
pub no_line_broken : {P F : Type 0} (named : HeaderFault → F) (g : Grammar P F) → IsUsual named g → (why : HeaderFault) (p : P) (text : List ℕ) → IsNoLine why text → (IsEnding text → g.MayEnd p → ⊥) → IsBroken g (named why) p text
no_line_broken named g usual fault.HeaderOrder p text wrong early = Early wrong (early wrong) usual.order
no_line_broken named g usual fault.Name p text wrong early = absurd wrong
no_line_broken named g usual fault.Ident p text wrong early = absurd wrong
no_line_broken named g usual fault.HeaderLine p text wrong early = Unended wrong.0 wrong.1 usual.unended
no_line_broken named g usual fault.ZeroByte p text wrong early = Bad wrong.0 wrong.1 wrong.2 (HoldsZero wrong.3 usual.zero_byte)

-- a grammar is part of a wider one, in which its places and faults have these names
pub record IsWithin {P Q F G : Type 0} (named : F → G) (into : P → Q) (g : Grammar P F) (h : Grammar Q G) : Type 0 where
  pub right : (p : P) (line : List ℕ) → g.Right p line → h.Right (into p) line
  pub only : (p : P) (line : List ℕ) → h.Right (into p) line → g.Right p line
  pub stands : (p : P) (line : List ℕ) → g.Stands p line → h.Stands (into p) line
  pub may : (p : P) (line : List ℕ) → h.Stands (into p) line → g.Stands p line
  pub ends : (p : P) → h.MayEnd (into p) → g.MayEnd p
  pub next : (p : P) (line : List ℕ) → into (g.next p line) ≡ h.next (into p) line
  pub order : named g.order ≡ h.order
  pub unended : named g.unended ≡ h.unended
  pub zero_byte : named g.zero_byte ≡ h.zero_byte
  pub form : (p : P) (line : List ℕ) → named (g.form p line) ≡ h.form (into p) line

pub right_within : {P Q F G : Type 0} (named : F → G) (into : P → Q) (g : Grammar P F) (h : Grammar Q G) → IsWithin named into g h → (p q : P) (lines : List (List ℕ)) → AreRightLines g p lines q → AreRightLines h (into p) lines (into q)
right_within named into g h within p q [] right = ap into right
right_within named into g h within p q (l ∷ lines) right =
    (within.right p l right.0, subst (λ t. AreRightLines h t lines (into q)) (within.next p l) (right_within named into g h within (g.next p l) q lines right.1))

bad_within : {P Q F G : Type 0} (named : F → G) (into : P → Q) (g : Grammar P F) (h : Grammar Q G) → IsWithin named into g h → (f : F) (p : P) (line : List ℕ) → IsBadLine g f p line → IsBadLine h (named f) (into p) line
bad_within named into g h within f p line (HoldsZero z e) = HoldsZero z (ap named e ∙ within.zero_byte)
bad_within named into g h within f p line (Misplaced plain s e) = Misplaced plain (λ stands. s (within.may p line stands)) (ap named e ∙ within.order)
bad_within named into g h within f p line (Malformed plain s r e) = Malformed plain (within.stands p line s) (λ right. r (within.only p line right)) (ap named e ∙ within.form p line)

pub broken_within : {P Q F G : Type 0} (named : F → G) (into : P → Q) (g : Grammar P F) (h : Grammar Q G) → IsWithin named into g h → (f : F) (p : P) (rest : List ℕ) → IsBroken g f p rest → IsBroken h (named f) (into p) rest
broken_within named into g h within f p rest (Early ends n e) = Early ends (λ may. n (within.ends p may)) (ap named e ∙ within.order)
broken_within named into g h within f p rest (Unended some lacks e) = Unended some lacks (ap named e ∙ within.unended)
broken_within named into g h within f p rest (Bad l a is bad) = Bad l a is (bad_within named into g h within f p l bad)

-- a first fault is one in the wider grammar
pub fault_within : {P Q F G : Type 0} (named : F → G) (into : P → Q) (g : Grammar P F) (h : Grammar Q G) → IsWithin named into g h → (p : P) (f : F) (text : List ℕ) → IsFirstFault g p f text → IsFirstFault h (into p) (named f) text
fault_within named into g h within p f text wrong = record {
  lines = wrong.lines;
  place = into wrong.place;
  rest = wrong.rest;
  right = right_within named into g h within p wrong.place wrong.lines wrong.right;
  parts = wrong.parts;
  broken = broken_within named into g h within f wrong.place wrong.rest wrong.broken;
}

-- a text is valid lines and an end in one way only
pub same_lines : {P F : Type 0} (g : Grammar P F) → IsSound g → (p q r : P) (ls ms : List (List ℕ)) (x y : List ℕ) → AreRightLines g p ls q → AreRightLines g p ms r → IsEnding x → IsEnding y → flat_map ended ls ++ x ≡ flat_map ended ms ++ y → (ls ≡ ms) × (x ≡ y)
same_lines g sound p q r [] [] x y one two ends ends_2 same = (refl, same)
same_lines g sound p q r [] (m ∷ ms) x y one two ends ends_2 same =
    absurd (no_line_ends m (flat_map ended ms ++ y) x (right_is_line g sound p m (flat_map ended ms ++ y) x two.0 (same ∙ lines_then m ms y)) ends)
same_lines g sound p q r (l ∷ ls) [] x y one two ends ends_2 same =
    absurd (no_line_ends l (flat_map ended ls ++ x) y (right_is_line g sound p l (flat_map ended ls ++ x) y one.0 (sym same ∙ lines_then l ls x)) ends_2)
same_lines g sound p q r (l ∷ ls) (m ∷ ms) x y one two ends ends_2 same =
    let parts = split_unique 10 l (flat_map ended ls ++ x) m (flat_map ended ms ++ y) (sound.no_end p l one.0) (sound.no_end p m two.0) (sym (lines_then l ls x) ∙ same ∙ lines_then m ms y) in
    let later = same_lines g sound (g.next p l) q r ls ms x y one.1 (subst (λ t. AreRightLines g (g.next p t) ms r) (sym parts.0) two.1) ends ends_2 parts.1 in
    (ap (λ (h : List ℕ). h ∷ ls) parts.0 ∙ ap (λ (t : List (List ℕ)). m ∷ t) later.0, later.1)
