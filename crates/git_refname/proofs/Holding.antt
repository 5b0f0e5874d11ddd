-- What a text contains after one more byte.
use Rattle.std.proofs.Common.{◌≡◌, ◌≢◌, ℕ, suc, ◌<◌, ◌≤◌, ◌+◌, ◌-◌, ◌==◌, Bool, true, false, not, ◌||◌, List, [], ◌∷◌, ◌++◌, ◌⊎◌, inl, inr, Option, None, Some, nat_eq, refl, sym, ap, ◌∙◌, length, take, drop, length-take, length-drop, length-append, append_assoc, arith}
use Rattle.std.specs.Cmp.Lexicographic.{pointwise, unequal}
use Rattle.std.specs.List.{last_or, list_any}
use Rattle.std.specs.Option.{unwrap_or}
use Rattle.std.proofs.lemmas.Bool.{cases_lt, eq-eqb}
use Rattle.std.proofs.lemmas.Bool.Decides.{Decides-eqb}
use Rattle.std.proofs.lemmas.Slice.Eq.{ends_is}
use Rattle.std.proofs.lemmas.List.{take_all, take-append-le}
use Rattle.std.proofs.lemmas.List.Folds.{list_any-append}
use Rattle.std.proofs.Math.Bool.{or-false}
use Rattle.git_refname.specs.Marks.{is_plain}
use Rattle.git_refname.specs.Rule.{begins, ends, holds, is_pattern, is_unprintable}

-- a text shorter than a part neither begins nor ends with it, nor contains it
begins_short : (part text : List ℕ) → length text < length part → begins part text ≡ false
begins_short part text short =
    unequal nat_eq part (take (length part) text) (λ (same : length part ≡ length (take (length part) text)). let is = length-take (length part) text in absurd (omega arith))

ends_short : (part text : List ℕ) → length text < length part → ends part text ≡ false
ends_short part text short =
    unequal nat_eq part (drop (length text - length part) text) (λ (same : length part ≡ length (drop (length text - length part) text)). let is = length-drop (length text - length part) text in absurd (omega arith))

holds_short : (part text : List ℕ) → length text < length part → holds part text ≡ false
holds_short part [] short = begins_short part [] short
holds_short part (b ∷ bs) short = rw (begins_short part (b ∷ bs) short) (holds_short part bs (omega arith))

-- a text no longer than a part begins with it exactly if it ends with it
begins_ends : (part text : List ℕ) → length text ≤ length part → begins part text ≡ ends part text
begins_ends part text short =
    let none : length text - length part ≡ 0 = omega arith in
    ap (pointwise nat_eq part) (take_all (length part) text short ∙ sym (ap (λ n. drop n text) none))

begins_longer : (part xs ys : List ℕ) → length part ≤ length xs → begins part (xs ++ ys) ≡ begins part xs
begins_longer part xs ys fits = ap (pointwise nat_eq part) (take-append-le (length part) xs ys fits)

ends_longer : (part : List ℕ) (x : ℕ) (xs : List ℕ) → length part ≤ length xs → ends part (x ∷ xs) ≡ ends part xs
ends_longer part x xs fits =
    let more : suc (length xs) - length part ≡ suc (length xs - length part) = omega arith in
    ap (λ n. pointwise nat_eq part (drop n (x ∷ xs))) more

regrouped : (a b h e f : Bool) → a ≡ b → e ≡ f → (a || (h || e)) ≡ ((b || h) || f)
regrouped true true h e f first last = refl
regrouped false false h e f first last = ap (λ x. h || x) last
regrouped true false h e f first last = absurd (cc)
regrouped false true h e f first last = absurd (cc)

no_more : (a b c h e : Bool) → b ≡ false → h ≡ false → e ≡ false → c ≡ a → (a || (h || e)) ≡ ((b || h) || c)
no_more a b c h e none nowhere not_ends same = rw (none, nowhere, not_ends, same) (or-false a)

-- with one more byte, a text contains a part if it did before or now ends with it
pub holds_more : (part xs : List ℕ) (b : ℕ) → 1 ≤ length part → holds part (xs ++ b ∷ []) ≡ (holds part xs || ends part (xs ++ b ∷ []))
holds_more part [] b some =
    rw (begins_short part [] some, begins_ends part (b ∷ []) some) (or-false (ends part (b ∷ [])))
holds_more part (x ∷ xs) b some = by_length (holds_more part xs b some) (cases_lt (length (x ∷ xs)) (length part))
  where
    longer : length (xs ++ b ∷ []) ≡ length xs + 1
    longer = length-append xs (b ∷ [])

    by_length : holds part (xs ++ b ∷ []) ≡ (holds part xs || ends part (xs ++ b ∷ [])) → (length (x ∷ xs) < length part) ⊎ (length part ≤ length (x ∷ xs))
        → holds part (x ∷ xs ++ b ∷ []) ≡ (holds part (x ∷ xs) || ends part (x ∷ xs ++ b ∷ []))
    by_length before (inl short) =
        rw before (no_more (begins part (x ∷ xs ++ b ∷ [])) (begins part (x ∷ xs)) (ends part (x ∷ xs ++ b ∷ [])) (holds part xs) (ends part (xs ++ b ∷ []))
        (begins_short part (x ∷ xs) short) (holds_short part xs (omega arith)) (ends_short part (xs ++ b ∷ []) (omega (arith, longer)))
        (sym (begins_ends part (x ∷ xs ++ b ∷ []) (omega (arith, longer)))))
    by_length before (inr long) =
        rw before (regrouped (begins part (x ∷ xs ++ b ∷ [])) (begins part (x ∷ xs)) (holds part xs) (ends part (xs ++ b ∷ [])) (ends part (x ∷ xs ++ b ∷ []))
        (begins_longer part (x ∷ xs) (b ∷ []) long) (sym (ends_longer part x (xs ++ b ∷ []) (omega (arith, longer)))))

-- the longer text contains a part if it was met before or is met at the end
pub met : (part before front : List ℕ) (b : ℕ) (was at_end : Bool) → 1 ≤ length part → was ≡ holds part before → at_end ≡ ends part front → front ≡ before ++ b ∷ [] → (was || at_end) ≡ holds part front
met part before front b was at_end some was_is at_is longer =
    (λ i. was_is i || (at_is ∙ ap (ends part) longer) i) ∙ sym (holds_more part before b some) ∙ sym (ap (holds part) longer)

-- the longer text has a byte that passes a test if one was met before or the last one passes
pub met_byte : (test : ℕ → Bool) (before front : List ℕ) (b : ℕ) (was last : Bool) → was ≡ list_any test before → last ≡ test b → front ≡ before ++ b ∷ [] → (was || last) ≡ list_any test front
met_byte test before front b was last was_is last_is longer =
    (λ i. was_is i || (last_is ∙ sym (or-false (test b))) i) ∙ sym (list_any-append test before (b ∷ [])) ∙ sym (ap (list_any test) longer)

last_of_append : (o : Option ℕ) (xs : List ℕ) (x : ℕ) → last_or o (xs ++ x ∷ []) ≡ Some x
last_of_append o [] x = refl
last_of_append o (a ∷ xs) x = last_of_append (Some a) xs x

-- a text does not end with a part whose last byte is another
ends_otherwise : (part xs : List ℕ) (x b : ℕ) → b ≢ x → ends (part ++ x ∷ []) (xs ++ b ∷ []) ≡ false
ends_otherwise part xs x b other = by_case (ends (part ++ x ∷ []) (xs ++ b ∷ [])) refl
  where
    by_case : (e : Bool) → e ≡ ends (part ++ x ∷ []) (xs ++ b ∷ []) → ends (part ++ x ∷ []) (xs ++ b ∷ []) ≡ false
    by_case false is = sym is
    by_case true is =
        let text = xs ++ b ∷ [] in
        let whole = part ++ x ∷ [] in
        let front = take (length text - length whole) text in
        let parts : text ≡ front ++ whole = (ends_is Decides-eqb text whole true is).0 refl in
        let last : Some b ≡ Some x = sym (last_of_append None xs b) ∙ ap (last_or None) (parts ∙ sym (append_assoc front part (x ∷ []))) ∙ last_of_append None (front ++ part) x in
        absurd (other (ap (λ o. unwrap_or o 0) last))

-- so after such a byte it contains the part exactly if it did before
pub unmet : (part before front : List ℕ) (x b : ℕ) (was : Bool) → b ≢ x → was ≡ holds (part ++ x ∷ []) before → front ≡ before ++ b ∷ [] → was ≡ holds (part ++ x ∷ []) front
unmet part before front x b was other was_is longer =
    let some : 1 ≤ length (part ++ x ∷ []) = rw (length-append part (x ∷ [])) (omega arith) in
    sym (or-false was) ∙ met (part ++ x ∷ []) before front b was false some was_is (sym (ap (ends (part ++ x ∷ [])) longer ∙ ends_otherwise part before x b other)) longer

-- after a byte that fails a test, it has one that passes exactly if it did before
pub unmet_byte : (test : ℕ → Bool) (before front : List ℕ) (b : ℕ) (was : Bool) → test b ≡ false → was ≡ list_any test before → front ≡ before ++ b ∷ [] → was ≡ list_any test front
unmet_byte test before front b was fails was_is longer = sym (or-false was) ∙ met_byte test before front b was false was_is (sym fails) longer

-- what a byte with which no mark ends is not
pub record IsOther (b : ℕ) : Type 0 where
  pub printed : is_unprintable b ≡ false
  pub plain : is_pattern b ≡ false
  pub dot : b ≢ 46
  pub slash : b ≢ 47
  pub backslash : b ≢ 92
  pub brace : b ≢ 123

none_of : (b c d e f g : Bool) → not (b || c || d || e || f || g) ≡ true → (b ≡ false) × (c ≡ false) × (d ≡ false) × (e ≡ false) × (f ≡ false) × (g ≡ false)
none_of false false false false false false is = (refl, refl, refl, refl, refl, refl)
none_of true c d e f g is = absurd (cc)
none_of false true d e f g is = absurd (cc)
none_of false false true e f g is = absurd (cc)
none_of false false false true f g is = absurd (cc)
none_of false false false false true g is = absurd (cc)
none_of false false false false false true is = absurd (cc)

unequal_bytes : (b x : ℕ) → (b == x) ≡ false → b ≢ x
unequal_bytes b x differs same = let equal : (b == x) ≡ true = eq-eqb b x same in absurd (cc)

pub other_of_plain : (b : ℕ) → is_plain b ≡ true → IsOther b
other_of_plain b is =
    let none = none_of (is_unprintable b) (is_pattern b) (b == 46) (b == 47) (b == 92) (b == 123) is in
    record {
      printed = none.0;
      plain = none.1;
      dot = unequal_bytes b 46 none.2;
      slash = unequal_bytes b 47 none.3;
      backslash = unequal_bytes b 92 none.4;
      brace = unequal_bytes b 123 none.5;
    }
