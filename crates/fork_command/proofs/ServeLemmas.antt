-- What `clap` reads from the words that a subcommand needs.
use Rattle.std.proofs.Common.{◌≡◌, ◌∙◌, sym, ap, subst, arith, refl, ℕ, ◌≤◌, ◌<◌, ◌^◌, true, codes, List, Option, Some, None, IfSome, is_some, Result, Ok, pos}
use Rattle.std.specs.Option.{option_map}
use Rattle.std.specs.Str.Parse.{ParsesUnsigned, digits_value, without_leading_plus}
use Rattle.clap.specs.Words.{IsSignedIn, ReadsOne, Row, Text, one_of, without_minus}
use Rattle.clap.proofs.CallerReads.{signed_reads}
use Rattle.fork_command.specs.Command.{IsPlaces, at_once_given}

-- a word that is given is not missing
pub absent : {X : Type 0} (o : Option X) → None ≡ o → is_some o ≡ true → ⊥
absent None none some = absurd (cc)
absent (Some x) none some = absurd (cc)

-- the number that a word is
abbrev number_of : Text → ℕ
number_of text = digits_value 10 (without_leading_plus text)

-- a text that `clap` took for a number is read as one, and as the number given
pub number_given : (E : Type 0) (G : List ℕ → Result ℕ E → Type 0) (most : ℕ) (given : Option Text) (text : Text) (r : Option ℕ) → most < 2 ^ 32 → given ≡ Some (without_minus text)
    → IsSignedIn (pos 1) (pos most) text → ReadsOne G (without_minus text) r → ((u : List ℕ) (x : Result ℕ E) → G u x → ParsesUnsigned 32 10 u x)
    → (n : ℕ) × (r ≡ Some n) × (1 ≤ n) × (n ≤ most) × (option_map number_of given ≡ Some n)
number_given E G most given text r fits one number read only =
    let got = signed_reads E G 32 1 most text r read only fits number in
    let told : G (without_minus text) (Ok got.0) = subst (ReadsOne G (without_minus text)) got.1 read in
    let is : got.0 ≡ digits_value 10 (without_leading_plus (without_minus text)) = (only _ _ told).1 in (
      got.0,
      got.1,
      got.2,
      got.3,
      ap (option_map (λ (t : List ℕ). digits_value 10 (without_leading_plus t))) one ∙ ap (λ (n : ℕ). Some n) (sym is),
    )

-- what is read for M, if it is given
pub places_given : (E : Type 0) (G : List ℕ → Result ℕ E → Type 0) (rows : List Row) (given : Option Text) (r : Option ℕ) → one_of (codes "at-once") rows ≡ given → IfSome given IsPlaces
    → (given ≡ None → r ≡ None) → ((t : Text) → given ≡ Some t → ReadsOne G t r) → ((u : List ℕ) (x : Result ℕ E) → G u x → ParsesUnsigned 32 10 u x)
    → (at_once_given rows ≡ r) × IfSome r (λ places. (1 ≤ places) × (places ≤ 256))
places_given E G rows None r one held none read only =
    let is = none refl in
    (ap (option_map number_of) one ∙ sym is, subst (λ (o : Option ℕ). IfSome o (λ places. (1 ≤ places) × (places ≤ 256))) (sym is) tt)
places_given E G rows (Some word) r one held none read only =
    let given : Some word ≡ Some (without_minus held.0) = ap (λ (t : Text). Some t) held.1 in
    let got = number_given E G 256 (Some word) held.0 r (omega arith) given held.2 (read (without_minus held.0) given) only in
    (ap (option_map number_of) one ∙ (got.4 ∙ sym got.1), subst (λ (o : Option ℕ). IfSome o (λ places. (1 ≤ places) × (places ≤ 256))) (sym got.1) (got.2, got.3))
