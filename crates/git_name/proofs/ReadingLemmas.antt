-- What is read from a text is what was written, and nothing else is read.
use Rattle.std.proofs.Common.{◌≡◌, ◌≢◌, ℕ, ◌<◌, ◌^◌, ◌*◌, ◌/◌, ◌%◌, length, eqb, Bool, true, false, cond, List, Option, Some, None, Result, Ok, Err, refl, sym, ap, subst, ◌∙◌, arith, nat_lt, ◌&&◌, decimal, unwrap_or}
use Rattle.std.specs.Str.{bytes_eq}
use Rattle.std.specs.Str.Parse.{digits_value}
use Rattle.std.proofs.lemmas.Bool.Decides.{nat_tests}
use Rattle.std.proofs.lemmas.Fmt.{decimal_is_IsNumeral}
use Rattle.std.proofs.lemmas.Slice.Eq.{bytes_eq-Decides}
use Rattle.hex.specs.Hex.{encode_lower, decode_of, decode_pairs, decode_sized}
use Rattle.hex.specs.declared.error.FromHexError.{FromHexError}
use Rattle.hex.specs.declared.error.FromHexError.TheVariants.{OddLength, InvalidStringLength}
use Rattle.hex.proofs.HexLemmas.{decode_sized-encode_lower, decode_of-ok}
use Rattle.git_name.specs.declared.kind.Kind.{Kind}
use Rattle.git_name.specs.declared.kind.Kind.TheVariants.{Blob, Tree, Commit, Tag}
use Rattle.git_name.specs.Kind.{kind_of_word, type_word}
use Rattle.git_name.specs.Name.{IsName, name_in, same_again}
use Rattle.git_name.specs.Number.{number_in}

same_bytes : (s t : List ℕ) → s ≡ t → bytes_eq s t ≡ true
same_bytes s t is = (bytes_eq-Decides s t).1 is

-- what is written is read
pub name_in-encode_lower : (name : List ℕ) → IsName name → name_in (encode_lower name) ≡ Some name
unfolding name_in
name_in-encode_lower name is_name =
    ap (same_again (encode_lower name)) (decode_sized-encode_lower name 32 is_name.length is_name.bytes)
    ∙ ap (λ (b : Bool). cond b (Some name) None) (same_bytes (encode_lower name) (encode_lower name) refl)

kept : (b : Bool) (n m : ℕ) → cond b (Some n) None ≡ Some m → (b ≡ true) × (n ≡ m)
kept true n m is = (refl, cc)
kept false n m is = absurd (cc)

kept_list : (b : Bool) (n m : List ℕ) → cond b (Some n) None ≡ Some m → (b ≡ true) × (n ≡ m)
kept_list true n m is = (refl, cc)
kept_list false n m is = absurd (cc)

both : (a b : Bool) → a && b ≡ true → (a ≡ true) × (b ≡ true)
both true true is = (refl, refl)
both true false is = absurd (cc)
both false b is = absurd (cc)

-- and what is read is written so
pub written_name : (text name : List ℕ) → name_in text ≡ Some name → text ≡ encode_lower name
unfolding name_in
written_name text name is = from (decode_sized text 32) is
  where
    from : (r : Result (List ℕ) FromHexError) → same_again text r ≡ Some name → text ≡ encode_lower name
    from (Ok found) is =
        let parts = kept_list _ found name is in
        sym ((bytes_eq-Decides (encode_lower found) text).0 parts.0) ∙ ap encode_lower parts.1
    from (Err error) is = absurd (cc)

sized : (b d : Bool) (r : Result (List ℕ) FromHexError) (name : List ℕ) → cond b (Err OddLength) (cond d r (Err InvalidStringLength)) ≡ Ok name → (b ≡ false) × (d ≡ true) × (r ≡ Ok name)
sized true d r name is = absurd (cc)
sized false true r name is = (refl, refl, is)
sized false false r name is = absurd (cc)

half : (n m : ℕ) → n ≡ 2 * m → eqb (n / 2) 32 ≡ true → m ≡ 32
half n m double is = grind (arith, nat_tests)

-- what is decoded into 32 bytes is a name
decoded_name : (text name : List ℕ) → decode_sized text 32 ≡ Ok name → IsName name
decoded_name text name is =
    let tests = sized (eqb (length text % 2) 1) (eqb (length text / 2) 32) (decode_pairs 0 text) name is in
    let whole : decode_of text ≡ Ok name = ap (λ (b : Bool). cond b (Err OddLength) (decode_pairs 0 text)) tests.0 ∙ tests.2 in
    let facts = decode_of-ok text name whole in
    record { length = half (length text) (length name) facts.2 tests.1; bytes = facts.3 }

is_name_in : (text name : List ℕ) → name_in text ≡ Some name → IsName name
unfolding name_in
is_name_in text name is = from (decode_sized text 32) refl is
  where
    from : (r : Result (List ℕ) FromHexError) → decode_sized text 32 ≡ r → same_again text r ≡ Some name → IsName name
    from (Ok found) read is = subst IsName (kept_list _ found name is).1 (decoded_name text found read)
    from (Err error) read is = absurd (cc)

none_of : {A : Type 0} (o : Option A) → ((a : A) → o ≡ Some a → ⊥) → o ≡ None
none_of None never = refl
none_of (Some a) never = absurd (never a refl)

-- so a text that writes no name reads as none
pub no_name : (text : List ℕ) → ((name : List ℕ) → IsName name → text ≢ encode_lower name) → name_in text ≡ None
no_name text never = none_of (name_in text) (λ name is. never name (is_name_in text name is) (written_name text name is))

written_as : (n m : ℕ) (b : Bool) (text : List ℕ) → bytes_eq (decimal n) text ≡ b → cond (nat_lt n (2 ^ 64) && b) (Some n) None ≡ Some m → (text ≡ decimal m) × (m < 2 ^ 64)
written_as n m b text same is =
    let parts = kept (nat_lt n (2 ^ 64) && b) n m is in
    let tests = both (nat_lt n (2 ^ 64)) b parts.0 in
    (sym ((bytes_eq-Decides (decimal n) text).0 (same ∙ tests.1)) ∙ ap decimal parts.1, subst (λ k. k < 2 ^ 64) parts.1 (below n tests.0))
  where
    below : (k : ℕ) → nat_lt k (2 ^ 64) ≡ true → k < 2 ^ 64
    below k is = grind (arith, nat_tests)

-- what is read is written so
pub written_number : (text : List ℕ) (n : ℕ) → number_in text ≡ Some n → (text ≡ decimal n) × (n < 2 ^ 64)
unfolding number_in
written_number text n is = written_as (digits_value 10 text) n (bytes_eq (decimal (digits_value 10 text)) text) text refl is

digits_again : (n v : ℕ) (b : Bool) → n < 2 ^ 64 → v ≡ n → b ≡ true → cond (nat_lt v (2 ^ 64) && b) (Some v) None ≡ Some n
digits_again n v b small is same = rw (is, same) (grind (arith, nat_tests))

-- what is written is read
pub number_in-decimal : (n : ℕ) → n < 2 ^ 64 → number_in (decimal n) ≡ Some n
unfolding number_in
number_in-decimal n small =
    let is = (decimal_is_IsNumeral n small).1 in
    digits_again n (digits_value 10 (decimal n)) _ small is (same_bytes (decimal (digits_value 10 (decimal n))) (decimal n) (ap decimal is))

-- so a text that writes no number reads as none
pub no_number : (text : List ℕ) → ((n : ℕ) → n < 2 ^ 64 → text ≢ decimal n) → number_in text ≡ None
no_number text never = none_of (number_in text) (λ n is. never n (written_number text n is).1 (written_number text n is).0)

-- what is written of a kind is read
pub kind_of_word-type_word : (kind : Kind) → kind_of_word (type_word kind) ≡ Some kind
kind_of_word-type_word Blob = refl
kind_of_word-type_word Tree = refl
kind_of_word-type_word Commit = refl
kind_of_word-type_word Tag = refl

-- a word that passes a test
the_word : (word kind_word : List ℕ) (one kind : Kind) (t : Bool) (others : Option Kind) → bytes_eq word kind_word ≡ t → kind_word ≡ type_word one → (others ≡ Some kind → word ≡ type_word kind)
    → cond t (Some one) others ≡ Some kind → word ≡ type_word kind
the_word word kind_word one kind true others same spelled rest is =
    let found : one ≡ kind = ap (λ (o : Option Kind). unwrap_or o one) is in
    (bytes_eq-Decides word kind_word).0 same ∙ spelled ∙ ap type_word found
the_word word kind_word one kind false others same spelled rest is = rest is

-- and what is read is written so
pub written_kind : (word : List ℕ) (kind : Kind) → kind_of_word word ≡ Some kind → word ≡ type_word kind
written_kind word kind =
    the_word word (type_word Blob) Blob kind (bytes_eq word (type_word Blob)) _ refl refl
    (the_word word (type_word Tree) Tree kind (bytes_eq word (type_word Tree)) _ refl refl
    (the_word word (type_word Commit) Commit kind (bytes_eq word (type_word Commit)) _ refl refl
    (the_word word (type_word Tag) Tag kind (bytes_eq word (type_word Tag)) None refl refl (λ none. absurd (cc)))))
