-- A title, and what comes after it, are a record.
use Rattle.std.proofs.Common.{◌≡◌, ℕ, zero, suc, ◌+◌, ◌≤◌, Bool, true, false, cond, nat_eq, List, [], ◌∷◌, ◌++◌, length, take, drop, refl, sym, ◌∙◌, ap, subst, append_assoc, length-append, get_or, ◌<◌, take-append-drop, lit<, arith}
use Rattle.std.proofs.lemmas.Bool.Decides.{nat_tests}
use Rattle.std.proofs.lemmas.List.{length-take-le}
use Rattle.std.proofs.lemmas.Nat.{be_bytes_2, be_bytes_4}
use Rattle.std.specs.Int.{from_be_bytes}
use Rattle.git_name.specs.Name.{IsName}
use Rattle.std.proofs.Math.Seq.{drop-append-add, take-append-add}
use Rattle.std.specs.Int.{to_be_bytes, w16, w32}
use Rattle.sha2.specs.Sha256.{sha256}
use Rattle.sha2.proofs.Facts256.{length-sha256}
use Rattle.packed_store.specs.declared.place.TheConstants.{MAX_FILE, SHORT, SHORT_TITLE, TITLE}
use Rattle.packed_store.specs.declared.reading.Word.{Word}
use Rattle.packed_store.specs.declared.reading.Word.TheVariants as word
use Rattle.packed_store.specs.Entry.{Entry, File, IsEntry, Object, Removal, Settled, Short, Undone, before_own, kind_and_length, no_name, spelled, summed, title_size, titled}
use Rattle.packed_store.specs.Reading.{Begins, IsSummed, IsTitle, Tells, title_bytes}
use Rattle.packed_store.proofs.LawLemmas.{few_can, letter_can}

sized : (b : Bool) (kind len : ℕ) → length (cond b (to_be_bytes w16 (SHORT + len)) (kind ∷ to_be_bytes w32 len)) + 32 ≡ cond b SHORT_TITLE TITLE
sized true kind len = refl
sized false kind len = refl

pub length_title : (kind len : ℕ) (name : List ℕ) → length name ≡ 32 → length (title_bytes kind len name) ≡ title_size kind
length_title kind len name is =
    length-append (kind_and_length kind len) name ∙ ap (λ (n : ℕ). length (kind_and_length kind len) + n) is ∙ sized (nat_eq kind 128) kind len

letter_by : (b : Bool) (kind len : ℕ) → (b ≡ true → ⊥) → cond b (to_be_bytes w16 (SHORT + len)) (kind ∷ to_be_bytes w32 len) ≡ kind ∷ to_be_bytes w32 len
letter_by true kind len never = absurd (never refl)
letter_by false kind len never = refl

-- a letter and a length
pub letter_front : (kind len : ℕ) → kind < 128 → kind_and_length kind len ≡ kind ∷ to_be_bytes w32 len
letter_front kind len letter = letter_by (nat_eq kind 128) kind len (λ e. let is : kind ≡ 128 = grind (arith, nat_tests) in let never : ⊥ = omega (arith, is, letter) in never)

most_by : (b : Bool) → cond b SHORT_TITLE TITLE ≤ 37
most_by true = omega arith
most_by false = omega arith

-- no title is longer
pub size_most : (kind : ℕ) → title_size kind ≤ 37
size_most kind = most_by (nat_eq kind 128)

-- the first bytes behind a title, and the others
pub record Parts (kind len : ℕ) (bytes name rest : List ℕ) : Type 0 where
  pub own : List ℕ
  pub behind : List ℕ
  pub counted : length own ≡ len
  pub front : take (title_size kind + len) bytes ≡ titled kind name own
  pub back : drop (title_size kind + len) bytes ≡ behind
  pub whole : bytes ≡ titled kind name own ++ behind
  pub first : own ≡ take len rest

pub parts_of : (kind len : ℕ) (bytes name rest : List ℕ) → IsTitle bytes kind len name rest → len ≤ length rest → Parts kind len bytes name rest
parts_of kind len bytes name rest title long =
    let own = take len rest in
    let counted : length own ≡ len = length-take-le len rest long in
    let head = title_bytes kind len name in
    let all : head ++ own ≡ titled kind name own =
    append_assoc (kind_and_length kind len) name own ∙ ap (λ (n : ℕ). kind_and_length kind n ++ (name ++ own)) (sym counted)
    ∙ sym (append_assoc (kind_and_length kind (length own)) name own) in
    let long_title = length_title kind len name title.named.length in
    let size = title_size kind in
    let front : take (size + len) bytes ≡ titled kind name own =
    ap (take (size + len)) title.whole ∙ ap (λ (n : ℕ). take (n + len) (head ++ rest)) (sym long_title) ∙ take-append-add head rest len ∙ all in
    let back : drop (size + len) bytes ≡ drop len rest =
    ap (drop (size + len)) title.whole ∙ ap (λ (n : ℕ). drop (n + len) (head ++ rest)) (sym long_title) ∙ drop-append-add head rest len in
    record {
      own = own;
      behind = drop len rest;
      counted = counted;
      front = front;
      back = back;
      whole = sym (take-append-drop (size + len) bytes) ∙ ap (λ (b : List ℕ). b ++ drop (size + len) bytes) front ∙ ap (λ (b : List ℕ). titled kind name own ++ b) back;
      first = refl;
    }

pub length_titled : (kind : ℕ) (name bytes : List ℕ) → length name ≡ 32 → length (titled kind name bytes) ≡ title_size kind + length bytes
length_titled kind name bytes is =
    length-append (kind_and_length kind (length bytes) ++ name) bytes ∙ ap (λ (n : ℕ). n + length bytes) (length_title kind (length bytes) name is)

pub length_rest : (kind len : ℕ) (bytes name rest : List ℕ) → IsTitle bytes kind len name rest → length bytes ≡ title_size kind + length rest
length_rest kind len bytes name rest title =
    ap length title.whole ∙ length-append (title_bytes kind len name) rest ∙ ap (λ (n : ℕ). n + length rest) (length_title kind len name title.named.length)

-- an object's record
pub begins_object : (len : ℕ) (bytes name rest : List ℕ) → IsTitle bytes 111 len name rest → len ≤ length rest → name ≡ sha256 (take len rest) → Begins bytes word.Object name TITLE len (37 + len)
begins_object len bytes name rest title long named =
    let parts = parts_of 111 len bytes name rest title long in
    record {
      entry = Object name parts.own;
      rest = parts.behind;
      right = (omega (arith, title.right.fits, parts.counted), named ∙ ap sha256 (sym parts.first));
      whole = parts.whole;
      tells = (refl, refl, sym parts.counted);
      titled = refl;
      counted = ap (λ (n : ℕ). 37 + n) (sym parts.counted) ∙ sym (length_titled 111 name parts.own title.named.length);
    }

-- and a short one
pub begins_short : (len : ℕ) (bytes name rest : List ℕ) → IsTitle bytes 128 len name rest → len ≤ length rest → name ≡ sha256 (take len rest) → Begins bytes word.Object name SHORT_TITLE len (34 + len)
begins_short len bytes name rest title long named =
    let parts = parts_of 128 len bytes name rest title long in
    record {
      entry = Short name parts.own;
      rest = parts.behind;
      right = (omega (arith, title.right.few refl, parts.counted), named ∙ ap sha256 (sym parts.first));
      whole = parts.whole;
      tells = (refl, refl, sym parts.counted);
      titled = refl;
      counted = ap (λ (n : ℕ). 34 + n) (sym parts.counted) ∙ sym (length_titled 128 name parts.own title.named.length);
    }

-- what ends with a sum
pub record Sums (kind len : ℕ) (bytes name : List ℕ) : Type 0 where
  pub own : List ℕ
  pub behind : List ℕ
  pub counted : length own ≡ len
  pub whole : bytes ≡ summed (titled kind name own) ++ behind
  pub size : title_size kind + len + 32 ≡ length (summed (titled kind name own))

pub sums_of : (kind len : ℕ) (bytes name rest : List ℕ) → IsTitle bytes kind len name rest → IsSummed (title_size kind + len) bytes → Sums kind len bytes name
sums_of kind len bytes name rest title sum =
    let all = length_rest kind len bytes name rest title in
    let long : len ≤ length rest = omega (arith, all, sum.long) in
    let parts = parts_of kind len bytes name rest title long in
    let own = titled kind name parts.own in
    let is : take 32 parts.behind ≡ sha256 own = ap (take 32) (sym parts.back) ∙ sum.sum ∙ ap sha256 parts.front in
    record {
      own = parts.own;
      behind = drop 32 parts.behind;
      counted = parts.counted;
      whole =
          parts.whole ∙ ap (λ (b : List ℕ). own ++ b) (sym (take-append-drop 32 parts.behind) ∙ ap (λ (b : List ℕ). b ++ drop 32 parts.behind) is)
          ∙ sym (append_assoc own (sha256 own) (drop 32 parts.behind));
      size =
          ap (λ (n : ℕ). title_size kind + n + 32) (sym parts.counted) ∙ ap (λ (n : ℕ). n + 32) (sym (length_titled kind name parts.own title.named.length))
          ∙ ap (λ (n : ℕ). length own + n) (sym (length-sha256 own)) ∙ sym (length-append own (sha256 own));
    }

-- a file's record
pub begins_file : (len : ℕ) (bytes name rest : List ℕ) → IsTitle bytes 102 len name rest → IsSummed (37 + len) bytes → Begins bytes word.File name TITLE len (37 + len + 32)
begins_file len bytes name rest title sum =
    let sums = sums_of 102 len bytes name rest title sum in
    record {
      entry = File name sums.own;
      rest = sums.behind;
      right = (omega (arith, title.right.fits, sums.counted), title.named);
      whole = sums.whole;
      tells = (refl, refl, sym sums.counted);
      titled = refl;
      counted = sums.size;
    }

none_own : (xs : List ℕ) → length xs ≡ 0 → xs ≡ []
none_own [] is = refl
none_own (x ∷ xs) is = let never : ⊥ = omega (arith, is) in absurd never

-- the record of a removal
pub begins_removal : (bytes name rest : List ℕ) → IsTitle bytes 114 0 name rest → IsSummed 37 bytes → Begins bytes word.Removal name TITLE 0 69
begins_removal bytes name rest title sum =
    let sums = sums_of 114 0 bytes name rest title sum in
    let none = none_own sums.own sums.counted in
    record {
      entry = Removal name;
      rest = sums.behind;
      right = title.named;
      whole = sums.whole ∙ ap (λ (b : List ℕ). summed (titled 114 name b) ++ sums.behind) none;
      tells = (refl, refl, refl);
      titled = refl;
      counted = sums.size ∙ ap (λ (b : List ℕ). length (summed (titled 114 name b))) none;
    }

-- the record that removals are final
pub begins_settled : (bytes name rest : List ℕ) → IsTitle bytes 115 0 name rest → name ≡ no_name → IsSummed 37 bytes → Begins bytes word.Settled name TITLE 0 69
begins_settled bytes name rest title zeros sum =
    let sums = sums_of 115 0 bytes name rest title sum in
    let none = none_own sums.own sums.counted in
    record {
      entry = Settled;
      rest = sums.behind;
      right = tt;
      whole = sums.whole ∙ ap (λ (b : List ℕ). summed (titled 115 name b) ++ sums.behind) none ∙ ap (λ (n : List ℕ). summed (titled 115 n []) ++ sums.behind) zeros;
      tells = (refl, refl);
      titled = refl;
      counted = sums.size ∙ ap (λ (b : List ℕ). length (summed (titled 115 name b))) none ∙ ap (λ (n : List ℕ). length (summed (titled 115 n []))) zeros;
    }

-- the record that removals are undone
pub begins_undone : (bytes name rest : List ℕ) → IsTitle bytes 117 0 name rest → name ≡ no_name → IsSummed 37 bytes → Begins bytes word.Undone name TITLE 0 69
begins_undone bytes name rest title zeros sum =
    let sums = sums_of 117 0 bytes name rest title sum in
    let none = none_own sums.own sums.counted in
    record {
      entry = Undone;
      rest = sums.behind;
      right = tt;
      whole = sums.whole ∙ ap (λ (b : List ℕ). summed (titled 117 name b) ++ sums.behind) none ∙ ap (λ (n : List ℕ). summed (titled 117 n []) ++ sums.behind) zeros;
      tells = (refl, refl);
      titled = refl;
      counted = sums.size ∙ ap (λ (b : List ℕ). length (summed (titled 117 name b))) none ∙ ap (λ (n : List ℕ). length (summed (titled 117 n []))) zeros;
    }

pub told_within : (entry : Entry) (said : Word) (named : List ℕ) (len : ℕ) → IsEntry entry → Tells entry said named len → before_own entry + len ≤ length (spelled entry)
told_within (Object name bytes) said named len right tells = omega (arith, tells.2, length_titled 111 name bytes (ap length right.1 ∙ length-sha256 bytes))
told_within (Short name bytes) said named len right tells = omega (arith, tells.2, length_titled 128 name bytes (ap length right.1 ∙ length-sha256 bytes))
told_within (File name bytes) said named len right tells = omega (arith, tells.2, length_titled 102 name bytes right.1.length, length-append (titled 102 name bytes) (sha256 (titled 102 name bytes)))
told_within (Removal name) said named len right tells = omega (arith, tells.2, length_titled 114 name [] right.length, length-append (titled 114 name []) (sha256 (titled 114 name [])))
told_within Settled said named len right tells = omega (arith, tells.1, length_titled 115 no_name [] refl, length-append (titled 115 no_name []) (sha256 (titled 115 no_name [])))
told_within Undone said named len right tells = omega (arith, tells.1, length_titled 117 no_name [] refl, length-append (titled 117 no_name []) (sha256 (titled 117 no_name [])))

-- a title has bytes
pub before_least : (entry : Entry) → 34 ≤ before_own entry
before_least (Object name bytes) = omega arith
before_least (Short name bytes) = omega arith
before_least (File name bytes) = omega arith
before_least (Removal name) = omega arith
before_least Settled = omega arith
before_least Undone = omega arith

-- a record has its title and its bytes, and is in the bytes that it begins
pub begins_within : (bytes named : List ℕ) (said : Word) (before len size : ℕ) → Begins bytes said named before len size → (before + len ≤ size) × (size ≤ length bytes)
begins_within bytes named said before len size begins =
    let own = told_within begins.entry said named len begins.right begins.tells in
    (omega (arith, own, begins.titled, begins.counted), omega (arith, begins.counted, ap length begins.whole, length-append (spelled begins.entry) begins.rest))

small_take : (n : ℕ) (xs : List ℕ) → ((i : ℕ) → get_or xs i 0 < 256) → (i : ℕ) → get_or (take n xs) i 0 < 256
small_take zero xs all i = lit< tt
small_take (suc n) [] all i = lit< tt
small_take (suc n) (x ∷ xs) all zero = all 0
small_take (suc n) (x ∷ xs) all (suc i) = small_take n xs (λ j. all (suc j)) i

small_rest : (bytes rest : List ℕ) (k : ℕ) → bytes ≡ k ∷ rest → ((i : ℕ) → get_or bytes i 0 < 256) → (i : ℕ) → get_or rest i 0 < 256
small_rest bytes rest k is all i = subst (λ (xs : List ℕ). get_or xs (suc i) 0 < 256) is (all (suc i))

-- a title that begins with a letter, part by part
pub title_is : (bytes first second third word name : List ℕ) (kind len : ℕ) → ((i : ℕ) → get_or bytes i 0 < 256) → bytes ≡ kind ∷ first → word ≡ take 4 first → second ≡ drop 4 first → length second + 4 ≡ length first
    → name ≡ take 32 second → third ≡ drop 32 second → len ≡ from_be_bytes w32 word → IsName name → kind < 128 → len ≤ MAX_FILE → IsTitle bytes kind len name third
title_is bytes first second third word name kind len small whole word_is second_is long name_is third_is len_is named letter fits =
    let four : length word ≡ 4 = ap length word_is ∙ length-take-le 4 first (omega arith) in
    let spelled : to_be_bytes w32 len ≡ word = be_bytes_4 word len four (subst (λ (xs : List ℕ). (i : ℕ) → get_or xs i 0 < 256) (sym word_is) (small_take 4 first (small_rest bytes first kind whole small))) len_is in
    let front : first ≡ word ++ second = sym (take-append-drop 4 first) ∙ ap (λ (b : List ℕ). b ++ drop 4 first) (sym word_is) ∙ ap (λ (b : List ℕ). word ++ b) (sym second_is) in
    let back : second ≡ name ++ third = sym (take-append-drop 32 second) ∙ ap (λ (b : List ℕ). b ++ drop 32 second) (sym name_is) ∙ ap (λ (b : List ℕ). name ++ b) (sym third_is) in
    let all : bytes ≡ (kind ∷ to_be_bytes w32 len ++ name) ++ third =
    whole ∙ ap (λ (b : List ℕ). kind ∷ b) (front ∙ ap (λ (b : List ℕ). b ++ second) (sym spelled) ∙ ap (λ (b : List ℕ). to_be_bytes w32 len ++ b) back)
    ∙ sym (append_assoc (kind ∷ to_be_bytes w32 len) name third) in
    record {
      whole = all ∙ ap (λ (b : List ℕ). (b ++ name) ++ third) (sym (letter_front kind len letter));
      named = named;
      right = letter_can kind len letter fits;
    }

-- a short title, part by part
pub short_title_is : (bytes second third word name : List ℕ) (count len : ℕ) → ((i : ℕ) → get_or bytes i 0 < 256) → word ≡ take 2 bytes → second ≡ drop 2 bytes → length second + 2 ≡ length bytes
    → name ≡ take 32 second → third ≡ drop 32 second → count ≡ from_be_bytes w16 word → IsName name → SHORT + len ≡ count → count < 65536 → IsTitle bytes 128 len name third
short_title_is bytes second third word name count len small word_is second_is long name_is third_is count_is named len_is fits =
    let two : length word ≡ 2 = ap length word_is ∙ length-take-le 2 bytes (omega arith) in
    let spelled : to_be_bytes w16 count ≡ word = be_bytes_2 word count two (subst (λ (xs : List ℕ). (i : ℕ) → get_or xs i 0 < 256) (sym word_is) (small_take 2 bytes small)) count_is in
    let front : bytes ≡ word ++ second = sym (take-append-drop 2 bytes) ∙ ap (λ (b : List ℕ). b ++ drop 2 bytes) (sym word_is) ∙ ap (λ (b : List ℕ). word ++ b) (sym second_is) in
    let back : second ≡ name ++ third = sym (take-append-drop 32 second) ∙ ap (λ (b : List ℕ). b ++ drop 32 second) (sym name_is) ∙ ap (λ (b : List ℕ). name ++ b) (sym third_is) in
    record {
      whole =
          front ∙ ap (λ (b : List ℕ). b ++ second) (sym spelled ∙ ap (to_be_bytes w16) (sym len_is)) ∙ ap (λ (b : List ℕ). to_be_bytes w16 (SHORT + len) ++ b) back
          ∙ sym (append_assoc (to_be_bytes w16 (SHORT + len)) name third);
      named = named;
      right = few_can len (omega (arith, len_is, fits));
    }
