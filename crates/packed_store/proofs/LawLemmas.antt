-- Bytes begin with at most one record.
use Rattle.std.proofs.Common.{◌≡◌, ℕ, ◌+◌, ◌/◌, ◌%◌, ◌<◌, ◌^◌, ◌≤◌, Bool, true, false, List, [], ◌∷◌, ◌++◌, length, refl, sym, ◌∙◌, ap, append_assoc, append-nil, cond, nat_eq, arith}
use Rattle.std.proofs.lemmas.Bool.Decides.{nat_tests}
use Rattle.std.proofs.lemmas.Nat.{from_be_bytes-to_be_bytes_2, from_be_bytes-to_be_bytes_4}
use Rattle.std.specs.Int.{from_be_bytes, to_be_bytes, w16, w32}
use Rattle.sha2.specs.Sha256.{sha256}
use Rattle.sha2.proofs.Facts256.{length-sha256}
use Rattle.packed_store.specs.declared.place.TheConstants.{MAX_FILE, SHORT}
use Rattle.packed_store.specs.Entry.{Entry, File, IsEntry, Object, Removal, Settled, Short, Undone, kind_and_length, no_name, spelled, titled}
use Rattle.packed_store.specs.Reading.{CanSay}

-- the same bytes, split at the same place
pub record Both (a b x y : List ℕ) : Type 0 where
  pub front : a ≡ b
  pub back : x ≡ y

tail_of : List ℕ → List ℕ
tail_of [] = []
tail_of (x ∷ xs) = xs

head_of : List ℕ → ℕ
head_of [] = 0
head_of (x ∷ xs) = x

pub tails : (x y : ℕ) (xs ys : List ℕ) → x ∷ xs ≡ y ∷ ys → xs ≡ ys
unfolding tail_of
tails x y xs ys is = ap tail_of is

pub heads : (x y : ℕ) (xs ys : List ℕ) → x ∷ xs ≡ y ∷ ys → x ≡ y
unfolding head_of
heads x y xs ys is = ap head_of is

pub split_same : (a b x y : List ℕ) → length a ≡ length b → a ++ x ≡ b ++ y → Both a b x y
split_same [] [] x y same is = record { front = refl; back = is }
split_same [] (c ∷ b) x y same is = let never : ⊥ = omega (arith, same) in absurd never
split_same (c ∷ a) [] x y same is = let never : ⊥ = omega (arith, same) in absurd never
split_same (c ∷ a) (d ∷ b) x y same is =
    let others = split_same a b x y (omega (arith, same)) (tails c d (a ++ x) (b ++ y) is) in
    record { front = ap (λ (k : ℕ). k ∷ a) (heads c d (a ++ x) (b ++ y) is) ∙ ap (λ (k : List ℕ). d ∷ k) others.front; back = others.back }

-- a kind and a length that begin the same bytes, and what comes after them
pub record SameFront (kind other len count : ℕ) (x y : List ℕ) : Type 0 where
  pub kinds : kind ≡ other
  pub counts : len ≡ count
  pub rests : x ≡ y

-- the first of two bytes that are a kind and a length is no letter
pub no_letter : (len kind : ℕ) (rest more : List ℕ) → len < SHORT → kind < 128 → to_be_bytes w16 (SHORT + len) ++ rest ≡ kind ∷ more → ⊥
no_letter len kind rest more short letter is =
    let first : (SHORT + len) / 256 % 256 ≡ kind = heads _ kind _ more is in
    let never : ⊥ = omega (arith, short, letter, first) in
    never

front_by : (b c : Bool) (kind other len count : ℕ) (x y : List ℕ) → nat_eq kind 128 ≡ b → nat_eq other 128 ≡ c → CanSay kind len → CanSay other count
    → cond b (to_be_bytes w16 (SHORT + len)) (kind ∷ to_be_bytes w32 len) ++ x ≡ cond c (to_be_bytes w16 (SHORT + count)) (other ∷ to_be_bytes w32 count) ++ y
    → SameFront kind other len count x y
front_by true true kind other len count x y one two can could is =
    let first : kind ≡ 128 = grind (arith, nat_tests) in
    let second : other ≡ 128 = grind (arith, nat_tests) in
    let words = split_same (to_be_bytes w16 (SHORT + len)) (to_be_bytes w16 (SHORT + count)) x y refl is in
    let few : len < SHORT = can.few first in
    let fewer : count < SHORT = could.few second in
    let same : SHORT + len ≡ SHORT + count =
    sym (from_be_bytes-to_be_bytes_2 (SHORT + len) (omega (arith, few))) ∙ ap (from_be_bytes w16) words.front ∙ from_be_bytes-to_be_bytes_2 (SHORT + count) (omega (arith, fewer)) in
    record { kinds = first ∙ sym second; counts = omega (arith, same); rests = words.back }
front_by true false kind other len count x y one two can could is =
    let first : kind ≡ 128 = grind (arith, nat_tests) in
    let second : other ≡ 128 → ⊥ = λ e. grind (arith, nat_tests) in
    let letter : other < 128 = grind (arith, second, could.kinds) in
    absurd (no_letter len other x (to_be_bytes w32 count ++ y) (can.few first) letter is)
front_by false true kind other len count x y one two can could is =
    let first : other ≡ 128 = grind (arith, nat_tests) in
    let second : kind ≡ 128 → ⊥ = λ e. grind (arith, nat_tests) in
    let letter : kind < 128 = grind (arith, second, can.kinds) in
    absurd (no_letter count kind y (to_be_bytes w32 len ++ x) (could.few first) letter (sym is))
front_by false false kind other len count x y one two can could is =
    let words = split_same (to_be_bytes w32 len) (to_be_bytes w32 count) x y refl (tails kind other _ _ is) in
    let short : len < 2 ^ 32 = omega (arith, can.fits) in
    let shorted : count < 2 ^ 32 = omega (arith, could.fits) in
    record {
      kinds = heads kind other _ _ is;
      counts = sym (from_be_bytes-to_be_bytes_4 len short) ∙ ap (from_be_bytes w32) words.front ∙ from_be_bytes-to_be_bytes_4 count shorted;
      rests = words.back;
    }

-- the same bytes begin with one kind and one length at the most
pub same_front : (kind other len count : ℕ) (x y : List ℕ) → CanSay kind len → CanSay other count → kind_and_length kind len ++ x ≡ kind_and_length other count ++ y → SameFront kind other len count x y
same_front kind other len count x y can could is = front_by (nat_eq kind 128) (nat_eq other 128) kind other len count x y refl refl can could is

-- a letter, and a length that fits
pub letter_can : (kind len : ℕ) → kind < 128 → len ≤ MAX_FILE → CanSay kind len
letter_can kind len letter fits = record { kinds = omega (arith, letter); fits = fits; few = λ is. let never : ⊥ = omega (arith, letter, is) in absurd never }

-- a short length
pub few_can : (len : ℕ) → len < SHORT → CanSay 128 len
few_can len few = record { kinds = omega arith; fits = omega (arith, few); few = λ is. few }

-- the kind, the name and the bytes of what begins the same bytes
pub record Same (kind other : ℕ) (name named own owned : List ℕ) : Type 0 where
  pub kinds : kind ≡ other
  pub names : name ≡ named
  pub bytes : own ≡ owned

pub regroup : (kind : ℕ) (name own rest : List ℕ) → titled kind name own ++ rest ≡ kind_and_length kind (length own) ++ (name ++ (own ++ rest))
regroup kind name own rest = simp append_assoc

pub same_titled : (kind other : ℕ) (name named own owned rest more : List ℕ) → length name ≡ 32 → length named ≡ 32 → CanSay kind (length own) → CanSay other (length owned)
    → titled kind name own ++ rest ≡ titled other named owned ++ more → Same kind other name named own owned
same_titled kind other name named own owned rest more long longed can could is =
    let all = sym (regroup kind name own rest) ∙ is ∙ regroup other named owned more in
    let first = same_front kind other (length own) (length owned) (name ++ (own ++ rest)) (named ++ (owned ++ more)) can could all in
    let after = split_same name named (own ++ rest) (owned ++ more) (long ∙ sym longed) first.rests in
    let last = split_same own owned rest more first.counts after.back in
    record { kinds = first.kinds; names = after.front; bytes = last.front }

-- a record's kind, name and bytes, and what comes after these
pub record Title (e : Entry) : Type 0 where
  pub kind : ℕ
  pub name : List ℕ
  pub own : List ℕ
  pub behind : List ℕ
  pub long : length name ≡ 32
  pub can : CanSay kind (length own)
  pub whole : spelled e ≡ titled kind name own ++ behind

pub none_fits : length {A = ℕ} [] ≤ MAX_FILE
none_fits = omega arith

unfoldable pub title_in : (e : Entry) → IsEntry e → Title e
title_in (Object name bytes) right = record { kind = 111; name = name; own = bytes; behind = []; long = ap length right.1 ∙ length-sha256 bytes; can = letter_can 111 (length bytes) (omega arith) right.0; whole = sym (append-nil (titled 111 name bytes)) }
title_in (Short name bytes) right = record { kind = 128; name = name; own = bytes; behind = []; long = ap length right.1 ∙ length-sha256 bytes; can = few_can (length bytes) right.0; whole = sym (append-nil (titled 128 name bytes)) }
title_in (File name bytes) right = record { kind = 102; name = name; own = bytes; behind = sha256 (titled 102 name bytes); long = right.1.length; can = letter_can 102 (length bytes) (omega arith) right.0; whole = refl }
title_in (Removal name) right = record { kind = 114; name = name; own = []; behind = sha256 (titled 114 name []); long = right.length; can = letter_can 114 0 (omega arith) none_fits; whole = refl }
title_in Settled right = record { kind = 115; name = no_name; own = []; behind = sha256 (titled 115 no_name []); long = refl; can = letter_can 115 0 (omega arith) none_fits; whole = refl }
title_in Undone right = record { kind = 117; name = no_name; own = []; behind = sha256 (titled 117 no_name []); long = refl; can = letter_can 117 0 (omega arith) none_fits; whole = refl }

-- the entry of a kind, a name and bytes
entry_of : ℕ → List ℕ → List ℕ → Entry
entry_of kind name own = cond (nat_eq kind 128) (Short name own) (cond (nat_eq kind 111) (Object name own) (cond (nat_eq kind 102) (File name own) (cond (nat_eq kind 114) (Removal name) (cond (nat_eq kind 115) Settled Undone))))

entry_is : (e : Entry) (right : IsEntry e) → entry_of (title_in e right).kind (title_in e right).name (title_in e right).own ≡ e
unfolding entry_of title_in
entry_is (Object name bytes) right = refl
entry_is (Short name bytes) right = refl
entry_is (File name bytes) right = refl
entry_is (Removal name) right = refl
entry_is Settled right = refl
entry_is Undone right = refl

pub one_record : (e f : Entry) (rest other : List ℕ) → IsEntry e → IsEntry f → spelled e ++ rest ≡ spelled f ++ other → e ≡ f
one_record e f rest other right righted is =
    let one = title_in e right in
    let two = title_in f righted in
    let same = same_titled one.kind two.kind one.name two.name one.own two.own (one.behind ++ rest) (two.behind ++ other) one.long two.long one.can two.can
    (sym (append_assoc (titled one.kind one.name one.own) one.behind rest) ∙ ap (λ (b : List ℕ). b ++ rest) (sym one.whole) ∙ is
    ∙ ap (λ (b : List ℕ). b ++ other) two.whole ∙ append_assoc (titled two.kind two.name two.own) two.behind other) in
    sym (entry_is e right) ∙ ap (λ (k : ℕ). entry_of k one.name one.own) same.kinds ∙ ap (λ (n : List ℕ). entry_of two.kind n one.own) same.names
    ∙ ap (entry_of two.kind two.name) same.bytes ∙ entry_is f righted
