-- An ident is read in one way only.
use Rattle.std.proofs.Common.{◌≡◌, ℕ, ◌<◌, ◌^◌, ◌+◌, get_or, List, ◌∷◌, ◌++◌, length, refl, sym, ap, subst, ◌∙◌, arith}
use Rattle.std.specs.Fmt.{decimal}
use Rattle.std.proofs.lemmas.Fmt.{decimal_injective}
use Rattle.git_header.specs.declared.ident.Sign.{Sign}
use Rattle.git_header.specs.declared.ident.Sign.TheVariants.{Plus, Minus}
use Rattle.git_header.specs.Ident.{IdentValue, IsIdent, IsIdentValue, sign_byte, spelled_time}
use Rattle.git_name.specs.Text.{Lacks}
use Rattle.git_header.proofs.Splits.{split_unique, tails, heads, decimal_without}

abbrev made : List ℕ → List ℕ → ℕ → Sign → List ℕ → IdentValue
made name email seconds sign zone = record { name = name; email = email; seconds = seconds; sign = sign; zone = zone }

small_of : (n : ℕ) → n < 2 ^ 63 → n < 2 ^ 64
small_of n small = omega arith

same_sign : (s t : Sign) → sign_byte s ≡ sign_byte t → s ≡ t
same_sign Plus Plus e = refl
same_sign Plus Minus e = absurd (omega arith)
same_sign Minus Plus e = absurd (omega arith)
same_sign Minus Minus e = refl

-- what follows the first space
pub time_rest : (text rest : List ℕ) (m : ℕ) (s : Sign) (zone : List ℕ) → text ≡ 32 ∷ rest → text ≡ spelled_time m s zone → rest ≡ decimal m ++ 32 ∷ sign_byte s ∷ zone
time_rest text rest m s zone whole is = tails 32 32 _ _ (sym whole ∙ is)

-- the two sides of the space after the seconds
pub time_parts : (text rest b after : List ℕ) (m : ℕ) (s : Sign) (zone : List ℕ) → m < 2 ^ 63 → text ≡ 32 ∷ rest → rest ≡ b ++ 32 ∷ after → Lacks 32 b → text ≡ spelled_time m s zone → (b ≡ decimal m) × (after ≡ sign_byte s ∷ zone)
time_parts text rest b after m s zone small whole cut lacks is =
    split_unique 32 b after (decimal m) (sign_byte s ∷ zone) lacks (decimal_without 32 (omega arith) m (small_of m small)) (sym cut ∙ time_rest text rest m s zone whole is)

-- and the sign is the first byte after it
pub sign_first : (text rest b after : List ℕ) (m : ℕ) (s : Sign) (zone : List ℕ) → m < 2 ^ 63 → text ≡ 32 ∷ rest → rest ≡ b ++ 32 ∷ after → Lacks 32 b → text ≡ spelled_time m s zone → (length after ≡ length zone + 1) × (get_or after 0 0 ≡ sign_byte s)
sign_first text rest b after m s zone small whole cut lacks is =
    let parts = time_parts text rest b after m s zone small whole cut lacks is in
    let len : length after ≡ length (sign_byte s ∷ zone) = ap length parts.1 in
    (omega arith, ap (λ (t : List ℕ). get_or t 0 0) parts.1)

-- a time is spelled in one way only
pub time_unique : (n m : ℕ) (s t : Sign) (y z : List ℕ) → n < 2 ^ 64 → m < 2 ^ 63 → spelled_time n s y ≡ spelled_time m t z → (n ≡ m) × (s ≡ t) × (y ≡ z)
time_unique n m s t y z small_n small_m e =
    let parts = time_parts (spelled_time n s y) (decimal n ++ 32 ∷ sign_byte s ∷ y) (decimal n) (sign_byte s ∷ y) m t z small_m refl refl (decimal_without 32 (omega arith) n small_n) e in
    (decimal_injective n m small_n (small_of m small_m) parts.0, same_sign s t (heads _ _ y z parts.1), tails _ _ y z parts.1)

-- the two sides of the first angle bracket
pub name_side : (a rest : List ℕ) (v : IdentValue) → Lacks 60 a → IsIdent v (a ++ 60 ∷ rest) → (a ≡ v.name) × (rest ≡ v.email ++ 62 ∷ spelled_time v.seconds v.sign v.zone)
name_side a rest v lacks is = split_unique 60 a rest v.name (v.email ++ 62 ∷ spelled_time v.seconds v.sign v.zone) lacks is.right.name.no_open is.spelling

-- and those of the second one
pub email_side : (b rest : List ℕ) (v : IdentValue) → Lacks 62 b → IsIdentValue v → b ++ 62 ∷ rest ≡ v.email ++ 62 ∷ spelled_time v.seconds v.sign v.zone → (b ≡ v.email) × (rest ≡ spelled_time v.seconds v.sign v.zone)
email_side b rest v lacks right e = split_unique 62 b rest v.email (spelled_time v.seconds v.sign v.zone) lacks right.email.no_close e

same_parts : {a a' b b' : List ℕ} {n n' : ℕ} {s s' : Sign} {z z' : List ℕ} → a ≡ a' → b ≡ b' → n ≡ n' → s ≡ s' → z ≡ z' → made a b n s z ≡ made a' b' n' s' z'
same_parts {a} {a'} {b} {b'} {n} {n'} {s} {s'} {z} {z'} p q r t u =
    ap (λ x. made x b n s z) p ∙ ap (λ x. made a' x n s z) q ∙ ap (λ x. made a' b' x s z) r ∙ ap (λ x. made a' b' n' x z) t ∙ ap (λ x. made a' b' n' s' x) u

-- what was read in parts is the ident that the text is
pub parts_are : (text a b rest after y : List ℕ) (n : ℕ) (s : Sign) (v : IdentValue) → text ≡ a ++ 60 ∷ rest → Lacks 60 a → rest ≡ b ++ 62 ∷ after → Lacks 62 b → after ≡ spelled_time n s y → n < 2 ^ 64 → IsIdent v text → v ≡ made a b n s y
parts_are text a b rest after y n s v whole first whole_2 first_2 time small is =
    let one = name_side a rest v first (subst (IsIdent v) whole is) in
    let two = email_side b after v first_2 is.right (sym whole_2 ∙ one.1) in
    let three = time_unique n v.seconds s v.sign y v.zone small is.right.seconds (sym time ∙ two.1) in
    same_parts (sym one.0) (sym two.0) (sym three.0) (sym three.1) (sym three.2)

-- a text is at most one ident
pub ident_unique : (text : List ℕ) (v w : IdentValue) → IsIdent v text → IsIdent w text → w ≡ v
ident_unique text v w one two =
    parts_are text v.name v.email _ _ v.zone v.seconds v.sign w one.spelling one.right.name.no_open refl one.right.email.no_close refl (small_of v.seconds one.right.seconds) two
