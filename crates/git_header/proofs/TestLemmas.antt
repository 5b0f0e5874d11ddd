-- The tests of the parts of a commit or a tag decide what the relations say.
use Rattle.std.proofs.Common.{◌≡◌, ◌≢◌, ◌≤◌, ◌⊎◌, ℕ, ◌<◌, ◌-◌, ◌^◌, ◌==◌, ◌||◌, Bool, true, false, not, nat_lt, nat_le, List, [], ◌∷◌, length, codes, slice_index, refl, arith, inl, inr}
use Rattle.std.specs.Bool.{Decides}
use Rattle.std.specs.List.{AllByRecursion, list_all}
use Rattle.std.specs.Str.{bytes_eq}
use Rattle.std.proofs.lemmas.Bool.{cases_lt}
use Rattle.std.proofs.lemmas.Bool.Decides.{nat_tests, Decides-eqb, Decides-ltb, Decides-not, Decides-and, Decides-or, Decides-by_and}
use Rattle.std.proofs.lemmas.Grind.{get_or_default_zero}
use Rattle.std.proofs.lemmas.List.{get_or_past}
use Rattle.std.proofs.lemmas.Slice.Eq.{bytes_eq-Decides}
use Rattle.git_name.specs.Name.{IsName}
use Rattle.git_name.specs.declared.kind.Kind.{Kind}
use Rattle.git_name.specs.declared.kind.Kind.TheVariants.{Blob, Tree, Commit, Tag}
use Rattle.git_name.specs.Text.{Lacks}
use Rattle.git_header.specs.Ident.{IdentValue, IsIdentText, EndsInSpace, IsZone, IsIdentValue}
use Rattle.git_header.specs.Header.{HeaderValue, IsPlain, IsOwnWord, IsKey, IsHeader}
use Rattle.git_header.specs.Tests.{lacks, is_name, is_plain, is_ident_text, ends_in_space, is_zone, is_ident, is_own_word, is_key, is_header}

pub all_decides : {X : Type 0} (p : X → Bool) (P : X → Type 0) → ((x : X) → Decides (p x) (P x)) → (xs : List X) → Decides (list_all p xs) (AllByRecursion P xs)
all_decides p P each [] = (λ t. tt, λ t. refl)
all_decides p P each (x ∷ xs) = Decides-and (p x) (list_all p xs) (each x) (all_decides p P each xs)

pub lacks_decides : (byte : ℕ) (bytes : List ℕ) → Decides (lacks byte bytes) (Lacks byte bytes)
lacks_decides byte bytes =
    Decides-by_and (λ b. not (b == byte)) (λ b. b ≢ byte) (list_all (λ b. not (b == byte))) (λ b. Decides-not (b == byte) (Decides-eqb b byte)) refl (λ _ _. refl) bytes

bytes_decides : (xs : List ℕ) → Decides (list_all (λ b. nat_lt b 256) xs) ((i : ℕ) → slice_index xs i < 256)
bytes_decides xs =
    let all = Decides-by_and (λ b. nat_lt b 256) (λ b. b < 256) (list_all (λ b. nat_lt b 256)) (λ b. Decides-ltb b 256) refl (λ _ _. refl) xs in (
      λ test i. elim (cases_lt i (length xs)) [
        | inl lt ↦ all.0 test i 0 lt
        | inr le ↦ omega (arith, get_or_past xs i 0 le)
      ],
      λ is. all.1 (λ k d within. omega (arith, is k, get_or_default_zero xs k d within)),
    )

pub name_decides : (name : List ℕ) → Decides (is_name name) (IsName name)
name_decides name =
    let parts = Decides-and _ _ (Decides-eqb (length name) 32) (bytes_decides name) in (
      λ test. let p = parts.0 test in record { length = p.0; bytes = p.1 },
      λ is. parts.1 (is.length, is.bytes),
    )

pub plain_decides : (bytes : List ℕ) → Decides (is_plain bytes) (IsPlain bytes)
plain_decides bytes =
    let parts = Decides-and _ _ (lacks_decides 10 bytes) (lacks_decides 0 bytes) in (
      λ test. let p = parts.0 test in record { no_end = p.0; no_zero = p.1 },
      λ is. parts.1 (is.no_end, is.no_zero),
    )

text_decides : (bytes : List ℕ) → Decides (is_ident_text bytes) (IsIdentText bytes)
text_decides bytes =
    let parts = Decides-and _ _ (Decides-and _ _ (lacks_decides 60 bytes) (lacks_decides 62 bytes)) (plain_decides bytes) in (
      λ test. let p = parts.0 test in record { no_open = p.0.0; no_close = p.0.1; no_end = p.1.no_end; no_zero = p.1.no_zero },
      λ is. parts.1 ((is.no_open, is.no_close), record { no_end = is.no_end; no_zero = is.no_zero }),
    )

-- one of two tests, if the second counts only when the first fails
either_decides : {P Q : Type 0} (a b : Bool) → Decides a P → Decides b Q → Decides (a || b) ((P → ⊥) → Q)
either_decides true b one two = (λ _ not. absurd (not (one.0 refl)), λ _. refl)
either_decides false b one two = (λ test _. two.0 test, λ h. two.1 (h (λ p. let e = one.1 p in let no_such : ⊥ = cc in no_such)))

spaced_decides : (bytes : List ℕ) → Decides (ends_in_space bytes) (EndsInSpace bytes)
spaced_decides bytes = either_decides (bytes_eq bytes []) (slice_index bytes (length bytes - 1) == 32) (bytes_eq-Decides bytes []) (Decides-eqb (slice_index bytes (length bytes - 1)) 32)

le_decides : (a b : ℕ) → Decides (nat_le a b) (a ≤ b)
le_decides a b = (λ test. grind (arith, nat_tests), λ le. grind (arith, nat_tests))

zone_decides : (zone : List ℕ) → Decides (is_zone zone) (IsZone zone)
zone_decides zone =
    let low = Decides-by_and (λ b. nat_le 48 b) (λ b. 48 ≤ b) (list_all (λ b. nat_le 48 b)) (λ b. le_decides 48 b) refl (λ _ _. refl) zone in
    let high = Decides-by_and (λ b. nat_le b 57) (λ b. b ≤ 57) (list_all (λ b. nat_le b 57)) (λ b. le_decides b 57) refl (λ _ _. refl) zone in
    let parts = Decides-and _ _ (Decides-and _ _ (Decides-eqb (length zone) 4) low) high in (
      λ test. let p = parts.0 test in record { four = p.0.0; low = p.0.1; high = p.1 },
      λ is. parts.1 ((is.four, is.low), is.high),
    )

pub ident_decides : (ident : IdentValue) → Decides (is_ident ident) (IsIdentValue ident)
ident_decides ident =
    let texts = Decides-and _ _ (Decides-and _ _ (text_decides ident.name) (spaced_decides ident.name)) (text_decides ident.email) in
    let parts = Decides-and _ _ (Decides-and _ _ texts (Decides-ltb ident.seconds (2 ^ 63))) (zone_decides ident.zone) in (
      λ test. let p = parts.0 test in record { name = p.0.0.0.0; spaced = p.0.0.0.1; email = p.0.0.1; seconds = p.0.1; zone = p.1 },
      λ is. parts.1 ((((is.name, is.spaced), is.email), is.seconds), is.zone),
    )

four_decides : (key a b c d : List ℕ) → Decides (bytes_eq key a || (bytes_eq key b || (bytes_eq key c || bytes_eq key d))) ((key ≡ a) ⊎ ((key ≡ b) ⊎ ((key ≡ c) ⊎ (key ≡ d))))
four_decides key a b c d = Decides-or _ _ (bytes_eq-Decides key a) (Decides-or _ _ (bytes_eq-Decides key b) (Decides-or _ _ (bytes_eq-Decides key c) (bytes_eq-Decides key d)))

word_decides : (kind : Kind) (key : List ℕ) → Decides (is_own_word kind key) (IsOwnWord kind key)
word_decides Commit key = four_decides key (codes "tree") (codes "parent") (codes "author") (codes "committer")
word_decides Tag key = four_decides key (codes "object") (codes "type") (codes "tag") (codes "tagger")
word_decides Blob key = (λ test. let no_such : ⊥ = cc in no_such, λ own. absurd own)
word_decides Tree key = (λ test. let no_such : ⊥ = cc in no_such, λ own. absurd own)

key_decides : (kind : Kind) (key : List ℕ) → Decides (is_key kind key) (IsKey kind key)
key_decides kind key =
    let shape = Decides-and _ _ (Decides-and _ _ (Decides-not (bytes_eq key []) (bytes_eq-Decides key [])) (lacks_decides 32 key)) (plain_decides key) in
    let parts = Decides-and _ _ shape (Decides-not (is_own_word kind key) (word_decides kind key)) in (
      λ test. let p = parts.0 test in record { some = p.0.0.0; no_space = p.0.0.1; plain = p.0.1; other = p.1 },
      λ is. parts.1 (((is.some, is.no_space), is.plain), is.other),
    )

pub header_decides : (kind : Kind) (header : HeaderValue) → Decides (is_header kind header) (IsHeader kind header)
header_decides kind header =
    let parts = Decides-and _ _ (Decides-and _ _ (key_decides kind header.key) (plain_decides header.value)) (all_decides is_plain IsPlain plain_decides header.more) in (
      λ test. let p = parts.0 test in record { key = p.0.0; value = p.0.1; more = p.1 },
      λ is. parts.1 ((is.key, is.value), is.more),
    )
