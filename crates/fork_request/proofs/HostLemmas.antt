-- What is asked of the host itself, and how that is spelled.
use Rattle.std.proofs.Common.{◌≡◌, ◌≢◌, ℕ, ◌<◌, ◌≤◌, ◌^◌, ◌+◌, Bool, true, false, cond, List, [], ◌∷◌, ◌++◌, Option, Some, None, refl, sym, ap, subst, ◌∙◌, inl, inr, ◌⊎◌, arith, rules, codes, decimal, length, nat_le}
use Rattle.std.specs.Str.Parse.{AllDigits, digits_value}
use Rattle.std.proofs.lemmas.Bool.Decides.{nat_tests}
use Rattle.std.proofs.lemmas.Fmt.{decimal_nonempty, digits_decimal, length-decimal-le}
use Rattle.std.proofs.lemmas.List.{length-append}
use Rattle.std.proofs.lemmas.List.Elements.{All-append, All-cons, All-from_get_or, All-tail}
use Rattle.std.proofs.lemmas.Str.Parse.{digit_at, IsNumeralModel, numerals_by_value}
use Rattle.git_name.specs.Number.{number_in}
use Rattle.git_name.specs.Text.{Lacks, split_once, words_of}
use Rattle.git_name.proofs.ReadingLemmas.{number_in-decimal, written_number}
use Rattle.git_name.proofs.TextLemmas.{split_once-append, split_once-none, words_of-append, words_of-plain}
use Rattle.fork_request.specs.Asked.{asked_host, host_alone, host_looks, host_parts, host_plain, host_sweep, host_verb, host_words}
use Rattle.fork_request.specs.declared.host_request.HostRequest.{HostRequest}
use Rattle.fork_request.specs.declared.host_request.HostRequest.TheVariants.{Sweep, Collect, Census, Fsck, Tenants, Bad}
use Rattle.fork_request.specs.declared.host_request.TheConstants.{MAX_SWEEP}
use Rattle.fork_request.specs.declared.request.TheConstants.{MAX_PAYLOAD}
use Rattle.fork_request.specs.Spelling.{HostSpells, IsWord}
use Rattle.fork_request.specs.Words.{sole}
use Rattle.fork_request.proofs.AskingLemmas.{IsSole, by_word}
use Rattle.fork_request.proofs.PartLemmas.{Parted, lacks_behind, lacks_by, parted, sole_right, some_there}
use Rattle.fork_request.proofs.WordLemmas.{host_many}

-- ---- a payload spells what it asks for

-- a payload is no request, or spells one
abbrev Right : List ℕ → HostRequest → Type 0
Right payload request = (request ≡ Bad) ⊎ HostSpells request payload

plain_right : (payload body : List ℕ) (request : HostRequest) → (body ≡ [] → HostSpells request payload) → Right payload (host_plain request body)
plain_right payload [] request spells = inr (spells refl)
plain_right payload (b ∷ body) request spells = inl refl

few : (n : ℕ) → nat_le n MAX_SWEEP ≡ true → n ≤ MAX_SWEEP
few n is = grind (arith, nat_tests)

looks_right : (payload body : List ℕ) (most : ℕ) (t : Bool) → nat_le most MAX_SWEEP ≡ t → payload ≡ codes "sweep " ++ decimal most ++ 10 ∷ body → Right payload (cond t (host_plain (Sweep most) body) Bad)
looks_right payload body most true fits is = plain_right payload body (Sweep most) (λ none. (few most fits, is ∙ ap (λ b. codes "sweep " ++ decimal most ++ 10 ∷ b) none))
looks_right payload body most false fits is = inl refl

sweep_right : (payload rest body : List ℕ) (words : Option (List ℕ)) → payload ≡ codes "sweep " ++ rest ++ 10 ∷ body → IsSole rest words → Right payload (host_sweep words body)
sweep_right payload rest body words is (inl none) = inl (ap (λ o. host_sweep o body) none)
sweep_right payload rest body words is (inr some) = subst (Right payload) (sym (ap (λ o. host_sweep o body) some.0)) (by (number_in rest) refl)
  where
    by : (o : Option ℕ) → number_in rest ≡ o → Right payload (host_looks o body)
    by None read = inl refl
    by (Some most) read = looks_right payload body most (nat_le most MAX_SWEEP) refl (is ∙ ap (λ digits. codes "sweep " ++ digits ++ 10 ∷ body) (written_number rest most read).0)

verb_right : (payload verb rest body : List ℕ) → payload ≡ (verb ++ 32 ∷ rest) ++ 10 ∷ body → Lacks 10 rest → Right payload (host_verb verb (words_of rest) body)
verb_right payload verb rest body is ends =
    by_word (Right payload) verb (codes "sweep") _ _
    (λ same. sweep_right payload rest body (sole (words_of rest)) (is ∙ ap (λ v. (v ++ 32 ∷ rest) ++ 10 ∷ body) same) (sole_right rest ends)) (inl refl)

alone_right : (payload verb body : List ℕ) → payload ≡ verb ++ 10 ∷ body → Right payload (host_alone verb body)
alone_right payload verb body is =
    let at = (λ (word : List ℕ) (same : verb ≡ word). is ∙ ap (λ v. v ++ 10 ∷ body) same) in
    by_word (Right payload) verb (codes "collect") _ _ (λ v. plain_right payload body Collect (λ none. at (codes "collect") v ∙ ap (λ b. codes "collect\n" ++ b) none))
    (by_word (Right payload) verb (codes "census") _ _ (λ v. plain_right payload body Census (λ none. at (codes "census") v ∙ ap (λ b. codes "census\n" ++ b) none))
    (by_word (Right payload) verb (codes "fsck") _ _ (λ v. plain_right payload body Fsck (λ none. at (codes "fsck") v ∙ ap (λ b. codes "fsck\n" ++ b) none))
    (by_word (Right payload) verb (codes "tenants") _ _ (λ v. plain_right payload body Tenants (λ none. at (codes "tenants") v ∙ ap (λ b. codes "tenants\n" ++ b) none)) (inl refl))))

line_right : (payload line body : List ℕ) → payload ≡ line ++ 10 ∷ body → Lacks 10 line → Right payload (host_words (words_of line) body)
line_right payload line body is ends = by (parted 32 line)
  where
    by : Lacks 32 line ⊎ Parted 32 line → Right payload (host_words (words_of line) body)
    by (inl spaces) = subst (Right payload) (sym (ap (λ ws. host_words ws body) (words_of-plain line spaces))) (alone_right payload line body is)
    by (inr part) =
        let words = ap words_of part.whole ∙ words_of-append part.front part.behind part.lacks in
        let asks = ap (λ ws. host_words ws body) words ∙ host_many part.front part.behind body in
        let behind = All-tail (λ b. b ≢ 10) 32 part.behind (lacks_behind 10 part.front (32 ∷ part.behind) (subst (Lacks 10) part.whole ends)) in
        subst (Right payload) (sym asks) (verb_right payload part.front part.behind body (is ∙ ap (λ l. l ++ 10 ∷ body) part.whole) behind)

parts_right : (payload : List ℕ) → Right payload (host_parts (split_once 10 payload))
parts_right payload = by (parted 10 payload)
  where
    by : Lacks 10 payload ⊎ Parted 10 payload → Right payload (host_parts (split_once 10 payload))
    by (inl none) = inl (ap host_parts (split_once-none 10 payload none))
    by (inr part) =
        let split = ap (split_once 10) part.whole ∙ split_once-append 10 part.front part.behind part.lacks in
        subst (Right payload) (sym (ap host_parts split)) (line_right payload part.front part.behind part.whole part.lacks)

pub host_right : (payload : List ℕ) (request : HostRequest) → asked_host payload ≡ request → request ≢ Bad → HostSpells request payload
unfolding asked_host
host_right payload request is asks = by (nat_le (length payload) MAX_PAYLOAD) is
  where
    spelled : Right payload (host_parts (split_once 10 payload)) → host_parts (split_once 10 payload) ≡ request → HostSpells request payload
    spelled (inl none) same = absurd (asks (sym same ∙ none))
    spelled (inr spells) same = subst (λ r. HostSpells r payload) same spells

    by : (b : Bool) → cond b (host_parts (split_once 10 payload)) Bad ≡ request → HostSpells request payload
    by true same = spelled (parts_right payload) same
    by false same = absurd (asks (sym same))

-- ---- and a payload asks for what it spells

-- a payload that is no longer than allowed is read by its line
host_line : (payload line body : List ℕ) → payload ≡ line ++ 10 ∷ body → Lacks 10 line → length payload ≤ MAX_PAYLOAD → asked_host payload ≡ host_words (words_of line) body
unfolding asked_host
host_line payload line body is ends fits =
    let within : nat_le (length payload) MAX_PAYLOAD ≡ true = grind (arith, nat_tests) in
    ap (λ t. cond t (host_parts (split_once 10 payload)) Bad) within ∙ ap (λ text. host_parts (split_once 10 text)) is ∙ ap host_parts (split_once-append 10 line body ends)

host_one : (payload verb : List ℕ) → payload ≡ verb ++ codes "\n" → Lacks 32 verb → Lacks 10 verb → length payload ≤ MAX_PAYLOAD → asked_host payload ≡ host_words (verb ∷ []) []
host_one payload verb is spaces ends fits = host_line payload verb [] is ends fits ∙ ap (λ words. host_words words []) (words_of-plain verb spaces)

digits_test : IsNumeralModel (AllDigits 10) (digits_value 10)
digits_test = numerals_by_value _ (search rules)

decimal_lacks : (byte : ℕ) → byte < 48 → (n : ℕ) → n < 2 ^ 64 → Lacks byte (decimal n)
decimal_lacks byte low n small =
    All-from_get_or (λ x. x ≢ byte) (decimal n) 0 (λ i within is. let range = digit_at (decimal n) i (digits_decimal digits_test n small) within in absurd (omega arith))

number_word : (n : ℕ) → n < 2 ^ 64 → IsWord (decimal n)
number_word n small = record { some = (let some = decimal_nonempty n small in omega arith); no_space = decimal_lacks 32 (omega arith) n small; no_line_end = decimal_lacks 10 (omega arith) n small }

small : (n : ℕ) → n ≤ MAX_SWEEP → n < 2 ^ 64
small n is = omega arith

fits : (n : ℕ) → n ≤ MAX_SWEEP → nat_le n MAX_SWEEP ≡ true
fits n is = grind (arith, nat_tests)

short : (payload : List ℕ) (n : ℕ) → n ≤ MAX_SWEEP → payload ≡ codes "sweep " ++ decimal n ++ codes "\n" → length payload ≤ MAX_PAYLOAD
short payload n is spells =
    let digits : length (decimal n) ≤ 7 = length-decimal-le 7 n (omega arith) (omega arith) (small n is) in
    let whole : length payload ≡ length (codes "sweep " ++ decimal n) + 1 = ap (λ (l : List ℕ). length l) spells ∙ length-append (codes "sweep " ++ decimal n) (codes "\n") in
    let front : length (codes "sweep " ++ decimal n) ≡ 6 + length (decimal n) = length-append (codes "sweep ") (decimal n) in
    omega (arith, digits, whole, front)

pub host_spelled : (payload : List ℕ) (request : HostRequest) → HostSpells request payload → asked_host payload ≡ request
host_spelled payload (Sweep most) spells =
    let word = number_word most (small most spells.0) in
    let spaces = lacks_by 32 (codes "sweep") refl in
    let ends = All-append (λ b. b ≢ 10) (codes "sweep") (32 ∷ decimal most) (lacks_by 10 (codes "sweep") refl) (All-cons (λ b. b ≢ 10) 32 (decimal most) (λ same. omega (arith, same)) word.no_line_end) in
    host_line payload (codes "sweep" ++ 32 ∷ decimal most) [] spells.1 ends (short payload most spells.0 spells.1)
    ∙ ap (λ words. host_words words []) (words_of-append (codes "sweep") (decimal most) spaces ∙ ap (λ words. codes "sweep" ∷ words) (words_of-plain (decimal most) word.no_space))
    ∙ ap (λ o. host_sweep o []) (some_there (decimal most) word.some) ∙ ap (λ o. host_looks o []) (number_in-decimal most (small most spells.0))
    ∙ ap (λ t. cond t (Sweep most) Bad) (fits most spells.0)
host_spelled payload Collect spells = host_one payload (codes "collect") spells (lacks_by 32 (codes "collect") refl) (lacks_by 10 (codes "collect") refl) (let long = ap (λ (l : List ℕ). length l) spells in omega (arith, long))
host_spelled payload Census spells = host_one payload (codes "census") spells (lacks_by 32 (codes "census") refl) (lacks_by 10 (codes "census") refl) (let long = ap (λ (l : List ℕ). length l) spells in omega (arith, long))
host_spelled payload Fsck spells = host_one payload (codes "fsck") spells (lacks_by 32 (codes "fsck") refl) (lacks_by 10 (codes "fsck") refl) (let long = ap (λ (l : List ℕ). length l) spells in omega (arith, long))
host_spelled payload Tenants spells = host_one payload (codes "tenants") spells (lacks_by 32 (codes "tenants") refl) (lacks_by 10 (codes "tenants") refl) (let long = ap (λ (l : List ℕ). length l) spells in omega (arith, long))
host_spelled payload Bad spells = absurd spells
