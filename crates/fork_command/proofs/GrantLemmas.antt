-- A word is at most one grant.
use Rattle.std.proofs.Common.{◌≡◌, ◌≢◌, ℕ, suc, ◌+◌, ◌<◌, ◌≤◌, ◌^◌, true, false, All, List, [], ◌∷◌, ◌++◌, length, map, take, drop, get_or, take-append-drop, drop-cons, add-one, take_all, Bor, Option, option_map, unwrap_or, sym, ap, ◌∙◌}
use Rattle.std.proofs.Math.Seq.{take-suc}
use Rattle.std.proofs.lemmas.List.{map-append}
use Rattle.std.specs.Fmt.{decimal}
use Rattle.std.proofs.lemmas.List.Elements.{All-weaker}
use Rattle.git_name.specs.Number.{number_in}
use Rattle.git_name.specs.Text.{split_once}
use Rattle.git_name.proofs.ReadingLemmas.{number_in-decimal}
use Rattle.git_name.proofs.TextLemmas.{split_once-append, split_once-none}
use Rattle.fork_request.specs.Names.{IsTenantName, stands_in_a_name}
use Rattle.fork_command.specs.declared.grant.Grant.{Grant}
use Rattle.fork_command.specs.Grant.{AreGrants, IsFirstBad, IsGrant, grant_word}

-- a name holds no `=`
name_plain : (name : List ℕ) → IsTenantName name → All (λ byte. byte ≢ 61) name
name_plain name named =
    All-weaker (λ x. stands_in_a_name x ≡ true) (λ x. x ≢ 61) (λ x stands is. let both : true ≡ false = sym stands ∙ ap stands_in_a_name is in absurd (cc both)) name named.bytes

-- a grant's parts are the two sides of the first `=`
pub parts_of : (name digits : List ℕ) (grant : Grant) → All (λ byte. byte ≢ 61) name → IsGrant grant → name ++ 61 ∷ digits ≡ grant_word grant → (name ≡ grant.tenant) × (digits ≡ decimal grant.limit)
parts_of name digits grant plain right is =
    let split = sym (split_once-append 61 name digits plain) ∙ (ap (split_once 61) is ∙ split_once-append 61 grant.tenant (decimal grant.limit) (name_plain grant.tenant right)) in
    (ap (λ (o : Option (List ℕ × List ℕ)). unwrap_or (option_map (λ p. p.0) o) []) split, ap (λ (o : Option (List ℕ × List ℕ)). unwrap_or (option_map (λ p. p.1) o) []) split)

pub decimal_unique : (n m : ℕ) → n < 2 ^ 64 → m < 2 ^ 64 → decimal n ≡ decimal m → n ≡ m
decimal_unique n m small other is =
    ap (λ (o : Option ℕ). unwrap_or o 0) (sym (number_in-decimal n small) ∙ (ap number_in is ∙ number_in-decimal m other))

-- a word without `=` is no grant
pub no_sign : (word : List ℕ) (grant : Grant) → All (λ byte. byte ≢ 61) word → IsGrant grant → word ≡ grant_word grant → ⊥
no_sign word grant plain right is =
    let none_is_some = sym (split_once-none 61 word plain) ∙ (ap (split_once 61) is ∙ split_once-append 61 grant.tenant (decimal grant.limit) (name_plain grant.tenant right)) in
    absurd (cc)

abbrev said : List (Bor (List ℕ)) → List (List ℕ)
said words = map (λ word. word.now) words

-- one more word that is a grant
pub more_words : (grants : List Grant) (grant : Grant) (words : List (Bor (List ℕ))) (i : ℕ) (d : Bor (List ℕ)) → i < length words → map grant_word grants ≡ said (take i words)
    → (get_or words i d).now ≡ grant_word grant → map grant_word (grants ++ grant ∷ []) ≡ said (take (i + 1) words)
more_words grants grant words i d within so_far is =
    let taken : said (take (i + 1) words) ≡ said (take i words) ++ (get_or words i d).now ∷ [] =
    ap (λ n. said (take n words)) (add-one i) ∙ (ap said (take-suc words i d within) ∙ map-append (λ word. word.now) (take i words) (get_or words i d ∷ [])) in
    map-append grant_word grants (grant ∷ []) ∙ (ap (λ (front : List (List ℕ)). front ++ grant_word grant ∷ []) so_far ∙ (ap (λ (w : List ℕ). said (take i words) ++ w ∷ []) (sym is) ∙ sym taken))

-- the first word that is not a grant
pub first_bad : (grants : List Grant) (words : List (Bor (List ℕ))) (i : ℕ) (d : Bor (List ℕ)) → i < length words → All IsGrant grants → map grant_word grants ≡ said (take i words)
    → ((grant : Grant) → IsGrant grant → (get_or words i d).now ≢ grant_word grant) → IsFirstBad (get_or words i d).now (said words)
first_bad grants words i d within right so_far bad = record {
  before = grants;
  behind = said (drop (suc i) words);
  right = right;
  parts = ap said (sym (take-append-drop i words)) ∙ (map-append (λ word. word.now) (take i words) (drop i words)
      ∙ (ap (λ (rest : List (Bor (List ℕ))). said (take i words) ++ said rest) (drop-cons words i d within) ∙ ap (λ (front : List (List ℕ)). front ++ (get_or words i d).now ∷ said (drop (suc i) words)) (sym so_far)));
  bad = bad;
}

-- all the words
pub all_words : (grants : List Grant) (words : List (Bor (List ℕ))) (i : ℕ) → length words ≤ i → All IsGrant grants → map grant_word grants ≡ said (take i words) → AreGrants grants (said words)
all_words grants words i past right so_far = record { right = right; spelled = ap said (sym (take_all i words past)) ∙ sym so_far }
