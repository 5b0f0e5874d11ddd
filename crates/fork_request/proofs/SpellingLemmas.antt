-- A payload that is spelled as a request asks for it.
use Rattle.std.proofs.Common.{◌≡◌, ◌≢◌, ℕ, suc, ◌<◌, ◌≤◌, ◌/◌, ◌%◌, true, not, eqb, cond, get_or, option_map, All, List, [], ◌∷◌, ◌++◌, Some, None, refl, sym, ap, ◌∙◌, arith, codes, length, nat_le, rules}
use Rattle.std.specs.List.{AllByRecursion, list_all}
use Rattle.std.proofs.lemmas.Bool.Decides.{nat_tests}
use Rattle.std.proofs.lemmas.List.{append-nil, append_assoc}
use Rattle.std.proofs.lemmas.List.Elements.{All-append, All-cons, All-from_recursion, All-nil, All-weaker}
use Rattle.hex.specs.Hex.{IsBytes, encode_lower, encode_with, lower_digits}
use Rattle.hex.proofs.HexLemmas.{length-encode_with}
use Rattle.git_name.specs.Name.{IsName}
use Rattle.git_name.specs.Text.{Lacks, split_once, words_of}
use Rattle.git_name.proofs.ReadingLemmas.{name_in-encode_lower}
use Rattle.git_name.proofs.TextLemmas.{split_once-append, words_of-append, words_of-plain}
use Rattle.fork_request.specs.Asked.{Ask, Inits, Drops, Forks, Pushes, SendsPart, EndsParts, DropsParts, Updates, SetsHead, MakesOffer, Withdraws, ForksOffer, AsksObject, AsksTree, AsksRevisions, AsksBases, AsksReferences, AsksHead, AsksOffers, AsksRepositories, Fetches, AsksUse, Prunes, NoRequest, asked, asked_bases, asked_cat_file, asked_drop, asked_fetch, asked_fork, asked_fork_offer, asked_head, asked_init, asked_ls_tree, asked_object, asked_offer, asked_part_end, asked_parts, asked_push, asked_references, asked_revisions, asked_set_head, asked_tree, asked_update, asked_withdraw, asked_words}
use Rattle.fork_request.specs.declared.request.TheConstants.{MAX_PAYLOAD}
use Rattle.fork_request.specs.Spelling.{AreItems, IsItem, IsWord, Spells, behind_spaces}
use Rattle.fork_request.specs.Words.{all_words, and_items, and_word, both_words, items_in, some_word}
use Rattle.fork_request.proofs.ItemLemmas.{behind_lacks, items_there, words_of-behind}
use Rattle.fork_request.proofs.PartLemmas.{lacks_by, some_there, three_line}

-- a verb: a word that is written out
pub record IsVerb (verb : List ℕ) : Type 0 where
  pub spaces : All (λ b. b ≢ 32) verb
  pub ends : All (λ b. b ≢ 10) verb

-- a payload that is no longer than allowed is read by its line
asked_line : (payload line body : List ℕ) → payload ≡ line ++ 10 ∷ body → Lacks 10 line → length payload ≤ MAX_PAYLOAD → asked payload ≡ asked_words (words_of line) body
unfolding asked
asked_line payload line body is ends fits =
    let within : nat_le (length payload) MAX_PAYLOAD ≡ true = grind (arith, nat_tests) in
    ap (λ t. cond t (asked_parts (split_once 10 payload)) NoRequest) within ∙ ap (λ text. asked_parts (split_once 10 text)) is ∙ ap asked_parts (split_once-append 10 line body ends)

alone : (payload verb body : List ℕ) → IsVerb verb → payload ≡ verb ++ 10 ∷ body → length payload ≤ MAX_PAYLOAD → asked payload ≡ asked_words (verb ∷ []) body
alone payload verb body is_verb is fits = asked_line payload verb body is is_verb.ends fits ∙ ap (λ words. asked_words words body) (words_of-plain verb is_verb.spaces)

with_word : (payload verb word body : List ℕ) → IsVerb verb → IsWord word → payload ≡ (verb ++ 32 ∷ word) ++ 10 ∷ body → length payload ≤ MAX_PAYLOAD → asked payload ≡ asked_words (verb ∷ word ∷ []) body
with_word payload verb word body is_verb is_word is fits =
    asked_line payload (verb ++ 32 ∷ word) body is (All-append (λ b. b ≢ 10) verb (32 ∷ word) is_verb.ends (All-cons (λ b. b ≢ 10) 32 word (λ same. omega (arith, same)) is_word.no_line_end)) fits
    ∙ ap (λ words. asked_words words body) (words_of-append verb word is_verb.spaces ∙ ap (λ words. verb ∷ words) (words_of-plain word is_word.no_space))

with_two : (payload verb one two body : List ℕ) → IsVerb verb → IsWord one → IsWord two → payload ≡ (verb ++ 32 ∷ (one ++ 32 ∷ two)) ++ 10 ∷ body → length payload ≤ MAX_PAYLOAD → asked payload ≡ asked_words (verb ∷ one ∷ two ∷ []) body
with_two payload verb one two body is_verb is_one is_two is fits =
    let second = All-cons (λ b. b ≢ 10) 32 two (λ same. omega (arith, same)) is_two.no_line_end in
    let words = All-cons (λ b. b ≢ 10) 32 (one ++ 32 ∷ two) (λ same. omega (arith, same)) (All-append (λ b. b ≢ 10) one (32 ∷ two) is_one.no_line_end second) in
    asked_line payload (verb ++ 32 ∷ (one ++ 32 ∷ two)) body is (All-append (λ b. b ≢ 10) verb (32 ∷ (one ++ 32 ∷ two)) is_verb.ends words) fits
    ∙ ap (λ ws. asked_words ws body) (words_of-append verb (one ++ 32 ∷ two) is_verb.spaces ∙ ap (λ ws. verb ∷ ws) (words_of-append one two is_one.no_space ∙ ap (λ ws. one ∷ ws) (words_of-plain two is_two.no_space)))

with_words : (payload verb : List ℕ) (words : List (List ℕ)) (body : List ℕ) → IsVerb verb → All IsWord words → payload ≡ (verb ++ behind_spaces words) ++ 10 ∷ body → length payload ≤ MAX_PAYLOAD
    → asked payload ≡ asked_words (verb ∷ words) body
with_words payload verb words body is_verb are is fits =
    let ends = behind_lacks words (All-weaker IsWord (Lacks 10) (λ word is_word. is_word.no_line_end) words are) in
    let spaces = All-weaker IsWord (Lacks 32) (λ word is_word. is_word.no_space) words are in
    asked_line payload (verb ++ behind_spaces words) body is (All-append (λ b. b ≢ 10) verb (behind_spaces words) is_verb.ends ends) fits
    ∙ ap (λ ws. asked_words ws body) (words_of-behind verb words is_verb.spaces spaces)

-- LF at the end of a line, and a body after it
line_end : (payload line body : List ℕ) → payload ≡ line ++ codes "\n" ++ body → payload ≡ line ++ 10 ∷ body
line_end payload line body is = is ∙ append_assoc line (codes "\n") body

-- two words after a verb
two_words : (payload verb one two : List ℕ) → payload ≡ verb ++ one ++ codes " " ++ two ++ codes "\n" → payload ≡ verb ++ (one ++ 32 ∷ two) ++ codes "\n"
two_words payload verb one two is = is ∙ ap (λ text. text ++ codes "\n") (append_assoc (verb ++ one) (codes " ") two ∙ append_assoc verb one (32 ∷ two))

-- three words after a verb
three_words : (payload verb first second third : List ℕ) → payload ≡ (verb ++ codes " ") ++ first ++ codes " " ++ second ++ codes " " ++ third ++ codes "\n"
    → payload ≡ (verb ++ behind_spaces (first ∷ second ∷ third ∷ [])) ++ 10 ∷ []
three_words payload verb first second third is =
    let words : behind_spaces (first ∷ second ∷ third ∷ []) ≡ 32 ∷ (first ++ 32 ∷ (second ++ 32 ∷ third)) = ap (λ text. 32 ∷ (first ++ 32 ∷ (second ++ 32 ∷ text))) (append-nil third) in
    let line = ap (λ (text : List ℕ). verb ++ text) words ∙ sym (append_assoc verb (codes " ") (first ++ 32 ∷ (second ++ 32 ∷ third))) in
    is ∙ sym (ap (λ (text : List ℕ). text ++ 10 ∷ []) line ∙ three_line (verb ++ codes " ") first second third)

-- ---- the digits of a name are a word

digit_high : (k : ℕ) → k < 16 → 48 ≤ get_or lower_digits k 0
digit_high k small = All-from_recursion (λ b. 48 ≤ b) lower_digits (search (rules, arith)) k 0 small

digits_high : (bytes : List ℕ) → IsBytes bytes → AllByRecursion (λ b. 48 ≤ b) (encode_lower bytes)
unfolding encode_with
digits_high [] are = tt
digits_high (b ∷ bytes) are =
    let below : b < 256 = are 0 in
    (digit_high (b / 16) (omega arith), (digit_high (b % 16) (omega arith), digits_high bytes (λ i. are (suc i))))

digits_lack : (byte : ℕ) → byte < 48 → (name : List ℕ) → IsName name → Lacks byte (encode_lower name)
digits_lack byte low name is = λ k d within same. (let high = All-from_recursion (λ b. 48 ≤ b) (encode_lower name) (digits_high name is.bytes) k d within in omega arith)

digits_word : (name : List ℕ) → IsName name → IsWord (encode_lower name)
digits_word name is = record {
  some = (let long = length-encode_with lower_digits name in let count = is.length in omega arith);
  no_space = digits_lack 32 (omega arith) name is;
  no_line_end = digits_lack 10 (omega arith) name is;
}

-- ---- request by request

verb_by : (verb : List ℕ) → list_all (λ b. not (eqb b 32)) verb ≡ true → list_all (λ b. not (eqb b 10)) verb ≡ true → IsVerb verb
verb_by verb spaces ends = record { spaces = lacks_by 32 verb spaces; ends = lacks_by 10 verb ends }

two_there : (one two : List ℕ) → IsWord one → IsWord two → both_words (some_word one) (some_word two) ≡ Some (one, two)
two_there one two is_one is_two = ap (λ o. both_words o (some_word two)) (some_there one is_one.some) ∙ ap (both_words (Some one)) (some_there two is_two.some)

-- three words are not empty
three_there : (first second third : List ℕ) → IsWord first → IsWord second → IsWord third → all_words (some_word first) (both_words (some_word second) (some_word third)) ≡ Some (first, second, third)
three_there first second third is_first is_second is_third =
    ap (λ o. all_words o (both_words (some_word second) (some_word third))) (some_there first is_first.some) ∙ ap (all_words (Some first)) (two_there second third is_second is_third)

-- each of them is a word
three_are : (first second third : List ℕ) → IsWord first → IsWord second → IsWord third → All IsWord (first ∷ second ∷ third ∷ [])
three_are first second third is_first is_second is_third = All-cons IsWord first (second ∷ third ∷ []) is_first (All-cons IsWord second (third ∷ []) is_second (All-cons IsWord third [] is_third (All-nil IsWord)))

-- a repository and items are words
words_are : (repository : List ℕ) (items : List (List ℕ)) → IsWord repository → AreItems items → All IsWord (repository ∷ items)
words_are repository items is are = All-cons IsWord repository items is (All-weaker IsItem IsWord (λ item is_item. is_item.word) items are.each)

items_read : (repository : List ℕ) (items : List (List ℕ)) → IsWord repository → AreItems items → and_items (some_word repository) (items_in items) ≡ Some (repository, items)
items_read repository items is are = ap (λ o. and_items o (items_in items)) (some_there repository is.some) ∙ ap (and_items (Some repository)) (items_there items are)

-- a payload asks for what it spells
pub spelled_asked : (payload : List ℕ) (ask : Ask) → length payload ≤ MAX_PAYLOAD → Spells ask payload → asked payload ≡ ask
spelled_asked payload (Inits repository) fits spells =
    with_word payload (codes "init") repository [] (verb_by (codes "init") refl refl) spells.0 spells.1 fits ∙ ap (λ o. asked_init o []) (some_there repository spells.0.some)
spelled_asked payload (Drops repository) fits spells =
    with_word payload (codes "drop") repository [] (verb_by (codes "drop") refl refl) spells.0 spells.1 fits ∙ ap (λ o. asked_drop o []) (some_there repository spells.0.some)
spelled_asked payload (Forks source copy) fits spells =
    with_two payload (codes "fork") source copy [] (verb_by (codes "fork") refl refl) spells.0 spells.1 (two_words payload (codes "fork ") source copy spells.2) fits
    ∙ ap (λ o. asked_fork o []) (two_there source copy spells.0 spells.1)
spelled_asked payload (Pushes repository body) fits spells =
    with_word payload (codes "push") repository body (verb_by (codes "push") refl refl) spells.0 (line_end payload (codes "push " ++ repository) body spells.1) fits
    ∙ ap (λ o. asked_push o body) (some_there repository spells.0.some)
spelled_asked payload (SendsPart body) fits spells = alone payload (codes "part") body (verb_by (codes "part") refl refl) spells fits
spelled_asked payload (EndsParts repository) fits spells =
    with_word payload (codes "part-end") repository [] (verb_by (codes "part-end") refl refl) spells.0 spells.1 fits ∙ ap (λ o. asked_part_end o []) (some_there repository spells.0.some)
spelled_asked payload DropsParts fits spells = alone payload (codes "part-drop") [] (verb_by (codes "part-drop") refl refl) spells fits
spelled_asked payload (Updates repository body) fits spells =
    with_word payload (codes "update-refs") repository body (verb_by (codes "update-refs") refl refl) spells.0 (line_end payload (codes "update-refs " ++ repository) body spells.1) fits
    ∙ ap (λ o. asked_update o body) (some_there repository spells.0.some)
spelled_asked payload (SetsHead repository reference) fits spells =
    with_two payload (codes "set-head") repository reference [] (verb_by (codes "set-head") refl refl) spells.0 spells.1 (two_words payload (codes "set-head ") repository reference spells.2) fits
    ∙ ap (λ o. asked_set_head o []) (two_there repository reference spells.0 spells.1)
spelled_asked payload (MakesOffer repository receiver) fits spells =
    with_two payload (codes "offer") repository receiver [] (verb_by (codes "offer") refl refl) spells.0 spells.1 (two_words payload (codes "offer ") repository receiver spells.2) fits
    ∙ ap (λ o. asked_offer o []) (two_there repository receiver spells.0 spells.1)
spelled_asked payload (Withdraws repository receiver) fits spells =
    with_two payload (codes "withdraw") repository receiver [] (verb_by (codes "withdraw") refl refl) spells.0 spells.1 (two_words payload (codes "withdraw ") repository receiver spells.2) fits
    ∙ ap (λ o. asked_withdraw o []) (two_there repository receiver spells.0 spells.1)
spelled_asked payload (ForksOffer giver repository copy) fits spells =
    with_words payload (codes "fork-offer") (giver ∷ repository ∷ copy ∷ []) [] (verb_by (codes "fork-offer") refl refl) (three_are giver repository copy spells.0 spells.1 spells.2)
    (three_words payload (codes "fork-offer") giver repository copy spells.3) fits
    ∙ ap (λ o. asked_fork_offer o []) (three_there giver repository copy spells.0 spells.1 spells.2)
spelled_asked payload (AsksObject name) fits spells =
    let word = digits_word name spells.0 in
    with_word payload (codes "cat-file") (encode_lower name) [] (verb_by (codes "cat-file") refl refl) word spells.1 fits
    ∙ ap (λ o. asked_cat_file o []) (some_there (encode_lower name) word.some) ∙ ap (λ o. asked_object o []) (name_in-encode_lower name spells.0)
spelled_asked payload (AsksTree name) fits spells =
    let word = digits_word name spells.0 in
    with_word payload (codes "ls-tree") (encode_lower name) [] (verb_by (codes "ls-tree") refl refl) word spells.1 fits
    ∙ ap (λ o. asked_ls_tree o []) (some_there (encode_lower name) word.some) ∙ ap (λ o. asked_tree o []) (name_in-encode_lower name spells.0)
spelled_asked payload (AsksRevisions repository items) fits spells =
    with_words payload (codes "rev-list") (repository ∷ items) [] (verb_by (codes "rev-list") refl refl) (words_are repository items spells.0 spells.1) spells.2 fits
    ∙ ap (λ o. asked_revisions o []) (items_read repository items spells.0 spells.1)
spelled_asked payload (AsksBases repository first second) fits spells =
    with_words payload (codes "merge-base") (repository ∷ first ∷ second ∷ []) [] (verb_by (codes "merge-base") refl refl) (three_are repository first second spells.0 spells.1 spells.2)
    (three_words payload (codes "merge-base") repository first second spells.3) fits
    ∙ ap (λ o. asked_bases o []) (three_there repository first second spells.0 spells.1 spells.2)
spelled_asked payload (AsksReferences repository None) fits spells =
    with_word payload (codes "for-each-ref") repository [] (verb_by (codes "for-each-ref") refl refl) spells.0 spells.1 fits
    ∙ ap (λ o. asked_references (option_map (λ first. (first, None)) o) []) (some_there repository spells.0.some)
spelled_asked payload (AsksReferences repository (Some prefix)) fits spells =
    with_two payload (codes "for-each-ref") repository prefix [] (verb_by (codes "for-each-ref") refl refl) spells.0 spells.1 (two_words payload (codes "for-each-ref ") repository prefix spells.2) fits
    ∙ ap (λ o. asked_references (and_word o) []) (two_there repository prefix spells.0 spells.1)
spelled_asked payload (AsksHead repository) fits spells =
    with_word payload (codes "head") repository [] (verb_by (codes "head") refl refl) spells.0 spells.1 fits ∙ ap (λ o. asked_head o []) (some_there repository spells.0.some)
spelled_asked payload AsksOffers fits spells = alone payload (codes "offers") [] (verb_by (codes "offers") refl refl) spells fits
spelled_asked payload AsksRepositories fits spells = alone payload (codes "repos") [] (verb_by (codes "repos") refl refl) spells fits
spelled_asked payload (Fetches repository items) fits spells =
    with_words payload (codes "fetch") (repository ∷ items) [] (verb_by (codes "fetch") refl refl) (words_are repository items spells.0 spells.1) spells.2 fits
    ∙ ap (λ o. asked_fetch o []) (items_read repository items spells.0 spells.1)
spelled_asked payload AsksUse fits spells = alone payload (codes "quota") [] (verb_by (codes "quota") refl refl) spells fits
spelled_asked payload Prunes fits spells = alone payload (codes "prune") [] (verb_by (codes "prune") refl refl) spells fits
spelled_asked payload NoRequest fits spells = absurd spells
