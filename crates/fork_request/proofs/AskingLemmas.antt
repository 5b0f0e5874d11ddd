-- A payload spells what it asks for.
use Rattle.std.proofs.Common.{◌≡◌, ◌≢◌, ℕ, ◌*◌, ◌≤◌, Bool, true, false, cond, List, [], ◌∷◌, ◌++◌, Option, Some, None, Result, Ok, Err, refl, sym, ap, subst, ◌∙◌, inl, inr, ◌⊎◌, arith, codes, length, nat_le}
use Rattle.std.specs.Str.{bytes_eq}
use Rattle.std.proofs.lemmas.Bool.Decides.{nat_tests}
use Rattle.std.proofs.lemmas.List.{append_assoc}
use Rattle.std.proofs.lemmas.Slice.Eq.{bytes_eq-Decides}
use Rattle.std.proofs.lemmas.List.Elements.{All-tail}
use Rattle.hex.specs.Hex.{decode_sized}
use Rattle.hex.specs.declared.error.FromHexError.{FromHexError}
use Rattle.hex.proofs.HexLemmas.{decode_of-ok, decode_sized-ok, decode_sized-twice}
use Rattle.git_name.specs.Name.{IsName, name_in, same_again}
use Rattle.git_name.specs.Text.{Lacks, split_once, words_of}
use Rattle.git_name.proofs.ReadingLemmas.{written_name}
use Rattle.git_name.proofs.TextLemmas.{split_once-append, split_once-none, words_of-append, words_of-plain}
use Rattle.fork_request.specs.Asked.{Ask, NoRequest, DropsParts, AsksOffers, AsksRepositories, AsksUse, Prunes, asked, asked_alone, asked_bases, asked_cat_file, asked_drop, asked_fetch, asked_fork, asked_fork_offer, asked_head, asked_init, asked_ls_tree, asked_object, asked_offer, asked_offering, asked_part_end, asked_parts, asked_plain, asked_push, asked_query, asked_references, asked_revisions, asked_set_head, asked_tree, asked_update, asked_verb, asked_withdraw, asked_words}
use Rattle.fork_request.specs.declared.request.TheConstants.{MAX_PAYLOAD}
use Rattle.fork_request.specs.Spelling.{IsWord, Spells}
use Rattle.fork_request.specs.Words.{one_or_two, pair, sole, three, word_and_items}
use Rattle.fork_request.proofs.ItemLemmas.{WordAndItems, word_and_items_right}
use Rattle.fork_request.proofs.PartLemmas.{Parted, ThreeWords, TwoWords, lacks_behind, one_or_two_right, pair_right, parted, sole_right, three_line, three_right}
use Rattle.fork_request.proofs.WordLemmas.{verb_many}

-- a payload is no request, or spells one
abbrev Right : List ℕ → Ask → Type 0
Right payload ask = (ask ≡ NoRequest) ⊎ Spells ask payload

-- one word, or none
abbrev pub IsSole : List ℕ → Option (List ℕ) → Type 0
IsSole rest words = (words ≡ None) ⊎ ((words ≡ Some rest) × IsWord rest)

right_at : (payload : List ℕ) (ask other : Ask) → ask ≡ other → Spells other payload → Right payload ask
right_at payload ask other same spells = inr (subst (λ a. Spells a payload) (sym same) spells)

-- LF, and what follows it
line_end : (line body : List ℕ) → line ++ 10 ∷ body ≡ line ++ codes "\n" ++ body
line_end line body = sym (append_assoc line (codes "\n") body)

init_right : (payload rest body : List ℕ) (words : Option (List ℕ)) → payload ≡ codes "init " ++ rest ++ 10 ∷ body → IsSole rest words → Right payload (asked_init words body)
init_right payload rest body words is (inl none) = inl (ap (λ o. asked_init o body) none)
init_right payload rest [] words is (inr some) = right_at payload _ _ (ap (λ o. asked_init o []) some.0) (some.1, is)
init_right payload rest (b ∷ body) words is (inr some) = inl (ap (λ o. asked_init o (b ∷ body)) some.0)

drop_right : (payload rest body : List ℕ) (words : Option (List ℕ)) → payload ≡ codes "drop " ++ rest ++ 10 ∷ body → IsSole rest words → Right payload (asked_drop words body)
drop_right payload rest body words is (inl none) = inl (ap (λ o. asked_drop o body) none)
drop_right payload rest [] words is (inr some) = right_at payload _ _ (ap (λ o. asked_drop o []) some.0) (some.1, is)
drop_right payload rest (b ∷ body) words is (inr some) = inl (ap (λ o. asked_drop o (b ∷ body)) some.0)

part_end_right : (payload rest body : List ℕ) (words : Option (List ℕ)) → payload ≡ codes "part-end " ++ rest ++ 10 ∷ body → IsSole rest words → Right payload (asked_part_end words body)
part_end_right payload rest body words is (inl none) = inl (ap (λ o. asked_part_end o body) none)
part_end_right payload rest [] words is (inr some) = right_at payload _ _ (ap (λ o. asked_part_end o []) some.0) (some.1, is)
part_end_right payload rest (b ∷ body) words is (inr some) = inl (ap (λ o. asked_part_end o (b ∷ body)) some.0)

push_right : (payload rest body : List ℕ) (words : Option (List ℕ)) → payload ≡ codes "push " ++ rest ++ 10 ∷ body → IsSole rest words → Right payload (asked_push words body)
push_right payload rest body words is (inl none) = inl (ap (λ o. asked_push o body) none)
push_right payload rest body words is (inr some) = right_at payload _ _ (ap (λ o. asked_push o body) some.0) (some.1, is ∙ line_end (codes "push " ++ rest) body)

update_right : (payload rest body : List ℕ) (words : Option (List ℕ)) → payload ≡ codes "update-refs " ++ rest ++ 10 ∷ body → IsSole rest words → Right payload (asked_update words body)
update_right payload rest body words is (inl none) = inl (ap (λ o. asked_update o body) none)
update_right payload rest body words is (inr some) = right_at payload _ _ (ap (λ o. asked_update o body) some.0) (some.1, is ∙ line_end (codes "update-refs " ++ rest) body)

head_right : (payload rest body : List ℕ) (words : Option (List ℕ)) → payload ≡ codes "head " ++ rest ++ 10 ∷ body → IsSole rest words → Right payload (asked_head words body)
head_right payload rest body words is (inl none) = inl (ap (λ o. asked_head o body) none)
head_right payload rest [] words is (inr some) = right_at payload _ _ (ap (λ o. asked_head o []) some.0) (some.1, is)
head_right payload rest (b ∷ body) words is (inr some) = inl (ap (λ o. asked_head o (b ∷ body)) some.0)

kept : (b : Bool) (found name : List ℕ) → cond b (Some found) None ≡ Some name → found ≡ name
kept true found name is = cc
kept false found name is = absurd (cc)

decoded : (digits name : List ℕ) → decode_sized digits 32 ≡ Ok name → IsName name
decoded digits name is =
    let long = decode_sized-ok digits 32 name is in
    let facts = decode_of-ok digits name (sym (decode_sized-twice digits 32 long) ∙ is) in
    record { length = half (length digits) (length name) long facts.2; bytes = facts.3 }
  where
    half : (n m : ℕ) → n ≡ 64 → n ≡ 2 * m → m ≡ 32
    half n m long double = omega arith

named : (digits name : List ℕ) → name_in digits ≡ Some name → IsName name
unfolding name_in
named digits name is = from (decode_sized digits 32) refl is
  where
    from : (r : Result (List ℕ) FromHexError) → decode_sized digits 32 ≡ r → same_again digits r ≡ Some name → IsName name
    from (Ok found) read is = subst IsName (kept _ found name is) (decoded digits found read)
    from (Err error) read is = absurd (cc)

object_right : (payload digits body : List ℕ) (name : Option (List ℕ)) → payload ≡ codes "cat-file " ++ digits ++ 10 ∷ body → name_in digits ≡ name → Right payload (asked_object name body)
object_right payload digits body None is found = inl refl
object_right payload digits [] (Some name) is found =
    inr (named digits name found, is ∙ ap (λ ds. codes "cat-file " ++ ds ++ 10 ∷ []) (written_name digits name found))
object_right payload digits (b ∷ body) (Some name) is found = inl refl

cat_file_right : (payload rest body : List ℕ) (words : Option (List ℕ)) → payload ≡ codes "cat-file " ++ rest ++ 10 ∷ body → IsSole rest words → Right payload (asked_cat_file words body)
cat_file_right payload rest body words is (inl none) = inl (ap (λ o. asked_cat_file o body) none)
cat_file_right payload rest body words is (inr some) = subst (Right payload) (sym (ap (λ o. asked_cat_file o body) some.0)) (object_right payload rest body (name_in rest) is refl)

tree_right : (payload digits body : List ℕ) (name : Option (List ℕ)) → payload ≡ codes "ls-tree " ++ digits ++ 10 ∷ body → name_in digits ≡ name → Right payload (asked_tree name body)
tree_right payload digits body None is found = inl refl
tree_right payload digits [] (Some name) is found =
    inr (named digits name found, is ∙ ap (λ ds. codes "ls-tree " ++ ds ++ 10 ∷ []) (written_name digits name found))
tree_right payload digits (b ∷ body) (Some name) is found = inl refl

ls_tree_right : (payload rest body : List ℕ) (words : Option (List ℕ)) → payload ≡ codes "ls-tree " ++ rest ++ 10 ∷ body → IsSole rest words → Right payload (asked_ls_tree words body)
ls_tree_right payload rest body words is (inl none) = inl (ap (λ o. asked_ls_tree o body) none)
ls_tree_right payload rest body words is (inr some) = subst (Right payload) (sym (ap (λ o. asked_ls_tree o body) some.0)) (tree_right payload rest body (name_in rest) is refl)

-- a word and items, or none
abbrev HasItems : List ℕ → Option (List ℕ × List (List ℕ)) → Type 0
HasItems rest words = (words ≡ None) ⊎ ((t : WordAndItems rest) × (words ≡ Some (t.word, t.items)))

revisions_right : (payload rest body : List ℕ) (words : Option (List ℕ × List (List ℕ))) → payload ≡ codes "rev-list " ++ rest ++ 10 ∷ body → HasItems rest words → Right payload (asked_revisions words body)
revisions_right payload rest body words is (inl none) = inl (ap (λ o. asked_revisions o body) none)
revisions_right payload rest [] words is (inr some) =
    right_at payload _ _ (ap (λ o. asked_revisions o []) some.1) (some.0.is_word, some.0.are_items, is ∙ ap (λ text. codes "rev-list " ++ text ++ 10 ∷ []) some.0.whole)
revisions_right payload rest (b ∷ body) words is (inr some) = inl (ap (λ o. asked_revisions o (b ∷ body)) some.1)

fetch_right : (payload rest body : List ℕ) (words : Option (List ℕ × List (List ℕ))) → payload ≡ codes "fetch " ++ rest ++ 10 ∷ body → HasItems rest words → Right payload (asked_fetch words body)
fetch_right payload rest body words is (inl none) = inl (ap (λ o. asked_fetch o body) none)
fetch_right payload rest [] words is (inr some) =
    right_at payload _ _ (ap (λ o. asked_fetch o []) some.1) (some.0.is_word, some.0.are_items, is ∙ ap (λ text. codes "fetch " ++ text ++ 10 ∷ []) some.0.whole)
fetch_right payload rest (b ∷ body) words is (inr some) = inl (ap (λ o. asked_fetch o (b ∷ body)) some.1)

bases_right : (payload rest body : List ℕ) (words : Option (List ℕ × List ℕ × List ℕ)) → payload ≡ codes "merge-base " ++ rest ++ 10 ∷ body → (words ≡ None) ⊎ ((t : ThreeWords rest) × (words ≡ Some (t.first, t.second, t.third)))
    → Right payload (asked_bases words body)
bases_right payload rest body words is (inl none) = inl (ap (λ o. asked_bases o body) none)
bases_right payload rest [] words is (inr some) =
    let line = ap (λ text. codes "merge-base " ++ text ++ 10 ∷ []) some.0.whole ∙ three_line (codes "merge-base ") some.0.first some.0.second some.0.third in
    right_at payload _ _ (ap (λ o. asked_bases o []) some.1) (some.0.is_first, some.0.is_second, some.0.is_third, is ∙ line)
bases_right payload rest (b ∷ body) words is (inr some) = inl (ap (λ o. asked_bases o (b ∷ body)) some.1)

-- a line of two words after a verb
two_words : (verb first second rest end : List ℕ) → rest ≡ first ++ 32 ∷ second → verb ++ rest ++ end ≡ verb ++ first ++ codes " " ++ second ++ end
two_words verb first second rest end is =
    ap (λ text. verb ++ text ++ end) is ∙ ap (λ text. text ++ end) (sym (append_assoc verb first (32 ∷ second)) ∙ sym (append_assoc (verb ++ first) (codes " ") second))

fork_right : (payload rest body : List ℕ) (words : Option (List ℕ × List ℕ)) → payload ≡ codes "fork " ++ rest ++ 10 ∷ body → (words ≡ None) ⊎ ((t : TwoWords rest) × (words ≡ Some (t.first, t.second))) → Right payload (asked_fork words body)
fork_right payload rest body words is (inl none) = inl (ap (λ o. asked_fork o body) none)
fork_right payload rest [] words is (inr some) =
    right_at payload _ _ (ap (λ o. asked_fork o []) some.1) (some.0.is_first, some.0.is_second, is ∙ two_words (codes "fork ") some.0.first some.0.second rest (10 ∷ []) some.0.whole)
fork_right payload rest (b ∷ body) words is (inr some) = inl (ap (λ o. asked_fork o (b ∷ body)) some.1)

set_head_right : (payload rest body : List ℕ) (words : Option (List ℕ × List ℕ)) → payload ≡ codes "set-head " ++ rest ++ 10 ∷ body → (words ≡ None) ⊎ ((t : TwoWords rest) × (words ≡ Some (t.first, t.second))) → Right payload (asked_set_head words body)
set_head_right payload rest body words is (inl none) = inl (ap (λ o. asked_set_head o body) none)
set_head_right payload rest [] words is (inr some) =
    right_at payload _ _ (ap (λ o. asked_set_head o []) some.1) (some.0.is_first, some.0.is_second, is ∙ two_words (codes "set-head ") some.0.first some.0.second rest (10 ∷ []) some.0.whole)
set_head_right payload rest (b ∷ body) words is (inr some) = inl (ap (λ o. asked_set_head o (b ∷ body)) some.1)

offer_right : (payload rest body : List ℕ) (words : Option (List ℕ × List ℕ)) → payload ≡ codes "offer " ++ rest ++ 10 ∷ body → (words ≡ None) ⊎ ((t : TwoWords rest) × (words ≡ Some (t.first, t.second))) → Right payload (asked_offer words body)
offer_right payload rest body words is (inl none) = inl (ap (λ o. asked_offer o body) none)
offer_right payload rest [] words is (inr some) =
    right_at payload _ _ (ap (λ o. asked_offer o []) some.1) (some.0.is_first, some.0.is_second, is ∙ two_words (codes "offer ") some.0.first some.0.second rest (10 ∷ []) some.0.whole)
offer_right payload rest (b ∷ body) words is (inr some) = inl (ap (λ o. asked_offer o (b ∷ body)) some.1)

withdraw_right : (payload rest body : List ℕ) (words : Option (List ℕ × List ℕ)) → payload ≡ codes "withdraw " ++ rest ++ 10 ∷ body → (words ≡ None) ⊎ ((t : TwoWords rest) × (words ≡ Some (t.first, t.second))) → Right payload (asked_withdraw words body)
withdraw_right payload rest body words is (inl none) = inl (ap (λ o. asked_withdraw o body) none)
withdraw_right payload rest [] words is (inr some) =
    right_at payload _ _ (ap (λ o. asked_withdraw o []) some.1) (some.0.is_first, some.0.is_second, is ∙ two_words (codes "withdraw ") some.0.first some.0.second rest (10 ∷ []) some.0.whole)
withdraw_right payload rest (b ∷ body) words is (inr some) = inl (ap (λ o. asked_withdraw o (b ∷ body)) some.1)

fork_offer_right : (payload rest body : List ℕ) (words : Option (List ℕ × List ℕ × List ℕ)) → payload ≡ codes "fork-offer " ++ rest ++ 10 ∷ body → (words ≡ None) ⊎ ((t : ThreeWords rest) × (words ≡ Some (t.first, t.second, t.third)))
    → Right payload (asked_fork_offer words body)
fork_offer_right payload rest body words is (inl none) = inl (ap (λ o. asked_fork_offer o body) none)
fork_offer_right payload rest [] words is (inr some) =
    let line = ap (λ text. codes "fork-offer " ++ text ++ 10 ∷ []) some.0.whole ∙ three_line (codes "fork-offer ") some.0.first some.0.second some.0.third in
    right_at payload _ _ (ap (λ o. asked_fork_offer o []) some.1) (some.0.is_first, some.0.is_second, some.0.is_third, is ∙ line)
fork_offer_right payload rest (b ∷ body) words is (inr some) = inl (ap (λ o. asked_fork_offer o (b ∷ body)) some.1)

references_right : (payload rest body : List ℕ) (words : Option (List ℕ × Option (List ℕ))) → payload ≡ codes "for-each-ref " ++ rest ++ 10 ∷ body
    → (words ≡ None) ⊎ ((words ≡ Some (rest, None)) × IsWord rest) ⊎ ((t : TwoWords rest) × (words ≡ Some (t.first, Some t.second))) → Right payload (asked_references words body)
references_right payload rest body words is (inl none) = inl (ap (λ o. asked_references o body) none)
references_right payload rest [] words is (inr (inl one)) = right_at payload _ _ (ap (λ o. asked_references o []) one.0) (one.1, is)
references_right payload rest [] words is (inr (inr two)) =
    right_at payload _ _ (ap (λ o. asked_references o []) two.1) (two.0.is_first, two.0.is_second, is ∙ two_words (codes "for-each-ref ") two.0.first two.0.second rest (10 ∷ []) two.0.whole)
references_right payload rest (b ∷ body) words is (inr (inl one)) = inl (ap (λ o. asked_references o (b ∷ body)) one.0)
references_right payload rest (b ∷ body) words is (inr (inr two)) = inl (ap (λ o. asked_references o (b ∷ body)) two.1)

-- a verb is this word, or what comes next decides
pub by_word : {A : Type 0} (P : A → Type 0) (verb word : List ℕ) (x y : A) → (verb ≡ word → P x) → P y → P (cond (bytes_eq verb word) x y)
by_word P verb word x y is other = by (bytes_eq verb word) (bytes_eq-Decides verb word).0
  where
    by : (b : Bool) → (b ≡ true → verb ≡ word) → P (cond b x y)
    by true same = is (same refl)
    by false same = other

query_right : (payload verb rest body : List ℕ) → payload ≡ (verb ++ 32 ∷ rest) ++ 10 ∷ body → Lacks 10 rest → Right payload (asked_query verb (words_of rest) body)
query_right payload verb rest body is ends =
    let at = (λ (word : List ℕ) (same : verb ≡ word). is ∙ ap (λ v. (v ++ 32 ∷ rest) ++ 10 ∷ body) same) in
    let one = sole_right rest ends in
    let items = word_and_items_right rest ends in
    by_word (Right payload) verb (codes "cat-file") _ _ (λ v. cat_file_right payload rest body (sole (words_of rest)) (at (codes "cat-file") v) one)
    (by_word (Right payload) verb (codes "ls-tree") _ _ (λ v. ls_tree_right payload rest body (sole (words_of rest)) (at (codes "ls-tree") v) one)
    (by_word (Right payload) verb (codes "rev-list") _ _ (λ v. revisions_right payload rest body (word_and_items (words_of rest)) (at (codes "rev-list") v) items)
    (by_word (Right payload) verb (codes "merge-base") _ _ (λ v. bases_right payload rest body (three (words_of rest)) (at (codes "merge-base") v) (three_right rest ends))
    (by_word (Right payload) verb (codes "for-each-ref") _ _ (λ v. references_right payload rest body (one_or_two (words_of rest)) (at (codes "for-each-ref") v) (one_or_two_right rest ends))
    (by_word (Right payload) verb (codes "head") _ _ (λ v. head_right payload rest body (sole (words_of rest)) (at (codes "head") v) one)
    (by_word (Right payload) verb (codes "fetch") _ _ (λ v. fetch_right payload rest body (word_and_items (words_of rest)) (at (codes "fetch") v) items) (inl refl)))))))

offering_right : (payload verb rest body : List ℕ) → payload ≡ (verb ++ 32 ∷ rest) ++ 10 ∷ body → Lacks 10 rest → Right payload (asked_offering verb (words_of rest) body)
offering_right payload verb rest body is ends =
    let at = (λ (word : List ℕ) (same : verb ≡ word). is ∙ ap (λ v. (v ++ 32 ∷ rest) ++ 10 ∷ body) same) in
    let two = pair_right rest ends in
    by_word (Right payload) verb (codes "offer") _ _ (λ v. offer_right payload rest body (pair (words_of rest)) (at (codes "offer") v) two)
    (by_word (Right payload) verb (codes "withdraw") _ _ (λ v. withdraw_right payload rest body (pair (words_of rest)) (at (codes "withdraw") v) two)
    (by_word (Right payload) verb (codes "fork-offer") _ _ (λ v. fork_offer_right payload rest body (three (words_of rest)) (at (codes "fork-offer") v) (three_right rest ends)) (query_right payload verb rest body is ends)))

verb_right : (payload verb rest body : List ℕ) → payload ≡ (verb ++ 32 ∷ rest) ++ 10 ∷ body → Lacks 10 rest → Right payload (asked_verb verb (words_of rest) body)
verb_right payload verb rest body is ends =
    let at = (λ (word : List ℕ) (same : verb ≡ word). is ∙ ap (λ v. (v ++ 32 ∷ rest) ++ 10 ∷ body) same) in
    let one = sole_right rest ends in
    let two = pair_right rest ends in
    by_word (Right payload) verb (codes "init") _ _ (λ v. init_right payload rest body (sole (words_of rest)) (at (codes "init") v) one)
    (by_word (Right payload) verb (codes "drop") _ _ (λ v. drop_right payload rest body (sole (words_of rest)) (at (codes "drop") v) one)
    (by_word (Right payload) verb (codes "fork") _ _ (λ v. fork_right payload rest body (pair (words_of rest)) (at (codes "fork") v) two)
    (by_word (Right payload) verb (codes "push") _ _ (λ v. push_right payload rest body (sole (words_of rest)) (at (codes "push") v) one)
    (by_word (Right payload) verb (codes "part-end") _ _ (λ v. part_end_right payload rest body (sole (words_of rest)) (at (codes "part-end") v) one)
    (by_word (Right payload) verb (codes "update-refs") _ _ (λ v. update_right payload rest body (sole (words_of rest)) (at (codes "update-refs") v) one)
    (by_word (Right payload) verb (codes "set-head") _ _ (λ v. set_head_right payload rest body (pair (words_of rest)) (at (codes "set-head") v) two) (offering_right payload verb rest body is ends)))))))

plain_right : (payload body end : List ℕ) (ask : Ask) → (body ≡ [] → Spells ask payload) → Right payload (asked_plain ask body)
plain_right payload [] end ask spells = inr (spells refl)
plain_right payload (b ∷ body) end ask spells = inl refl

alone_right : (payload verb body : List ℕ) → payload ≡ verb ++ 10 ∷ body → Right payload (asked_alone verb body)
alone_right payload verb body is =
    let at = (λ (word : List ℕ) (same : verb ≡ word). is ∙ ap (λ v. v ++ 10 ∷ body) same) in
    by_word (Right payload) verb (codes "part") _ _ (λ v. inr (at (codes "part") v))
    (by_word (Right payload) verb (codes "part-drop") _ _ (λ v. plain_right payload body [] DropsParts (λ none. at (codes "part-drop") v ∙ ap (λ b. codes "part-drop\n" ++ b) none))
    (by_word (Right payload) verb (codes "offers") _ _ (λ v. plain_right payload body [] AsksOffers (λ none. at (codes "offers") v ∙ ap (λ b. codes "offers\n" ++ b) none))
    (by_word (Right payload) verb (codes "repos") _ _ (λ v. plain_right payload body [] AsksRepositories (λ none. at (codes "repos") v ∙ ap (λ b. codes "repos\n" ++ b) none))
    (by_word (Right payload) verb (codes "quota") _ _ (λ v. plain_right payload body [] AsksUse (λ none. at (codes "quota") v ∙ ap (λ b. codes "quota\n" ++ b) none))
    (by_word (Right payload) verb (codes "prune") _ _ (λ v. plain_right payload body [] Prunes (λ none. at (codes "prune") v ∙ ap (λ b. codes "prune\n" ++ b) none)) (inl refl))))))

line_right : (payload line body : List ℕ) → payload ≡ line ++ 10 ∷ body → Lacks 10 line → Right payload (asked_words (words_of line) body)
line_right payload line body is ends = by (parted 32 line)
  where
    by : Lacks 32 line ⊎ Parted 32 line → Right payload (asked_words (words_of line) body)
    by (inl spaces) = subst (Right payload) (sym (ap (λ ws. asked_words ws body) (words_of-plain line spaces))) (alone_right payload line body is)
    by (inr part) =
        let words = ap words_of part.whole ∙ words_of-append part.front part.behind part.lacks in
        let asks = ap (λ ws. asked_words ws body) words ∙ verb_many part.front part.behind body in
        let behind = All-tail (λ b. b ≢ 10) 32 part.behind (lacks_behind 10 part.front (32 ∷ part.behind) (subst (Lacks 10) part.whole ends)) in
        subst (Right payload) (sym asks) (verb_right payload part.front part.behind body (is ∙ ap (λ l. l ++ 10 ∷ body) part.whole) behind)

parts_right : (payload : List ℕ) → Right payload (asked_parts (split_once 10 payload))
parts_right payload = by (parted 10 payload)
  where
    by : Lacks 10 payload ⊎ Parted 10 payload → Right payload (asked_parts (split_once 10 payload))
    by (inl none) = inl (ap asked_parts (split_once-none 10 payload none))
    by (inr part) =
        let split = ap (split_once 10) part.whole ∙ split_once-append 10 part.front part.behind part.lacks in
        subst (Right payload) (sym (ap asked_parts split)) (line_right payload part.front part.behind part.whole part.lacks)

-- a payload that asks for something spells it, and is no longer than a payload may be
pub asked_right : (payload : List ℕ) (ask : Ask) → asked payload ≡ ask → ask ≢ NoRequest → (length payload ≤ MAX_PAYLOAD) × Spells ask payload
unfolding asked
asked_right payload ask is request = by (nat_le (length payload) MAX_PAYLOAD) refl is
  where
    spelled : Right payload (asked_parts (split_once 10 payload)) → asked_parts (split_once 10 payload) ≡ ask → Spells ask payload
    spelled (inl none) same = absurd (request (sym same ∙ none))
    spelled (inr spells) same = subst (λ a. Spells a payload) same spells

    within : nat_le (length payload) MAX_PAYLOAD ≡ true → length payload ≤ MAX_PAYLOAD
    within fits = grind (arith, nat_tests)

    by : (b : Bool) → nat_le (length payload) MAX_PAYLOAD ≡ b → cond b (asked_parts (split_once 10 payload)) NoRequest ≡ ask → (length payload ≤ MAX_PAYLOAD) × Spells ask payload
    by true fits same = (within fits, spelled (parts_right payload) same)
    by false fits same = absurd (request (sym same))
