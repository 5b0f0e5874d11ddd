-- A check of the store, place by place.
use Rattle.std.proofs.Common.{◌≡◌, ◌≤◌, ◌+◌, ◌||◌, ◌&&◌, ℕ, zero, suc, Bool, true, false, cond, List, [], ◌∷◌, length, take, slice_get, Option, Some, None, refl, sym, ap, subst, ◌∙◌, arith}
use Rattle.std.specs.Prelude.{IsTrue}
use Rattle.std.specs.Cmp.{eq_by_cmp_equiv}
use Rattle.std.specs.FinMap.{FinMap, empty, get, get-empty, get-insert, get-remove, insert, remove}
use Rattle.std.specs.declared.cmp.Ordering.{Ordering}
use Rattle.std.specs.declared.cmp.Ordering.TheVariants.{Less, Equal, Greater}
use Rattle.std.specs.Ordering.{eq_by_cmp, is_eq}
use Rattle.std.proofs.lemmas.Cmp.{nat_list_eq_equiv}
use Rattle.git_name.specs.declared.kind.Kind.{Kind}
use Rattle.git_name.specs.declared.kind.Kind.TheVariants.{Blob, Tree, Commit, Tag}
use Rattle.git_name.specs.Name.{name_cmp}
use Rattle.git_name.specs.Object.{Object, object_name, typed_bytes}
use Rattle.git_name.proofs.Names.{name_total, name_exact}
use Rattle.git_name.specs.Same.{is_listed, same_name}
use Rattle.object_table.proofs.PlaceLemmas.{one_name}
use Rattle.fork_request.specs.declared.harm.Harm.{Harm}
use Rattle.fork_request.specs.declared.harm.Harm.TheVariants.{Lost, Damaged}
use Rattle.loose_store.specs.Files.{Files, SameBut}
use Rattle.loose_store.specs.Stored.{Whole}
use Rattle.loose_store.proofs.FilesLemmas.{insert_same_but, remove_same_but}
use Rattle.fork_ledger.specs.Checked.{HasChecked, Shows, StandsAs, WasAsked, checked_until, with_harm}
use Rattle.fork_ledger.specs.Harms.{HarmMap, IsHarmed}

true_false : {G : Type 0} (b : Bool) → b ≡ true → b ≡ false → G
true_false b is other = let bad : ⊥ = cc in absurd bad

-- ---- one file
at_itself : {X : Type 0} (m : FinMap name_cmp X) (k : List ℕ) (v : X) → get (insert m k v) k ≡ Some v
at_itself m k v = get-insert name_total m k v k ∙ ap (λ b. cond b (Some v) (get m k)) ((eq_by_cmp_equiv name_total).refl k)

abbrev with_file : Files → List ℕ → Option (List ℕ) → Files
with_file files name None = remove files name
with_file files name (Some file) = insert files name file

file_at : (files : Files) (name : List ℕ) (o : Option (List ℕ)) → get (with_file files name o) name ≡ o
file_at files name None = get-remove name_total files name name ∙ ap (λ b. cond b None (get files name)) ((eq_by_cmp_equiv name_total).refl name)
file_at files name (Some file) = at_itself files name file

file_else : (files : Files) (name : List ℕ) (o : Option (List ℕ)) → SameBut name files (with_file files name o)
file_else files name None = remove_same_but files name
file_else files name (Some file) = insert_same_but files name file

stands_same : (new old : Files) (q : List ℕ) (h : Option Harm) → get new q ≡ get old q → StandsAs old q h → StandsAs new q h
stands_same new old q None same stands = (stands.0, record { file = same ∙ stands.1.file; named = stands.1.named })
stands_same new old q (Some Lost) same stands = same ∙ stands
stands_same new old q (Some Damaged) same stands = (stands.0, same ∙ stands.1, λ object whole. stands.2 object (record { file = sym same ∙ whole.file; named = whole.named }))

-- ---- what was read
shown_over : (honest : Bool) (contents : Files) (name : List ℕ) (h : Option Harm) → (IsTrue honest → StandsAs contents name h) → (files : Files) → StandsAs files name h → Shows honest contents name h
shown_over true contents name h reads files stands = record { files = contents; exact = λ _. refl; stands = reads refl }
shown_over false contents name h reads files stands = record { files = files; exact = λ is. true_false false is refl; stands = stands }

pub shown_whole : (honest : Bool) (contents : Files) (name : List ℕ) (object : Object) → (IsTrue honest → Whole contents name object) → object_name object ≡ name → Shows honest contents name None
shown_whole honest contents name object reads named =
    shown_over honest contents name None (λ h. (object, reads h)) (insert empty name (typed_bytes object)) (object, record { file = at_itself empty name (typed_bytes object); named = named })

pub shown_lost : (honest : Bool) (contents : Files) (name : List ℕ) → (IsTrue honest → get contents name ≡ None) → Shows honest contents name (Some Lost)
shown_lost honest contents name reads = shown_over honest contents name (Some Lost) reads empty (get-empty name_cmp name)

no_bytes : (kind : Kind) (bytes : List ℕ) → [] ≡ typed_bytes (record { kind = kind; bytes = bytes }) → ⊥
no_bytes Blob bytes is = let differs : ⊥ = cc in differs
no_bytes Tree bytes is = let differs : ⊥ = cc in differs
no_bytes Commit bytes is = let differs : ⊥ = cc in differs
no_bytes Tag bytes is = let differs : ⊥ = cc in differs

same_file : (o : Option (List ℕ)) (x y : List ℕ) → o ≡ Some x → o ≡ Some y → x ≡ y
same_file None x y first second = let differs : ⊥ = cc in absurd differs
same_file (Some z) x y first second = let both : Some x ≡ Some y = sym first ∙ second in cc

pub shown_damaged : (honest : Bool) (contents : Files) (name : List ℕ) → (IsTrue honest → IsHarmed contents name Damaged) → Shows honest contents name (Some Damaged)
shown_damaged honest contents name reads =
    let files : Files = insert empty name [] in
    let file = at_itself empty name [] in
    shown_over honest contents name (Some Damaged) reads files ([], file, λ object whole. no_bytes object.kind object.bytes (same_file (get files name) [] (typed_bytes object) file whole.file))

-- ---- one more place
or_later : (a b c : Bool) → a || (b || c) ≡ b || (a || c)
or_later true true c = refl
or_later true false c = refl
or_later false true c = refl
or_later false false c = refl

listed_after : (names : List (List ℕ)) (at : ℕ) (name q : List ℕ) → slice_get names at ≡ Some name → is_listed (take (suc at) names) q ≡ same_name q name || is_listed (take at names) q
listed_after [] at name q is = let differs : ⊥ = cc in absurd differs
listed_after (x ∷ xs) zero name q is = (let same : x ≡ name = cc in ap (λ n. same_name q n || false) same)
listed_after (x ∷ xs) (suc at) name q is = ap (λ b. same_name q x || b) (listed_after xs at name q is) ∙ or_later (same_name q x) (same_name q name) (is_listed (take at xs) q)

taken_past : (names : List (List ℕ)) (at : ℕ) → slice_get names at ≡ None → take (suc at) names ≡ take at names
taken_past [] zero is = refl
taken_past [] (suc at) is = refl
taken_past (x ∷ xs) zero is = let differs : ⊥ = cc in absurd differs
taken_past (x ∷ xs) (suc at) is = ap (λ l. x ∷ l) (taken_past xs at is)

one_more : (held : List ℕ → Bool) (names : List (List ℕ)) (at : ℕ) (q : List ℕ) → checked_until held names (at + 1) q ≡ checked_until held names (suc at) q
one_more held names at q = (let next : at + 1 ≡ suc at = omega arith in ap (λ n. checked_until held names n q) next)

taken_all : (names : List (List ℕ)) (at : ℕ) → length names ≤ at → take at names ≡ names
taken_all [] zero end = refl
taken_all [] (suc at) end = refl
taken_all (x ∷ xs) zero end = absurd (omega (arith, end))
taken_all (x ∷ xs) (suc at) end = ap (λ l. x ∷ l) (taken_all xs at (omega (arith, end)))

-- ---- what was found
same_checks : (honest : Bool) (contents : Files) (old new : List ℕ → Bool) (m : HarmMap) → ((q : List ℕ) → new q ≡ old q) → HasChecked honest contents old m → HasChecked honest contents new m
same_checks honest contents old new m same has =
    record { files = has.files; exact = has.exact; stands = λ q is. has.stands q (sym (same q) ∙ is); others = λ q is. has.others q (sym (same q) ∙ is) }

-- over the same files
pub checked_over : (honest still : Bool) (contents after : Files) (test : List ℕ → Bool) (m : HarmMap) → still ≡ honest → (IsTrue honest → after ≡ contents) → HasChecked honest contents test m → HasChecked still after test m
checked_over honest still contents after test m same kept has =
    record { files = has.files; exact = λ h. (let was = sym same ∙ h in has.exact was ∙ sym (kept was)); stands = has.stands; others = has.others }

pub checked_none : (honest : Bool) (contents : Files) (held : List ℕ → Bool) (names : List (List ℕ)) → HasChecked honest contents (checked_until held names 0) empty
checked_none honest contents held names = record { files = contents; exact = λ _. refl; stands = λ q is. true_false false is refl; others = λ q is. get-empty name_cmp q }

-- a place whose name nobody holds
free_same : (held : List ℕ → Bool) (names : List (List ℕ)) (at : ℕ) → ((name : List ℕ) → slice_get names at ≡ Some name → held name ≡ false) → (q : List ℕ) → checked_until held names (at + 1) q ≡ checked_until held names at q
free_same held names at free q = by (slice_get names at) refl
  where
    none_so : (b c : Bool) → c ≡ false → (true || b) && c ≡ b && c
    none_so true c is = refl
    none_so false c is = is

    past : (name : List ℕ) → slice_get names at ≡ Some name → (b : Bool) → same_name q name ≡ b → (b || is_listed (take at names) q) && held q ≡ is_listed (take at names) q && held q
    past name is true same = none_so (is_listed (take at names) q) (held q) (ap held (one_name q name same) ∙ free name is)
    past name is false same = refl

    by : (o : Option (List ℕ)) → slice_get names at ≡ o → checked_until held names (at + 1) q ≡ checked_until held names at q
    by None is = one_more held names at q ∙ ap (λ l. is_listed l q && held q) (taken_past names at is)
    by (Some name) is = one_more held names at q ∙ ap (λ b. b && held q) (listed_after names at name q is) ∙ past name is (same_name q name) refl

pub checked_free : (honest : Bool) (contents : Files) (held : List ℕ → Bool) (names : List (List ℕ)) (at : ℕ) (m : HarmMap) → ((name : List ℕ) → slice_get names at ≡ Some name → held name ≡ false)
    → HasChecked honest contents (checked_until held names at) m → HasChecked honest contents (checked_until held names (at + 1)) m
checked_free honest contents held names at m free = same_checks honest contents (checked_until held names at) (checked_until held names (at + 1)) m (free_same held names at free)

pub asked_free : (failures : ℕ) (held : List ℕ → Bool) (names : List (List ℕ)) (at : ℕ) → ((name : List ℕ) → slice_get names at ≡ Some name → held name ≡ false)
    → WasAsked failures (checked_until held names at) → WasAsked failures (checked_until held names (at + 1))
asked_free failures held names at free asked = λ q is. asked q (sym (free_same held names at free q) ∙ is)

-- ---- a place whose name somebody holds
harm_at : (m : HarmMap) (name : List ℕ) (h : Option Harm) → get m name ≡ None → get (with_harm m name h) name ≡ h
harm_at m name None none = none
harm_at m name (Some harm) none = at_itself m name harm

tied : (o : Ordering) → is_eq o ≡ true → o ≡ Equal
tied Less e = cc
tied Equal e = refl
tied Greater e = cc

not_chosen : {X : Type 0} (b : Bool) (v o : Option X) → (b ≡ true → ⊥) → cond b v o ≡ o
not_chosen true v o differs = absurd (differs refl)
not_chosen false v o differs = refl

harm_apart : (m : HarmMap) (name : List ℕ) (harm : Harm) (q : List ℕ) → (q ≡ name → ⊥) → get (insert m name harm) q ≡ get m q
harm_apart m name harm q apart = get-insert name_total m name harm q ∙ not_chosen (eq_by_cmp name_cmp q name) (Some harm) (get m q) (λ e. apart (name_exact q name (tied (name_cmp q name) e)))

harm_else : (m : HarmMap) (name : List ℕ) (h : Option Harm) (q : List ℕ) → (q ≡ name → ⊥) → get (with_harm m name h) q ≡ get m q
harm_else m name None q apart = refl
harm_else m name (Some harm) q apart = harm_apart m name harm q apart

apart_of : (q name : List ℕ) → same_name q name ≡ false → q ≡ name → ⊥
apart_of q name differs same = true_false (same_name q name) (ap (same_name q) (sym same) ∙ nat_list_eq_equiv.refl q) differs

-- a held name that was not checked before, and the file that it was read as
checked_next : (honest : Bool) (contents : Files) (held : List ℕ → Bool) (names : List (List ℕ)) (at : ℕ) (name : List ℕ) (h : Option Harm) (m : HarmMap) (new old read : Files)
    → slice_get names at ≡ Some name → held name ≡ true → is_listed (take at names) name ≡ false
    → (IsTrue honest → new ≡ contents) → get new name ≡ get read name → ((q : List ℕ) → (q ≡ name → ⊥) → get new q ≡ get old q) → StandsAs read name h
    → ((q : List ℕ) → checked_until held names at q ≡ true → StandsAs old q (get m q)) → ((q : List ℕ) → checked_until held names at q ≡ false → get m q ≡ None)
    → HasChecked honest contents (checked_until held names (at + 1)) (with_harm m name h)
checked_next honest contents held names at name h m new old read is taken first exact here else stands were others = record {
  files = new;
  exact = exact;
  stands = λ q c. stands_by q (same_name q name) refl c;
  others = λ q c. others_by q (same_name q name) refl c;
}
  where
    test : (q : List ℕ) (b : Bool) → same_name q name ≡ b → checked_until held names (at + 1) q ≡ (b || is_listed (take at names) q) && held q
    test q b same = one_more held names at q ∙ ap (λ l. l && held q) (listed_after names at name q is ∙ ap (λ c. c || is_listed (take at names) q) same)

    none_there : get m name ≡ None
    none_there = others name (ap (λ b. b && held name) first)

    at_name : StandsAs new name (get (with_harm m name h) name)
    at_name = subst (StandsAs new name) (sym (harm_at m name h none_there)) (stands_same new read name h here stands)

    stands_by : (q : List ℕ) (b : Bool) → same_name q name ≡ b → checked_until held names (at + 1) q ≡ true → StandsAs new q (get (with_harm m name h) q)
    stands_by q true same c = subst (λ x. StandsAs new x (get (with_harm m name h) x)) (sym (one_name q name same)) at_name
    stands_by q false same c =
        let apart = apart_of q name same in
        subst (StandsAs new q) (sym (harm_else m name h q apart)) (stands_same new old q (get m q) (else q apart) (were q (sym (test q false same) ∙ c)))

    others_by : (q : List ℕ) (b : Bool) → same_name q name ≡ b → checked_until held names (at + 1) q ≡ false → get (with_harm m name h) q ≡ None
    others_by q true same c = true_false (held q) (ap held (one_name q name same) ∙ taken) (sym (test q true same) ∙ c)
    others_by q false same c = harm_else m name h q (apart_of q name same) ∙ others q (sym (test q false same) ∙ c)

pub checked_held : (honest : Bool) (contents : Files) (held : List ℕ → Bool) (names : List (List ℕ)) (at : ℕ) (name : List ℕ) (h : Option Harm) (m : HarmMap)
    → slice_get names at ≡ Some name → held name ≡ true → is_listed (take at names) name ≡ false → Shows honest contents name h
    → HasChecked honest contents (checked_until held names at) m → HasChecked honest contents (checked_until held names (at + 1)) (with_harm m name h)
checked_held true contents held names at name h m is taken first shows has =
    checked_next true contents held names at name h m contents has.files shows.files is taken first (λ _. refl) (ap (λ (f : Files). get f name) (sym (shows.exact refl))) (λ q _. ap (λ (f : Files). get f q) (sym (has.exact refl)))
    shows.stands has.stands has.others
checked_held false contents held names at name h m is taken first shows has =
    checked_next false contents held names at name h m (with_file has.files name (get shows.files name)) has.files shows.files is taken first (λ is. true_false false is refl) (file_at has.files name (get shows.files name))
    (λ q apart. file_else has.files name (get shows.files name) q apart) shows.stands has.stands has.others

-- all places
all_same : (held : List ℕ → Bool) (names : List (List ℕ)) (at : ℕ) → length names ≤ at → ((q : List ℕ) → held q ≡ true → is_listed names q ≡ true) → (q : List ℕ) → held q ≡ checked_until held names at q
all_same held names at end listed q = by (held q) refl ∙ ap (λ l. is_listed l q && held q) (sym (taken_all names at end))
  where
    none_so : (b : Bool) → false ≡ b && false
    none_so true = refl
    none_so false = refl

    by : (b : Bool) → held q ≡ b → held q ≡ is_listed names q && held q
    by true is = ap (λ b. b && held q) (sym (listed q is))
    by false is = is ∙ none_so (is_listed names q) ∙ ap (λ b. is_listed names q && b) (sym is)

pub checked_all : (honest : Bool) (contents : Files) (held : List ℕ → Bool) (names : List (List ℕ)) (at : ℕ) (m : HarmMap) → length names ≤ at → ((q : List ℕ) → held q ≡ true → is_listed names q ≡ true)
    → HasChecked honest contents (checked_until held names at) m → HasChecked honest contents held m
checked_all honest contents held names at m end listed = same_checks honest contents (checked_until held names at) held m (all_same held names at end listed)

pub asked_all : (failures : ℕ) (held : List ℕ → Bool) (names : List (List ℕ)) (at : ℕ) → length names ≤ at → ((q : List ℕ) → held q ≡ true → is_listed names q ≡ true)
    → WasAsked failures (checked_until held names at) → WasAsked failures held
asked_all failures held names at end listed asked = λ q is. asked q (sym (all_same held names at end listed q) ∙ is)

pub asked_none : (failures : ℕ) (held : List ℕ → Bool) (names : List (List ℕ)) → WasAsked failures (checked_until held names 0)
asked_none failures held names = λ q is. true_false false is refl
