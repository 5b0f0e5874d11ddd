-- Bytes have at most one fault, and a tree has none.
use Rattle.std.proofs.Common.{◌≡◌, ◌≢◌, ℕ, ◌⊎◌, inl, inr, List, [], ◌∷◌, ◌++◌, refl, sym, ap, subst, ◌∙◌, append_assoc}
use Rattle.std.specs.List.{AllByRecursion, flat_map}
use Rattle.std.proofs.lemmas.List.{append-nil}
use Rattle.git_tree.specs.declared.fault.TreeFault.{TreeFault}
use Rattle.git_tree.specs.declared.fault.TreeFault.TheVariants as fault
use Rattle.git_tree.specs.Entry.{Entry, IsEntry, spelled}
use Rattle.git_tree.specs.Tree.{IsBelow, Differ, AreEntries, IsTree}
use Rattle.git_tree.specs.Fault.{IsFormFault, IsPlaceFault, IsMisplaced, IsTreeFault}
use Rattle.git_tree.specs.Pushing.{IsPushFault}
use Rattle.git_tree.specs.Row.{first_entry, after_first}
use Rattle.git_tree.proofs.ListLemmas.{all_at, all_map, none_of_any, pairs_of_all, pairs_of_sorted, pairs_at}
use Rattle.git_tree.proofs.RowLemmas.{first_is, no_entry}
use Rattle.git_tree.proofs.FormLemmas.{no_form_fault, one_form_fault}

-- a fault of form, or of the place of the next entry
abbrev IsWrong : TreeFault → List Entry → List ℕ → Type 0
IsWrong f front rest = IsFormFault f rest ⊎ IsMisplaced f front rest

-- the second entries are the first ones and more, and so are their bytes
record GoesOn (front other : List Entry) (rest last : List ℕ) : Type 0 where
  more : List Entry
  entries : other ≡ front ++ more
  parts : rest ≡ flat_map spelled more ++ last
  are : AllByRecursion IsEntry more

-- if bytes begin with entries in two ways, one of them goes on from the other
goes_on : (front other : List Entry) (rest last : List ℕ) → AllByRecursion IsEntry front → AllByRecursion IsEntry other → flat_map spelled front ++ rest ≡ flat_map spelled other ++ last → GoesOn front other rest last ⊎ GoesOn other front last rest
goes_on [] other rest last a b same = inl (record { more = other; entries = refl; parts = same; are = b })
goes_on (e ∷ front) [] rest last a b same = inr (record { more = e ∷ front; entries = refl; parts = sym same; are = a })
goes_on (e ∷ front) (f ∷ other) rest last a b same =
    let whole : spelled e ++ (flat_map spelled front ++ rest) ≡ spelled f ++ (flat_map spelled other ++ last) = sym (append_assoc (spelled e) (flat_map spelled front) rest) ∙ same ∙ append_assoc (spelled f) (flat_map spelled other) last in
    let one = first_is e (flat_map spelled front ++ rest) a.0 in
    let two = first_is f (flat_map spelled other ++ last) b.0 in
    let head : e ≡ f = sym one.0 ∙ ap first_entry whole ∙ two.0 in
    let tail : flat_map spelled front ++ rest ≡ flat_map spelled other ++ last = sym one.1 ∙ ap after_first whole ∙ two.1 in
    elim (goes_on front other rest last a.1 b.1 tail) [
      | inl more ↦ inl (record { more = more.more; entries = ap (λ (x : Entry). x ∷ other) (sym head) ∙ ap (λ (x : List Entry). e ∷ x) more.entries; parts = more.parts; are = more.are })
      | inr more ↦ inr (record { more = more.more; entries = ap (λ (x : Entry). x ∷ front) head ∙ ap (λ (x : List Entry). f ∷ x) more.entries; parts = more.parts; are = more.are })
    ]

no_place_fault : (f : TreeFault) (front : List Entry) (e : Entry) → AllByRecursion (λ a. IsBelow a e) front → AllByRecursion (λ a. Differ a e) front → IsPlaceFault f front e → ⊥
no_place_fault fault.Mode front e below differ wrong = wrong
no_place_fault fault.Name front e below differ wrong = wrong
no_place_fault fault.Truncated front e below differ wrong = wrong
no_place_fault fault.Repeated front e below differ wrong = none_of_any (λ a. a.file_name ≡ e.file_name) front differ wrong
no_place_fault fault.Order front e below differ wrong =
    none_of_any (λ a. IsBelow a e → ⊥) front (all_map {P = λ a. IsBelow a e} {Q = λ a. (IsBelow a e → ⊥) → ⊥} front (λ a is refused. refused is) below) wrong.1

one_place_fault : (f g : TreeFault) (front : List Entry) (e : Entry) → IsPlaceFault f front e → IsPlaceFault g front e → f ≡ g
one_place_fault fault.Mode g front e a b = absurd a
one_place_fault fault.Name g front e a b = absurd a
one_place_fault fault.Truncated g front e a b = absurd a
one_place_fault fault.Repeated fault.Mode front e a b = absurd b
one_place_fault fault.Repeated fault.Name front e a b = absurd b
one_place_fault fault.Repeated fault.Truncated front e a b = absurd b
one_place_fault fault.Repeated fault.Repeated front e a b = refl
one_place_fault fault.Repeated fault.Order front e a b = absurd (b.0 a)
one_place_fault fault.Order fault.Mode front e a b = absurd b
one_place_fault fault.Order fault.Name front e a b = absurd b
one_place_fault fault.Order fault.Truncated front e a b = absurd b
one_place_fault fault.Order fault.Repeated front e a b = absurd (a.0 b)
one_place_fault fault.Order fault.Order front e a b = refl

-- an entry that goes on after the others is not wrong
no_fault_at : (f : TreeFault) (front : List Entry) (e : Entry) (more : List Entry) (tail rest : List ℕ) → AreEntries (front ++ e ∷ more) → IsEntry e → rest ≡ spelled e ++ tail → IsWrong f front rest → ⊥
no_fault_at f front e more tail rest are is parts (inl form) = no_form_fault f rest e tail is parts form
no_fault_at f front e more tail rest are is parts (inr placed) =
    let same : placed.entry ≡ e = sym (first_is placed.entry placed.after placed.is).0 ∙ ap first_entry (sym placed.parts ∙ parts) ∙ (first_is e tail is).0 in
    no_place_fault f front e (pairs_at IsBelow front e more (pairs_of_sorted (front ++ e ∷ more) are.ascending)) (pairs_at Differ front e more (pairs_of_all Differ (front ++ e ∷ more) are.different)) (subst (IsPlaceFault f front) same placed.wrong)

-- at one place there is at most one fault
one_fault_at : (f g : TreeFault) (front : List Entry) (rest : List ℕ) → IsWrong f front rest → IsWrong g front rest → f ≡ g
one_fault_at f g front rest (inl a) (inl b) = one_form_fault f g rest a b
one_fault_at f g front rest (inl a) (inr b) = absurd (no_form_fault f rest b.entry b.after b.is b.parts a)
one_fault_at f g front rest (inr a) (inl b) = absurd (no_form_fault g rest a.entry a.after a.is a.parts b)
one_fault_at f g front rest (inr a) (inr b) =
    let same : b.entry ≡ a.entry = sym (first_is b.entry b.after b.is).0 ∙ ap first_entry (sym b.parts ∙ a.parts) ∙ (first_is a.entry a.after a.is).0 in
    one_place_fault f g front a.entry a.wrong (subst (IsPlaceFault g front) same b.wrong)

-- a fault after more entries is at the same place
one_fault_on : (f g : TreeFault) (front other more : List Entry) (rest last : List ℕ) → AreEntries other → AllByRecursion IsEntry more → other ≡ front ++ more → rest ≡ flat_map spelled more ++ last → IsWrong f front rest → IsWrong g other last → f ≡ g
one_fault_on f g front other [] rest last are is entries parts a b =
    one_fault_at f g front rest a (subst (λ (x : List Entry). IsWrong g x rest) (entries ∙ append-nil front) (subst (λ (x : List ℕ). IsWrong g other x) (sym parts) b))
one_fault_on f g front other (e ∷ more) rest last are is entries parts a b =
    absurd (no_fault_at f front e more (flat_map spelled more ++ last) rest (subst AreEntries entries are) is.0 (parts ∙ append_assoc (spelled e) (flat_map spelled more) last) a)

-- bytes have at most one fault
pub one_fault : (f g : TreeFault) (bytes : List ℕ) → IsTreeFault f bytes → IsTreeFault g bytes → f ≡ g
one_fault f g bytes a b =
    elim (goes_on a.front b.front a.rest b.rest a.are.each b.are.each (sym a.parts ∙ b.parts)) [
      | inl on ↦ one_fault_on f g a.front b.front on.more a.rest b.rest b.are on.are on.entries on.parts a.wrong b.wrong
      | inr on ↦ sym (one_fault_on g f b.front a.front on.more b.rest a.rest a.are on.are on.entries on.parts b.wrong a.wrong)
    ]

ends_there : (f : TreeFault) (front row more : List Entry) (rest : List ℕ) → AreEntries row → AllByRecursion IsEntry more → row ≡ front ++ more → rest ≡ flat_map spelled more ++ [] → rest ≢ [] → IsWrong f front rest → ⊥
ends_there f front row [] rest are is entries parts some wrong = some parts
ends_there f front row (e ∷ more) rest are is entries parts some wrong =
    no_fault_at f front e more (flat_map spelled more ++ []) rest (subst AreEntries entries are) is.0 (parts ∙ append_assoc (spelled e) (flat_map spelled more) []) wrong

no_rest : (more : List Entry) (rest : List ℕ) → [] ≡ flat_map spelled more ++ rest → rest ≡ []
no_rest [] rest parts = sym parts
no_rest (e ∷ more) rest parts = absurd (no_entry e (flat_map spelled more ++ rest) (sym (append_assoc (spelled e) (flat_map spelled more) rest) ∙ sym parts))

-- bytes with a fault are no tree
pub no_tree : (f : TreeFault) (bytes : List ℕ) (row : List Entry) → IsTree row bytes → IsTreeFault f bytes → ⊥
no_tree f bytes row tree wrong =
    elim (goes_on wrong.front row wrong.rest [] wrong.are.each tree.are.each (sym wrong.parts ∙ tree.spelling ∙ sym (append-nil (flat_map spelled row)))) [
      | inl on ↦ ends_there f wrong.front row on.more wrong.rest tree.are on.are on.entries on.parts wrong.some wrong.wrong
      | inr on ↦ wrong.some (no_rest on.more wrong.rest on.parts)
    ]

-- an entry has at most one fault of pushing
pub one_push_fault : (f g : TreeFault) (front : List Entry) (e : Entry) → IsPushFault f front e → IsPushFault g front e → f ≡ g
one_push_fault fault.Mode g front e a b = absurd a
one_push_fault fault.Truncated g front e a b = absurd a
one_push_fault fault.Name fault.Mode front e a b = absurd b
one_push_fault fault.Name fault.Name front e a b = refl
one_push_fault fault.Name fault.Truncated front e a b = absurd b
one_push_fault fault.Name fault.Repeated front e a b = absurd (a b.0)
one_push_fault fault.Name fault.Order front e a b = absurd (a b.0)
one_push_fault fault.Repeated fault.Mode front e a b = absurd b
one_push_fault fault.Repeated fault.Name front e a b = absurd (b a.0)
one_push_fault fault.Repeated fault.Truncated front e a b = absurd b
one_push_fault fault.Repeated fault.Repeated front e a b = refl
one_push_fault fault.Repeated fault.Order front e a b = absurd (b.1 a.1)
one_push_fault fault.Order fault.Mode front e a b = absurd b
one_push_fault fault.Order fault.Name front e a b = absurd (b a.0)
one_push_fault fault.Order fault.Truncated front e a b = absurd b
one_push_fault fault.Order fault.Repeated front e a b = absurd (a.1 b.1)
one_push_fault fault.Order fault.Order front e a b = refl

-- an entry that may come after the others has none
pub no_push_fault : (f : TreeFault) (front : List Entry) (e : Entry) → AreEntries (front ++ e ∷ []) → IsPushFault f front e → ⊥
no_push_fault fault.Mode front e are wrong = wrong
no_push_fault fault.Name front e are wrong = wrong (all_at IsEntry front e [] are.each).file_name
no_push_fault fault.Truncated front e are wrong = wrong
no_push_fault fault.Repeated front e are wrong =
    none_of_any (λ a. a.file_name ≡ e.file_name) front (pairs_at Differ front e [] (pairs_of_all Differ (front ++ e ∷ []) are.different)) wrong.1
no_push_fault fault.Order front e are wrong =
    no_place_fault fault.Order front e (pairs_at IsBelow front e [] (pairs_of_sorted (front ++ e ∷ []) are.ascending)) (pairs_at Differ front e [] (pairs_of_all Differ (front ++ e ∷ []) are.different)) (wrong.1, wrong.2)
