-- Lists of harms: the entries of a map of harms are one, and no other list is.
use Rattle.std.proofs.Common.{◌≡◌, Bool, true, false, ℕ, List, [], ◌∷◌, Option, Some, None, refl, sym, ap, subst, ◌∙◌, arith}
use Rattle.std.specs.Prelude.{Contains, IsTrue}
use Rattle.std.specs.BTreeMap.{is_at}
use Rattle.std.specs.Cmp.{eq_by_cmp_equiv}
use Rattle.std.specs.declared.cmp.Ordering.{Ordering}
use Rattle.std.specs.declared.cmp.Ordering.TheVariants.{Less, Equal, Greater}
use Rattle.std.specs.FinMap.{entries, from_entries, get, get-entries, same_map}
use Rattle.std.specs.List.Sorted.{IsStrictlySortedBy}
use Rattle.std.specs.Map.{keys_of, lookup}
use Rattle.std.specs.Ordering.{is_eq}
use Rattle.std.proofs.lemmas.Map.Keys.{IsDistinct-from_sorted}
use Rattle.std.proofs.lemmas.Map.Views.{Contains-from_lookup, lookup-from_Contains}
use Rattle.git_name.specs.Name.{name_cmp}
use Rattle.git_name.specs.Object.{Object}
use Rattle.git_name.proofs.Names.{name_total, name_exact}
use Rattle.git_name.proofs.TreeMaps.{entries_of_ordered, find_is_lookup, get_of_entries}
use Rattle.git_name.proofs.SortedNames.{sorted_entries}
use Rattle.fork_request.specs.Harms.{Harmed}
use Rattle.fork_request.specs.declared.harm.Harm.{Harm}
use Rattle.fork_request.specs.declared.harm.Harm.TheVariants.{Lost, Damaged}
use Rattle.loose_store.specs.Files.{Files}
use Rattle.loose_store.specs.Stored.{Whole}
use Rattle.fork_ledger.specs.Checked.{HasChecked, StandsAs}
use Rattle.fork_ledger.specs.Harms.{AreFound, AreHarms, HarmMap, IsHarmed}
use Rattle.fork_ledger.specs.Shown.{tenants_of}
use Rattle.fork_ledger.specs.Store.{IsStored, IsHeldBySome}
use Rattle.fork_ledger.specs.Taken.{is_taken}
use Rattle.fork_ledger.specs.Tenants.{Tenants, VaultState}
use Rattle.fork_ledger.proofs.TakenLemmas.{taken_shown}
use Rattle.fork_ledger.proofs.WholeLemmas.{held_whole}
use Rattle.object_table.specs.Holders.{is_held_in}
use Rattle.object_table.specs.Ledgers.{AllWords}

none_some : {A : Type 0} (G : Type 0) (x : A) → None ≡ Some x → G
none_some G x e = let differs : ⊥ = cc in absurd differs

-- ---- one list
found_in : (harms : Harmed) → IsStrictlySortedBy name_cmp (keys_of harms) → (q : List ℕ) (h : Harm) → Contains harms (q, h) → lookup (is_at (name_cmp q)) harms ≡ Some h
found_in harms sorted q h is = lookup-from_Contains (eq_by_cmp_equiv name_total) q h harms (IsDistinct-from_sorted name_cmp (keys_of harms) sorted) is

tied : (o : Ordering) → is_eq o ≡ true → o ≡ Equal
tied Less e = cc
tied Equal e = refl
tied Greater e = cc

in_found : (harms : Harmed) (q : List ℕ) (h : Harm) → lookup (is_at (name_cmp q)) harms ≡ Some h → Contains harms (q, h)
in_found harms q h is = Contains-from_lookup (λ x y e. name_exact x y (tied (name_cmp x y) e)) q h harms is

same_found : (o p : Option Harm) → ((h : Harm) → o ≡ Some h → p ≡ Some h) → ((h : Harm) → p ≡ Some h → o ≡ Some h) → o ≡ p
same_found None None to from = refl
same_found None (Some h) to from = from h refl
same_found (Some h) p to from = sym (to h refl)

over : (files : Files) (held : List ℕ → Bool) (xs ys : Harmed) → AreHarms xs files held → AreHarms ys files held → (q : List ℕ) (h : Harm) → lookup (is_at (name_cmp q)) xs ≡ Some h → lookup (is_at (name_cmp q)) ys ≡ Some h
over files held xs ys these those q h is =
    let here = these.told q h (in_found xs q h is) in
    found_in ys those.ascending q h (those.all q h here.0 here.1)

pub one_list : (files : Files) (held : List ℕ → Bool) (first second : Harmed) → AreHarms first files held → AreHarms second files held → first ≡ second
one_list files held first second are also =
    let same = (λ (q : List ℕ). get_of_entries name_total first q
    ∙ same_found (lookup (is_at (name_cmp q)) first) (lookup (is_at (name_cmp q)) second) (λ h. over files held first second are also q h) (λ h. over files held second first also are q h)
    ∙ sym (get_of_entries name_total second q)) in
    let maps : from_entries {R = name_cmp} first ≡ from_entries {R = name_cmp} second = same_map name_total name_exact _ _ same in
    sym (entries_of_ordered name_total first are.ascending) ∙ ap (λ (m : HarmMap). entries m) maps ∙ entries_of_ordered name_total second also.ascending

-- ---- the entries of a map
entry_found : (m : HarmMap) (q : List ℕ) (h : Harm) → Contains (entries m) (q, h) → get m q ≡ Some h
entry_found m q h is = get-entries m q ∙ find_is_lookup name_cmp (entries m) q ∙ found_in (entries m) (sorted_entries m) q h is

found_entry : (m : HarmMap) (q : List ℕ) (h : Harm) → get m q ≡ Some h → Contains (entries m) (q, h)
found_entry m q h is = in_found (entries m) q h (sym (get-entries m q ∙ find_is_lookup name_cmp (entries m) q) ∙ is)

-- what is harmed so stands so
harmed_so : (files : Files) (q : List ℕ) (o : Option Harm) (h : Harm) → StandsAs files q o → IsHarmed files q h → o ≡ Some h
harmed_so files q None Lost stands harmed = none_some _ _ (sym harmed ∙ stands.1.file)
harmed_so files q None Damaged stands harmed = absurd (harmed.2 stands.0 stands.1)
harmed_so files q (Some Lost) Lost stands harmed = refl
harmed_so files q (Some Lost) Damaged stands harmed = none_some _ _ (sym stands ∙ harmed.1)
harmed_so files q (Some Damaged) Lost stands harmed = none_some _ _ (sym harmed ∙ stands.1)
harmed_so files q (Some Damaged) Damaged stands harmed = refl

pub are_harms : (files : Files) (held : List ℕ → Bool) (m : HarmMap) → ((q : List ℕ) → held q ≡ true → StandsAs files q (get m q)) → ((q : List ℕ) → held q ≡ false → get m q ≡ None)
    → AreHarms (entries m) files held
are_harms files held m stands others = record {
  ascending = sorted_entries m;
  told = λ q h is. by q h (entry_found m q h is) (held q) refl;
  all = λ q h is harmed. found_entry m q h (harmed_so files q (get m q) h (stands q is) harmed);
}
  where
    by : (q : List ℕ) (h : Harm) → get m q ≡ Some h → (b : Bool) → held q ≡ b → (held q ≡ true) × IsHarmed files q h
    by q h is true here = (here, subst (StandsAs files q) is (stands q here))
    by q h is false here = none_some _ h (sym (others q here) ∙ is)

-- ---- nothing is harmed where all stand whole
none_of_them : (harms : Harmed) → ((q : List ℕ) (h : Harm) → Contains harms (q, h) → ⊥) → harms ≡ []
none_of_them [] none = refl
none_of_them (e ∷ es) none = absurd (none e.0 e.1 (0, omega arith, refl))

whole_unharmed : (files : Files) (q : List ℕ) (object : Object) (h : Harm) → Whole files q object → IsHarmed files q h → ⊥
whole_unharmed files q object Lost whole harmed = none_some ⊥ _ (sym harmed ∙ whole.file)
whole_unharmed files q object Damaged whole harmed = harmed.2 object whole

pub none_harmed : (harms : Harmed) (files : Files) (held : List ℕ → Bool) → AreHarms harms files held → ((q : List ℕ) → held q ≡ true → (object : Object) × Whole files q object) → harms ≡ []
none_harmed harms files held are whole = none_of_them harms (λ q h is.
    let told = are.told q h is in
    let stands = whole q told.0 in
    whole_unharmed files q stands.0 h stands.1 told.1)

-- ---- over what ledgers show
taken_so : (files : Files) (ledgers : AllWords) (q : List ℕ) (b : Bool) → is_taken (tenants_of files ledgers) q ≡ b → is_held_in ledgers q ≡ b
taken_so files ledgers q b is = sym (taken_shown files ledgers q) ∙ is

-- what was checked are the harms
pub found_harms : (vault : VaultState) (files : Files) (ledgers : AllWords) (m : HarmMap) → vault.tenants ≡ tenants_of files ledgers → HasChecked vault.honest vault.files (is_held_in ledgers) m → AreFound (entries m) vault
found_harms vault files ledgers m shown has = record {
  files = has.files;
  exact = has.exact;
  are = are_harms has.files (is_taken vault.tenants) m (λ q is. has.stands q (taken_so files ledgers q true (ap (λ (t : Tenants). is_taken t q) (sym shown) ∙ is)))
      (λ q is. has.others q (taken_so files ledgers q false (ap (λ (t : Tenants). is_taken t q) (sym shown) ∙ is)));
}

-- and over an honest store there are none
pub sound_harms : (vault : VaultState) (harms : Harmed) → IsTrue vault.honest → IsStored vault.tenants vault.files → ((q : List ℕ) → is_taken vault.tenants q ≡ true → IsHeldBySome vault.tenants q) → AreFound harms vault → harms ≡ []
sound_harms vault harms h stored takers found =
    none_harmed harms found.files (is_taken vault.tenants) found.are (λ q is.
    let taker = takers q is in
    subst (λ (f : Files). (object : Object) × Whole f q object) (sym (found.exact h)) (held_whole vault.tenants vault.files q taker.0 stored taker.1))
