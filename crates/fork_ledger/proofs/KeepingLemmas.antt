-- Files that change under names that nobody holds change nothing that is shown.
use Rattle.std.proofs.Common.{◌≡◌, ℕ, List, Bool, true, false, cond, ◌||◌, Option, Some, None, is_some, refl, sym, ap, subst, ◌∙◌}
use Rattle.std.specs.Prelude.{if◌then◌else◌}
use Rattle.std.specs.Option.{option_map}
use Rattle.std.specs.FinMap.{contains_key, get, get-remove, remove, same_map}
use Rattle.std.specs.Ordering.{eq_by_cmp}
use Rattle.git_name.specs.Name.{name_cmp}
use Rattle.git_name.proofs.Names.{name_total, name_exact}
use Rattle.looks.specs.Places.{Places}
use Rattle.object_table.specs.Holders.{is_held_in}
use Rattle.object_table.specs.Ledgers.{AllWords}
use Rattle.object_table.specs.Words.{Words, is_staged, is_visible}
use Rattle.object_table.specs.declared.word.Word.{Word}
use Rattle.object_table.proofs.HolderLemmas.{held_by}
use Rattle.loose_store.specs.Files.{Files, SameBut}
use Rattle.fork_ledger.specs.Kept.{Covers, IsKept, KeepsHeld, TakesAway}
use Rattle.fork_ledger.specs.Private.{Awaits, Holds, Private, Sees, is_held_by}
use Rattle.fork_ledger.specs.Shown.{object_at, own_of, part, tenants_of}
use Rattle.fork_ledger.specs.Store.{IsStored}
use Rattle.fork_ledger.specs.Tenants.{private_of}
use Rattle.fork_ledger.proofs.ShownLemmas.{get_part, get_tenant, same_at, same_private, shown_at}
use Rattle.fork_ledger.proofs.TakenLemmas.{taken_held}

part_keeps : (p : Word → Bool) (old new : Files) (words : Words) → ((q : List ℕ) → contains_key words q ≡ true → get new q ≡ get old q) → part p new words ≡ part p old words
part_keeps p old new words keeps = same_map name_total name_exact _ _ (λ q. get_part p new words q ∙ by q (get words q) refl ∙ sym (get_part p old words q))
  where
    by : (q : List ℕ) (o : Option Word) → get words q ≡ o → shown_at p new q (get words q) ≡ shown_at p old q (get words q)
    by q None here = ap (shown_at p new q) here ∙ ap (shown_at p old q) (sym here)
    by q (Some word) here = ap (shown_at p new q) here ∙ at (p word) ∙ ap (shown_at p old q) (sym here)
      where
        at : (b : Bool) → (if b then Some (object_at new q word) else None) ≡ (if b then Some (object_at old q word) else None)
        at true = ap Some (same_at old new q word (keeps q (ap is_some here)))
        at false = refl

own_keeps : (old new : Files) (words : Words) → ((q : List ℕ) → contains_key words q ≡ true → get new q ≡ get old q) → own_of new words ≡ own_of old words
own_keeps old new words keeps = same_private _ _ (part_keeps is_visible old new words keeps) (part_keeps is_staged old new words keeps)

-- files that agree under held names show the same
pub tenants_keep : (m : AllWords) (old new : Files) → KeepsHeld m old new → tenants_of new m ≡ tenants_of old m
tenants_keep m old new keeps = same_map name_total name_exact _ _ (λ t. get_tenant new m t ∙ by t (get m t) refl ∙ sym (get_tenant old m t))
  where
    by : (t : List ℕ) (o : Option Words) → get m t ≡ o → option_map (own_of new) (get m t) ≡ option_map (own_of old) (get m t)
    by t None here = ap (option_map (own_of new)) here ∙ ap (option_map (own_of old)) (sym here)
    by t (Some words) here =
        ap (option_map (own_of new)) here ∙ ap Some (own_keeps old new words (λ q has. keeps q (held_by m t words q here has)))
        ∙ ap (option_map (own_of old)) (sym here)

contrary : (b : Bool) → b ≡ true → b ≡ false → ⊥
contrary b is apart = (let differs : true ≡ false = sym is ∙ apart in let bad : ⊥ = cc in bad)

-- one file changes: either nobody holds its name, or no file changed
pub keeps_but : (m : AllWords) (name : List ℕ) (old new : Files) (b : Bool) → is_held_in m name ≡ b → SameBut name old new → (b ≡ true → new ≡ old) → KeepsHeld m old new
keeps_but m name old new true is but same q held = ap (λ files. get files q) (same refl)
keeps_but m name old new false is but same q held = but q (λ here. contrary (is_held_in m name) (ap (is_held_in m) (sym here) ∙ held) is)

-- files that did not change
pub keeps_same : (m : AllWords) (old new : Files) → new ≡ old → KeepsHeld m old new
keeps_same m old new same q held = ap (λ files. get files q) same

pub keeps_more : (m k : AllWords) (a b c : Files) → k ≡ m → KeepsHeld m a b → KeepsHeld k b c → KeepsHeld m a c
keeps_more m k a b c same first next q held = next q (ap (λ x. is_held_in x q) same ∙ held) ∙ first q held

-- files that are taken away, one after another
pub away_none : (files : Files) → TakesAway files files
away_none files name file is = is

pub away_more : (a b c : Files) → TakesAway a b → TakesAway b c → TakesAway a c
away_more a b c first next name file is = first name file (next name file is)

-- one file is taken away
pub away_one : (old new : Files) (name : List ℕ) → new ≡ remove old name → TakesAway old new
away_one old new name is other file there = by (eq_by_cmp name_cmp other name) (sym (ap (λ files. get files other) is ∙ get-remove name_total old name other) ∙ there)
  where
    by : (b : Bool) → cond b None (get old other) ≡ Some file → get old other ≡ Some file
    by true none = absurd (cc)
    by false stands = stands

-- what is held stands whole as before
pub stored_keeps : (m : AllWords) (old new : Files) → KeepsHeld m old new → IsStored (tenants_of old m) old → IsStored (tenants_of new m) new
stored_keeps m old new keeps stored tenant name object holds =
    let before = subst (λ tenants. Holds (private_of tenants tenant) name object) (tenants_keep m old new keeps) holds in
    let whole = stored tenant name object before in
    record { file = keeps name (taken_held old m name (tenant, taken (private_of (tenants_of old m) tenant) before)) ∙ whole.file; named = whole.named }
  where
    taken : (own : Private) → Holds own name object → is_held_by own name ≡ true
    taken own (Sees is) = ap (λ o. is_some o || contains_key own.staged name) is
    taken own (Awaits is) = at (contains_key own.visible name) (contains_key own.staged name) (ap is_some is)
      where
        at : (b c : Bool) → c ≡ true → (b || c) ≡ true
        at true c is = refl
        at false c is = is

-- what is kept, where held files stay and the catalogue still covers them
pub kept_after : (old new : Files) (m n : AllWords) (first last : Places) → n ≡ m → KeepsHeld m old new → (Covers old first → Covers new last) → IsKept m old first → IsKept n new last
kept_after old new m n first last same keeps covers kept = record {
  stored = subst (λ x. IsStored (tenants_of new x) new) (sym same) (stored_keeps m old new keeps kept.stored);
  covers = covers kept.covers;
}
