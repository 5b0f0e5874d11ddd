-- Calls one after another, and what clears the folder of journals.
use Rattle.std.proofs.Common.{append_assoc, ◌≡◌, inl, inr, ℕ, Bool, false, List, [], ◌∷◌, ◌++◌, Option, Some, None, is_some, length, nat_eq, option_map, Result, Ok, Err, refl, sym, ◌∙◌, ap, subst}
use Rattle.std.specs.Cmp.Lexicographic.{pointwise}
use Rattle.std.specs.FinMap.{contains_key, get}
use Rattle.std.specs.Option.{option_eq}
use Rattle.devices.specs.Device.{Effect, Files, Past, Does, Added, Removed, Wrote, with_effect}
use Rattle.devices.specs.Moments.{past_with}
use Rattle.devices.specs.Runs.{Runs}
use Rattle.devices.specs.declared.device.DeviceFault.{DeviceFault}
use Rattle.devices.proofs.NameLemmas.{same_text}
use Rattle.devices.proofs.SeenLemmas.{clash}
use Rattle.git_name.specs.Name.{IsName, name_in}
use Rattle.host_folder.specs.Journal.{AllClear, BeginsJournal, ClearsBy, IsCleared, SyncsNames, beginning, journal_called, journal_folder, journal_part, syncing_names}
use Rattle.host_folder.proofs.OtherLemmas.{name_again}

-- ---- calls one after another
abbrev Answer : Type 0
Answer = Result (Unit {0}) DeviceFault

-- calls after calls that were answered
runs_then : (first rest : List Effect) (old mid new : Past) (result : Answer) → Runs {A = Unit {0}} {E = DeviceFault} first old mid (Ok tt) → Runs rest mid new result → Runs (first ++ rest) old new result
runs_then [] rest old mid new result is runs = subst (λ (p : Past). Runs rest p new result) is runs
runs_then (e ∷ first) rest old mid new (Ok answer) is runs = runs_then first rest (with_effect old e) mid new (Ok answer) is runs
runs_then (e ∷ first) rest old mid new (Err fault) is runs = inr (inr (runs_then first rest (with_effect old e) mid new (Err fault) is runs))

-- no calls after those that failed
none_done : (rest : List Effect) (old new : Past) (fault : DeviceFault) → new ≡ old → Runs {A = Unit {0}} rest old new (Err fault)
none_done [] old new fault is = is
none_done (e ∷ rest) old new fault is = inl is

runs_cut : (first rest : List Effect) (old new : Past) (fault : DeviceFault) → Runs {A = Unit {0}} first old new (Err fault) → Runs {A = Unit {0}} (first ++ rest) old new (Err fault)
runs_cut [] rest old new fault is = none_done rest old new fault is
runs_cut (e ∷ first) rest old new fault (inl is) = inl is
runs_cut (e ∷ first) rest old new fault (inr (inl part)) = inr (inl part)
runs_cut (e ∷ first) rest old new fault (inr (inr runs)) = inr (inr (runs_cut first rest (with_effect old e) new fault runs))

runs_one : (effect : Effect) (old new : Past) (result : Answer) → Does effect old new result → Runs (effect ∷ []) old new result
runs_one effect old new (Ok answer) is = is
runs_one effect old new (Err fault) (inl is) = inl is
runs_one effect old new (Err fault) (inr part) = inr (inl part)

-- ---- a journal that is begun
-- an empty part, and then these bytes
pub part_and_line : (empty line bytes : List ℕ) (old mid new : Past) (result : Answer) → empty ≡ [] → line ≡ bytes → mid ≡ with_effect old (Wrote journal_part empty) → Does (Added journal_part line) mid new result
    → Runs (Wrote journal_part [] ∷ Added journal_part bytes ∷ []) old new result
part_and_line empty line bytes old mid new result none same wrote added =
    runs_then (Wrote journal_part [] ∷ []) (Added journal_part bytes ∷ []) old mid new result (wrote ∙ ap (λ (xs : List ℕ). with_effect old (Wrote journal_part xs)) none)
    (runs_one (Added journal_part bytes) mid new result (subst (λ (xs : List ℕ). Does (Added journal_part xs) mid new result) same added))

pub begun : (standing : List ℕ) (old mid new : Past) (result : Answer) → SyncsNames {A = Unit {0}} {E = DeviceFault} old mid (Ok tt) → Runs (beginning standing) mid new result → BeginsJournal standing old new result
begun standing old mid new result (is_missing, syncs) runs = (is_missing, runs_then (syncing_names is_missing) (beginning standing) old mid new result syncs runs)

pub not_begun : (standing : List ℕ) (old new : Past) (fault : DeviceFault) → SyncsNames {A = Unit {0}} old new (Err fault) → BeginsJournal {A = Unit {0}} standing old new (Err fault)
not_begun standing old new fault (is_missing, syncs) = (is_missing, runs_cut (syncing_names is_missing) (beginning standing) old new fault syncs)

-- ---- a folder that is cleared
module _ (is_there : Bool) (name : List ℕ) where
  pub clears_none : (old new : Past) → new ≡ old → ClearsBy is_there name old new
  clears_none old new is = ([], tt, is)

  -- a file was removed, or that failed
  pub clears_one : (called path : List ℕ) (old new : Past) (result : Answer) → IsCleared is_there name called → path ≡ journal_folder ++ called → Does (Removed path) old new result → ClearsBy is_there name old new
  clears_one called path old new (Ok answer) cleared inside is = (Removed path ∷ [], ((called, inside, cleared), tt), is)
  clears_one called path old new (Err fault) cleared inside (inl is) = clears_none old new is
  clears_one called path old new (Err fault) cleared inside (inr (part, of, is)) = (Removed path ∷ [], ((called, inside, cleared), tt), is ∙ ap (with_effect old) of)

  all_clear : (before after : List Effect) → AllClear is_there name before → AllClear is_there name after → AllClear is_there name (after ++ before)
  all_clear before [] one two = one
  all_clear before (e ∷ after) one two = (two.0, all_clear before after one two.1)

  pub clears_then : (old mid new : Past) → ClearsBy is_there name old mid → ClearsBy is_there name mid new → ClearsBy is_there name old new
  clears_then old mid new (before, one, first) (after, two, then) = (
    after ++ before,
    all_clear before after one two,
    then ∙ ap (λ (p : Past). past_with p after) first ∙ ap (λ (es : List Effect). record old { effects = es }) (sym (append_assoc after before old.effects)),
  )

-- what is found is not the name
not_it : (found : Option (List ℕ)) (name : List ℕ) → option_eq (pointwise nat_eq) found (Some name) ≡ false → found ≡ Some name → ⊥
not_it found name differs is = clash (option_eq (pointwise nat_eq) found (Some name)) (ap (λ (o : Option (List ℕ)). option_eq (pointwise nat_eq) o (Some name)) is ∙ same_text name) differs

-- what is read as no journal of this name
pub cleared : (called name : List ℕ) (found read : Option (List ℕ)) → IsName name → ((n : List ℕ) → IsName n → called ≡ journal_called n → found ≡ Some n) → option_eq (pointwise nat_eq) found (Some name) ≡ false
    → read ≡ name_in called → option_eq (pointwise nat_eq) read (Some name) ≡ false → IsCleared false name called
cleared called name found read is_name named differs reads apart = record {
  other = λ is. not_it found name differs (named name is_name is);
  old = λ none is. not_it read name apart (name_again called name read is_name reads is);
}

-- a file with a length is there
pub is_there_by : (shown : Files) (path file : List ℕ) (found : Option ℕ) → found ≡ option_map length (get shown path) → path ≡ file → is_some found ≡ contains_key shown file
is_there_by shown path file found known same = ap is_some (known ∙ ap (λ (p : List ℕ). option_map length (get shown p)) same) ∙ by (get shown file)
  where
    by : (o : Option (List ℕ)) → is_some (option_map length o) ≡ is_some o
    by (Some text) = refl
    by None = refl
