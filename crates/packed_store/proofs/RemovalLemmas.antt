-- What the removal of a segment leaves of the files of a device, and of the bytes at places in other segments.
use Rattle.std.proofs.Common.{◌≡◌, ◌≢◌, inl, inr, ℕ, zero, suc, ◌+◌, ◌-◌, ◌<◌, ◌≤◌, ◌^◌, Bool, true, false, List, ◌++◌, All, Option, Some, None, IfSome, Result, Ok, Err, cond, codes, decimal, length, replicate, take, drop, option_map, refl, sym, ◌∙◌, ap, subst, arith}
use Rattle.std.specs.Str.Parse.{digits_value}
use Rattle.std.proofs.lemmas.Fmt.{digits_value-decimal}
use Rattle.std.proofs.lemmas.Str.Parse.{numerals_by_value, tells_digits}
use Rattle.std.proofs.lemmas.Map.Views.{IfSome-lookup_from_All}
use Rattle.std.specs.BTreeMap.{is_at}
use Rattle.std.specs.Map.{values_of}
use Rattle.std.specs.Ordering.{eq_by_cmp}
use Rattle.std.specs.FinMap.{get, remove, get-remove, same_map}
use Rattle.devices.specs.Device.{Files, Past, Effect, Does, Removed, bytes_or_none, files_of, with_effect}
use Rattle.git_name.specs.Name.{name_cmp}
use Rattle.git_name.specs.Maps.{map_values}
use Rattle.git_name.proofs.MapLemmas.{get_map_values}
use Rattle.git_name.proofs.Names.{name_total, name_exact}
use Rattle.git_name.proofs.TreeMaps.{get_of_entries}
use Rattle.packed_store.specs.declared.place.Place.{Place}
use Rattle.packed_store.specs.Contents.{contents_in}
use Rattle.packed_store.specs.Place.{AreRecorded, HasNoneIn, Index, IsElsewhere, IsRecorded, IsThere, KeepsOthers, KeepsPaths, bytes_at, eight_digits, index_of, segment_of, segment_path}
use Rattle.packed_store.proofs.GrowthLemmas.{one_path, recorded_as, there_in}
use Rattle.packed_store.proofs.LawLemmas.{split_same}

-- zeros before digits
zeros_add_nothing : (k : ℕ) (ds : List ℕ) → digits_value 10 (replicate k 48 ++ ds) ≡ digits_value 10 ds
zeros_add_nothing zero ds = refl
zeros_add_nothing (suc k) ds = zeros_add_nothing k ds

-- the number that eight digits write
pub value_of_eight : (n : ℕ) → n < 2 ^ 64 → digits_value 10 (eight_digits n) ≡ n
value_of_eight n small = zeros_add_nothing (8 - length (decimal n)) (decimal n) ∙ digits_value-decimal (numerals_by_value _ tells_digits) n small

-- different segments have different paths
pub one_segment : (m n : ℕ) → m < 2 ^ 64 → n < 2 ^ 64 → segment_path m ≡ segment_path n → m ≡ n
one_segment m n small other is =
    let digits : eight_digits m ≡ eight_digits n = (split_same (codes "segments/") (codes "segments/") (eight_digits m) (eight_digits n) refl is).back in
    sym (value_of_eight m small) ∙ ap (digits_value 10) digits ∙ value_of_eight n other

still_found : (b : Bool) (o : Option (List ℕ)) → (b ≡ true → ⊥) → cond b None o ≡ o
still_found true o never = absurd (never refl)
still_found false o never = refl

-- what is under another path than the one that was removed
removed_other : (files : Files) (path q : List ℕ) → q ≢ path → bytes_or_none (get (remove files path) q) ≡ bytes_or_none (get files q)
removed_other files path q differs =
    ap bytes_or_none (get-remove name_total files path q ∙ still_found (eq_by_cmp name_cmp q path) (get files q) (λ e. differs (one_path q path e)))

-- a removal, whether it fails or not
pub does_remove : {A E : Type 0} (path : List ℕ) (old new : Past) (result : Result A E) → Does (Removed path) old new result → KeepsPaths path (files_of old) (files_of new)
does_remove path old new (Ok answer) does q differs = ap (λ (past : Past). bytes_or_none (get (files_of past) q)) does ∙ removed_other (files_of old) path q differs
does_remove path old new (Err fault) (inl same) q differs = ap (λ (past : Past). bytes_or_none (get (files_of past) q)) same
does_remove path old new (Err fault) (inr (part, of, is)) q differs =
    ap (λ (past : Past). bytes_or_none (get (files_of past) q)) is ∙ ap (λ (e : Effect). bytes_or_none (get (files_of (with_effect old e)) q)) of
    ∙ removed_other (files_of old) path q differs

-- other paths are those of other segments
pub segments_kept : (segment : ℕ) (path : List ℕ) (old new : Files) → segment < 2 ^ 64 → path ≡ segment_path segment → KeepsPaths path old new → KeepsOthers segment old new
segments_kept segment path old new small is kept other fits differs =
    kept (segment_path other) (λ same. differs (one_segment other segment (omega (arith, fits)) small (same ∙ is)))

-- a segment behind the one that was removed has as many bytes as before
pub end_kept : (segment last count : ℕ) (path : List ℕ) (old mid new : Files) → segment < last → last < 2 ^ 64 → path ≡ segment_path segment → mid ≡ old → KeepsPaths path mid new
    → length (segment_of old last) ≡ count → length (segment_of new last) ≡ count
end_kept segment last count path old mid new before small is same kept counted =
    let differs : segment_path last ≢ path = λ equal. let one = one_segment last segment small (omega (arith, before, small)) (equal ∙ is) in let never : ⊥ = omega (arith, before, one) in never in
    ap length (kept (segment_path last) differs) ∙ ap (λ (files : Files). length (segment_of files last)) same ∙ counted

module _ (segment : ℕ) (old new : Files) (kept : KeepsOthers segment old new) where
  one_kept : (place : Place) → IsElsewhere segment place → bytes_at new place ≡ bytes_at old place
  one_kept place there = ap (λ (bytes : List ℕ). take place.len (drop place.at bytes)) (kept place.segment there.1 there.0)

  at_kept : (o : Option Place) → ((place : Place) → o ≡ Some place → IsElsewhere segment place) → option_map (bytes_at new) o ≡ option_map (bytes_at old) o
  at_kept None there = refl
  at_kept (Some place) there = ap Some (one_kept place (there place refl))

  -- the bytes at all places of an index that has none in the segment
  pub values_kept : (index : Index) → HasNoneIn index segment → map_values (bytes_at new) index ≡ map_values (bytes_at old) index
  values_kept index none = same_map name_total name_exact _ _ (λ q.
      get_map_values name_total (bytes_at new) index q ∙ at_kept (get index q) (none q) ∙ sym (get_map_values name_total (bytes_at old) index q))

  recorded_kept : (name : List ℕ) (place : Place) → IsElsewhere segment place → IsRecorded old name place → IsRecorded new name place
  recorded_kept name place one at =
      let same = kept place.segment one.1 one.0 in
      let there : IsThere new place = subst (λ (bytes : List ℕ). place.at + place.len ≤ length bytes) (sym same) (there_in old name place at) in
      recorded_as old new name place there (ap (take place.at) same) at

  -- and the records at them stay
  pub are_recorded_kept : (index : Index) → HasNoneIn index segment → AreRecorded old index → AreRecorded new index
  are_recorded_kept index none all name place is = recorded_kept name place (none name place is) (all name place is)

-- the removal of a segment in which no file is changes nothing, over any device
pub removed_in : (b c : Bool) (old new : Past) (i : Index) (segment : ℕ) → c ≡ b → (b ≡ true → KeepsOthers segment (files_of old) (files_of new)) → HasNoneIn i segment
    → contents_in c new i ≡ contents_in b old i
removed_in true c old new i segment same kept none = ap (λ (d : Bool). contents_in d new i) same ∙ values_kept segment (files_of old) (files_of new) (kept refl) i none
removed_in false c old new i segment same kept none = ap (λ (d : Bool). contents_in d new i) same

-- what holds of the places of all entries holds of each that is found
pub all_elsewhere : (es : List (List ℕ × Place)) (segment : ℕ) → All (λ place. IsElsewhere segment place) (values_of es) → HasNoneIn (index_of es) segment
all_elsewhere es segment all name place is =
    subst (λ (o : Option Place). IfSome o (λ place. IsElsewhere segment place)) (sym (get_of_entries name_total es name) ∙ is) (IfSome-lookup_from_All (λ place. IsElsewhere segment place) (is_at (name_cmp name)) es all)
