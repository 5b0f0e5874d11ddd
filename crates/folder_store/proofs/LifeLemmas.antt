-- What lasts over the lives of a folder.
use Rattle.std.proofs.Common.{◌≡◌, ℕ, true, List, [], ◌∷◌, ◌++◌, Option, Some, None, option_map, refl, sym, ◌∙◌, ap, subst, append_assoc}
use Rattle.std.specs.FinMap.{get}
use Rattle.std.proofs.lemmas.List.{append_cancel_right}
use Rattle.devices.specs.Crash.{File, Stands, first_names}
use Rattle.devices.specs.Device.{Effect, Files, Past, bytes_or_none}
use Rattle.git_name.specs.Name.{IsName}
use Rattle.folder_store.specs.Calls.{Call}
use Rattle.folder_store.specs.Lasting.{as_read, IsBothSafe, IsLasting, IsSafe, IsUnfailed}
use Rattle.folder_store.specs.Lives.{IsMoment, Life, Lives, fresh}
use Rattle.devices.specs.Moments.{HoldsAtEach, Throughout, past_with}
use Rattle.folder_store.specs.Place.{place_of, swept_of}
use Rattle.folder_store.specs.Swept.{is_whole, opened, put_back}
use Rattle.folder_store.proofs.ContentLemmas.{get_file}
use Rattle.folder_store.proofs.LastingLemmas.{lasts_unswept, left_whole}
use Rattle.devices.proofs.MomentLemmas.{last_of, throughout_end, throughout_map, throughout_then}
use Rattle.folder_store.proofs.StandingLemmas.{still_lasts}

-- ---- a device to which nothing was done
fresh_unfailed : (files : Files) → IsUnfailed (fresh files)
fresh_unfailed files = record { files = λ file. refl; folders = λ folder. refl }

fresh_stands : (files : Files) (q : List ℕ) (found : Option (List ℕ)) → Stands files [] (first_names files q) found → found ≡ get files q
fresh_stands files q found stands = by (get files q) refl stands
  where
    one : (a : List ℕ) (o : Option (List ℕ)) → o ≡ Some a → bytes_or_none o ≡ a
    one a o is = ap bytes_or_none is

    by : (o : Option (List ℕ)) → get files q ≡ o → Stands files [] (option_map (λ (b : List ℕ). (q, 0)) o) found → found ≡ o
    by None is none = none
    by (Some a) is (x, some, bytes) = some ∙ ap (λ (b : List ℕ). Some b) (bytes ∙ one a (get files q) is)

fresh_safe : (files : Files) (name : List ℕ) → IsName name → is_whole name (opened files name) ≡ true → IsSafe (fresh files) name
fresh_safe files name is_name whole names may swept there s t =
    ap (λ (o : Option (List ℕ)). is_whole name (put_back name (as_read o) (as_read there))) at_swept
    ∙ ap (λ (o : Option (List ℕ)). is_whole name (put_back name (as_read (get files (swept_of name))) o)) (ap as_read at_place ∙ get_file files name is_name)
    ∙ whole
  where
    at_swept : swept ≡ get files (swept_of name)
    at_swept = fresh_stands files (swept_of name) swept (subst (λ (o : Option File). Stands files [] o swept) (may (swept_of name)) s)

    at_place : there ≡ get files (place_of name)
    at_place = fresh_stands files (place_of name) there (subst (λ (o : Option File). Stands files [] o there) (may (place_of name)) t)

-- ---- a moment
earlier_each : (P : Past → Type 0) (old : Past) (before after : List Effect) → HoldsAtEach P old (after ++ before) → HoldsAtEach P old before
earlier_each P old before [] each = each
earlier_each P old before (e ∷ after) each = earlier_each P old before after each.1

at_moment : (P : Past → Type 0) (old now new : Past) → IsMoment old now new → Throughout P old new → P now
at_moment P old now new moment all =
    subst P (sym moment.now_is) (last_of P old moment.before (earlier_each P old moment.before moment.after (subst (HoldsAtEach P old) same all.each)))
  where
    whole : all.done ++ old.effects ≡ (moment.after ++ moment.before) ++ old.effects
    whole =
        ap (λ (p : Past). p.effects) (sym all.all ∙ moment.new_is ∙ ap (λ (p : Past). past_with p moment.after) moment.now_is)
        ∙ sym (append_assoc moment.after moment.before old.effects)

    same : all.done ≡ moment.after ++ moment.before
    same = append_cancel_right all.done (moment.after ++ moment.before) old.effects whole

-- ---- lives
survives_one : (name : List ℕ) (calls : List Call) (files left : Files) → IsName name → Life name calls files left → is_whole name (opened files name) ≡ true → is_whole name (opened left name) ≡ true
survives_one name calls files left is_name life whole =
    let begun = life.safe (fresh_unfailed files) in
    let opening = begun.1 name is_name (fresh_safe files name is_name whole) in
    let lasts = lasts_unswept life.opened.past name (life.told life.unswept name is_name) (throughout_end (IsBothSafe name) (fresh files) life.opened.past opening) in
    let serving = still_lasts calls life.opened life.last name is_name life.called life.unfailed life.told begun.0 lasts in
    left_whole life.moment name left is_name
    (at_moment (IsBothSafe name) (fresh files) life.moment life.last.past life.at
    (throughout_then (IsBothSafe name) (fresh files) life.opened.past life.last.past opening (throughout_map (IsLasting name) (IsBothSafe name) (λ past kept. kept.safe) life.opened.past life.last.past serving)))
    life.leaves

pub survives : (lives : List (List Call)) (name : List ℕ) (files left : Files) → IsName name → Lives name lives files left → is_whole name (opened files name) ≡ true → is_whole name (opened left name) ≡ true
survives [] name files left is_name is whole = ap (λ (f : Files). is_whole name (opened f name)) is ∙ whole
survives (calls ∷ lives) name files left is_name (next, life, rest) whole = survives lives name next left is_name rest (survives_one name calls files next is_name life whole)
