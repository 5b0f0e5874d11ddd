-- The bytes of a file: as they are seen, and as a loss of power may leave them.
use Rattle.std.proofs.Common.{◌≡◌, ◌⊎◌, inl, inr, ℕ, suc, ◌&&◌, not, Bool, true, false, cond, List, [], ◌∷◌, ◌++◌, Option, Some, None, Result, Ok, Err, IfOk, length, nat_eq, take, drop, refl, sym, ◌∙◌, ap, subst, append-nil, append_assoc, take-append-drop}
use Rattle.std.specs.Cmp.Lexicographic.{pointwise}
use Rattle.std.proofs.lemmas.Bool.Decides.{Decides-eqb}
use Rattle.devices.specs.Crash.{File, names_after, is_file, bytes_after, has_failed, MayBytes, IsFrontFrom}
use Rattle.devices.specs.Device.{Files, Effect, Wrote, Added, Moved, Removed, SyncedFile, SyncedFolder, FailedFile, FailedFolder}
use Rattle.devices.specs.Loss.{added_in, is_sure, made_in, synced_in}
use Rattle.devices.specs.Note.{effect_of, effects_of}
use Rattle.devices.specs.declared.note.Note.{Note}
use Rattle.devices.proofs.NameLemmas.{count_effects, one_text, same_text}

-- ---- one file
both_are : (a b : Bool) → (a && b) ≡ true → (a ≡ true) × (b ≡ true)
both_are true b is = (refl, is)
both_are false b is = absurd (cc)

pub the_file : (o : Option File) (f : File) → is_file o f ≡ true → o ≡ Some f
the_file None f is = absurd (cc)
the_file (Some (p, n)) (q, m) is =
    let both = both_are _ _ is in
    let paths : p ≡ q = one_text p q both.0 in
    let numbers : n ≡ m = (Decides-eqb n m).0 both.1 in
    cc

pub same_file : (f : File) → is_file (Some f) f ≡ true
same_file f = ap (λ (b : Bool). b && nat_eq f.1 f.1) (same_text f.0) ∙ (Decides-eqb f.1 f.1).1 refl

-- ---- the bytes that are seen
abbrev pub after_bytes : Option (List ℕ) → Option (List ℕ × List ℕ) → Files → List Effect → File → List ℕ
after_bytes (Some bytes) added base past file = bytes
after_bytes None None base past file = bytes_after base past file
after_bytes None (Some (path, bytes)) base past file = cond (is_file (names_after base past path) file) (bytes_after base past file ++ bytes) (bytes_after base past file)

made : (b : Bool) (bytes : List ℕ) (added : Option (List ℕ × List ℕ)) (base : Files) (past : List Effect) (file : File) → after_bytes (cond b (Some bytes) None) added base past file ≡ cond b bytes (after_bytes None added base past file)
made true bytes added base past file = refl
made false bytes added base past file = refl

not_made : (b : Bool) (base : Files) (past : List Effect) (file : File) → after_bytes (cond b None None) None base past file ≡ bytes_after base past file
not_made true base past file = refl
not_made false base past file = refl

bytes_step : (base : Files) (past : List Effect) (e : Effect) (file : File) → after_bytes (made_in e (suc (length past)) file.1) (added_in e) base past file ≡ bytes_after base (e ∷ past) file
bytes_step base past (Wrote path bytes) file = made (nat_eq file.1 (suc (length past))) bytes None base past file
bytes_step base past (Added path bytes) file = made (nat_eq file.1 (suc (length past))) bytes (Some (path, bytes)) base past file
bytes_step base past (Moved from to) file = not_made (nat_eq file.1 (suc (length past))) base past file
bytes_step base past (Removed path) file = not_made (nat_eq file.1 (suc (length past))) base past file
bytes_step base past (SyncedFile path) file = not_made (nat_eq file.1 (suc (length past))) base past file
bytes_step base past (SyncedFolder folder) file = not_made (nat_eq file.1 (suc (length past))) base past file
bytes_step base past (FailedFile path) file = not_made (nat_eq file.1 (suc (length past))) base past file
bytes_step base past (FailedFolder folder) file = not_made (nat_eq file.1 (suc (length past))) base past file

pub number_is : (notes past : List Note) (note : Note) → notes ≡ note ∷ past → length notes ≡ suc (length (effects_of past))
number_is notes past note is = ap length is ∙ ap suc (sym (count_effects past))

-- the bytes that are seen after the newest note
pub bytes_newest : (base : Files) (notes past : List Note) (note : Note) (file : File) (made_is : Option (List ℕ)) (added_is : Option (List ℕ × List ℕ)) → notes ≡ note ∷ past
    → made_is ≡ made_in (effect_of note) (length notes) file.1 → added_is ≡ added_in (effect_of note) → after_bytes made_is added_is base (effects_of past) file ≡ bytes_after base (effects_of notes) file
bytes_newest base notes past note file made_is added_is is made_eq added_eq =
    ap (λ (o : Option (List ℕ)). after_bytes o added_is base (effects_of past) file) (made_eq ∙ ap (λ (n : ℕ). made_in (effect_of note) n file.1) (number_is notes past note is))
    ∙ ap (λ (o : Option (List ℕ × List ℕ)). after_bytes (made_in (effect_of note) (suc (length (effects_of past))) file.1) o base (effects_of past) file) added_eq
    ∙ bytes_step base (effects_of past) (effect_of note) file
    ∙ ap (λ (ns : List Note). bytes_after base (effects_of ns) file) (sym is)

-- ---- the bytes that may be left
pub seen_may_stay : (base : Files) (past : List Effect) (file : File) → MayBytes base past file (bytes_after base past file)
seen_may_stay base [] file = refl
seen_may_stay base (Wrote path bytes ∷ past) file = by (seen_may_stay base past file) (nat_eq file.1 (suc (length past))) refl
  where
    by : MayBytes base past file (bytes_after base past file) → (b : Bool) → nat_eq file.1 (suc (length past)) ≡ b → (file.1 ≡ suc (length past)) ⊎ MayBytes base past file (cond b bytes (bytes_after base past file))
    by may true e = inl ((Decides-eqb file.1 (suc (length past))).0 e)
    by may false e = inr may
seen_may_stay base (Added path bytes ∷ past) file = by (seen_may_stay base past file) (nat_eq file.1 (suc (length past))) (is_file (names_after base past path) file) refl refl
  where
    by : MayBytes base past file (bytes_after base past file) → (b c : Bool) → nat_eq file.1 (suc (length past)) ≡ b → is_file (names_after base past path) file ≡ c
        → (file.1 ≡ suc (length past)) ⊎ (MayBytes base past file (cond b bytes (cond c (bytes_after base past file ++ bytes) (bytes_after base past file)))
        ⊎ ((least : List ℕ) × MayBytes base past file least × (names_after base past path ≡ Some file) × IsFrontFrom least (bytes_after base past file ++ bytes) (cond b bytes (cond c (bytes_after base past file ++ bytes) (bytes_after base past file)))))
    by may true c e at = inl ((Decides-eqb file.1 (suc (length past))).0 e)
    by may false true e at = inr (inr (bytes_after base past file, may, the_file (names_after base past path) file at, ((bytes, refl), ([], sym (append-nil _)))))
    by may false false e at = inr (inl may)
seen_may_stay base (Moved from to ∷ past) file = seen_may_stay base past file
seen_may_stay base (Removed path ∷ past) file = seen_may_stay base past file
seen_may_stay base (SyncedFile path ∷ past) file = (seen_may_stay base past file, λ at unfailed. refl)
seen_may_stay base (SyncedFolder folder ∷ past) file = seen_may_stay base past file
seen_may_stay base (FailedFile path ∷ past) file = seen_may_stay base past file
seen_may_stay base (FailedFolder folder ∷ past) file = seen_may_stay base past file

-- a file that an effect made may have any bytes
none_made : {A : Type 0} (b : Bool) (bytes : List ℕ) → Some bytes ≡ cond {A = Option (List ℕ)} b None None → A
none_made true bytes is = absurd (cc)
none_made false bytes is = absurd (cc)

made_now : {A : Type 0} (a n : ℕ) (bytes x : List ℕ) → Some bytes ≡ cond {A = Option (List ℕ)} (nat_eq a n) (Some x) None → (a ≡ n) ⊎ A
made_now {A} a n bytes x is = by (nat_eq a n) refl is
  where
    by : (b : Bool) → nat_eq a n ≡ b → Some bytes ≡ cond {A = Option (List ℕ)} b (Some x) None → (a ≡ n) ⊎ A
    by true e is = inl ((Decides-eqb a n).0 e)
    by false e is = absurd (cc)

may_made : (base : Files) (past : List Effect) (e : Effect) (file : File) (bytes x : List ℕ) → Some bytes ≡ made_in e (suc (length past)) file.1 → MayBytes base (e ∷ past) file x
may_made base past (Wrote path other) file bytes x is = made_now file.1 (suc (length past)) bytes other is
may_made base past (Added path other) file bytes x is = made_now file.1 (suc (length past)) bytes other is
may_made base past (Moved from to) file bytes x is = none_made (nat_eq file.1 (suc (length past))) bytes is
may_made base past (Removed path) file bytes x is = none_made (nat_eq file.1 (suc (length past))) bytes is
may_made base past (SyncedFile path) file bytes x is = none_made (nat_eq file.1 (suc (length past))) bytes is
may_made base past (SyncedFolder folder) file bytes x is = none_made (nat_eq file.1 (suc (length past))) bytes is
may_made base past (FailedFile path) file bytes x is = none_made (nat_eq file.1 (suc (length past))) bytes is
may_made base past (FailedFolder folder) file bytes x is = none_made (nat_eq file.1 (suc (length past))) bytes is

-- a file that is sure to be kept has the bytes that are seen
pub may_sure : (base : Files) (past : List Effect) (e : Effect) (file : File) → is_sure base past (synced_in e) file ≡ true → MayBytes base (e ∷ past) file (bytes_after base past file)
may_sure base past (Wrote path bytes) file is = absurd (cc)
may_sure base past (Added path bytes) file is = absurd (cc)
may_sure base past (Moved from to) file is = absurd (cc)
may_sure base past (Removed path) file is = absurd (cc)
may_sure base past (SyncedFile path) file is = (seen_may_stay base past file, λ at unfailed. refl)
may_sure base past (SyncedFolder folder) file is = absurd (cc)
may_sure base past (FailedFile path) file is = absurd (cc)
may_sure base past (FailedFolder folder) file is = absurd (cc)

-- an effect that is not sure to keep a file may leave what may be left before it
pub may_kept : (base : Files) (past : List Effect) (e : Effect) (file : File) (x : List ℕ) → is_sure base past (synced_in e) file ≡ false → MayBytes base past file x → MayBytes base (e ∷ past) file x
may_kept base past (Wrote path bytes) file x unsure may = inr may
may_kept base past (Added path bytes) file x unsure may = inr (inl may)
may_kept base past (Moved from to) file x unsure may = may
may_kept base past (Removed path) file x unsure may = may
may_kept base past (SyncedFile path) file x unsure may = (may, λ at unfailed. absurd (clash at unfailed))
  where
    clash : names_after base past path ≡ Some file → has_failed base past file ≡ false → ⊥
    clash at unfailed =
        let sure : is_sure base past (Some path) file ≡ true =
        ap (λ (t : Bool). cond t (not (has_failed base past file)) false) (ap (λ (o : Option File). is_file o file) at ∙ same_file file) ∙ ap not unfailed in
        cc
may_kept base past (SyncedFolder folder) file x unsure may = may
may_kept base past (FailedFile path) file x unsure may = may
may_kept base past (FailedFolder folder) file x unsure may = may

one_pair : (a b : List ℕ × List ℕ) → Some a ≡ Some b → a ≡ b
one_pair a b is = cc

-- after an append there may be what was left before it, or more of the whole
pub may_grown : (base : Files) (past : List Effect) (e : Effect) (file : File) (path bytes least x : List ℕ) → Some (path, bytes) ≡ added_in e → is_file (names_after base past path) file ≡ true
    → MayBytes base past file least → ((x ≡ least) ⊎ IsFrontFrom least (bytes_after base past file ++ bytes) x) → MayBytes base (e ∷ past) file x
may_grown base past (Added other more) file path bytes least x is at may (inl same) = inr (inl (subst (MayBytes base past file) (sym same) may))
may_grown base past (Added other more) file path bytes least x is at may (inr front) =
    let paths : path ≡ other = ap (λ (pair : List ℕ × List ℕ). pair.0) (one_pair _ _ is) in
    let whole : bytes ≡ more = ap (λ (pair : List ℕ × List ℕ). pair.1) (one_pair _ _ is) in
    inr (inr (least, may, the_file (names_after base past other) file (ap (λ (p : List ℕ). is_file (names_after base past p) file) (sym paths) ∙ at), subst (λ (b : List ℕ). IsFrontFrom least (bytes_after base past file ++ b) x) whole front))
may_grown base past (Wrote other more) file path bytes least x is at may grown = absurd (cc)
may_grown base past (Moved from to) file path bytes least x is at may grown = absurd (cc)
may_grown base past (Removed other) file path bytes least x is at may grown = absurd (cc)
may_grown base past (SyncedFile other) file path bytes least x is at may grown = absurd (cc)
may_grown base past (SyncedFolder folder) file path bytes least x is at may grown = absurd (cc)
may_grown base past (FailedFile other) file path bytes least x is at may grown = absurd (cc)
may_grown base past (FailedFolder folder) file path bytes least x is at may grown = absurd (cc)

-- ---- the same after the newest note
newest : (base : Files) (notes past : List Note) (note : Note) (file : File) (x : List ℕ) → notes ≡ note ∷ past → MayBytes base (effect_of note ∷ effects_of past) file x → MayBytes base (effects_of notes) file x
newest base notes past note file x is may = subst (λ (ns : List Note). MayBytes base (effects_of ns) file x) (sym is) may

pub newest_made : (base : Files) (notes past : List Note) (note : Note) (file : File) (bytes x : List ℕ) → notes ≡ note ∷ past → Some bytes ≡ made_in (effect_of note) (length notes) file.1 → MayBytes base (effects_of notes) file x
newest_made base notes past note file bytes x is made_is =
    newest base notes past note file x is (may_made base (effects_of past) (effect_of note) file bytes x (made_is ∙ ap (λ (n : ℕ). made_in (effect_of note) n file.1) (number_is notes past note is)))

pub newest_sure : (base : Files) (notes past : List Note) (note : Note) (file : File) (x : List ℕ) → notes ≡ note ∷ past → is_sure base (effects_of past) (synced_in (effect_of note)) file ≡ true
    → x ≡ bytes_after base (effects_of past) file → MayBytes base (effects_of notes) file x
newest_sure base notes past note file x is sure x_is =
    newest base notes past note file x is (subst (MayBytes base (effect_of note ∷ effects_of past) file) (sym x_is) (may_sure base (effects_of past) (effect_of note) file sure))

pub newest_kept : (base : Files) (notes past : List Note) (note : Note) (file : File) (x : List ℕ) → notes ≡ note ∷ past → is_sure base (effects_of past) (synced_in (effect_of note)) file ≡ false
    → MayBytes base (effects_of past) file x → MayBytes base (effects_of notes) file x
newest_kept base notes past note file x is unsure may = newest base notes past note file x is (may_kept base (effects_of past) (effect_of note) file x unsure may)

pub newest_grown : (base : Files) (notes past : List Note) (note : Note) (file : File) (path bytes least whole x : List ℕ) → notes ≡ note ∷ past → Some (path, bytes) ≡ added_in (effect_of note)
    → is_file (names_after base (effects_of past) path) file ≡ true → whole ≡ bytes_after base (effects_of past) file ++ bytes → MayBytes base (effects_of past) file least
    → ((x ≡ least) ⊎ IsFrontFrom least whole x) → MayBytes base (effects_of notes) file x
newest_grown base notes past note file path bytes least whole x is added_eq at whole_is may grown =
    newest base notes past note file x is (may_grown base (effects_of past) (effect_of note) file path bytes least x added_eq at may (subst (λ (w : List ℕ). (x ≡ least) ⊎ IsFrontFrom least w x) whole_is grown))

pub if_ok_always : {T E : Type 0} {Q : T → Type 0} (r : Result T E) → ((x : T) → Q x) → IfOk r Q
if_ok_always (Ok x) all = all x
if_ok_always (Err fault) all = tt

-- ---- fronts
pub split : (left whole more : List ℕ) → pointwise nat_eq (take (length left) whole) left ≡ true → more ≡ drop (length left) whole → whole ≡ left ++ more
split left whole more same more_is =
    sym (take-append-drop (length left) whole) ∙ ap (λ (xs : List ℕ). xs ++ drop (length left) whole) (one_text (take (length left) whole) left same) ∙ ap (λ (xs : List ℕ). left ++ xs) (sym more_is)

pub split_prefix : (left lent whole more : List ℕ) → lent ≡ left → pointwise nat_eq (take (length lent) whole) lent ≡ true → more ≡ drop (length lent) whole → whole ≡ left ++ more
split_prefix left lent whole more lent_is same more_is = split lent whole more same more_is ∙ ap (λ (xs : List ℕ). xs ++ more) lent_is

pub front_from : (left whole more x : List ℕ) (k : ℕ) → whole ≡ left ++ more → x ≡ left ++ take k more → IsFrontFrom left whole x
front_from left whole more x k whole_is x_is =
    ((take k more, x_is), (drop k more, whole_is ∙ ap (λ (xs : List ℕ). left ++ xs) (sym (take-append-drop k more)) ∙ sym (append_assoc left (take k more) (drop k more)) ∙ ap (λ (xs : List ℕ). xs ++ drop k more) (sym x_is)))

pub whole_from : (left whole more x : List ℕ) → whole ≡ left ++ more → x ≡ left ++ more → IsFrontFrom left whole x
whole_from left whole more x whole_is x_is = ((more, x_is), ([], whole_is ∙ sym x_is ∙ sym (append-nil x)))
