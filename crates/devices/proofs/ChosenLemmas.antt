-- What the fates leave: the bytes of a file, and the files.
use Rattle.std.proofs.Common.{◌≡◌, ◌⊎◌, inl, inr, ℕ, suc, ◌||◌, Bool, true, false, cond, List, [], ◌∷◌, ◌++◌, Option, Some, None, option_map, length, nat_eq, take, drop, refl, sym, ◌∙◌, ap, subst, arith}
use Rattle.std.specs.Cmp.Lexicographic.{pointwise}
use Rattle.std.specs.FinMap.{get}
use Rattle.std.specs.List.{list_any, slice_get}
use Rattle.std.specs.Ordering.{eq_by_cmp}
use Rattle.std.proofs.lemmas.Bool.Decides.{Decides-eqb}
use Rattle.std.proofs.lemmas.Option.{slice_get_past}
use Rattle.git_name.specs.Name.{name_cmp}
use Rattle.devices.specs.Copy.{AreFound}
use Rattle.devices.specs.Crash.{File, IsFrontFrom, MayBytes, MayLeave, Stands, names_after, is_file, bytes_after}
use Rattle.devices.specs.Device.{Files, Effect, Wrote, Added, Moved, Removed, SyncedFile, SyncedFolder, FailedFile, FailedFolder, files_after}
use Rattle.devices.specs.Loss.{added_in, changed, damaged_by, front_by, grown_by, is_chosen, is_sure, is_synced, kept_in, left_at, left_bytes, left_names, made_in, paths_of, source_seen, synced_in}
use Rattle.devices.specs.Note.{effect_of, effects_of}
use Rattle.devices.specs.declared.fate.Fate.{Fate}
use Rattle.devices.specs.declared.note.Note.{Note}
use Rattle.devices.proofs.ByteLemmas.{front_from, may_grown, may_kept, may_sure, number_is, split, whole_from}
use Rattle.devices.proofs.CopyLemmas.{one_key}
use Rattle.devices.proofs.LossLemmas.{key_among, may_left, none_left}
use Rattle.devices.proofs.NameLemmas.{begun, behind, count_effects, seen_step}
use Rattle.devices.proofs.SeenLemmas.{seen_bytes}

-- ---- after an effect: what is left of a file that it made, of one that it is sure to have kept, and of one that it appended to
abbrev pub after_loss : Option (List ℕ) → Bool → Option (List ℕ × List ℕ) → Files → List Fate → List Effect → File → List ℕ
after_loss (Some bytes) sure added base fates past file = damaged_by (slice_get fates (length past)) bytes
after_loss None true added base fates past file = bytes_after base past file
after_loss None false None base fates past file = left_bytes base fates past file
after_loss None false (Some (path, bytes)) base fates past file =
    cond (is_file (names_after base past path) file) (grown_by (slice_get fates (length past)) (left_bytes base fates past file) (bytes_after base past file ++ bytes)) (left_bytes base fates past file)

loss_made : (b : Bool) (bytes : List ℕ) (added : Option (List ℕ × List ℕ)) (base : Files) (fates : List Fate) (past : List Effect) (file : File)
    → after_loss (cond b (Some bytes) None) false added base fates past file ≡ cond b (damaged_by (slice_get fates (length past)) bytes) (after_loss None false added base fates past file)
loss_made true bytes added base fates past file = refl
loss_made false bytes added base fates past file = refl

loss_off : (b sure : Bool) (base : Files) (fates : List Fate) (past : List Effect) (file : File) → after_loss (cond b None None) sure None base fates past file ≡ cond sure (bytes_after base past file) (left_bytes base fates past file)
loss_off true true base fates past file = refl
loss_off true false base fates past file = refl
loss_off false true base fates past file = refl
loss_off false false base fates past file = refl

loss_step : (base : Files) (fates : List Fate) (past : List Effect) (e : Effect) (file : File)
    → after_loss (made_in e (suc (length past)) file.1) (is_sure base past (synced_in e) file) (added_in e) base fates past file ≡ left_bytes base fates (e ∷ past) file
loss_step base fates past (Wrote path bytes) file = loss_made (nat_eq file.1 (suc (length past))) bytes None base fates past file
loss_step base fates past (Added path bytes) file = loss_made (nat_eq file.1 (suc (length past))) bytes (Some (path, bytes)) base fates past file
loss_step base fates past (Moved from to) file = loss_off (nat_eq file.1 (suc (length past))) false base fates past file
loss_step base fates past (Removed path) file = loss_off (nat_eq file.1 (suc (length past))) false base fates past file
loss_step base fates past (SyncedFile path) file = loss_off (nat_eq file.1 (suc (length past))) (is_sure base past (Some path) file) base fates past file
loss_step base fates past (SyncedFolder folder) file = loss_off (nat_eq file.1 (suc (length past))) false base fates past file
loss_step base fates past (FailedFile path) file = loss_off (nat_eq file.1 (suc (length past))) false base fates past file
loss_step base fates past (FailedFolder folder) file = loss_off (nat_eq file.1 (suc (length past))) false base fates past file

-- ---- after the newest note
loss_newest : (base : Files) (fates : List Fate) (notes past : List Note) (note : Note) (file : File) (made_is : Option (List ℕ)) (sure : Bool) (added_is : Option (List ℕ × List ℕ)) → notes ≡ note ∷ past
    → made_is ≡ made_in (effect_of note) (length notes) file.1 → sure ≡ is_sure base (effects_of past) (synced_in (effect_of note)) file → added_is ≡ added_in (effect_of note)
    → after_loss made_is sure added_is base fates (effects_of past) file ≡ left_bytes base fates (effects_of notes) file
loss_newest base fates notes past note file made_is sure added_is is made_eq sure_eq added_eq =
    ap (λ (o : Option (List ℕ)). after_loss o sure added_is base fates (effects_of past) file) (made_eq ∙ ap (λ (n : ℕ). made_in (effect_of note) n file.1) (number_is notes past note is))
    ∙ ap (λ (b : Bool). after_loss (made_in (effect_of note) (suc (length (effects_of past))) file.1) b added_is base fates (effects_of past) file) sure_eq
    ∙ ap (λ (o : Option (List ℕ × List ℕ)). after_loss (made_in (effect_of note) (suc (length (effects_of past))) file.1) (is_sure base (effects_of past) (synced_in (effect_of note)) file) o base fates (effects_of past) file) added_eq
    ∙ loss_step base fates (effects_of past) (effect_of note) file
    ∙ ap (λ (ns : List Note). left_bytes base fates (effects_of ns) file) (sym is)

fate_is : (fates : List Fate) (past : List Note) (fate : Option Fate) → fate ≡ slice_get fates (length past) → fate ≡ slice_get fates (length (effects_of past))
fate_is fates past fate is = is ∙ ap (slice_get fates) (sym (count_effects past))

-- a file that the note made
pub chosen_made : (base : Files) (fates : List Fate) (notes past : List Note) (note : Note) (file : File) (fate : Option Fate) (bytes lent x : List ℕ) → notes ≡ note ∷ past → fate ≡ slice_get fates (length past)
    → Some bytes ≡ made_in (effect_of note) (length notes) file.1 → lent ≡ bytes → x ≡ damaged_by fate lent → x ≡ left_bytes base fates (effects_of notes) file
chosen_made base fates notes past note file fate bytes lent x is fate_eq made_eq lent_is x_is =
    x_is ∙ ap (damaged_by fate) lent_is ∙ ap (λ (o : Option Fate). damaged_by o bytes) (fate_is fates past fate fate_eq)
    ∙ loss_newest base fates notes past note file (Some bytes) _ _ is made_eq refl refl

-- a file to which the note did not append
pub chosen_kept : (base : Files) (fates : List Fate) (notes past : List Note) (note : Note) (file : File) (x : List ℕ) → notes ≡ note ∷ past → None ≡ made_in (effect_of note) (length notes) file.1
    → false ≡ is_sure base (effects_of past) (synced_in (effect_of note)) file → None ≡ added_in (effect_of note) → x ≡ left_bytes base fates (effects_of past) file → x ≡ left_bytes base fates (effects_of notes) file
chosen_kept base fates notes past note file x is made_eq sure_eq added_eq x_is = x_is ∙ loss_newest base fates notes past note file None false None is made_eq sure_eq added_eq

-- an append to another file
pub chosen_other : (base : Files) (fates : List Fate) (notes past : List Note) (note : Note) (file : File) (path bytes x : List ℕ) → notes ≡ note ∷ past → None ≡ made_in (effect_of note) (length notes) file.1
    → false ≡ is_sure base (effects_of past) (synced_in (effect_of note)) file → Some (path, bytes) ≡ added_in (effect_of note) → is_file (names_after base (effects_of past) path) file ≡ false
    → x ≡ left_bytes base fates (effects_of past) file → x ≡ left_bytes base fates (effects_of notes) file
chosen_other base fates notes past note file path bytes x is made_eq sure_eq added_eq off x_is =
    x_is
    ∙ ap (λ (b : Bool). cond b (grown_by (slice_get fates (length (effects_of past))) (left_bytes base fates (effects_of past) file) (bytes_after base (effects_of past) file ++ bytes)) (left_bytes base fates (effects_of past) file)) (sym off)
    ∙ loss_newest base fates notes past note file None false (Some (path, bytes)) is made_eq sure_eq added_eq

-- an append to the file
pub chosen_grown : (base : Files) (fates : List Fate) (notes past : List Note) (note : Note) (file : File) (fate : Option Fate) (path bytes left whole x : List ℕ) → notes ≡ note ∷ past → fate ≡ slice_get fates (length past)
    → None ≡ made_in (effect_of note) (length notes) file.1 → false ≡ is_sure base (effects_of past) (synced_in (effect_of note)) file → Some (path, bytes) ≡ added_in (effect_of note)
    → is_file (names_after base (effects_of past) path) file ≡ true → left ≡ left_bytes base fates (effects_of past) file → whole ≡ bytes_after base (effects_of past) file ++ bytes → x ≡ grown_by fate left whole
    → x ≡ left_bytes base fates (effects_of notes) file
chosen_grown base fates notes past note file fate path bytes left whole x is fate_eq made_eq sure_eq added_eq at left_is whole_is x_is =
    x_is
    ∙ ap (λ (o : Option Fate). grown_by o left whole) (fate_is fates past fate fate_eq)
    ∙ ap (λ (l : List ℕ). grown_by (slice_get fates (length (effects_of past))) l whole) left_is
    ∙ ap (grown_by (slice_get fates (length (effects_of past))) (left_bytes base fates (effects_of past) file)) whole_is
    ∙ ap (λ (b : Bool). cond b (grown_by (slice_get fates (length (effects_of past))) (left_bytes base fates (effects_of past) file) (bytes_after base (effects_of past) file ++ bytes)) (left_bytes base fates (effects_of past) file)) (sym at)
    ∙ loss_newest base fates notes past note file None false (Some (path, bytes)) is made_eq sure_eq added_eq

-- ---- what the fates choose may be left
chosen_front : (fate : Option Fate) (left whole : List ℕ) → (grown_by fate left whole ≡ left) ⊎ IsFrontFrom left whole (grown_by fate left whole)
chosen_front fate left whole = by (pointwise nat_eq (take (length left) whole) left) refl fate
  where
    more : List ℕ
    more = drop (length left) whole

    by : (b : Bool) → pointwise nat_eq (take (length left) whole) left ≡ b → (o : Option Fate) → (cond b (left ++ front_by o more) left ≡ left) ⊎ IsFrontFrom left whole (cond b (left ++ front_by o more) left)
    by true same None = inr (whole_from left whole more (left ++ more) (split left whole more same refl) refl)
    by true same (Some fate) = inr (front_from left whole more (left ++ take fate.bytes more) fate.bytes (split left whole more same refl) refl)
    by false differs o = inl refl

may_chosen : (base : Files) (fates : List Fate) (past : List Effect) (file : File) → MayBytes base past file (left_bytes base fates past file)
may_chosen base fates [] file = refl
may_chosen base fates (Wrote path bytes ∷ past) file = by (nat_eq file.1 (suc (length past))) refl (may_chosen base fates past file)
  where
    by : (b : Bool) → nat_eq file.1 (suc (length past)) ≡ b → MayBytes base past file (left_bytes base fates past file)
        → MayBytes base (Wrote path bytes ∷ past) file (cond b (damaged_by (slice_get fates (length past)) bytes) (left_bytes base fates past file))
    by true e may = inl ((Decides-eqb file.1 (suc (length past))).0 e)
    by false e may = inr may
may_chosen base fates (Added path bytes ∷ past) file = by (nat_eq file.1 (suc (length past))) (is_file (names_after base past path) file) refl refl (may_chosen base fates past file)
  where
    grown : List ℕ
    grown = grown_by (slice_get fates (length past)) (left_bytes base fates past file) (bytes_after base past file ++ bytes)

    by : (b c : Bool) → nat_eq file.1 (suc (length past)) ≡ b → is_file (names_after base past path) file ≡ c → MayBytes base past file (left_bytes base fates past file)
        → MayBytes base (Added path bytes ∷ past) file (cond b (damaged_by (slice_get fates (length past)) bytes) (cond c grown (left_bytes base fates past file)))
    by true c e at may = inl ((Decides-eqb file.1 (suc (length past))).0 e)
    by false true e at may = may_grown base past (Added path bytes) file path bytes (left_bytes base fates past file) grown refl at may (chosen_front (slice_get fates (length past)) (left_bytes base fates past file) (bytes_after base past file ++ bytes))
    by false false e at may = inr (inl may)
may_chosen base fates (Moved from to ∷ past) file = may_chosen base fates past file
may_chosen base fates (Removed path ∷ past) file = may_chosen base fates past file
may_chosen base fates (SyncedFile path ∷ past) file = by (is_sure base past (Some path) file) refl (may_chosen base fates past file)
  where
    by : (b : Bool) → is_sure base past (Some path) file ≡ b → MayBytes base past file (left_bytes base fates past file) → MayBytes base (SyncedFile path ∷ past) file (cond b (bytes_after base past file) (left_bytes base fates past file))
    by true sure may = may_sure base past (SyncedFile path) file sure
    by false unsure may = may_kept base past (SyncedFile path) file (left_bytes base fates past file) unsure may
may_chosen base fates (SyncedFolder folder ∷ past) file = may_chosen base fates past file
may_chosen base fates (FailedFile path ∷ past) file = may_chosen base fates past file
may_chosen base fates (FailedFolder folder ∷ past) file = may_chosen base fates past file

pub stands_chosen : (base : Files) (fates : List Fate) (past : List Effect) (q : List ℕ) → Stands base past (left_names base (kept_in fates past) past q) (left_at base fates past q)
stands_chosen base fates past q = by (left_names base (kept_in fates past) past q)
  where
    by : (o : Option File) → Stands base past o (option_map (left_bytes base fates past) o)
    by None = refl
    by (Some file) = (left_bytes base fates past file, refl, may_chosen base fates past file)

pub chosen_may_leave : (base : Files) (fates : List Fate) (past : List Effect) (left : Files) → ((q : List ℕ) → get left q ≡ left_at base fates past q) → MayLeave base past left
chosen_may_leave base fates past left is = (
  left_names base (kept_in fates past) past,
  may_left base fates past [] past refl,
  λ q. subst (Stands base past (left_names base (kept_in fates past) past q)) (sym (is q)) (stands_chosen base fates past q),
)

-- ---- the files that are left
-- a path that is among the others
pub found_again : (found : List ℕ → Option (List ℕ)) (path : List ℕ) (paths others : List (List ℕ)) (left : Files) → paths ≡ path ∷ others → list_any (pointwise nat_eq path) others ≡ true → AreFound others found left
    → AreFound paths found left
found_again found path paths others left is among before q =
    before q ∙ ap (λ (t : Bool). cond t (found q) None) (by (eq_by_cmp name_cmp q path) refl) ∙ ap (λ (ps : List (List ℕ)). cond (list_any (eq_by_cmp name_cmp q) ps) (found q) None) (sym is)
  where
    by : (b : Bool) → eq_by_cmp name_cmp q path ≡ b → list_any (eq_by_cmp name_cmp q) others ≡ (eq_by_cmp name_cmp q path || list_any (eq_by_cmp name_cmp q) others)
    by true e =
        ap (λ (p : List ℕ). list_any (eq_by_cmp name_cmp p) others) (one_key q path e) ∙ key_among path others among
        ∙ sym (ap (λ (t : Bool). t || list_any (eq_by_cmp name_cmp q) others) e)
    by false e = sym (ap (λ (t : Bool). t || list_any (eq_by_cmp name_cmp q) others) e)

-- all that is left, at all paths at which there may be a file
pub all_found : (base : Files) (fates : List Fate) (whole : List Effect) (paths : List (List ℕ)) (left : Files) → paths ≡ paths_of base whole → AreFound paths (left_at base fates whole) left → (q : List ℕ) → get left q ≡ left_at base fates whole q
all_found base fates whole paths left is found q =
    found q ∙ ap (λ (ps : List (List ℕ)). cond (list_any (eq_by_cmp name_cmp q) ps) (left_at base fates whole q) None) is ∙ by (list_any (eq_by_cmp name_cmp q) (paths_of base whole)) refl
  where
    by : (b : Bool) → list_any (eq_by_cmp name_cmp q) (paths_of base whole) ≡ b → cond b (left_at base fates whole q) None ≡ left_at base fates whole q
    by true e = refl
    by false e = sym (ap (option_map (left_bytes base fates whole)) (none_left base (kept_in fates whole) whole q e))

-- ---- with no fates
no_fate : (n : ℕ) → slice_get {X = Fate} [] n ≡ None
no_fate n = slice_get_past [] n (omega arith)

all_kept : (base : Files) (whole past : List Effect) (q : List ℕ) → left_names base (kept_in [] whole) past q ≡ names_after base past q
all_kept base whole [] q = refl
all_kept base whole (e ∷ past) q =
    ap (λ (o : Option Fate). cond (cond (is_chosen o) true (is_synced whole e (length past))) (changed e (suc (length past)) (source_seen base past e) (left_names base (kept_in [] whole) past q) q) (left_names base (kept_in [] whole) past q)) (no_fate (length past))
    ∙ ap (λ (o : Option File). changed e (suc (length past)) (source_seen base past e) o q) (all_kept base whole past q) ∙ sym (seen_step base past e q)

all_grown : (left more : List ℕ) → grown_by None left (left ++ more) ≡ left ++ more
all_grown left more = ap (λ (t : Bool). cond t (left ++ drop (length left) (left ++ more)) left) (begun left more) ∙ ap (λ (xs : List ℕ). left ++ xs) (behind left more)

same_both : (b : Bool) (x : List ℕ) → cond b x x ≡ x
same_both true x = refl
same_both false x = refl

all_stay : (base : Files) (past : List Effect) (file : File) → left_bytes base [] past file ≡ bytes_after base past file
all_stay base [] file = refl
all_stay base (Wrote path bytes ∷ past) file =
    ap (λ (o : Option Fate). cond (nat_eq file.1 (suc (length past))) (damaged_by o bytes) (left_bytes base [] past file)) (no_fate (length past))
    ∙ ap (cond (nat_eq file.1 (suc (length past))) bytes) (all_stay base past file)
all_stay base (Added path bytes ∷ past) file =
    ap (λ (o : Option Fate). cond (nat_eq file.1 (suc (length past))) (damaged_by o bytes) (cond (is_file (names_after base past path) file) (grown_by o (left_bytes base [] past file) (bytes_after base past file ++ bytes)) (left_bytes base [] past file))) (no_fate (length past))
    ∙ ap (λ (l : List ℕ). cond (nat_eq file.1 (suc (length past))) bytes (cond (is_file (names_after base past path) file) (grown_by None l (bytes_after base past file ++ bytes)) l)) (all_stay base past file)
    ∙ ap (λ (l : List ℕ). cond (nat_eq file.1 (suc (length past))) bytes (cond (is_file (names_after base past path) file) l (bytes_after base past file))) (all_grown (bytes_after base past file) bytes)
all_stay base (Moved from to ∷ past) file = all_stay base past file
all_stay base (Removed path ∷ past) file = all_stay base past file
all_stay base (SyncedFile path ∷ past) file = ap (cond (is_sure base past (Some path) file) (bytes_after base past file)) (all_stay base past file) ∙ same_both (is_sure base past (Some path) file) (bytes_after base past file)
all_stay base (SyncedFolder folder ∷ past) file = all_stay base past file
all_stay base (FailedFile path ∷ past) file = all_stay base past file
all_stay base (FailedFolder folder ∷ past) file = all_stay base past file

-- nothing is lost
pub nothing_lost : (base : Files) (past : List Effect) (q : List ℕ) → left_at base [] past q ≡ get (files_after base past) q
nothing_lost base past q = ap (option_map (left_bytes base [] past)) (all_kept base past past q) ∙ each (names_after base past q) ∙ seen_bytes base past q
  where
    each : (o : Option File) → option_map (left_bytes base [] past) o ≡ option_map (bytes_after base past) o
    each None = refl
    each (Some file) = ap (λ (x : List ℕ). Some x) (all_stay base past file)
