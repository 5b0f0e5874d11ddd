-- An entry in order has the name of an earlier one only if it is a tree and that name was known.
use Rattle.std.proofs.Common.{◌≡◌, ◌≢◌, ℕ, ◌<◌, ◌≤◌, inl, inr, Bool, true, false, List, [], ◌∷◌, ◌++◌, length, take, refl, sym, ap, subst, ◌∙◌, arith, drop, take-append-drop}
use Rattle.std.proofs.lemmas.Bool.{cases_lt}
use Rattle.std.specs.List.{AllByRecursion}
use Rattle.std.specs.declared.cmp.Ordering.TheVariants.{Less}
use Rattle.std.proofs.lemmas.List.{append-nil, take_all}
use Rattle.std.proofs.lemmas.List.Elements.{recursion_from_All}
use Rattle.git_name.specs.Name.{name_cmp}
use Rattle.git_tree.specs.Mode.{is_tree}
use Rattle.git_tree.specs.Entry.{Entry, IsEntry, key, entry_key}
use Rattle.git_tree.specs.Tree.{IsBelow, Differ}
use Rattle.git_tree.specs.Known.{Knows}
use Rattle.git_tree.specs.Tracks.{Reached, FollowsLast, Tracks, IsFrontKnown, AtMost, last_key}
use Rattle.git_tree.proofs.OrderLemmas.{between, key_front, key_append, shared_is_most, at_most_below, not_below_itself, file_below_tree, not_longer, key_some}
use Rattle.git_tree.proofs.ListLemmas.{all_map, all_push, all_last}

-- what holds of the entries so far
pub record IsPast (old : Reached) (a : Entry) : Type 0 where
  pub is : IsEntry a
  pub low : AtMost (entry_key a) (last_key old)
  pub known : IsFrontKnown old a

pub past : (front : List Entry) (old : Reached) → AllByRecursion IsEntry front → AllByRecursion (λ a. AtMost (entry_key a) (last_key old)) front → AllByRecursion (IsFrontKnown old) front → AllByRecursion (IsPast old) front
past [] old is low known = tt
past (a ∷ front) old is low known = (record { is = is.0; low = low.0; known = known.0 }, past front old is.1 low.1 known.1)

-- an earlier file whose name this one begins with is known, and no longer than what is shared
pub front_known : (old : Reached) (e a : Entry) (s : ℕ) → FollowsLast old e s → IsPast old a → is_tree a.mode ≡ false → (r : List ℕ) → e.file_name ≡ a.file_name ++ r → Knows old.fronts (length a.file_name) × (length a.file_name ≤ s)
front_known old e a s steps p file r h =
    let plain : entry_key a ≡ a.file_name = ap (λ (t : Bool). key t a.file_name) file in
    let low : AtMost a.file_name (last_key old) = subst (λ (x : List ℕ). AtMost x (last_key old)) plain p.low in
    let longer : entry_key e ≡ a.file_name ++ key (is_tree e.mode) r = ap (key (is_tree e.mode)) h ∙ key_append (is_tree e.mode) a.file_name r in
    let order : name_cmp (last_key old) (a.file_name ++ key (is_tree e.mode) r) ≡ Less = subst (λ (x : List ℕ). name_cmp (last_key old) x ≡ Less) longer steps.order in
    let lies = between a.file_name (last_key old) (key (is_tree e.mode) r) low order in
    let begins = key_front old.is_tree old.file_name a.file_name lies.0 (recursion_from_All (λ b. b ≢ 47) a.file_name p.is.file_name.no_slash) lies.1 in
    (p.known file begins.0 begins.1, shared_is_most a.file_name old.file_name e.file_name begins.0 r s begins.1 h steps.apart)

pub is_above : (old : Reached) (e a : Entry) (s : ℕ) → FollowsLast old e s → IsPast old a → IsBelow a e
is_above old e a s steps p = at_most_below (entry_key a) (last_key old) (entry_key e) p.low steps.order

differs_by : (old : Reached) (e a : Entry) (s : ℕ) → FollowsLast old e s → IsPast old a → (is_tree e.mode ≡ true → s ≡ length e.file_name → Knows old.fronts (length e.file_name) → ⊥)
    → (t u : Bool) → is_tree a.mode ≡ t → is_tree e.mode ≡ u → a.file_name ≡ e.file_name → ⊥
differs_by old e a s steps p told true true ta te same =
    not_below_itself (entry_key e) (subst (λ (x : List ℕ). name_cmp x (entry_key e) ≡ Less) (ap (λ (t : Bool). key t a.file_name) (ta ∙ sym te) ∙ ap (key (is_tree e.mode)) same) (is_above old e a s steps p))
differs_by old e a s steps p told false false ta te same =
    not_below_itself (entry_key e) (subst (λ (x : List ℕ). name_cmp x (entry_key e) ≡ Less) (ap (λ (t : Bool). key t a.file_name) (ta ∙ sym te) ∙ ap (key (is_tree e.mode)) same) (is_above old e a s steps p))
differs_by old e a s steps p told true false ta te same =
    let left : entry_key a ≡ e.file_name ++ 47 ∷ [] = ap (λ (t : Bool). key t a.file_name) ta ∙ ap (key true) same in
    let right : entry_key e ≡ e.file_name = ap (λ (t : Bool). key t e.file_name) te in
    file_below_tree e.file_name (subst (λ (x : List ℕ). name_cmp (e.file_name ++ 47 ∷ []) x ≡ Less) right (subst (λ (x : List ℕ). name_cmp x (entry_key e) ≡ Less) left (is_above old e a s steps p)))
differs_by old e a s steps p told false true ta te same =
    let k = front_known old e a s steps p ta [] (sym same ∙ sym (append-nil a.file_name)) in
    told te (omega (arith, steps.within, k.1, ap length same)) (subst (Knows old.fronts) (ap length same) k.0)

-- an entry in order has another name, unless it is a tree and its name was known
pub differs : (old : Reached) (e a : Entry) (s : ℕ) → FollowsLast old e s → (is_tree e.mode ≡ true → s ≡ length e.file_name → Knows old.fronts (length e.file_name) → ⊥) → IsPast old a → Differ a e
differs old e a s steps told p same = differs_by old e a s steps p told (is_tree a.mode) (is_tree e.mode) refl refl same

-- what is tracked after an entry in order
pub tracks_on : (front : List Entry) (old new : Reached) (e : Entry) (s : ℕ) → FollowsLast old e s → AllByRecursion (IsPast old) front
    → new.file_name ≡ e.file_name → new.is_tree ≡ is_tree e.mode
    → ((n : ℕ) → n ≤ s → Knows old.fronts n → Knows new.fronts n) → (is_tree e.mode ≡ false → Knows new.fronts (length e.file_name)) → Tracks (front ++ e ∷ []) new
tracks_on front old new e s steps are name tree kept added =
    let last : entry_key e ≡ last_key new = sym (ap (λ (t : Bool). key t new.file_name) tree ∙ ap (key (is_tree e.mode)) name) in
    record {
      low = all_push (λ a. AtMost (entry_key a) (last_key new)) front e
          (all_map {P = IsPast old} {Q = λ a. AtMost (entry_key a) (last_key new)} front (λ a p. inl (subst (λ (x : List ℕ). name_cmp (entry_key a) x ≡ Less) last (is_above old e a s steps p))) are)
          (inr last);
      met = λ k some all. subst (λ (x : List ℕ). name_cmp x k ≡ Less) last (all_last (λ a. name_cmp (entry_key a) k ≡ Less) front e all);
      known = all_push (IsFrontKnown new) front e
          (all_map {P = IsPast old} {Q = IsFrontKnown new} front (λ a p file r h.
          let k = front_known old e a s steps p file r (sym name ∙ h) in
          kept (length a.file_name) k.1 k.0) are)
          (λ file r h. added file);
    }

pub above_all : (front : List Entry) (old : Reached) (e : Entry) (s : ℕ) → FollowsLast old e s → AllByRecursion (IsPast old) front → AllByRecursion (λ a. IsBelow a e) front
above_all front old e s steps are = all_map {P = IsPast old} {Q = λ a. IsBelow a e} front (λ a p. is_above old e a s steps p) are

pub differ_all : (front : List Entry) (old : Reached) (e : Entry) (s : ℕ) → FollowsLast old e s → (is_tree e.mode ≡ true → s ≡ length e.file_name → Knows old.fronts (length e.file_name) → ⊥) → AllByRecursion (IsPast old) front → AllByRecursion (λ a. Differ a e) front
differ_all front old e s steps told are = all_map {P = IsPast old} {Q = λ a. Differ a e} front (λ a p. differs old e a s steps told p) are

-- an entry that is not above the last one is not above all
pub not_above : (front : List Entry) (old : Reached) (e : Entry) → Tracks front old → IsEntry e → (name_cmp (last_key old) (entry_key e) ≡ Less → ⊥) → AllByRecursion (λ a. IsBelow a e) front → ⊥
not_above front old e tracks is refused all = refused (tracks.met (entry_key e) (key_some (is_tree e.mode) e.file_name is.file_name.some) all)

-- the last file name does not begin with the name of a file in order
pub grows : (old : Reached) (e : Entry) (s : ℕ) → FollowsLast old e s → is_tree e.mode ≡ false → s < length e.file_name
grows old e s steps file =
    elim (cases_lt s (length e.file_name)) [
      | inl lt ↦ lt
      | inr le ↦
          let whole : take s old.file_name ≡ e.file_name = steps.same ∙ take_all s e.file_name le in
          let longer : old.file_name ≡ e.file_name ++ drop s old.file_name = sym (take-append-drop s old.file_name) ∙ ap (λ (x : List ℕ). x ++ drop s old.file_name) whole in
          let left : last_key old ≡ e.file_name ++ key old.is_tree (drop s old.file_name) = ap (key old.is_tree) longer ∙ key_append old.is_tree e.file_name (drop s old.file_name) in
          let right : entry_key e ≡ e.file_name = ap (λ (t : Bool). key t e.file_name) file in
          absurd (not_longer e.file_name (key old.is_tree (drop s old.file_name)) (subst (λ (x : List ℕ). name_cmp (e.file_name ++ key old.is_tree (drop s old.file_name)) x ≡ Less) right (subst (λ (x : List ℕ). name_cmp x (entry_key e) ≡ Less) left steps.order)))
    ]
