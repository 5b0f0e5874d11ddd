-- Best common ancestors by known links are those of the objects, if the store is honest.
use Rattle.std.proofs.Common.{◌≡◌, ◌≢◌, ◌&&◌, inl, inr, refl, not, Bool, true, false, List, [], ◌∷◌, ℕ, sym, ap, subst, ◌∙◌}
use Rattle.std.specs.Prelude.{Contains}
use Rattle.std.specs.FinMap.{contains_key, keys}
use Rattle.std.specs.List.{list_any}
use Rattle.std.specs.Str.{bytes_eq}
use Rattle.std.proofs.lemmas.Bool.{and_from, and_parts, not-true}
use Rattle.std.proofs.lemmas.List.Folds.{Any-from_list_any}
use Rattle.std.proofs.lemmas.Slice.Eq.{bytes_eq-Decides}
use Rattle.fork_reach.specs.Bases.{is_ancestor, is_best_of, is_common_of, is_parent_of}
use Rattle.fork_reach.specs.Reach.{is_among, parent_names}
use Rattle.fork_reach.specs.Source.{Objects}
use Rattle.fork_reach.proofs.NameLemmas.{Contains-keys, among-Contains, among-from_Contains, any_passes, same_tests}
use Rattle.fork_reach.proofs.ParentLemmas.{unequal}
use Rattle.fork_reach.proofs.ReachLemmas.{led_to_reached, reached_led_to}
use Rattle.loose_store.specs.Files.{Files}
use Rattle.number_links.specs.declared.along.Along.TheVariants.{Parents}
use Rattle.object_table.specs.Ledgers.{AllWords}
use Rattle.object_table.specs.Links.{NamedLinks, parents_named}
use Rattle.object_table.specs.Walked.{IsBest, IsCommon, IsLedTo, IsMet}
use Rattle.fork_ledger.specs.Led.{AreLed}
use Rattle.fork_ledger.specs.Shown.{tenants_of}
use Rattle.fork_ledger.specs.Store.{IsStored}
use Rattle.fork_ledger.proofs.BetweenLemmas.{Seen, Shown, back, forth, same_keys, same_next, word_there}

module _ (files : Files) (m : AllWords) (t : List ℕ) (links : NamedLinks) where
  -- ---- over any store
  pub best_there : (a b q : List ℕ) → IsBest (Seen m t) (parents_named links) a b q → contains_key (Shown files m t) q ≡ true
  best_there a b q best = sym (same_keys files m t q) ∙ word_there files m t links Parents (a ∷ []) q best.common.0

  -- ---- over an honest one
  module _ (stored : IsStored (tenants_of files m) files) (led : AreLed links files) (a b : List ℕ) (known : (q : List ℕ) → IsMet (Seen m t) (parents_named links) (a ∷ []) (b ∷ []) q → contains_key links q ≡ true) where
    abbrev objects : Objects
    objects = Shown files m t

    abbrev next : List ℕ → List (List ℕ)
    next = parents_named links

    common_told : (q : List ℕ) → IsCommon (Seen m t) next a b q → is_common_of objects a b q ≡ true
    common_told q common =
        and_from (is_ancestor objects b q) (is_ancestor objects a q) (led_to_reached (parent_names objects) objects (b ∷ []) q (forth files m t links Parents stored led (b ∷ []) (λ p is. inr (known p (inr is))) q common.1))
        (led_to_reached (parent_names objects) objects (a ∷ []) q (forth files m t links Parents stored led (a ∷ []) (λ p is. inr (known p (inl is))) q common.0))

    told_common : (q : List ℕ) → is_common_of objects a b q ≡ true → IsCommon (Seen m t) next a b q
    told_common q is =
        let both = and_parts (is_ancestor objects b q) (is_ancestor objects a q) is in (
          back files m t links Parents stored led (a ∷ []) (λ p is. inr (known p (inl is))) q (reached_led_to (parent_names objects) objects (a ∷ []) q both.1),
          back files m t links Parents stored led (b ∷ []) (λ p is. inr (known p (inr is))) q (reached_led_to (parent_names objects) objects (b ∷ []) q both.0),
        )

    -- the parents of a common ancestor are known
    same_parents : (q : List ℕ) → IsCommon (Seen m t) next a b q → next q ≡ parent_names objects q
    same_parents q common = same_next files m t links Parents stored led q (word_there files m t links Parents (a ∷ []) q common.0) (inr (known q (inl common.0)))

    abbrev outdoes : List ℕ → List ℕ → Bool
    outdoes q other = is_common_of objects a b other && is_parent_of objects other q

    outdone : (q other : List ℕ) → IsCommon (Seen m t) next a b other → other ≢ q → Contains (next other) q → list_any (outdoes q) (keys objects) ≡ true
    outdone q other common apart leads =
        any_passes (outdoes q) (keys objects) other (Contains-keys objects other (sym (same_keys files m t other) ∙ word_there files m t links Parents (a ∷ []) other common.0))
        (and_from _ _ (common_told other common) (and_from _ _ (ap not (unequal other q apart)) (among-from_Contains (parent_names objects other) q (subst (λ ns. Contains ns q) (same_parents other common) leads))))

    not_outdone : (q : List ℕ) → IsBest (Seen m t) next a b q → list_any (outdoes q) (keys objects) ≡ true → ⊥
    not_outdone q best is =
        let any = Any-from_list_any (outdoes q) (keys objects) is in
        let other = any.1 in
        let both = and_parts (is_common_of objects a b other) (is_parent_of objects other q) any.4 in
        let common = told_common other both.0 in
        let parent = and_parts (not (bytes_eq other q)) (is_among (parent_names objects other) q) both.1 in
        best.alone other common (λ same. (let differs : true ≡ false = sym ((bytes_eq-Decides other q).1 same) ∙ not-true (bytes_eq other q) parent.0 in cc)) (subst (λ ns. Contains ns q) (sym (same_parents other common)) (among-Contains (parent_names objects other) q parent.1))

    best_told : (q : List ℕ) → IsBest (Seen m t) next a b q → is_best_of objects a b q ≡ true
    best_told q best = and_from (not (list_any (outdoes q) (keys objects))) (is_common_of objects a b q) (by (list_any (outdoes q) (keys objects)) (not_outdone q best)) (common_told q best.common)
      where
        by : (is : Bool) → (is ≡ true → ⊥) → not is ≡ true
        by true wrong = absurd (wrong refl)
        by false wrong = refl

    told_best : (q : List ℕ) → is_best_of objects a b q ≡ true → IsBest (Seen m t) next a b q
    told_best q is =
        let both = and_parts (not (list_any (outdoes q) (keys objects))) (is_common_of objects a b q) is in
        record {
          common = told_common q both.1;
          alone = λ other common apart leads. (let differs : true ≡ false = sym (outdone q other common apart leads) ∙ not-true (list_any (outdoes q) (keys objects)) both.0 in cc);
        }

    pub best_is : (q : List ℕ) (found : Bool) → (found ≡ true → IsBest (Seen m t) next a b q) → (IsBest (Seen m t) next a b q → found ≡ true) → found ≡ is_best_of objects a b q
    best_is q found only all = same_tests found (is_best_of objects a b q) (λ is. best_told q (only is)) (λ is. all (told_best q is))
