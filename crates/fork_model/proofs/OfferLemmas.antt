-- What references reach among closed objects stays if objects are added, or if all that is reached is kept.
use Rattle.std.proofs.Common.{◌≡◌, ◌≢◌, ℕ, Bool, true, false, cond, List, Option, Some, None, refl, sym, ap, subst, ◌∙◌, is_some}
use Rattle.std.specs.Prelude.{map, Contains}
use Rattle.std.specs.Option.{option_or}
use Rattle.std.specs.Ordering.{eq_by_cmp}
use Rattle.std.specs.FinMap.{entries, get, get-entries, get-insert, get-remove, insert, remove, retain_keys, contains_key, same_map, values}
use Rattle.git_name.specs.Name.{name_cmp}
use Rattle.git_name.specs.Maps.{joined}
use Rattle.git_name.specs.Object.{Object}
use Rattle.git_name.proofs.MapLemmas.{get_joined}
use Rattle.git_name.proofs.Names.{name_exact, name_total}
use Rattle.git_object.specs.ObjectIn.{links_in}
use Rattle.git_reftx.specs.Repository.{Repository}
use Rattle.git_reftx.specs.Transaction.{References}
use Rattle.fork_reach.specs.Reach.{IsReached, Root, Next, is_reached, linked_names, links_of_found}
use Rattle.fork_reach.specs.Source.{Objects}
use Rattle.fork_reach.proofs.ReachLemmas.{led_to_reached, reached_led_to, root_reached}
use Rattle.fork_reach.proofs.NameLemmas.{same_tests}
use Rattle.fork_model.specs.Offer.{Offer, Offers, Pair, offered, pair_cmp, reached_by}
use Rattle.fork_model.specs.Sound.{IsClosed, IsReach}
use Rattle.fork_model.proofs.ClosedLemmas.{each_of}
use Rattle.fork_model.proofs.EntryLemmas.{each_made, is_equal, pair_exact, pair_total}
use Rattle.fork_model.proofs.KeptLemmas.{found_kept, found_value, kept_at, stays_at, there_by_link}

-- what is found among some objects is found among the others
abbrev pub AreAmong : Objects → Objects → Type 0
AreAmong objects others = (name : List ℕ) → contains_key objects name ≡ true → get others name ≡ get objects name

-- these objects have what the references point at
abbrev pub HaveTargets : Objects → References → Type 0
HaveTargets objects references = (reference target : List ℕ) → get references reference ≡ Some target → contains_key objects target ≡ true

found_in : (o : Option Object) → is_some o ≡ true → (object : Object) × (o ≡ Some object)
found_in (Some object) is = (object, refl)
found_in None is = absurd (let no : ⊥ = cc in no)

module _ (objects others : Objects) (roots : List (List ℕ)) (closed : IsClosed objects) (among : AreAmong objects others) (there : (name : List ℕ) → Contains roots name → contains_key objects name ≡ true) where
  -- a link of an existing object leads to an existing one
  linked : (from name : List ℕ) → contains_key objects from ≡ true → Contains (linked_names objects from) name → contains_key objects name ≡ true
  linked from name here is =
      let found = found_in (get objects from) here in
      there_by_link objects (links_in found.0.kind found.0.bytes) name (closed from found.0 found.1) (subst (λ o. Contains (map (λ link. link.name) (links_of_found o)) name) found.1 is)

  -- what is reached among more objects existed before and was reached
  was_reached : (name : List ℕ) → IsReached (linked_names others) others roots name → IsReached (linked_names objects) objects roots name × (contains_key objects name ≡ true)
  was_reached _ (Root name at is) = (Root name at (there name at), there name at)
  was_reached _ (Next from name reached leads is) =
      let before = was_reached from reached in
      let led = subst (λ o. Contains (map (λ link. link.name) (links_of_found o)) name) (among from before.1) leads in
      let here = linked from name before.1 led in
      (Next from name before.0 led here, here)

  from_there : (name : List ℕ) → IsReached (linked_names objects) objects roots name → contains_key objects name ≡ true
  from_there _ (Root name at is) = is
  from_there _ (Next from name reached leads is) = is

  -- and what was reached is still reached
  is_still : (name : List ℕ) → IsReached (linked_names objects) objects roots name → IsReached (linked_names others) others roots name
  is_still _ (Root name at is) = Root name at (ap is_some (among name is) ∙ is)
  is_still _ (Next from name reached leads is) =
      Next from name (is_still from reached) (subst (λ o. Contains (map (λ link. link.name) (links_of_found o)) name) (sym (among from (from_there from reached))) leads) (ap is_some (among name is) ∙ is)

  same_reach : (name : List ℕ) → is_reached (linked_names others) others roots name ≡ is_reached (linked_names objects) objects roots name
  same_reach name =
      same_tests _ _
      (λ is. led_to_reached (linked_names objects) objects roots name (was_reached name (reached_led_to (linked_names others) others roots name is)).0)
      (λ is. led_to_reached (linked_names others) others roots name (is_still name (reached_led_to (linked_names objects) objects roots name is)))

  same_found : (name : List ℕ) → get (retain_keys others (is_reached (linked_names others) others roots)) name ≡ get (retain_keys objects (is_reached (linked_names objects) objects roots)) name
  same_found name =
      kept_at others (is_reached (linked_names others) others roots) name
      ∙ (ap (λ b. cond b (get others name) None) (same_reach name) ∙ (by (is_reached (linked_names objects) objects roots name) refl ∙ sym (kept_at objects (is_reached (linked_names objects) objects roots) name)))
    where
      by : (b : Bool) → is_reached (linked_names objects) objects roots name ≡ b → cond b (get others name) None ≡ cond b (get objects name) None
      by true is = among name (from_there name (reached_led_to (linked_names objects) objects roots name is))
      by false is = refl

-- if all targets of references exist, each value of the references exists
pub targets_there : (objects : Objects) (references : References) → HaveTargets objects references → (name : List ℕ) → Contains (values references) name → contains_key objects name ≡ true
targets_there objects references have name at =
    each_of (λ target. contains_key objects target ≡ true) (values references) name (each_made name_total name_exact (λ target. contains_key objects target ≡ true) (λ e. e.1) references have) at

-- references reach the same objects when more are added
pub still_reached : (objects others : Objects) (references : References) → IsClosed objects → AreAmong objects others → HaveTargets objects references → reached_by others references ≡ reached_by objects references
still_reached objects others references closed among have =
    same_map name_total name_exact (reached_by others references) (reached_by objects references) (same_found objects others (values references) closed among (targets_there objects references have))

-- the objects have what the references of an offer point at
pub reach_targets : (objects : Objects) (offer : Offer) → IsReach objects offer → HaveTargets objects offer.repository.references
reach_targets objects offer reach reference target points =
    let held = found_in (get offer.objects target) (reach.targets reference target points) in
    ap is_some (found_kept objects (is_reached (linked_names objects) objects (values offer.repository.references)) target held.0 (subst (λ (all : Objects). get all target ≡ Some held.0) reach.objects held.1)).1

-- an offer still holds what its references reach when objects are added
pub reach_grows : (objects others : Objects) (offer : Offer) → IsClosed objects → AreAmong objects others → IsReach objects offer → IsReach others offer
reach_grows objects others offer closed among reach = record {
  targets = reach.targets;
  objects = reach.objects ∙ sym (still_reached objects others offer.repository.references closed among (reach_targets objects offer reach));
}

-- and when others are removed, if closed objects with its targets stay
pub reach_kept : (objects : Objects) (kept : List ℕ → Bool) (offer : Offer) → IsClosed (retain_keys objects kept) → ((reference target : List ℕ) → get offer.repository.references reference ≡ Some target → contains_key objects target ≡ true → kept target ≡ true)
    → IsReach objects offer → IsReach (retain_keys objects kept) offer
reach_kept objects kept offer closed rooted reach = record {
  targets = reach.targets;
  objects = reach.objects ∙ still_reached (retain_keys objects kept) objects offer.repository.references closed
      (λ name here. let found = found_in (get (retain_keys objects kept) name) here in (found_kept objects kept name found.0 found.1).1 ∙ sym found.1)
      (λ reference target points. let there = reach_targets objects offer reach reference target points in ap is_some (stays_at objects kept target (rooted reference target points there)) ∙ there);
}

-- a new offer of a repository holds what its references reach
pub new_reach : (objects : Objects) (repository : Repository) → HaveTargets objects repository.references → IsReach objects (offered objects repository)
new_reach objects repository have = record {
  targets = λ reference target points.
      let there = have reference target points in
      let among : Contains (values repository.references) target = found_value name_cmp reference target (entries repository.references) (sym (get-entries repository.references reference) ∙ points) in
      ap is_some (stays_at objects (is_reached (linked_names objects) objects (values repository.references)) target (root_reached (linked_names objects) objects (values repository.references) target among there)) ∙ there;
  objects = refl;
}

-- what is seen is found among the joined objects
pub among_joined : (objects others : Objects) → AreAmong objects (joined objects others)
among_joined objects others name there = get_joined name_total objects others name ∙ by (get objects name) there
  where
    by : (o : Option Object) → is_some o ≡ true → option_or o (get others name) ≡ o
    by (Some object) is = refl
    by None is = absurd (let no : ⊥ = cc in no)

-- ---- offers under their keys
pub tied_pairs : (a b : Pair) → eq_by_cmp pair_cmp a b ≡ true → a ≡ b
tied_pairs a b is = pair_exact a b (is_equal (pair_cmp a b) is)

pub apart_pairs : (a b : Pair) → a ≢ b → eq_by_cmp pair_cmp a b ≡ false
apart_pairs a b apart = by (eq_by_cmp pair_cmp a b) refl
  where
    by : (t : Bool) → eq_by_cmp pair_cmp a b ≡ t → t ≡ false
    by true is = absurd (apart (tied_pairs a b is))
    by false is = refl

-- what holds of one that is added and of each that existed holds of all
pub offer_inserted : (P : Pair → Offer → Type 0) (made : Offers) (key : Pair) (new : Offer) → P key new → ((other : Pair) (offer : Offer) → get made other ≡ Some offer → P other offer) → (other : Pair) (offer : Offer) → get (insert made key new) other ≡ Some offer → P other offer
offer_inserted P made key new one others other offer is = by (eq_by_cmp pair_cmp other key) refl (sym (get-insert pair_total made key new other) ∙ is)
  where
    by : (t : Bool) → eq_by_cmp pair_cmp other key ≡ t → cond t (Some new) (get made other) ≡ Some offer → P other offer
    by true tied found = subst (λ k. P k offer) (sym (tied_pairs other key tied)) (subst (P key) (cc) one)
    by false apart found = others other offer found

pub other_inserted : (made : Offers) (key : Pair) (new : Offer) (other : Pair) → other ≢ key → get (insert made key new) other ≡ get made other
other_inserted made key new other apart = get-insert pair_total made key new other ∙ ap (λ t. cond t (Some new) (get made other)) (apart_pairs other key apart)

pub other_removed : (made : Offers) (key other : Pair) → other ≢ key → get (remove made key) other ≡ get made other
other_removed made key other apart = get-remove pair_total made key other ∙ ap (λ t. cond t None (get made other)) (apart_pairs other key apart)

pub left_before : (made : Offers) (key other : Pair) (offer : Offer) → get (remove made key) other ≡ Some offer → get made other ≡ Some offer
left_before made key other offer is = by (eq_by_cmp pair_cmp other key) (sym (get-remove pair_total made key other) ∙ is)
  where
    by : (t : Bool) → cond t None (get made other) ≡ Some offer → get made other ≡ Some offer
    by true found = absurd (let no : ⊥ = cc in no)
    by false found = found
