-- A tenant may take what is offered in a sound world, if each name has only one object in the world.
use Rattle.std.proofs.Common.{◌≡◌, ◌⊎◌, ℕ, Bool, true, List, Option, Some, None, refl, sym, ap, subst, ◌∙◌, is_some, inl, inr}
use Rattle.std.specs.Option.{option_or}
use Rattle.std.specs.FinMap.{contains_key, entries, get, get-empty, get-entries, values}
use Rattle.git_name.specs.Maps.{joined}
use Rattle.git_name.specs.Name.{name_cmp}
use Rattle.git_name.specs.Object.{Object}
use Rattle.git_name.proofs.MapLemmas.{get_joined}
use Rattle.git_name.proofs.Names.{name_total}
use Rattle.git_object.specs.ObjectIn.{links_in}
use Rattle.fork_reach.specs.Reach.{is_reached, linked_names}
use Rattle.fork_reach.specs.Source.{Objects}
use Rattle.fork_reach.proofs.ReachLemmas.{next_reached, root_reached}
use Rattle.fork_model.specs.Context.{met_by, nothing_offered}
use Rattle.fork_model.specs.Offer.{Offer, Pair, pair_cmp}
use Rattle.fork_model.specs.Sound.{AreReferences, AreSoundObjects, IsAlike, IsReach, IsSoundBeside, IsSoundWorld, MayTake}
use Rattle.fork_model.specs.View.{View}
use Rattle.fork_model.specs.World.{World}
use Rattle.fork_model.proofs.KeptLemmas.{closed_kept, found_kept, found_value, met_alike, named_kept, references_right, right_kept}
use Rattle.fork_model.proofs.OfferLemmas.{AreAmong, among_joined}
use Rattle.fork_model.proofs.OfferedLemmas.{given_by_one}
use Rattle.fork_model.proofs.Rows.{references_kept}

-- what a sound offer holds is sound by itself, and its references are valid over it
record IsWhole (offer : Offer) : Type 0 where
  references : AreReferences offer.objects offer.repository.references
  sound : AreSoundObjects offer.objects

whole : (objects : Objects) (offer : Offer) → AreSoundObjects objects → IsReach objects offer → AreReferences objects offer.repository.references → IsWhole offer
whole objects offer sound reach holds = record {
  references = subst (λ all. AreReferences all offer.repository.references) (sym reach.objects) (references_right objects kept offer.repository.references (λ reference target points there. rooted reference target points there) holds);
  sound = subst AreSoundObjects (sym reach.objects) (record {
    named = named_kept objects kept sound.named;
    right = right_kept objects kept sound.right;
    closed = closed_kept objects kept (λ from name. next_reached (linked_names objects) objects roots from name) sound.closed;
  });
}
  where
    roots : List (List ℕ)
    roots = values offer.repository.references

    kept : List ℕ → Bool
    kept = is_reached (linked_names objects) objects roots

    rooted : (reference target : List ℕ) → get offer.repository.references reference ≡ Some target → contains_key objects target ≡ true → kept target ≡ true
    rooted reference target points there =
        root_reached (linked_names objects) objects roots target (found_value name_cmp reference target (entries offer.repository.references) (sym (get-entries offer.repository.references reference) ∙ points)) there

-- both have the same object under each name that both have
abbrev pub Match : Objects → Objects → Type 0
Match objects others = (name : List ℕ) (object same : Object) → get objects name ≡ Some object → get others name ≡ Some same → object ≡ same

module _ (objects others : Objects) (match : Match objects others) where
  -- what either side holds is found under its name
  second_among : AreAmong others (joined objects others)
  second_among name there = get_joined name_total objects others name ∙ by (get objects name) (get others name) refl refl there
    where
      by : (o p : Option Object) → get objects name ≡ o → get others name ≡ p → is_some p ≡ true → option_or o p ≡ p
      by None p here is there = refl
      by (Some object) (Some same) here is there = ap Some (match name object same here is)
      by (Some object) None here is there = absurd (let no : ⊥ = cc in no)

  either_side : (name : List ℕ) (object : Object) → get (joined objects others) name ≡ Some object → (get objects name ≡ Some object) ⊎ (get others name ≡ Some object)
  either_side name object is = by (get objects name) (sym (get_joined name_total objects others name) ∙ is)
    where
      by : (o : Option Object) → option_or o (get others name) ≡ Some object → (o ≡ Some object) ⊎ (get others name ≡ Some object)
      by None found = inr found
      by (Some first) found = inl found

  both_sound : AreSoundObjects objects → AreSoundObjects others → AreSoundObjects (joined objects others)
  both_sound one two = record {
    named = λ name object is. elim (either_side name object is) [ inl here ↦ one.named name object here | inr there ↦ two.named name object there ];
    right = λ name object is. elim (either_side name object is) [ inl here ↦ one.right name object here | inr there ↦ two.right name object there ];
    closed = λ name object is. elim (either_side name object is) [
      | inl here ↦ met_alike objects (joined objects others) (links_in object.kind object.bytes) (λ other at there. among_joined objects others other there) (one.closed name object here)
      | inr there ↦ met_alike others (joined objects others) (links_in object.kind object.bytes) (λ other at is_there. second_among other is_there) (two.closed name object there)
    ];
  }

-- an offer holds what its giver holds
offer_match : (world : World) (tenant giver : List ℕ) (view other : View) (offer : Offer) → IsAlike world → get world tenant ≡ Some view → get world giver ≡ Some other → IsReach other.objects offer → Match view.objects offer.objects
offer_match world tenant giver view other offer alike here there reach name object same is held =
    alike tenant giver name view other object same here there is
    (found_kept other.objects (is_reached (linked_names other.objects) other.objects (values offer.repository.references)) name same (subst (λ (all : Objects). get all name ≡ Some same) reach.objects held)).1

module _ (world : World) (tenant : List ℕ) (view : View) (sound : IsSoundWorld world) (alike : IsAlike world) (here : get world tenant ≡ Some view) where
  pub may_take : MayTake (met_by world tenant) view.objects
  may_take key offer is =
      let given = given_by_one world tenant key offer is in
      let may = (sound.orderly.views key.0 given.view given.there).offers (tenant, key.1) offer given.made in
      let right = sound.right key.0 given.view given.there in
      let reach = right.offered (tenant, key.1) offer given.made in
      let all = whole given.view.objects offer (record { named = right.named; right = right.right; closed = right.closed }) reach may.references in
      (may.head, references_kept offer.objects (joined view.objects offer.objects) offer.repository.references (second_among view.objects offer.objects (offer_match world tenant key.0 view given.view offer alike here given.there reach)) all.references)

  pub sound_beside : IsSoundBeside (met_by world tenant) view.objects
  sound_beside key offer is =
      let given = given_by_one world tenant key offer is in
      let may = (sound.orderly.views key.0 given.view given.there).offers (tenant, key.1) offer given.made in
      let right = sound.right key.0 given.view given.there in
      let own = sound.right tenant view here in
      let reach = right.offered (tenant, key.1) offer given.made in
      let all = whole given.view.objects offer (record { named = right.named; right = right.right; closed = right.closed }) reach may.references in
      both_sound view.objects offer.objects (offer_match world tenant key.0 view given.view offer alike here given.there reach) (record { named = own.named; right = own.right; closed = own.closed }) all.sound

-- a tenant that is offered nothing may take all of it
nothing_there : (tenant : List ℕ) (key : Pair) (offer : Offer) → get (nothing_offered tenant).offered key ≡ Some offer → ⊥
nothing_there tenant key offer is = (let none = get-empty {X = Offer} pair_cmp key in let no : ⊥ = cc in no)

pub none_taken : (tenant : List ℕ) (objects : Objects) → MayTake (nothing_offered tenant) objects
none_taken tenant objects key offer is = absurd (nothing_there tenant key offer is)

pub none_beside : (tenant : List ℕ) (objects : Objects) → IsSoundBeside (nothing_offered tenant) objects
none_beside tenant objects key offer is = absurd (nothing_there tenant key offer is)
