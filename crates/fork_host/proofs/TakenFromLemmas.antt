-- What becomes visible to a tenant of what a giver sees.
use Rattle.std.proofs.Common.{◌≡◌, ◌⊎◌, inl, inr, ℕ, Bool, true, false, cond, List, [], Option, None, Some, refl, sym, ap, subst, ◌∙◌, is_some}
use Rattle.std.specs.Option.{option_map, option_or, unwrap_or}
use Rattle.std.specs.FinMap.{contains_key, get, retain_keys}
use Rattle.git_name.specs.Maps.{joined}
use Rattle.git_name.specs.Object.{Object}
use Rattle.git_name.proofs.MapLemmas.{get_joined, get_map_values}
use Rattle.git_name.proofs.Names.{name_total}
use Rattle.fork_reach.specs.Objects.{Measures, measure_of, measures_of}
use Rattle.fork_reach.specs.Source.{Objects}
use Rattle.fork_ledger.specs.Private.{Private, nothing}
use Rattle.fork_ledger.proofs.SeenLemmas.{get_kept}
use Rattle.fork_request.specs.Asked.{Ask, ForksOffer}
use Rattle.fork_model.specs.Disclosure.{looks_at_offers}
use Rattle.fork_host.specs.Own.{visible_in}
use Rattle.fork_host.specs.Safe.{IsTakenFrom}
use Rattle.fork_host.specs.Sent.{seen_in_world, seen_of}
use Rattle.fork_host.specs.Shown.{Account, HostState, shown, world_of}
use Rattle.fork_host.proofs.WholeLemmas.{seen_here}
use Rattle.fork_host.proofs.WorldLemmas.{get_world}

-- the giver whose offer is forked
abbrev pub giver_in : Ask → List ℕ
giver_in (ForksOffer giver repository copy) = giver
giver_in ask = []

-- the repository that is offered, and the new one
abbrev pub word_in : Ask → List ℕ
word_in (ForksOffer giver repository copy) = repository
word_in ask = []

abbrev pub copy_in : Ask → List ℕ
copy_in (ForksOffer giver repository copy) = copy
copy_in ask = []

-- such a request looks at what is offered
pub looked_at : (ask : Ask) (giver word copy : List ℕ) → looks_at_offers ask ≡ false → ask ≡ ForksOffer giver word copy → ⊥
looked_at ask giver word copy unlooked is = (let looks : true ≡ false = sym (ap looks_at_offers is) ∙ unlooked in cc)

-- nothing is taken
pub taken_none : (giver old new : Objects) → measures_of new ≡ measures_of old → IsTakenFrom giver old new
taken_none giver old new same name = inl (ap (λ (m : Measures). get m name) same)

measured : (objects : Objects) (name : List ℕ) → get (measures_of objects) name ≡ option_map measure_of (get objects name)
measured objects name = get_map_values name_total measure_of objects name

-- objects that a giver sees are added to those that were seen
pub taken_beside : (giver seen : Objects) (names : List ℕ → Bool) → IsTakenFrom giver seen (joined seen (retain_keys giver names))
taken_beside giver seen names name = by (get seen name) refl (names name) refl
  where
    all : Objects
    all = joined seen (retain_keys giver names)

    here : get all name ≡ option_or (get seen name) (cond (names name) (get giver name) None)
    here = get_joined name_total seen (retain_keys giver names) name ∙ ap (option_or (get seen name)) (get_kept giver names name)

    none : get seen name ≡ None → get (measures_of seen) name ≡ None
    none absent = measured seen name ∙ ap (option_map measure_of) absent

    by : (o : Option Object) → get seen name ≡ o → (b : Bool) → names name ≡ b
        → (get (measures_of all) name ≡ get (measures_of seen) name) ⊎ ((get (measures_of seen) name ≡ None) × (get (measures_of all) name ≡ get (measures_of giver) name))
    by (Some object) is b comes =
        inl (measured all name ∙ ap (option_map measure_of) (here ∙ ap (λ o. option_or o (cond (names name) (get giver name) None)) is ∙ sym is) ∙ sym (measured seen name))
    by None is true comes =
        inr (none is, measured all name ∙ ap (option_map measure_of) (here ∙ (λ i. option_or (is i) (cond (comes i) (get giver name) None))) ∙ sym (measured giver name))
    by None is false comes =
        inl (measured all name ∙ ap (option_map measure_of) (here ∙ (λ i. option_or (is i) (cond (comes i) (get giver name) None)) ∙ sym is) ∙ sym (measured seen name))

-- so it is if both saw other objects of the same measures
pub taken_alike : (giver seen other saw new : Objects) → measures_of giver ≡ measures_of other → measures_of seen ≡ measures_of saw → IsTakenFrom giver seen new → IsTakenFrom other saw new
taken_alike giver seen other saw new theirs own taken name =
    subst (λ (m : Measures). (get (measures_of new) name ≡ get m name) ⊎ ((get m name ≡ None) × (get (measures_of new) name ≡ get (measures_of other) name))) own
    (subst (λ (m : Measures). (get (measures_of new) name ≡ get (measures_of seen) name) ⊎ ((get (measures_of seen) name ≡ None) × (get (measures_of new) name ≡ get m name))) theirs (taken name))

-- what a tenant of the world sees, whether the tenant exists or not
seen_any : (state : HostState) → ((t : List ℕ) → contains_key state.vault.tenants t ≡ contains_key state.accounts t) → (t : List ℕ) → seen_in_world (world_of state) t ≡ visible_in state.vault t
seen_any state there t = by (get state.accounts t) refl
  where
    no_private : (o : Option Private) → is_some o ≡ false → nothing ≡ unwrap_or o nothing
    no_private None absent = refl
    no_private (Some own) absent = absurd (cc)

    by : (o : Option Account) → get state.accounts t ≡ o → seen_in_world (world_of state) t ≡ visible_in state.vault t
    by (Some account) here = seen_here state t account here
    by None none =
        ap seen_of (get_world state t ∙ ap (option_map (λ a. shown a state.vault t)) none)
        ∙ ap (λ (p : Private). p.visible) (no_private (get state.vault.tenants t) (there t ∙ ap is_some none))

-- and so for a world before a step and the one after it
pub taken_shown : (old new : HostState) → ((t : List ℕ) → contains_key old.vault.tenants t ≡ contains_key old.accounts t) → ((t : List ℕ) → contains_key new.vault.tenants t ≡ contains_key new.accounts t)
    → (giver tenant : List ℕ) → IsTakenFrom (visible_in old.vault giver) (visible_in old.vault tenant) (visible_in new.vault tenant)
    → IsTakenFrom (seen_in_world (world_of old) giver) (seen_in_world (world_of old) tenant) (seen_in_world (world_of new) tenant)
taken_shown old new there behind giver tenant taken =
    subst (λ o. IsTakenFrom o (seen_in_world (world_of old) tenant) (seen_in_world (world_of new) tenant)) (sym (seen_any old there giver))
    (subst (λ o. IsTakenFrom (visible_in old.vault giver) o (seen_in_world (world_of new) tenant)) (sym (seen_any old there tenant))
    (subst (IsTakenFrom (visible_in old.vault giver) (visible_in old.vault tenant)) (sym (seen_any new behind tenant)) taken))
