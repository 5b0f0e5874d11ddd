-- That what is known of names is what stands on the store, as files and what is known change.
use Rattle.std.proofs.Common.{◌≡◌, ◌≢◌, ◌⊎◌, inl, inr, ℕ, List, None, Some, sym, ap, subst, ◌∙◌}
use Rattle.std.specs.FinMap.{get}
use Rattle.std.specs.Prelude.{Contains}
use Rattle.std.proofs.lemmas.List.Elements.{All-contains}
use Rattle.git_name.specs.Object.{Object, object_name}
use Rattle.loose_store.specs.Files.{Files, SameBut}
use Rattle.loose_store.specs.Stored.{Whole}
use Rattle.number_links.specs.Facts.{Learned}
use Rattle.object_table.specs.Links.{KnowsNoMore, NamedLinks}
use Rattle.fork_ledger.specs.AllStaged.{AllWhole, StaysWhole}
use Rattle.fork_ledger.specs.Led.{AreLed, LeadsTo, LearnsOf, learned_of}

-- nothing is known
pub led_none : (links : NamedLinks) (files : Files) → ((q : List ℕ) → get links q ≡ None) → AreLed links files
led_none links files none = record { each = λ name to is. (let differs : None ≡ Some to = sym (none name) ∙ is in absurd (let wrong : ⊥ = cc in wrong)) }

-- the same is known
pub led_same : (links now : NamedLinks) (files : Files) → now ≡ links → AreLed links files → AreLed now files
led_same links now files same led = subst (λ l. AreLed l files) (sym same) led

-- what stood whole still does
pub led_still : (links : NamedLinks) (old new : Files) → StaysWhole old new → AreLed links old → AreLed links new
led_still links old new stays led = record { each = λ name to is. (let stands = led.each name to is in (stands.0, stays name stands.0 stands.1, stands.2)) }

-- and the same is known
pub led_stays : (links now : NamedLinks) (old new : Files) → now ≡ links → StaysWhole old new → AreLed links old → AreLed now new
led_stays links now old new same stays led = led_same links now new same (led_still links old new stays led)

-- one file changes, and nothing is known of its name
pub led_but : (name : List ℕ) (links left : NamedLinks) (old new : Files) → SameBut name old new → KnowsNoMore links left → get left name ≡ None → AreLed links old → AreLed left new
led_but name links left old new but fewer away led = record {
  each = λ other to is.
      let apart : other ≢ name = λ same. (let differs : None ≡ Some to = sym away ∙ ap (get left) (sym same) ∙ is in absurd (let wrong : ⊥ = cc in wrong)) in
      let stands = led.each other to (fewer other to is) in
      (stands.0, record { file = but other apart ∙ stands.1.file; named = stands.1.named }, stands.2);
}

-- what one name leads to is learned from its object
pub led_learned : (links now : NamedLinks) (files : Files) (name : List ℕ) (object : Object) → Whole files name object
    → ((q : List ℕ) (to : Learned (List ℕ)) → get now q ≡ Some to → (get links q ≡ Some to) ⊎ ((q ≡ name) × (to ≡ learned_of object)))
    → AreLed links files → AreLed now files
led_learned links now files name object whole only led = record { each = λ q to is. by q to (only q to is) }
  where
    by : (q : List ℕ) (to : Learned (List ℕ)) → (get links q ≡ Some to) ⊎ ((q ≡ name) × (to ≡ learned_of object)) → LeadsTo files q to
    by q to (inl before) = led.each q to before
    by q to (inr learned) = subst (λ n. LeadsTo files n to) (sym learned.0) (object, whole, sym learned.1)

-- and the store is as it was
pub led_read : (links now : NamedLinks) (files after : Files) (name : List ℕ) (object : Object) → (other : Object) × (Some object ≡ Some other) × Whole files name other → after ≡ files
    → ((q : List ℕ) (to : Learned (List ℕ)) → get now q ≡ Some to → (get links q ≡ Some to) ⊎ ((q ≡ name) × (to ≡ learned_of object)))
    → AreLed links files → AreLed now after
led_read links now files after name object found same only led =
    let one : found.0 ≡ object = (let is = found.1 in cc) in
    subst (AreLed now) (sym same) (led_learned links now files name object (subst (Whole files name) one found.2) only led)

-- ---- what is learned of objects
pub learns_none : (objects : List Object) (links : NamedLinks) → LearnsOf objects links links
learns_none objects links name one is = inl is

pub learns_same : (objects : List Object) (old new : NamedLinks) → new ≡ old → LearnsOf objects old new
learns_same objects old new same name one is = inl (subst (λ l. get l name ≡ Some one) same is)

pub learns_more : (objects : List Object) (old mid new : NamedLinks) (object : Object) → Contains objects object → LearnsOf objects old mid
    → ((q : List ℕ) (one : Learned (List ℕ)) → get new q ≡ Some one → (get mid q ≡ Some one) ⊎ ((q ≡ object_name object) × (one ≡ learned_of object))) → LearnsOf objects old new
learns_more objects old mid new object there before more name one is = by (more name one is)
  where
    by : (get mid name ≡ Some one) ⊎ ((name ≡ object_name object) × (one ≡ learned_of object)) → (get old name ≡ Some one) ⊎ ((o : Object) × Contains objects o × (name ≡ object_name o) × (one ≡ learned_of o))
    by (inl was) = before name one was
    by (inr (named, learned)) = inr (object, there, named, learned)

-- objects that came are among those that were sent
pub learns_among : (objects received : List Object) (old mid new : NamedLinks) → mid ≡ old → ((object : Object) → Contains received object → Contains objects object) → LearnsOf received mid new → LearnsOf objects old new
learns_among objects received old mid new same among learns name one is = by (learns name one is)
  where
    by : (get mid name ≡ Some one) ⊎ ((o : Object) × Contains received o × (name ≡ object_name o) × (one ≡ learned_of o)) → (get old name ≡ Some one) ⊎ ((o : Object) × Contains objects o × (name ≡ object_name o) × (one ≡ learned_of o))
    by (inl was) = inl (subst (λ l. get l name ≡ Some one) same was)
    by (inr (object, there, named, learned)) = inr (object, among object there, named, learned)

-- and their files are whole
pub led_learns : (objects : List Object) (old new : NamedLinks) (files : Files) → ((object : Object) → Contains objects object → Whole files (object_name object) object) → LearnsOf objects old new → AreLed old files → AreLed new files
led_learns objects old new files whole learns led = record { each = λ name one is. by name one (learns name one is) }
  where
    by : (name : List ℕ) (one : Learned (List ℕ)) → (get old name ≡ Some one) ⊎ ((o : Object) × Contains objects o × (name ≡ object_name o) × (one ≡ learned_of o)) → LeadsTo files name one
    by name one (inl was) = led.each name one was
    by name one (inr (object, there, named, learned)) = subst (λ n. LeadsTo files n one) (sym named) (object, whole object there, sym learned)

-- objects were received, and those that are here are learned
pub led_received : (links mid now : NamedLinks) (old new : Files) (objects received : List Object) → mid ≡ links → StaysWhole old new → AllWhole new objects → ((object : Object) → Contains received object → Contains objects object)
    → LearnsOf received mid now → AreLed links old → AreLed now new
led_received links mid now old new objects received same stays whole among learns led =
    led_learns received mid now new (λ object is. All-contains (λ o. Whole new (object_name o) o) objects object whole (among object is)) learns (led_stays links mid old new same stays led)
