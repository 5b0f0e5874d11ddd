-- Cached objects keep their whole files as files change.
use Rattle.std.proofs.Common.{◌≡◌, ◌≢◌, ◌⊎◌, inl, inr, ℕ, Bool, IsTrue, List, Contains, subst, sym, ◌∙◌}
use Rattle.git_name.specs.Object.{Object, object_name}
use Rattle.loose_store.specs.Files.{Files, SameBut}
use Rattle.loose_store.specs.Stored.{Whole}
use Rattle.read_cache.specs.Cached.{AreWhole, Cached, IsSure}

-- the same files, and no more objects in the cache
pub whole_less : (es fs : Cached) (old new : Files) → ((n : List ℕ) (o : Object) → Contains fs (n, o) → Contains es (n, o)) → new ≡ old → AreWhole es old → AreWhole fs new
whole_less es fs old new less same whole n o there = subst (λ files. Whole files n o) (sym same) (whole n o (less n o there))

-- one file changes, and its object is not in the cache
pub whole_but : (es fs : Cached) (old new : Files) (name : List ℕ) → ((n : List ℕ) (o : Object) → Contains fs (n, o) → Contains es (n, o) × (n ≢ name)) → SameBut name old new → AreWhole es old → AreWhole fs new
whole_but es fs old new name apart but whole n o there =
    let was = apart n o there in
    let is = whole n o was.0 in
    record { file = but n was.1 ∙ is.file; named = is.named }

-- the same files, and one more object, which has its whole file
pub whole_more : (es fs : Cached) (old new : Files) (object : Object) → ((n : List ℕ) (o : Object) → Contains fs (n, o) → Contains es (n, o) ⊎ ((n ≡ object_name object) × (o ≡ object))) → new ≡ old → Whole old (object_name object) object
    → AreWhole es old → AreWhole fs new
whole_more es fs old new object more same one whole n o there = subst (λ files. Whole files n o) (sym same) (by (more n o there))
  where
    by : Contains es (n, o) ⊎ ((n ≡ object_name object) × (o ≡ object)) → Whole old n o
    by (inl was) = whole n o was
    by (inr (name, is)) = subst (λ m. Whole old m o) (sym name) (subst (λ p. Whole old (object_name object) p) (sym is) one)

-- what holds of a cache over a store still holds if the store has not changed
pub store_stays : (cache : Cached) (sure h k : Bool) (fs gs : Files) → k ≡ h → gs ≡ fs
    → (IsTrue h → AreWhole cache fs) × IsSure sure h fs → (IsTrue k → AreWhole cache gs) × IsSure sure k gs
store_stays cache sure h k fs gs same files held =
    subst (λ b. (IsTrue b → AreWhole cache gs) × IsSure sure b gs) (sym same)
    (subst (λ f. (IsTrue h → AreWhole cache f) × IsSure sure h f) (sym files) held)
