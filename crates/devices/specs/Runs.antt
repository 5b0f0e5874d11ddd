-- Calls of a device one after another (own).
use Rattle.std.specs.Prelude.{◌≡◌, ◌⊎◌, List, [], ◌∷◌, Result, Ok, Err}
use Rattle.devices.specs.Device.{Past, Effect, IsPart, with_effect}

-- calls have these effects in this order; if one fails, those before it, and none or a part of its own
abbrev pub Runs : {A E : Type 0} → List Effect → Past → Past → Result A E → Type 0
Runs {A} {E} [] old new result = new ≡ old
Runs {A} {E} (effect ∷ rest) old new (Ok answer) = Runs {A = A} {E = E} rest (with_effect old effect) new (Ok answer)
Runs {A} {E} (effect ∷ rest) old new (Err fault) = (new ≡ old) ⊎ (((part : Effect) × IsPart effect part × (new ≡ with_effect old part)) ⊎ Runs {A = A} {E = E} rest (with_effect old effect) new (Err fault))
