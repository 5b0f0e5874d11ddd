-- What holds at each moment of what was done to a device.
use Rattle.std.proofs.Common.{◌≡◌, inl, inr, List, [], ◌∷◌, ◌++◌, Result, Ok, Err, refl, sym, ◌∙◌, ap, subst, append_assoc}
use Rattle.devices.specs.Device.{Effect, Past, Does, IsPart, with_effect}
use Rattle.devices.specs.Moments.{HoldsAtEach, Throughout, past_with}
use Rattle.devices.specs.Runs.{Runs}

-- ---- calls that keep a property
-- the property is kept by an effect, and by what a call that fails may have done of it
pub record KeptBy (P : Past → Type 0) (e : Effect) : Type 0 where
  pub whole : (p : Past) → P p → P (with_effect p e)
  pub part : (p : Past) (part : Effect) → IsPart e part → P p → P (with_effect p part)

pub does_keep : {A E : Type 0} (P : Past → Type 0) (e : Effect) (old new : Past) (result : Result A E) → KeptBy P e → Does e old new result → P old → P new
does_keep P e old new (Ok answer) kept is was = subst P (sym is) (kept.whole old was)
does_keep P e old new (Err fault) kept (inl is) was = subst P (sym is) was
does_keep P e old new (Err fault) kept (inr (part, is_part, is)) was = subst P (sym is) (kept.part old part is_part was)

abbrev pub KeptByAll : (Past → Type 0) → List Effect → Type 0
KeptByAll P [] = Unit {0}
KeptByAll P (e ∷ effects) = KeptBy P e × KeptByAll P effects

pub run_keeps : {A E : Type 0} (P : Past → Type 0) (effects : List Effect) (old new : Past) (result : Result A E) → KeptByAll P effects → Runs effects old new result → P old → P new
run_keeps {A} {E} P [] old new result kept is was = subst P (sym is) was
run_keeps {A} {E} P (e ∷ effects) old new (Ok answer) kept runs was = run_keeps {A = A} {E = E} P effects (with_effect old e) new (Ok answer) kept.1 runs (kept.0.whole old was)
run_keeps {A} {E} P (e ∷ effects) old new (Err fault) kept (inl is) was = subst P (sym is) was
run_keeps {A} {E} P (e ∷ effects) old new (Err fault) kept (inr (inl (part, is_part, is))) was = subst P (sym is) (kept.0.part old part is_part was)
run_keeps {A} {E} P (e ∷ effects) old new (Err fault) kept (inr (inr runs)) was = run_keeps {A = A} {E = E} P effects (with_effect old e) new (Err fault) kept.1 runs (kept.0.whole old was)

-- ---- moments
module _ (P : Past → Type 0) where
  pub last_of : (old : Past) (done : List Effect) → HoldsAtEach P old done → P (past_with old done)
  last_of old [] each = each
  last_of old (e ∷ done) each = each.0

  pub throughout_end : (old new : Past) → Throughout P old new → P new
  throughout_end old new all = subst P (sym all.all) (last_of old all.done all.each)

  pub throughout_none : (old new : Past) → new ≡ old → P old → Throughout P old new
  throughout_none old new is was = record { done = []; all = is; each = was }

  pub throughout_one : (old new : Past) (e : Effect) → new ≡ with_effect old e → P old → P (with_effect old e) → Throughout P old new
  throughout_one old new e is was now = record { done = e ∷ []; all = is; each = (now, was) }

  more_each : (old : Past) (before after : List Effect) → HoldsAtEach P old before → HoldsAtEach P (past_with old before) after → HoldsAtEach P old (after ++ before)
  more_each old before [] one two = one
  more_each old before (e ∷ after) one two =
      (subst (λ (es : List Effect). P (record old { effects = es })) (sym (append_assoc (e ∷ after) before old.effects)) two.0, more_each old before after one two.1)

  pub throughout_then : (a b c : Past) → Throughout P a b → Throughout P b c → Throughout P a c
  throughout_then a b c one two = record {
    done = two.done ++ one.done;
    all = two.all ∙ ap (λ (p : Past). past_with p two.done) one.all ∙ ap (λ (es : List Effect). record a { effects = es }) (sym (append_assoc two.done one.done a.effects));
    each = more_each a one.done two.done one.each (subst (λ (p : Past). HoldsAtEach P p two.done) one.all two.each);
  }

  pub does_throughout : {A E : Type 0} (e : Effect) (old new : Past) (result : Result A E) → KeptBy P e → Does e old new result → P old → Throughout P old new
  does_throughout e old new (Ok answer) kept is was = throughout_one old new e is was (kept.whole old was)
  does_throughout e old new (Err fault) kept (inl is) was = throughout_none old new is was
  does_throughout e old new (Err fault) kept (inr (part, is_part, is)) was = throughout_one old new part is was (kept.part old part is_part was)

  after_one : (old new : Past) (e : Effect) → KeptBy P e → P old → (P (with_effect old e) → Throughout P (with_effect old e) new) → Throughout P old new
  after_one old new e kept was rest = throughout_then old (with_effect old e) new (throughout_one old (with_effect old e) e refl was (kept.whole old was)) (rest (kept.whole old was))

  pub run_throughout : {A E : Type 0} (effects : List Effect) (old new : Past) (result : Result A E) → KeptByAll P effects → Runs effects old new result → P old → Throughout P old new
  run_throughout {A} {E} [] old new result kept is was = throughout_none old new is was
  run_throughout {A} {E} (e ∷ effects) old new (Ok answer) kept runs was =
      after_one old new e kept.0 was (λ now. run_throughout {A = A} {E = E} effects (with_effect old e) new (Ok answer) kept.1 runs now)
  run_throughout {A} {E} (e ∷ effects) old new (Err fault) kept (inl is) was = throughout_none old new is was
  run_throughout {A} {E} (e ∷ effects) old new (Err fault) kept (inr (inl (part, is_part, is))) was = throughout_one old new part is was (kept.0.part old part is_part was)
  run_throughout {A} {E} (e ∷ effects) old new (Err fault) kept (inr (inr runs)) was =
      after_one old new e kept.0 was (λ now. run_throughout {A = A} {E = E} effects (with_effect old e) new (Err fault) kept.1 runs now)

map_each : (P Q : Past → Type 0) → ((past : Past) → P past → Q past) → (old : Past) (done : List Effect) → HoldsAtEach P old done → HoldsAtEach Q old done
map_each P Q then old [] each = then old each
map_each P Q then old (e ∷ done) each = (then (past_with old (e ∷ done)) each.0, map_each P Q then old done each.1)

-- a property that follows holds throughout too
pub throughout_map : (P Q : Past → Type 0) → ((past : Past) → P past → Q past) → (old new : Past) → Throughout P old new → Throughout Q old new
throughout_map P Q then old new all = record { done = all.done; all = all.all; each = map_each P Q then old all.done all.each }
