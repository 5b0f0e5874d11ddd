-- A catalogue that grows: by nothing, by one name, and by one call after another.
use Rattle.std.proofs.Common.{◌≡◌, false, ℕ, List, [], ◌∷◌, ◌++◌, refl, sym, ap, subst, ◌∙◌, arith, append_assoc}
use Rattle.std.specs.Prelude.{Contains}
use Rattle.std.specs.List.{AllByRecursion}
use Rattle.std.proofs.lemmas.List.{append-nil}
use Rattle.git_name.specs.Same.{is_listed}
use Rattle.looks.specs.Growth.{AreNew, GrowsAmong}
use Rattle.looks.specs.Places.{Places}

-- by nothing
pub grows_none : (names : List (List ℕ)) (places : Places) → GrowsAmong names places places
grows_none names places = record { place = refl; added = []; parts = sym (append-nil places.names); fresh = tt; among = tt }

pub grows_same : (names : List (List ℕ)) (old new : Places) → new ≡ old → GrowsAmong names old new
grows_same names old new same = subst (GrowsAmong names old) (sym same) (grows_none names old)

-- by one name
pub grows_one : (name : List ℕ) (old new : Places) → new.place ≡ old.place → new.names ≡ old.names ++ name ∷ [] → is_listed old.names name ≡ false → GrowsAmong (name ∷ []) old new
grows_one name old new place parts fresh = record { place = place; added = name ∷ []; parts = parts; fresh = (fresh, tt); among = ((0, omega arith, refl), tt) }

all_of : {X : Type 0} (P Q : X → Type 0) (xs : List X) → ((x : X) → P x → Q x) → AllByRecursion P xs → AllByRecursion Q xs
all_of P Q [] each all = tt
all_of P Q (x ∷ xs) each all = (each x all.0, all_of P Q xs each all.1)

all_both : {X : Type 0} (P : X → Type 0) (xs ys : List X) → AllByRecursion P xs → AllByRecursion P ys → AllByRecursion P (xs ++ ys)
all_both P [] ys first then = then
all_both P (x ∷ xs) ys first then = (first.0, all_both P xs ys first.1 then)

new_both : (names xs ys : List (List ℕ)) → AreNew names xs → AreNew (names ++ xs) ys → AreNew names (xs ++ ys)
new_both names [] ys first then = subst (λ ns. AreNew ns ys) (append-nil names) then
new_both names (x ∷ xs) ys first then = (first.0, new_both (names ++ x ∷ []) xs ys first.1 (subst (λ ns. AreNew ns ys) (sym (append_assoc names (x ∷ []) xs)) then))

-- by one call after another
pub grows_then : (names : List (List ℕ)) (a b c : Places) → GrowsAmong names a b → GrowsAmong names b c → GrowsAmong names a c
grows_then names a b c first then = record {
  place = then.place ∙ first.place;
  added = first.added ++ then.added;
  parts = then.parts ∙ ap (λ front. front ++ then.added) first.parts ∙ append_assoc a.names first.added then.added;
  fresh = new_both a.names first.added then.added first.fresh (subst (λ ns. AreNew ns then.added) first.parts then.fresh);
  among = all_both (Contains names) first.added then.added first.among then.among;
}

-- by names of a longer list
pub grows_more : (names more : List (List ℕ)) (a b : Places) → ((name : List ℕ) → Contains names name → Contains more name) → GrowsAmong names a b → GrowsAmong more a b
grows_more names more a b are grows = record {
  place = grows.place;
  added = grows.added;
  parts = grows.parts;
  fresh = grows.fresh;
  among = all_of (Contains names) (Contains more) grows.added are grows.among;
}

-- a catalogue that grows among no names does not change
pub none_came : (old new : Places) → GrowsAmong [] old new → new ≡ old
none_came old new grows = λ i. record { names = (grows.parts ∙ ap (λ added. old.names ++ added) (none grows.added grows.among) ∙ append-nil old.names) i; place = grows.place i }
  where
    none : (added : List (List ℕ)) → AllByRecursion (Contains []) added → added ≡ []
    none [] all = refl
    none (name ∷ added) all = (let inside = all.0.1 in absurd (omega (arith, inside)))
