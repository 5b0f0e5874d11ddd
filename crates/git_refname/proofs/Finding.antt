-- The first element of a list that passes a test, element by element.
use Rattle.std.proofs.Common.{◌≡◌, ℕ, ◌+◌, ◌<◌, ◌≤◌, Bool, true, false, cond, List, [], ◌∷◌, ◌++◌, Option, None, Some, refl, sym, ap, ◌∙◌, length, take, drop, get_or, take-append-drop}
use Rattle.std.specs.List.{find}
use Rattle.std.specs.Option.{option_or}
use Rattle.std.proofs.lemmas.Bool.{ltb-false}
use Rattle.std.proofs.lemmas.List.{drop_more, take_more}
use Rattle.std.proofs.lemmas.List.Folds.{find-append}
use Rattle.git_refname.specs.declared.rule.Rule.TheVariants.{Component, OneLevel, TwoDots, Unprintable, Pattern, Slashes, LastDot, AtBrace, LoneAt, Backslash, OutsideRefs, TooLong}
use Rattle.git_refname.specs.Rule.{breaks, least_broken_rule}
use Rattle.git_refname.specs.declared.name.TheConstants.{MAX_REF_NAME}

-- no earlier element passes, and this one does
pub found_at : {X : Type 0} (p : X → Bool) (xs : List X) (i : ℕ) (d : X) → i < length xs → find p (take i xs) ≡ None → p (get_or xs i d) ≡ true → find p xs ≡ Some (get_or xs i d)
found_at p xs i d inside none passes =
    ap (find p) (sym (take-append-drop i xs)) ∙ find-append p (take i xs) (drop i xs) ∙ ap (λ o. option_or o (find p (drop i xs))) none
    ∙ ap (find p) (drop_more xs i d inside) ∙ ap (λ b. cond b (Some (get_or xs i d)) (find p (drop (i + 1) xs))) passes

-- no earlier element passes, nor does this one
pub none_more : {X : Type 0} (p : X → Bool) (xs : List X) (i : ℕ) (d : X) → i < length xs → find p (take i xs) ≡ None → p (get_or xs i d) ≡ false → find p (take (i + 1) xs) ≡ None
none_more p xs i d inside none fails =
    ap (find p) (take_more xs i d inside) ∙ find-append p (take i xs) (get_or xs i d ∷ []) ∙ ap (λ o. option_or o (find p (get_or xs i d ∷ []))) none
    ∙ ap (λ b. cond b (Some (get_or xs i d)) None) fails

not_found : {X : Type 0} (b : Bool) (x : X) (o : Option X) → cond b (Some x) o ≡ None → (b ≡ false) × (o ≡ None)
not_found true x o is = absurd (cc)
not_found false x o is = (refl, is)

-- if no element passes, this one fails
pub fails_at : {X : Type 0} (p : X → Bool) (xs : List X) (x : X) (ys : List X) → find p (xs ++ x ∷ ys) ≡ None → p x ≡ false
fails_at p [] x ys none = (not_found (p x) x (find p ys) none).0
fails_at p (z ∷ xs) x ys none = fails_at p xs x ys (not_found (p z) z (find p (xs ++ x ∷ ys)) none).1

-- a name has at most the greatest length
pub name_short : (name : List ℕ) → least_broken_rule name ≡ None → length name ≤ MAX_REF_NAME
unfolding least_broken_rule
name_short name is =
    ltb-false MAX_REF_NAME (length name) (fails_at (breaks name) (Component ∷ OneLevel ∷ TwoDots ∷ Unprintable ∷ Pattern ∷ Slashes ∷ LastDot ∷ AtBrace ∷ LoneAt ∷ Backslash ∷ OutsideRefs ∷ []) TooLong [] is)
