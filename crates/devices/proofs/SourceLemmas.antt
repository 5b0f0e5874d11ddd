-- What a read of a file of a device gives, and what it leaves to be read.
use Rattle.std.proofs.Common.{arith, ◌≡◌, ◌≤◌, ◌<◌, ◌+◌, ℕ, Bool, true, false, IsTrue, List, [], ◌∷◌, ◌++◌, drop, length, take, refl, sym, ◌∙◌, ap, subst}
use Rattle.std.proofs.Math.Seq.{take-length}
use Rattle.std.proofs.lemmas.List.{drop-drop, take-append-drop}
use Rattle.std.specs.FinMap.{get}
use Rattle.std.specs.Io.KnownBytes.{Consumes, IsAtEnd}
use Rattle.devices.specs.Device.{Past, bytes_or_none, files_of}
use Rattle.devices.specs.Source.{IsNextOf, bytes_behind}

-- what is read, and what is behind it
split : (all bytes : List ℕ) (at most : ℕ) → IsNextOf all at most bytes → drop at all ≡ bytes ++ drop (at + length bytes) all
split all bytes at most next =
    sym (take-append-drop (length bytes) (drop at all)) ∙ ap (λ front. front ++ drop (length bytes) (drop at all)) (sym next.front) ∙ ap (λ rest. bytes ++ rest) (drop-drop (length bytes) at all)

append_none : (xs ys : List ℕ) → xs ++ ys ≡ [] → ys ≡ []
append_none [] ys none = none
append_none (x ∷ xs) ys none = absurd (let long : length (x ∷ (xs ++ ys)) ≡ 0 = ap (λ (all : List ℕ). length all) none in omega (arith, long))

-- what is read at the end leaves nothing
ended : (all bytes : List ℕ) (at new : ℕ) → drop at all ≡ bytes ++ drop new all → drop at all ≡ [] → drop new all ≡ []
ended all bytes at new behind none = append_none bytes (drop new all) (sym behind ∙ none)

-- all of these bytes were copied
whole : (bytes buf : List ℕ) (n : ℕ) → n ≡ length bytes → take n buf ≡ take n bytes → take n buf ≡ bytes
whole bytes buf n is copied = copied ∙ ap (λ count. take count bytes) is ∙ take-length bytes

pub consumed : (b : Bool) (past : Past) (path items bytes buf : List ℕ) (at new n most : ℕ) → (IsTrue b → IsNextOf (bytes_or_none (get (files_of past) path)) at most items) → bytes ≡ items
    → length buf ≡ most → (length bytes ≤ most → n ≡ length bytes) → take n buf ≡ take n bytes → new ≡ at + n
    → Consumes (bytes_behind b past path at) (bytes_behind b past path new) (take n buf) × (n ≡ 0 → 0 < length buf → IsAtEnd (bytes_behind b past path new))
consumed false past path items bytes buf at new n most next same len is copied moved = (tt, λ _ _. tt)
consumed true past path items bytes buf at new n most next same len is copied moved =
    let all = bytes_or_none (get (files_of past) path) in
    let own : IsNextOf all at most bytes = subst (λ front. IsNextOf all at most front) (sym same) (next refl) in
    let count = is own.bound in
    let behind : drop at all ≡ bytes ++ drop new all =
    split all bytes at most own ∙ ap (λ rest. bytes ++ drop rest all) (ap (λ more. at + more) (sym count) ∙ sym moved) in
    (behind ∙ ap (λ front. front ++ drop new all) (sym (whole bytes buf n count copied)), λ none some. ended all bytes at new behind (own.ends (sym count ∙ none) (subst (λ size. 0 < size) len some)))
