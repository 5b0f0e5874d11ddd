-- What some walks reach, as the definitions compute it. Three objects are there, "a", "b" and "c".
use Rattle.std.proofs.Common.{◌≡◌, ℕ, true, false, List, [], ◌∷◌, codes, ◌∙◌, ap, length}
use Rattle.std.specs.Prelude.{if◌then◌else◌}
use Rattle.std.specs.FinMap.{entries, get-entries, len, len-entries}
use Rattle.std.specs.Str.{bytes_eq}
use Rattle.git_name.specs.Object.{Object}
use Rattle.fork_reach.specs.Reach.{is_reached}
use Rattle.fork_reach.specs.Source.{Objects}

-- "c" leads to "b", "b" to "a", "a" to "x", and all others to "c"
abbrev next : List ℕ → List (List ℕ)
next name =
    if bytes_eq name (codes "c") then codes "b" ∷ [] else
    if bytes_eq name (codes "b") then codes "a" ∷ [] else
    if bytes_eq name (codes "a") then codes "x" ∷ [] else codes "c" ∷ []

abbrev all : Object → List (List ℕ × Object)
all object = (codes "a", object) ∷ (codes "b", object) ∷ (codes "c", object) ∷ []

module _ (object : Object) (objects : Objects) (are : entries objects ≡ all object) where
  three : len objects ≡ 3
  three = len-entries objects ∙ ap length are

  a_root_is_reached : is_reached next objects (codes "a" ∷ []) (codes "a") ≡ true
  unfolding is_reached
  a_root_is_reached = rw three (simp (get-entries, are))

  what_it_leads_to_is_reached : is_reached next objects (codes "c" ∷ []) (codes "a") ≡ true
  unfolding is_reached
  what_it_leads_to_is_reached = rw three (simp (get-entries, are))

  what_leads_to_it_is_not : is_reached next objects (codes "b" ∷ []) (codes "c") ≡ false
  unfolding is_reached
  what_leads_to_it_is_not = rw three (simp (get-entries, are))

  a_name_that_is_not_there_is_passed_over : is_reached next objects (codes "x" ∷ codes "a" ∷ []) (codes "x") ≡ false
  unfolding is_reached
  a_name_that_is_not_there_is_passed_over = rw three (simp (get-entries, are))

  and_what_it_leads_to : is_reached next objects (codes "x" ∷ codes "a" ∷ []) (codes "c") ≡ false
  unfolding is_reached
  and_what_it_leads_to = rw three (simp (get-entries, are))
