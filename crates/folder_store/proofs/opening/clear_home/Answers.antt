use Rattle.std.proofs.Common.{◌≡◌, ◌++◌, ◌∷◌, [], List, ℕ, ap, codes, ◌∙◌}
use Rattle.folder_store.specs.Place.{home_with, name_at, swept_at}
use Rattle.folder_store.proofs.SweptLemmas.{home_part_none, home_part_not_swept}
use Rattle.folder_store.proofs.opening.clear_home.Goals as goal

pub returns-clause-alike : goal.returns-clause-alike
returns-clause-alike g c honest =
    let path : c.as_str.result.now ≡ home_with (c.args.first ∷ []) ++ codes "part" =
    c.as_str.ensures.value ∙ c.in_ok-push_str.ensures.bytes ∙ ap (λ (xs : List ℕ). xs ++ codes "part") (c.in_ok-part.ensures ∙ ap home_with c.as_slice.ensures) in
    c.remove_part.ensures.alike honest (ap name_at path ∙ home_part_none c.args.first) (ap swept_at path ∙ home_part_not_swept c.args.first)

pub returns-clause-lasts : goal.returns-clause-lasts
returns-clause-lasts g c honest =
    let path : c.as_str.result.now ≡ home_with (c.args.first ∷ []) ++ codes "part" =
    c.as_str.ensures.value ∙ c.in_ok-push_str.ensures.bytes ∙ ap (λ (xs : List ℕ). xs ++ codes "part") (c.in_ok-part.ensures ∙ ap home_with c.as_slice.ensures) in
    c.remove_part.ensures.lasts honest (ap name_at path ∙ home_part_none c.args.first) (ap swept_at path ∙ home_part_not_swept c.args.first)
