-- The last item of the last tenant, taken out and put back with more in it.
use Rattle.std.proofs.Common.{◌≡◌, ℕ, List, [], ◌∷◌, ◌++◌, sym, subst, ◌∙◌}
use Rattle.git_name.specs.Name.{IsName}
use Rattle.git_reftx.specs.Repository as git
use Rattle.git_reftx.specs.Repository.{IsBranch, new_repository}
use Rattle.git_reftx.specs.Sound.{AreSound}
use Rattle.state_text.specs.declared.place.Place.{Place}
use Rattle.state_text.specs.Place.{IsLast, with_at}
use Rattle.state_text.specs.States.{IsStates, IsTenantState, MayBeTold, States, TenantState}
use Rattle.state_text.specs.Taking.{HasReferenceMore, HasJustBegun}
use Rattle.state_text.proofs.BehindLemmas.{same_behind}
use Rattle.state_text.proofs.LastLemmas.{more_told}
use Rattle.state_text.proofs.PlaceLemmas.{same_place, states_changed, told_at}
use Rattle.state_text.proofs.StateLemmas.{last_right}

module _ (states before : States) (tenant : TenantState) (place : Place) (repository : git.Repository) (right : IsStates states) (was : states ≡ before ++ with_at tenant place repository ∷ []) where
  opened : IsStates (before ++ with_at tenant place repository ∷ [])
  opened = subst IsStates was right

  opened_right : IsTenantState (with_at tenant place repository)
  opened_right = last_right before (with_at tenant place repository) opened

  -- with another HEAD
  pub headed_right : (head : List ℕ) (new : git.Repository) → IsBranch head → new ≡ record { head = head; references = repository.references } → IsStates (before ++ with_at tenant place new ∷ [])
  headed_right head new branch is =
      let told = told_at tenant place repository opened_right in
      let next : MayBeTold (record { head = head; references = repository.references }) = record { branch = branch; references = told.references; targets = told.targets } in
      states_changed before tenant place repository new opened opened_right (subst MayBeTold (sym is) next)

  -- with one more reference
  pub referenced_right : (new : git.Repository) (name target : List ℕ) → HasReferenceMore repository name target new → AreSound new.references → IsName target → IsStates (before ++ with_at tenant place new ∷ [])
  referenced_right new name target more sound named = states_changed before tenant place repository new opened opened_right (more_told repository new name target more sound named (told_at tenant place repository opened_right))

-- what has just begun is new
pub begun_new : (states before : States) (tenant : TenantState) (place : Place) (repository : git.Repository) → HasJustBegun states → IsLast tenant place → states ≡ before ++ with_at tenant place repository ∷ [] → repository ≡ new_repository
begun_new states before tenant place repository begun last was =
    sym (same_place begun.tenant tenant begun.place place new_repository repository begun.last last (same_behind begun.before before (with_at begun.tenant begun.place new_repository) (with_at tenant place repository) (sym begun.is ∙ was)).1).repositories
