-- A new repository, and the branch that its HEAD names.
use Rattle.std.proofs.Common.{◌≡◌, ◌≢◌, ℕ, cond, ◌&&◌, List, ◌++◌, Option, Some, None, is_none, sym, ap, subst, map, ◌∙◌}
use Rattle.std.specs.Prelude.{IfNone}
use Rattle.std.proofs.lemmas.List.{append_cancel_left}
use Rattle.std.specs.List.{AllByRecursion}
use Rattle.git_name.specs.Name.{IsName}
use Rattle.git_reftx.specs.Repository.{IsBranch, branch_in, new_repository}
use Rattle.git_reftx.proofs.BranchLemmas.{main_right}
use Rattle.git_reftx.proofs.TxLemmas.{sound_empty}
use Rattle.state_text.specs.States.{MayBeTold}
use Rattle.state_text.proofs.LineLemmas.{no_entries}

pub new_told : MayBeTold new_repository
new_told = record { branch = main_right; references = sound_empty; targets = subst (AllByRecursion IsName) (sym (ap (map (λ e. e.1)) no_entries)) tt }

-- if no branch was read, the text has none
pub none_read : (result : Option (List ℕ)) (rest prefix short : List ℕ) → rest ≡ prefix ++ short → result ≡ branch_in short → IfNone result ((head : List ℕ) → IsBranch head → rest ≢ prefix ++ head)
none_read (Some found) rest prefix short is read = tt
none_read None rest prefix short is read = λ head right is_too.
    let same : short ≡ head = append_cancel_left prefix short head (sym is ∙ is_too) in
    let passes : branch_in head ≡ Some head = λ i. cond (is_none (right.name i) && right.branch i) (Some head) None in
    let bad : None ≡ Some head = read ∙ ap branch_in same ∙ passes in
    absurd (cc bad)
