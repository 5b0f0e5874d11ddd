use Rattle.std.proofs.Common.{◌≡◌, ◌++◌, ◌∷◌, [], List, ℕ, ap, ◌∙◌, append_assoc}
use Rattle.std.specs.Prelude.{codes}
use Rattle.git_refname.specs.Namespace.{namespace}
use Rattle.git_refname.proofs.namespace.put.Goals as goal

regroup : (old name : List ℕ) → ((old ++ codes "refs/namespaces/") ++ name) ++ 47 ∷ [] ≡ old ++ namespace name
regroup old name = simp append_assoc

pub returns : goal.returns
returns c =
    let first = c.in_ok-extend_from_slice.ensures.items in
    let second = c.in_ok-extend_from_slice-2.ensures.items ∙ ap (λ (xs : List ℕ). xs ++ c.args.name.now) first in
    c.in_ok-extend_from_slice-3.ensures.items ∙ ap (λ (xs : List ℕ). xs ++ 47 ∷ []) second ∙ regroup c.args.prefix.now.items c.args.name.now
