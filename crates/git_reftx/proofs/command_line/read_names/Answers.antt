use Rattle.std.proofs.Common.{◌≡◌, List, ℕ, ◌∷◌, Option, None, Some, refl, sym, ap, ◌∙◌}
use Rattle.git_name.specs.Name.{name_in}
use Rattle.git_name.proofs.TextLemmas.{first_of_words}
use Rattle.git_reftx.specs.Command.{names_spelled, and_name}
use Rattle.git_reftx.specs.Shown.{few}
use Rattle.git_reftx.proofs.command_line.read_names.Goals as goal

three : (a b c : Option (List ℕ)) (others : Option (List (List ℕ))) → few (and_name a (and_name b (and_name c others))) ≡ None
three None b c others = refl
three (Some a) None c others = refl
three (Some a) (Some b) None others = refl
three (Some a) (Some b) (Some c) None = refl
three (Some a) (Some b) (Some c) (Some others) = refl

-- three words write too many names
pub returns-in-Some-first_word : goal.returns-in-Some-first_word
returns-in-Some-first_word c =
    let first = c.in-Some.digits.now in
    let second = c.in-Some-first_word.field-0.0.now in
    let behind = first_of_words c.in-Some-first_word.field-0.1.now in
    let third = c.in-Some-first_word.ensures.more ∙ ap (λ words. second ∷ words) behind.2 in
    let all = c.in-Some.ensures.more ∙ ap (λ words. first ∷ words) third in
    sym (ap (λ words. few (names_spelled words)) all ∙ three (name_in first) (name_in second) (name_in behind.0) (names_spelled behind.1))
