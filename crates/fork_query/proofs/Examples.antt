-- Worked examples of the definitions.
use Rattle.std.proofs.Common.{◌≡◌, ℕ, true, false, List, [], ◌∷◌, ◌++◌, codes, Some, None, Result, Ok, Err, refl, ap}
use Rattle.std.specs.FinMap.{get}
use Rattle.hex.specs.Hex.{encode_lower}
use Rattle.git_tree.specs.declared.mode.Mode.TheVariants.{Tree}
use Rattle.git_tree.specs.Entry.{entry_with}
use Rattle.git_name.specs.Name.{name_in}
use Rattle.git_reftx.specs.Repository.{Repository}
use Rattle.fork_reach.specs.Source.{Objects}
use Rattle.fork_request.specs.declared.refusal.Refusal.{Refusal}
use Rattle.fork_request.specs.declared.refusal.Refusal.TheVariants.{NoRef}
use Rattle.fork_query.specs.declared.dated.Dated.{Dated}
use Rattle.fork_query.specs.Dates.{newest_first, reverse}
use Rattle.fork_query.specs.Head.{head_line}
use Rattle.fork_query.specs.Items.{found_name, named_by, object_of_item}
use Rattle.fork_query.specs.Sides.{bare, is_excluded, selected}
use Rattle.fork_query.specs.Trees.{entry_row}

a_caret_excludes : is_excluded (codes "^a") ≡ true
a_caret_excludes = refl

no_caret_does_not : is_excluded (codes "a^") ≡ false
no_caret_does_not = refl

one_caret_is_taken_off : bare (codes "^^a") ≡ codes "^a"
one_caret_is_taken_off = refl

abbrev as_it_is : List ℕ → Result (List ℕ) Refusal
as_it_is item = Ok item

abbrev never : List ℕ → Result (List ℕ) Refusal
never item = Err (NoRef item)

each_item_stands_on_its_side : selected as_it_is (codes "a" ∷ codes "^b" ∷ codes "c" ∷ []) ≡ Ok (record { wanted = codes "a" ∷ codes "c" ∷ []; excluded = codes "b" ∷ [] })
each_item_stands_on_its_side = refl

the_first_refused_item_decides : selected never (codes "^a" ∷ codes "b" ∷ []) ≡ Err (NoRef (codes "a"))
the_first_refused_item_decides = refl

abbrev at_time : ℕ → List ℕ → Dated
at_time seconds name = record { seconds = reverse seconds; name = name }

the_newest_comes_first : newest_first (at_time 1 (codes "a") ∷ at_time 3 (codes "b") ∷ at_time 2 (codes "c") ∷ []) ≡ at_time 3 (codes "b") ∷ at_time 2 (codes "c") ∷ at_time 1 (codes "a") ∷ []
the_newest_comes_first = refl

of_one_time_the_lesser_name_does : newest_first (at_time 1 (codes "b") ∷ at_time 1 (codes "c") ∷ at_time 1 (codes "a") ∷ []) ≡ at_time 1 (codes "a") ∷ at_time 1 (codes "b") ∷ at_time 1 (codes "c") ∷ []
of_one_time_the_lesser_name_does = refl

a_row_of_a_tree : (name : List ℕ) → entry_row (entry_with Tree (codes "b") name) ≡ codes "040000 tree " ++ encode_lower name ++ codes "\t" ++ codes "b" ++ 0 ∷ []
a_row_of_a_tree name = refl

-- `HEAD` is the branch that HEAD names
head_names_its_branch : (repository : Repository) → named_by repository (codes "HEAD") ≡ get repository.references repository.head
unfolding name_in
head_names_its_branch repository = refl

-- and where that is not there, the refusal tells `HEAD`
a_head_that_is_not_there_is_told_so : (objects : Objects) (repository : Repository) → get repository.references repository.head ≡ None → object_of_item objects repository (codes "HEAD") ≡ Err (NoRef (codes "HEAD"))
unfolding name_in
a_head_that_is_not_there_is_told_so objects repository none = ap (found_name objects (codes "HEAD")) none

-- `HEAD` behind a caret is that branch on the other side, where a caret excludes; elsewhere it is a reference's name, as which it breaks a rule
a_head_is_excluded : bare (codes "^HEAD") ≡ codes "HEAD"
a_head_is_excluded = refl

a_caret_is_part_of_a_name : (repository : Repository) → named_by repository (codes "^HEAD") ≡ get repository.references (codes "^HEAD")
unfolding name_in
a_caret_is_part_of_a_name repository = refl

-- small letters are no `HEAD`
no_other_case_is_head : (repository : Repository) → named_by repository (codes "head") ≡ get repository.references (codes "head")
unfolding name_in
no_other_case_is_head repository = refl

a_line_of_a_branch_that_is_there : (name : List ℕ) → head_line (codes "refs/heads/main") (Some name) ≡ codes "refs/heads/main " ++ encode_lower name ++ codes "\n"
a_line_of_a_branch_that_is_there name = refl

a_line_of_one_that_is_not : head_line (codes "refs/heads/main") None ≡ codes "refs/heads/main\n"
a_line_of_one_that_is_not = refl
