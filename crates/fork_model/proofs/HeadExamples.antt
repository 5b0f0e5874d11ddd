-- Example requests about HEAD, answered by the definitions.
use Rattle.std.proofs.Common.{◌≡◌, ℕ, true, false, cond, List, [], ◌∷◌, ◌++◌, Option, None, Some, Ok, refl, ap, ◌∙◌, codes, sym}
use Rattle.std.specs.FinMap.{empty, get, get-empty, get-insert, insert}
use Rattle.hex.specs.Hex.{encode_lower}
use Rattle.git_name.specs.Name.{name_cmp, name_in}
use Rattle.git_name.specs.Object.{Object}
use Rattle.git_name.proofs.Names.{name_total}
use Rattle.git_refname.specs.Rule.{least_broken_rule}
use Rattle.git_reftx.specs.Repository.{Repository, main_branch, new_repository}
use Rattle.git_reftx.specs.Transaction.{References}
use Rattle.fork_reach.specs.Source.{Objects}
use Rattle.fork_query.specs.Head.{head_line, head_told}
use Rattle.fork_query.specs.Items.{commit_behind, commit_of_item, found_name}
use Rattle.fork_query.specs.RevList.{revisions_of, revisions_told}
use Rattle.fork_query.specs.Sides.{selected, with_item}
use Rattle.fork_request.specs.Asked.{AsksHead, AsksRevisions, SetsHead}
use Rattle.fork_request.specs.Names.{is_plain_name}
use Rattle.fork_request.specs.declared.refusal.Refusal.TheVariants.{BadName, BadRef, NoRef, NoRepository}
use Rattle.fork_request.specs.declared.reply.Reply.{Reply}
use Rattle.fork_request.specs.declared.reply.Reply.TheVariants.{Done, Refused}
use Rattle.fork_model.specs.Answer.{answer, repository_added, copied, few_items, head_answer, named_repository, rev_list_answer, set_head_answer, set_head_in, reply_of, told_over}
use Rattle.fork_model.specs.Context.{Context, nothing_offered}
use Rattle.fork_model.specs.View.{View}

-- a tenant that nobody offers anything
abbrev anyone : Context
anyone = nothing_offered (codes "alice")

-- a view without objects, and with this repository `r`
abbrev nothing : Objects
nothing = empty {X = Object} {R = name_cmp}

abbrev having : Repository → View
having repository = record { repositories = insert empty (codes "r") repository; made = empty; objects = nothing; upload = None; limit = 1000 }

plain : is_plain_name 64 (codes "r") ≡ true
unfolding is_plain_name
plain = refl

plain_too : is_plain_name 64 (codes "s") ≡ true
unfolding is_plain_name
plain_too = refl

no_capitals : is_plain_name 64 (codes "R") ≡ false
unfolding is_plain_name
no_capitals = refl

-- a row over the repository
over : (repository : Repository) (row : Option Repository → Reply × View) → named_repository (having repository) (codes "r") (row (get (having repository).repositories (codes "r"))) ≡ row (Some repository)
over repository row =
    ap (λ b. cond {A = Reply × View} b (row (get (having repository).repositories (codes "r"))) (Refused (BadName (codes "r")), having repository)) plain
    ∙ ap row (get-insert name_total empty (codes "r") repository (codes "r"))

-- and over one that does not exist
absent : (repository : Repository) → get (having repository).repositories (codes "s") ≡ None
absent repository = get-insert name_total empty (codes "r") repository (codes "s") ∙ get-empty {X = Repository} name_cmp (codes "s")

no_branch : get new_repository.references main_branch ≡ None
no_branch = get-empty {X = List ℕ} name_cmp main_branch

a_new_repository_has_head_main : answer anyone (having new_repository) (AsksHead (codes "r")) ≡ (Done (codes "refs/heads/main\n"), having new_repository)
unfolding answer head_answer head_told
a_new_repository_has_head_main =
    over new_repository (λ o. (told_over (codes "r") (λ repository. Ok (head_told repository)) o, having new_repository))
    ∙ ap (λ o. (Done (head_line main_branch o), having new_repository)) no_branch

-- a repository whose HEAD is main, and main exists
abbrev with_main : References → Repository
with_main references = record { head = main_branch; references = references }

a_branch_that_is_there_is_told_with_its_target : (references : References) (target : List ℕ) → get references main_branch ≡ Some target
    → answer anyone (having (with_main references)) (AsksHead (codes "r")) ≡ (Done (codes "refs/heads/main " ++ encode_lower target ++ codes "\n"), having (with_main references))
unfolding answer head_answer head_told
a_branch_that_is_there_is_told_with_its_target references target there =
    over (with_main references) (λ o. (told_over (codes "r") (λ repository. Ok (head_told repository)) o, having (with_main references)))
    ∙ ap (λ o. (Done (head_line main_branch o), having (with_main references))) there

-- before a push `HEAD` is no reference, and the reply says so
a_head_before_a_push_is_no_reference : answer anyone (having new_repository) (AsksRevisions (codes "r") (codes "HEAD" ∷ [])) ≡ (Refused (NoRef (codes "HEAD")), having new_repository)
unfolding answer rev_list_answer revisions_told name_in
a_head_before_a_push_is_no_reference =
    over new_repository (λ o. (few_items (codes "HEAD" ∷ []) (told_over (codes "r") (λ repository. revisions_told nothing repository (codes "HEAD" ∷ [])) o), having new_repository))
    ∙ ap (λ o. (reply_of (revisions_of nothing (with_item false (commit_behind nothing (found_name nothing (codes "HEAD") o)) (selected (commit_of_item nothing new_repository) []))), having new_repository)) no_branch

-- after one, `HEAD` and its branch are read alike, on either side
a_head_behind_a_push_is_its_branch : (objects : Objects) (references : References) (target : List ℕ) → get references main_branch ≡ Some target
    → commit_of_item objects (with_main references) (codes "HEAD") ≡ commit_of_item objects (with_main references) main_branch
unfolding name_in
a_head_behind_a_push_is_its_branch objects references target there =
    ap (λ o. commit_behind objects (found_name objects (codes "HEAD") o)) there ∙ ap (λ o. commit_behind objects (found_name objects main_branch o)) (sym there)

a_tag_is_no_head : answer anyone (having new_repository) (SetsHead (codes "r") (codes "refs/tags/v")) ≡ (Refused (BadRef (codes "refs/tags/v")), having new_repository)
unfolding answer set_head_answer least_broken_rule
a_tag_is_no_head = over new_repository (set_head_in (having new_repository) (codes "r") (codes "refs/tags/v"))

head_itself_is_no_head : answer anyone (having new_repository) (SetsHead (codes "r") (codes "HEAD")) ≡ (Refused (BadRef (codes "HEAD")), having new_repository)
unfolding answer set_head_answer least_broken_rule
head_itself_is_no_head = over new_repository (set_head_in (having new_repository) (codes "r") (codes "HEAD"))

a_branch_that_is_not_there_is_taken : answer anyone (having new_repository) (SetsHead (codes "r") (codes "refs/heads/x"))
    ≡ (Done [], record (having new_repository) { repositories = insert (having new_repository).repositories (codes "r") (record new_repository { head = codes "refs/heads/x" }) })
unfolding answer set_head_answer least_broken_rule
a_branch_that_is_not_there_is_taken = over new_repository (set_head_in (having new_repository) (codes "r") (codes "refs/heads/x"))

-- refusals in their order: the name, the repository, the branch
a_bad_name_is_told_first : answer anyone (having new_repository) (SetsHead (codes "R") (codes "refs/tags/v")) ≡ (Refused (BadName (codes "R")), having new_repository)
unfolding answer set_head_answer
a_bad_name_is_told_first =
    ap (λ b. cond {A = Reply × View} b (set_head_in (having new_repository) (codes "R") (codes "refs/tags/v") (get (having new_repository).repositories (codes "R"))) (Refused (BadName (codes "R")), having new_repository)) no_capitals

no_repository_is_told_before_a_bad_branch : answer anyone (having new_repository) (SetsHead (codes "s") (codes "refs/tags/v")) ≡ (Refused (NoRepository (codes "s")), having new_repository)
unfolding answer set_head_answer
no_repository_is_told_before_a_bad_branch =
    ap (λ b. cond {A = Reply × View} b (set_head_in (having new_repository) (codes "s") (codes "refs/tags/v") (get (having new_repository).repositories (codes "s"))) (Refused (BadName (codes "s")), having new_repository)) plain_too
    ∙ ap (set_head_in (having new_repository) (codes "s") (codes "refs/tags/v")) (absent new_repository)

-- a fork has the HEAD of its source
a_fork_is_the_whole_repository : (view : View) (repository : Repository) → copied view (codes "r") (codes "s") (Some repository) ≡ repository_added view (codes "s") repository
a_fork_is_the_whole_repository view repository = refl
