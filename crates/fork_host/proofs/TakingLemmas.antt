-- The result of a push that was judged.
use Rattle.std.proofs.Common.{◌≡◌, ℕ, true, false, inl, List, [], Option, Some, None, Result, Ok, Err, refl, sym, ap, subst, ◌∙◌, is_some, map}
use Rattle.std.specs.Option.{option_or}
use Rattle.std.specs.FinMap.{get, insert}
use Rattle.git_name.specs.Object.{Object, object_name}
use Rattle.git_name.proofs.MapLemmas.{get_joined}
use Rattle.git_name.proofs.Names.{name_total}
use Rattle.git_reftx.specs.declared.command.Command.{Command}
use Rattle.git_reftx.specs.Repository.{Repository}
use Rattle.git_reftx.specs.Transaction.{References}
use Rattle.fork_reach.specs.Objects.{measures_of, with_objects}
use Rattle.fork_reach.specs.Source.{Objects}
use Rattle.fork_ledger.specs.Tenants.{VaultState, private_of, shape_of}
use Rattle.fork_ledger.proofs.BothLemmas.{same_both, same_measures}
use Rattle.fork_request.specs.declared.host_fault.HostFault.{HostFault}
use Rattle.fork_request.specs.Told.{is_done, is_host_fault}
use Rattle.fork_request.specs.declared.reply.Reply.{Reply}
use Rattle.fork_request.specs.declared.reply.Reply.TheVariants.{Refused, Failed}
use Rattle.fork_push.specs.declared.refusal.PushRefusal.{PushRefusal}
use Rattle.fork_push.specs.Push.{judged}
use Rattle.fork_push.specs.Verdict as verdict
use Rattle.fork_model.specs.Answer.{Finished, push_refusal, pushed, taken}
use Rattle.fork_model.specs.View.{View, Repositories}
use Rattle.fork_host.specs.Own.{KeepsStaged, both_in, staged_in, visible_in}
use Rattle.fork_host.specs.Pushed.{IsTaken, view_of}
use Rattle.fork_host.specs.Rows.{plain, Yields, Yielded, Faulted}
use Rattle.fork_host.specs.Safe.{IsSafe}
use Rattle.fork_host.proofs.BoundLemmas.{IsQuiet}
use Rattle.fork_host.proofs.SafeLemmas.{safe_taken}

pub same_view : (old new : Repositories) (seen objects : Objects) (rest : View) (limit : ℕ) → new ≡ old → objects ≡ seen → view_of rest new objects limit ≡ view_of rest old seen limit
same_view old new seen objects rest limit repositories is = λ i. view_of rest (repositories i) (is i) limit

-- a row over what is seen, for equal repositories and objects
pub yields_from : (repositories now : Repositories) (seen other objects others : Objects) (rest : View) (limit : ℕ) (name : List ℕ) (was : Repository) (held : Finished) (reply : Reply) → seen ≡ other → objects ≡ others
    → Yields (pushed (view_of rest repositories seen limit) name was held) (view_of rest repositories seen limit) reply (view_of rest now objects limit)
    → Yields (pushed (view_of rest repositories other limit) name was held) (view_of rest repositories other limit) reply (view_of rest now others limit)
yields_from repositories now seen other objects others rest limit name was held reply is same yields =
    subst (λ o. Yields (pushed (view_of rest repositories o limit) name was held) (view_of rest repositories o limit) reply (view_of rest now others limit)) is
    (subst (λ o. Yields (pushed (view_of rest repositories seen limit) name was held) (view_of rest repositories seen limit) reply (view_of rest now o limit)) same yields)

-- judging what is seen and staged, by names, is judging the sent objects
pub judged_by : (seen both : Objects) (sent : List Object) (names : List (List ℕ)) (references : References) (limit : ℕ) (commands : List Command) → names ≡ map object_name sent → both ≡ with_objects seen sent
    → judged (with_objects seen sent) references limit (Ok (commands, map object_name sent)) ≡ judged both references limit (Ok (commands, names))
judged_by seen both sent names references limit commands named beside =
    ap (λ objects. judged objects references limit (Ok (commands, map object_name sent))) (sym beside) ∙ ap (λ ns. judged both references limit (Ok (commands, ns))) (sym named)

-- it is accepted, and taken
pub gives_taken : (before after : VaultState) (own : List ℕ) (old new : Repositories) (seen both : Objects) (rest : View) (limit : ℕ) (name : List ℕ) (was : Repository) (references : References) (judged : Result References PushRefusal) (reply : Reply)
    → both_in before own ≡ both → judged ≡ Ok references → IsTaken own (insert old name (record was { references = references })) before reply new after
    → Yields (taken (view_of rest old seen limit) name was both judged) (view_of rest old seen limit) reply (view_of rest new (visible_in after own) limit)
gives_taken before after own old new seen both rest limit name was references judged reply beside is done =
    let row = ap (taken (view_of rest old seen limit) name was both) is in
    Yielded (done.told ∙ sym (ap (λ r. r.0) row))
    (ap plain (same_view (insert old name (record was { references = references })) new both (visible_in after own) rest limit done.set (done.seen ∙ beside) ∙ sym (ap (λ r. r.1) row)))

-- it is refused
pub gives_refused : (old : Repositories) (seen both objects : Objects) (rest : View) (limit : ℕ) (name : List ℕ) (was : Repository) (refusal : PushRefusal) (judged : Result References PushRefusal) (reply : Reply)
    → judged ≡ Err refusal → reply ≡ Refused (push_refusal refusal) → objects ≡ seen
    → Yields (taken (view_of rest old seen limit) name was both judged) (view_of rest old seen limit) reply (view_of rest old objects limit)
gives_refused old seen both objects rest limit name was refusal judged reply is told sees =
    let row = ap (taken (view_of rest old seen limit) name was both) is in
    Yielded (told ∙ sym (ap (λ r. r.0) row)) (ap plain (same_view old old seen objects rest limit refl sees ∙ sym (ap (λ r. r.1) row)))

-- a host fault leaves the view
pub gives_nothing : (row : Reply × View) (old : Repositories) (seen objects : Objects) (rest : View) (limit : ℕ) (fault : HostFault) (reply : Reply)
    → reply ≡ Failed fault → objects ≡ seen → Yields row (view_of rest old seen limit) reply (view_of rest old objects limit)
gives_nothing row old seen objects rest limit fault reply told sees = Faulted fault told (ap plain (same_view old old seen objects rest limit refl sees))

-- what is seen stays when what is staged is added to it
first_counts : (there other : Option Object) → is_some there ≡ true → option_or there other ≡ there
first_counts None other is = absurd (cc)
first_counts (Some object) other is = refl

-- over any store
pub taken_safe : (Within : Reply → Type 0) (first before after : VaultState) (own : List ℕ) (old new : Repositories) (rest : View) (limit : ℕ) (name : List ℕ) (was : Repository) (references : References) (reply : Reply)
    → Within reply → get old name ≡ Some was → shape_of before.tenants ≡ shape_of first.tenants → verdict.IsAcceptable (both_in first own) was.references limit references
    → IsTaken own (insert old name (record was { references = references })) before reply new after
    → IsSafe Within (view_of rest old (visible_in first own) limit) reply (view_of rest new (visible_in after own) limit)
taken_safe Within first before after own old new rest limit name was references reply within here shape accepted done =
    safe_taken Within old new (visible_in first own) (both_in first own) (visible_in after own) rest limit name was references reply []
    (λ q there. get_joined name_total (visible_in first own) (staged_in first own) q ∙ first_counts (get (visible_in first own) q) (get (staged_in first own) q) there) within done.told here done.set
    (ap measures_of done.seen ∙ same_both (private_of before.tenants own) (private_of first.tenants own) (same_measures first.tenants before.tenants own shape)) accepted

-- the answer is no host fault
pub quiet_taken : (before after : VaultState) (own : List ℕ) (set new : Repositories) (reply : Reply) → IsTaken own set before reply new after → IsQuiet reply
quiet_taken before after own set new reply done = inl (ap is_host_fault done.told)

-- and is always `ok`
pub staged_taken : (before after : VaultState) (own : List ℕ) (set new : Repositories) (reply : Reply) → is_done reply ≡ false → IsTaken own set before reply new after → KeepsStaged own before after
staged_taken before after own set new reply not_done done = (let differs : ⊥ = cc (sym not_done ∙ ap is_done done.told) in absurd differs)
