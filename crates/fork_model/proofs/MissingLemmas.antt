-- An object that a tenant does not hold is reported as missing.
use Rattle.std.proofs.Common.{◌≡◌, ℕ, false, List, None, Some, sym, ap, ◌∙◌}
use Rattle.std.specs.FinMap.{get}
use Rattle.fork_query.specs.Objects.{object_told, record_found}
use Rattle.fork_request.specs.Asked.{AsksObject}
use Rattle.fork_request.specs.Told.{is_host_fault}
use Rattle.fork_request.specs.declared.refusal.Refusal.TheVariants.{Missing}
use Rattle.fork_request.specs.declared.reply.Reply.{Reply}
use Rattle.fork_request.specs.declared.reply.Reply.TheVariants.{Refused}
use Rattle.fork_model.specs.Answer.{answer, cat_file_answer, reply_of}
use Rattle.fork_model.specs.Context.{Context, met_by}
use Rattle.fork_model.specs.Runs.{Asks, Answered, Unknown, Faulted}
use Rattle.fork_model.specs.View.{View}
use Rattle.fork_model.specs.World.{World, Steps}

pub unheld_answer : (context : Context) (view : View) (name : List ℕ) → get view.objects name ≡ None → answer context view (AsksObject name) ≡ (Refused (Missing name), view)
unfolding answer cat_file_answer object_told
unheld_answer context view name none = ap (λ found. (reply_of (record_found name found), view)) none

some_same : (a b : View) → Some a ≡ Some b → a ≡ b
some_same a b is = cc

pub unheld_step : (old new : World) (t : List ℕ) (view : View) (name : List ℕ) (reply : Reply) → get old t ≡ Some view → get view.objects name ≡ None → Steps old (Asks t (AsksObject name)) reply new → is_host_fault reply ≡ false → reply ≡ Refused (Missing name)
unheld_step old new t view name reply here none (Answered other there told set) fine =
    told ∙ ap (λ v. (answer (met_by old t) v (AsksObject name)).0) (some_same other view (sym there ∙ here)) ∙ ap (λ row. row.0) (unheld_answer (met_by old t) view name none)
unheld_step old new t view name reply here none (Unknown absent told stays) fine = (let differs : ⊥ = cc (sym absent ∙ here) in absurd differs)
unheld_step old new t view name reply here none (Faulted bad stays) fine = (let differs : ⊥ = cc (sym fine ∙ bad) in absurd differs)
