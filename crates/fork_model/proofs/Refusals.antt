-- What a refused request leaves, and one that is answered `Unchanged`.
use Rattle.std.proofs.Common.{◌≡◌, sym, ◌∙◌}
use Rattle.fork_request.specs.Asked.{Ask}
use Rattle.fork_request.specs.declared.refusal.Refusal.{Refusal}
use Rattle.fork_request.specs.declared.reply.Reply.{Reply}
use Rattle.fork_request.specs.declared.reply.Reply.TheVariants.{Unchanged, Refused}
use Rattle.fork_model.specs.Answer.{answer, left_by}
use Rattle.std.specs.Prelude.{Bool, Option}
use Rattle.fork_model.specs.Context.{Context}
use Rattle.fork_model.specs.Offer.{Pair}
use Rattle.fork_model.specs.View.{View}
use Rattle.fork_model.proofs.Rows.{GoesTo, Refuses, Stays, Does, answer_row}

row_keeps : {context : Context} {changed : Option Pair} {stays : Bool} (view left : View) (row : Reply × View) (refusal : Refusal) → GoesTo context view left changed stays row → row.0 ≡ Refused refusal → row.1 ≡ left
row_keeps view left row refusal (Refuses why told kept) is = kept
row_keeps view left row refusal (Stays allowed told same) is = (let no : ⊥ = cc (sym told ∙ is) in absurd no)
row_keeps view left row refusal (Does text told made orderly right) is = (let no : ⊥ = cc (sym told ∙ is) in absurd no)

row_stays : {context : Context} {changed : Option Pair} {stays : Bool} (view left : View) (row : Reply × View) → GoesTo context view left changed stays row → row.0 ≡ Unchanged → row.1 ≡ view
row_stays view left row (Refuses why told kept) is = (let no : ⊥ = cc (sym told ∙ is) in absurd no)
row_stays view left row (Stays allowed told same) is = same
row_stays view left row (Does text told made orderly right) is = (let no : ⊥ = cc (sym told ∙ is) in absurd no)

pub refusal_keeps : (context : Context) (view : View) (ask : Ask) (refusal : Refusal) → (answer context view ask).0 ≡ Refused refusal → (answer context view ask).1 ≡ left_by view ask
refusal_keeps context view ask refusal is = row_keeps view (left_by view ask) (answer context view ask) refusal (answer_row context view ask) is

pub unchanged_stays : (context : Context) (view : View) (ask : Ask) → (answer context view ask).0 ≡ Unchanged → (answer context view ask).1 ≡ view
unchanged_stays context view ask is = row_stays view (left_by view ask) (answer context view ask) (answer_row context view ask) is
