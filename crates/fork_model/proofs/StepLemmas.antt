-- What a tenant's step leaves unchanged.
use Rattle.std.proofs.Common.{◌≡◌, false, refl, sym, ap}
use Rattle.fork_request.specs.Asked.{Ask, Inits, Drops, Forks, Pushes, SendsPart, EndsParts, DropsParts, Updates, SetsHead, MakesOffer, Withdraws, ForksOffer, AsksObject, AsksTree, AsksRevisions, AsksBases, AsksReferences, AsksHead, AsksOffers, AsksRepositories, Fetches, AsksUse, Prunes, NoRequest}
use Rattle.fork_request.specs.Told.{is_done, is_host_fault}
use Rattle.fork_request.specs.declared.reply.Reply.{Reply}
use Rattle.fork_request.specs.declared.reply.Reply.TheVariants.{Done, Unchanged, Refused, Failed}
use Rattle.fork_model.specs.Answer.{answer, left_by, without_upload}
use Rattle.std.specs.Prelude.{Bool, Option}
use Rattle.fork_model.specs.Context.{Context}
use Rattle.fork_model.specs.Offer.{Pair}
use Rattle.fork_model.specs.View.{View}
use Rattle.fork_model.proofs.Refusals.{refusal_keeps}
use Rattle.fork_model.proofs.Rows.{GoesTo, Refuses, Stays, Does, answer_row}

row_tells : {context : Context} {changed : Option Pair} {stays : Bool} (view left : View) (row : Reply × View) → GoesTo context view left changed stays row → is_host_fault row.0 ≡ false
row_tells view left row (Refuses why told kept) = ap is_host_fault told
row_tells view left row (Stays allowed told same) = ap is_host_fault told
row_tells view left row (Does text told made orderly right) = ap is_host_fault told

-- no answer is a host fault
pub answer_tells : (context : Context) (view : View) (ask : Ask) → is_host_fault (answer context view ask).0 ≡ false
answer_tells context view ask = row_tells view (left_by view ask) (answer context view ask) (answer_row context view ask)

-- an answer without data leaves what a refusal leaves
pub undone : (context : Context) (view : View) (ask : Ask) (reply : Reply) → reply ≡ (answer context view ask).0 → is_done reply ≡ false → (answer context view ask).1 ≡ left_by view ask
undone context view ask (Done text) is not_done = absurd (cc)
undone context view ask Unchanged is not_done = absurd (cc)
undone context view ask (Refused refusal) is not_done = refusal_keeps context view ask refusal (sym is)
undone context view ask (Failed fault) is not_done = (let told = answer_tells context view ask in let no : ⊥ = cc (ap is_host_fault is) in absurd no)

-- which differs from the view at most in the upload
pub left_but_upload : (view : View) (ask : Ask) → without_upload (left_by view ask) ≡ without_upload view
left_but_upload view (Inits repository) = refl
left_but_upload view (Drops repository) = refl
left_but_upload view (Forks source copy) = refl
left_but_upload view (Pushes repository body) = refl
left_but_upload view (SendsPart body) = refl
left_but_upload view (EndsParts repository) = refl
left_but_upload view DropsParts = refl
left_but_upload view (Updates repository body) = refl
left_but_upload view (SetsHead repository reference) = refl
left_but_upload view (MakesOffer repository receiver) = refl
left_but_upload view (Withdraws repository receiver) = refl
left_but_upload view (ForksOffer giver repository copy) = refl
left_but_upload view AsksOffers = refl
left_but_upload view (AsksObject name) = refl
left_but_upload view (AsksTree name) = refl
left_but_upload view (AsksRevisions repository items) = refl
left_but_upload view (AsksBases repository first second) = refl
left_but_upload view (Fetches repository items) = refl
left_but_upload view (AsksReferences repository prefix) = refl
left_but_upload view (AsksHead repository) = refl
left_but_upload view AsksUse = refl
left_but_upload view AsksRepositories = refl
left_but_upload view Prunes = refl
left_but_upload view NoRequest = refl
