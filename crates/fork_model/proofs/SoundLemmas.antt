-- Answers keep views in order, and right.
use Rattle.std.proofs.Common.{◌≡◌, sym, subst, refl, ap, ◌∙◌}
use Rattle.fork_request.specs.Asked.{Ask, Inits, Drops, Forks, Pushes, SendsPart, EndsParts, DropsParts, Updates, SetsHead, MakesOffer, Withdraws, ForksOffer, AsksObject, AsksTree, AsksRevisions, AsksBases, AsksReferences, AsksHead, AsksOffers, AsksRepositories, Fetches, AsksUse, Prunes, NoRequest}
use Rattle.fork_request.specs.declared.reply.Reply.{Reply}
use Rattle.fork_model.specs.Answer.{answer, left_by, without_upload}
use Rattle.fork_model.specs.Context.{Context}
use Rattle.fork_model.specs.Offer.{Offers, Pair}
use Rattle.fork_model.specs.Sound.{IsOrderly, IsRight, IsSound, IsSoundBeside, MayTake}
use Rattle.std.specs.Prelude.{Bool, Option, Some, None}
use Rattle.std.specs.FinMap.{get}
use Rattle.fork_model.specs.View.{View}
use Rattle.fork_model.proofs.Rows.{GoesTo, Refuses, Stays, Does, SameBut, answer_row, changed_by, orderly_without, right_without}

-- what holds of a view, and of it without the upload, holds of what a refusal leaves
left_holds : (P : View → Type 0) → ((view : View) → P view → P (without_upload view)) → (view : View) (ask : Ask) → P view → P (left_by view ask)
left_holds P without view (Inits repository) holds = holds
left_holds P without view (Drops repository) holds = holds
left_holds P without view (Forks source copy) holds = holds
left_holds P without view (Pushes repository body) holds = holds
left_holds P without view (SendsPart body) holds = holds
left_holds P without view (EndsParts repository) holds = without view holds
left_holds P without view DropsParts holds = holds
left_holds P without view (Updates repository body) holds = holds
left_holds P without view (SetsHead repository reference) holds = holds
left_holds P without view (MakesOffer repository receiver) holds = holds
left_holds P without view (Withdraws repository receiver) holds = holds
left_holds P without view (ForksOffer giver repository copy) holds = holds
left_holds P without view AsksOffers holds = holds
left_holds P without view (AsksObject name) holds = holds
left_holds P without view (AsksTree name) holds = holds
left_holds P without view (AsksRevisions repository items) holds = holds
left_holds P without view (AsksBases repository first second) holds = holds
left_holds P without view (Fetches repository items) holds = holds
left_holds P without view (AsksReferences repository prefix) holds = holds
left_holds P without view (AsksHead repository) holds = holds
left_holds P without view AsksUse holds = holds
left_holds P without view AsksRepositories holds = holds
left_holds P without view Prunes holds = holds
left_holds P without view NoRequest holds = holds

module _ (context : Context) where
  row_orderly : (view left : View) (changed : Option Pair) {stays : Bool} (row : Reply × View) → GoesTo context view left changed stays row → MayTake context view.objects → IsOrderly view → IsOrderly left → IsOrderly row.1
  row_orderly view left changed row (Refuses why told kept) may was after = subst IsOrderly (sym kept) after
  row_orderly view left changed row (Stays allowed told same) may was after = subst IsOrderly (sym same) was
  row_orderly view left changed row (Does text told made orderly right) may was after = orderly may was

  row_right : (view left : View) (changed : Option Pair) {stays : Bool} (row : Reply × View) → GoesTo context view left changed stays row → IsSoundBeside context view.objects → IsSound view → IsRight left → IsRight row.1
  row_right view left changed row (Refuses why told kept) beside was after = subst IsRight (sym kept) after
  row_right view left changed row (Stays allowed told same) beside was after = subst IsRight (sym same) was.right
  row_right view left changed row (Does text told made orderly right) beside was after = right beside was

  pub orderly_answer : (view : View) (ask : Ask) → MayTake context view.objects → IsOrderly view → IsOrderly (answer context view ask).1
  orderly_answer view ask may was = row_orderly view (left_by view ask) (changed_by ask) (answer context view ask) (answer_row context view ask) may was (left_holds IsOrderly orderly_without view ask was)

  pub right_answer : (view : View) (ask : Ask) → IsSoundBeside context view.objects → IsSound view → IsRight (answer context view ask).1
  right_answer view ask beside was = row_right view (left_by view ask) (changed_by ask) (answer context view ask) (answer_row context view ask) beside was (left_holds IsRight right_without view ask was.right)

  same_but : (changed : Option Pair) (old new : Offers) → new ≡ old → SameBut changed old new
  same_but None old new is = is
  same_but (Some key) old new is = λ other apart. ap (λ (made : Offers). get made other) is

  row_made : (view left : View) (changed : Option Pair) {stays : Bool} (row : Reply × View) → GoesTo context view left changed stays row → left.made ≡ view.made → SameBut changed view.made row.1.made
  row_made view left changed row (Refuses why told kept) after = same_but changed view.made row.1.made (ap (λ (v : View). v.made) kept ∙ after)
  row_made view left changed row (Stays allowed told same) after = same_but changed view.made row.1.made (ap (λ (v : View). v.made) same)
  row_made view left changed row (Does text told made orderly right) after = made

  -- the offers that a tenant has made stay, except for the one that the request changes
  pub made_answer : (view : View) (ask : Ask) → SameBut (changed_by ask) view.made (answer context view ask).1.made
  made_answer view ask = row_made view (left_by view ask) (changed_by ask) (answer context view ask) (answer_row context view ask) (left_holds (λ v. v.made ≡ view.made) (λ v is. is) view ask refl)
