-- The effect of answers on the offers that a tenant has made.
use Rattle.std.proofs.Common.{◌≡◌, ◌≢◌, ◌&&◌, not, ℕ, Bool, true, false, cond, List, [], Option, Some, None, refl, sym, ap, ◌∙◌}
use Rattle.std.specs.Prelude.{nat_le}
use Rattle.std.specs.FinMap.{contains_key, get, len, remove}
use Rattle.std.proofs.lemmas.Bool.{and_parts}
use Rattle.git_name.specs.Same.{same_name}
use Rattle.git_reftx.specs.Repository.{Repository}
use Rattle.fork_request.specs.Asked.{Ask, Inits, Drops, Forks, Pushes, SendsPart, EndsParts, DropsParts, Updates, SetsHead, MakesOffer, Withdraws, ForksOffer, AsksObject, AsksTree, AsksRevisions, AsksBases, AsksReferences, AsksHead, AsksOffers, AsksRepositories, Fetches, AsksUse, Prunes, NoRequest}
use Rattle.fork_request.specs.Names.{is_plain_name}
use Rattle.fork_request.specs.declared.refusal.Refusal.TheVariants.{BadName, NoOffer, OfferExists, TooMany}
use Rattle.fork_request.specs.declared.reply.Reply.{Reply}
use Rattle.fork_request.specs.declared.reply.Reply.TheVariants.{Done, Refused}
use Rattle.fork_model.specs.Answer.{answer, offer_answer, offer_in, withdraw_answer, withdrawn}
use Rattle.fork_model.specs.Context.{Context}
use Rattle.fork_model.specs.Offer.{Offer, Offers, Pair, offered}
use Rattle.fork_model.specs.Sound.{AreToOthers}
use Rattle.fork_model.specs.View.{View}
use Rattle.fork_model.proofs.OfferLemmas.{left_before, offer_inserted}
use Rattle.fork_model.proofs.OfferedLemmas.{same_itself}
use Rattle.fork_model.proofs.SoundLemmas.{made_answer}

by_test : (P : Reply × View → Type 0) (b : Bool) (x y : Reply × View) → (b ≡ true → P x) → P y → P (cond b x y)
by_test P true x y left right = left refl
by_test P false x y left right = right

another : (receiver own : List ℕ) → not (same_name receiver own) ≡ true → receiver ≢ own
another receiver own apart is = (let same = ap (same_name receiver) is in let itself = same_itself receiver in let no : ⊥ = cc in no)

-- this holds of each offer that was made
abbrev pub EachMade : (Pair → Offer → Type 0) → Offers → Type 0
EachMade P made = (key : Pair) (offer : Offer) → get made key ≡ Some offer → P key offer

module _ (P : Pair → Offer → Type 0) (context : Context) (view : View) (new : (word receiver : List ℕ) (repository : Repository) → get view.repositories word ≡ Some repository → receiver ≢ context.own → P (receiver, word) (offered view.objects repository)) (was : EachMade P view.made) where
  abbrev Holds : Reply × View → Type 0
  Holds row = EachMade P row.1.made

  in_row : (word receiver : List ℕ) (o : Option Repository) → get view.repositories word ≡ o → receiver ≢ context.own → Holds (offer_in view word receiver o)
  in_row word receiver None there apart = was
  in_row word receiver (Some repository) there apart =
      by_test Holds (contains_key view.made (receiver, word)) (Refused (OfferExists receiver word), view) _ (λ _. was)
      (by_test Holds (nat_le 256 (len view.made)) (Refused TooMany, view) _ (λ _. was)
      (offer_inserted P view.made (receiver, word) (offered view.objects repository) (new word receiver repository there apart) was))

  withdrawn_row : (key : Pair) → Holds (withdrawn view key)
  withdrawn_row key = by_test Holds (contains_key view.made key) (Done [], record view { made = remove view.made key }) (Refused (NoOffer key.0 key.1), view) (λ _ other offer is. was other offer (left_before view.made key other offer is)) was

  stays : (ask : Ask) → (answer context view ask).1.made ≡ view.made → Holds (answer context view ask)
  stays ask same key offer is = was key offer (ap (λ (made : Offers). get made key) (sym same) ∙ is)

  pub each_made_answer : (ask : Ask) → EachMade P (answer context view ask).1.made
  unfolding answer offer_answer withdraw_answer
  each_made_answer (MakesOffer word receiver) =
      by_test Holds (is_plain_name 64 word) _ (Refused (BadName word), view)
      (λ _. by_test Holds (is_plain_name 32 receiver && not (same_name receiver context.own)) _ (Refused (BadName receiver), view)
      (λ is. in_row word receiver (get view.repositories word) refl (another receiver context.own (and_parts (is_plain_name 32 receiver) (not (same_name receiver context.own)) is).1)) was) was
  each_made_answer (Withdraws word receiver) =
      by_test Holds (is_plain_name 64 word) _ (Refused (BadName word), view)
      (λ _. by_test Holds (is_plain_name 32 receiver && not (same_name receiver context.own)) _ (Refused (BadName receiver), view) (λ _. withdrawn_row (receiver, word)) was) was
  each_made_answer (Inits repository) = stays (Inits repository) (made_answer context view (Inits repository))
  each_made_answer (Drops repository) = stays (Drops repository) (made_answer context view (Drops repository))
  each_made_answer (Forks source copy) = stays (Forks source copy) (made_answer context view (Forks source copy))
  each_made_answer (Pushes repository body) = stays (Pushes repository body) (made_answer context view (Pushes repository body))
  each_made_answer (SendsPart body) = stays (SendsPart body) (made_answer context view (SendsPart body))
  each_made_answer (EndsParts repository) = stays (EndsParts repository) (made_answer context view (EndsParts repository))
  each_made_answer DropsParts = stays DropsParts (made_answer context view DropsParts)
  each_made_answer (Updates repository body) = stays (Updates repository body) (made_answer context view (Updates repository body))
  each_made_answer (SetsHead repository reference) = stays (SetsHead repository reference) (made_answer context view (SetsHead repository reference))
  each_made_answer (ForksOffer giver repository copy) = stays (ForksOffer giver repository copy) (made_answer context view (ForksOffer giver repository copy))
  each_made_answer (AsksObject name) = stays (AsksObject name) (made_answer context view (AsksObject name))
  each_made_answer (AsksTree name) = stays (AsksTree name) (made_answer context view (AsksTree name))
  each_made_answer (AsksRevisions repository items) = stays (AsksRevisions repository items) (made_answer context view (AsksRevisions repository items))
  each_made_answer (AsksBases repository first second) = stays (AsksBases repository first second) (made_answer context view (AsksBases repository first second))
  each_made_answer (AsksReferences repository prefix) = stays (AsksReferences repository prefix) (made_answer context view (AsksReferences repository prefix))
  each_made_answer (AsksHead repository) = stays (AsksHead repository) (made_answer context view (AsksHead repository))
  each_made_answer AsksOffers = stays AsksOffers (made_answer context view AsksOffers)
  each_made_answer (Fetches repository items) = stays (Fetches repository items) (made_answer context view (Fetches repository items))
  each_made_answer AsksUse = stays AsksUse (made_answer context view AsksUse)
  each_made_answer AsksRepositories = stays AsksRepositories (made_answer context view AsksRepositories)
  each_made_answer Prunes = stays Prunes (made_answer context view Prunes)
  each_made_answer NoRequest = stays NoRequest (made_answer context view NoRequest)

-- none is to the tenant itself
pub to_others_answer : (context : Context) (view : View) → AreToOthers context.own view → (ask : Ask) → AreToOthers context.own (answer context view ask).1
to_others_answer context view was ask = each_made_answer (λ key offer. key.0 ≢ context.own) context view (λ word receiver repository there apart. apart) was ask
