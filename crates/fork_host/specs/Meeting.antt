-- The offers of others that a request depends on, as the host passes them on.
use Rattle.std.specs.Prelude.{◌≡◌, ℕ, List, None, Some, codes, ⊤}
use Rattle.std.specs.FinMap.{get}
use Rattle.git_reftx.specs.Repository.{IsBranch, Repository}
use Rattle.fork_ledger.specs.Tenants.{VaultState}
use Rattle.fork_request.specs.Asked.{Ask, AsksOffers, ForksOffer}
use Rattle.fork_model.specs.Answer.{offer_rows}
use Rattle.fork_model.specs.Context.{Context}
use Rattle.fork_model.specs.Offer.{offered}
use Rattle.fork_model.specs.Sound.{AreReferences}
use Rattle.fork_host.specs.declared.meeting.Met.{Met}
use Rattle.fork_host.specs.declared.meeting.Met.TheVariants.{Nothing, Rows, Offer}
use Rattle.fork_host.specs.Own.{visible_in}

-- this giver offers a repository as it is kept, with what its references reach among what the giver sees; they are valid over that
pub record MeetsOffer (vault : VaultState) (context : Context) (giver word who : List ℕ) (repository : Repository) : Type 0 where
  pub named : who ≡ giver
  pub stands : get context.offered (giver, word) ≡ Some (offered (visible_in vault giver) repository)
  pub head : IsBranch repository.head
  pub references : AreReferences (visible_in vault giver) repository.references

-- what is passed on is what the request depends on in this context
abbrev pub IsMet : VaultState → Context → Ask → Met → Type 0
IsMet vault context AsksOffers (Rows rows) = rows.items ≡ offer_rows (codes "from ") context.offered
IsMet vault context AsksOffers Nothing = ⊥
IsMet vault context AsksOffers (Offer who repository) = ⊥
IsMet vault context (ForksOffer giver word copy) Nothing = get context.offered (giver, word) ≡ None
IsMet vault context (ForksOffer giver word copy) (Offer who repository) = MeetsOffer vault context giver word who repository
IsMet vault context (ForksOffer giver word copy) (Rows rows) = ⊥
IsMet vault context ask met = ⊤
