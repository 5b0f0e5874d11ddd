-- The result of a request to fork an offer, by what it meets.
use Rattle.std.proofs.Common.{◌≡◌, ℕ, true, List, Some, None, sym, ◌∙◌}
use Rattle.std.specs.FinMap.{get}
use Rattle.git_reftx.specs.Repository.{Repository}
use Rattle.fork_ledger.specs.Tenants.{VaultState}
use Rattle.fork_request.specs.Asked.{ForksOffer}
use Rattle.fork_request.specs.Names.{is_plain_name}
use Rattle.fork_request.specs.declared.name.TheConstants.{MAX_REPOSITORY_NAME, MAX_TENANT_NAME}
use Rattle.fork_request.specs.declared.refusal.Refusal.TheVariants.{NoOffer}
use Rattle.fork_request.specs.declared.reply.Reply.TheVariants.{Refused}
use Rattle.fork_model.specs.Answer.{fork_offer_answer, offer_taken}
use Rattle.fork_model.specs.Context.{Context}
use Rattle.fork_model.specs.Offer.{offered}
use Rattle.fork_model.specs.View.{View}
use Rattle.fork_host.specs.Meeting.{IsMet, MeetsOffer}
use Rattle.fork_host.specs.Own.{visible_in}
use Rattle.fork_host.specs.declared.meeting.Met.{Met}
use Rattle.fork_host.specs.declared.meeting.Met.TheVariants.{Nothing, Offer as Offered, Rows}
use Rattle.fork_host.proofs.ForkedLemmas.{all_named}

-- what is met if all words are valid names: the offer, or none
pub offer_met : (context : Context) (view : View) (giver word copy : List ℕ) (vault : VaultState) (who taken : List ℕ) (repository : Repository) → is_plain_name MAX_TENANT_NAME giver ≡ true → is_plain_name MAX_REPOSITORY_NAME word ≡ true → is_plain_name MAX_REPOSITORY_NAME copy ≡ true
    → MeetsOffer vault context giver word who repository → taken ≡ copy → fork_offer_answer context view giver word copy ≡ offer_taken view taken (offered (visible_in vault who) repository)
offer_met context view giver word copy vault who taken repository one two three met same =
    all_named context view giver word copy one two three (Some (offered (visible_in vault giver) repository)) met.stands ∙ sym (λ i. offer_taken view (same i) (offered (visible_in vault (met.named i)) repository))

pub nothing_met : (vault : VaultState) (context : Context) (giver word copy : List ℕ) (met : Met) → ((who : List ℕ) (repository : Repository) → met ≡ Offered who repository → ⊥) → IsMet vault context (ForksOffer giver word copy) met → get context.offered (giver, word) ≡ None
nothing_met vault context giver word copy Nothing apart is = is
nothing_met vault context giver word copy (Rows rows) apart is = absurd is
nothing_met vault context giver word copy (Offered who repository) apart is = absurd (apart who repository (λ i. Offered who repository))

pub none_offered : (context : Context) (view : View) (giver word copy who of : List ℕ) → is_plain_name MAX_TENANT_NAME giver ≡ true → is_plain_name MAX_REPOSITORY_NAME word ≡ true → is_plain_name MAX_REPOSITORY_NAME copy ≡ true
    → who ≡ giver → of ≡ word → get context.offered (giver, word) ≡ None → fork_offer_answer context view giver word copy ≡ (Refused (NoOffer who of), view)
none_offered context view giver word copy who of one two three named spelled is = all_named context view giver word copy one two three None is ∙ sym (λ i. (Refused (NoOffer (named i) (spelled i)), view))
