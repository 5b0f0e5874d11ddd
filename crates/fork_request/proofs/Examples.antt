-- Example lines, as the definitions compute them.
use Rattle.std.proofs.Common.{◌≡◌, ◌++◌, ℕ, List, [], ◌∷◌, codes, refl}
use Rattle.hex.specs.Hex.{encode_lower}
use Rattle.git_name.specs.Text.{words_of}
use Rattle.fork_request.specs.Asked.{AsksBases, AsksHead, AsksOffers, AsksRepositories, AsksRevisions, Fetches, ForksOffer, NoRequest, MakesOffer, SetsHead, Withdraws, asked_words, host_words}
use Rattle.fork_request.specs.declared.host_request.HostRequest.TheVariants.{Bad, Collect, Fsck, Tenants}
use Rattle.fork_request.specs.declared.harm.Harm.TheVariants.{Lost, Damaged}
use Rattle.fork_request.specs.declared.refusal.Refusal.TheVariants.{NoOffer, OfferExists}
use Rattle.fork_request.specs.Harms.{harm_line}
use Rattle.fork_request.specs.Told.{refusal_text}

pub items_are_asked : asked_words (words_of (codes "rev-list r a ^b")) [] ≡ AsksRevisions (codes "r") (codes "a" ∷ codes "^b" ∷ [])
items_are_asked = refl

pub two_carets_are_an_item : asked_words (words_of (codes "fetch r ^^")) [] ≡ Fetches (codes "r") (codes "^^" ∷ [])
two_carets_are_an_item = refl

pub a_caret_alone_is_bad : asked_words (words_of (codes "rev-list r a ^")) [] ≡ NoRequest
a_caret_alone_is_bad = refl

pub an_item_is_wanted : asked_words (words_of (codes "fetch r")) [] ≡ NoRequest
an_item_is_wanted = refl

pub a_caret_is_part_of_an_item : asked_words (words_of (codes "merge-base r ^ ^a")) [] ≡ AsksBases (codes "r") (codes "^") (codes "^a")
a_caret_is_part_of_an_item = refl

pub three_items_are_bad : asked_words (words_of (codes "merge-base r a b c")) [] ≡ NoRequest
three_items_are_bad = refl

pub a_body_is_bad : asked_words (words_of (codes "fetch r a")) (codes "x") ≡ NoRequest
a_body_is_bad = refl

pub a_head_is_asked : asked_words (words_of (codes "head r")) [] ≡ AsksHead (codes "r")
a_head_is_asked = refl

pub a_second_word_behind_head_is_bad : asked_words (words_of (codes "head r HEAD")) [] ≡ NoRequest
a_second_word_behind_head_is_bad = refl

pub a_head_is_set : asked_words (words_of (codes "set-head r refs/tags/v")) [] ≡ SetsHead (codes "r") (codes "refs/tags/v")
a_head_is_set = refl

pub a_branch_is_wanted : asked_words (words_of (codes "set-head r")) [] ≡ NoRequest
a_branch_is_wanted = refl

pub a_body_behind_set_head_is_bad : asked_words (words_of (codes "set-head r refs/heads/x")) (codes "\n") ≡ NoRequest
a_body_behind_set_head_is_bad = refl

pub an_offer_is_made : asked_words (words_of (codes "offer r bob")) [] ≡ MakesOffer (codes "r") (codes "bob")
an_offer_is_made = refl

pub a_receiver_is_wanted : asked_words (words_of (codes "offer r")) [] ≡ NoRequest
a_receiver_is_wanted = refl

pub an_offer_is_withdrawn : asked_words (words_of (codes "withdraw r bob")) [] ≡ Withdraws (codes "r") (codes "bob")
an_offer_is_withdrawn = refl

pub a_third_word_behind_withdraw_is_bad : asked_words (words_of (codes "withdraw r bob s")) [] ≡ NoRequest
a_third_word_behind_withdraw_is_bad = refl

pub an_offer_is_forked : asked_words (words_of (codes "fork-offer alice r s")) [] ≡ ForksOffer (codes "alice") (codes "r") (codes "s")
an_offer_is_forked = refl

pub a_copy_is_wanted : asked_words (words_of (codes "fork-offer alice r")) [] ≡ NoRequest
a_copy_is_wanted = refl

pub offers_are_asked : asked_words (words_of (codes "offers")) [] ≡ AsksOffers
offers_are_asked = refl

pub a_word_behind_offers_is_bad : asked_words (words_of (codes "offers r")) [] ≡ NoRequest
a_word_behind_offers_is_bad = refl

pub a_body_behind_offers_is_bad : asked_words (words_of (codes "offers")) (codes "\n") ≡ NoRequest
a_body_behind_offers_is_bad = refl

pub repositories_are_asked : asked_words (words_of (codes "repos")) [] ≡ AsksRepositories
repositories_are_asked = refl

pub a_word_behind_repos_is_bad : asked_words (words_of (codes "repos r")) [] ≡ NoRequest
a_word_behind_repos_is_bad = refl

pub an_offer_that_is_there_is_told_so : refusal_text (OfferExists (codes "bob") (codes "r")) ≡ codes "offer-exists bob/r"
an_offer_that_is_there_is_told_so = refl

pub an_offer_that_is_not_there_is_told_so : refusal_text (NoOffer (codes "alice") (codes "r")) ≡ codes "no-offer alice/r"
an_offer_that_is_not_there_is_told_so = refl

pub a_collection_is_asked : host_words (words_of (codes "collect")) [] ≡ Collect
a_collection_is_asked = refl

pub a_word_behind_collect_is_bad : host_words (words_of (codes "collect x")) [] ≡ Bad
a_word_behind_collect_is_bad = refl

pub a_number_is_wanted : host_words (words_of (codes "sweep")) [] ≡ Bad
a_number_is_wanted = refl

pub a_check_is_asked : host_words (words_of (codes "fsck")) [] ≡ Fsck
a_check_is_asked = refl

pub a_word_behind_fsck_is_bad : host_words (words_of (codes "fsck x")) [] ≡ Bad
a_word_behind_fsck_is_bad = refl

pub tenants_are_asked : host_words (words_of (codes "tenants")) [] ≡ Tenants
tenants_are_asked = refl

pub a_body_behind_tenants_is_bad : host_words (words_of (codes "tenants")) (codes "\n") ≡ Bad
a_body_behind_tenants_is_bad = refl

pub what_is_lost_is_told_so : (name : List ℕ) → harm_line (name, Lost) ≡ codes "lost " ++ encode_lower name ++ codes "\n"
what_is_lost_is_told_so name = refl

pub what_is_damaged_is_told_so : (name : List ℕ) → harm_line (name, Damaged) ≡ codes "damaged " ++ encode_lower name ++ codes "\n"
what_is_damaged_is_told_so name = refl
