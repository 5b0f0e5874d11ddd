-- An offer that a tenant has made (own): its receiver, the name of the giver's repository, and that repository as it was then.
use Rattle.std.specs.Prelude.{ℕ, List, ◌++◌, codes, refl}
use Rattle.std.specs.Coded.{Coded, code_by, coded×}
use Rattle.git_name.specs.Text.{bytes_code}
use Rattle.git_reftx.specs.Repository.{Repository, repository_code}

-- to the receiver, of the repository of this name
pub record Offer : Type 0 where
  pub receiver : List ℕ
  pub name : List ℕ
  pub repository : Repository

-- the words that order a tenant's offers: by receiver, then by repository, as SP comes before every byte of a name
abbrev pub offer_words : List ℕ → List ℕ → List ℕ
offer_words receiver name = receiver ++ codes " " ++ name

abbrev pub words_of_offer : Offer → List ℕ
words_of_offer offer = offer_words offer.receiver offer.name

abbrev pub offer_code : Coded Offer
offer_code =
    code_by (List ℕ × (List ℕ × Repository)) (coded× bytes_code (coded× bytes_code repository_code))
    (λ o. (o.receiver, (o.name, o.repository))) (λ p. record { receiver = p.0; name = p.1.0; repository = p.1.1 }) (λ _. refl)
