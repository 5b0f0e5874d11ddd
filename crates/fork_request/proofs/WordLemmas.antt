-- The words of a line that has more than one.
use Rattle.std.proofs.Common.{◌≡◌, ℕ, List, ◌∷◌, None, sym, ap, ◌∙◌}
use Rattle.git_name.specs.Text.{words_of}
use Rattle.git_name.proofs.TextLemmas.{first_of_words}
use Rattle.fork_request.specs.Asked.{asked_verb, asked_words, host_verb, host_words}
use Rattle.fork_request.specs.Words.{sole}

-- a line of two words or more has no only word
pub sole_many : (word rest : List ℕ) → sole (word ∷ words_of rest) ≡ None
sole_many word rest = (let more = first_of_words rest in ap (λ words. sole (word ∷ words)) more.2)

-- in such a line words follow the verb
pub verb_many : (verb rest body : List ℕ) → asked_words (verb ∷ words_of rest) body ≡ asked_verb verb (words_of rest) body
verb_many verb rest body = (let more = first_of_words rest in ap (λ words. asked_words (verb ∷ words) body) more.2 ∙ sym (ap (λ words. asked_verb verb words body) more.2))

-- and so in a request to the host itself
pub host_many : (verb rest body : List ℕ) → host_words (verb ∷ words_of rest) body ≡ host_verb verb (words_of rest) body
host_many verb rest body = (let more = first_of_words rest in ap (λ words. host_words (verb ∷ words) body) more.2 ∙ sym (ap (λ words. host_verb verb words body) more.2))
