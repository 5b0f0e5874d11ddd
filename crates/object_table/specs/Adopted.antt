-- Words that a ledger adopts from another one (own).
use Rattle.std.specs.Prelude.{◌≡◌, ◌&&◌, ℕ, Bool, Some, List, if◌then◌else◌}
use Rattle.std.specs.FinMap.{contains_key, get}
use Rattle.git_name.specs.Maps.{joined}
use Rattle.object_table.specs.declared.word.Standing.{Standing}
use Rattle.object_table.specs.declared.word.Standing.TheVariants.{Visible, Staged, Both}
use Rattle.object_table.specs.declared.word.Word.{Word}
use Rattle.object_table.specs.Chosen.{chosen}
use Rattle.object_table.specs.Ledgers.{AllWords, word_at}
use Rattle.object_table.specs.Words.{Words, is_visible, kept_as, seen_word, with_standing, words_that}

-- the standing of an object that becomes visible
abbrev pub seen_too : Standing → Standing
seen_too Visible = Visible
seen_too Staged = Both
seen_too Both = Both

-- a word, made visible if its name is adopted
abbrev pub seen_if : Bool → Word → Word
seen_if comes word = if comes then with_standing word (seen_too word.standing) else word

-- the words of a ledger's visible objects whose names pass
abbrev pub offered_words : (List ℕ → Bool) → Words → Words
offered_words names words = chosen (λ name word. kept_as (names name && is_visible word) (seen_word word)) words

-- with these words adopted; a word that is already there is made visible and not replaced
abbrev pub adopted_words : Words → Words → Words
adopted_words offered words = joined (chosen (λ name word. Some (seen_if (contains_key offered name) word)) words) offered

-- the words of the visible objects, together with these words
abbrev pub shown_beside : Words → Words → Words
shown_beside offered words = joined (words_that is_visible words) offered

-- two words have the same kind and length
pub record IsAlike (comes word : Word) : Type 0 where
  pub kind : word.kind ≡ comes.kind
  pub length : word.length ≡ comes.length

-- if both have a word of a name, the two are alike
abbrev pub Fits : Words → Words → Type 0
Fits offered words = (name : List ℕ) (comes word : Word) → get offered name ≡ Some comes → get words name ≡ Some word → IsAlike comes word

-- all words of one name are alike, in any two ledgers
abbrev pub AllAlike : AllWords → Type 0
AllAlike ledgers = (one other name : List ℕ) (first next : Word) → word_at ledgers one name ≡ Some first → word_at ledgers other name ≡ Some next → IsAlike first next
