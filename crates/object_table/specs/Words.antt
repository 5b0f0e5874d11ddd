-- What a ledger says about objects, and how staging, publishing, discarding and keeping change it (own).
use Rattle.std.specs.Prelude.{ℕ, Bool, true, false, Option, None, Some, List, refl, if◌then◌else◌}
use Rattle.std.specs.Coded.{Coded, code_by, coded×, coded_ℕ, coded_list}
use Rattle.std.specs.FinMap.{FinMap, get, insert, code}
use Rattle.std.specs.Option.{option_map}
use Rattle.git_name.specs.contracts.kind.Kind as kind
use Rattle.git_name.specs.declared.kind.Kind.{Kind}
use Rattle.git_name.specs.Name.{name_cmp}
use Rattle.object_table.specs.contracts.word.Standing as standing
use Rattle.object_table.specs.declared.word.Standing.{Standing}
use Rattle.object_table.specs.declared.word.Standing.TheVariants.{Visible, Staged, Both}
use Rattle.object_table.specs.declared.word.Word.{Word}
use Rattle.object_table.specs.Chosen.{chosen}

-- words by the names of their objects
abbrev pub Words : Type 0
Words = FinMap name_cmp Word

-- whether the tenant sees an object with this standing
abbrev pub shows : Standing → Bool
shows Visible = true
shows Staged = false
shows Both = true

-- whether the tenant has staged an object with this standing
abbrev pub waits : Standing → Bool
waits Visible = false
waits Staged = true
waits Both = true

abbrev pub is_visible : Word → Bool
is_visible word = shows word.standing

abbrev pub is_staged : Word → Bool
is_staged word = waits word.standing

-- the standing of an object with this word
abbrev pub standing_of : Option Word → Option Standing
standing_of word = option_map (λ word. word.standing) word

-- the word with another standing
abbrev pub with_standing : Word → Standing → Word
with_standing word standing = record { kind = word.kind; length = word.length; standing = standing }

-- the standing of an object that becomes staged
abbrev pub staged_too : Standing → Standing
staged_too Visible = Both
staged_too Staged = Staged
staged_too Both = Both

-- the word of an object that is staged: the one that was there, or else one of the staged kind and length
abbrev pub staged_over : Kind → ℕ → Option Word → Word
staged_over kind length None = record { kind = kind; length = length; standing = Staged }
staged_over kind length (Some word) = with_standing word (staged_too word.standing)

-- a word if it stays, and else none
abbrev pub kept_as : Bool → Word → Option Word
kept_as stays word = if stays then Some word else None

-- the word, only visible
abbrev pub seen_word : Word → Word
seen_word word = with_standing word Visible

-- a word without what is staged
abbrev pub unstaged_word : Word → Option Word
unstaged_word word = kept_as (is_visible word) (seen_word word)

-- the standing of an object that is no longer visible unless it is kept; what is staged stays
abbrev pub kept_standing : Bool → Standing → Option Standing
kept_standing kept Visible = if kept then Some Visible else None
kept_standing kept Staged = Some Staged
kept_standing kept Both = Some (if kept then Both else Staged)

abbrev pub kept_word : Bool → Word → Option Word
kept_word kept word = option_map (with_standing word) (kept_standing kept word.standing)

-- the words that pass
abbrev pub words_that : (Word → Bool) → Words → Words
words_that p words = chosen (λ _ word. kept_as (p word) word) words

-- with an object of this name staged
abbrev pub staged_words : List ℕ → Kind → ℕ → Words → Words
staged_words name kind length words = insert words name (staged_over kind length (get words name))

-- with everything staged made visible
abbrev pub published_words : Words → Words
published_words words = chosen (λ _ word. Some (seen_word word)) words

-- without what is staged
abbrev pub discarded_words : Words → Words
discarded_words words = chosen (λ _ word. unstaged_word word) words

-- without the visible objects whose names do not pass; what is staged stays
abbrev pub kept_words : (List ℕ → Bool) → Words → Words
kept_words keep words = chosen (λ name word. kept_word (keep name) word) words

-- words have a code, so that they can be a model's value
abbrev pub word_code : Coded Word
word_code =
    code_by (Kind × (ℕ × Standing)) (coded× kind.the_row.coded (coded× coded_ℕ standing.the_row.coded))
    (λ word. (word.kind, (word.length, word.standing))) (λ p. record { kind = p.0; length = p.1.0; standing = p.1.1 }) (λ _. refl)

abbrev pub words_code : Coded Words
words_code = code (coded_list coded_ℕ) word_code
