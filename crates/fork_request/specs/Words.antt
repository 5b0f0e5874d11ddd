-- The words after a verb (own): none of them may be empty, and no item is `^` alone.
use Rattle.std.specs.Prelude.{ℕ, Bool, false, not, List, [], ◌∷◌, Option, None, Some, option_map, codes, if◌then◌else◌}
use Rattle.std.specs.List.{list_all}
use Rattle.std.specs.Str.{bytes_eq}

-- a word, if it is not empty
abbrev pub some_word : List ℕ → Option (List ℕ)
some_word [] = None
some_word (b ∷ bs) = Some (b ∷ bs)

-- the only word
abbrev pub sole : List (List ℕ) → Option (List ℕ)
sole [] = None
sole (word ∷ []) = some_word word
sole (word ∷ other ∷ words) = None

abbrev pub both_words : Option (List ℕ) → Option (List ℕ) → Option (List ℕ × List ℕ)
both_words (Some first) (Some second) = Some (first, second)
both_words (Some first) None = None
both_words None second = None

-- the only two words
abbrev pub pair : List (List ℕ) → Option (List ℕ × List ℕ)
pair [] = None
pair (word ∷ words) = both_words (some_word word) (sole words)

abbrev pub all_words : Option (List ℕ) → Option (List ℕ × List ℕ) → Option (List ℕ × List ℕ × List ℕ)
all_words (Some first) (Some p) = Some (first, p.0, p.1)
all_words (Some first) None = None
all_words None p = None

-- the only three words
abbrev pub three : List (List ℕ) → Option (List ℕ × List ℕ × List ℕ)
three [] = None
three (word ∷ words) = all_words (some_word word) (pair words)

abbrev pub and_word : Option (List ℕ × List ℕ) → Option (List ℕ × Option (List ℕ))
and_word None = None
and_word (Some p) = Some (p.0, Some p.1)

-- the only word, or the only two
abbrev pub one_or_two : List (List ℕ) → Option (List ℕ × Option (List ℕ))
one_or_two [] = None
one_or_two (word ∷ []) = option_map (λ first. (first, None)) (some_word word)
one_or_two (word ∷ other ∷ words) = and_word (pair (word ∷ other ∷ words))

-- an item: not empty, and not `^` alone
abbrev pub is_item : List ℕ → Bool
is_item [] = false
is_item (b ∷ bs) = not (bytes_eq (b ∷ bs) (codes "^"))

-- the words, if there is one and each is an item
abbrev pub items_in : List (List ℕ) → Option (List (List ℕ))
items_in [] = None
items_in (item ∷ items) = if list_all is_item (item ∷ items) then Some (item ∷ items) else None

abbrev pub and_items : Option (List ℕ) → Option (List (List ℕ)) → Option (List ℕ × List (List ℕ))
and_items (Some word) (Some items) = Some (word, items)
and_items (Some word) None = None
and_items None items = None

-- the first word, and the items after it
abbrev pub word_and_items : List (List ℕ) → Option (List ℕ × List (List ℕ))
word_and_items [] = None
word_and_items (word ∷ words) = and_items (some_word word) (items_in words)
