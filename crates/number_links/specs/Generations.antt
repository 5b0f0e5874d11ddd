-- Generation numbers (topological levels, as in gitformat-commit-graph(5)): a commit's is greater than those of its
-- parents. Here 2 is the least, and 1 marks what a commit with a generation links to, such as its tree.
use Rattle.std.specs.Prelude.{◌≡◌, ◌⊎◌, ◌<◌, ◌*◌, ◌/◌, ◌%◌, ℕ, true, List, [], Contains, get_or, is_some, length, map}
use Rattle.std.specs.List.{range_with_len}
use Rattle.number_links.specs.Facts.{Facts, goes_on}
use Rattle.number_links.specs.Known.{known, linked}
use Rattle.number_links.specs.declared.along.Along.TheVariants.{Parents}

-- the words of pages of 4,096 numbers, in one list; 0 where a page has no word
unfoldable pub words_of : List (List ℕ) → List ℕ
words_of pages = map (λ n. get_or (get_or pages (n / 4096) []) (n % 4096) 0) (range_with_len 0 (4096 * length pages))

-- the generation of a number; 1 if it is only marked, and 0 if it is neither
abbrev pub generation : List ℕ → ℕ → ℕ
generation generations n = get_or generations n 0

-- the links of a number with a generation are known and marked, and its parents have lower generations
pub record AreGenerations (facts : Facts) (generations : List ℕ) : Type 0 where
  pub known : (n : ℕ) → 1 < generation generations n → is_some (known facts.links n) ≡ true
  pub marked : (n m : ℕ) → 1 < generation generations n → Contains (linked facts.links n) m → 0 < generation generations m
  pub above : (n p : ℕ) → 1 < generation generations n → Contains (goes_on Parents facts n) p → 1 < generation generations p
  pub lower : (n p : ℕ) → 1 < generation generations n → Contains (goes_on Parents facts n) p → generation generations p < generation generations n

-- some numbers that had no generation are marked
abbrev pub IsMarked : List ℕ → List ℕ → Type 0
IsMarked old new = (n : ℕ) → (generation new n ≡ generation old n) ⊎ ((generation old n ≡ 0) × (generation new n ≡ 1))
