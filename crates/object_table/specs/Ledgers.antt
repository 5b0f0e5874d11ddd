-- The ledgers of all tenants (own): a tenant's calls change only its own.
use Rattle.std.specs.Prelude.{List, ℕ, Option, if◌then◌else◌}
use Rattle.std.specs.Coded.{Coded, coded_ℕ, coded_list}
use Rattle.std.specs.FinMap.{FinMap, code, contains_key, empty, get, insert}
use Rattle.std.specs.Option.{unwrap_or}
use Rattle.git_name.specs.Name.{name_cmp}
use Rattle.object_table.specs.declared.word.Word.{Word}
use Rattle.object_table.specs.Words.{Words, words_code}

-- each tenant's ledger, under the tenant's name
abbrev pub AllWords : Type 0
AllWords = FinMap name_cmp Words

-- a tenant's ledger; an unknown tenant's has no words
abbrev pub ledger_at : AllWords → List ℕ → Words
ledger_at ledgers tenant = unwrap_or (get ledgers tenant) empty

-- what a tenant's ledger says about a name
abbrev pub word_at : AllWords → List ℕ → List ℕ → Option Word
word_at ledgers tenant name = get (ledger_at ledgers tenant) name

-- with an empty ledger added for a tenant, unless it has one already
abbrev pub with_ledger : AllWords → List ℕ → AllWords
with_ledger ledgers tenant = if contains_key ledgers tenant then ledgers else insert ledgers tenant empty

-- with one tenant's ledger changed; for an unknown tenant nothing changes
abbrev pub at_ledger : AllWords → List ℕ → (Words → Words) → AllWords
at_ledger ledgers tenant change = if contains_key ledgers tenant then insert ledgers tenant (change (ledger_at ledgers tenant)) else ledgers

-- ledgers have a code, so that they can be a model's value
abbrev pub ledgers_code : Coded AllWords
ledgers_code = code (coded_list coded_ℕ) words_code
