-- A tree of tenants' ledgers, seen as the finite map that it is.
use Rattle.std.proofs.Common.{◌≡◌, ℕ, cond, List, None, Some, ap, ◌∙◌, is_some}
use Rattle.std.specs.Option.{unwrap_or}
use Rattle.std.specs.FinMap.{empty, get, get-empty, insert}
use Rattle.git_name.specs.Name.{name_cmp}
use Rattle.object_table.specs.Words.{Words}
use Rattle.object_table.specs.Ledgers.{AllWords, at_ledger, word_at}

-- a tenant that is there
pub changed_at : (ledgers : AllWords) (t : List ℕ) (own : Words) (change : Words → Words) → get ledgers t ≡ Some own → at_ledger ledgers t change ≡ insert ledgers t (change own)
changed_at ledgers t own change here = ap (λ o. cond (is_some o) (insert ledgers t (change (unwrap_or o empty))) ledgers) here

-- one that is not
pub unchanged_at : (ledgers : AllWords) (t : List ℕ) (change : Words → Words) → get ledgers t ≡ None → at_ledger ledgers t change ≡ ledgers
unchanged_at ledgers t change none = ap (λ o. cond (is_some o) (insert ledgers t (change (unwrap_or o empty))) ledgers) none

-- the word of a tenant whose ledger is there, and of one that has none
pub known_word : (ledgers : AllWords) (t name : List ℕ) (own : Words) → get ledgers t ≡ Some own → word_at ledgers t name ≡ get own name
known_word ledgers t name own here = ap (λ o. get (unwrap_or o empty) name) here

pub no_word : (ledgers : AllWords) (t name : List ℕ) → get ledgers t ≡ None → word_at ledgers t name ≡ None
no_word ledgers t name none = ap (λ o. get (unwrap_or o empty) name) none ∙ get-empty name_cmp name
