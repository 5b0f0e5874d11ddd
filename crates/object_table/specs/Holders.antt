-- Who holds a name (own): each ledger that has a word of it, whether the object is visible there, staged, or both.
use Rattle.std.specs.Prelude.{◌≡◌, Bool, ℕ, List, count_by, nat_lt, Some, refl}
use Rattle.std.specs.Coded.{Coded, code_by, coded×}
use Rattle.std.specs.FinMap.{FinMap, contains_key, get, values}
use Rattle.git_name.specs.Name.{name_cmp}
use Rattle.object_table.specs.Ledgers.{AllWords, ledgers_code}
use Rattle.object_table.specs.Links.{NamedLinks, links_code}
use Rattle.object_table.specs.Rows.{Rows, TableState, count_in, table_code}
use Rattle.object_table.specs.Views.{IsOwn, Sets, all_words}

-- how many ledgers have a word of the name
unfoldable pub holders_of : AllWords → List ℕ → ℕ
holders_of ledgers name = count_by (λ words. contains_key words name) (values ledgers)

-- whether any ledger has a word of the name
abbrev pub is_held_in : AllWords → List ℕ → Bool
is_held_in ledgers name = nat_lt 0 (holders_of ledgers name)

-- the rows count the ledgers that hold their names, and each tenant's sets have only numbers of these rows
pub record AreHeld (rows : Rows) (tenants : FinMap name_cmp Sets) : Type 0 where
  pub counted : (name : List ℕ) → count_in rows name ≡ holders_of (all_words rows tenants) name
  pub own : (tenant : List ℕ) (sets : Sets) → get tenants tenant ≡ Some sets → IsOwn rows sets

-- the ledgers, the catalogue, and the known links of objects
pub record HoldingsState : Type 0 where
  pub ledgers : AllWords
  pub catalogue : TableState
  pub links : NamedLinks

-- they have a code, so that they can be a model's value
abbrev pub holdings_code : Coded HoldingsState
holdings_code =
    code_by (AllWords × (TableState × NamedLinks)) (coded× ledgers_code (coded× table_code links_code))
    (λ s. (s.ledgers, (s.catalogue, s.links))) (λ p. record { ledgers = p.0; catalogue = p.1.0; links = p.1.1 }) (λ _. refl)
