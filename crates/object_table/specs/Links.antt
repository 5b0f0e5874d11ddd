-- The known links of objects, by names (own). They are kept by numbers, which are not visible from outside.
use Rattle.std.specs.Prelude.{◌≡◌, ℕ, Bool, true, false, List, [], ◌∷◌, Option, None, Some, Contains, nat_eq, refl, if◌then◌else◌}
use Rattle.std.specs.Coded.{Coded, code_by, coded×, coded_ℕ, coded_list}
use Rattle.std.specs.FinMap.{FinMap, code, from_entries, get}
use Rattle.std.specs.Option.{option_map, option_map_or}
use Rattle.git_name.specs.Name.{name_cmp}
use Rattle.git_name.specs.declared.kind.Kind.{Kind}
use Rattle.git_name.specs.declared.kind.Kind.TheVariants.{Blob, Tree, Commit, Tag}
use Rattle.number_links.specs.Facts.{Facts, Learned, goes_from, learned, learned_as}
use Rattle.number_links.specs.Numbers.{Pages, has}
use Rattle.number_links.specs.declared.along.Along.{Along}
use Rattle.number_links.specs.declared.along.Along.TheVariants.{Links, Parents}
use Rattle.object_table.specs.Chosen.{chosen_in}
use Rattle.object_table.specs.Rows.{IsUsed, Rows, row_in}
use Rattle.object_table.specs.declared.row.Row.{Row}

-- the name with a number, and its row
abbrev pub numbered : Rows → ℕ → Option (List ℕ × Row)
numbered [] n = None
numbered (e ∷ rows) n = if nat_eq e.1.number n then Some e else numbered rows n

-- the name alone
abbrev pub numbered_name : Rows → ℕ → List ℕ
numbered_name rows n = option_map_or (λ e. e.0) (numbered rows n) []

-- objects of this kind have no links
abbrev pub leads_nowhere : Kind → Bool
leads_nowhere Blob = true
leads_nowhere Tree = false
leads_nowhere Commit = false
leads_nowhere Tag = false

-- whether a number belongs to an object that has no links
abbrev pub rests_in : Rows → ℕ → Bool
rests_in rows n = option_map_or (λ e. leads_nowhere e.1.kind) (numbered rows n) false

-- whether the number of a name is among these; a name without a number is not
abbrev pub is_among : Rows → Pages → List ℕ → Bool
is_among rows numbers name = option_map_or (λ row. has numbers row.number) (row_in rows name) false

-- the known links and times of objects, by name
abbrev pub NamedLinks : Type 0
NamedLinks = FinMap name_cmp (Learned (List ℕ))

-- what is known about the object of a row
abbrev pub led_from : Rows → Facts → Row → Option (Learned (List ℕ))
led_from rows links row = option_map (learned_as (numbered_name rows)) (learned links row.number)

abbrev pub named_links : Rows → Facts → NamedLinks
named_links rows links = from_entries {R = name_cmp} (chosen_in (λ _ row. led_from rows links row) rows)

-- only numbers in use have known links, and these are numbers in use
pub record AreLinks (rows : Rows) (links : Facts) : Type 0 where
  pub own : (n : ℕ) (one : Learned ℕ) → learned links n ≡ Some one → IsUsed rows n
  pub used : (n : ℕ) (one : Learned ℕ) (m : ℕ) → learned links n ≡ Some one → Contains one.links m → IsUsed rows m

-- each name that was there keeps its number, and a new name has a number that was not in use
pub record KeepsNumbers (old new : Rows) : Type 0 where
  pub kept : (q : List ℕ) (row : Row) → row_in old q ≡ Some row → (now : Row) × (row_in new q ≡ Some now) × (now.number ≡ row.number)
  pub fresh : (q : List ℕ) (row : Row) → row_in old q ≡ None → row_in new q ≡ Some row → IsUsed old row.number → ⊥

-- whatever is known now was known before
abbrev pub KnowsNoMore : NamedLinks → NamedLinks → Type 0
KnowsNoMore old new = (name : List ℕ) (one : Learned (List ℕ)) → get new name ≡ Some one → get old name ≡ Some one

-- what a walk follows from a name; nothing if its links are not known
abbrev pub next_along : Along → NamedLinks → List ℕ → List (List ℕ)
next_along along links name = option_map_or (λ one. goes_from along one.links one.time) (get links name) []

-- the links of a name
abbrev pub next_named : NamedLinks → List ℕ → List (List ℕ)
next_named links = next_along Links links

-- the parents of a commit
abbrev pub parents_named : NamedLinks → List ℕ → List (List ℕ)
parents_named links = next_along Parents links

-- links have a code, so that they can be a part of a model's value
abbrev pub coded_learned : Coded (Learned (List ℕ))
coded_learned = code_by (List (List ℕ) × ℕ) (coded× (coded_list (coded_list coded_ℕ)) coded_ℕ) (λ one. (one.links, one.time)) (λ p. record { links = p.0; time = p.1 }) (λ _. refl)

abbrev pub links_code : Coded NamedLinks
links_code = code (coded_list coded_ℕ) coded_learned
