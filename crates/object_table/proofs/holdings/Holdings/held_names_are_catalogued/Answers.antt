use Rattle.std.proofs.Common.{◌≡◌, ◌<◌, true, List, ℕ, sym, subst}
use Rattle.std.proofs.lemmas.Bool.{ltb-true}
use Rattle.git_name.specs.Same.{is_listed}
use Rattle.object_table.specs.Holders.{HoldingsState, holders_of, is_held_in}
use Rattle.object_table.specs.Rows.{places_of}
use Rattle.object_table.specs.Views.{all_words}
use Rattle.object_table.proofs.HeldLemmas.{counted_listed}
use Rattle.object_table.proofs.holdings.Holdings.held_names_are_catalogued.Goals as goal

pub returns : goal.returns
returns c =
    subst (λ (s : HoldingsState). (name : List ℕ) → is_held_in s.ledgers name ≡ true → is_listed (places_of s.catalogue).names name ≡ true) c.self.view_is
    (λ name held. counted_listed c.self.inside.table.entries name (subst (λ n. 0 < n) (sym (c.self.invariant.0.counted name)) (ltb-true 0 (holders_of (all_words c.self.inside.table.entries c.self.inside.ledgers) name) held)))
