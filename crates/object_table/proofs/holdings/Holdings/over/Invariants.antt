use Rattle.std.proofs.Common.{◌≡◌, List, ℕ, None, take}
use Rattle.std.specs.FinMap.{empty, get}
use Rattle.std.specs.List.{IsDistinct}
use Rattle.git_name.specs.Same.{is_listed, same_name}
use Rattle.object_table.specs.Rows.{places_of}
use Rattle.object_table.proofs.holdings.Holdings.over.Given as goal

-- the names so far
abbrev pub invariant-loop-name : goal.invariant-loop-name
invariant-loop-name l = record {
  listed : (q : List ℕ) → is_listed (places_of l.holdings.catalogue).names q ≡ is_listed (take l.name-index l.names) q;
  names : IsDistinct same_name l.names → (places_of l.holdings.catalogue).names ≡ take l.name-index l.names;
  ledgers : l.holdings.ledgers ≡ empty;
  place : (places_of l.holdings.catalogue).place ≡ 0;
  links : (q : List ℕ) → get l.holdings.links q ≡ None;
}
