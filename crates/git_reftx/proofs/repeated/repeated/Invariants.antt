use Rattle.std.proofs.Common.{◌≡◌, ℕ, List, [], drop}
use Rattle.std.specs.BTreeSet.{contains}
use Rattle.std.specs.List.{list_any}
use Rattle.std.specs.Str.{bytes_eq}
use Rattle.git_name.specs.Name.{name_cmp}
use Rattle.git_reftx.specs.Transaction.{repeated_ref}
use Rattle.git_reftx.proofs.repeated.repeated.Given as goal

-- the names of the earlier commands are those in the set
abbrev pub invariant-loop-order : goal.invariant-loop-order
invariant-loop-order l = record {
  earlier : List (List ℕ);
  left : repeated_ref [] l.orders ≡ repeated_ref earlier (drop l.order-index l.orders);
  met : (name : List ℕ) → contains name_cmp l.met name ≡ list_any (bytes_eq name) earlier;
}
